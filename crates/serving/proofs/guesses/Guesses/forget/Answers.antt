use Rattle.std.proofs.Common.{rules}
use Rattle.arrayvec.proofs.ArrayVecLemmas.{filter-from_retain}
use Rattle.serving.proofs.guesses.Guesses.forget.Goals as goal

pub returns-clause-refusals : goal.returns-clause-refusals
returns-clause-refusals c = filter-from_retain _ _ _ (λ x b f' y k. search rules) _ _ c.retain.ensures.filtered
