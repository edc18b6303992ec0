use Rattle.std.proofs.Common.{rules}
use Rattle.arrayvec.proofs.ArrayVecLemmas.{filter-from_retain}
use Rattle.serving.proofs.newcomers.Newcomers.forget.Goals as goal

pub returns-clause-newcomers : goal.returns-clause-newcomers
returns-clause-newcomers c = filter-from_retain _ _ _ (λ x b f' y k. search rules) _ _ c.retain.ensures.filtered
