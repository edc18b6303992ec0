use Rattle.std.proofs.Common.{arith, rules}
use Rattle.std.proofs.lemmas.Grind.{common_steps}
use Rattle.std.proofs.lemmas.Fn.{filter_same}
use Rattle.office.specs.Trace.{is_open}
use Rattle.converse.proofs.replay.tell_ended.Goals as goal

pub returns-clause-kept : goal.returns-clause-kept
returns-clause-kept g c = λ T stands. filter_same _ (is_open T) _ (λ x b f' k. search rules) _ _ c.retain.ensures.filtered

pub loop-number-preserved : goal.loop-number-preserved
loop-number-preserved g c = λ T st. grind (arith, common_steps, c.loop-number.invariant T st, c.in_ok-tell_if_ended.ensures T st)

pub returns-clause-told : goal.returns-clause-told
returns-clause-told g c = λ T st. grind (arith, common_steps, c.loop-number.invariant T st)
