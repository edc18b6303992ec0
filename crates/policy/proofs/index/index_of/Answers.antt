use Rattle.std.proofs.Common.{◌-◌, ◌∙◌, arith, sym}
use Rattle.policy.proofs.Places.{lists_none, lists_step}
use Rattle.policy.proofs.index.index_of.Goals as goal

pub loop-i-init : goal.loop-i-init
loop-i-init c = lists_none c.args.rules.now c.new-first.result c.in_ok-next.next.items c.new-first.ensures.empty (sym c.in_ok-next.next.ok.0 ∙ c.in_ok-next.ensures.len)

pub loop-i-preserved : goal.loop-i-preserved
loop-i-preserved c =
    lists_step (c.loop-i.i - 1) c.loop-i.i c.index-rules-i.result c.args.rules.now c.loop-i.first c.insert.new.self c.loop-i.next.items c.key_of.result c.in_ok-later.later c.unwrap_or.result
    (omega arith) (omega arith) c.key_of.ensures c.index-rules-i.is c.in_ok-later.ensures.old c.unwrap_or.ensures c.loop-i.invariant c.in_ok-later.ensures.updates
