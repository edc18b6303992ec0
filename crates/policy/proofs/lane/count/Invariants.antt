use Rattle.std.proofs.Common.{◌≡◌, ◌≤◌, length, take}
use Rattle.std.specs.Prelude.{filter}
use Rattle.policy.specs.Lane.{is_about}
use Rattle.policy.proofs.lane.count.Given as goal

abbrev pub invariant-loop-rule : goal.invariant-loop-rule
invariant-loop-rule l = record {
  bound : l.count ≤ l.rule-index;
  counted : l.count ≡ length (filter (is_about l.groups l.clerk l.maildrop) (take l.rule-index l.rules));
}
