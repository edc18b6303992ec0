use Rattle.std.proofs.Common.{◌≡◌, ◌≤◌, List, filter, length, map, take}
use Rattle.policy.specs.declared.rule.Rule.{Rule}
use Rattle.policy.specs.Index.{IsIndexOf}
use Rattle.policy.specs.Lane.{group_start}
use Rattle.policy.specs.Policy.{Group, has_member}
use Rattle.policy.proofs.group_starts.group_starts_of.Given as goal

abbrev pub invariant-loop-group : goal.invariant-loop-group
invariant-loop-group l = record {
  room : length l.starts ≡ 100;
  bound : l.len ≤ l.group-index;
  are : (rules : List Rule) → IsIndexOf rules l.index
      → take l.len l.starts ≡ map (λ (g : Group). group_start rules l.maildrop g.name) (filter (λ (g : Group). has_member g l.clerk) (take l.group-index l.groups));
}
