use Rattle.std.proofs.Common.{◌≡◌, ◌-◌, length}
use Rattle.policy.specs.declared.key.Key.{Key}
use Rattle.policy.specs.Index.{has_key, place_from}
use Rattle.policy.specs.Lane.{is_about_action}
use Rattle.policy.proofs.Walking.{Walks}
use Rattle.policy.proofs.walk.first_of_key.Given as goal

abbrev pub invariant-loop-rule : goal.invariant-loop-rule
invariant-loop-rule l = (k : Key) → l.start ≡ place_from (has_key k) 0 l.rules → Walks (has_key k) (is_about_action l.action l.class) l.rules l.place

abbrev pub decreases-loop-rule : goal.decreases-loop-rule
decreases-loop-rule l = length l.rules - l.place
