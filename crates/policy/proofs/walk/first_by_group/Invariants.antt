use Rattle.std.proofs.Common.{◌≡◌, ℕ, ◌&&◌, List, map, take}
use Rattle.std.specs.List.{list_any}
use Rattle.policy.specs.Index.{place_from}
use Rattle.policy.specs.Lane.{group_start, is_about_action, is_about_group}
use Rattle.policy.specs.Policy.{Group}
use Rattle.policy.proofs.walk.first_by_group.Given as goal

abbrev pub invariant-loop-start : goal.invariant-loop-start
invariant-loop-start l = (own : List Group) (maildrop : List ℕ) → l.starts ≡ map (λ (g : Group). group_start l.rules maildrop g.name) own
    → l.place ≡ place_from (λ r. list_any (λ (g : Group). is_about_group g.name maildrop r) (take l.start-index own) && is_about_action l.action l.class r) 0 l.rules
