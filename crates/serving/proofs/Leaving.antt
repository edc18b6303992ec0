-- Files of a spool that were left are tried again.
use Rattle.std.proofs.Common.{◌≡◌, ◌≤◌, ◌<◌, ◌+◌, ◌-◌, ℕ, Bool, true, false, not, ◌||◌, List, [], ◌∷◌, length, nat_le, is_none, refl, subst, arith}
use Rattle.std.proofs.Math.Nat.{min-eq_left}
use Rattle.std.proofs.lemmas.Bool.{and_parts, leb-false}
use Rattle.std.proofs.lemmas.List.Elements.{All-head, All-tail}
use Rattle.std.specs.List.{All}
use Rattle.serving.specs.declared.next_name.Look.{Look}
use Rattle.serving.specs.NextNames.{CouldTryLeft, LeftFilesAreTried, tries_left, looks_after, try_none}

is_no : (b : Bool) → not b ≡ true → b ≡ false
is_no false h = refl
is_no true h = cc

right_of : (a b : Bool) → (a || b) ≡ false → b ≡ false
right_of true b h = cc
right_of false b h = h

-- one could be tried, and wasn't: so new ones had their turn
early : (looks : ℕ) (look : Look) → CouldTryLeft look → tries_left looks look ≡ false → looks < 1000
early looks look could none =
    let late : (is_none look.new || nat_le 1000 looks) ≡ false = rw (could.0, could.1) at none in
    leb-false 1000 looks (right_of (is_none look.new) (nat_le 1000 looks) late)

one_more : (looks : ℕ) (look : Look) → tries_left looks look ≡ false → looks < 1000 → looks_after looks look ≡ looks + 1
one_more looks look none few = rw none (min-eq_left (omega (arith, few)))

are_few : (looks : ℕ) (more : List Look) → All CouldTryLeft more → try_none looks more ≡ true → length more ≤ 1000 - looks
are_few looks [] could none = omega arith
are_few looks (look ∷ more) could none =
    let parts = and_parts (not (tries_left looks look)) (try_none (looks_after looks look) more) none in
    let without = is_no (tries_left looks look) parts.0 in
    let few = early looks look (All-head CouldTryLeft look more could) without in
    let rest : try_none (looks + 1) more ≡ true = subst (λ n. try_none n more ≡ true) (one_more looks look without few) parts.1 in
    let less = are_few (looks + 1) more (All-tail CouldTryLeft look more could) rest in
    omega (arith, few, less)

pub are_tried : LeftFilesAreTried
are_tried looks more could none = omega (arith, are_few looks more could none)
