-- No octet of an escaped text begins or ends a tag or the value of an attribute.
use Rattle.std.proofs.Common.{◌≡◌, ℕ, ◌==◌, Bool, true, false, List, [], ◌∷◌, ◌++◌, codes, refl, ◌∙◌}
use Rattle.std.proofs.lemmas.List.Folds.{list_any-append}
use Rattle.std.specs.Prelude.{if◌then◌else◌}
use Rattle.std.specs.List.{list_any}
use Rattle.review.specs.Escape.{NoMarkup, escape, escaped, is_markup}

-- by the four tests
by_tests : (b : ℕ) (t u v w x : Bool) → (b == 60) ≡ u → (b == 62) ≡ v → (b == 34) ≡ w → (b == 39) ≡ x
    → list_any is_markup (if t then codes "&amp;" else if u then codes "&lt;" else if v then codes "&gt;" else if w then codes "&quot;" else if x then codes "&#39;" else b ∷ []) ≡ false
by_tests b true u v w x e f g h = refl
by_tests b false true v w x e f g h = refl
by_tests b false false true w x e f g h = refl
by_tests b false false false true x e f g h = refl
by_tests b false false false false true e f g h = refl
by_tests b false false false false false e f g h = rw (e, f, g, h) refl

either : (xs ys : List ℕ) → list_any is_markup xs ≡ false → list_any is_markup ys ≡ false → list_any is_markup (xs ++ ys) ≡ false
either xs ys e f = list_any-append is_markup xs ys ∙ rw (e, f) refl

pub no_markup : NoMarkup
no_markup [] = refl
no_markup (b ∷ bs) = either (escape b) (escaped bs) (by_tests b (b == 38) (b == 60) (b == 62) (b == 34) (b == 39) refl refl refl refl) (no_markup bs)
