-- Whether octets make a line whole, by what a cutter shows.
use Rattle.std.proofs.Common.{◌≡◌, ℕ, Bool, true, false, cond, List, [], ◌∷◌, drop, length, refl, sym, ◌∙◌, ap}
use Rattle.std.proofs.Math.Seq.{drop-length}
use Rattle.popline.specs.Cutting.{Cut, cut_of, Held, fed, whole_line, has_newline}
use Rattle.office.specs.Kept.{Kept, line_after}

pub shown_whole : (b : Bool) (x y : Cut) → x ∷ [] ≡ cond b (y ∷ []) [] → b ≡ true
shown_whole true x y e = refl
shown_whole false x y e = cc

pub shown_line : (b : Bool) (x y : Cut) → b ≡ true → x ∷ [] ≡ cond b (y ∷ []) [] → x ≡ y
shown_line true x y t e = cc
shown_line false x y t e = cc

module _ (k : Kept) (w : Held) (p : List ℕ) (x : Cut) (e : w ≡ fed k.held p) (there : x ∷ [] ≡ whole_line w) where
  whole : w.whole ≡ true
  whole = shown_whole w.whole x (cut_of w.octets) there

  pub has_line : has_newline p ≡ true
  has_line = sym (ap (λ (v : Held). v.whole) e) ∙ whole

  pub is_line : x ≡ line_after k p
  is_line = shown_line w.whole x (cut_of w.octets) whole there ∙ ap (λ (v : Held). cut_of v.octets) e

pub none_shown : (b : Bool) (y : Cut) → [] ≡ cond b (y ∷ []) [] → b ≡ false
none_shown true y e = cc
none_shown false y e = refl

-- octets without a whole line
module _ (k : Kept) (w : Held) (p : List ℕ) (e : w ≡ fed k.held p) (none : [] ≡ whole_line w) where
  pub none_whole : w.whole ≡ false
  none_whole = none_shown w.whole (cut_of w.octets) none

  pub no_line : has_newline p ≡ false
  no_line = sym (ap (λ (v : Held). v.whole) e) ∙ none_whole

-- nothing is left if all was taken
pub none_left : (n : ℕ) (p : List ℕ) → n ≡ length p → drop n p ≡ []
none_left n p e = ap (λ m. drop m p) e ∙ drop-length p
