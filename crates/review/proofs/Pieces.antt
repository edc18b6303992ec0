-- Texts that are put together piece by piece.
use Rattle.std.proofs.Common.{◌≡◌, ℕ, List, ◌++◌, append_assoc, ap, ◌∙◌}

pub three : (before first second a b c : List ℕ) → first ≡ before ++ a → second ≡ first ++ b → second ++ c ≡ before ++ ((a ++ b) ++ c)
three before first second a b c e f = ap (λ (t : List ℕ). t ++ c) (f ∙ ap (λ (t : List ℕ). t ++ b) e) ∙ simp append_assoc

pub four : (before first second third a b c d : List ℕ) → first ≡ before ++ a → second ≡ first ++ b → third ≡ second ++ c → third ++ d ≡ before ++ (((a ++ b) ++ c) ++ d)
four before first second third a b c d e f g = ap (λ (t : List ℕ). t ++ d) (g ∙ ap (λ (t : List ℕ). t ++ c) (f ∙ ap (λ (t : List ℕ). t ++ b) e)) ∙ simp append_assoc

-- one more piece is appended
pub more : {now after : List ℕ} (before a b : List ℕ) → now ≡ before ++ a → after ≡ now ++ b → after ≡ before ++ (a ++ b)
more {now} {after} before a b h e = e ∙ ap (λ (t : List ℕ). t ++ b) h ∙ append_assoc before a b

-- what stands behind the last piece
pub last : {now : List ℕ} (before a b : List ℕ) → now ≡ before ++ a → now ++ b ≡ before ++ (a ++ b)
last {now} before a b h = ap (λ (t : List ℕ). t ++ b) h ∙ append_assoc before a b
