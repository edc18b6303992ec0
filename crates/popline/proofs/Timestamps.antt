-- Timestamps of different greetings differ.
use Rattle.std.proofs.Common.{◌≡◌, ℕ, ◌^◌, ◌<◌, ◌≤◌, List, [], ◌∷◌, ◌++◌, true, false, ◌==◌, refl, sym, ◌∙◌, ap, arith, ⊎_elim, append_assoc, codes, lit≤}
use Rattle.std.proofs.lemmas.Bool.{cases_Bool, eqb-true, eq-eqb}
use Rattle.std.proofs.lemmas.Fmt.{decimal_is_IsNumeral, decimal_injective}
use Rattle.std.specs.Str.Parse.{AllDigits}
use Rattle.std.specs.Char.{digit_value}
use Rattle.std.specs.Fmt.{decimal}
use Rattle.std.specs.List.{before_first, after_first}
use Rattle.popline.specs.Replies.{timestamp}
use Rattle.popline.specs.ReplyForm.{TimestampsDiffer}
use Rattle.popline.proofs.Solid.{Without, before_at, after_at}

-- an octet that is no digit isn't among digits
digits_without : (s : ℕ) → 10 ≤ digit_value s → (ds : List ℕ) → AllDigits 10 ds → Without (λ b. b == s) ds
digits_without s h [] all = tt
digits_without s h (d ∷ ds) (digit, all) = (differs_from, digits_without s h ds all)
  where
    differs_from : (d == s) ≡ false
    differs_from = ⊎_elim
        (λ (same : (d == s) ≡ true).
        let at : d ≡ s = eqb-true d s same in
        let value : digit_value d ≡ digit_value s = ap digit_value at in absurd (omega arith))
        (λ (other : (d == s) ≡ false). other)
        (cases_Bool (d == s))

number_without : (s n : ℕ) → 10 ≤ digit_value s → n < 2 ^ 64 → Without (λ b. b == s) (decimal n)
number_without s n h lt = digits_without s h (decimal n) (decimal_is_IsNumeral n lt).0.1

-- a timestamp, part by part
parts : (number boot : ℕ) (host : List ℕ) → timestamp number boot host ≡ 60 ∷ (decimal number ++ 46 ∷ (decimal boot ++ 64 ∷ (host ++ codes ">")))
parts number boot host = simp append_assoc

-- what stands before an octet that a number hasn't
same_front : (s m n : ℕ) (x y : List ℕ) → 10 ≤ digit_value s → m < 2 ^ 64 → n < 2 ^ 64 → decimal m ++ s ∷ x ≡ decimal n ++ s ∷ y → (m ≡ n) × (x ≡ y)
same_front s m n x y h f g e =
    let p = λ (b : ℕ). b == s in
    let a = number_without s m h f in
    let b = number_without s n h g in
    let front : decimal m ≡ decimal n = sym (before_at p (decimal m) s x a (eq-eqb s s refl)) ∙ (ap (before_first p) e ∙ before_at p (decimal n) s y b (eq-eqb s s refl)) in
    let back : x ≡ y = sym (after_at p (decimal m) s x a (eq-eqb s s refl)) ∙ (ap (after_first p) e ∙ after_at p (decimal n) s y b (eq-eqb s s refl)) in
    (decimal_injective m n f g front, back)

pub timestamps_differ : TimestampsDiffer
timestamps_differ number boot host number' boot' host' a b c d e =
    let whole : 60 ∷ (decimal number ++ 46 ∷ (decimal boot ++ 64 ∷ (host ++ codes ">"))) ≡ 60 ∷ (decimal number' ++ 46 ∷ (decimal boot' ++ 64 ∷ (host' ++ codes ">"))) =
    sym (parts number boot host) ∙ (e ∙ parts number' boot' host') in
    let tails : decimal number ++ 46 ∷ (decimal boot ++ 64 ∷ (host ++ codes ">")) ≡ decimal number' ++ 46 ∷ (decimal boot' ++ 64 ∷ (host' ++ codes ">")) = cc in
    let first = same_front 46 number number' _ _ (lit≤ tt) a c tails in
    let second = same_front 64 boot boot' _ _ (lit≤ tt) b d first.1 in
    (first.0, second.0)
