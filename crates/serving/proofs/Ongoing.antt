-- Exchanges that go on.
use Rattle.std.proofs.Common.{◌≡◌, ℕ, zero, suc, ◌+◌, ◌-◌, ◌<◌, ◌≤◌, nat_le, false, List, [], ◌∷◌, length, take, set, refl, sym, ◌∙◌, ap, arith, subst}
use Rattle.std.specs.List.{All, remove}
use Rattle.std.proofs.lemmas.List.{take-set, length-set, get_or-set_same}
use Rattle.std.proofs.lemmas.List.Elements.{All-nil, All-more}
use Rattle.serving.specs.declared.requests.Exchange.{Exchange}
use Rattle.serving.specs.HttpTurns.{is_late_at, GoesOn, GoesOnAt, TheseGoOn}

-- its link was accepted when it was
pub still_timely : (now : ℕ) (e e2 : Exchange) → e2.since ≡ e.since → is_late_at now e ≡ false → is_late_at now e2 ≡ false
still_timely now e e2 same late = ap (λ n. nat_le 60 (now - n)) same ∙ late

take_removed : (xs : List Exchange) (i : ℕ) → take i (remove xs i) ≡ take i xs
take_removed [] zero = refl
take_removed [] (suc i) = refl
take_removed (x ∷ xs) zero = refl
take_removed (x ∷ xs) (suc i) = ap (λ ys. x ∷ ys) (take_removed xs i)

take_all : (xs : List Exchange) (n : ℕ) → length xs ≤ n → take n xs ≡ xs
take_all [] zero h = refl
take_all [] (suc n) h = refl
take_all (x ∷ xs) zero h = absurd (omega (arith, h))
take_all (x ∷ xs) (suc n) h = ap (λ ys. x ∷ ys) (take_all xs n (omega (arith, h)))

pub front_stays : (xs : List Exchange) (i : ℕ) (e : Exchange) → take i (set xs i e) ≡ take i xs
front_stays xs i e = take-set xs i e

pub front_left : (xs left : List Exchange) (i : ℕ) (e : Exchange) → left ≡ remove (set xs i e) i → take i left ≡ take i xs
front_left xs left i e is = ap (take i) is ∙ (take_removed (set xs i e) i ∙ take-set xs i e)

pub goes_on_there : (now : ℕ) (xs : List Exchange) (i : ℕ) (e : Exchange) → i < length xs → GoesOn now e → GoesOnAt now (set xs i e) i
goes_on_there now xs i e h g = (omega (arith, h, length-set xs i e), λ d. subst (GoesOn now) (sym (get_or-set_same xs i e d h)) g)

-- those before a place go on
pub none_yet : (now : ℕ) (xs : List Exchange) → All (GoesOn now) (take 0 xs)
none_yet now xs = All-nil (GoesOn now)

pub one_more : (now : ℕ) (xs ys : List Exchange) (i : ℕ) → take i ys ≡ take i xs → GoesOnAt now ys i → All (GoesOn now) (take i xs) → All (GoesOn now) (take (i + 1) ys)
one_more now xs [] i same at a = let h : i < 0 = at.0 in absurd (omega (arith, h))
one_more now xs (y ∷ ys) i same at a = All-more (GoesOn now) (y ∷ ys) i y at.0 (subst (All (GoesOn now)) (sym same) a) (at.1 y)

pub as_many : (now : ℕ) (xs ys : List Exchange) (i : ℕ) → take i ys ≡ take i xs → All (GoesOn now) (take i xs) → All (GoesOn now) (take i ys)
as_many now xs ys i same a = subst (All (GoesOn now)) (sym same) a

pub all_go_on : (now : ℕ) (xs : List Exchange) (i : ℕ) → length xs ≤ i → All (GoesOn now) (take i xs) → TheseGoOn now xs
all_go_on now xs i h a = subst (All (GoesOn now)) (take_all xs i h) a
