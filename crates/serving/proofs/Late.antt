-- Clients that are late, of those that haven't logged in.
use Rattle.std.proofs.Common.{◌≡◌, ◌≤◌, ℕ, ◌-◌, ◌==◌, nat_le, Bool, true, false, not, ◌&&◌, List, [], ◌∷◌, ◌++◌, refl, sym, ◌∙◌, ap, arith, Some, None, Option, ⊎_elim, ◌⊎◌}
use Rattle.std.proofs.Common.{inl, inr, subst, true≢false, eqb-true, eq-eqb, leb-true}
use Rattle.std.proofs.lemmas.Bool.{cases_Bool}
use Rattle.serving.specs.declared.newcomers.Newcomer.{Newcomer}
use Rattle.serving.specs.Newcomers.{newcomer, others, is_late_by, AreNotedNow}
use Rattle.serving.specs.Works.{is_late, IsLateGone}
use Rattle.serving.specs.Parts.{AreNoMoreLate}
use Rattle.office.specs.Events.{Event, EventTag}
use Rattle.office.specs.Events as event

-- ---- who is found

pub found_here : (c : ℕ) (x : Newcomer) (xs : List Newcomer) → (x.connection == c) ≡ true → newcomer c (x ∷ xs) ≡ Some x
found_here c x xs e = rw e refl

pub found_later : (c : ℕ) (x : Newcomer) (xs : List Newcomer) → (x.connection == c) ≡ false → newcomer c (x ∷ xs) ≡ newcomer c xs
found_later c x xs e = rw e refl

pub others_gone : (d : ℕ) (x : Newcomer) (xs : List Newcomer) → (x.connection == d) ≡ true → others d (x ∷ xs) ≡ others d xs
others_gone d x xs e = rw e refl

pub others_kept : (d : ℕ) (x : Newcomer) (xs : List Newcomer) → (x.connection == d) ≡ false → others d (x ∷ xs) ≡ x ∷ others d xs
others_kept d x xs e = rw e refl

none_of : (d : ℕ) (xs : List Newcomer) → newcomer d (others d xs) ≡ None
none_of d [] = refl
none_of d (x ∷ xs) =
    ⊎_elim
    (λ (e : (x.connection == d) ≡ true). ap (newcomer d) (others_gone d x xs e) ∙ none_of d xs)
    (λ (e : (x.connection == d) ≡ false). ap (newcomer d) (others_kept d x xs e) ∙ (found_later d x (others d xs) e ∙ none_of d xs))
    (cases_Bool (x.connection == d))

same_number : (a b c : ℕ) → (a == b) ≡ true → (a == c) ≡ true → b ≡ c
same_number a b c e f = sym (eqb-true a b e) ∙ eqb-true a c f

pub others_of : (c d : ℕ) (xs : List Newcomer) → (c ≡ d → ⊥) → newcomer c (others d xs) ≡ newcomer c xs
others_of c d [] ne = refl
others_of c d (x ∷ xs) ne =
    ⊎_elim
    (λ (e : (x.connection == d) ≡ true).
    ⊎_elim
    (λ (f : (x.connection == c) ≡ true). absurd (ne (same_number x.connection c d f e)))
    (λ (f : (x.connection == c) ≡ false). ap (newcomer c) (others_gone d x xs e) ∙ (others_of c d xs ne ∙ sym (found_later c x xs f)))
    (cases_Bool (x.connection == c)))
    (λ (e : (x.connection == d) ≡ false).
    ⊎_elim
    (λ (f : (x.connection == c) ≡ true). ap (newcomer c) (others_kept d x xs e) ∙ (found_here c x (others d xs) f ∙ sym (found_here c x xs f)))
    (λ (f : (x.connection == c) ≡ false). ap (newcomer c) (others_kept d x xs e) ∙ (found_later c x (others d xs) f ∙ (others_of c d xs ne ∙ sym (found_later c x xs f))))
    (cases_Bool (x.connection == c)))
    (cases_Bool (x.connection == d))

-- one more is found if nobody was, or isn't
pub one_more : (c : ℕ) (n : Newcomer) (xs : List Newcomer) → (newcomer c (xs ++ n ∷ []) ≡ newcomer c xs) ⊎ (newcomer c (xs ++ n ∷ []) ≡ Some n)
one_more c n [] =
    ⊎_elim
    (λ (e : (n.connection == c) ≡ true). inr (found_here c n [] e))
    (λ (e : (n.connection == c) ≡ false). inl (found_later c n [] e))
    (cases_Bool (n.connection == c))
one_more c n (x ∷ xs) =
    ⊎_elim
    (λ (e : (x.connection == c) ≡ true). inl (found_here c x (xs ++ n ∷ []) e ∙ sym (found_here c x xs e)))
    (λ (e : (x.connection == c) ≡ false).
    ⊎_elim
    (λ (f : newcomer c (xs ++ n ∷ []) ≡ newcomer c xs). inl (found_later c x (xs ++ n ∷ []) e ∙ (f ∙ sym (found_later c x xs e))))
    (λ (f : newcomer c (xs ++ n ∷ []) ≡ Some n). inr (found_later c x (xs ++ n ∷ []) e ∙ f))
    (one_more c n xs))
    (cases_Bool (x.connection == c))

pub apart : (a b : ℕ) → (a == b) ≡ false → a ≡ b → ⊥
apart a b e is = let k : (a == b) ≡ true = eq-eqb a b is in true≢false (sym k ∙ e)

-- ---- who is late

abbrev late_if : (now seconds : ℕ) → Option Newcomer → Bool
late_if now seconds n = not (seconds == 0) && is_late_by now seconds n

never : (b : Bool) → (b && false) ≡ true → ⊥
never true e = cc
never false e = cc

and_first : (a b : Bool) → (a && b) ≡ true → a ≡ true
and_first true b e = refl
and_first false b e = cc

and_second : (a b : Bool) → (a && b) ≡ true → b ≡ true
and_second true b e = e
and_second false b e = cc

not_yet : (now seconds c : ℕ) → late_if now seconds (Some (record { connection = c; since = now; held = None })) ≡ true → ⊥
not_yet now seconds c e =
    let some : not (seconds == 0) ≡ true = and_first (not (seconds == 0)) (nat_le seconds (now - now)) e in
    let late : nat_le seconds (now - now) ≡ true = and_second (not (seconds == 0)) (nat_le seconds (now - now)) e in
    let long : seconds ≤ now - now = leb-true seconds (now - now) late in
    let none : seconds ≡ 0 = omega (arith, long) in
    let k : (seconds == 0) ≡ true = eq-eqb seconds 0 none in
    true≢false (sym some ∙ ap not k)

pub late_same : (now seconds : ℕ) (xs : List Newcomer) → AreNoMoreLate now seconds xs xs
late_same now seconds xs = λ c h. h

pub late_then : (now seconds : ℕ) (xs ys zs : List Newcomer) → AreNoMoreLate now seconds xs ys → AreNoMoreLate now seconds ys zs → AreNoMoreLate now seconds xs zs
late_then now seconds xs ys zs a b = λ c h. a c (b c h)

pub late_others : (now seconds d : ℕ) (xs : List Newcomer) → AreNoMoreLate now seconds xs (others d xs)
late_others now seconds d xs = λ c h.
    ⊎_elim
    (λ (e : (c == d) ≡ true).
    (let is : newcomer c (others d xs) ≡ None = subst (λ k. newcomer k (others d xs) ≡ None) (sym (eqb-true c d e)) (none_of d xs) in
    absurd (never (not (seconds == 0)) (sym (ap (late_if now seconds) is) ∙ h))))
    (λ (e : (c == d) ≡ false). sym (ap (late_if now seconds) (others_of c d xs (λ f. apart c d e f))) ∙ h)
    (cases_Bool (c == d))

-- nobody is late by being noted at this moment
pub late_comers : (now seconds : ℕ) (xs ys : List Newcomer) → AreNotedNow now xs ys → AreNoMoreLate now seconds xs ys
late_comers now seconds xs ys each = λ c h.
    ⊎_elim
    (λ (e : newcomer c ys ≡ newcomer c xs). sym (ap (late_if now seconds) e) ∙ h)
    (λ (e : newcomer c ys ≡ Some (record { connection = c; since = now; held = None })). absurd (not_yet now seconds c (sym (ap (late_if now seconds) e) ∙ h)))
    (each c)

pub late_forgotten : (now seconds d : ℕ) (xs ys : List Newcomer) → ys ≡ others d xs → AreNoMoreLate now seconds xs ys
late_forgotten now seconds d xs ys is = subst (AreNoMoreLate now seconds xs) (sym is) (late_others now seconds d xs)

pub late_so : (now seconds : ℕ) (xs : List Newcomer) (c : ℕ) → (seconds == 0) ≡ false → is_late_by now seconds (newcomer c xs) ≡ true → is_late now seconds xs c ≡ true
late_so now seconds xs c on h = ap (λ b. not b && is_late_by now seconds (newcomer c xs)) on ∙ h

-- ---- connections that went

-- whoever is late was so before
pub late_gone_one : (now seconds : ℕ) (xs ys : List Newcomer) → AreNoMoreLate now seconds xs ys → (x : Event × EventTag) → IsLateGone now seconds ys x → IsLateGone now seconds xs x
late_gone_one now seconds xs ys less (event.Gone c, m) h = less c h
late_gone_one now seconds xs ys less (event.Start host boot idle, m) h = absurd h
late_gone_one now seconds xs ys less (event.Connect, m) h = absurd h
late_gone_one now seconds xs ys less (event.Bytes c piece, m) h = absurd h
late_gone_one now seconds xs ys less (event.Took c n, m) h = absurd h
late_gone_one now seconds xs ys less (event.Tick moment, m) h = absurd h
late_gone_one now seconds xs ys less (event.Deposit d class id text, m) h = absurd h
late_gone_one now seconds xs ys less (event.Admin command, m) h = absurd h
late_gone_one now seconds xs ys less (event.Restart boot, m) h = absurd h
