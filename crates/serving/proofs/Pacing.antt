-- For how many seconds refusals keep logins back, as one more is noted.
use Rattle.std.proofs.Common.{◌≡◌, ◌≤◌, ◌*◌, ◌-◌, ℕ, min, nat_le, Bool, true, false, not, List, [], ◌∷◌, ◌++◌, length, drop, Option, Some, None, refl, sym, ◌∙◌, subst, arith}
use Rattle.std.proofs.Common.{⊎_elim, leb-true, if◌then◌else◌}
use Rattle.std.proofs.Math.Nat.{min-eq_left, min_comm}
use Rattle.std.proofs.lemmas.Bool.{cases_Bool, leb-false}
use Rattle.std.proofs.lemmas.List.Elements.{All-head, All-tail, All-push, All-drop, All-filter}
use Rattle.creds.specs.declared.login_name.LoginName.{LoginName}
use Rattle.serving.specs.declared.guesses.Refusal.{Refusal}
use Rattle.serving.specs.Guesses.{is_of, refusal_of, without, next_seconds, with_room, one_more, IsPacing, ArePacing}

-- the first refusal of an origin and a name is one of them
found : (origin : ℕ) (name : LoginName) (rs : List Refusal) (r : Refusal) → refusal_of origin name rs ≡ Some r → ArePacing rs → IsPacing r
found origin name [] r e all = cc
found origin name (x ∷ rs) r e all =
    ⊎_elim
    (λ (h : is_of origin name x ≡ true). subst IsPacing (some_same x r (sym (here h) ∙ e)) (All-head IsPacing x rs all))
    (λ (h : is_of origin name x ≡ false). found origin name rs r (sym (there h) ∙ e) (All-tail IsPacing x rs all))
    (cases_Bool (is_of origin name x)) where
      some_same : (a b : Refusal) → Some a ≡ Some b → a ≡ b
      some_same a b q = cc

      here : is_of origin name x ≡ true → refusal_of origin name (x ∷ rs) ≡ Some x
      here h = rw h refl

      there : is_of origin name x ≡ false → refusal_of origin name (x ∷ rs) ≡ refusal_of origin name rs
      there h = rw h refl

doubled : (s : ℕ) → 1 ≤ s → (1 ≤ min (s * 2) 15) × (min (s * 2) 15 ≤ 15)
doubled s h =
    ⊎_elim
    (λ (e : nat_le (s * 2) 15 ≡ true).
    (let less = leb-true (s * 2) 15 e in
    let is : min (s * 2) 15 ≡ s * 2 = min-eq_left less in
    (omega (arith, h, is), omega (arith, less, is))))
    (λ (e : nat_le (s * 2) 15 ≡ false).
    (let more = leb-false (s * 2) 15 e in
    let is : min (s * 2) 15 ≡ 15 = min_comm (s * 2) 15 ∙ min-eq_left (omega (arith, more)) in
    (omega (arith, is), omega (arith, is))))
    (cases_Bool (nat_le (s * 2) 15))

old_seconds : (now : ℕ) (r : Refusal) → nat_le 600 (now - r.at) ≡ true → next_seconds now (Some r) ≡ 1
old_seconds now r e = rw e refl

new_seconds : (now : ℕ) (r : Refusal) → nat_le 600 (now - r.at) ≡ false → next_seconds now (Some r) ≡ min (r.seconds * 2) 15
new_seconds now r e = rw e refl

next_within : (now : ℕ) (before : Option Refusal) → ((r : Refusal) → before ≡ Some r → IsPacing r) → (1 ≤ next_seconds now before) × (next_seconds now before ≤ 15)
next_within now None is = (omega arith, omega arith)
next_within now (Some r) is =
    ⊎_elim
    (λ (e : nat_le 600 (now - r.at) ≡ true). subst (λ n. (1 ≤ n) × (n ≤ 15)) (sym (old_seconds now r e)) (omega arith, omega arith))
    (λ (e : nat_le 600 (now - r.at) ≡ false). subst (λ n. (1 ≤ n) × (n ≤ 15)) (sym (new_seconds now r e)) (doubled r.seconds (is r refl).0))
    (cases_Bool (nat_le 600 (now - r.at)))

-- ---- what is kept of those before

pub pacing_without : (origin : ℕ) (name : LoginName) (rs : List Refusal) → ArePacing rs → ArePacing (without origin name rs)
pacing_without origin name rs all = All-filter (λ r. not (is_of origin name r)) IsPacing rs all

roomy : (rs : List Refusal) (full : Bool) → ArePacing rs → ArePacing (if full then drop 1 rs else rs)
roomy rs true all = All-drop IsPacing 1 rs all
roomy rs false all = all

-- and one more
pub pacing_more : (now origin : ℕ) (name : LoginName) (rs : List Refusal) → ArePacing rs → ArePacing (with_room (without origin name rs) ++ one_more now origin name rs ∷ [])
pacing_more now origin name rs all =
    let rest = without origin name rs in
    All-push IsPacing (with_room rest) (one_more now origin name rs) (roomy rest (nat_le 1024 (length rest)) (pacing_without origin name rs all))
    (next_within now (refusal_of origin name rs) (λ r e. found origin name rs r e all))
