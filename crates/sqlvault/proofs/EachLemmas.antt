-- A test of each element of a list, one after the other.
use Rattle.std.specs.List.{list_all}
use Rattle.std.proofs.lemmas.List.Folds.{list_all_at}
use Rattle.vault.proofs.ListLemmas.{all_last}
use Rattle.std.proofs.Common.{◌≡◌, Bool, true, false, ℕ, ◌+◌, ◌<◌, ◌≤◌, min, List, length, take, get_or, sym, ap, subst, ◌∙◌, arith}
use Rattle.std.specs.Prelude.{All, filter, sum_by}
use Rattle.std.proofs.lemmas.List.{take_all}
use Rattle.std.proofs.lemmas.List.Elements.{All-more}
use Rattle.std.proofs.lemmas.List.Sums.{sum_by_more}
use Rattle.vault.specs.declared.record.Receipt.{Receipt}
use Rattle.mailsql.specs.declared.rows.Message.{Message}
use Rattle.mailsql.specs.Columns.{Rows}
use Rattle.mailsql.specs.Rows.{is_in}
use Rattle.sqlvault.specs.Stored.{HasMessage, IsSoundIn}
use Rattle.sqlvault.proofs.SmallLemmas.{take_next}

-- the next passes too
pub next_passes : {X : Type 0} (P : X → Type 0) (xs : List X) (i : ℕ) (x : X) → i < length xs → x ≡ get_or xs i x → All P (take i xs) → P x → All P (take (i + 1) xs)
next_passes P xs i x low is all h = All-more P xs i x low all (subst P is h)

-- one that doesn't
pub one_fails : {X : Type 0} (P : X → Type 0) (xs : List X) (i : ℕ) (x : X) → i < length xs → x ≡ get_or xs i x → (P x → ⊥) → All P xs → ⊥
one_fails P xs i x low is fails all = fails (subst P (sym is) (all i x low))

pub each_passes : {X : Type 0} (P : X → Type 0) (xs : List X) (i : ℕ) → length xs ≤ i → All P (take i xs) → All P xs
each_passes P xs i end all = subst (All P) (take_all i xs end) all

-- ---- sums that stop at a bound

capped : (sum more next most : ℕ) (was added : ℕ) → was ≡ min sum most → added ≡ min more most → next ≡ min (was + added) most → next ≡ min (sum + more) most
capped sum more next most was added a b c = omega (arith, a, b, c)

pub sum_next : {X : Type 0} (f : X → ℕ) (xs : List X) (i : ℕ) (x : X) (was added next most : ℕ) → i < length xs → x ≡ get_or xs i x
    → was ≡ min (sum_by f (take i xs)) most → added ≡ min (f x) most → next ≡ min (was + added) most
    → next ≡ min (sum_by f (take (i + 1) xs)) most
sum_next f xs i x was added next most low is a b c =
    capped (sum_by f (take i xs)) (f x) next most was added a b c
    ∙ ap (λ n. min (sum_by f (take i xs) + n) most) (ap f is)
    ∙ ap (λ n. min n most) (sym (sum_by_more f xs i x low))

pub sum_whole : {X : Type 0} (f : X → ℕ) (xs : List X) (i most n : ℕ) → length xs ≤ i → n ≡ min (sum_by f (take i xs)) most → n ≡ min (sum_by f xs) most
sum_whole f xs i most n end is = is ∙ ap (λ l. min (sum_by f l) most) (take_all i xs end)

-- ---- a maildrop

pub maildrop_sound : (rows : Rows) (deposits : List Receipt) (d : List ℕ) (shown : List Message) → shown ≡ filter (is_in d) rows.messages
    → length shown ≤ 10000 → All (HasMessage rows deposits) shown → IsSoundIn rows deposits d
maildrop_sound rows deposits d shown is few all = (subst (λ (l : List Message). length l ≤ 10000) is few, subst (All (HasMessage rows deposits)) is all)

pub maildrop_unsound : (rows : Rows) (deposits : List Receipt) (d : List ℕ) (shown : List Message) → shown ≡ filter (is_in d) rows.messages
    → (All (HasMessage rows deposits) shown → ⊥) → IsSoundIn rows deposits d → ⊥
maildrop_unsound rows deposits d shown is fails s = fails (subst (All (HasMessage rows deposits)) (sym is) s.1)

-- ---- tests that answer a Bool

pub all_next : {X : Type 0} (p : X → Bool) (xs : List X) (i : ℕ) (x : X) → i < length xs → x ≡ get_or xs i x → list_all p (take i xs) ≡ true → p x ≡ true → list_all p (take (i + 1) xs) ≡ true
all_next p xs i x low is all passes = ap (list_all p) (take_next xs i x low is) ∙ all_last p (take i xs) x all passes

pub all_fails : {X : Type 0} (p : X → Bool) (xs : List X) (i : ℕ) (x : X) → i < length xs → x ≡ get_or xs i x → p x ≡ false → list_all p xs ≡ false
all_fails p xs i x low is fails = list_all_at p xs i x low (ap p (sym is) ∙ fails)

pub all_each : {X : Type 0} (p : X → Bool) (xs : List X) (i : ℕ) → length xs ≤ i → list_all p (take i xs) ≡ true → list_all p xs ≡ true
all_each p xs i end all = ap (list_all p) (sym (take_all i xs end)) ∙ all
