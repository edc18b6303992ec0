-- The first element that passes a test, by its place.
use Rattle.std.proofs.Common.{◌≡◌, ◌<◌, ◌≤◌, ℕ, zero, suc, Bool, List, [], ◌∷◌, length, map, get_or, set, Some, None, sym, ◌∙◌, ap, arith}
use Rattle.std.proofs.lemmas.Grind.{common_steps}
use Rattle.std.specs.List.{find, position, position_or_len, slice_get}
use Rattle.std.proofs.lemmas.List.Folds.{find_at}
use Rattle.std.proofs.lemmas.Option.{slice_get-get_or, slice_get_past}
use Rattle.office.specs.declared.account.Account.{Account}
use Rattle.journal.specs.declared.client.Client.{Client}
use Rattle.journal.specs.Sessions.{heard_after, heard_of, heard_at, opened_at, with_number}

pub found_at : {X : Type 0} (p : X → Bool) (xs : List X) (i : ℕ) (x : X) → position p xs ≡ Some i → x ≡ get_or xs i x → find p xs ≡ Some x
found_at p xs i x e is =
    let place : position_or_len p xs ≡ i = grind (arith, common_steps) in
    let inside : i < length xs = grind (arith, common_steps) in
    find_at p xs ∙ (ap (λ n. slice_get xs n) place ∙ (slice_get-get_or xs i x inside ∙ ap (λ y. Some y) (sym is)))

pub none_found : {X : Type 0} (p : X → Bool) (xs : List X) → position p xs ≡ None → find p xs ≡ None
none_found p xs e =
    let past : length xs ≤ position_or_len p xs = grind (arith, common_steps) in
    find_at p xs ∙ slice_get_past xs (position_or_len p xs) past

-- the client at a place hears an account
pub heard_set : (i : ℕ) (account : Account) (xs : List Client) (x y : Client) → i < length xs → x ≡ get_or xs i x
    → y.heard ≡ heard_after account x.heard → map heard_of (set xs i y) ≡ heard_at i account xs
heard_set i account [] x y lt e h = absurd (omega arith)
heard_set zero account (z ∷ zs) x y lt e h = ap (λ q. q ∷ map heard_of zs) (h ∙ ap (λ (w : Client). heard_after account w.heard) e)
heard_set (suc i) account (z ∷ zs) x y lt e h = ap (λ qs. z.heard ∷ qs) (heard_set i account zs x y (omega arith) e h)

-- the client at a place gets a connection
pub opened_set : (i connection : ℕ) (xs : List Client) (x y : Client) → i < length xs → x ≡ get_or xs i x
    → y ≡ with_number connection x → set xs i y ≡ opened_at i connection xs
opened_set i connection [] x y lt e is = absurd (omega arith)
opened_set zero connection (z ∷ zs) x y lt e is = ap (λ q. q ∷ zs) (is ∙ ap (λ (w : Client). with_number connection w) e)
opened_set (suc i) connection (z ∷ zs) x y lt e is = ap (λ qs. z ∷ qs) (opened_set i connection zs x y (omega arith) e is)
