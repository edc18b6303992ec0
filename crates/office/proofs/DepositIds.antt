-- No two accepted deposits into a maildrop's name have one id.
use Rattle.std.specs.Prelude.{◌≡◌, ℕ, Bool, true, false, List, [], ◌∷◌, Option, Some, None, if◌then◌else◌}
use Rattle.std.proofs.Common.{refl, sym, ◌∙◌, ap, true≢false, ⊎_elim}
use Rattle.std.proofs.lemmas.Bool.{and_parts}
use Rattle.std.specs.List.{find}
use Rattle.std.specs.Str.{bytes_eq}
use Rattle.mailtext.specs.Text.{kept_form}
use Rattle.vault.specs.Records.{Records, IsSound, same_id, receipts_of, receipt_of}
use Rattle.vault.specs.declared.record.Receipt.{Receipt}
use Rattle.policy.specs.Policy.{are_distinct}
use Rattle.vault.specs.Changes.{receipt_for}
use Rattle.office.specs.Answers.{New}
use Rattle.office.specs.History.{Entry, Act, Tag, Said, Answers, Deposit, receipts, receipts_after}
use Rattle.office.specs.Told.{told, said_to}
use Rattle.office.specs.Laws.{In, DepositIdsActOnce}
use Rattle.office.proofs.Snapshot.{filter_in}
use Rattle.office.proofs.UniqueIds.{distinct_last}
use Rattle.office.proofs.Accepting.{taken}
use Rattle.vault.proofs.ListLemmas.{distinct_filter}

some_none : {A : Type 0} (z : A) → Some z ≡ None → ⊥
some_none z e = cc

not_found_at : {A : Type 0} (b : Bool) (y : A) (o : Option A) → (if b then Some y else o) ≡ None → (b ≡ false) × (o ≡ None)
not_found_at true y o e = absurd (some_none y e)
not_found_at false y o e = (refl, e)

-- what isn't found has no element that passes
not_found : {A : Type 0} (p : A → Bool) (xs : List A) (x : A) → find p xs ≡ None → In x xs → p x ≡ true → ⊥
not_found p [] x e i t = i
not_found p (y ∷ ys) x e i t =
    let q = not_found_at (p y) y (find p ys) e in
    ⊎_elim (λ (h : x ≡ y). true≢false (sym t ∙ (ap p h ∙ q.0))) (λ k. not_found p ys x q.1 k t) i

-- no other deposit of the maildrop's name has its id
other_id : (xs : List Receipt) (n r : Receipt) → receipt_of n.id (receipts_of n.maildrop xs) ≡ None → In r xs → same_id r n ≡ true → ⊥
other_id xs n r e i s =
    let p = and_parts (bytes_eq r.maildrop n.maildrop) (bytes_eq r.id n.id) s in
    not_found (λ (q : Receipt). bytes_eq q.id n.id) (receipts_of n.maildrop xs) r e
    (filter_in (λ (q : Receipt). bytes_eq q.maildrop n.maildrop) xs r i p.0) p.1

ids_new : (B : Records) (G : List Entry) (d class id text : List ℕ) (t : Tag) (s : Said) → s ≡ said_to B G (Deposit d class id text) t
    → are_distinct same_id (receipts B G) ≡ true → are_distinct same_id (receipts_after (Deposit d class id text) s (receipts B G)) ≡ true
ids_new B G d class id text t (Answers (New uid)) e h =
    distinct_last same_id (receipts B G) (receipt_for d class id (kept_form text) uid.k) h
    (λ r i q. other_id (receipts B G) (receipt_for d class id (kept_form text) uid.k) r (taken B G d class id text t uid e).unused i q)
ids_new B G d class id text t _ e h = h

ids_step : (B : Records) (G : List Entry) (a : Act) (t : Tag) → are_distinct same_id (receipts B G) ≡ true
    → are_distinct same_id (receipts_after a (said_to B G a t) (receipts B G)) ≡ true
ids_step B G (Deposit d class id text) t h = ids_new B G d class id text t (said_to B G (Deposit d class id text) t) refl h
ids_step B G _ t h = h

ids : (B : Records) → IsSound B → (H : List (Act × Tag)) → are_distinct same_id (receipts B (told B H)) ≡ true
ids B s [] = s.ids_apart
ids B s ((a, t) ∷ H) = ids_step B (told B H) a t (ids B s H)

pub deposit_ids_act_once : DepositIdsActOnce
deposit_ids_act_once B s H d = distinct_filter same_id (λ (r : Receipt). bytes_eq r.maildrop d) (receipts B (told B H)) (ids B s H)
