-- No two accepted deposits into a maildrop's name have one unique-id.
use Rattle.std.specs.Prelude.{◌≡◌, ℕ, ◌+◌, ◌≤◌, Bool, true, false, not, ◌&&◌, ◌==◌, nat_le, nat_lt, List, [], ◌∷◌, ◌++◌, cond, ◌⊎◌, filter, length}
use Rattle.std.proofs.Common.{refl, sym, ◌∙◌, ap, eqb-true, ⊎_elim, inl, inr, subst, true≢false}
use Rattle.std.proofs.lemmas.Bool.{cases_Bool, and_parts, or_from, or_parts, leb-true}
use Rattle.std.proofs.lemmas.Slice.Eq.{bytes_eq-Decides}
use native.Mathlib.Omega.{arith}
use Rattle.std.specs.List.{list_any, list_all}
use Rattle.std.specs.Str.{bytes_eq}
use Rattle.mailtext.specs.Text.{kept_form}
use Rattle.vault.specs.Records.{Records, IsSound, same_uid, class_count, receipts_of, is_sound_receipt, is_counted, most_deposits}
use Rattle.vault.specs.declared.record.Receipt.{Receipt}
use Rattle.policy.specs.Policy.{are_distinct}
use Rattle.vault.specs.Changes.{receipt_for}
use Rattle.creds.specs.Names.{is_name, is_deposit_id}
use Rattle.office.specs.Answers.{New}
use Rattle.office.specs.History.{Entry, Act, Tag, Said, Answers, Deposit, receipts, receipts_after}
use Rattle.office.specs.Told.{told, said_to}
use Rattle.office.specs.Laws.{In, UniqueIdsAreUnique}
use Rattle.office.proofs.Snapshot.{in_filter, any_false}
use Rattle.office.proofs.Accepting.{taken}
use Rattle.office.proofs.SmallLemmas.{classes_more}
use Rattle.vault.proofs.ListLemmas.{not_true, bytes_same, distinct_filter}

-- ---- lists of deposits

classes_own : (n : Receipt) → class_count n.class (receipts_of n.maildrop (n ∷ [])) ≡ 1
classes_own n = rw (bytes_same n.maildrop, bytes_same n.class) refl

-- each deposit's k is at most the number of its class
abbrev Counted : List Receipt → Type 0
Counted xs = (r : Receipt) → In r xs → r.k ≤ class_count r.class (receipts_of r.maildrop xs)

pub in_last : {A : Type 0} (xs : List A) (y x : A) → In x (xs ++ y ∷ []) → In x xs ⊎ (x ≡ y)
in_last [] y x h = ⊎_elim (λ e. inr e) (λ k. absurd k) h
in_last (z ∷ zs) y x h = ⊎_elim (λ e. inl (inl e)) (λ k. ⊎_elim (λ r. inl (inr r)) (λ e. inr e) (in_last zs y x k)) h

still_counted : (xs : List Receipt) (n : Receipt) → Counted xs → n.k ≡ class_count n.class (receipts_of n.maildrop xs) + 1 → Counted (xs ++ n ∷ [])
still_counted xs n h e r i = ⊎_elim
    (λ (k : In r xs). let c = classes_more r.class r.maildrop xs n in let b = h r k in rw c (omega arith))
    (λ (s : r ≡ n). subst (λ (q : Receipt). q.k ≤ class_count q.class (receipts_of q.maildrop (xs ++ n ∷ []))) (sym s)
    (let c = classes_more n.class n.maildrop xs n in let o = classes_own n in rw (c, o, e) (omega arith)))
    (in_last xs n r i)

uid_parts : (r s : Receipt) → same_uid r s ≡ true → (r.maildrop ≡ s.maildrop) × (r.class ≡ s.class) × (r.k ≡ s.k)
uid_parts r s h =
    let a = and_parts (bytes_eq r.maildrop s.maildrop && bytes_eq r.class s.class) (r.k == s.k) h in
    let b = and_parts (bytes_eq r.maildrop s.maildrop) (bytes_eq r.class s.class) a.0 in
    ((bytes_eq-Decides r.maildrop s.maildrop).0 b.0, (bytes_eq-Decides r.class s.class).0 b.1, eqb-true r.k s.k a.1)

-- none is the new one
other_uid : (xs : List Receipt) (n r : Receipt) → Counted xs → n.k ≡ class_count n.class (receipts_of n.maildrop xs) + 1 → In r xs → same_uid r n ≡ true → ⊥
other_uid xs n r h e i s =
    let p = uid_parts r n s in
    let b : n.k ≤ class_count n.class (receipts_of n.maildrop xs) =
    subst (λ k. k ≤ class_count n.class (receipts_of n.maildrop xs)) p.2
    (subst (λ c. r.k ≤ class_count c (receipts_of n.maildrop xs)) p.1 (subst (λ d. r.k ≤ class_count r.class (receipts_of d xs)) p.0 (h r i))) in
    omega arith

any_last : (p : Receipt → Bool) (xs : List Receipt) (n : Receipt) → list_any p xs ≡ false → p n ≡ false → list_any p (xs ++ n ∷ []) ≡ false
any_last p [] n h e = or_from (p n) false e refl
any_last p (x ∷ xs) n h e = let r = or_parts (p x) (list_any p xs) h in or_from (p x) (list_any p (xs ++ n ∷ [])) r.0 (any_last p xs n r.1 e)

pub apart : (b c : Bool) → b ≡ false → c ≡ true → (not b && c) ≡ true
apart b c e f = rw (e, f) refl

pub distinct_last : (same : Receipt → Receipt → Bool) (xs : List Receipt) (n : Receipt) → are_distinct same xs ≡ true
    → ((r : Receipt) → In r xs → same r n ≡ true → ⊥) → are_distinct same (xs ++ n ∷ []) ≡ true
distinct_last same [] n h o = refl
distinct_last same (x ∷ xs) n h o =
    let p = and_parts (not (list_any (same x) xs)) (are_distinct same xs) h in
    let e : same x n ≡ false = ⊎_elim (λ t. absurd (o x (inl refl) t)) (λ f. f) (cases_Bool (same x n)) in
    apart (list_any (same x) (xs ++ n ∷ [])) (are_distinct same (xs ++ n ∷ []))
    (any_last (same x) xs n (not_true (list_any (same x) xs) p.0) e)
    (distinct_last same xs n p.1 (λ r i. o r (inr i)))

pub any_in : {A : Type 0} (p : A → Bool) (xs : List A) (x : A) → list_any p xs ≡ false → In x xs → p x ≡ true → ⊥
any_in p [] x h i t = i
any_in p (y ∷ ys) x h i t = let r = or_parts (p y) (list_any p ys) h in
    ⊎_elim (λ (e : x ≡ y). true≢false (sym t ∙ (ap p e ∙ r.0))) (λ k. any_in p ys x r.1 k t) i

distinct_at : {A : Type 0} (same : A → A → Bool) (p : A → Bool) (x : A) (xs : List A) (b : Bool) → are_distinct same (filter p xs) ≡ true
    → list_any (same x) xs ≡ false → are_distinct same (cond b (x ∷ filter p xs) (filter p xs)) ≡ true
distinct_at same p x xs true h a = apart (list_any (same x) (filter p xs)) (are_distinct same (filter p xs))
    (any_false (same x) (filter p xs) (λ y i t. any_in (same x) xs y a (in_filter p xs y i).0 t)) h
distinct_at same p x xs false h a = h

-- ---- over a history

abbrev Numbered : List Receipt → Type 0
Numbered xs = (are_distinct same_uid xs ≡ true) × Counted xs

numbered_last : (xs : List Receipt) (n : Receipt) → Numbered xs → n.k ≡ class_count n.class (receipts_of n.maildrop xs) + 1 → Numbered (xs ++ n ∷ [])
numbered_last xs n h e = (distinct_last same_uid xs n h.0 (λ r i s. other_uid xs n r h.1 e i s), still_counted xs n h.1 e)

numbered_new : (B : Records) (G : List Entry) (d class id text : List ℕ) (t : Tag) (s : Said) → s ≡ said_to B G (Deposit d class id text) t
    → Numbered (receipts B G) → Numbered (receipts_after (Deposit d class id text) s (receipts B G))
numbered_new B G d class id text t (Answers (New uid)) e h =
    numbered_last (receipts B G) (receipt_for d class id (kept_form text) uid.k) h (taken B G d class id text t uid e).number
numbered_new B G d class id text t _ e h = h

numbered_step : (B : Records) (G : List Entry) (a : Act) (t : Tag) → Numbered (receipts B G) → Numbered (receipts_after a (said_to B G a t) (receipts B G))
numbered_step B G (Deposit d class id text) t h = numbered_new B G d class id text t (said_to B G (Deposit d class id text) t) refl h
numbered_step B G _ t h = h

pub all_in : {A : Type 0} (p : A → Bool) (xs : List A) (x : A) → list_all p xs ≡ true → In x xs → p x ≡ true
all_in p [] x h i = absurd i
all_in p (y ∷ ys) x h i = let r = and_parts (p y) (list_all p ys) h in
    ⊎_elim (λ (e : x ≡ y). ap p e ∙ r.0) (λ k. all_in p ys x r.1 k) i

five : (a b c d e f : Bool) → (a && b && c && d && e && f) ≡ true → d ≡ true
five a b c d e f h = (and_parts (a && b && c) d (and_parts (a && b && c && d) e (and_parts (a && b && c && d && e) f h).0).0).1

pub numbered : (B : Records) → IsSound B → (H : List (Act × Tag)) → Numbered (receipts B (told B H))
numbered B s [] = (
  s.uids_apart,
  λ r i.
      let a = all_in (is_sound_receipt B) B.deposits r s.deposits i in
      let c = five (is_name r.maildrop) (is_deposit_id r.id) (is_name r.class) (is_counted B.deposits r)
      (nat_le (class_count r.class (receipts_of r.maildrop B.deposits)) most_deposits) (length r.digest == 32) a in
      leb-true r.k (class_count r.class (receipts_of r.maildrop B.deposits)) (and_parts (nat_lt 0 r.k) (nat_le r.k (class_count r.class (receipts_of r.maildrop B.deposits))) c).1,
)
numbered B s ((a, t) ∷ H) = numbered_step B (told B H) a t (numbered B s H)

pub unique_ids_are_unique : UniqueIdsAreUnique
unique_ids_are_unique B s H d = distinct_filter same_uid (λ (r : Receipt). bytes_eq r.maildrop d) (receipts B (told B H)) (numbered B s H).0
