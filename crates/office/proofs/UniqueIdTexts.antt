-- No two accepted deposits into a maildrop's name have one unique-id as it is written.
use Rattle.std.specs.Prelude.{◌≡◌, ℕ, ◌≤◌, ◌<◌, ◌^◌, Bool, true, not, ◌&&◌, ◌==◌, nat_le, nat_lt, List, [], ◌∷◌, ◌++◌, length}
use Rattle.std.proofs.Common.{refl, sym, ◌∙◌, inl, inr, eq-eqb, append_assoc, le_trans}
use Rattle.std.proofs.lemmas.Bool.{and_parts, leb-true, le-leb}
use Rattle.std.proofs.lemmas.Slice.Eq.{bytes_eq-Decides}
use Rattle.std.proofs.lemmas.List.Folds.{list_all-append}
use Rattle.std.proofs.lemmas.Fmt.{decimal_injective}
use native.Mathlib.Omega.{arith}
use Rattle.std.specs.List.{list_any, list_all}
use Rattle.std.specs.Fmt.{decimal}
use Rattle.std.specs.Str.{bytes_eq}
use Rattle.mailtext.specs.Text.{kept_form}
use Rattle.creds.specs.Names.{is_name, has_length, is_name_octet, is_deposit_id}
use Rattle.creds.specs.Uid.{uid_text}
use Rattle.policy.specs.Policy.{are_distinct}
use Rattle.vault.specs.Records.{Records, IsSound, is_sound_receipt, is_counted, same_uid, receipts_of, class_count, most_deposits}
use Rattle.vault.specs.declared.record.Receipt.{Receipt}
use Rattle.vault.specs.Changes.{receipt_for}
use Rattle.office.specs.Answers.{New}
use Rattle.office.specs.History.{Entry, Act, Deposit, Tag, Said, Answers, receipts, receipts_after}
use Rattle.office.specs.Told.{told, said_to}
use Rattle.office.specs.Trace.{acts}
use Rattle.office.specs.Laws.{In, uid_text_of, same_uid_text, UniqueIdTextsDiffer}
use Rattle.office.proofs.Snapshot.{in_filter, any_false}
use Rattle.office.proofs.UniqueIds.{any_in, apart, all_in, unique_ids_are_unique}
use Rattle.office.proofs.Accepting.{taken}
use Rattle.office.proofs.Bounds.{formed_act, all_formed, all_if}
use Rattle.office.proofs.Greetings.{same_front}
use Rattle.office.proofs.RepliesForm.{formed_acts}
use Rattle.vault.proofs.ListLemmas.{not_true}

-- ---- texts

name_octets : (text : List ℕ) → is_name text ≡ true → list_all is_name_octet text ≡ true
name_octets text h = (and_parts (has_length 1 32 text) (list_all is_name_octet text) h).1

parts_of : (class : List ℕ) (k : ℕ) → uid_text (record { class = class; k = k }) ≡ class ++ (46 ∷ decimal k)
parts_of class k = simp append_assoc

-- a name has no dot, so that the dot parts class and number
same_parts : (c d : List ℕ) (k n : ℕ) → is_name c ≡ true → is_name d ≡ true → k < 2 ^ 64 → n < 2 ^ 64
    → uid_text (record { class = c; k = k }) ≡ uid_text (record { class = d; k = n }) → (c ≡ d) × (k ≡ n)
same_parts c d k n hc hd hk hn e =
    let p = same_front is_name_octet 46 c d (decimal k) (decimal n) (name_octets c hc) (name_octets d hd) refl (sym (parts_of c k) ∙ (e ∙ parts_of d n)) in
    (p.0, decimal_injective k n hk hn p.1)

-- ---- receipts within bounds

is_small : Receipt → Bool
is_small r = is_name r.class && nat_le r.k most_deposits

small : (r : Receipt) → is_name r.class ≡ true → r.k ≤ most_deposits → is_small r ≡ true
unfolding is_small
small r a b = rw (a, le-leb r.k most_deposits b) refl

small_sound : (B : Records) (r : Receipt) → is_sound_receipt B r ≡ true → is_small r ≡ true
small_sound B r t =
    let n = class_count r.class (receipts_of r.maildrop B.deposits) in
    let c = and_parts (is_name r.maildrop && is_deposit_id r.id && is_name r.class && is_counted B.deposits r && nat_le n most_deposits) (length r.digest == 32) t in
    let d = and_parts (is_name r.maildrop && is_deposit_id r.id && is_name r.class && is_counted B.deposits r) (nat_le n most_deposits) c.0 in
    let f = and_parts (is_name r.maildrop && is_deposit_id r.id && is_name r.class) (is_counted B.deposits r) d.0 in
    let g = and_parts (is_name r.maildrop && is_deposit_id r.id) (is_name r.class) f.0 in
    let k = and_parts (nat_lt 0 r.k) (nat_le r.k n) f.1 in
    small r g.1 (le_trans (leb-true r.k n k.1) (leb-true n most_deposits d.1))

small_step : (B : Records) (G : List Entry) (a : Act) (t : Tag) (s : Said) → s ≡ said_to B G a t → formed_act a ≡ true
    → list_all is_small (receipts B G) ≡ true → list_all is_small (receipts_after a s (receipts B G)) ≡ true
small_step B G (Deposit d class id text) t (Answers (New uid)) e f h =
    let p = taken B G d class id text t uid e in
    let n = p.number in
    let k : uid.k ≤ most_deposits = let l = p.few in omega arith in
    rw (list_all-append is_small (receipts B G) (receipt_for d class id (kept_form text) uid.k ∷ []), h, small (receipt_for d class id (kept_form text) uid.k) f k) refl
small_step B G _ t s e f h = h

receipts_small : (B : Records) → IsSound B → (H : List (Act × Tag)) → all_formed H ≡ true → list_all is_small (receipts B (told B H)) ≡ true
receipts_small B s [] f = all_if (is_sound_receipt B) is_small B.deposits (λ r i h. small_sound B r h) s.deposits
receipts_small B s ((a, t) ∷ H) f =
    let p = and_parts (formed_act a) (all_formed H) f in
    small_step B (told B H) a t (said_to B (told B H) a t) refl p.0 (receipts_small B s H p.1)

-- ---- apart by one test, apart by another

apart_by : {A : Type 0} (same other : A → A → Bool) (xs : List A) → are_distinct same xs ≡ true
    → ((x y : A) → In x xs → In y xs → other x y ≡ true → same x y ≡ true) → are_distinct other xs ≡ true
apart_by same other [] h f = refl
apart_by same other (x ∷ xs) h f =
    let p = and_parts (not (list_any (same x) xs)) (are_distinct same xs) h in
    apart (list_any (other x) xs) (are_distinct other xs)
    (any_false (other x) xs (λ y i t. any_in (same x) xs y (not_true (list_any (same x) xs) p.0) i (f x y (inl refl) (inr i) t)))
    (apart_by same other xs p.1 (λ y z i k t. f y z (inr i) (inr k) t))

small_parts : (r : Receipt) → is_small r ≡ true → (is_name r.class ≡ true) × (r.k < 2 ^ 64)
unfolding is_small
small_parts r h =
    let p = and_parts (is_name r.class) (nat_le r.k most_deposits) h in
    let k = leb-true r.k most_deposits p.1 in
    (p.0, omega arith)

same_by_text : (d : List ℕ) (xs : List Receipt) → list_all is_small xs ≡ true → (r s : Receipt) → In r (receipts_of d xs) → In s (receipts_of d xs)
    → same_uid_text r s ≡ true → same_uid r s ≡ true
same_by_text d xs h r s i k t =
    let a = in_filter (λ (q : Receipt). bytes_eq q.maildrop d) xs r i in
    let b = in_filter (λ (q : Receipt). bytes_eq q.maildrop d) xs s k in
    let p = small_parts r (all_in is_small xs r h a.0) in
    let q = small_parts s (all_in is_small xs s h b.0) in
    let e = same_parts r.class s.class r.k s.k p.0 q.0 p.1 q.1 ((bytes_eq-Decides (uid_text_of r) (uid_text_of s)).0 t) in
    let m : r.maildrop ≡ s.maildrop = (bytes_eq-Decides r.maildrop d).0 a.1 ∙ sym ((bytes_eq-Decides s.maildrop d).0 b.1) in
    rw ((bytes_eq-Decides r.maildrop s.maildrop).1 m, (bytes_eq-Decides r.class s.class).1 e.0, eq-eqb r.k s.k e.1) refl

pub unique_id_texts_differ : UniqueIdTextsDiffer
unique_id_texts_differ T s f d =
    apart_by same_uid same_uid_text (receipts_of d (receipts T.base (told T.base (acts T)))) (unique_ids_are_unique T.base s (acts T) d)
    (same_by_text d (receipts T.base (told T.base (acts T))) (receipts_small T.base s (acts T) (formed_acts T.base T.log f)))
