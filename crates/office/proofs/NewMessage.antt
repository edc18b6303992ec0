-- The message of a new deposit isn't among those that were ever removed.
use Rattle.std.proofs.Common.{◌≡◌, ℕ, ◌+◌, ◌≤◌, false, ◌&&◌, ◌==◌, List, [], ◌∷◌, ◌++◌, ◌⊎◌, Option, Some, None, refl, sym, ◌∙◌, ap, subst, ⊎_elim, inl, inr, eqb-true, arith}
use Rattle.std.proofs.lemmas.Bool.{and_parts}
use Rattle.std.proofs.lemmas.Slice.Eq.{bytes_eq-Decides}
use Rattle.std.specs.List.{list_any}
use Rattle.std.specs.Prelude.{nat_lt, nat_le}
use Rattle.std.specs.Str.{bytes_eq}
use Rattle.mailtext.specs.Text.{kept_form}
use Rattle.creds.specs.declared.login_name.LoginName.{LoginName}
use Rattle.vault.specs.Records.{Records, IsSound, is_sound_message, is_receipt_for, is_one_of, octets_of, most_octets, class_of, class_count, receipts_of, same_message}
use Rattle.vault.specs.Changes.{message_for, receipt_for}
use Rattle.vault.specs.declared.record.Message.{Message}
use Rattle.vault.specs.declared.record.Receipt.{Receipt}
use Rattle.session.specs.View.{to_remove}
use Rattle.office.specs.Answers.{New}
use Rattle.office.specs.History.{Act, Deposit, Tag, Said, Answers, in_force, arrivals, arrivals_after, receipts, receipts_after, deposits}
use Rattle.office.specs.Sessions.{in_session, marks, view, removed, removed_after, removed_by, quits}
use Rattle.office.specs.Told.{told, said_to}
use Rattle.office.specs.Laws.{In}
use Rattle.office.proofs.Snapshot.{in_front, any_false, removed_seen, arrivals_stay, snapshot}
use Rattle.office.proofs.UniqueIds.{all_in, in_last, numbered}
use Rattle.office.proofs.Bounds.{any_witness}

in_either : {A : Type 0} (xs ys : List A) (x : A) → In x (xs ++ ys) → In x xs ⊎ In x ys
in_either [] ys x h = inr h
in_either (z ∷ zs) ys x h = ⊎_elim (λ e. inl (inl e)) (λ k. ⊎_elim (λ i. inl (inr i)) (λ i. inr i) (in_either zs ys x k)) h

at_the_end : {A : Type 0} (xs : List A) (x : A) → In x (xs ++ x ∷ [])
at_the_end [] x = inl refl
at_the_end (y ∷ ys) x = inr (at_the_end ys x)

-- ---- what was removed had arrived

removed_by_quit : (B : Records) (H : List (Act × Tag)) (c : ℕ) (m : Message) (o : Option LoginName) → in_session (told B H) c ≡ o
    → In m (removed_by o (λ (name : LoginName). to_remove class_of (in_force B (told B H)) name (marks (told B H) c) (view B (told B H) c)))
    → In m (arrivals B (told B H))
removed_by_quit B H c m None e h = absurd h
removed_by_quit B H c m (Some name) e h =
    (snapshot B H c name e m (removed_seen (in_force B (told B H)) name (marks (told B H) c) (view B (told B H) c) m h)).came

removed_before : (B : Records) (H : List (Act × Tag)) (m : Message) (o : Option ℕ) → (In m (removed B (told B H)) → In m (arrivals B (told B H)))
    → In m (removed_after o (λ c. removed_by (in_session (told B H) c) (λ (name : LoginName). to_remove class_of (in_force B (told B H)) name (marks (told B H) c) (view B (told B H) c)))
    (removed B (told B H)))
    → In m (arrivals B (told B H))
removed_before B H m None before h = before h
removed_before B H m (Some c) before h = ⊎_elim before (λ i. removed_by_quit B H c m (in_session (told B H) c) refl i)
    (in_either (removed B (told B H)) (removed_by (in_session (told B H) c) (λ (name : LoginName). to_remove class_of (in_force B (told B H)) name (marks (told B H) c) (view B (told B H) c))) m h)

removed_came : (B : Records) (H : List (Act × Tag)) (m : Message) → In m (removed B (told B H)) → In m (arrivals B (told B H))
removed_came B [] m h = absurd h
removed_came B ((a, t) ∷ H) m h =
    arrivals_stay a (said_to B (told B H) a t) (arrivals B (told B H)) m (removed_before B H m (quits a t) (removed_came B H m) h)

-- ---- what arrived has its receipt

record HasReceipt (rs : List Receipt) (m : Message) : Type 0 where
  receipt : Receipt
  there : In receipt rs
  maildrop : m.maildrop ≡ receipt.maildrop
  class : m.class ≡ receipt.class
  number : m.k ≡ receipt.k

in_base : (B : Records) → IsSound B → (m : Message) → In m B.messages → HasReceipt B.deposits m
in_base B s m i =
    let a = all_in (is_sound_message B) B.messages m s.messages i in
    let p = and_parts (bytes_eq (kept_form m.text) m.text && nat_lt 0 (octets_of m) && nat_le (octets_of m) most_octets && is_one_of m.maildrop B.maildrops)
    (list_any (is_receipt_for m) B.deposits) a in
    let w = any_witness (is_receipt_for m) B.deposits p.1 in
    let x = and_parts (bytes_eq m.maildrop w.0.maildrop && bytes_eq m.class w.0.class) (m.k == w.0.k) w.2 in
    let y = and_parts (bytes_eq m.maildrop w.0.maildrop) (bytes_eq m.class w.0.class) x.0 in
    record {
      receipt = w.0;
      there = w.1;
      maildrop = (bytes_eq-Decides m.maildrop w.0.maildrop).0 y.0;
      class = (bytes_eq-Decides m.class w.0.class).0 y.1;
      number = eqb-true m.k w.0.k x.1;
    }

with_more : (rs more : List Receipt) (m : Message) → HasReceipt rs m → HasReceipt (rs ++ more) m
with_more rs more m h = record {
  receipt = h.receipt;
  there = in_front rs more h.receipt h.there;
  maildrop = h.maildrop;
  class = h.class;
  number = h.number;
}

its_own : (rs : List Receipt) (d class id text : List ℕ) (k : ℕ) (m : Message) → m ≡ message_for d class text k → HasReceipt (rs ++ receipt_for d class id text k ∷ []) m
its_own rs d class id text k m e = record {
  receipt = receipt_for d class id text k;
  there = at_the_end rs (receipt_for d class id text k);
  maildrop = ap (λ (m : Message). m.maildrop) e;
  class = ap (λ (m : Message). m.class) e;
  number = ap (λ (m : Message). m.k) e;
}

after_act : (a : Act) (s : Said) (ms : List Message) (rs : List Receipt) (m : Message) → (In m ms → HasReceipt rs m)
    → In m (arrivals_after a s ms) → HasReceipt (receipts_after a s rs) m
after_act (Deposit d class id text) (Answers (New uid)) ms rs m before h = ⊎_elim
    (λ i. with_more rs (receipt_for d class id (kept_form text) uid.k ∷ []) m (before i))
    (λ e. its_own rs d class id (kept_form text) uid.k m e)
    (in_last ms (message_for d class (kept_form text) uid.k) m h)
after_act _ s ms rs m before h = before h

arrivals_have : (B : Records) → IsSound B → (H : List (Act × Tag)) (m : Message) → In m (arrivals B (told B H)) → HasReceipt (receipts B (told B H)) m
arrivals_have B s [] m i = in_base B s m i
arrivals_have B s ((a, t) ∷ H) m i = after_act a (said_to B (told B H) a t) (arrivals B (told B H)) (receipts B (told B H)) m (arrivals_have B s H m) i

-- ---- the next number of a class is nobody's

other_number : (rs : List Receipt) (d class : List ℕ) (k : ℕ) (m : Message) → ((r : Receipt) → In r rs → r.k ≤ class_count r.class (receipts_of r.maildrop rs))
    → HasReceipt rs m → k ≡ class_count class (receipts_of d rs) + 1 → d ≡ m.maildrop → class ≡ m.class → k ≡ m.k → ⊥
other_number rs d class k m counted h e f g n =
    let r = h.receipt in
    let a : r.maildrop ≡ d = sym h.maildrop ∙ sym f in
    let b : r.class ≡ class = sym h.class ∙ sym g in
    let l : r.k ≤ class_count class (receipts_of d rs) =
    subst (λ x. r.k ≤ class_count class (receipts_of x rs)) a (subst (λ x. r.k ≤ class_count x (receipts_of r.maildrop rs)) b (counted r h.there)) in
    let same : k ≡ r.k = n ∙ h.number in
    omega arith

pub new_message : (B : Records) → IsSound B → (H : List (Act × Tag)) (d class text : List ℕ) (k : ℕ) → k ≡ class_count class (deposits B (told B H) d) + 1
    → list_any (same_message (message_for d class text k)) (removed B (told B H)) ≡ false
new_message B s H d class text k e = any_false (same_message (message_for d class text k)) (removed B (told B H))
    (λ m i t.
    let x = and_parts (bytes_eq d m.maildrop && bytes_eq class m.class) (k == m.k) t in
    let y = and_parts (bytes_eq d m.maildrop) (bytes_eq class m.class) x.0 in
    other_number (receipts B (told B H)) d class k m (numbered B s H).1 (arrivals_have B s H m (removed_came B H m i)) e
    ((bytes_eq-Decides d m.maildrop).0 y.0) ((bytes_eq-Decides class m.class).0 y.1) (eqb-true k m.k x.1))
