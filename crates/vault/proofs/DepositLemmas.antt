-- Contents stay sound as a deposit is accepted, and what a deposit promises follows from how it was judged.
use Rattle.std.proofs.Common.{◌≡◌, ℕ, ◌+◌, ◌<◌, ◌≤◌, ◌≢◌, Bool, true, false, ◌&&◌, ◌⊎◌, List, [], ◌∷◌, ◌++◌, length, cond, Option, Some, None, Result, Ok, Err, refl, sym, ◌∙◌, ap}
use Rattle.std.proofs.Common.{subst, eqb-true, ⊎_elim, inl, inr, arith, length-append}
use Rattle.std.specs.Prelude.{is_some, nat_le, nat_lt, ◌==◌, if◌then◌else◌}
use Rattle.std.specs.List.{list_any, list_all, find}
use Rattle.std.specs.Option.{option_map}
use Rattle.std.specs.Result.{IsErrAnd}
use Rattle.std.specs.Str.{bytes_eq}
use Rattle.std.proofs.lemmas.Bool.{cases_Bool, and_parts, or_parts, leb-true}
use Rattle.std.proofs.lemmas.Bool.Decides.{nat_tests}
use Rattle.std.proofs.lemmas.List.Elements.{filter-append}
use Rattle.std.proofs.lemmas.List.Sums.{sum_by-append}
use Rattle.mailtext.specs.Text.{kept_form}
use Rattle.mailtext.specs.MailText.{IsMailText}
use Rattle.creds.specs.Names.{is_name, is_deposit_id}
use Rattle.creds.specs.Digests.{text_digest}
use Rattle.creds.specs.declared.uid.Uid.{Uid}
use Rattle.policy.specs.Policy.{are_distinct}
use Rattle.vault.specs.declared.answer.Deposited.{Deposited}
use Rattle.vault.specs.declared.answer.Deposited.TheVariants as stored
use Rattle.vault.specs.declared.fault.VaultFault.{VaultFault}
use Rattle.vault.specs.declared.fault.VaultFault.TheVariants as fault
use Rattle.vault.specs.declared.record.Keyed.{Keyed}
use Rattle.vault.specs.declared.record.Message.{Message}
use Rattle.vault.specs.declared.record.Receipt.{Receipt}
use Rattle.vault.specs.Records.{Records, is_sound_message, is_sound_receipt, is_counted, is_one_of, is_receipt_for, in_maildrop, receipts_of, receipt_of, class_count, octets_of}
use Rattle.vault.specs.Records.{same_id, same_uid, same_message, most_octets, most_messages, most_deposits}
use Rattle.vault.specs.Changes.{Contents, AreSound, records_of, with_deposit, message_for, receipt_for, deposit_answer, deposit_answered, is_full, KnownAs, kept_in}
use Rattle.vault.specs.Changes as changes
use Rattle.vault.specs.Calls.{IsAnswer, IsRefusal, IsDeposited, deposit_result, deposit_answer_in, present_in}
use Rattle.vault.specs.Plain.{HoldsKept, with_message}
use Rattle.vault.proofs.ListLemmas.{In, all_in, all_last, all_weaker, any_in, any_of, any_front, found, found_none, filter_in, distinct_last, map-append, bytes_same, bytes_are}
use Rattle.vault.proofs.TotalLemmas.{present_is}
use Rattle.vault.proofs.DoneLemmas.{IsKept}

-- ---- tests joined

six : (a b c d e f : Bool) → a ≡ true → b ≡ true → c ≡ true → d ≡ true → e ≡ true → f ≡ true → (a && b && c && d && e && f) ≡ true
six a b c d e f p q r s t u = rw (p, q, r, s, t, u) refl

six_parts : (a b c d e f : Bool) → (a && b && c && d && e && f) ≡ true → (a ≡ true) × (b ≡ true) × (c ≡ true) × (d ≡ true) × (e ≡ true) × (f ≡ true)
six_parts a b c d e f h =
    let p = and_parts (a && b && c && d && e) f h in
    let q = and_parts (a && b && c && d) e p.0 in
    let r = and_parts (a && b && c) d q.0 in
    let s = and_parts (a && b) c r.0 in
    let t = and_parts a b s.0 in
    (t.0, t.1, s.1, r.1, q.1, p.1)

five : (a b c d e : Bool) → a ≡ true → b ≡ true → c ≡ true → d ≡ true → e ≡ true → (a && b && c && d && e) ≡ true
five a b c d e p q r s t = rw (p, q, r, s, t) refl

five_parts : (a b c d e : Bool) → (a && b && c && d && e) ≡ true → (a ≡ true) × (b ≡ true) × (c ≡ true) × (d ≡ true) × (e ≡ true)
five_parts a b c d e h =
    let q = and_parts (a && b && c && d) e h in
    let r = and_parts (a && b && c) d q.0 in
    let s = and_parts (a && b) c r.0 in
    let t = and_parts a b s.0 in
    (t.0, t.1, s.1, r.1, q.1)

three_parts : (a b c : Bool) → (a && b && c) ≡ true → (a ≡ true) × (b ≡ true) × (c ≡ true)
three_parts a b c h = let s = and_parts (a && b) c h in let t = and_parts a b s.0 in (t.0, t.1, s.1)

-- ---- how many deposits of a class

pub counted_last : (class d : List ℕ) (rs : List Receipt) (r : Receipt)
    → class_count class (receipts_of d (rs ++ r ∷ [])) ≡ class_count class (receipts_of d rs) + class_count class (receipts_of d (r ∷ []))
counted_last class d rs r =
    ap (λ xs. class_count class xs) (filter-append (λ (x : Receipt). bytes_eq x.maildrop d) rs (r ∷ []))
    ∙ sum_by-append (λ (x : Receipt). cond (bytes_eq x.class class) 1 0) (receipts_of d rs) (receipts_of d (r ∷ []))

pub counted_own : (r : Receipt) → class_count r.class (receipts_of r.maildrop (r ∷ [])) ≡ 1
counted_own r = rw (bytes_same r.maildrop, bytes_same r.class) refl

-- one more deposit counts for its own class and maildrop alone
one_or_none : (class d : List ℕ) (r : Receipt) → (class_count class (receipts_of d (r ∷ [])) ≡ 0) ⊎ ((r.maildrop ≡ d) × (r.class ≡ class))
one_or_none class d r = ⊎_elim
    (λ (t : bytes_eq r.maildrop d ≡ true). ⊎_elim
    (λ (u : bytes_eq r.class class ≡ true). inr (bytes_are r.maildrop d t, bytes_are r.class class u))
    (λ (u : bytes_eq r.class class ≡ false). inl (rw (t, u) refl))
    (cases_Bool (bytes_eq r.class class)))
    (λ (f : bytes_eq r.maildrop d ≡ false). inl (rw f refl))
    (cases_Bool (bytes_eq r.maildrop d))

still_fits : (class d : List ℕ) (rs : List Receipt) (r : Receipt) (most : ℕ) → class_count r.class (receipts_of r.maildrop rs) < most
    → class_count class (receipts_of d rs) ≤ most → class_count class (receipts_of d (rs ++ r ∷ [])) ≤ most
still_fits class d rs r most few h = rw counted_last (⊎_elim
    (λ (e : class_count class (receipts_of d (r ∷ [])) ≡ 0). omega arith)
    (λ (e : (r.maildrop ≡ d) × (r.class ≡ class)). rw (← e.0, ← e.1, counted_own r) (omega arith))
    (one_or_none class d r))

more : (class d : List ℕ) (rs : List Receipt) (r : Receipt) → class_count class (receipts_of d rs) ≤ class_count class (receipts_of d (rs ++ r ∷ []))
more class d rs r = rw counted_last (omega arith)

still_le : (k m n : ℕ) → nat_le k m ≡ true → m ≤ n → nat_le k n ≡ true
still_le k m n h e = grind (arith, nat_tests)

le_test : (m n : ℕ) → m ≤ n → nat_le m n ≡ true
le_test m n h = grind (arith, nat_tests)

lt_test : (m n : ℕ) → m < n → nat_lt m n ≡ true
lt_test m n h = grind (arith, nat_tests)

-- ---- a deposit that is new

-- what is new of a deposit with this k
pub record IsNew (c : Contents) (d class id : List ℕ) (k : ℕ) : Type 0 where
  pub there : is_one_of d c.maildrops ≡ true
  pub new : receipt_of id (receipts_of d c.deposits) ≡ None
  pub room : present_in d c < most_messages
  pub few : class_count class (receipts_of d c.deposits) < most_deposits
  pub next : k ≡ class_count class (receipts_of d c.deposits) + 1

-- a deposit's parts have their forms
pub record HaveForms (d class id text : List ℕ) : Type 0 where
  pub maildrop : is_name d ≡ true
  pub class_name : is_name class ≡ true
  pub deposit_id : is_deposit_id id ≡ true
  pub mail : IsMailText text
  pub digest : length (text_digest text) ≡ 32

-- its receipt has a number that no earlier one has
other_number : (c : Contents) (d class id : List ℕ) (k : ℕ) → AreSound c → IsNew c d class id k → (r : Receipt) → In r c.deposits
    → r.maildrop ≡ d → r.class ≡ class → r.k ≡ k → ⊥
other_number c d class id k s n r i e f g =
    let a = all_in (is_sound_receipt (records_of c)) c.deposits r s.records.deposits i in
    let p = six_parts (is_name r.maildrop) (is_deposit_id r.id) (is_name r.class) (is_counted c.deposits r)
    (nat_le (class_count r.class (receipts_of r.maildrop c.deposits)) most_deposits) (length r.digest == 32) a in
    let q = and_parts (nat_lt 0 r.k) (nat_le r.k (class_count r.class (receipts_of r.maildrop c.deposits))) p.3 in
    let l : r.k ≤ class_count r.class (receipts_of r.maildrop c.deposits) = leb-true r.k (class_count r.class (receipts_of r.maildrop c.deposits)) q.1 in
    let l2 : r.k ≤ class_count class (receipts_of d c.deposits) =
    subst (λ x. r.k ≤ class_count class (receipts_of x c.deposits)) e (subst (λ x. r.k ≤ class_count x (receipts_of r.maildrop c.deposits)) f l) in
    let next = n.next in
    omega arith

other_uid : (c : Contents) (d class id text : List ℕ) (k : ℕ) → AreSound c → IsNew c d class id k → (r : Receipt) → In r c.deposits
    → same_uid r (receipt_for d class id text k) ≡ false
other_uid c d class id text k s n r i = ⊎_elim
    (λ (t : same_uid r (receipt_for d class id text k) ≡ true).
    let p = three_parts (bytes_eq r.maildrop d) (bytes_eq r.class class) (r.k == k) t in
    absurd (other_number c d class id k s n r i (bytes_are r.maildrop d p.0) (bytes_are r.class class p.1) (eqb-true r.k k p.2)))
    (λ f. f)
    (cases_Bool (same_uid r (receipt_for d class id text k)))

none_of : (p : Receipt → Bool) (rs : List Receipt) → find p rs ≡ None → list_any p rs ≡ false
none_of p rs h = sym (found_none (λ (r : Receipt). r) p rs) ∙ ap (λ (o : Option Receipt). is_some (option_map (λ (r : Receipt). r) o)) h

other_id : (c : Contents) (d class id text : List ℕ) (k : ℕ) → IsNew c d class id k → (r : Receipt) → In r c.deposits
    → same_id r (receipt_for d class id text k) ≡ false
other_id c d class id text k n r i = ⊎_elim
    (λ (t : bytes_eq r.maildrop d ≡ true).
    let f = any_in (λ (x : Receipt). bytes_eq x.id id) (receipts_of d c.deposits) r (none_of (λ (x : Receipt). bytes_eq x.id id) (receipts_of d c.deposits) n.new)
    (filter_in (λ (x : Receipt). bytes_eq x.maildrop d) c.deposits r i t) in
    rw (t, f) refl)
    (λ (f : bytes_eq r.maildrop d ≡ false). rw f refl)
    (cases_Bool (bytes_eq r.maildrop d))

other_message : (c : Contents) (d class id text : List ℕ) (k : ℕ) → AreSound c → IsNew c d class id k → (m : Message) → In m (records_of c).messages
    → same_message m (message_for d class text k) ≡ false
other_message c d class id text k s n m i = ⊎_elim
    (λ (t : same_message m (message_for d class text k) ≡ true).
    let p = three_parts (bytes_eq m.maildrop d) (bytes_eq m.class class) (m.k == k) t in
    let a = all_in (is_sound_message (records_of c)) (records_of c).messages m s.records.messages i in
    let q = five_parts (bytes_eq (kept_form m.text) m.text) (nat_lt 0 (octets_of m)) (nat_le (octets_of m) most_octets) (is_one_of m.maildrop c.maildrops)
    (list_any (is_receipt_for m) c.deposits) a in
    let r = found (is_receipt_for m) c.deposits q.4 in
    let u = three_parts (bytes_eq m.maildrop r.0.maildrop) (bytes_eq m.class r.0.class) (m.k == r.0.k) r.2 in
    absurd (other_number c d class id k s n r.0 r.1
    (sym (bytes_are m.maildrop r.0.maildrop u.0) ∙ bytes_are m.maildrop d p.0)
    (sym (bytes_are m.class r.0.class u.1) ∙ bytes_are m.class class p.1)
    (sym (eqb-true m.k r.0.k u.2) ∙ eqb-true m.k k p.2)))
    (λ f. f)
    (cases_Bool (same_message m (message_for d class text k)))

-- ---- sound with a deposit more

message_kept : (c after : Contents) (r : Receipt) (m : Message) → after.maildrops ≡ c.maildrops → after.deposits ≡ c.deposits ++ r ∷ []
    → is_sound_message (records_of c) m ≡ true → is_sound_message (records_of after) m ≡ true
message_kept c after r m e f h =
    let q = five_parts (bytes_eq (kept_form m.text) m.text) (nat_lt 0 (octets_of m)) (nat_le (octets_of m) most_octets) (is_one_of m.maildrop c.maildrops)
    (list_any (is_receipt_for m) c.deposits) h in
    rw (e, f) (five (bytes_eq (kept_form m.text) m.text) (nat_lt 0 (octets_of m)) (nat_le (octets_of m) most_octets) (is_one_of m.maildrop c.maildrops)
    (list_any (is_receipt_for m) (c.deposits ++ r ∷ [])) q.0 q.1 q.2 q.3 (any_front (is_receipt_for m) c.deposits (r ∷ []) q.4))

last_in : {A : Type 0} (xs : List A) (x : A) → In x (xs ++ x ∷ [])
last_in [] x = inl refl
last_in (y ∷ ys) x = inr (last_in ys x)

some_octet : (text : List ℕ) → text ≢ [] → 0 < length text
some_octet [] h = absurd (h refl)
some_octet (x ∷ xs) h = omega arith

new_message : (c : Contents) (d class id text : List ℕ) (k : ℕ) → IsNew c d class id k → HaveForms d class id text
    → is_sound_message (record (records_of c) { deposits = c.deposits ++ receipt_for d class id text k ∷ [] }) (message_for d class text k) ≡ true
new_message c d class id text k n h =
    five (bytes_eq (kept_form text) text) (nat_lt 0 (length text)) (nat_le (length text) most_octets) (is_one_of d c.maildrops)
    (list_any (is_receipt_for (message_for d class text k)) (c.deposits ++ receipt_for d class id text k ∷ []))
    (rw h.mail.kept (bytes_same text)) (lt_test 0 (length text) (some_octet text h.mail.nonempty)) (le_test (length text) most_octets h.mail.within) n.there
    (any_of (is_receipt_for (message_for d class text k)) (c.deposits ++ receipt_for d class id text k ∷ []) (receipt_for d class id text k)
    (last_in c.deposits (receipt_for d class id text k)) (own d class k))
  where
    own : (d class : List ℕ) (k : ℕ) → (bytes_eq d d && bytes_eq class class && k == k) ≡ true
    own d class k = let e : (k == k) ≡ true = grind (arith, nat_tests) in rw (bytes_same d, bytes_same class, e) refl

receipt_kept : (c : Contents) (r q : Receipt) (B : Records) → B.deposits ≡ c.deposits ++ r ∷ [] → class_count r.class (receipts_of r.maildrop c.deposits) < most_deposits
    → is_sound_receipt (records_of c) q ≡ true → is_sound_receipt B q ≡ true
receipt_kept c r q B e few h =
    let n = class_count q.class (receipts_of q.maildrop c.deposits) in
    let n2 = class_count q.class (receipts_of q.maildrop (c.deposits ++ r ∷ [])) in
    let p = six_parts (is_name q.maildrop) (is_deposit_id q.id) (is_name q.class) (is_counted c.deposits q) (nat_le n most_deposits) (length q.digest == 32) h in
    let t = and_parts (nat_lt 0 q.k) (nat_le q.k n) p.3 in
    rw e (six (is_name q.maildrop) (is_deposit_id q.id) (is_name q.class) (is_counted (c.deposits ++ r ∷ []) q) (nat_le n2 most_deposits) (length q.digest == 32)
    p.0 p.1 p.2 (rw (t.0, still_le q.k n n2 t.1 (more q.class q.maildrop c.deposits r)) refl)
    (le_test n2 most_deposits (still_fits q.class q.maildrop c.deposits r most_deposits few (leb-true n most_deposits p.4))) p.5)

new_receipt : (c : Contents) (d class id text : List ℕ) (k : ℕ) (B : Records) → B.deposits ≡ c.deposits ++ receipt_for d class id text k ∷ []
    → IsNew c d class id k → HaveForms d class id text → is_sound_receipt B (receipt_for d class id text k) ≡ true
new_receipt c d class id text k B e n h =
    let r = receipt_for d class id text k in
    let m = class_count class (receipts_of d (c.deposits ++ r ∷ [])) in
    let is : m ≡ class_count class (receipts_of d c.deposits) + 1 = counted_last class d c.deposits r ∙ ap (λ x. class_count class (receipts_of d c.deposits) + x) (counted_own r) in
    let few = n.few in
    let next = n.next in
    let a : nat_lt 0 k ≡ true = lt_test 0 k (omega arith) in
    let b : nat_le k m ≡ true = le_test k m (omega arith) in
    rw e (six (is_name d) (is_deposit_id id) (is_name class) (nat_lt 0 k && nat_le k m) (nat_le m most_deposits) (length (text_digest text) == 32)
    h.maildrop h.deposit_id h.class_name (rw (a, b) refl) (le_test m most_deposits (omega arith)) (rw h.digest refl))

fits_last : (d : List ℕ) (m : Message) (ms : List Message) → ((e : List ℕ) → length (in_maildrop e ms) ≤ most_messages) → length (in_maildrop m.maildrop ms) < most_messages
    → length (in_maildrop d (ms ++ m ∷ [])) ≤ most_messages
fits_last d m ms f room = rw (filter-append (λ (x : Message). bytes_eq x.maildrop d) ms (m ∷ []), length-append) (⊎_elim
    (λ (t : bytes_eq m.maildrop d ≡ true). let e = bytes_are m.maildrop d t in rw (← e, bytes_same m.maildrop) (omega arith))
    (λ (t : bytes_eq m.maildrop d ≡ false). let l = f d in rw t (omega (arith, l)))
    (cases_Bool (bytes_eq m.maildrop d)))

new_key : (key n : ℕ) → nat_le key n ≡ true → (key == (n + 1)) ≡ false
new_key key n h = grind (arith, nat_tests)

-- a key that no message has
pub sound_with_deposit : (c : Contents) (d class id text : List ℕ) (k key : ℕ) → AreSound c → IsNew c d class id k → HaveForms d class id text
    → ((x : Keyed) → In x c.messages → (x.key == key) ≡ false)
    → AreSound (with_deposit key (message_for d class text k) (receipt_for d class id text k) c)
sound_with_deposit c d class id text k key s n forms others =
    let b = s.records in
    let r = receipt_for d class id text k in
    let m = message_for d class text k in
    let keyed : Keyed = record { key = key; message = m } in
    let after = with_deposit key m r c in
    let B = records_of after in
    let old = (records_of c).messages in
    let is : B.messages ≡ old ++ m ∷ [] = map-append (λ (x : Keyed). x.message) c.messages (keyed ∷ []) in
    record {
      records = record {
        clerks = b.clerks;
        clerks_apart = b.clerks_apart;
        clerks_fit = b.clerks_fit;
        maildrops = b.maildrops;
        maildrops_apart = b.maildrops_apart;
        maildrops_fit = b.maildrops_fit;
        messages = subst (λ (ms : List Message). list_all (is_sound_message B) ms ≡ true) (sym is)
            (all_last (is_sound_message B) old m
            (all_weaker (is_sound_message (records_of c)) (is_sound_message B) old (λ x i. message_kept c after r x refl refl) b.messages)
            (new_message c d class id text k n forms));
        messages_apart = subst (λ (ms : List Message). are_distinct same_message ms ≡ true) (sym is)
            (distinct_last same_message old m b.messages_apart (other_message c d class id text k s n));
        messages_fit = λ e. subst (λ (ms : List Message). length (in_maildrop e ms) ≤ most_messages) (sym is) (fits_last e m old b.messages_fit n.room);
        deposits = all_last (is_sound_receipt B) c.deposits r
            (all_weaker (is_sound_receipt (records_of c)) (is_sound_receipt B) c.deposits (λ q i. receipt_kept c r q B refl n.few) b.deposits)
            (new_receipt c d class id text k B refl n forms);
        ids_apart = distinct_last same_id c.deposits r b.ids_apart (other_id c d class id text k n);
        uids_apart = distinct_last same_uid c.deposits r b.uids_apart (other_uid c d class id text k s n);
        policy = b.policy;
      };
      keys = distinct_last (λ (x y : Keyed). x.key == y.key) c.messages keyed s.keys others;
    }

pub kept_with_deposit : (c : Contents) (d class id text : List ℕ) (k : ℕ) → IsKept c → IsNew c d class id k → HaveForms d class id text
    → IsKept (with_deposit (length (c.deposits ++ receipt_for d class id text k ∷ [])) (message_for d class text k) (receipt_for d class id text k) c)
kept_with_deposit c d class id text k h n forms =
    let key = length (c.deposits ++ receipt_for d class id text k ∷ []) in
    let keyed : Keyed = record { key = key; message = message_for d class text k } in
    let longer : key ≡ length c.deposits + 1 = length-append c.deposits (receipt_for d class id text k ∷ []) in
    record {
      sound = sound_with_deposit c d class id text k key h.sound n forms
          (λ x i. rw longer (new_key x.key (length c.deposits) (all_in (λ (x : Keyed). nat_le x.key (length c.deposits)) c.messages x h.keys i)));
      keys = all_last (λ (x : Keyed). nat_le x.key key) c.messages keyed
          (all_weaker (λ (x : Keyed). nat_le x.key (length c.deposits)) (λ (x : Keyed). nat_le x.key key) c.messages (λ x i t. still_le x.key (length c.deposits) key t (omega arith)) h.keys)
          (le_test key key (omega arith));
    }

-- ---- how a deposit was judged

there_or_not : (there : Bool) (present : ℕ) (rs : List Receipt) (class id text : List ℕ) (uid : Uid) → deposit_result (deposit_answer there present rs class id text) ≡ Ok (stored.New uid)
    → (there ≡ true) × (deposit_result (deposit_answered (receipt_of id rs) class text (is_full present rs class) (class_count class rs + 1)) ≡ Ok (stored.New uid))
there_or_not true present rs class id text uid h = (refl, h)
there_or_not false present rs class id text uid h = absurd (cc)

never_new : (b : Bool) (u uid : Uid) → deposit_result (if b then KnownAs u else changes.Conflict) ≡ Ok (stored.New uid) → ⊥
never_new true u uid h = cc
never_new false u uid h = cc

accepted_as : (o : Option Receipt) (full : Bool) (class text : List ℕ) (next : ℕ) (uid : Uid) → deposit_result (deposit_answered o class text full next) ≡ Ok (stored.New uid)
    → (o ≡ None) × (full ≡ false) × (uid.k ≡ next) × (uid.class ≡ class)
accepted_as (Some r) full class text next uid h =
    absurd (never_new (bytes_eq r.class class && bytes_eq r.digest (text_digest text)) (record { class = r.class; k = r.k }) uid h)
accepted_as None true class text next uid h = absurd (cc)
accepted_as None false class text next uid h =
    let u : Uid = record { class = class; k = next } in
    let e : u ≡ uid = cc in
    (refl, refl, ap (λ (x : Uid). x.k) (sym e), ap (λ (x : Uid). x.class) (sym e))

below : (m n : ℕ) → nat_le m n ≡ false → n < m
below m n h = grind (arith, nat_tests)

-- a deposit that is answered with a new unique-id is new, and the unique-id is of its class
pub judged_new : (c : Contents) (d class id text : List ℕ) (uid : Uid) → deposit_result (deposit_answer_in c d class id text) ≡ Ok (stored.New uid)
    → IsNew c d class id uid.k × (uid.class ≡ class)
judged_new c d class id text uid h =
    let rs = receipts_of d c.deposits in
    let p = there_or_not (is_one_of d c.maildrops) (present_in d c) rs class id text uid h in
    let q = accepted_as (receipt_of id rs) (is_full (present_in d c) rs class) class text (class_count class rs + 1) uid p.1 in
    let f = or_parts (nat_le most_messages (present_in d c)) (nat_le most_deposits (class_count class rs)) q.1 in
    (record { there = p.0; new = q.0; room = below most_messages (present_in d c) f.0; few = below most_deposits (class_count class rs) f.1; next = q.2 }, q.3)

refusal_is : (expected : Result Deposited VaultFault) (e : VaultFault) → Err e ≡ expected → IsRefusal expected e
refusal_is expected fault.Store h = tt
refusal_is expected fault.NoMemory h = tt
refusal_is expected e h = sym h

answer_is : (expected r : Result Deposited VaultFault) → r ≡ expected → IsAnswer expected r
answer_is expected (Ok x) h = sym h
answer_is expected (Err e) h = refusal_is expected e h

-- the answer is judged by the lists that are kept
judged_in : (d class id text : List ℕ) (k c : Contents) (r : Result Deposited VaultFault) → k ≡ c
    → r ≡ deposit_result (deposit_answer (is_one_of d k.maildrops) (length (kept_in d k.messages)) (receipts_of d k.deposits) class id text)
    → r ≡ deposit_result (deposit_answer_in c d class id text)
judged_in d class id text k c r e h =
    subst (λ (x : Contents). r ≡ deposit_result (deposit_answer_in x d class id text)) e
    (h ∙ ap (λ n. deposit_result (deposit_answer (is_one_of d k.maildrops) n (receipts_of d k.deposits) class id text)) (present_is d k))

-- a deposit that was refused, or known
pub deposit_refused : (d class id text : List ℕ) (k v c : Contents) (e : VaultFault) → k ≡ v → HoldsKept v c
    → Err e ≡ deposit_result (deposit_answer (is_one_of d k.maildrops) (length (kept_in d k.messages)) (receipts_of d k.deposits) class id text)
    → IsDeposited (HoldsKept v) c d class id text (Err e)
deposit_refused d class id text k v c e s h j = record {
  answer = answer_is (deposit_result (deposit_answer_in c d class id text)) (Err e) (judged_in d class id text k c (Err e) (s ∙ sym h.same) j);
  held = h;
}

-- a deposit that is new
pub deposit_accepted : (d class id text : List ℕ) (k v c next : Contents) (uid : Uid) → k ≡ v → HoldsKept v c → HaveForms d class id text
    → Ok (stored.New uid) ≡ deposit_result (deposit_answer (is_one_of d k.maildrops) (length (kept_in d k.messages)) (receipts_of d k.deposits) class id text)
    → next ≡ with_deposit (length (k.deposits ++ receipt_for d class id text uid.k ∷ [])) (message_for d class text uid.k) (receipt_for d class id text uid.k) k
    → IsDeposited (HoldsKept next) c d class id text (Ok (stored.New uid))
deposit_accepted d class id text k v c next uid s h forms j e =
    let same : k ≡ c = s ∙ sym h.same in
    let r = receipt_for d class id text uid.k in
    let is : next ≡ with_deposit (length (c.deposits ++ r ∷ [])) (message_for d class text uid.k) r c =
    e ∙ ap (λ (x : Contents). with_deposit (length (x.deposits ++ r ∷ [])) (message_for d class text uid.k) r x) same in
    let judged = judged_in d class id text k c (Ok (stored.New uid)) same j in
    let kept = kept_with_deposit c d class id text uid.k (record { sound = h.sound; keys = h.keys }) (judged_new c d class id text uid (sym judged)).0 forms in
    record {
      answer = answer_is (deposit_result (deposit_answer_in c d class id text)) (Ok (stored.New uid)) judged;
      held = (length (c.deposits ++ r ∷ []), record { same = sym is; sound = kept.sound; keys = kept.keys });
    }

-- ---- what the code tells

alike : {A B C D E F R : Type 0} (f : A → B → C → D → E → F → R) (a a' : A) (b b' : B) (c c' : C) (d d' : D) (e e' : E) (g g' : F)
    → a ≡ a' → b ≡ b' → c ≡ c' → d ≡ d' → e ≡ e' → g ≡ g' → f a b c d e g ≡ f a' b' c' d' e' g'
alike f a a' b b' c c' d d' e e' g g' p q r s t u = cc

pub judged_by : (d class id text d' class' id' : List ℕ) (names : List (List ℕ)) (ms : List Keyed) (rs : List Receipt) (k : Contents) (r : Result Deposited VaultFault)
    → d' ≡ d → class' ≡ class → id' ≡ id → names ≡ k.maildrops → ms ≡ k.messages → rs ≡ k.deposits
    → r ≡ deposit_result (deposit_answer (is_one_of d' names) (length (kept_in d' ms)) (receipts_of d' rs) class' id' text)
    → r ≡ deposit_result (deposit_answer (is_one_of d k.maildrops) (length (kept_in d k.messages)) (receipts_of d k.deposits) class id text)
judged_by d class id text d' class' id' names ms rs k r e f g a b c h =
    h ∙ alike (λ (d : List ℕ) (class : List ℕ) (id : List ℕ) (names : List (List ℕ)) (ms : List Keyed) (rs : List Receipt).
    deposit_result (deposit_answer (is_one_of d names) (length (kept_in d ms)) (receipts_of d rs) class id text))
    d' d class' class id' id names k.maildrops ms k.messages rs k.deposits e f g a b c

pub refused_as : (r : Result Deposited VaultFault) (e : VaultFault) → IsErrAnd r (λ y. y ≡ e) → r ≡ Err e
refused_as (Ok x) e h = absurd h
refused_as (Err y) e h = cc

-- the messages and the deposits alone are changed
abbrev pub with_both : List Keyed → List Receipt → Contents → Contents
with_both ms rs k = record { clerks = k.clerks; maildrops = k.maildrops; messages = ms; deposits = rs; policy = k.policy }

both_alike : (ms ms' : List Keyed) (rs rs' : List Receipt) (k : Contents) → ms ≡ ms' → rs ≡ rs' → with_both ms rs k ≡ with_both ms' rs' k
both_alike ms ms' rs rs' k e f = ap (λ (x : List Keyed). with_both x rs k) e ∙ ap (λ (x : List Receipt). with_both ms' x k) f

-- nothing was kept, for want of memory
pub deposit_unkept : (d class id text : List ℕ) (k v c : Contents) (ms : List Keyed) (rs : List Receipt) (r : Result Deposited VaultFault) → k ≡ v → HoldsKept v c
    → ms ≡ k.messages → rs ≡ k.deposits → r ≡ Err fault.NoMemory → IsDeposited (HoldsKept (with_both ms rs k)) c d class id text r
deposit_unkept d class id text k v c ms rs r s h a b e =
    let same : c ≡ with_both ms rs k = h.same ∙ sym s ∙ sym (both_alike ms k.messages rs k.deposits k a b) in
    let held : HoldsKept (with_both ms rs k) c = record { same = same; sound = h.sound; keys = h.keys } in
    rw e (record { answer = tt; held = held })

pub deposit_left : (d class id text d' class' id' : List ℕ) (n : ℕ) (ms : List Keyed) (rs : List Receipt) (k : Contents) → d' ≡ d → class' ≡ class → id' ≡ id
    → ms ≡ with_message (message_for d' class' text n) rs k.messages → rs ≡ k.deposits ++ receipt_for d' class' id' text n ∷ []
    → with_both ms rs k ≡ with_deposit (length (k.deposits ++ receipt_for d class id text n ∷ [])) (message_for d class text n) (receipt_for d class id text n) k
deposit_left d class id text d' class' id' n ms rs k e f g a b =
    let r : rs ≡ k.deposits ++ receipt_for d class id text n ∷ [] =
    b ∙ alike (λ (d : List ℕ) (class : List ℕ) (id : List ℕ) (n : ℕ) (text : List ℕ) (rs : List Receipt). rs ++ receipt_for d class id text n ∷ [])
    d' d class' class id' id n n text text k.deposits k.deposits e f g refl refl refl in
    let m : ms ≡ with_message (message_for d class text n) (k.deposits ++ receipt_for d class id text n ∷ []) k.messages =
    a ∙ alike (λ (d : List ℕ) (class : List ℕ) (n : ℕ) (text : List ℕ) (rs : List Receipt) (ms : List Keyed). with_message (message_for d class text n) rs ms)
    d' d class' class n n text text rs (k.deposits ++ receipt_for d class id text n ∷ []) k.messages k.messages e f refl refl r refl in
    both_alike ms (with_message (message_for d class text n) (k.deposits ++ receipt_for d class id text n ∷ []) k.messages) rs (k.deposits ++ receipt_for d class id text n ∷ []) k m r

abbrev pub ok_of : Deposited → Result Deposited VaultFault
ok_of x = Ok x

pub ok_new : (x : Deposited) (uid : Uid) → x ≡ stored.New uid → ok_of x ≡ ok_of (stored.New uid)
ok_new x uid e = ap ok_of e
