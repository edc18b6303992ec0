-- A message as its row, its number and its text give it.
use Rattle.std.proofs.Common.{◌≡◌, ℕ, zero, suc, ◌+◌, ◌<◌, ◌≤◌, ℤ, pos, SFits, w64, of_z, to_z-of_z, Bool, true, List, [], ◌∷◌, length, map, Option, Some, None, nat_abs, refl, sym}
use Rattle.std.proofs.Common.{ap, subst, ◌∙◌, arith, negsuc, ◌<ℤ◌, ◌≤ℤ◌, false, Result, Ok, Err, true≢false}
use Rattle.std.specs.Prelude.{◌&&◌, ◌==◌, ◌≢◌, ◌↔◌, nat_lt, nat_le, unwrap_or, IfOk}
use Rattle.std.specs.List.{find, list_all, list_any, range_with_len}
use Rattle.std.specs.Str.{bytes_eq}
use Rattle.std.specs.Int.{div_ceil}
use Rattle.std.proofs.lemmas.Bool.{and_parts, false≢true}
use Rattle.std.proofs.lemmas.Bool.Decides.{nat_tests}
use Rattle.std.proofs.lemmas.Int.{ints}
use Rattle.mailtext.specs.Text.{kept_form}
use Rattle.mailtext.specs.MailText.{IsMailText}
use Rattle.creds.specs.Names.{is_name, is_deposit_id}
use Rattle.vault.specs.declared.record.Keyed.{Keyed}
use Rattle.vault.specs.declared.record.Message as vault
use Rattle.vault.specs.declared.record.Receipt.{Receipt}
use Rattle.vault.specs.Records.{most_octets, most_deposits, receipts_of, class_count, is_receipt_for, is_sound_receipt, is_counted}
use Rattle.vault.proofs.ListLemmas.{all_in, found, bytes_are, bytes_same}
use Rattle.sqlite.specs.declared.error.Error.{Error}
use Rattle.mailsql.specs.declared.rows.Count.{Count}
use Rattle.mailsql.specs.declared.rows.Message.{Message}
use Rattle.mailsql.specs.Columns.{Rows}
use Rattle.mailsql.specs.Rows.{is_count}
use Rattle.mailsql.specs.Sheets.{sheet_count, sheet_at, sheets_of, joined}
use Rattle.mailsql.proofs.CutLemmas.{sheets_are_the_text}
use Rattle.sqlvault.specs.Keeps.{number_in, row_key, message_row}
use Rattle.sqlvault.specs.Parts.{Finds, DepositsAre, records_with}
use Rattle.sqlvault.specs.Stored.{Brings, HasSheets, HasText, is_kept_text, IsNumber, IsStored}
use Rattle.sqlvault.proofs.RemoveLemmas.{num_same}
use Rattle.sqlvault.proofs.NumberLemmas.{number_has_receipt}
use Rattle.sqlvault.proofs.SmallLemmas.{both_hold, nat_le-true, lt-nat_lt, below_64, pos_same}
use Rattle.mailsql.proofs.WithoutLemmas.{bool_same}

-- ---- what was read is a message

pub message_stored : (rows : Rows) (deposits : List Receipt) (row : Message) (k octets : ℕ) (text : List ℕ) → DepositsAre rows deposits
    → SFits w64 row.key → IsNumber deposits row k → row.octets ≡ pos octets
    → HasText rows row.key octets text → is_kept_text text ≡ true → (x : Keyed) × IsStored rows deposits row x
message_stored rows deposits row k octets text d fits n oct h kept =
    let m : vault.Message = record { maildrop = row.maildrop; class = row.class; k = k; text = text } in
    let key : row_key (of_z w64 row.key) ≡ row.key = to_z-of_z fits in
    let long : row.octets ≡ pos (length text) = oct ∙ ap pos (sym h.long) in (
      record { key = of_z w64 row.key; message = m },
      record {
        is = λ i. let t : Message = record { key = sym key i; maildrop = row.maildrop; class = row.class; k = n.is i; octets = long i } in t;
        key = lt-nat_lt (of_z w64 row.key) 18446744073709551616 (below_64 row.key 18446744073709551616 fits refl);
        text = kept;
        receipt = number_has_receipt deposits m d.sound d.uids_apart n.above n.within;
        sheets = subst (λ z. HasSheets rows z text) (sym key) h.sheets;
      },
    )

-- ---- what a message has

-- its number is one that its class was given
counted : (deposits : List Receipt) (m : vault.Message) → list_all (is_sound_receipt (records_with [] deposits)) deposits ≡ true → list_any (is_receipt_for m) deposits ≡ true
    → (nat_lt 0 m.k ≡ true) × (nat_le m.k (class_count m.class (receipts_of m.maildrop deposits)) ≡ true)
counted deposits m sound any =
    let r = found (is_receipt_for m) deposits any in
    let s = all_in (is_sound_receipt (records_with [] deposits)) deposits r.0 sound r.1 in
    let a = and_parts (bytes_eq m.maildrop r.0.maildrop && bytes_eq m.class r.0.class) (m.k == r.0.k) r.2 in
    let b = and_parts (bytes_eq m.maildrop r.0.maildrop) (bytes_eq m.class r.0.class) a.0 in
    let n = class_count r.0.class (receipts_of r.0.maildrop deposits) in
    let p1 = and_parts (is_name r.0.maildrop && is_deposit_id r.0.id && is_name r.0.class && is_counted deposits r.0 && nat_le n most_deposits) (length r.0.digest == 32) s in
    let p2 = and_parts (is_name r.0.maildrop && is_deposit_id r.0.id && is_name r.0.class && is_counted deposits r.0) (nat_le n most_deposits) p1.0 in
    let p3 = and_parts (is_name r.0.maildrop && is_deposit_id r.0.id && is_name r.0.class) (is_counted deposits r.0) p2.0 in
    let p4 = and_parts (nat_lt 0 r.0.k) (nat_le r.0.k n) p3.1 in
    let k = sym (num_same m.k r.0.k a.1) in
    let d = sym (bytes_are m.maildrop r.0.maildrop b.0) in
    let c = sym (bytes_are m.class r.0.class b.1) in (
      subst (λ x. nat_lt 0 x ≡ true) k p4.0,
      subst (λ x. nat_le x (class_count m.class (receipts_of m.maildrop deposits)) ≡ true) k
          (subst (λ x. nat_le r.0.k (class_count x (receipts_of m.maildrop deposits)) ≡ true) c
          (subst (λ x. nat_le r.0.k (class_count r.0.class (receipts_of x deposits)) ≡ true) d p4.1)),
    )

pub number_stored : (rows : Rows) (deposits : List Receipt) (row : Message) (x : Keyed) → DepositsAre rows deposits → IsStored rows deposits row x → IsNumber deposits row x.message.k
number_stored rows deposits row x d s =
    let c = counted deposits x.message d.sound s.receipt in
    let r : IsNumber deposits (message_row x) x.message.k = record { is = refl; above = c.0; within = c.1 } in
    subst (λ (y : Message). IsNumber deposits y x.message.k) (sym s.is) r

-- so is its text in its sheets
pub text_stored : (rows : Rows) (deposits : List Receipt) (row : Message) (x : Keyed) → IsStored rows deposits row x → HasText rows row.key (length x.message.text) x.message.text
text_stored rows deposits row x s =
    let r : HasText rows (row_key x.key) (length x.message.text) x.message.text = record { long = refl; sheets = s.sheets } in
    subst (λ (y : Message). HasText rows y.key (length x.message.text) x.message.text) (sym s.is) r

pub octets_stored : (rows : Rows) (deposits : List Receipt) (row : Message) (x : Keyed) → IsStored rows deposits row x → row.octets ≡ pos (length x.message.text)
octets_stored rows deposits row x s = ap (λ (y : Message). y.octets) s.is

pub few_octets : (text : List ℕ) → is_kept_text text ≡ true → length text ≤ 26214400
few_octets text h = nat_le-true (length text) most_octets (and_parts (bytes_eq (kept_form text) text && nat_lt 0 (length text)) (nat_le (length text) most_octets) h).1

-- ---- the rows have one text alone

mapped_same : {X : Type 0} (f g : ℕ → X) (a n : ℕ) → ((k : ℕ) → k < a + n → f k ≡ g k) → map f (range_with_len a n) ≡ map g (range_with_len a n)
mapped_same f g a zero h = refl
mapped_same f g a (suc n) h = λ i. h a (omega arith) i ∷ mapped_same f g (a + 1) n (λ k low. h k (omega (arith, low))) i

pub text_unique : (rows : Rows) (mail : ℤ) (octets : ℕ) (a b : List ℕ) → HasText rows mail octets a → HasText rows mail octets b → a ≡ b
text_unique rows mail octets a b h k =
    let long : length a ≡ length b = h.long ∙ sym k.long in
    let count : sheet_count a ≡ sheet_count b = ap (λ n. div_ceil n 4096) long in
    let same : sheets_of mail a ≡ sheets_of mail b =
    mapped_same (sheet_at mail a) (sheet_at mail b) 0 (sheet_count a) (λ p low. one p (sym (h.sheets p (under p low)) ∙ k.sheets p (subst (λ n. p < n) count (under p low))))
    ∙ ap (λ n. map (sheet_at mail b) (range_with_len 0 n)) count in
    sym (sheets_are_the_text mail a).text_is ∙ ap joined same ∙ (sheets_are_the_text mail b).text_is
  where
    one : (p : ℕ) → Some (sheet_at mail a p) ≡ Some (sheet_at mail b p) → sheet_at mail a p ≡ sheet_at mail b p
    one p e = ap (λ o. unwrap_or o (sheet_at mail a p)) e

    plain : (n : ℕ) → 0 + n ≡ n
    plain n = omega arith

    under : (p : ℕ) → p < 0 + sheet_count a → p < sheet_count a
    under p low = subst (λ n. p < n) (plain (sheet_count a)) low

-- what the sheets hold isn't a kept form
pub text_refused : (rows : Rows) (deposits : List Receipt) (row : Message) (octets : ℕ) (text : List ℕ) (x : Keyed) → row.octets ≡ pos octets
    → HasText rows row.key octets text → (is_kept_text text ≡ true → ⊥)
    → IsStored rows deposits row x → ⊥
text_refused rows deposits row octets text x oct h not_kept s =
    let same : octets ≡ length x.message.text = pos_same (sym oct ∙ octets_stored rows deposits row x s) in
    let e = text_unique rows row.key octets x.message.text text (subst (λ n. HasText rows row.key n x.message.text) (sym same) (text_stored rows deposits row x s)) h in
    not_kept (subst (λ t. is_kept_text t ≡ true) e s.text)

-- ---- what the count of a class says

pub count_told : (rows : Rows) (deposits : List Receipt) (row : Message) (asked named : List ℕ) (count : Count) (o : Option Count)
    → DepositsAre rows deposits → asked ≡ row.maildrop → named ≡ row.class
    → o ≡ find (is_count asked named) rows.counts → o ≡ Some count → count.k ≡ pos (class_count row.class (receipts_of row.maildrop deposits))
count_told rows deposits row asked named count o d a n is e =
    ap number_in (sym e ∙ is) ∙ d.counts asked named ∙ ap (λ x. pos (class_count named (receipts_of x deposits))) a ∙ ap (λ x. pos (class_count x (receipts_of row.maildrop deposits))) n

pub not_counted : (deposits : List Receipt) (row : Message) (most : ℤ) (k : ℕ) → most ≡ pos (class_count row.class (receipts_of row.maildrop deposits)) → most <ℤ row.k → IsNumber deposits row k → ⊥
not_counted deposits row most k is above n = clash (class_count row.class (receipts_of row.maildrop deposits)) k most row.k is n.is above
    (nat_le-true k (class_count row.class (receipts_of row.maildrop deposits)) n.within)
  where
    clash : (n k : ℕ) (most z : ℤ) → most ≡ pos n → z ≡ pos k → most <ℤ z → k ≤ n → ⊥
    clash n k most z a b c d = omega (arith, ints, a, b, c, d)

-- if nothing is counted, no number was given
pub none_told : (rows : Rows) (deposits : List Receipt) (row : Message) (asked named : List ℕ) (o : Option Count) → DepositsAre rows deposits → asked ≡ row.maildrop → named ≡ row.class
    → o ≡ find (is_count asked named) rows.counts → o ≡ None → pos 0 ≡ pos (class_count row.class (receipts_of row.maildrop deposits))
none_told rows deposits row asked named o d a n is e =
    ap number_in (sym e ∙ is) ∙ d.counts asked named ∙ ap (λ x. pos (class_count named (receipts_of x deposits))) a ∙ ap (λ x. pos (class_count x (receipts_of row.maildrop deposits))) n

pub not_numbered : (deposits : List Receipt) (row : Message) (k : ℕ) → pos 0 ≡ pos (class_count row.class (receipts_of row.maildrop deposits)) → IsNumber deposits row k → ⊥
not_numbered deposits row k none n = clash (class_count row.class (receipts_of row.maildrop deposits)) k none n.above
    (nat_le-true k (class_count row.class (receipts_of row.maildrop deposits)) n.within)
  where
    clash : (n k : ℕ) → pos 0 ≡ pos n → nat_lt 0 k ≡ true → k ≤ n → ⊥
    clash n k a b c = let zero : 0 ≡ n = cc in grind (arith, nat_tests, zero, b, c)

-- ---- what the test of the text says

kept_is : (text : List ℕ) → is_kept_text text ≡ true → IsMailText text
kept_is text h =
    let a = and_parts (bytes_eq (kept_form text) text && nat_lt 0 (length text))
    (nat_le (length text) most_octets) h in
    let b = and_parts (bytes_eq (kept_form text) text) (nat_lt 0 (length text)) a.0 in record {
      nonempty = λ e. absurd (false≢true (subst (λ t. nat_lt 0 (length t) ≡ true) e b.1));
      kept = bytes_are (kept_form text) text b.0;
      within = nat_le-true (length text) most_octets a.1;
    }

is_kept_so : (text : List ℕ) → IsMailText text → is_kept_text text ≡ true
is_kept_so text m =
    both_hold (bytes_eq (kept_form text) text && nat_lt 0 (length text))
    (nat_le (length text) most_octets)
    (both_hold (bytes_eq (kept_form text) text) (nat_lt 0 (length text))
    (ap (λ t. bytes_eq t text) m.kept ∙ bytes_same text) (some text m.nonempty))
    (grind (arith, nat_tests, m.within))
  where
    some : (text : List ℕ) → text ≢ [] → nat_lt 0 (length text) ≡ true
    some [] full = absurd (full refl)
    some (b ∷ bs) full = lt-nat_lt 0 (length (b ∷ bs)) (omega arith)

pub kept_told : (kept : Bool) (text : List ℕ) → ((kept ≡ true) ↔ IsMailText text)
    → kept ≡ is_kept_text text
kept_told kept text is = bool_same kept (is_kept_text text) (λ yes. is_kept_so text (is.0 yes))
    (λ yes. is.1 (kept_is text yes))

pub kept_judged : (rows : Rows) (deposits : List Receipt) (row : Message) (octets : ℕ) (text shown : List ℕ) (r : Result Bool Error)
    → IfOk r (λ b. b ≡ is_kept_text shown) → shown ≡ text → HasText rows row.key octets text
    → row.octets ≡ pos octets → SFits w64 row.key → DepositsAre rows deposits → (k : ℕ) × IsNumber deposits row k → IfOk r (Finds (IsStored rows deposits row))
kept_judged rows deposits row octets text shown (Ok true) is same h oct fits d n =
    message_stored rows deposits row n.0 octets text d fits n.1 oct h (ap is_kept_text (sym same) ∙ sym is)
kept_judged rows deposits row octets text shown (Ok false) is same h oct fits d n = λ x s.
    text_refused rows deposits row octets text x oct h (λ e. true≢false (sym e ∙ ap is_kept_text (sym same) ∙ sym is)) s
kept_judged rows deposits row octets text shown (Err e) is same h oct fits d n = tt

-- ---- what the search for the text answered

pub text_read : {V : Type 0} (items : V → List ℕ) (rows rows1 : Rows) (mail mail1 : ℤ) (n : ℕ) (o : Option V) (v : V) → rows1 ≡ rows → mail1 ≡ mail
    → o ≡ Some v → Brings items (HasText rows1 mail1 n) o → HasText rows mail n (items v)
text_read {V} items rows rows1 mail mail1 n o v r m e h =
    let h1 = subst (λ q. Brings items (HasText rows1 mail1 n) q) e h in
    let h2 = subst (λ q. HasText q mail1 n (items v)) r h1 in
    subst (λ q. HasText rows q n (items v)) m h2

pub octets_back : (z shown : ℤ) → shown ≡ z → pos 0 ≤ℤ z → z ≡ pos (nat_abs shown)
octets_back z shown e h = go z h ∙ ap (λ n. pos (nat_abs n)) (sym e)
  where
    go : (y : ℤ) → pos 0 ≤ℤ y → y ≡ pos (nat_abs y)
    go (pos n) h = refl
    go (negsuc n) h = absurd (omega (arith, ints, h))
