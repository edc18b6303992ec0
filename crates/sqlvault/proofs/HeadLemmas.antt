-- Heads as the rows have them.
use Rattle.std.proofs.Common.{◌≡◌, inl, refl, ℕ, ◌+◌, ◌<◌, ◌^◌, true, false, List, [], ◌∷◌, ◌++◌, length, map, take, Some, Result, Ok, Err, sym, ap, subst, ◌∙◌, arith, get_or}
use Rattle.std.specs.Prelude.{◌&&◌, ◌==◌, nat_lt, nat_le, filter, unwrap_or}
use Rattle.std.specs.List.{list_all, list_any}
use Rattle.std.specs.Str.{bytes_eq}
use Rattle.std.specs.Result.{IsErrAnd}
use Rattle.sqlite.specs.declared.error.Error.{Error}
use Rattle.std.proofs.lemmas.Bool.{and_parts}
use Rattle.std.proofs.lemmas.Bool.Decides.{nat_tests}
use Rattle.std.proofs.lemmas.List as list
use Rattle.std.proofs.lemmas.List.{take_more}
use Rattle.creds.specs.Names.{is_name}
use Rattle.vault.specs.declared.answer.Head.{Head}
use Rattle.vault.specs.declared.fault.VaultFault.TheVariants as fault
use Rattle.vault.specs.declared.record.Keyed.{Keyed}
use Rattle.vault.specs.declared.record.Receipt.{Receipt}
use Rattle.vault.specs.declared.record.Message as vault
use Rattle.mailtext.specs.Text.{kept_form}
use Rattle.creds.specs.Names.{is_deposit_id}
use Rattle.vault.specs.Records.{is_sound_message, is_sound_receipt, is_receipt_for, is_counted, is_one_of, octets_of, most_octets, most_deposits, receipts_of, class_count}
use Rattle.vault.specs.Changes.{Contents, AreSound, records_of, head_of, heads, kept_in}
use Rattle.vault.specs.Calls.{IsRefusal, IsAnswer, heads_result, seen_as}
use Rattle.vault.proofs.ListLemmas.{In, length-map, map-append, filter-map, all_in, all_of, all_filter, in_filter, map_in, found, bytes_are}
use Rattle.mailsql.specs.Rows.{Rows, is_in}
use Rattle.mailsql.specs.declared.rows.Message.{Message}
use Rattle.sqlvault.specs.declared.refusal.Refusal.{Refusal}
use Rattle.sqlvault.specs.declared.refusal.Refusal.TheVariants.{Met}
use Rattle.sqlvault.specs.Refusals.{told, answer_of}
use Rattle.sqlvault.proofs.HoldsLemmas.{met}
use Rattle.sqlvault.specs.Keeps.{Keeps, message_row}
use Rattle.sqlvault.specs.RowForms.{AreMailRows}
use Rattle.sqlvault.proofs.SmallLemmas.{nat_lt-true, all_at}
use Rattle.sqlvault.proofs.RemoveLemmas.{num_same}

-- a message that stands if there is none
nobody : Keyed
nobody = record { key = 0; message = record { maildrop = []; class = []; k = 0; text = [] } }

-- the row is that of a message, which can be read back
pub record IsRowOf (i : ℕ) (ms : List Keyed) (row : Message) (x : Keyed) : Type 0 where
  pub place : take (i + 1) ms ≡ take i ms ++ x ∷ []
  pub row_is : row ≡ message_row x
  pub class : is_name x.message.class ≡ true
  pub key : x.key < 2 ^ 64

pub row_at : (ms : List Keyed) (rows : List Message) (i : ℕ) (row : Message) → rows ≡ map message_row ms → list_all (λ (x : Keyed). is_name x.message.class) ms ≡ true
    → list_all (λ (x : Keyed). nat_lt x.key (2 ^ 64)) ms ≡ true → i < length rows → row ≡ get_or rows i row → (x : Keyed) × IsRowOf i ms row x
row_at ms rows i row is classes keys low item =
    let low2 : i < length ms = omega (arith, low, ap length is, length-map message_row ms) in
    let x : Keyed = get_or ms i nobody in
    let fits : nat_lt x.key (2 ^ 64) ≡ true = all_at (λ (y : Keyed). nat_lt y.key (2 ^ 64)) ms i nobody low2 keys in (
      x,
      record {
        place = take_more ms i nobody low2;
        row_is = item ∙ ap (λ l. get_or l i row) is ∙ list.get_or-map message_row ms i nobody row low2;
        class = all_at (λ (y : Keyed). is_name y.message.class) ms i nobody low2 classes;
        key = nat_lt-true x.key (2 ^ 64) fits;
      },
    )

pub next_head : (ms : List Keyed) (i : ℕ) (row : Message) (x : Keyed) (heads : List Head) (head : Head) → IsRowOf i ms row x
    → heads ≡ map head_of (take i ms) → Some head ≡ Some (head_of x) → heads ++ head ∷ [] ≡ map head_of (take (i + 1) ms)
next_head ms i row x heads head r before is = rw (r.place, before, ap (λ o. unwrap_or o head) is) (sym (map-append head_of (take i ms) (x ∷ [])))

-- ---- what the rows of a store say

-- a message of a sound store lies in a maildrop, and a deposit brought it
sound_parts : (c : Contents) → AreSound c → (m : vault.Message) → In m (records_of c).messages → (is_one_of m.maildrop c.maildrops ≡ true) × (list_any (is_receipt_for m) c.deposits ≡ true)
sound_parts c s m i =
    let a = all_in (is_sound_message (records_of c)) (records_of c).messages m s.records.messages i in
    let q = and_parts (bytes_eq (kept_form m.text) m.text && nat_lt 0 (octets_of m) && nat_le (octets_of m) most_octets && is_one_of m.maildrop c.maildrops)
    (list_any (is_receipt_for m) c.deposits) a in
    ((and_parts (bytes_eq (kept_form m.text) m.text && nat_lt 0 (octets_of m) && nat_le (octets_of m) most_octets) (is_one_of m.maildrop c.maildrops) q.0).1, q.1)

-- a message of a sound store has a class of its form, since the deposit that brought it has
class_kept : (c : Contents) → AreSound c → (m : vault.Message) → In m (records_of c).messages → is_name m.class ≡ true
class_kept c s m i =
    let f = found (is_receipt_for m) c.deposits (sound_parts c s m i).1 in
    let r : Receipt = f.0 in
    let u = and_parts (bytes_eq m.maildrop r.maildrop && bytes_eq m.class r.class) (m.k == r.k) f.2 in
    let e = bytes_are m.class r.class (and_parts (bytes_eq m.maildrop r.maildrop) (bytes_eq m.class r.class) u.0).1 in
    let b = all_in (is_sound_receipt (records_of c)) c.deposits r s.records.deposits f.1 in
    let p = and_parts (is_name r.maildrop && is_deposit_id r.id && is_name r.class && is_counted c.deposits r && nat_le (class_count r.class (receipts_of r.maildrop c.deposits)) most_deposits)
    (length r.digest == 32) b in
    let q2 = and_parts (is_name r.maildrop && is_deposit_id r.id && is_name r.class && is_counted c.deposits r) (nat_le (class_count r.class (receipts_of r.maildrop c.deposits)) most_deposits) p.0 in
    let q3 = and_parts (is_name r.maildrop && is_deposit_id r.id && is_name r.class) (is_counted c.deposits r) q2.0 in
    ap is_name e ∙ (and_parts (is_name r.maildrop && is_deposit_id r.id) (is_name r.class) q3.0).1

-- the rows that are found are those of the maildrop's messages
pub have_rows : (d : List ℕ) (c : Contents) (rows : Rows) (found : List Message) → Keeps rows c → found ≡ filter (is_in d) rows.messages → AreMailRows d c found
have_rows d c rows shown keeps is = record {
  rows_are = is ∙ ap (filter (is_in d)) keeps.messages ∙ filter-map message_row (is_in d) c.messages;
  classes = all_of (λ (x : Keyed). is_name x.message.class) (kept_in d c.messages) (λ x i. class_kept c keeps.sound x.message
      (map_in (λ (y : Keyed). y.message) c.messages x (in_filter (λ (y : Keyed). bytes_eq y.message.maildrop d) c.messages x i).0));
  keys = all_filter (λ (x : Keyed). nat_lt x.key (2 ^ 64)) (λ (x : Keyed). bytes_eq x.message.maildrop d) c.messages keeps.keys;
}

-- a maildrop with a message is there
pub there_by : (d : List ℕ) (c : Contents) → AreSound c → 0 < length (kept_in d c.messages) → is_one_of d c.maildrops ≡ true
there_by d c s some = at (kept_in d c.messages) some (λ x i. i)
  where
    at : (ms : List Keyed) → 0 < length ms → ((x : Keyed) → In x ms → In x (kept_in d c.messages)) → is_one_of d c.maildrops ≡ true
    at [] none within = absurd (omega (arith, none))
    at (x ∷ xs) low within = let i = in_filter (λ (y : Keyed). bytes_eq y.message.maildrop d) c.messages x (within x (inl refl)) in
        subst (λ n. is_one_of n c.maildrops ≡ true) (bytes_are x.message.maildrop d i.1) ((sound_parts c s x.message (map_in (λ (y : Keyed). y.message) c.messages x i.0)).0)

-- as many rows as messages
pub no_mail : {d : List ℕ} {c : Contents} (rows : List Message) → (length rows == 0) ≡ true → AreMailRows d c rows → kept_in d c.messages ≡ []
no_mail {d} {c} rows none r = none_in (kept_in d c.messages)
    (sym (length-map message_row (kept_in d c.messages)) ∙ ap (λ (l : List Message). length l) (sym r.rows_are) ∙ num_same (length rows) 0 none)
  where
    none_in : (ms : List Keyed) → length ms ≡ 0 → ms ≡ []
    none_in [] e = refl
    none_in (x ∷ xs) e = absurd (cc)

pub some_mail : {d : List ℕ} {c : Contents} (rows : List Message) → (length rows == 0) ≡ false → AreMailRows d c rows → 0 < length (kept_in d c.messages)
some_mail {d} {c} rows some r =
    let n : length rows ≡ length (kept_in d c.messages) = ap (λ (l : List Message). length l) r.rows_are ∙ length-map message_row (kept_in d c.messages) in
    above (length rows) (length (kept_in d c.messages)) some n
  where
    above : (m n : ℕ) → (m == 0) ≡ false → m ≡ n → 0 < n
    above m n some e = grind (arith, nat_tests)

-- ---- the answer

pub no_maildrop : (d : List ℕ) (c : Contents) → is_one_of d c.maildrops ≡ false → heads_result d c ≡ Err fault.NoMaildrop
no_maildrop d c none = rw none refl

pub shown_heads : (d : List ℕ) (c : Contents) (shown : List Head) → is_one_of d c.maildrops ≡ true → shown ≡ heads d c → heads_result d c ≡ Ok shown
shown_heads d c shown there is = rw there (ap Ok (sym is))

-- an error in the reading of rows
pub unread_heads : {V : Type 0} (items : V → List Head) (d : List ℕ) (c : Contents) (e : Error) (result : Result V Refusal)
    → IsErrAnd result (λ r. r ≡ Met e) → IsAnswer (heads_result d c) (seen_as (answer_of result) items)
unread_heads items d c e (Ok v) is = absurd is
unread_heads items d c e (Err r) is = subst (λ q. IsRefusal (heads_result d c) (told q)) (sym is) (met (heads_result d c) e)
