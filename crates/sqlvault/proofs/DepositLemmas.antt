-- What a deposit is answered of the rows, and what it leaves of them.
use Rattle.std.proofs.Common.{◌≡◌, ℕ, ℤ, pos, SFits, w64, to_z, of_z, to_z-of_z, subst, ◌+◌, ◌<◌, ◌≤◌, Bool, ◌||◌, true, false, List, length, min, Option, Some}
use Rattle.std.proofs.Common.{None, Ok, Err, Result, refl, sym, ap, ◌∙◌, arith}
use Rattle.std.specs.Prelude.{IfOk, nat_le}
use Rattle.std.specs.List.{find}
use Rattle.std.specs.Option.{option_map}
use Rattle.std.specs.Str.{bytes_eq}
use Rattle.vault.specs.declared.answer.Deposited.{Deposited}
use Rattle.vault.specs.declared.answer.Deposited.TheVariants as stored
use Rattle.vault.specs.declared.fault.VaultFault.{VaultFault}
use Rattle.vault.specs.declared.fault.VaultFault.TheVariants as fault
use Rattle.vault.specs.declared.record.Receipt.{Receipt}
use Rattle.vault.specs.Records.{is_one_of, receipts_of, receipt_of, class_count}
use Rattle.vault.specs.Changes.{Contents, deposit_answered, known_or_conflict, is_full}
use Rattle.vault.specs.Calls.{IsAnswer, deposit_result, deposit_answer_in, present_in}
use Rattle.vault.proofs.ListLemmas.{find-filter}
use Rattle.sqlite.specs.declared.error.Error.{Error}
use Rattle.mailsql.specs.declared.rows.Count.{Count}
use Rattle.mailsql.specs.declared.rows.Deposit.{Deposit}
use Rattle.mailsql.specs.declared.rows.Message.{Message}
use Rattle.mailsql.specs.Rows.{Rows, is_deposit, is_count}
use Rattle.mailsql.specs.Changes.{AddsMessage, AddsSheets, SetsCount, AddsDeposit}
use Rattle.creds.specs.declared.uid.Uid.{Uid}
use Rattle.sqlvault.specs.declared.refusal.Refusal.{Refusal}
use Rattle.sqlvault.specs.Keeps.{Keeps, number_in, deposit_row}
use Rattle.sqlvault.specs.Deposits.{PutsMessage, PutsReceipt, count_row, message_of}
use Rattle.sqlvault.proofs.SmallLemmas.{lt-nat_le, le-nat_le, lt-nat_lt, below_64}
use Rattle.sqlvault.proofs.PermutationLemmas.{find-map}
use Rattle.sqlvault.proofs.HoldsLemmas.{same_answer}

-- the count of a class is how many deposits it had
pub count_seen : (rows : Rows) (c : Contents) (asked d named class : List ℕ) (found : Option Count) → Keeps rows c → asked ≡ d → named ≡ class → found ≡ find (is_count asked named) rows.counts
    → number_in found ≡ pos (class_count class (receipts_of d c.deposits))
count_seen rows c asked d named class found k e f is =
    ap number_in is ∙ k.counts asked named ∙ ap (λ x. pos (class_count named (receipts_of x c.deposits))) e ∙ ap (λ x. pos (class_count x (receipts_of d c.deposits))) f

pub ok_known : (r : Result ℕ Error) (n : ℕ) → r ≡ Ok n → IfOk r (λ m. m ≡ n)
ok_known r n e = rw e refl

-- a maildrop that has all the messages that it may have
pub full_of_messages : (class text : List ℕ) (next present seen there cap most : ℕ) (other : Bool) → seen ≡ min there cap → there ≡ present → most ≤ seen
    → deposit_result (deposit_answered None class text (nat_le most present || other) next) ≡ Err fault.Full
full_of_messages class text next present seen there cap most other s t h =
    let e : nat_le most present ≡ true = le-nat_le most present (omega arith) in
    rw e refl

-- else the class has one deposit more
pub accepted_next : (class text : List ℕ) (present seen there cap before count most_messages most_deposits : ℕ) → seen ≡ min there cap → there ≡ present → seen < most_messages → most_messages ≤ cap
    → before ≡ count → before < most_deposits
    → deposit_result (deposit_answered None class text (nat_le most_messages present || nat_le most_deposits count) (count + 1)) ≡ Ok (stored.New (record { class = class; k = before + 1 }))
accepted_next class text present seen there cap before count most_messages most_deposits s t room fits counted few =
    let a : nat_le most_messages present ≡ false = lt-nat_le most_messages present (omega arith) in
    let b : nat_le most_deposits count ≡ false = lt-nat_le most_deposits count (omega arith) in
    rw (a, b, counted) refl

-- ---- an id that was used, or not

receipt_in_rows : (rows : Rows) (c : Contents) (d id : List ℕ) → Keeps rows c → find (is_deposit d id) rows.deposits ≡ option_map deposit_row (receipt_of id (receipts_of d c.deposits))
receipt_in_rows rows c d id k =
    ap (λ (rs : List Deposit). find (is_deposit d id) rs) k.deposits
    ∙ find-map deposit_row (is_deposit d id) c.deposits
    ∙ ap (λ (o : Option Receipt). option_map deposit_row o) (sym (find-filter (λ (r : Receipt). bytes_eq r.maildrop d) (λ (r : Receipt). bytes_eq r.id id) c.deposits))

receipt_seen : (rows : Rows) (c : Contents) (asked d named id : List ℕ) → Keeps rows c → asked ≡ d → named ≡ id
    → find (is_deposit asked named) rows.deposits ≡ option_map deposit_row (receipt_of id (receipts_of d c.deposits))
receipt_seen rows c asked d named id k e f =
    receipt_in_rows rows c asked named k
    ∙ ap (λ x. option_map deposit_row (receipt_of named (receipts_of x c.deposits))) e
    ∙ ap (λ x. option_map deposit_row (receipt_of x (receipts_of d c.deposits))) f

some_receipt : (row : Deposit) (o : Option Receipt) → Some row ≡ option_map deposit_row o → (r : Receipt) × (o ≡ Some r) × (row ≡ deposit_row r)
some_receipt row (Some r) e = (r, refl, cc)
some_receipt row None e = absurd (cc)

no_receipt : (o : Option Receipt) → (let r : Option Deposit = None in r) ≡ option_map deposit_row o → o ≡ None
no_receipt (Some r) e = absurd (cc)
no_receipt None e = refl

-- the row of an id is that of its receipt
pub used : (rows : Rows) (c : Contents) (asked d named id : List ℕ) (row : Deposit) → Keeps rows c → asked ≡ d → named ≡ id → Some row ≡ find (is_deposit asked named) rows.deposits
    → (r : Receipt) × (receipt_of id (receipts_of d c.deposits) ≡ Some r) × (row ≡ deposit_row r)
used rows c asked d named id row k e f is = some_receipt row (receipt_of id (receipts_of d c.deposits)) (is ∙ receipt_seen rows c asked d named id k e f)

-- and if there is no row, there is no receipt
pub unused : (rows : Rows) (c : Contents) (asked d named id : List ℕ) → Keeps rows c → asked ≡ d → named ≡ id → (let r : Option Deposit = None in r) ≡ find (is_deposit asked named) rows.deposits
    → receipt_of id (receipts_of d c.deposits) ≡ None
unused rows c asked d named id k e f is = no_receipt (receipt_of id (receipts_of d c.deposits)) (is ∙ receipt_seen rows c asked d named id k e f)

pub judged_known : (c : Contents) (d class id text : List ℕ) (r : Receipt) (a : Result Deposited VaultFault) → is_one_of d c.maildrops ≡ true
    → receipt_of id (receipts_of d c.deposits) ≡ Some r → a ≡ deposit_result (known_or_conflict class text r) → IsAnswer (deposit_result (deposit_answer_in c d class id text)) a
judged_known c d class id text r a there found e = rw (there, found, ← e) (same_answer a)

pub judged_missing : (c : Contents) (d class id text : List ℕ) → is_one_of d c.maildrops ≡ false
    → (let r : Result Deposited VaultFault = Err fault.NoMaildrop in IsAnswer (deposit_result (deposit_answer_in c d class id text)) r)
judged_missing c d class id text none = rw none refl

pub judged_unknown : (c : Contents) (d class id text : List ℕ) (a : Result Deposited VaultFault) → is_one_of d c.maildrops ≡ true → receipt_of id (receipts_of d c.deposits) ≡ None
    → IsAnswer (deposit_result (deposit_answered None class text (is_full (present_in d c) (receipts_of d c.deposits) class) (class_count class (receipts_of d c.deposits) + 1))) a
    → IsAnswer (deposit_result (deposit_answer_in c d class id text)) a
judged_unknown c d class id text a there none h = rw (there, none) h

-- ---- a message that is put under a key

row_is : (key key' : ℤ) (d d' class class' : List ℕ) (k k' octets octets' : ℤ) → key ≡ key' → d ≡ d' → class ≡ class' → k ≡ k' → octets ≡ octets'
    → (let row : Message = record { key = key; maildrop = d; class = class; k = k; octets = octets } in row) ≡ record { key = key'; maildrop = d'; class = class'; k = k'; octets = octets' }
row_is key key' d d' class class' k k' octets octets' a b e f h i = let row : Message = record { key = a i; maildrop = b i; class = e i; k = f i; octets = h i } in row

pub message_put : (r : Receipt) (text d class bytes : List ℕ) (key k octets : ℤ) (rows mid after : Rows) → SFits w64 key → d ≡ r.maildrop
    → class ≡ r.class → k ≡ pos r.k → octets ≡ pos (length text) → bytes ≡ text
    → AddsMessage (record { key = key; maildrop = d; class = class; k = k; octets = octets }) rows mid → AddsSheets (to_z w64 (of_z w64 key)) bytes mid after
    → PutsMessage (message_of r text) rows after
message_put r text d class bytes key k octets rows mid after fits a b e f h one all = (
  of_z w64 key,
  lt-nat_lt (of_z w64 key) 18446744073709551616 (below_64 key 18446744073709551616 fits refl),
  (
    mid,
    subst (λ (m : Message). AddsMessage m rows mid) (row_is key (to_z w64 (of_z w64 key)) d r.maildrop class r.class k (pos r.k) octets (pos (length text)) (sym (to_z-of_z fits)) a b e f) one,
    subst (λ (t : List ℕ). AddsSheets (to_z w64 (of_z w64 key)) t mid after) h all,
  ),
)

-- ---- the rows of a receipt

pub receipt_put : (r : Receipt) (d class e id named digest : List ℕ) (k : ℤ) (rows mid after : Rows) → d ≡ r.maildrop → class ≡ r.class
    → e ≡ r.maildrop → id ≡ r.id → named ≡ r.class → digest ≡ r.digest → k ≡ pos r.k
    → SetsCount (record { maildrop = d; class = class; k = k }) rows mid → AddsDeposit (record { maildrop = e; id = id; class = named; k = k; digest = digest }) mid after → PutsReceipt r rows after
receipt_put r d class e id named digest k rows mid after d_is class_is e_is id_is named_is digest_is k_is set add =
    let count : record { maildrop = d; class = class; k = k } ≡ count_row r = λ i. let t : Count = record { maildrop = d_is i; class = class_is i; k = k_is i } in t in
    let row : record { maildrop = e; id = id; class = named; k = k; digest = digest }
    ≡ deposit_row r = λ i. let t : Deposit = record { maildrop = e_is i; id = id_is i; class = named_is i; k = k_is i; digest = digest_is i } in t in
    (mid, subst (λ (x : Count). SetsCount x rows mid) count set, subst (λ (x : Deposit). AddsDeposit x mid after) row add)

-- a refusal is no new deposit
pub no_new : (e : Refusal) (u : Uid) → (let r : Result Deposited Refusal = Err e in r ≡ Ok (stored.New u)) → ⊥
no_new e u is = cc
