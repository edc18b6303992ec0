-- A deposit in parts, in one open transaction: the row of its message and its first sheets stand,
-- before the rest, the receipt and the count.
use Rattle.std.specs.Prelude.{◌≡◌, ℕ, nat_lt, pos, true, List, Ok, refl}
use Rattle.std.specs.Coded.{Coded, code_by, coded×, coded_ℕ, coded_list}
use Rattle.creds.specs.declared.uid.Uid.{Uid}
use Rattle.vault.specs.declared.answer.Deposited.TheVariants as stored
use Rattle.vault.specs.Changes.{Contents}
use Rattle.vault.specs.Calls.{deposit_result, deposit_answer_in}
use Rattle.mailsql.specs.declared.rows.Message.{Message}
use Rattle.mailsql.specs.Columns.{Rows}
use Rattle.mailsql.specs.Changes.{AddsMessage, AddsSheets, AddsRest}
use Rattle.sqlvault.specs.Deposits.{PutsReceipt}
use Rattle.vault.specs.declared.record.Receipt.{Receipt}
use Rattle.sqlvault.specs.Keeps.{Keeps, row_key}

-- A deposit: its names, the number that it gets, the key of its message, how many octets its text
-- has, and those of them whose sheets stand.
pub record Arrival : Type 0 where
  pub maildrop : List ℕ
  pub class : List ℕ
  pub id : List ℕ
  pub k : ℕ
  pub key : ℕ
  pub octets : ℕ
  pub put : List ℕ

-- the unique-id that it gets
abbrev pub arrival_uid : Arrival → Uid
arrival_uid a = record { class = a.class; k = a.k }

-- the row of its message
abbrev pub arrival_row : Arrival → Message
arrival_row a = record {
  key = row_key a.key;
  maildrop = a.maildrop;
  class = a.class;
  k = pos a.k;
  octets = pos a.octets;
}

-- with these octets put
abbrev pub with_put : List ℕ → Arrival → Arrival
with_put put a = record {
  maildrop = a.maildrop;
  class = a.class;
  id = a.id;
  k = a.k;
  key = a.key;
  octets = a.octets;
  put = put;
}

-- the contents accept a deposit of these names, whatever its text is, with this unique-id
abbrev pub AcceptsAny : Contents → (maildrop class id : List ℕ) → Uid → Type 0
AcceptsAny c d class id uid =
    (text : List ℕ) → deposit_result (deposit_answer_in c d class id text) ≡ Ok (stored.New uid)

-- the rows are those of the contents with its message's row and the sheets that are put
pub record ShowsPart (a : Arrival) (c : Contents) (rows : Rows) : Type 0 where
  pub before : Rows
  pub keeps : Keeps before c
  pub between : Rows
  pub added : AddsMessage (arrival_row a) before between
  pub sheets : AddsSheets (row_key a.key) a.put between rows
  pub key : nat_lt a.key 18446744073709551616 ≡ true
  pub accepted : AcceptsAny c a.maildrop a.class a.id (arrival_uid a)

-- the row of a message, with a key of 64 bits, is added after the others
abbrev pub AddsRow : (key : ℕ) → (maildrop class : List ℕ) → (k octets : ℕ) → Rows → Rows → Type 0
AddsRow key d class k octets old new =
    (nat_lt key 18446744073709551616 ≡ true) × AddsMessage (record {
      key = row_key key;
      maildrop = d;
      class = class;
      k = pos k;
      octets = pos octets;
    }) old new

-- the rest of the sheets of a text, from a place on, and the receipt are added
abbrev pub PutsRest : (from key : ℕ) → (text : List ℕ) → Receipt → Rows → Rows → Type 0
PutsRest from key text r old new =
    (between : Rows) × AddsRest from (row_key key) text old between × PutsReceipt r between new

-- how a deposit is coded: as what it is made of
abbrev pub arrival_code : Coded Arrival
arrival_code = code_by ((List ℕ × (List ℕ × List ℕ)) × ((ℕ × ℕ) × (ℕ × List ℕ)))
    (coded× (coded× (coded_list coded_ℕ) (coded× (coded_list coded_ℕ) (coded_list coded_ℕ)))
    (coded× (coded× coded_ℕ coded_ℕ) (coded× coded_ℕ (coded_list coded_ℕ))))
    (λ a. ((a.maildrop, (a.class, a.id)), ((a.k, a.key), (a.octets, a.put))))
    (λ p. record {
      maildrop = p.0.0;
      class = p.0.1.0;
      id = p.0.1.1;
      k = p.1.0.0;
      key = p.1.0.1;
      octets = p.1.1.0;
      put = p.1.1.1;
    })
    (λ _. refl)
