-- What a deposit does to the rows, and when the contents accept it.
use Rattle.std.specs.Prelude.{◌≡◌, ℕ, true, nat_lt, pos, List, length, Result, Ok}
use Rattle.sqlite_trees.specs.declared.store.Store.{Ghosts}
use Rattle.sqlite.specs.Held.{Held}
use Rattle.mailtext.specs.MailText.{IsMailText}
use Rattle.creds.specs.Names.{is_name, is_deposit_id}
use Rattle.creds.specs.Digests.{text_digest}
use Rattle.vault.specs.declared.answer.Deposited.TheVariants as stored
use Rattle.vault.specs.declared.record.Keyed.{Keyed}
use Rattle.vault.specs.declared.record.Message.{Message}
use Rattle.vault.specs.declared.record.Receipt.{Receipt}
use Rattle.vault.specs.Changes.{Contents, message_for, with_deposit}
use Rattle.vault.specs.Calls.{deposit_result, deposit_answer_in}
use Rattle.mailsql.specs.declared.rows.Count.{Count}
use Rattle.mailsql.specs.Columns.{Rows}
use Rattle.mailsql.specs.Changes.{SetsCount, AddsDeposit, AddsMessage, AddsSheets}
use Rattle.sqlvault.specs.declared.refusal.Refusal.{Refusal}
use Rattle.sqlvault.specs.Frame.{IsOk, MadeOr, Turns}
use Rattle.sqlvault.specs.Keeps.{deposit_row, row_key, message_row}

-- the count of the receipt's class after the deposit: the receipt's number
abbrev pub count_row : Receipt → Count
count_row r = record { maildrop = r.maildrop; class = r.class; k = pos r.k }

-- the count is set, and the receipt's row is added
abbrev pub PutsReceipt : Receipt → Rows → Rows → Type 0
PutsReceipt r old new = (between : Rows) × SetsCount (count_row r) old between × AddsDeposit (deposit_row r) between new

-- the message's row and its sheets are added
abbrev pub PutsKeyed : Keyed → Rows → Rows → Type 0
PutsKeyed x old new = (between : Rows) × AddsMessage (message_row x) old between × AddsSheets (row_key x.key) x.message.text between new

-- they are added under some key of 64 bits
abbrev pub PutsMessage : Message → Rows → Rows → Type 0
PutsMessage m old new = (key : ℕ) × (nat_lt key 18446744073709551616 ≡ true) × PutsKeyed (record { key = key; message = m }) old new

-- the message of a receipt
abbrev pub message_of : Receipt → List ℕ → Message
message_of r text = message_for r.maildrop r.class text r.k

-- the receipt and its message are added
abbrev pub PutsDeposit : Receipt → List ℕ → Rows → Rows → Type 0
PutsDeposit r text old new =
    (between : Rows) × PutsReceipt r old between × PutsMessage (message_of r text) between new

-- the contents accept a deposit of this text, which gets this receipt
pub record Accepts (c : Contents) (r : Receipt) (text : List ℕ) : Type 0 where
  pub maildrop : is_name r.maildrop ≡ true
  pub id : is_deposit_id r.id ≡ true
  pub class : is_name r.class ≡ true
  pub form : IsMailText text
  pub digest : r.digest ≡ text_digest text
  pub sized : length r.digest ≡ 32
  pub answer : deposit_result (deposit_answer_in c r.maildrop r.class r.id text) ≡ Ok (stored.New (record { class = r.class; k = r.k }))

-- the contents with the deposit, its message under some key, are held
abbrev pub IsStored : Receipt → List ℕ → Contents → (Contents → Type 0) → Type 0
IsStored r text c Held = (key : ℕ) × Held (with_deposit key (message_of r text) r c)

-- the deposit is stored, or what was held is still held
abbrev pub Stores : {S : Type 0} → Ghosts S → (old new : Held S) → Receipt → List ℕ → Contents
    → Result (Unit {0}) Refusal → Type 0
Stores store old new r text c result =
    Turns store old new (IsOk result) (MadeOr result (IsStored r text c) c) (IsStored r text c) c
