-- What the check of a message's row and sheets tests, and what it leaves of the connection.
use Rattle.std.specs.Prelude.{◌≡◌, ◌⊎◌, ◌≤◌, ◌<◌, ◌-◌, ◌^◌, ℕ, ℤ, pos, Bool, true, false, ◌&&◌, nat_le, nat_lt, min, List, length, filter, sum_by, All, Option, Some, None, Result, Ok, Err, IsTrue}
use Rattle.std.specs.Int.{cast_unsigned, w64, div_ceil}
use Rattle.std.specs.List.{find, list_any}
use Rattle.std.specs.Str.{bytes_eq}
use Rattle.mailtext.specs.Text.{kept_form}
use Rattle.sqlite.specs.declared.error.Error.{Error}
use Rattle.sqlite.specs.State.{State, KeepsCounts, IsRolledBack}
use Rattle.vault.specs.declared.record.Keyed.{Keyed}
use Rattle.vault.specs.declared.record.Receipt.{Receipt}
use Rattle.vault.specs.Records.{most_octets, most_messages, receipts_of, class_count, is_receipt_for}
use Rattle.mailsql.specs.declared.rows.Message.{Message}
use Rattle.mailsql.specs.Columns.{Rows}
use Rattle.mailsql.specs.Rows.{is_in, is_sheet}
use Rattle.mailsql.specs.Sheets.{sheet_count, sheet_at, whole}
use Rattle.sqlvault.specs.Keeps.{row_key, message_row}

-- ---- between two queries

-- the connection sees what it saw before
pub record Stays (old new : State) : Type 0 where
  pub now_is : new.now ≡ old.now
  pub committed_is : new.committed ≡ old.committed
  pub mode : new.in_transaction ≡ old.in_transaction
  pub was_open : IsTrue new.is_open → IsTrue old.is_open
  pub stays_open : IsTrue old.is_open → IsTrue new.is_open
  pub counts : KeepsCounts old new
  pub marks : new.marks ≡ old.marks

-- after `Ok` the connection sees what it saw; after `Err` also, unless its transaction is gone
abbrev pub Goes : {A : Type 0} → State → State → Result A Error → Type 0
Goes old new (Ok _) = Stays old new
Goes old new (Err _) = Stays old new ⊎ IsRolledBack old new

-- ---- what a check answers

-- a check answers whether P is so
abbrev pub Tells : Type 0 → Bool → Type 0
Tells P true = P
Tells P false = P → ⊥

-- a check answers n, 2^64 - 1 at most, if P is so, and else `None`
abbrev pub Counts : Type 0 → ℕ → Option ℕ → Type 0
Counts P n (Some m) = P × (m ≡ min n (2 ^ 64 - 1))
Counts P n None = P → ⊥

-- a search answers an x whose `f x` has P, or `None` if nothing has P
abbrev pub Brings : {X Y : Type 0} → (X → Y) → (Y → Type 0) → Option X → Type 0
Brings f P (Some x) = P (f x)
Brings {X} {Y} f P None = (y : Y) → P y → ⊥

-- ---- a text and its sheets

-- the message's sheet at this place has these octets, `size` of them
pub record IsPiece (rows : Rows) (mail : ℤ) (place size : ℕ) (octets : List ℕ) : Type 0 where
  pub found : find (is_sheet mail (pos place)) rows.sheets ≡ Some (record { mail = mail; place = pos place; octets = octets })
  pub long : length octets ≡ size

-- each sheet of the text is found at its place
abbrev pub HasSheets : Rows → ℤ → List ℕ → Type 0
HasSheets rows mail text = (place : ℕ) → place < sheet_count text → find (is_sheet mail (pos place)) rows.sheets ≡ Some (sheet_at mail text place)

-- the text has this many octets, and its sheets are found
pub record HasText (rows : Rows) (mail : ℤ) (octets : ℕ) (text : List ℕ) : Type 0 where
  pub long : length text ≡ octets
  pub sheets : HasSheets rows mail text

-- the text is in its kept form, of 1 to 26,214,400 octets
abbrev pub is_kept_text : List ℕ → Bool
is_kept_text text = bytes_eq (kept_form text) text && nat_lt 0 (length text) && nat_le (length text) most_octets

-- ---- a message

-- k is the row's number, and one of 1 to the number of deposits of its class
pub record IsNumber (deposits : List Receipt) (row : Message) (k : ℕ) : Type 0 where
  pub is : row.k ≡ pos k
  pub above : nat_lt 0 k ≡ true
  pub within : nat_le k (class_count row.class (receipts_of row.maildrop deposits)) ≡ true

-- the row is that of message x: its key has 64 bits, its text is in its kept form and lies in its
-- sheets, and it has a receipt
pub record IsStored (rows : Rows) (deposits : List Receipt) (row : Message) (x : Keyed) : Type 0 where
  pub is : row ≡ message_row x
  pub key : nat_lt x.key 18446744073709551616 ≡ true
  pub text : is_kept_text x.message.text ≡ true
  pub receipt : list_any (is_receipt_for x.message) deposits ≡ true
  pub sheets : HasSheets rows (row_key x.key) x.message.text

-- the row is that of some message
abbrev pub HasMessage : Rows → List Receipt → Message → Type 0
HasMessage rows deposits row = (x : Keyed) × IsStored rows deposits row x

-- how many sheets the message of a row has
abbrev pub sheets_in : Message → ℕ
sheets_in row = div_ceil (cast_unsigned w64 row.octets) whole

-- ---- a maildrop

-- the maildrop has 10,000 messages at most, and each of its rows is that of a message
abbrev pub IsSoundIn : Rows → List Receipt → List ℕ → Type 0
IsSoundIn rows deposits d = (length (filter (is_in d) rows.messages) ≤ most_messages) × All (HasMessage rows deposits) (filter (is_in d) rows.messages)

-- how many sheets the maildrop's messages have
abbrev pub sheets_under : Rows → List ℕ → ℕ
sheets_under rows d = sum_by sheets_in (filter (is_in d) rows.messages)
