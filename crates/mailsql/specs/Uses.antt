-- What the sample callers make of a store's rows.
use Rattle.std.specs.Prelude.{false, IsTrue}
use Rattle.sqlite_trees.specs.declared.memory.MemStore.{MemStore}
use Rattle.sqlite_value.specs.declared.value.Value.TheVariants.{Int, Text, Blob}
use Rattle.sqlite.specs.declared.error.Error.{Error}
use Rattle.sqlite.specs.Held.{Held, state}
use Rattle.sqlite.specs.Steps.{over_memory, IsEmpty}
use Rattle.sqlite.specs.State.{State}
use Rattle.std.specs.Prelude.{◌≡◌, ◌⊎◌, Some, None, ℤ, pos, List, ℕ, [], ◌∷◌, ◌++◌, filter, not, codes}
use Rattle.mailsql.specs.declared.uses.Seen.{Seen}
use Rattle.mailsql.specs.Rows.{Name, Rows, Deposit, Message, Sheet, no_rows, is_message, is_sheet_of, rows_in, IsKept, IsReady, IsBegun}
use Rattle.mailsql.specs.Errors.{IsWantOfMemory, FailsToRun, FailsToRead, FailsToCreate}
use Rattle.mailsql.specs.Statements.{begin_text, commit_text, add_meta_row_text, add_maildrop_text}
use Rattle.mailsql.specs.Statements.{add_deposit_text, add_message_text, add_sheet_text, heads_text}
use Rattle.mailsql.specs.Statements.{find_sheet_text, remove_message_text}

-- the connection is open, no transaction is under way, and its rows are these
pub record Stands (s : State) (rows : Rows) : Type 0 where
  pub is_open : IsTrue s.is_open
  pub autocommit : s.in_transaction ≡ false
  pub kept : IsKept s.now
  pub rows_are : rows_in s.now.trees ≡ rows

-- the sample's maildrop
abbrev pub orders : Name
orders = codes "orders"

-- a store with its version row alone
abbrev pub marked : ℤ → Rows
marked version = record no_rows {
  meta_rows = record { name = codes "popbox"; value = version }
      ∷ [];
}

-- the sample's message
abbrev pub sample_message : ℤ → Message
sample_message key = record { key = key; maildrop = orders; class = codes "note"; k = pos 1; octets = pos 4097 }

-- the sample's deposit
abbrev pub sample_deposit : Deposit
sample_deposit = record { maildrop = orders; id = codes "d1"; class = codes "note"; k = pos 1; digest = codes "digest" }

-- a sheet of a message
abbrev pub sheet_at_place : ℤ → ℤ → List ℕ → Sheet
sheet_at_place key place octets = record { mail = key; place = place; octets = octets }

-- the maildrop, the deposit and the message have come
abbrev pub arrived : ℤ → Rows → Rows
arrived key rows = record rows { maildrops = rows.maildrops ++ orders ∷ []; deposits = rows.deposits ++ sample_deposit ∷ []; messages = rows.messages ++ sample_message key ∷ [] }

-- the two sheets have come too
abbrev pub with_sheets : ℤ → List ℕ → List ℕ → Rows → Rows
with_sheets key first second rows = record rows { sheets = (rows.sheets ++ sheet_at_place key (pos 0) first ∷ []) ++ sheet_at_place key (pos 1) second ∷ [] }

-- the message is gone, with its sheets
abbrev pub left_of : ℤ → Rows → Rows
left_of key rows = record rows {
  messages = filter (λ m. not (is_message key orders m)) rows.messages;
  sheets = filter (λ s. not (is_sheet_of key orders rows.messages s)) rows.sheets;
}

-- the head and the sheets were there, and the sheets went with the message
pub record Saw (first second : List ℕ) (seen : Seen) : Type 0 where
  pub heads : seen.heads.items ≡ sample_message seen.key ∷ []
  pub first_before : seen.before.first ≡ Some (sheet_at_place seen.key (pos 0) first)
  pub second_before : seen.before.second ≡ Some (sheet_at_place seen.key (pos 1) second)
  pub first_after : seen.after.first ≡ None
  pub second_after : seen.after.second ≡ None

-- ---- which error a sample caller tells

-- a statement met this error on a store in memory, for which `Before` held
abbrev pub IsMet : (State → Type 0) → (State → State → Error → Type 0) → Error → Type 0
IsMet Before Fails e = (old : Held MemStore) × (new : Held MemStore) × Before (state over_memory old) × Fails (state over_memory old) (state over_memory new) e

-- a statement met this error on a store with our tables, outside a transaction
abbrev pub IsMetAtRest : (State → State → Error → Type 0) → Error → Type 0
IsMetAtRest = IsMet (λ s. IsReady s × (s.in_transaction ≡ false))

-- making the tables of a store in memory met this error
abbrev FailsToMakeTables : Error → Type 0
FailsToMakeTables e = (old : Held MemStore) × (new : Held MemStore) × IsBegun (state over_memory old) × FailsToCreate over_memory old new e

-- there was no memory for the store, or BEGIN, the tables, the version row or COMMIT met this error
abbrev pub FailsToOpenNew : ℤ → Error → Type 0
FailsToOpenNew version e =
    IsWantOfMemory e
    ⊎ (IsMet IsEmpty (FailsToRun begin_text []) e
    ⊎ (FailsToMakeTables e
    ⊎ (IsMet (λ s. IsReady s × (rows_in s.now.trees ≡ no_rows))
    (FailsToRun add_meta_row_text (Text (codes "popbox") ∷ Int version ∷ [])) e
    ⊎ IsMet (λ s. IsReady s × IsTrue s.in_transaction) (FailsToRun commit_text []) e)))

-- adding the maildrop, the deposit or the message met this error
abbrev pub FailsToArrive : Error → Type 0
FailsToArrive e =
    IsMetAtRest (FailsToRun add_maildrop_text (Text orders ∷ [])) e
    ⊎ (IsMetAtRest (FailsToRun add_deposit_text (Text orders ∷ Text (codes "d1") ∷ Text (codes "note") ∷ Int (pos 1) ∷ Blob (codes "digest") ∷ [])) e
    ⊎ IsMetAtRest (FailsToRun add_message_text (Text orders ∷ Text (codes "note") ∷ Int (pos 1) ∷ Int (pos 4097) ∷ [])) e)

-- adding a sheet met this error
abbrev pub FailsToPutSheets : ℤ → List ℕ → List ℕ → Error → Type 0
FailsToPutSheets key first second e = IsMetAtRest (FailsToRun add_sheet_text (Int key ∷ Int (pos 0) ∷ Blob first ∷ [])) e ⊎ IsMetAtRest (FailsToRun add_sheet_text (Int key ∷ Int (pos 1) ∷ Blob second ∷ [])) e

-- reading a sheet met this error
abbrev pub FailsToReadSheets : ℤ → Error → Type 0
FailsToReadSheets key e = IsMetAtRest (FailsToRead find_sheet_text (Int key ∷ Int (pos 0) ∷ [])) e ⊎ IsMetAtRest (FailsToRead find_sheet_text (Int key ∷ Int (pos 1) ∷ [])) e

-- one of the sample's steps met this error
abbrev pub FailsToSample : List ℕ → List ℕ → Error → Type 0
FailsToSample first second e =
    FailsToOpenNew (pos 2) e
    ⊎ (FailsToArrive e
    ⊎ ((key : ℤ) × (FailsToPutSheets key first second e
    ⊎ (IsMetAtRest (FailsToRead heads_text (Text orders ∷ [])) e
    ⊎ (FailsToReadSheets key e
    ⊎ IsMetAtRest (FailsToRun remove_message_text (Int key ∷ Text orders ∷ [])) e)))))
