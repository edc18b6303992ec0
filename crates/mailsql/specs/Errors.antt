-- What an error tells: what the statement itself met, in the state that it found.
use Rattle.std.specs.Prelude.{◌≡◌, ◌⊎◌, ◌+◌, ◌<◌, ℕ, ℤ, pos, Bool, List, [], ◌∷◌, length, Err, Ok}
use Rattle.std.specs.List.{AllByRecursion}
use Rattle.sqlite_value.specs.declared.value.Value.TheVariants.{Int, Blob}
use Rattle.sqlite_trees.specs.declared.store.Store.{Ghosts}
use Rattle.sqlite_value.specs.Order.{Row, column}
use Rattle.sqlite.specs.declared.error.ErrorCode.TheVariants.{OutOfMemory}
use Rattle.sqlite.specs.declared.error.Error.{Error}
use Rattle.sqlite.specs.declared.error.Error.TheVariants.{SqliteFailure}
use Rattle.sqlite.specs.Held.{Held, state}
use Rattle.sqlite.specs.State.{State, Executes, FailsToQuery, Shown, QueriesRow}
use Rattle.mailsql.specs.Tables.{create_texts, create_text, stage, lacked_texts, lacked_text, old_stage}
use Rattle.mailsql.specs.Rows.{Rows, Changes, IsBare, GoesOn}
use Rattle.mailsql.specs.Sheets.{sheet_count, octets_at}
use Rattle.mailsql.specs.Changes.{AddsFirstSheets, AddsSheetsFrom}
use Rattle.mailsql.specs.Statements.{add_sheet_text}

-- there was no memory
abbrev pub IsWantOfMemory : Error → Type 0
IsWantOfMemory e = e ≡ SqliteFailure OutOfMemory

-- the statement met this error
abbrev pub FailsToRun : List ℕ → Row → State → State → Error → Type 0
FailsToRun text params old new e = Executes text params old new (Err e)

-- the statement met this error, after others that made a change
abbrev pub FailsAfter : {S : Type 0} → Ghosts S → (Rows → Rows → Type 0) → List ℕ → Row → Held S → Held S → Error → Type 0
FailsAfter {S} g Change text params old new e = (between : Held S) × Changes Change (state g old) (state g between) × FailsToRun text params (state g between) (state g new) e

-- one of the texts that make the tables met this error, after those before it were run
abbrev pub FailsToCreate : {S : Type 0} → Ghosts S → Held S → Held S → Error → Type 0
FailsToCreate {S} g old new e =
    (at : ℕ) × (at < length create_texts) × (between : Held S) × IsBare (stage at) (state g between).now × GoesOn (state g old) (state g between) × FailsToRun (create_text at) [] (state g between) (state g new) e

-- one of the texts that make an older store's lacked tables met this error, after those before it
abbrev pub FailsToComplete : {S : Type 0} → Ghosts S → (carried : Bool) → Held S → Held S → Error → Type 0
FailsToComplete {S} g carried old new e =
    (at : ℕ) × (at < length (lacked_texts carried)) × (between : Held S) × ((state g between).now.schema ≡ old_stage carried at) × GoesOn (state g old) (state g between)
    × FailsToRun (lacked_text carried at) [] (state g between) (state g new) e

-- one of the sheets of a text met this error, after those before it were added
abbrev pub FailsToAddSheets : {S : Type 0} → Ghosts S → ℤ → List ℕ → Held S → Held S → Error → Type 0
FailsToAddSheets g mail text old new e =
    (place : ℕ) × (place < sheet_count text) × FailsAfter g (AddsFirstSheets place mail text) add_sheet_text (Int mail ∷ Int (pos place) ∷ Blob (octets_at text place) ∷ []) old new e

-- one of the sheets from this place on met this error, after those before it were added
abbrev pub FailsToAddRest : {S : Type 0} → Ghosts S → ℤ → List ℕ → (from : ℕ)
    → Held S → Held S → Error → Type 0
FailsToAddRest g mail text from old new e =
    (n : ℕ) × (from + n < sheet_count text)
    × FailsAfter g (AddsSheetsFrom from n mail text) add_sheet_text
    (Int mail ∷ Int (pos (from + n)) ∷ Blob (octets_at text (from + n)) ∷ []) old new e

-- the query met this error, or showed rows for whose records there was no memory
abbrev pub FailsToRead : List ℕ → Row → State → State → Error → Type 0
FailsToRead text params old new e = FailsToQuery text params old new e ⊎ (IsWantOfMemory e × (rows : List Row) × Shown text params old new rows)

-- the query met this error, or showed a number for which there was no memory
abbrev pub FailsToCount : List ℕ → Row → State → State → Error → Type 0
FailsToCount text params old new e = FailsToQuery text params old new e ⊎ (IsWantOfMemory e × (row : Row) × QueriesRow text params old new (Ok row))

-- the query met this error; or it showed rows and, if each can be read as a record, there was no
-- memory for a record
abbrev pub FailsToReadAs : (Row → Type 0) → List ℕ → Row → State → State → Error → Type 0
FailsToReadAs Holds text params old new e = FailsToQuery text params old new e ⊎ ((rows : List Row) × Shown text params old new rows × (AllByRecursion Holds rows → IsWantOfMemory e))

-- the query met this error; or it showed a row and, if that holds a number, there was no memory
abbrev pub FailsToCountAs : List ℕ → Row → State → State → Error → Type 0
FailsToCountAs text params old new e =
    QueriesRow text params old new (Err e) ⊎ ((row : Row) × QueriesRow text params old new (Ok row) × ((count : ℕ) → column row 0 ≡ Int (pos count) → IsWantOfMemory e))
