-- How the messages of version 1 move into our tables: each under its key, in order, with its text
-- in sheets. And what a part of the transaction that carries a store over does.
use Rattle.std.specs.Prelude.{◌≡◌, ◌++◌, ◌∷◌, ◌<ℤ◌, ℤ, Bool, true, false, List, [], map, flat_map, IsTrue}
use Rattle.std.specs.Prelude.{Some, Result, Ok, Err}
use Rattle.std.specs.List.{find, AllByRecursion}
use Rattle.sqlite_trees.specs.declared.store.Store.{Ghosts}
use Rattle.sqlite.specs.Held.{Held, state}
use Rattle.sqlite.specs.declared.error.Error.{Error}
use Rattle.sqlite.specs.State.{State, HasCleanDisk}
use Rattle.mailsql.specs.declared.rows.Message.{Message}
use Rattle.mailsql.specs.declared.rows.Sheet.{Sheet}
use Rattle.mailsql.specs.declared.rows.Body.{Body}
use Rattle.mailsql.specs.Sheets.{sheets_of}
use Rattle.mailsql.specs.Apart.{AreRising}
use Rattle.mailsql.specs.Rows.{Rows, rows_in, is_body, is_carried, IsKept, GoesOn, IsHalted}
use Rattle.sqlvault.specs.Stands.{LeavesNoMore, WasClean}

-- ---- the rows

-- the row of a message of version 1
abbrev pub body_head : Body → Message
body_head b = b.head

-- its sheets
abbrev pub body_sheets : Body → List Sheet
body_sheets b = sheets_of b.head.key b.body

-- these messages are added after the others
abbrev pub Moves : List Body → Rows → Rows → Type 0
Moves bodies old new = new ≡ record old { messages = old.messages ++ map body_head bodies; sheets = old.sheets ++ flat_map body_sheets bodies }

-- all messages of version 1 are added, and their old table is emptied
abbrev pub MovesAll : Rows → Rows → Type 0
MovesAll old new = new ≡ record old { messages = old.messages ++ map body_head old.bodies; sheets = old.sheets ++ flat_map body_sheets old.bodies; bodies = [] }

-- a store of version 1 has its messages moved; one of version 2 stays as it is
abbrev pub MovesOld : (carried : Bool) → Rows → Rows → Type 0
MovesOld false old new = new ≡ old
MovesOld true old new = MovesAll old new

-- the messages have keys below this one
abbrev pub AreBelow : ℤ → Rows → Type 0
AreBelow key rows = AllByRecursion (λ (m : Message). m.key <ℤ key) rows.messages

-- the message is added after the others, whose keys are below its own
abbrev pub MovesBody : Body → Rows → Rows → Type 0
MovesBody body old new = AreBelow body.head.key old → Moves (body ∷ []) old new

-- so is the message that version 1 has under this key
abbrev pub MovesKey : ℤ → Rows → Rows → Type 0
MovesKey key old new =
    (body : Body) → find (is_body key) old.bodies ≡ Some body → MovesBody body old new

-- every message of version 1 is
abbrev pub MovesEach : Rows → Rows → Type 0
MovesEach old new = Moves old.bodies old new

-- ---- a part of the transaction

-- a transaction is under way over a store of ours
pub record IsInside (s : State) : Type 0 where
  pub is_open : IsTrue s.is_open
  pub inside : IsTrue s.in_transaction
  pub tables : IsKept s.now

-- it has the tables of version 1, or it hasn't
pub record IsInsideOf (carried : Bool) (s : State) : Type 0 where
  pub under : IsInside s
  pub order : is_carried s.now.trees ≡ carried

-- no message of version 1 was moved yet
pub record IsUnmoved (carried : Bool) (s : State) : Type 0 where
  pub of : IsInsideOf carried s
  pub none : IsTrue carried → (rows_in s.now.trees).messages ≡ []

-- these are the heads of the messages of version 1, in the order of their keys
pub record HasHeads (heads : List Message) (s : State) : Type 0 where
  pub unmoved : IsUnmoved true s
  pub rising : AreRising (rows_in s.now.trees).bodies
  pub are : heads ≡ map body_head (rows_in s.now.trees).bodies

-- the part makes this change of the rows, and a stop leaves no more than before
pub record DoesPart (Change : Rows → Rows → Type 0) (old new : State) : Type 0 where
  pub on : GoesOn old new
  pub tables : IsKept new.now
  pub change : Change (rows_in old.now.trees) (rows_in new.now.trees)
  pub stop : LeavesNoMore old new

-- an error came: the transaction is under way still, or gone
pub record HaltsPart (old new : State) : Type 0 where
  pub halted : IsHalted old new
  pub stop : LeavesNoMore old new

-- the part is done after `Ok`, and halts after `Err`
abbrev pub Part : {A : Type 0} → (Rows → Rows → Type 0) → State → State → Result A Error → Type 0
Part Change old new (Ok x) = DoesPart Change old new
Part Change old new (Err e) = HaltsPart old new

-- A part of the transaction that makes a store, or carries one over, in one word: a connection that
-- is clean at its end was clean before, and if `Begun` held the part makes this change of the
-- rows, or an error came.
pub record Builds {S A : Type 0} (store : Ghosts S) (old new : Held S) (Begun : State → Type 0)
    (Change : Rows → Rows → Type 0) (result : Result A Error) : Type 0 where
  pub clean : WasClean (state store old) (state store new)
  pub part : HasCleanDisk (state store new) → Begun (state store old)
      → Part Change (state store old) (state store new) result
