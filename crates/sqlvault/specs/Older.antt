-- What a part of carrying an older store over does to the connection, whatever it answers, in one
-- word: it only looks at the older store (`AsksOlder`), or it carries the store over, wholly or not
-- at all (`CarriesOlder`).
use Rattle.std.specs.Prelude.{◌≡◌, Bool, IsTrue, Result, OnOk, OnErr, [], ◌∷◌}
use Rattle.sqlite_trees.specs.declared.store.Store.{Ghosts}
use Rattle.sqlite.specs.Held.{Held, state}
use Rattle.sqlite.specs.State.{State, HasCleanDisk, IsUnchanged}
use Rattle.mailsql.specs.Rows.{Rows, IsOld, HasOldTables, IsBegunOn, IsUndone}
use Rattle.mailsql.specs.Rows.{rows_in, is_carried}
use Rattle.sqlvault.specs.declared.refusal.Refusal.{Refusal}
use Rattle.sqlvault.specs.Adopts.{StaysAs}
use Rattle.sqlvault.specs.Carries.{CarriesOver, LeavesEither, brought, old_meta_row}
use Rattle.sqlvault.specs.Refusals.{answer_of}
use Rattle.sqlvault.specs.Stands.{WasClean, LeavesNoMore}

-- while the connection is open all is committed
abbrev pub IsAllCommitted : State → Type 0
IsAllCommitted s = IsTrue s.is_open → s.now ≡ s.committed

-- a transaction is under way over a store of this older version, which has its own version row
-- alone
pub record IsBegunOlder (carried : Bool) (s : State) : Type 0 where
  pub begun : IsBegunOn s
  pub order : is_carried s.now.trees ≡ carried
  pub meta_row : (rows_in s.now.trees).meta_rows ≡ old_meta_row carried ∷ []

-- the rows are brought to our version
abbrev pub Brings : (carried : Bool) → Rows → Rows → Type 0
Brings carried old new = new ≡ brought carried old

-- Queries of an older store. A connection that is clean at their end was clean before. If the
-- older tables are there, it is as it was; after an error its transaction may be gone. A stop
-- leaves no more than before.
pub record AsksOlder {S A E : Type 0} (store : Ghosts S) (old new : Held S)
    (result : Result A E) : Type 0 where
  pub clean : WasClean (state store old) (state store new)
  pub same : HasCleanDisk (state store new) → HasOldTables (state store old)
      → OnOk result (IsUnchanged (state store old) (state store new))
  pub err : HasCleanDisk (state store new) → HasOldTables (state store old)
      → OnErr result (IsUndone (state store old) (state store new))
  pub stop : HasCleanDisk (state store new) → IsOld (state store old).now
      → LeavesNoMore (state store old) (state store new)

-- An older store is carried over, or it is refused for the fault's cause and stays as it was. A
-- stop leaves the older store, or the new one.
pub record CarriesOlder (old new : State) (result : Result (Unit {0}) Refusal) : Type 0 where
  pub carried : CarriesOver old new (answer_of result)
  pub stays : OnErr result (StaysAs old new)
  pub stop : LeavesEither old new
