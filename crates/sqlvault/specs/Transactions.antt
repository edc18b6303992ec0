-- What the beginning and the end of a transaction do to the connection, in one word each.
use Rattle.std.specs.Prelude.{◌≡◌, ◌⊎◌, false, true, Result, Err, OnOk, OnErr}
use Rattle.sqlite_trees.specs.Tree.{Trees}
use Rattle.sqlite_trees.specs.declared.store.Store.{Ghosts}
use Rattle.sqlite.specs.Held.{Held, state}
use Rattle.sqlite.specs.declared.error.Error.{Error}
use Rattle.sqlite.specs.State.{HasCleanDisk, IsLive, Shows, Survives}
use Rattle.vault.specs.Changes.{Contents}
use Rattle.mailsql.specs.Rows.{GoesOn, IsGone, IsHalted, IsUndone}
use Rattle.sqlvault.specs.declared.refusal.Refusal.{Refusal}
use Rattle.sqlvault.specs.declared.refusal.Refusal.TheVariants.{Met}
use Rattle.sqlvault.specs.Refusals.{as_met}
use Rattle.sqlvault.specs.Stands.{Halted, Holds, WasClean}
use Rattle.sqlvault.specs.Stops.{LeavesLast}

module _ {S : Type 0} (store : Ghosts S) (old new : Held S) where
  -- It is begun over what was last committed, if none was under way, or an error came. A stop
  -- leaves what it left before.
  pub record Begins (result : Result (Unit {0}) Error) : Type 0 where
    pub law : LeavesLast (state store old)
    pub ok : HasCleanDisk (state store new)
        → OnOk result (((state store old).in_transaction ≡ false)
        × Shows (state store old) (state store new) (state store old).now
        (state store old).committed true)
    pub err : HasCleanDisk (state store new)
        → OnErr result (IsUndone (state store old) (state store new))
    pub survives : Survives (state store old) (state store new) (λ _. ⊥)

  -- After an error it is gone: what was last committed is held. A stop leaves what it left before.
  pub record Undoes : Type 0 where
    pub holds : (base : Contents) → HasCleanDisk (state store new)
        → Halted (state store old) base → Holds (state store new) base
    pub gone : (first : Held S) → HasCleanDisk (state store new)
        → IsHalted (state store first) (state store old)
        → IsGone (state store first) (state store new)
    pub survives : Survives (state store old) (state store new) (λ _. ⊥)

  -- It is committed, or after an error it is gone. A stop leaves what it left before, or what is
  -- committed.
  pub record Ends (result : Result (Unit {0}) Error) : Type 0 where
    pub clean : WasClean (state store old) (state store new)
    pub live : IsLive (state store old)
    pub ok : HasCleanDisk (state store new) → OnOk result (Shows (state store old)
        (state store new) (state store old).now (state store old).now false)
    pub err : (first : Held S) → HasCleanDisk (state store new)
        → GoesOn (state store first) (state store old)
        → OnErr result (IsGone (state store first) (state store new))
    pub stop : HasCleanDisk (state store new) → (db : Trees) → (state store new).may_leave db
        → (state store old).may_leave db ⊎ (db ≡ (state store old).now.trees)

  -- A transaction in which this was written is ended, or undone after an error.
  pub record Concludes (written : Result (Unit {0}) Error)
      (result : Result (Unit {0}) Refusal) : Type 0 where
    pub clean : WasClean (state store old) (state store new)
    pub ends : OnOk written ((ended : Result (Unit {0}) Error) × (result ≡ as_met ended)
        × Ends ended)
    pub undoes : OnErr written ((e : Error) × (result ≡ Err (Met e)) × Undoes)
