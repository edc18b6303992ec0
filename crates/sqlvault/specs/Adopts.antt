-- What adopting a connection does: the store then holds what its tables held, or nothing if it
-- had no table.
use Rattle.std.specs.Prelude.{◌≡◌, ◌≢◌, ◌⊎◌, true, false, IsTrue, ⊤, Result, Ok, Err, OnErr, Some, []}
use Rattle.std.specs.Prelude.{◌∷◌, codes}
use Rattle.std.specs.List.{find}
use Rattle.sqlite_disk.specs.declared.Disk.{Ghosts}
use Rattle.sqlite_wal.specs.Recovery.{Image}
use Rattle.sqlite_store.specs.declared.store.FileStore.{FileStore}
use Rattle.sqlite.specs.declared.error.Error.{Error}
use Rattle.sqlite.specs.Held.{Held}
use Rattle.sqlite.specs.Files.{file_state, IsOpened}
use Rattle.sqlite.specs.Start.{FindsIn}
use Rattle.sqlite.specs.Opening.{is_open_error}
use Rattle.sqlite.specs.State.{State, HasCleanDisk}
use Rattle.vault.specs.declared.fault.VaultFault.{VaultFault}
use Rattle.vault.specs.declared.fault.VaultFault.TheVariants.{Store, NoMemory, NotOurs, OldVersion}
use Rattle.vault.specs.Changes.{Contents}
use Rattle.vault.specs.Plain.{no_contents}
use Rattle.mailsql.specs.declared.rows.MetaRow.{MetaRow}
use Rattle.sqlite_trees.specs.Tree.{Trees}
use Rattle.mailsql.specs.Uses.{marked}
use Rattle.mailsql.specs.Tables.{no_schema}
use Rattle.mailsql.specs.Rows.{Rows, rows_in, IsKept, IsBare, is_meta_row}
use Rattle.mailsql.specs.MetaTable.{HasMetaRows}
use Rattle.mailsql.specs.Names.{is_taken, has_meta_rows}
use Rattle.sqlvault.specs.Keeps.{Keeps, our_meta_row, version}
use Rattle.sqlvault.specs.Carries.{HasOlder, IsCarried, IsUncarried, IsOfNoVersion, IsStoreOf, LeavesEither}
use Rattle.sqlvault.specs.Opened.{Opened}
use Rattle.sqlvault.specs.declared.refusal.Refusal.{Refusal}
use Rattle.sqlvault.specs.Refusals.{open_fault, answer_of}
use Rattle.sqlvault.specs.Stands.{Holds, LeavesNoMore}

-- the store has no table, index or view
abbrev pub IsBlank : State → Type 0
IsBlank s = IsBare no_schema s.now

-- its tables are ours, and their rows are these contents
abbrev pub Stores : State → Contents → Type 0
Stores s c = IsKept s.now × Keeps (rows_in s.now.trees) c

-- our version row has another version
abbrev pub IsOfAnotherVersion : Rows → Type 0
IsOfAnotherVersion rows = (meta_row : MetaRow)
    × (find (is_meta_row (codes "popbox")) rows.meta_rows ≡ Some meta_row)
    × (meta_row.value ≢ version)

-- The store is adopted: one without a table then holds nothing, and one with our tables is as it
-- was and holds the contents of its rows.
pub record IsAdopted (old new : State) : Type 0 where
  pub autocommit : old.in_transaction ≡ false
  pub is_open : IsTrue new.is_open
  pub blank : IsBlank old → Holds new no_contents
  pub same : IsKept old.now → (new.now ≡ old.now) × (new.committed ≡ old.committed)
  pub held : IsKept old.now → (c : Contents) × Keeps (rows_in old.now.trees) c
  pub kept : (c : Contents) → Stores old c → Holds new c

-- Why `NotOurs`: a transaction is under way; or the store has tables, their rows are no contents,
-- and our version row in them has no other version.
pub record IsNotOurs (old : State) : Type 0 where
  pub outside : old.in_transaction ≡ false → (IsBlank old → ⊥) × ((c : Contents) → Stores old c → ⊥)
  pub version : old.in_transaction ≡ false → IsKept old.now → IsOfAnotherVersion (rows_in old.now.trees) → ⊥

-- The store has no table, index or view, or just our tables. Of other stores `IsAdopted` and
-- `IsRefused` say nothing.
abbrev pub IsKnown : State → Type 0
IsKnown s = IsBlank s ⊎ IsKept s.now

-- why a connection is not adopted
abbrev pub IsRefused : State → VaultFault → Type 0
IsRefused old Store = ⊤
IsRefused old NoMemory = ⊤
IsRefused old NotOurs = IsNotOurs old
IsRefused old OldVersion = (old.in_transaction ≡ false) × (IsBlank old → ⊥) × (IsKept old.now → IsOfAnotherVersion (rows_in old.now.trees))
IsRefused old _ = ⊥

-- the fault is one that adopting may answer
abbrev pub IsAdoptFault : VaultFault → Type 0
IsAdoptFault Store = ⊤
IsAdoptFault NoMemory = ⊤
IsAdoptFault NotOurs = ⊤
IsAdoptFault OldVersion = ⊤
IsAdoptFault _ = ⊥

-- the store is adopted after `Ok`, and refused for the fault's cause after `Err`
abbrev pub Adopts : {A : Type 0} → State → State → Result A VaultFault → Type 0
Adopts old new (Ok _) = IsAdopted old new
Adopts old new (Err fault) = IsRefused old fault

-- a stop leaves what it could leave before or, of a store without a table, a whole store of ours
-- that holds nothing
abbrev pub LeavesEmptyToo : State → State → Type 0
LeavesEmptyToo old new = (db : Trees) → new.may_leave db → old.may_leave db ⊎ (IsBlank old × IsStoreOf (marked version) db)

-- if the connection is open, it was open before, its tables are as they were, and a transaction is
-- under way just if one was
abbrev pub StaysAs : State → State → Type 0
StaysAs old new = IsTrue new.is_open → IsTrue old.is_open × ((new.now ≡ old.now) × (new.committed ≡ old.committed)) × (new.in_transaction ≡ old.in_transaction)

-- A store that is known is adopted, or it stays as it was. A stop leaves what it left before, or a
-- new store.
pub record Settles (old new : State) (result : Result (Unit {0}) Refusal) : Type 0 where
  pub adopts : Adopts old new (answer_of result)
  pub stays : OnErr result (StaysAs old new)
  pub stop : IsTrue old.is_open → LeavesEmptyToo old new

-- a transaction is under way, or one of our names is taken and the table `meta` isn't ours
abbrev pub IsForeign : State → Type 0
IsForeign s =
    IsTrue s.in_transaction
    ⊎ ((s.in_transaction ≡ false) × (is_taken s.now.schema ≡ true)
    × (has_meta_rows s.now.schema.tables ≡ false))

-- A store of an unknown version: no transaction is under way, the table `meta` is there, whatever
-- the other tables are, and our version row has none of the versions 1, 2 and 3.
pub record IsOfUnknownVersion (s : State) : Type 0 where
  pub autocommit : s.in_transaction ≡ false
  pub table : HasMetaRows s.now
  pub meta_row : IsOfNoVersion (rows_in s.now.trees)

-- the fault is `OldVersion`, or comes of a statement's error
abbrev pub IsVersionFault : VaultFault → Type 0
IsVersionFault Store = ⊤
IsVersionFault NoMemory = ⊤
IsVersionFault OldVersion = ⊤
IsVersionFault _ = ⊥

-- the store is refused with such a fault: its tables stay as they were, and a stop leaves no more
-- than before
abbrev pub RefusesVersion : State → State → VaultFault → Type 0
RefusesVersion old new fault = IsVersionFault fault × (StaysAs old new × LeavesNoMore old new)

-- the answer is such a refusal
abbrev pub IsVersionRefused : {A : Type 0} → State → State → Result A VaultFault → Type 0
IsVersionRefused old new (Ok _) = ⊥
IsVersionRefused old new (Err fault) = RefusesVersion old new fault

-- what the rows of `meta` are if the check of the version answers this fault
abbrev pub JudgesVersion : Rows → VaultFault → Type 0
JudgesVersion rows Store = ⊤
JudgesVersion rows NoMemory = ⊤
JudgesVersion rows NotOurs = (rows.meta_rows ≢ our_meta_row ∷ []) × (IsOfAnotherVersion rows → ⊥)
JudgesVersion rows OldVersion = IsOfAnotherVersion rows
JudgesVersion rows _ = ⊥

-- our version row is there alone, or the fault says why not
abbrev pub IsOfOurVersion : {A : Type 0} → Rows → Result A VaultFault → Type 0
IsOfOurVersion rows (Ok _) = rows.meta_rows ≡ our_meta_row ∷ []
IsOfOurVersion rows (Err fault) = JudgesVersion rows fault

-- The files held this image: the connection `first` found its database, whose version is known, and
-- was then adopted, or carried over from an older version.
pub record IsFoundIn {D : Type 0} {g : Ghosts D} (image : Image) (now : Held (FileStore D g)) : Type 0 where
  pub first : Held (FileStore D g)
  pub opened : IsOpened first
  pub found : FindsIn image (file_state first)
  pub adopted : IsKnown (file_state first) → IsAdopted (file_state first) (file_state now)
  pub stop : IsKnown (file_state first) → LeavesEmptyToo (file_state first) (file_state now)
  pub carried : HasOlder (file_state first) → IsCarried (file_state first) (file_state now)
  pub carried_stop : HasOlder (file_state first) → LeavesEither (file_state first) (file_state now)
  pub known_version : IsOfUnknownVersion (file_state first) → ⊥

-- an older store is refused for the fault's cause: its tables stay as they were, and a stop leaves
-- the old store or the new one
abbrev pub RefusesOlder : State → State → VaultFault → Type 0
RefusesOlder old new fault = HasOlder old → IsUncarried old fault × (StaysAs old new × LeavesEither old new)

-- the files weren't opened, for an error of sqlite's; or they held this image, and the connection
-- that found its database was refused
abbrev pub IsRefusedIn : {D : Type 0} → Ghosts D → Image → VaultFault → Type 0
IsRefusedIn {D} g image fault =
    ((e : Error) × IsTrue (is_open_error e) × (fault ≡ open_fault e))
    ⊎ ((first : Held (FileStore D g)) × (last : Held (FileStore D g)) × (HasCleanDisk (file_state last) → (IsOpened first × FindsIn image (file_state first)) × (IsKnown (file_state first) → IsRefused (file_state first) fault) × RefusesOlder (file_state first) (file_state last) fault
    × (IsOfUnknownVersion (file_state first) → RefusesVersion (file_state first) (file_state last) fault)))

-- what the answer to opening files that held this image says
abbrev pub OpensIn : {D : Type 0} {g : Ghosts D} → Image → Result (Opened (FileStore D g)) VaultFault → Type 0
OpensIn image (Ok vault) = HasCleanDisk (file_state vault.conn) → IsFoundIn image vault.conn
OpensIn {D} {g} image (Err fault) = IsRefusedIn g image fault
