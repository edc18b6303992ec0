-- What carrying an older store over does: its contents stay, the tables that it lacks are made, and
-- the version row becomes ours.
use Rattle.std.specs.Prelude.{◌≡◌, ◌≢◌, ◌⊎◌, ⊤, Bool, true, false, IsTrue, ℤ, pos, Result, Ok, Err, Some, [], ◌∷◌, map, flat_map, codes}
use Rattle.std.specs.List.{find}
use Rattle.sqlite_trees.specs.Tree.{Trees}
use Rattle.sqlite.specs.Effect.{Database, IsDatabase}
use Rattle.sqlite.specs.State.{State}
use Rattle.vault.specs.declared.fault.VaultFault.{VaultFault}
use Rattle.vault.specs.declared.fault.VaultFault.TheVariants.{Store, NoMemory, NotOurs, OldVersion}
use Rattle.vault.specs.Changes.{Contents}
use Rattle.mailsql.specs.declared.rows.MetaRow.{MetaRow}
use Rattle.mailsql.specs.declared.tables.OlderVersion.{OlderVersion}
use Rattle.mailsql.specs.OlderVersions.{is_first}
use Rattle.mailsql.specs.Rows.{Rows, rows_in, is_carried, completed, is_meta_row, IsOld, IsKept}
use Rattle.sqlvault.specs.Keeps.{Keeps, our_meta_row, version}
use Rattle.sqlvault.specs.Moves.{body_head, body_sheets}
use Rattle.sqlvault.specs.Stands.{Holds}

-- ---- the older versions

-- the older versions: 1 (`carried`), which has messages and texts in one table, and 2
abbrev pub old_version : (carried : Bool) → ℤ
old_version true = pos 1
old_version false = pos 2

-- the version row of an older version
abbrev pub old_meta_row : (carried : Bool) → MetaRow
old_meta_row carried = record { name = codes "popbox"; value = old_version carried }

-- The rows of an older store once it is carried over. They are the old ones but for the version row
-- and, from version 1, the messages: each has a row under its old key, and its text is in sheets.
abbrev pub brought : (carried : Bool) → Rows → Rows
brought false rows = record (completed false rows) { meta_rows = our_meta_row ∷ [] }
brought true rows = record (completed true rows) {
  meta_rows = our_meta_row ∷ [];
  messages =
      map body_head rows.bodies;
  sheets = flat_map body_sheets rows.bodies;
  bodies = [];
}

-- the rows of the older store in these trees, once it is carried over
abbrev pub brought_in : Trees → Rows
brought_in db = brought (is_carried db) (rows_in db)

-- our version row has none of the versions 1, 2 and 3
abbrev pub IsOfNoVersion : Rows → Type 0
IsOfNoVersion rows = (meta_row : MetaRow)
    × (find (is_meta_row (codes "popbox")) rows.meta_rows ≡ Some meta_row)
    × ((carried : Bool) → meta_row.value ≢ old_version carried) × (meta_row.value ≢ version)

-- the tables are those of version 1 or of version 2
abbrev pub HasOlder : State → Type 0
HasOlder s = IsOld s.now

-- The tables and the one version row are those of this older version, no transaction is under way,
-- and while the connection is open all is committed.
pub record IsOlder (carried : Bool) (s : State) : Type 0 where
  pub old : IsOld s.now
  pub order : is_carried s.now.trees ≡ carried
  pub meta_row : (rows_in s.now.trees).meta_rows ≡ old_meta_row carried ∷ []
  pub autocommit : s.in_transaction ≡ false
  pub settled : IsTrue s.is_open → s.now ≡ s.committed

-- ---- what comes of it

-- the rows of this older store, once it is carried over, are these contents
abbrev pub KeepsOlder : State → Contents → Type 0
KeepsOlder s c = Keeps (brought_in s.now.trees) c

-- The store is carried over: its one version row was its own, and it now holds the contents
-- that its rows were.
pub record IsCarried (old new : State) : Type 0 where
  pub is_open : IsTrue new.is_open
  pub meta_row : (rows_in old.now.trees).meta_rows ≡ old_meta_row (is_carried old.now.trees) ∷ []
  pub held : (c : Contents) × KeepsOlder old c
  pub kept : (c : Contents) → KeepsOlder old c → Holds new c

-- why it is not carried over
abbrev pub IsUncarried : State → VaultFault → Type 0
IsUncarried old Store = ⊤
IsUncarried old NoMemory = ⊤
IsUncarried old NotOurs = (IsOfNoVersion (rows_in old.now.trees) → ⊥)
    × ((rows_in old.now.trees).meta_rows ≡ old_meta_row (is_carried old.now.trees) ∷ []
    → (c : Contents) → KeepsOlder old c → ⊥)
IsUncarried old OldVersion = IsOfNoVersion (rows_in old.now.trees)
IsUncarried old _ = ⊥

-- the fault comes of a statement's error, or of rows that are no sound records
abbrev pub IsOfRows : VaultFault → Type 0
IsOfRows Store = ⊤
IsOfRows NoMemory = ⊤
IsOfRows NotOurs = ⊤
IsOfRows _ = ⊥

-- what an older store's rows of `meta` are if the check of the version answers this fault
abbrev pub JudgesOlder : Rows → VaultFault → Type 0
JudgesOlder rows Store = ⊤
JudgesOlder rows NoMemory = ⊤
JudgesOlder rows NotOurs = (IsOfNoVersion rows → ⊥)
    × ((carried : Bool) → rows.meta_rows ≢ old_meta_row carried ∷ [])
JudgesOlder rows OldVersion = IsOfNoVersion rows
JudgesOlder rows _ = ⊥

-- the version row of this older version is there alone, or the fault says why not
abbrev pub IsOfOlderVersion : Rows → Result OlderVersion VaultFault → Type 0
IsOfOlderVersion rows (Ok version) = rows.meta_rows ≡ old_meta_row (is_first version) ∷ []
IsOfOlderVersion rows (Err fault) = JudgesOlder rows fault

-- an older store is carried over after `Ok`, and refused for the fault's cause after `Err`
abbrev pub CarriesOver : {A : Type 0} → State → State → Result A VaultFault → Type 0
CarriesOver old new (Ok _) = IsCarried old new
CarriesOver old new (Err fault) = IsUncarried old fault

-- The trees are a whole store of ours with these rows: they list just our tables, and the rows of
-- each are in order.
pub record IsStoreOf (rows : Rows) (db : Trees) : Type 0 where
  pub found : Database
  pub trees : found.trees ≡ db
  pub listed : IsDatabase found
  pub kept : IsKept found
  pub rows_are : rows_in db ≡ rows

-- a stop leaves the old store, or the new one, which is whole and whose rows are contents
abbrev pub LeavesEither : State → State → Type 0
LeavesEither old new = (db : Trees) → new.may_leave db → old.may_leave db ⊎ (IsStoreOf (brought_in old.now.trees) db × ((c : Contents) × KeepsOlder old c))
