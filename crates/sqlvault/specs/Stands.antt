-- What a connection holds between two calls of a vault and inside one, and what a stop then leaves.
use Rattle.std.specs.Prelude.{◌≡◌, ◌⊎◌, false, IsTrue, Result, Ok, Err}
use Rattle.sqlite_trees.specs.Tree.{Trees}
use Rattle.sqlite.specs.declared.error.Error.{Error}
use Rattle.sqlite.specs.State.{State, HasCleanDisk}
use Rattle.vault.specs.Changes.{Contents, AreSound}
use Rattle.mailsql.specs.Rows.{Rows, rows_in, IsKept}
use Rattle.sqlvault.specs.Keeps.{Keeps}

-- The connection holds these contents, which are sound: no transaction is under way, and while it
-- is open, its tables are ours, all is committed, and the rows stand for these contents.
pub record Holds (s : State) (c : Contents) : Type 0 where
  pub autocommit : s.in_transaction ≡ false
  pub tables : IsTrue s.is_open → IsKept s.now
  pub settled : IsTrue s.is_open → s.committed ≡ s.now
  pub rows : IsTrue s.is_open → Keeps (rows_in s.now.trees) c
  pub sound : AreSound c

-- whatever a stop now may leave has rows with P
abbrev pub Leaves : State → (Rows → Type 0) → Type 0
Leaves s P = (db : Trees) → s.may_leave db → P (rows_in db)

-- a stop leaves nothing that it couldn't leave before
abbrev pub LeavesNoMore : State → State → Type 0
LeavesNoMore old new = (db : Trees) → new.may_leave db → old.may_leave db

-- a connection that is clean now was clean before
abbrev pub WasClean : State → State → Type 0
WasClean old new = HasCleanDisk new → HasCleanDisk old

-- ---- inside a transaction

-- A transaction is under way and shows these rows. The last commit has the contents `base`, and a
-- stop leaves these.
pub record Within (s : State) (base : Contents) (rows : Rows) : Type 0 where
  pub inside : IsTrue s.in_transaction
  pub is_open : IsTrue s.is_open
  pub tables : IsKept s.now
  pub under : IsKept s.committed
  pub base_is : Keeps (rows_in s.committed.trees) base
  pub rows_are : rows_in s.now.trees ≡ rows
  pub stop : Leaves s (λ left. Keeps left base)

-- a transaction is under way; rolled back, it leaves these contents
pub record Under (s : State) (base : Contents) : Type 0 where
  pub inside : IsTrue s.in_transaction
  pub under : IsKept s.committed
  pub base_is : Keeps (rows_in s.committed.trees) base

-- an error came: the transaction is under way still, or gone
abbrev pub Halted : State → Contents → Type 0
Halted s base = Under s base ⊎ Holds s base

-- a part of a transaction makes this change of the rows, or an error halts the transaction
abbrev pub Makes : {A : Type 0} → (A → Rows → Rows → Type 0) → State → State → Result A Error → Type 0
Makes Change old new (Ok x) = (base : Contents) (rows : Rows) → Within old base rows → (after : Rows) × Change x rows after × Within new base after
Makes Change old new (Err e) = (base : Contents) (rows : Rows) → Within old base rows → Halted new base × Leaves new (λ left. Keeps left base)

-- after `Ok` the store holds what was committed, after `Err` what it held before the transaction
abbrev pub IsEnded : Contents → Contents → State → Result (Unit {0}) Error → Type 0
IsEnded base after new (Ok _) = Holds new after
IsEnded base after new (Err e) = Holds new base
