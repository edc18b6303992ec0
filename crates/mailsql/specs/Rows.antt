-- What a statement does to the typed rows of a store, what an error leaves of them, and what a stop
-- may leave.
use Rattle.std.specs.Prelude.{◌≡◌, ◌⊎◌, ℤ, Bool, true, false, List, [], if◌then◌else◌, IsTrue, bytes_eq, ◌&&◌}
use Rattle.std.specs.Ordering.{is_eq, is_lt, is_ge, int_cmp, on}
use Rattle.std.specs.List.{list_any, AllByRecursion}
use Rattle.std.specs.List.Sorted.{IsPermutation, IsSorted}
use Rattle.sqlite_trees.specs.View.{is_int}
use Rattle.sqlite_trees.specs.Tree.{Trees, rowid, IsTable}
use Rattle.sqlite_schema.specs.declared.schema.Table.{Table}
use Rattle.sqlite_schema.specs.declared.schema.Schema.{Schema}
use Rattle.sqlite_value.specs.Order.{Row}
use Rattle.sqlite.specs.Effect.{Database}
use Rattle.sqlite.specs.State.{State, Shows, IsUnchanged, IsRolledBack}
use Rattle.mailsql.specs.Tables.{schema_of, old_schema, no_schema}
pub use Rattle.mailsql.specs.Columns.{MetaRow, Clerk, Count, Deposit, Message, Sheet, Rule, Group, Member, Body, Name, text_at, number_at, meta_row_of, clerk_of, maildrop_of, count_of, deposit_of, message_of, sheet_of, rule_of, group_of, member_of, body_of, HoldsOctets, HoldsNumber, HoldsMetaRow, HoldsClerk, HoldsName, HoldsCount, HoldsDeposit, HoldsMessage, HoldsSheet, HoldsRule, HoldsGroup, HoldsMember, HoldsBody, Rows, rows_at, bodies_at, is_carried, rows_in, no_rows}

-- ---- a store of ours

-- the schema is that of the store's tables
abbrev pub IsOurs : Database → Type 0
IsOurs db = db.schema ≡ schema_of (is_carried db.trees)

-- the rowids of a table's rows are integers, and rise
abbrev pub AreKeyed : List Row → Type 0
AreKeyed rows = IsTable rows × AllByRecursion (λ r. IsTrue (is_int (rowid r))) rows

-- each of these tables is keyed so
abbrev pub AreKept : List Table → Trees → Type 0
AreKept tables db = AllByRecursion (λ t. AreKeyed (db t.tree)) tables

-- the tables are ours, and their rowids rise
abbrev pub IsKept : Database → Type 0
IsKept db = IsOurs db × AreKept (schema_of (is_carried db.trees)).tables db.trees

-- if the connection is open, it is over a store of ours
abbrev pub HasTables : State → Type 0
HasTables s = IsTrue s.is_open → IsKept s.now

-- the connection is open, over a store of ours
abbrev pub IsReady : State → Type 0
IsReady s = IsTrue s.is_open × IsKept s.now

-- ---- an older store

-- the schema is that of the tables of version 2 or, with its messages, of version 1
abbrev pub IsOldSchema : Database → Type 0
IsOldSchema db = db.schema ≡ old_schema (is_carried db.trees)

-- the schema is an older store's, and the rowids of its tables rise
abbrev pub IsOld : Database → Type 0
IsOld db = IsOldSchema db × AreKept (old_schema (is_carried db.trees)).tables db.trees

-- if the connection is open, it is over an older store
abbrev pub HasOldTables : State → Type 0
HasOldTables s = IsTrue s.is_open → IsOld s.now

-- a transaction is under way over an older store
pub record IsBegunOn (s : State) : Type 0 where
  pub is_open : IsTrue s.is_open
  pub inside : IsTrue s.in_transaction
  pub old : IsOld s.now

-- ---- a statement

-- the change is seen at once, and outside a transaction it is committed
pub record Changes (Change : Rows → Rows → Type 0) (old new : State) : Type 0 where
  pub change : Change (rows_in old.now.trees) (rows_in new.now.trees)
  pub kept : IsKept new.now
  pub shown : Shows old new new.now (if old.in_transaction then old.committed else new.now) old.in_transaction

-- nothing was done, or the transaction was rolled back
abbrev pub IsUndone : State → State → Type 0
IsUndone old new = IsUnchanged old new ⊎ IsRolledBack old new

-- what a stop during a call may leave beside what it might leave before: outside a transaction,
-- the change
abbrev pub MayLeave : (Rows → Rows → Type 0) → State → Trees → Type 0
MayLeave Change old db = IsReady old → (old.in_transaction ≡ false) × Change (rows_in old.now.trees) (rows_in db)

-- ---- several statements of one transaction

-- the transaction goes on
abbrev pub GoesOn : State → State → Type 0
GoesOn old new = Shows old new new.now old.committed true

-- the transaction is gone, with what it wrote
pub record IsGone (old new : State) : Type 0 where
  pub was_open : IsTrue new.is_open → IsTrue old.is_open
  pub undone : IsTrue new.is_open → (new.now ≡ old.committed) × (new.committed ≡ old.committed)
  pub autocommit : new.in_transaction ≡ false

-- after an error the transaction is still under way, or gone
abbrev pub IsHalted : State → State → Type 0
IsHalted old new = GoesOn old new ⊎ IsGone old new

-- ---- the making of the tables

-- these tables have no row
abbrev pub AreEmpty : List Table → Trees → Type 0
AreEmpty tables db = AllByRecursion (λ t. db t.tree ≡ []) tables

-- the schema is this one, and its tables are empty
abbrev pub IsBare : Schema → Database → Type 0
IsBare schema db = (db.schema ≡ schema) × AreEmpty schema.tables db.trees

-- a transaction is under way over a store without tables
pub record IsBegun (s : State) : Type 0 where
  pub is_open : IsTrue s.is_open
  pub inside : IsTrue s.in_transaction
  pub bare : IsBare no_schema s.now

-- the tables are made, and empty
pub record MakesTables (old new : State) : Type 0 where
  pub kept : IsKept new.now
  pub rows : rows_in new.now.trees ≡ no_rows
  pub on : GoesOn old new

-- the rows of an older store with empty tables for those that it lacks: groups and members, and in
-- version 1 mail and sheets too
abbrev pub completed : (carried : Bool) → Rows → Rows
completed false rows = record rows { groups = []; members = [] }
completed true rows = record rows { messages = []; sheets = []; groups = []; members = [] }

-- the tables that an older store lacks are made, and empty, and the others are as they were
pub record CompletesTables (old new : State) : Type 0 where
  pub kept : IsKept new.now
  pub same : is_carried new.now.trees ≡ is_carried old.now.trees
  pub rows : rows_in new.now.trees ≡ completed (is_carried old.now.trees) (rows_in old.now.trees)
  pub on : GoesOn old new

-- ---- what is looked for

-- the numbers are equal
abbrev pub same_int : ℤ → ℤ → Bool
same_int a b = is_eq (int_cmp a b)

-- the row of `meta` has this name
abbrev pub is_meta_row : Name → MetaRow → Bool
is_meta_row name meta_row = bytes_eq meta_row.name name

-- the clerk has this name
abbrev pub is_clerk : Name → Clerk → Bool
is_clerk name clerk = bytes_eq clerk.name name

-- the name is among the names
abbrev pub has_name : Name → List Name → Bool
has_name name names = list_any (λ x. bytes_eq x name) names

-- the count is that of the class in the maildrop
abbrev pub is_count : Name → Name → Count → Bool
is_count maildrop class c = bytes_eq c.maildrop maildrop && bytes_eq c.class class

-- the deposit has this id, in the maildrop
abbrev pub is_deposit : Name → Name → Deposit → Bool
is_deposit maildrop id d = bytes_eq d.maildrop maildrop && bytes_eq d.id id

-- the message is in the maildrop
abbrev pub is_in : Name → Message → Bool
is_in maildrop m = bytes_eq m.maildrop maildrop

-- the message has this key, and is in the maildrop
abbrev pub is_message : ℤ → Name → Message → Bool
is_message key maildrop m = same_int m.key key && bytes_eq m.maildrop maildrop

-- the sheet is the message's, at this place
abbrev pub is_sheet : ℤ → ℤ → Sheet → Bool
is_sheet mail place s = same_int s.mail mail && same_int s.place place

-- the sheet is the message's, at a place from `from` on that is below `end`
abbrev pub is_sheet_between : (mail from end : ℤ) → Sheet → Bool
is_sheet_between mail from end s =
    same_int s.mail mail && (is_ge (int_cmp s.place from) && is_lt (int_cmp s.place end))

-- the sheet is of the message that has this key and is in the maildrop
abbrev pub is_sheet_of : ℤ → Name → List Message → Sheet → Bool
is_sheet_of key maildrop messages s = list_any (λ m. is_message key maildrop m && same_int s.mail m.key) messages

-- the message of version 1 has this key
abbrev pub is_body : ℤ → Body → Bool
is_body key b = same_int b.head.key key

-- the member is the group's
abbrev pub is_member_of : ℤ → Member → Bool
is_member_of group m = same_int m.group group

-- the members, in the order of their places
pub record IsByPlace (members sorted : List Member) : Type 0 where
  pub same : IsPermutation members sorted
  pub rise : IsSorted (on (λ (m : Member). m.place) int_cmp) sorted
