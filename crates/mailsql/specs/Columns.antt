-- The rows of the store's tables as records: which column of a row each field is, what it must
-- hold, and the records of every table.
use Rattle.std.specs.Prelude.{◌≡◌, ◌⊎◌, ℕ, ℤ, Bool, true, false, ◌&&◌, List, [], map, bytes_eq, codes}
use Rattle.std.specs.List.{list_any}
use Rattle.sqlite_value.specs.declared.value.Value.TheVariants.{Text, Blob}
use Rattle.sqlite_value.specs.Order.{Row, column, bytes}
use Rattle.sqlite_trees.specs.Tree.{Trees, rowid}
use Rattle.sqlite_trees.specs.Objects.{catalog_tree}
use Rattle.sqlite_catalog.specs.Listing.{is_table_row}
use Rattle.sqlite_rules.specs.Edit.{id_in}
use Rattle.sqlite.specs.Values.{IsInt}
use Rattle.mailsql.specs.Tables.{mail_tree}
pub use Rattle.mailsql.specs.declared.rows.MetaRow.{MetaRow}
pub use Rattle.mailsql.specs.declared.rows.Clerk.{Clerk}
pub use Rattle.mailsql.specs.declared.rows.Count.{Count}
pub use Rattle.mailsql.specs.declared.rows.Deposit.{Deposit}
pub use Rattle.mailsql.specs.declared.rows.Message.{Message}
pub use Rattle.mailsql.specs.declared.rows.Sheet.{Sheet}
pub use Rattle.mailsql.specs.declared.rows.Rule.{Rule}
pub use Rattle.mailsql.specs.declared.rows.Group.{Group}
pub use Rattle.mailsql.specs.declared.rows.Member.{Member}
pub use Rattle.mailsql.specs.declared.rows.Body.{Body}

-- a name as its octets
abbrev pub Name : Type 0
Name = List ℕ

-- the octets of a column that holds a text or a blob; place 0 is the rowid
abbrev pub text_at : Row → ℕ → List ℕ
text_at row at = bytes (column row at)

-- the number of a column that holds an integer
abbrev pub number_at : Row → ℕ → ℤ
number_at row at = id_in (column row at)

-- the column holds a text or a blob
abbrev pub HoldsOctets : Row → ℕ → Type 0
HoldsOctets row at = (octets : List ℕ) × ((column row at ≡ Text octets) ⊎ (column row at ≡ Blob octets))

-- the column holds an integer
abbrev pub HoldsNumber : Row → ℕ → Type 0
HoldsNumber row at = IsInt (column row at)

-- a row of meta
abbrev pub meta_row_of : Row → MetaRow
meta_row_of row = record { name = text_at row 1; value = number_at row 2 }

-- the columns that meta_row_of reads have their types
abbrev pub HoldsMetaRow : Row → Type 0
HoldsMetaRow row = HoldsOctets row 1 × HoldsNumber row 2

-- a row of clerks
abbrev pub clerk_of : Row → Clerk
clerk_of row = record { name = text_at row 1; kind = number_at row 2; secret = text_at row 3 }

-- the columns that clerk_of reads have their types
abbrev pub HoldsClerk : Row → Type 0
HoldsClerk row = HoldsOctets row 1 × HoldsNumber row 2 × HoldsOctets row 3

-- a row of maildrops
abbrev pub maildrop_of : Row → Name
maildrop_of row = text_at row 1

-- the column that maildrop_of reads has its type
abbrev pub HoldsName : Row → Type 0
HoldsName row = HoldsOctets row 1

-- a row of counts
abbrev pub count_of : Row → Count
count_of row = record { maildrop = text_at row 1; class = text_at row 2; k = number_at row 3 }

-- the columns that count_of reads have their types
abbrev pub HoldsCount : Row → Type 0
HoldsCount row = HoldsOctets row 1 × HoldsOctets row 2 × HoldsNumber row 3

-- a row of deposits
abbrev pub deposit_of : Row → Deposit
deposit_of row = record { maildrop = text_at row 1; id = text_at row 2; class = text_at row 3; k = number_at row 4; digest = text_at row 5 }

-- the columns that deposit_of reads have their types
abbrev pub HoldsDeposit : Row → Type 0
HoldsDeposit row = HoldsOctets row 1 × HoldsOctets row 2 × HoldsOctets row 3 × HoldsNumber row 4 × HoldsOctets row 5

-- a row of mail, whose key is its rowid
abbrev pub message_of : Row → Message
message_of row = record { key = id_in (rowid row); maildrop = text_at row 2; class = text_at row 3; k = number_at row 4; octets = number_at row 5 }

-- the columns that message_of reads have their types
abbrev pub HoldsMessage : Row → Type 0
HoldsMessage row = HoldsNumber row 0 × HoldsOctets row 2 × HoldsOctets row 3 × HoldsNumber row 4 × HoldsNumber row 5

-- a row of sheets
abbrev pub sheet_of : Row → Sheet
sheet_of row = record { mail = number_at row 1; place = number_at row 2; octets = text_at row 3 }

-- the columns that sheet_of reads have their types
abbrev pub HoldsSheet : Row → Type 0
HoldsSheet row = HoldsNumber row 1 × HoldsNumber row 2 × HoldsOctets row 3

-- a row of rules, whose place is its rowid
abbrev pub rule_of : Row → Rule
rule_of row = record { place = id_in (rowid row); name = text_at row 2; effect = number_at row 3; clerk = text_at row 4; maildrop = text_at row 5; class = text_at row 6; actions = number_at row 7 }

-- the columns that rule_of reads have their types
abbrev pub HoldsRule : Row → Type 0
HoldsRule row = HoldsNumber row 0 × HoldsOctets row 2 × HoldsNumber row 3 × HoldsOctets row 4 × HoldsOctets row 5 × HoldsOctets row 6 × HoldsNumber row 7

-- a row of groups, whose place is its rowid
abbrev pub group_of : Row → Group
group_of row = record { place = id_in (rowid row); name = text_at row 2 }

-- the columns that group_of reads have their types
abbrev pub HoldsGroup : Row → Type 0
HoldsGroup row = HoldsNumber row 0 × HoldsOctets row 2

-- a row of members
abbrev pub member_of : Row → Member
member_of row = record { group = number_at row 1; place = number_at row 2; clerk = text_at row 3 }

-- the columns that member_of reads have their types
abbrev pub HoldsMember : Row → Type 0
HoldsMember row = HoldsNumber row 1 × HoldsNumber row 2 × HoldsOctets row 3

-- a row of the messages of version 1, whose key is its rowid
abbrev pub body_of : Row → Body
body_of row = record { head = message_of row; body = text_at row 6 }

-- the columns that body_of reads have their types
abbrev pub HoldsBody : Row → Type 0
HoldsBody row = HoldsMessage row × HoldsOctets row 6

-- the records of every table, in the order of rowids; only a store that was carried over has bodies
pub record Rows : Type 0 where
  pub meta_rows : List MetaRow
  pub clerks : List Clerk
  pub maildrops : List Name
  pub counts : List Count
  pub deposits : List Deposit
  pub messages : List Message
  pub rules : List Rule
  pub sheets : List Sheet
  pub groups : List Group
  pub members : List Member
  pub bodies : List Body

-- the messages of version 1 that are still there
abbrev pub bodies_at : (carried : Bool) → Trees → List Body
bodies_at false db = []
bodies_at true db = map body_of (db 10)

-- the records that the trees hold; `carried` says that the store was carried over from version 1
abbrev pub rows_at : (carried : Bool) → Trees → Rows
rows_at carried db = record {
  meta_rows = map meta_row_of (db 0);
  clerks = map clerk_of (db 2);
  maildrops = map maildrop_of (db 4);
  counts = map count_of (db 6);
  deposits = map deposit_of (db 8);
  messages = map message_of (db (mail_tree carried));
  rules = map rule_of (db 13);
  sheets = map sheet_of (db 15);
  groups = map group_of (db 17);
  members = map member_of (db 19);
  bodies = bodies_at carried db;
}

-- a store was carried over from version 1 if its catalog has the table of that version's messages
unfoldable pub is_carried : Trees → Bool
is_carried db = list_any (λ row. is_table_row row && bytes_eq (text_at row 2) (codes "messages")) (db catalog_tree)

-- the records that the trees hold
abbrev pub rows_in : Trees → Rows
rows_in db = rows_at (is_carried db) db

-- no table has a row
abbrev pub no_rows : Rows
no_rows = record {
  meta_rows = [];
  clerks = [];
  maildrops = [];
  counts = [];
  deposits = [];
  messages = [];
  rules = [];
  sheets = [];
  groups = [];
  members = [];
  bodies = [];
}
