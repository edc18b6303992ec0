-- The tables of a store: the text that makes each, the table that the text makes, and the schema
-- that the texts make in their order.
-- The layout is version 3. Version 2 has no groups and no members; version 1 has messages in place of mail and sheets.
use Rattle.std.specs.Prelude.{ℕ, zero, suc, List, [], ◌∷◌, ◌++◌, Bool, true, false, Some, None, Option, codes, slice_index_or, length, drop}
use Rattle.sqlite_value.specs.declared.keys.Collation.TheVariants.{Binary}
use Rattle.sqlite_value.specs.declared.keys.Order.{Order}
use Rattle.sqlite_value.specs.declared.value.Value.TheVariants.{Null}
use Rattle.sqlite_schema.specs.declared.schema.Kind.{Kind}
use Rattle.sqlite_schema.specs.declared.schema.Kind.TheVariants as kind
use Rattle.sqlite_schema.specs.declared.schema.Action.TheVariants.{NoAction, Cascade}
use Rattle.sqlite_schema.specs.declared.schema.Column.{Column}
use Rattle.sqlite_schema.specs.declared.schema.Reference.{Reference}
use Rattle.sqlite_schema.specs.declared.schema.Table.{Table}
use Rattle.sqlite_schema.specs.declared.schema.Index.{Index}
use Rattle.sqlite_schema.specs.declared.schema.Schema.{Schema}
use Rattle.sqlite_catalog.specs.Change.{created}

-- a STRICT column of this kind, NOT NULL if required
abbrev pub column_of : List ℕ → Kind → Bool → Column
column_of name kind required = record { name = name; kind = kind; is_strict = true; not_null = required; default = Null; collation = Binary }

-- a table by its parts, with no check and no computed column
abbrev pub table_of : List ℕ → ℕ → List Column → Option ℕ → List ℕ → List (List ℕ) → List Order → List Reference → Bool → Table
table_of name tree columns key primary uniques orders references counted = record {
  name = name;
  tree = tree;
  columns = columns;
  key = key;
  primary = primary;
  uniques = uniques;
  orders = orders;
  checks = [];
  references = references;
  computed = [];
  stamps = record { places = []; terms = []; formats = [] };
  is_counted = counted;
}

-- ascending, by octets
abbrev pub plain_order : Order
plain_order = record { digits = 0 }

-- a table with a primary key over these places
abbrev pub keyed_table : List ℕ → ℕ → List Column → List ℕ → Table
keyed_table name tree columns key = table_of name tree columns None key (key ∷ []) (plain_order ∷ []) [] false

-- the rows of `meta` of the store
abbrev pub meta_text : List ℕ
meta_text = codes "CREATE TABLE meta (name TEXT PRIMARY KEY, value INTEGER NOT NULL) STRICT"

-- the table that meta_text makes, in this tree
abbrev pub meta_at : ℕ → Table
meta_at tree = keyed_table (codes "meta") tree (column_of (codes "name") kind.Text true ∷ column_of (codes "value") kind.Integer true ∷ []) (1 ∷ [])

-- the clerks and their credentials
abbrev pub clerks_text : List ℕ
clerks_text = codes "CREATE TABLE clerks (name TEXT PRIMARY KEY, kind INTEGER NOT NULL, secret BLOB NOT NULL) STRICT"

-- the table that clerks_text makes, in this tree
abbrev pub clerks_at : ℕ → Table
clerks_at tree = keyed_table (codes "clerks") tree (column_of (codes "name") kind.Text true ∷ column_of (codes "kind") kind.Integer true ∷ column_of (codes "secret") kind.Blob true ∷ []) (1 ∷ [])

-- the names of the maildrops
abbrev pub maildrops_text : List ℕ
maildrops_text = codes "CREATE TABLE maildrops (name TEXT PRIMARY KEY) STRICT"

-- the table that maildrops_text makes, in this tree
abbrev pub maildrops_at : ℕ → Table
maildrops_at tree = keyed_table (codes "maildrops") tree (column_of (codes "name") kind.Text true ∷ []) (1 ∷ [])

-- the greatest number of each class in a maildrop
abbrev pub counts_text : List ℕ
counts_text = codes "CREATE TABLE counts (maildrop TEXT, class TEXT, k INTEGER NOT NULL, PRIMARY KEY (maildrop, class)) STRICT"

-- the table that counts_text makes, in this tree
abbrev pub counts_at : ℕ → Table
counts_at tree = keyed_table (codes "counts") tree (column_of (codes "maildrop") kind.Text true ∷ column_of (codes "class") kind.Text true ∷ column_of (codes "k") kind.Integer true ∷ []) (1 ∷ 2 ∷ [])

-- the deposits that were ever accepted
abbrev pub deposits_text : List ℕ
deposits_text = codes "CREATE TABLE deposits (maildrop TEXT, id TEXT, class TEXT NOT NULL, k INTEGER NOT NULL, digest BLOB NOT NULL, PRIMARY KEY (maildrop, id)) STRICT"

-- the table that deposits_text makes, in this tree
abbrev pub deposits_at : ℕ → Table
deposits_at tree = keyed_table (codes "deposits") tree
    (column_of (codes "maildrop") kind.Text true ∷ column_of (codes "id") kind.Text true ∷ column_of (codes "class") kind.Text true ∷ column_of (codes "k") kind.Integer true ∷ column_of (codes "digest") kind.Blob true ∷ [])
    (1 ∷ 2 ∷ [])

-- the messages that are present, without their octets
abbrev pub mail_text : List ℕ
mail_text = codes "CREATE TABLE mail (key INTEGER PRIMARY KEY AUTOINCREMENT, maildrop TEXT NOT NULL REFERENCES maildrops, class TEXT NOT NULL, k INTEGER NOT NULL, octets INTEGER NOT NULL, UNIQUE (maildrop, class, k)) STRICT"

-- a message's reference to its maildrop
abbrev pub to_maildrops : Reference
to_maildrops = record { columns = 2 ∷ []; parent = codes "maildrops"; parent_columns = []; on_delete = NoAction; on_update = NoAction; is_deferred = false }

-- the table that mail_text makes, in this tree
abbrev pub mail_at : ℕ → Table
mail_at tree = table_of (codes "mail") tree
    (column_of (codes "key") kind.Integer false ∷ column_of (codes "maildrop") kind.Text true ∷ column_of (codes "class") kind.Text true ∷ column_of (codes "k") kind.Integer true ∷ column_of (codes "octets") kind.Integer true ∷ [])
    (Some 0) (0 ∷ []) ((2 ∷ 3 ∷ 4 ∷ []) ∷ []) (plain_order ∷ []) (to_maildrops ∷ []) true

-- the sheets of the messages; removing a message removes its sheets
abbrev pub sheets_text : List ℕ
sheets_text = codes "CREATE TABLE sheets (mail INTEGER REFERENCES mail ON DELETE CASCADE, place INTEGER, octets BLOB NOT NULL, PRIMARY KEY (mail, place)) STRICT"

-- a sheet's reference to its message
abbrev pub to_mail : Reference
to_mail = record { columns = 1 ∷ []; parent = codes "mail"; parent_columns = []; on_delete = Cascade; on_update = NoAction; is_deferred = false }

-- the table that sheets_text makes, in this tree
abbrev pub sheets_at : ℕ → Table
sheets_at tree = table_of (codes "sheets") tree
    (column_of (codes "mail") kind.Integer true ∷ column_of (codes "place") kind.Integer true ∷ column_of (codes "octets") kind.Blob true ∷ [])
    None (1 ∷ 2 ∷ []) ((1 ∷ 2 ∷ []) ∷ []) (plain_order ∷ []) (to_mail ∷ []) false

-- the rules of the policy
abbrev pub rules_text : List ℕ
rules_text = codes "CREATE TABLE rules (place INTEGER PRIMARY KEY, name TEXT NOT NULL UNIQUE, effect INTEGER NOT NULL, clerk TEXT NOT NULL, maildrop TEXT NOT NULL, class TEXT NOT NULL, actions INTEGER NOT NULL) STRICT"

-- the table that rules_text makes, in this tree
abbrev pub rules_at : ℕ → Table
rules_at tree = table_of (codes "rules") tree
    (column_of (codes "place") kind.Integer false ∷ column_of (codes "name") kind.Text true ∷ column_of (codes "effect") kind.Integer true ∷ column_of (codes "clerk") kind.Text true ∷ column_of (codes "maildrop") kind.Text true ∷ column_of (codes "class") kind.Text true ∷ column_of (codes "actions") kind.Integer true ∷ [])
    (Some 0) (0 ∷ []) ((2 ∷ []) ∷ []) (plain_order ∷ []) [] false

-- the messages of version 1, with their bodies in one column, in place of mail and sheets, in this
-- tree: CREATE TABLE messages (key INTEGER PRIMARY KEY AUTOINCREMENT, maildrop TEXT NOT NULL
-- REFERENCES maildrops, class TEXT NOT NULL, k INTEGER NOT NULL, octets INTEGER NOT NULL,
-- body BLOB NOT NULL, UNIQUE (maildrop, class, k)) STRICT
abbrev pub messages_at : ℕ → Table
messages_at tree = table_of (codes "messages") tree
    (column_of (codes "key") kind.Integer false ∷ column_of (codes "maildrop") kind.Text true ∷ column_of (codes "class") kind.Text true ∷ column_of (codes "k") kind.Integer true ∷ column_of (codes "octets") kind.Integer true ∷ column_of (codes "body") kind.Blob true ∷ [])
    (Some 0) (0 ∷ []) ((2 ∷ 3 ∷ 4 ∷ []) ∷ []) (plain_order ∷ []) (to_maildrops ∷ []) true

-- the groups of clerks that the policy names
abbrev pub groups_text : List ℕ
groups_text = codes "CREATE TABLE groups (place INTEGER PRIMARY KEY, name TEXT NOT NULL UNIQUE) STRICT"

-- the table that groups_text makes, in this tree
abbrev pub groups_at : ℕ → Table
groups_at tree = table_of (codes "groups") tree (column_of (codes "place") kind.Integer false ∷ column_of (codes "name") kind.Text true ∷ [])
    (Some 0) (0 ∷ []) ((2 ∷ []) ∷ []) (plain_order ∷ []) [] false

-- the members of the groups; removing a group removes its members
abbrev pub members_text : List ℕ
members_text = codes "CREATE TABLE members (grp INTEGER REFERENCES groups ON DELETE CASCADE, place INTEGER, clerk TEXT NOT NULL, PRIMARY KEY (grp, place), UNIQUE (grp, clerk)) STRICT"

-- a member's reference to its group
abbrev pub to_groups : Reference
to_groups = record { columns = 1 ∷ []; parent = codes "groups"; parent_columns = []; on_delete = Cascade; on_update = NoAction; is_deferred = false }

-- the table that members_text makes, in this tree
abbrev pub members_at : ℕ → Table
members_at tree = table_of (codes "members") tree
    (column_of (codes "grp") kind.Integer true ∷ column_of (codes "place") kind.Integer true ∷ column_of (codes "clerk") kind.Text true ∷ [])
    None (1 ∷ 2 ∷ []) ((1 ∷ 2 ∷ []) ∷ (1 ∷ 3 ∷ []) ∷ []) (plain_order ∷ plain_order ∷ []) (to_groups ∷ []) false

-- a column without a type
abbrev loose : List ℕ → Column
loose name = record { name = name; kind = kind.Any; is_strict = false; not_null = false; default = Null; collation = Binary }

-- SQLite's own table, in which AUTOINCREMENT counts
abbrev pub sequence_at : ℕ → Table
sequence_at tree = table_of (codes "sqlite_sequence") tree (loose (codes "name") ∷ loose (codes "seq") ∷ []) None [] [] [] [] false

-- the index of a key
abbrev pub key_of : List ℕ → ℕ → List ℕ → Index
key_of table tree places = record { name = codes "sqlite_autoindex_" ++ (table ++ codes "_1"); tree = suc tree; table = tree; columns = places; order = plain_order; is_unique = true }

-- the index of the unique key over group and clerk, the second of members
abbrev pub clerks_key_of : ℕ → Index
clerks_key_of tree = record { name = codes "sqlite_autoindex_members_2"; tree = suc (suc tree); table = tree; columns = 1 ∷ 3 ∷ []; order = plain_order; is_unique = true }

-- A store's tables stand in one of two orders. A store carried over from version 1 still has that
-- version's table messages, without rows, in the sixth place, and mail last. Any other has mail in
-- the sixth place.

-- the name of the table in the sixth place
abbrev pub sixth_name : (carried : Bool) → List ℕ
sixth_name false = codes "mail"
sixth_name true = codes "messages"

-- the columns of the table in the sixth place
abbrev pub sixth_columns : (carried : Bool) → List Column
sixth_columns false = (mail_at 10).columns
sixth_columns true = (messages_at 10).columns

-- the table in the sixth place
abbrev pub sixth : (carried : Bool) → Table
sixth carried = table_of (sixth_name carried) 10 (sixth_columns carried) (Some 0) (0 ∷ []) ((2 ∷ 3 ∷ 4 ∷ []) ∷ []) (plain_order ∷ []) (to_maildrops ∷ []) true

-- mail, if it came last
abbrev pub last_tables : (carried : Bool) → List Table
last_tables false = []
last_tables true = mail_at 22 ∷ []

-- the index of mail, if it came last
abbrev pub last_indexes : (carried : Bool) → List Index
last_indexes false = []
last_indexes true = key_of (codes "mail") 22 (2 ∷ 3 ∷ 4 ∷ []) ∷ []

-- the tree of mail
abbrev pub mail_tree : (carried : Bool) → ℕ
mail_tree false = 10
mail_tree true = 22

-- the place of mail among the tables
abbrev pub mail_place : (carried : Bool) → ℕ
mail_place false = 5
mail_place true = 11

-- the store's tables, their indexes, and no view
abbrev pub schema_of : (carried : Bool) → Schema
schema_of carried = record {
  tables = meta_at 0 ∷ clerks_at 2 ∷ maildrops_at 4 ∷ counts_at 6 ∷ deposits_at 8 ∷ sixth carried ∷ sequence_at 12 ∷ rules_at 13 ∷ sheets_at 15 ∷ groups_at 17 ∷ members_at 19 ∷ last_tables carried;
  indexes = key_of (codes "meta") 0 (1 ∷ []) ∷ key_of (codes "clerks") 2 (1 ∷ []) ∷ key_of (codes "maildrops") 4 (1 ∷ []) ∷ key_of (codes "counts") 6 (1 ∷ 2 ∷ []) ∷ key_of (codes "deposits") 8 (1 ∷ 2 ∷ [])
      ∷ key_of (sixth_name carried) 10 (2 ∷ 3 ∷ 4 ∷ []) ∷ key_of (codes "rules") 13 (2 ∷ []) ∷ key_of (codes "sheets") 15 (1 ∷ 2 ∷ []) ∷ key_of (codes "groups") 17 (2 ∷ []) ∷ key_of (codes "members") 19 (1 ∷ 2 ∷ []) ∷ clerks_key_of 19 ∷ last_indexes carried;
  views = [];
}

-- the schema of a store that wasn't carried over
abbrev pub mail_schema : Schema
mail_schema = schema_of false

-- the tables of version 2: ours without the groups
abbrev pub second_schema : Schema
second_schema = record {
  tables = meta_at 0 ∷ clerks_at 2 ∷ maildrops_at 4 ∷ counts_at 6 ∷ deposits_at 8 ∷ mail_at 10 ∷ sequence_at 12 ∷ rules_at 13 ∷ sheets_at 15 ∷ [];
  indexes = key_of (codes "meta") 0 (1 ∷ []) ∷ key_of (codes "clerks") 2 (1 ∷ []) ∷ key_of (codes "maildrops") 4 (1 ∷ []) ∷ key_of (codes "counts") 6 (1 ∷ 2 ∷ []) ∷ key_of (codes "deposits") 8 (1 ∷ 2 ∷ [])
      ∷ key_of (codes "mail") 10 (2 ∷ 3 ∷ 4 ∷ []) ∷ key_of (codes "rules") 13 (2 ∷ []) ∷ key_of (codes "sheets") 15 (1 ∷ 2 ∷ []) ∷ [];
  views = [];
}

-- a store without tables
abbrev pub no_schema : Schema
no_schema = record { tables = []; indexes = []; views = [] }

-- ---- the texts in their order, and the schema before each and after the last

-- the texts in their order
abbrev pub create_texts : List (List ℕ)
create_texts = meta_text ∷ clerks_text ∷ maildrops_text ∷ counts_text ∷ deposits_text ∷ mail_text ∷ rules_text ∷ sheets_text ∷ groups_text ∷ members_text ∷ []

-- after the text of meta
abbrev pub with_meta : Schema
with_meta = created no_schema (meta_at 0)

-- after the text of clerks
abbrev pub with_clerks : Schema
with_clerks = created with_meta (clerks_at 0)

-- after the text of maildrops
abbrev pub with_maildrops : Schema
with_maildrops = created with_clerks (maildrops_at 0)

-- after the text of counts
abbrev pub with_counts : Schema
with_counts = created with_maildrops (counts_at 0)

-- after the text of deposits
abbrev pub with_deposits : Schema
with_deposits = created with_counts (deposits_at 0)

-- after the text of mail, whose AUTOINCREMENT brings sqlite_sequence
abbrev pub with_mail : Schema
with_mail = created (created with_deposits (mail_at 0)) (sequence_at 0)

-- after the text of rules
abbrev pub with_rules : Schema
with_rules = created with_mail (rules_at 0)

-- after the text of sheets
abbrev pub with_sheets : Schema
with_sheets = created with_rules (sheets_at 0)

-- after the text of groups
abbrev pub with_groups : Schema
with_groups = created with_sheets (groups_at 0)

-- after the text of members
abbrev pub with_members : Schema
with_members = created with_groups (members_at 0)

-- the schema before each, and after the last
abbrev pub stages : List Schema
stages = no_schema ∷ with_meta ∷ with_clerks ∷ with_maildrops ∷ with_counts ∷ with_deposits ∷ with_mail ∷ with_rules ∷ with_sheets ∷ with_groups ∷ with_members ∷ []

-- the text of a table, by its number, counted from 0
abbrev pub create_text : ℕ → List ℕ
create_text at = slice_index_or create_texts at []

-- the schema before the text of that number
abbrev pub stage : ℕ → Schema
stage at = slice_index_or stages at no_schema

-- ---- version 1

-- the tables of version 1
abbrev pub first_schema : Schema
first_schema = record {
  tables = meta_at 0 ∷ clerks_at 2 ∷ maildrops_at 4 ∷ counts_at 6 ∷ deposits_at 8 ∷ messages_at 10 ∷ sequence_at 12 ∷ rules_at 13 ∷ [];
  indexes = key_of (codes "meta") 0 (1 ∷ []) ∷ key_of (codes "clerks") 2 (1 ∷ []) ∷ key_of (codes "maildrops") 4 (1 ∷ []) ∷ key_of (codes "counts") 6 (1 ∷ 2 ∷ []) ∷ key_of (codes "deposits") 8 (1 ∷ 2 ∷ [])
      ∷ key_of (codes "messages") 10 (2 ∷ 3 ∷ 4 ∷ []) ∷ key_of (codes "rules") 13 (2 ∷ []) ∷ [];
  views = [];
}

-- ---- the tables that an older store lacks

-- the tables of an older store: of version 2 or, with its messages, of version 1
abbrev pub old_schema : (carried : Bool) → Schema
old_schema false = second_schema
old_schema true = first_schema

-- the texts of the tables that an older store lacks, in their order
abbrev pub lacked_texts : (carried : Bool) → List (List ℕ)
lacked_texts false = groups_text ∷ members_text ∷ []
lacked_texts true = sheets_text ∷ groups_text ∷ members_text ∷ mail_text ∷ []

-- the tables that an older store lacks, in their order
abbrev pub lacked_tables : (carried : Bool) → List Table
lacked_tables false = groups_at 0 ∷ members_at 0 ∷ []
lacked_tables true = sheets_at 0 ∷ groups_at 0 ∷ members_at 0 ∷ mail_at 0 ∷ []

-- the schema with the first n of the tables added
abbrev pub grown : Schema → List Table → ℕ → Schema
grown schema tables zero = schema
grown schema [] (suc n) = schema
grown schema (t ∷ tables) (suc n) = grown (created schema t) tables n

-- the schema of an older store with the first n of the tables that it lacks
abbrev pub old_stage : (carried : Bool) → ℕ → Schema
old_stage carried at = grown (old_schema carried) (lacked_tables carried) at

-- the text of a lacked table, by its number, counted from 0
abbrev pub lacked_text : (carried : Bool) → ℕ → List ℕ
lacked_text carried at = slice_index_or (lacked_texts carried) at []

-- the first n of the tables that an older store lacks, in their trees
abbrev pub fresh_tables : (carried : Bool) → ℕ → List Table
fresh_tables carried at = drop (length (old_schema carried).tables) (old_stage carried at).tables
