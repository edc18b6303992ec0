-- Which names and columns of a store's schema are those of our tables.
use Rattle.std.specs.Prelude.{ℕ, nat_eq, Bool, true, false, not, ◌&&◌, ◌||◌, ◌==◌, List, [], ◌∷◌, Option, Some, None, map, bytes_eq, codes, find, is_some, option_map, option_and_then}
use Rattle.std.specs.List.{list_any, list_all}
use Rattle.std.specs.Option.{is_none, option_or}
use Rattle.std.specs.Borrow.{Bor}
use Rattle.std.specs.Cmp.Lexicographic.{pointwise}
use Rattle.sqlite_schema.specs.declared.schema.Kind.{Kind}
use Rattle.sqlite_schema.specs.declared.schema.Column.{Column}
use Rattle.sqlite_schema.specs.declared.schema.Table.{Table}
use Rattle.sqlite_schema.specs.declared.schema.Schema.{Schema}
use Rattle.sqlite_schema.specs.Names.{same_name}
use Rattle.sqlite_schema.specs.Rules.{kind_code}
use Rattle.mailsql.specs.declared.schema.OurTable.{OurTable}
use Rattle.mailsql.specs.declared.schema.OurTable.TheVariants as our
use Rattle.mailsql.specs.declared.schema.Taken.{Taken}
use Rattle.mailsql.specs.declared.schema.Taken.TheVariants as taken
use Rattle.mailsql.specs.Tables.{column_of, table_of, meta_at, clerks_at, maildrops_at, counts_at, deposits_at, mail_at, rules_at, sheets_at, groups_at, members_at, messages_at}

-- the first of these that is there
abbrev pub first_there : List (OurTable × Bool) → Option OurTable
first_there [] = None
first_there ((which, true) ∷ more) = Some which
first_there ((which, false) ∷ more) = first_there more

-- the table of ours that has the name, in ASCII letters of any case
abbrev pub our_table : List ℕ → Option OurTable
our_table name = first_there (
    (our.Meta, same_name name (codes "meta"))
    ∷ (our.Clerks, same_name name (codes "clerks"))
    ∷ (our.Maildrops, same_name name (codes "maildrops"))
    ∷ (our.Counts, same_name name (codes "counts"))
    ∷ (our.Deposits, same_name name (codes "deposits"))
    ∷ (our.Mail, same_name name (codes "mail"))
    ∷ (our.Rules, same_name name (codes "rules"))
    ∷ (our.Sheets, same_name name (codes "sheets"))
    ∷ (our.Groups, same_name name (codes "groups"))
    ∷ (our.Members, same_name name (codes "members"))
    ∷ (our.Messages, same_name name (codes "messages")) ∷ [])

-- the name is one of our tables'
abbrev pub is_our_name : List ℕ → Bool
is_our_name name = is_some (our_table name)

-- our table whose name the first of these has that has one of ours
abbrev pub first_named : {X : Type 0} → (X → List ℕ) → List X → Option OurTable
first_named name xs = option_and_then (λ x. our_table (name x)) (find (λ x. is_our_name (name x)) xs)

-- the first table, else the first index, else the first view that has the name of one of our tables
abbrev pub first_taken : Schema → Option Taken
first_taken schema = option_or (option_map taken.Table (first_named (λ t. t.name) schema.tables))
    (option_or (option_map taken.Index (first_named (λ i. i.name) schema.indexes))
    (option_map taken.View (first_named (λ v. v.name) schema.views)))

-- a table, an index or a view has one of our tables' names
abbrev pub is_taken : Schema → Bool
is_taken schema = is_some (first_taken schema)

-- the column is of this kind
abbrev pub is_kind : Kind → Column → Bool
is_kind kind c = kind_code c.kind == kind_code kind

-- the column is STRICT, has this name and this kind, and is NOT NULL if `required`
abbrev pub is_column : List ℕ → Kind → Bool → Column → Bool
is_column name kind required c = bytes_eq c.name name && is_kind kind c && c.is_strict && (not required || c.not_null)

-- the column of a name, a kind, and whether it is NOT NULL
abbrev pub made : Bor (List ℕ) × Kind × Bool → Column
made m = column_of m.0.now m.1 m.2

-- a table of this name, with these columns, this primary key and this unique key
abbrev pub table_made : List ℕ → List (Bor (List ℕ) × Kind × Bool) → List ℕ → List ℕ → Table
table_made name columns primary unique = table_of name 0 (map made columns) None primary (unique ∷ []) [] [] false

-- the second columns are STRICT, have the names and kinds of the first, in the same order, and are
-- NOT NULL where those are
abbrev pub are_columns : List Column → List Column → Bool
are_columns [] [] = true
are_columns [] (c ∷ cs) = false
are_columns (o ∷ os) [] = false
are_columns (o ∷ os) (c ∷ cs) = is_column o.name o.kind o.not_null c && are_columns os cs

-- the same columns, by their places in a row; the rowid is at 0
abbrev pub are_places : List ℕ → List ℕ → Bool
are_places = pointwise nat_eq

-- the primary key is over `primary`, and a unique key over `unique`
abbrev pub has_keys : List ℕ → List ℕ → Table → Bool
has_keys primary unique t = are_places t.primary primary && list_any (λ key. are_places key unique) t.uniques

-- the table has the primary key and every unique key of ours
abbrev pub keeps_apart : Table → Table → Bool
keeps_apart ours t = list_all (λ unique. has_keys ours.primary unique t) ours.uniques

-- the table has the name, the columns and the keys of ours
abbrev pub is_table : Table → Table → Bool
is_table ours t = bytes_eq t.name ours.name && are_columns ours.columns t.columns && keeps_apart ours t

-- the table `meta` is among the tables
abbrev pub has_meta_rows : List Table → Bool
has_meta_rows tables = list_any (is_table (meta_at 0)) tables

-- the first of these that isn't there
abbrev pub first_lacked : List (OurTable × Bool) → Option OurTable
first_lacked [] = None
first_lacked ((which, true) ∷ more) = first_lacked more
first_lacked ((which, false) ∷ more) = Some which

-- the first that these tables lack of those that stores of every version have
abbrev pub lacked_common : List Table → Option OurTable
lacked_common tables = first_lacked (
    (our.Meta, list_any (is_table (meta_at 0)) tables)
    ∷ (our.Clerks, list_any (is_table (clerks_at 2)) tables)
    ∷ (our.Maildrops, list_any (is_table (maildrops_at 4)) tables)
    ∷ (our.Counts, list_any (is_table (counts_at 6)) tables)
    ∷ (our.Deposits, list_any (is_table (deposits_at 8)) tables)
    ∷ (our.Rules, list_any (is_table (rules_at 13)) tables) ∷ [])

-- of those of version 1
abbrev pub lacked_of_first : List Table → Option OurTable
lacked_of_first tables = option_or (lacked_common tables) (first_lacked (
    (our.Messages, list_any (is_table (messages_at 10)) tables) ∷ []))

-- of those of version 2
abbrev pub lacked_of_second : List Table → Option OurTable
lacked_of_second tables = option_or (lacked_common tables) (first_lacked (
    (our.Mail, list_any (is_table (mail_at 10)) tables)
    ∷ (our.Sheets, list_any (is_table (sheets_at 15)) tables) ∷ []))

-- of ours
abbrev pub lacked_of_third : List Table → Option OurTable
lacked_of_third tables = option_or (lacked_common tables) (first_lacked (
    (our.Mail, list_any (is_table (mail_at 10)) tables)
    ∷ (our.Sheets, list_any (is_table (sheets_at 15)) tables)
    ∷ (our.Groups, list_any (is_table (groups_at 17)) tables)
    ∷ (our.Members, list_any (is_table (members_at 19)) tables) ∷ []))

-- the tables of version 1 are among the tables
abbrev pub has_first_columns : List Table → Bool
has_first_columns tables = is_none (lacked_of_first tables)

-- the tables of version 2 are among the tables
abbrev pub has_second_columns : List Table → Bool
has_second_columns tables = is_none (lacked_of_second tables)

-- each of our tables is among the tables
abbrev pub has_columns : List Table → Bool
has_columns tables = is_none (lacked_of_third tables)
