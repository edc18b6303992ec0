-- What is found of the names and the columns in the schema that our texts make.
use Rattle.std.proofs.Common.{◌≡◌, Bool, false, true, List, ◌∷◌, refl, ap}
use Rattle.sqlite_schema.specs.Names.{same_name}
use Rattle.sqlite_schema.specs.declared.schema.Table.{Table}
use Rattle.sqlite_schema.specs.declared.schema.Schema.{Schema}
use Rattle.mailsql.specs.Tables.{schema_of, old_schema, second_schema, first_schema, meta_at}
use Rattle.mailsql.specs.Names.{is_taken, has_meta_rows, has_columns, has_first_columns, has_second_columns}

pub ours_taken : (c : Bool) → is_taken (schema_of c) ≡ true
unfolding same_name
ours_taken false = refl
ours_taken true = refl

pub ours_columns : (c : Bool) → has_columns (schema_of c).tables ≡ true
ours_columns false = refl
ours_columns true = refl

pub second_columns : has_second_columns second_schema.tables ≡ true
second_columns = refl

pub first_columns : has_first_columns first_schema.tables ≡ true
first_columns = refl

-- the one has not the tables of the other
pub not_second : has_second_columns first_schema.tables ≡ false
not_second = refl

pub not_first : has_first_columns second_schema.tables ≡ false
not_first = refl

-- ---- of an older store

pub old_taken : (c : Bool) → is_taken (old_schema c) ≡ true
unfolding same_name
old_taken false = refl
old_taken true = refl

pub old_marked : (c : Bool) → has_meta_rows (old_schema c).tables ≡ true
old_marked false = refl
old_marked true = refl

pub old_lacks : (c : Bool) → has_columns (old_schema c).tables ≡ false
old_lacks false = refl
old_lacks true = refl

-- ---- of a store whose first table is `meta`

pub meta_taken : (schema : Schema) (others : List Table) → schema.tables ≡ meta_at 0 ∷ others → is_taken schema ≡ true
unfolding same_name
meta_taken schema others is = ap (λ (ts : List Table). is_taken (record schema { tables = ts })) is

pub first_marked : (tables others : List Table) → tables ≡ meta_at 0 ∷ others → has_meta_rows tables ≡ true
first_marked tables others is = ap has_meta_rows is
