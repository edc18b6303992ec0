-- When a store, of any version of ours, has the table `meta`.
use Rattle.std.specs.Prelude.{◌≡◌, List, ◌∷◌}
use Rattle.sqlite_schema.specs.declared.schema.Table.{Table}
use Rattle.sqlite.specs.Effect.{Database}
use Rattle.mailsql.specs.Tables.{meta_at}
use Rattle.mailsql.specs.Rows.{AreKeyed}

-- The first table is `meta`, as our text makes it, and its rows are in order. Nothing is
-- said of the other tables, nor of indexes and views.
pub record HasMetaRows (db : Database) : Type 0 where
  pub others : List Table
  pub first : db.schema.tables ≡ meta_at 0 ∷ others
  pub keyed : AreKeyed (db.trees 0)
