-- Which order the tables stand in is told by the list of the trees.
use Rattle.std.proofs.Common.{◌≡◌, Bool, true, false, cond, List, [], ◌∷◌, filter, refl, ap, ap₂, subst, ◌∙◌}
use Rattle.std.specs.Prelude.{◌&&◌, ◌||◌, bytes_eq, codes}
use Rattle.std.specs.List.{list_any, AllZip}
use Rattle.sqlite_value.specs.Order.{Row, bytes}
use Rattle.sqlite_trees.specs.Objects.{catalog_tree}
use Rattle.sqlite_schema.specs.declared.schema.Table.{Table}
use Rattle.sqlite_catalog.specs.Listing.{IsTableRow, IsSound, is_table_row}
use Rattle.sqlite.specs.Effect.{Database, IsDatabase}
use Rattle.mailsql.specs.Tables.{schema_of}
use Rattle.mailsql.specs.Columns.{is_carried, text_at}

any_of_both : (p q : Row → Bool) (rows : List Row) → list_any (λ r. p r && q r) rows ≡ list_any q (filter p rows)
any_of_both p q [] = refl
any_of_both p q (r ∷ rows) = go (p r) (any_of_both p q rows)
  where
    go : (b : Bool) → list_any (λ x. p x && q x) rows ≡ list_any q (filter p rows) → ((b && q r) || list_any (λ x. p x && q x) rows) ≡ list_any q (cond b (r ∷ filter p rows) (filter p rows))
    go true more = ap (λ x. q r || x) more
    go false more = more

-- a table has the name if its row has
any_named : (name : List _) (rows : List Row) (tables : List Table) → AllZip IsTableRow rows tables → list_any (λ r. bytes_eq (text_at r 2) name) rows ≡ list_any (λ t. bytes_eq t.name name) tables
any_named name [] [] all = refl
any_named name [] (t ∷ tables) all = absurd all
any_named name (r ∷ rows) [] all = absurd all
any_named name (r ∷ rows) (t ∷ tables) all = ap₂ (λ a b. a || b) (ap (λ v. bytes_eq (bytes v) name) all.0.described.name_is) (any_named name rows tables all.1)

has_messages : (c : Bool) → list_any (λ (t : Table). bytes_eq t.name (codes "messages")) (schema_of c).tables ≡ c
has_messages false = refl
has_messages true = refl

pub carried_is : (c : Bool) (db : Database) → db.schema ≡ schema_of c → IsDatabase db → is_carried db.trees ≡ c
unfolding is_carried
carried_is c db ours sound =
    let here : IsSound (schema_of c) db.trees = subst (λ s. IsSound s db.trees) ours sound in
    any_of_both is_table_row (λ r. bytes_eq (text_at r 2) (codes "messages")) (db.trees catalog_tree)
    ∙ any_named (codes "messages") (filter is_table_row (db.trees catalog_tree)) (schema_of c).tables here.lists.listed.tables ∙ has_messages c
