-- An edit keeps the rows of each table in order.
use Rattle.std.proofs.Common.{◌≡◌, ◌≢◌, inl, inr, ℕ, ℤ, Bool, true, List, [], ◌∷◌, sym, subst}
use Rattle.std.specs.List.{AllByRecursion, list_all}
use Rattle.std.specs.Prelude.{filter}
use Rattle.std.proofs.lemmas.Bool.{and_parts, cases_Bool, cases_eq}
use Rattle.sqlite_value.specs.Order.{Row}
use Rattle.sqlite_trees.specs.Tree.{Trees, rowid, IsTable, put_row, without_rowid}
use Rattle.sqlite_trees.specs.View.{is_int}
use Rattle.sqlite_trees.proofs.TreeLemmas.{IsTable-put_row, all-put_row}
use Rattle.sqlite_schema.specs.declared.schema.Keys.TheVariants.{Enforced}
use Rattle.sqlite_schema.specs.declared.schema.Table.{Table}
use Rattle.sqlite_rules.specs.Edit.{Edit, put_all, without_all, Applies}
use Rattle.sqlite_rules.proofs.ListLemmas.{all_has, all_from, has_filtered}
use Rattle.sqlite_rules.proofs.PlaceLemmas.{tied_same}
use Rattle.sqlite_schema.specs.declared.schema.Schema.{Schema}
use Rattle.mailsql.specs.Rows.{AreKeyed, AreKept}
use Rattle.mailsql.proofs.WithoutLemmas.{AreApart}

filter_all : (P : Row → Type 0) (p : Row → Bool) (rows : List Row) → AllByRecursion P rows → AllByRecursion P (filter p rows)
filter_all P p rows all = all_from _ (filter p rows) (λ y h. all_has _ rows y all (has_filtered p rows y h).0)

filter_table : (p : Row → Bool) (rows : List Row) → IsTable rows → IsTable (filter p rows)
filter_table p [] up = tt
filter_table p (r ∷ rows) up = elim (cases_Bool (p r)) [
  | inl e ↦ rw e (filter_all _ p rows up.0, filter_table p rows up.1)
  | inr e ↦ rw e (filter_table p rows up.1)
]

pub keyed_filter : (p : Row → Bool) (rows : List Row) → AreKeyed rows → AreKeyed (filter p rows)
keyed_filter p rows k = (filter_table p rows k.0, filter_all _ p rows k.1)

keyed_without : (ids : List ℤ) (rows : List Row) → AreKeyed rows → AreKeyed (without_all rows ids)
keyed_without [] rows k = k
keyed_without (id ∷ ids) rows k = keyed_without ids (without_rowid id rows) (keyed_filter _ rows k)

keyed_put : (news rows : List Row) → list_all (λ r. is_int (rowid r)) news ≡ true → AreKeyed rows → AreKeyed (put_all rows news)
keyed_put [] rows h k = k
keyed_put (n ∷ news) rows h k = let parts = and_parts _ _ h in keyed_put news (put_row n rows) parts.1 (IsTable-put_row n rows k.0, all-put_row _ n rows parts.0 k.1)

tables_kept : (at : ℕ) (db next : Trees) (tables : List Table) → AllByRecursion (λ t. t.tree ≢ at → next t.tree ≡ db t.tree) tables
    → (AreKeyed (db at) → AreKeyed (next at)) → AreKept tables db → AreKept tables next
tables_kept at db next [] same made all = tt
tables_kept at db next (t ∷ ts) same made all = (
  elim (cases_eq t.tree at) as (λ _. AreKeyed (next t.tree)) [
    | inl e ↦ subst (λ n. AreKeyed (next n)) (sym e)
        (made (subst (λ n. AreKeyed (db n)) e all.0))
    | inr ne ↦ subst AreKeyed (sym (same.0 ne)) all.0
  ],
  tables_kept at db next ts same.1 made all.1,
)

pub applied_kept : {schema : Schema} (db next : Trees) (edit : Edit) → Applies schema Enforced db edit next → AreKept schema.tables db → AreKept schema.tables next
applied_kept {schema} db next edit h all =
    tables_kept edit.table.tree db next schema.tables h.tables (λ k. subst AreKeyed (sym h.rows) (keyed_put edit.news _ h.keyed (keyed_without edit.gone (db edit.table.tree) k))) all

pub keyed_apart : (rows : List Row) → AreKeyed rows → AreApart rows
keyed_apart rows k a b ha hb tied = tied_same rows a b k.0 ha hb tied
