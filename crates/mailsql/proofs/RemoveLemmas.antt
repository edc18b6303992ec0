-- DELETE of the rows that pass.
use Rattle.std.proofs.Common.{◌≡◌, ℕ, List, [], ◌∷◌, Option, None, Ok, ap, ◌∙◌}
use Rattle.sqlite_value.specs.declared.value.Value.TheVariants.{Null}
use Rattle.sqlite_value.specs.Order.{Row}
use Rattle.sqlite_trees.specs.Tree.{Trees}
use Rattle.sqlite_sql.specs.Term.{Term, col}
use Rattle.sqlite_sql.specs.Query.{inner, end}
use Rattle.sqlite_sql.specs.Program.{overlay}
use Rattle.sqlite_schema.specs.declared.schema.Keys.TheVariants.{Enforced}
use Rattle.sqlite_schema.specs.declared.schema.Table.{Table}
use Rattle.sqlite_schema.specs.declared.schema.Schema.{Schema}
use Rattle.sqlite_schema.specs.declared.command.Command.TheVariants.{Delete}
use Rattle.sqlite_rules.specs.Calls.{ids_of}
use Rattle.sqlite_rules.specs.Edit.{Edit, edit_of, without_all, Applies}
use Rattle.sqlite_rules.specs.Action.{works}
use Rattle.sqlite_rules.specs.declared.error.Rowids.TheVariants.{Given}
use Rattle.sqlite.specs.Effect.{Database}
use Rattle.sqlite.specs.Does.{Tally, OnRows}
use Rattle.sqlite.specs.Rows.{Written}
use Rattle.sqlite.proofs.Callers.{one_step}
use Rattle.mailsql.proofs.Statements.{query_of}
use Rattle.mailsql.proofs.WriteLemmas.{went, same_value, plain_mode, task_of}
use Rattle.mailsql.proofs.QueryLemmas.{Selected, selected}

module _ (limit : Option ℕ) (schema : Schema) (table : Table) (params : Row) (at : ℕ) (terms : List Term) (db : Trees) (tally : Tally) (after : Database) where
  abbrev pub remove_edit : List Row → Edit
  remove_edit rows = edit_of db table (ids_of rows) Given 0 []

  -- the rows whose rowids the query shows are taken out
  pub removed : ((olds : List Row) → works schema Enforced 0 table.tree olds [] ≡ []) → overlay db [] table.tree ≡ db table.tree
      → OnRows (task_of limit schema table params) plain_mode None (Delete at (record { lets = []; body = query_of (inner table.tree end) terms (col 1 0 ∷ []) [] })) db (Ok (tally, after))
      → (rows : List Row) × Selected table.tree terms (col 1 0 ∷ []) [] (overlay db []) params rows × (next : Trees)
      × Applies schema Enforced db (remove_edit rows) next × (next table.tree ≡ without_all (db table.tree) (ids_of rows))
      × (after ≡ record { schema = schema; trees = next })
  removed still placed h =
      let done = went h in
      let now = ap (λ (p : Tally × Database). p.1) (same_value (went (went done.2).2).2) in
      let asked = went done.1 in
      let wrote = went asked.2 in
      let it = selected table.tree terms (col 1 0 ∷ []) [] (overlay db []) params asked.0 (asked.1.answer Null) in
      let step = one_step schema Enforced db wrote.0 (remove_edit asked.0) (still _) wrote.1 in
      let trees = ap (λ (w : Written). w.trees) (same_value wrote.2) in
      (asked.0, it, wrote.0, step, step.rows, now ∙ ap (λ (t : Trees). let d : Database = record { schema = schema; trees = t } in d) trees)
