-- What INSERT of one row does to the trees.
use Rattle.std.proofs.Common.{◌≡◌, ◌⊎◌, inl, inr, ℕ, ◌/◌, List, [], ◌∷◌, length, Bool, true, false, cond, Option, Some, None, Ok, Err, Result, refl, ap, subst, ◌∙◌}
use Rattle.sqlite_value.specs.declared.keys.Order.{Order}
use Rattle.sqlite_value.specs.Order.{Row}
use Rattle.sqlite_trees.specs.Tree.{Trees}
use Rattle.sqlite_sql.specs.Term.{Term}
use Rattle.sqlite_schema.specs.declared.schema.Keys.TheVariants.{Enforced}
use Rattle.sqlite_schema.specs.declared.schema.Column.{Column}
use Rattle.sqlite_schema.specs.declared.schema.Reference.{Reference}
use Rattle.sqlite_schema.specs.declared.schema.Table.{Table}
use Rattle.sqlite_schema.specs.declared.schema.Schema.{Schema}
use Rattle.sqlite_schema.specs.declared.command.Source.TheVariants.{Values}
use Rattle.sqlite_schema.specs.declared.command.Command.TheVariants.{Insert}
use Rattle.sqlite_rules.specs.Edit.{Edit, edit_of, Applies}
use Rattle.sqlite_rules.specs.Action.{Work, work_by, work_for, deed_for, Writes}
use Rattle.sqlite_rules.specs.declared.action.Deed.{Deed}
use Rattle.sqlite_schema.specs.Rules.{ParentKey, parent_key}
use Rattle.std.specs.List.{filter_map, flat_map}
use Rattle.std.specs.Prelude.{◌&&◌, ◌==◌}
use Rattle.sqlite_rules.specs.declared.error.Rowids.TheVariants.{Chosen}
use Rattle.sqlite.specs.declared.run.Mode.{Mode}
use Rattle.sqlite.specs.Effect.{Database, value_rows}
use Rattle.sqlite.specs.Does.{Tally, OnRows}
use Rattle.sqlite.specs.Rows.{Written, Task, stamped}
use Rattle.sqlite.proofs.Callers.{one_step}
use Rattle.mailsql.specs.Tables.{table_of}

abbrev pub plain_mode : Mode
plain_mode = record { keys = Enforced; in_doubt = false; may_wait = false }

-- a part that gave a value did not stop on the way
pub went : {B E R : Type 0} {b : B} {Stops : E → Type 0} → ((stop : E) × Stops stop × (Ok b ≡ Err stop)) ⊎ R → R
went (inl stopped) = absurd (let e = stopped.2 in cc)
went (inr on) = on

pub same_value : {B E : Type 0} {a b : B} → ◌≡◌ {A = Result B E} (Ok a) (Ok b) → a ≡ b
same_value e = cc

abbrev pub task_of : Option ℕ → Schema → Table → Row → Task
task_of limit schema table params = record { limit = limit; keys = Enforced; schema = schema; table = table; params = params }

-- if no row goes, no key is lost
no_work : (depth tree : ℕ) (child : Table) (ref : Reference) (deed : Option Deed) (key : Option ParentKey) → work_by depth tree [] child ref deed key ≡ None
no_work depth tree child ref None key = refl
no_work depth tree child ref (Some deed) None = refl
no_work depth tree child ref (Some deed) (Some key) = go (key.0 == tree)
  where
    go : (b : Bool) → (let w : Work = record { depth = depth; child = child; ref = ref; places = key.1; order = key.2; deed = deed; moves = [] } in cond (b && false) (Some w) None) ≡ None
    go true = refl
    go false = refl

no_works : (schema : Schema) (depth tree : ℕ) (news : List Row) (child : Table) (refs : List Reference) → filter_map (work_for schema Enforced depth tree [] news child) refs ≡ []
no_works schema depth tree news child [] = refl
no_works schema depth tree news child (ref ∷ refs) =
    rw (no_work depth tree child ref (deed_for Enforced (length news == 0) ref) (parent_key schema.tables ref)) (no_works schema depth tree news child refs)

pub nothing_acts : (schema : Schema) (depth tree : ℕ) (news : List Row) (tables : List Table)
    → flat_map (λ (child : Table). filter_map (work_for schema Enforced depth tree [] news child) child.references) tables ≡ []
nothing_acts schema depth tree news [] = refl
nothing_acts schema depth tree news (child ∷ tables) = rw (no_works schema depth tree news child child.references) (nothing_acts schema depth tree news tables)

module _ (limit : Option ℕ) (schema : Schema) (name : List ℕ) (tree : ℕ) (columns : List Column) (key : Option ℕ) (primary : List ℕ)
    (uniques : List (List ℕ)) (orders : List Order) (references : List Reference)
    (params : Row) (at width : ℕ) (terms : List Term) (db : Trees) (tally : Tally) (after : Database) where
  abbrev pub table : Table
  table = table_of name tree columns key primary uniques orders references false

  abbrev pub rows : List Row
  rows = value_rows (stamped table params) width (length terms / width) terms

  abbrev pub edit : Edit
  edit = edit_of db table [] Chosen 0 rows

  pub inserted : OnRows (task_of limit schema table params) plain_mode None (Insert at (Values terms width)) db (Ok (tally, after))
      → (next : Trees) × Applies schema Enforced db edit next × (after ≡ record { schema = schema; trees = next })
  inserted h =
      let done = went h in
      let now = ap (λ (p : Tally × Database). p.1) (same_value (went (went done.2).2).2) in
      let given = went done.1 in
      let written = went (went given.2).2 in
      let counted = went written.2 in
      let trees : done.0.trees ≡ written.0 = ap (λ (it : Written). it.trees) (same_value counted.2) ∙ same_value counted.1 in
      let step : Applies schema Enforced db edit written.0 =
      one_step schema _ db written.0 edit (nothing_acts schema 0 tree edit.news schema.tables)
      (subst (λ all. Writes schema Enforced db (edit_of db table [] Chosen 0 all) (Ok written.0)) given.1.1 written.1) in
      (written.0, step, now ∙ ap (λ (t : Trees). let d : Database = record { schema = schema; trees = t } in d) trees)
