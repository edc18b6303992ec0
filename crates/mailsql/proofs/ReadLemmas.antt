-- What a query by rowid answers, as records.
use Rattle.std.proofs.Common.{◌≡◌, ℕ, Bool, true, false, List, [], ◌∷◌, map, filter, refl, sym, ap, subst, ◌∙◌}
use Rattle.sqlite_value.specs.Order.{Row}
use Rattle.sqlite_trees.specs.Tree.{Trees}
use Rattle.sqlite_sql.specs.Term.{Term, eval_all}
use Rattle.sqlite_sql.specs.Query.{inner, end}
use Rattle.sqlite_sql.specs.Program.{overlay}
use Rattle.sqlite_rules.specs.Lists.{Has}
use Rattle.sqlite_rules.proofs.ListLemmas.{all_from, has_filtered}
use Rattle.std.specs.List.{AllByRecursion}
use Rattle.sqlite_keyed.proofs.ListLemmas.{map-map, filter_all, all_of}
use Rattle.sqlite.specs.Effect.{IsDatabase}
use Rattle.sqlite.specs.Listing.{understood, reads_listing}
use Rattle.sqlite.specs.State.{State, IsLive, Shown, IsUnchanged}
use Rattle.sqlite.proofs.Callers.{IsPlain, command_of}
use Rattle.sqlite_schema.specs.declared.schema.Schema.{Schema}
use Rattle.mailsql.specs.Tables.{schema_of}
use Rattle.mailsql.proofs.Statements.{query_of, select_of, by_rowid}
use Rattle.mailsql.specs.Rows.{AreKeyed, is_carried, IsKept, HasTables}
use Rattle.mailsql.proofs.QueryLemmas.{passes, answers, unchanged, shown_open}
use Rattle.mailsql.proofs.OrderLemmas.{in_order, filter_map}

pub all_of_map : (P : Row → Type 0) (f : Row → Row) (rows : List Row) → AllByRecursion (λ r. P (f r)) rows → AllByRecursion P (map f rows)
all_of_map P f [] all = tt
all_of_map P f (r ∷ rows) all = (all.0, all_of_map P f rows all.1)

-- what the text means under a schema
pub record Asks (schema : Schema) (sql : List ℕ) (t : ℕ) (terms project : List Term) (names : List (List ℕ)) : Type 0 where
  pub is : (command_of (understood schema sql) ≡ select_of (query_of (inner t end) terms project by_rowid) names) × (reads_listing schema sql ≡ false)
  pub plain : IsPlain (understood schema sql)

-- ---- under one schema

module _ (schema : Schema) (sql : List ℕ) (t : ℕ) (terms project : List Term) (names : List (List ℕ)) (asks : Asks schema sql t terms project names) (placed : (db : Trees) → overlay db [] t ≡ db t)
    (old new : State) (params : Row) (rows : List Row) (ours : old.now.schema ≡ schema) (h : Shown sql params old new rows) where
  pub same_of : IsUnchanged old new
  same_of = unchanged sql params old new rows t terms project by_rowid names schema ours asks.is asks.plain (placed old.now.trees) h

  shown_of : AreKeyed (old.now.trees t) → rows ≡ map (λ r. eval_all project (params ∷ r ∷ [])) (filter (passes params terms) (old.now.trees t))
  shown_of keyed = in_order t terms project old.now.trees params rows keyed (answers sql params old new rows t terms project by_rowid names schema ours asks.is asks.plain (placed old.now.trees) h)

  -- the records that pass, each read from its row
  pub listed_of : {X : Type 0} (f read : Row → X) (q : X → Bool) → AreKeyed (old.now.trees t) → ((r : Row) → read (eval_all project (params ∷ r ∷ [])) ≡ f r)
      → ((r : Row) → Has (old.now.trees t) r → passes params terms r ≡ q (f r)) → map read rows ≡ filter q (map f (old.now.trees t))
  listed_of f read q keyed reads passing =
      ap (map read) (shown_of keyed) ∙ map-map read (λ r. eval_all project (params ∷ r ∷ [])) (filter (passes params terms) (old.now.trees t))
      ∙ (λ i. map (λ r. reads r i) (filter (passes params terms) (old.now.trees t))) ∙ filter_map f (passes params terms) q (old.now.trees t) passing

  -- every record
  pub everything_of : {X : Type 0} (f read : Row → X) → AreKeyed (old.now.trees t) → ((r : Row) → read (eval_all project (params ∷ r ∷ [])) ≡ f r) → ((r : Row) → passes params terms r ≡ true)
      → map read rows ≡ map f (old.now.trees t)
  everything_of f read keyed reads all = listed_of f read (λ x. true) keyed reads (λ r has. all r)
      ∙ filter_all (λ x. true) (map f (old.now.trees t)) (all_of (λ x. true ≡ true) (λ x. refl) (map f (old.now.trees t)))

  -- what holds of each row that passes, as it is shown
  pub each_of : (Holds : Row → Type 0) → AreKeyed (old.now.trees t) → ((r : Row) → Has (old.now.trees t) r → Holds (eval_all project (params ∷ r ∷ []))) → AllByRecursion Holds rows
  each_of Holds keyed held = subst (AllByRecursion Holds) (sym (shown_of keyed))
      (all_of_map Holds (λ r. eval_all project (params ∷ r ∷ [])) _ (all_from _ _ (λ r has. held r (has_filtered (passes params terms) (old.now.trees t) r has).0)))

-- ---- over a store of ours, in either order of the tables

module _ (sql : List ℕ) (at : (carried : Bool) → ℕ) (terms project : List Term) (names : List (List ℕ))
    (asks : (c : Bool) → Asks (schema_of c) sql (at c) terms project names) (placed : (c : Bool) (db : Trees) → overlay db [] (at c) ≡ db (at c))
    (old new : State) (params : Row) (rows : List Row) (tables : HasTables old) (h : Shown sql params old new rows) where
  abbrev c : Bool
  c = is_carried old.now.trees

  pub kept : IsKept old.now
  kept = tables (shown_open sql params old new rows h)

  pub same : IsUnchanged old new
  same = same_of (schema_of c) sql (at c) terms project names (asks c) (placed c) old new params rows kept.0 h

  pub sound : IsLive old → IsDatabase old.now
  sound live = (live same.0.was_open).0

  pub listed : {X : Type 0} (f read : Row → X) (q : X → Bool) → AreKeyed (old.now.trees (at c)) → ((r : Row) → read (eval_all project (params ∷ r ∷ [])) ≡ f r)
      → ((r : Row) → Has (old.now.trees (at c)) r → passes params terms r ≡ q (f r)) → map read rows ≡ filter q (map f (old.now.trees (at c)))
  listed = listed_of (schema_of c) sql (at c) terms project names (asks c) (placed c) old new params rows kept.0 h

  pub everything_listed : {X : Type 0} (f read : Row → X) → AreKeyed (old.now.trees (at c)) → ((r : Row) → read (eval_all project (params ∷ r ∷ [])) ≡ f r) → ((r : Row) → passes params terms r ≡ true)
      → map read rows ≡ map f (old.now.trees (at c))
  everything_listed = everything_of (schema_of c) sql (at c) terms project names (asks c) (placed c) old new params rows kept.0 h
