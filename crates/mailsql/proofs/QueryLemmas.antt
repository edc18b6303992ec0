-- What a query of one table answers.
use Rattle.std.proofs.Common.{◌≡◌, ℕ, Bool, true, false, cond, List, [], ◌∷◌, ◌++◌, map, filter, Option, Some, None, refl, sym, ap, subst, subst₂, ◌∙◌}
use Rattle.std.specs.List.{list_all, flat_map}
use Rattle.std.specs.List.Sorted.{IsPermutation, IsSorted}
use Rattle.std.proofs.lemmas.List.Sorted.{IsPermutation-map}
use Rattle.sqlite_value.specs.declared.value.Value.TheVariants.{Null}
use Rattle.sqlite_value.specs.declared.keys.Key.{Key}
use Rattle.sqlite_value.specs.Order.{Row}
use Rattle.sqlite_trees.specs.Tree.{Trees}
use Rattle.sqlite_sql.specs.Term.{Term, Env, eval_all, holds}
use Rattle.sqlite_sql.specs.Query.{inner, end, IsAnswer, Output, output, output_cmp}
use Rattle.sqlite_sql.specs.Program.{overlay}
use Rattle.sqlite_schema.specs.declared.command.Returning.{Returning}
use Rattle.sqlite.specs.Listing.{understood, reads_listing}
use Rattle.sqlite.specs.State.{State, Shown, ShowsRows, IsUnchanged}
use Rattle.std.specs.Prelude.{IsTrue}
use Rattle.sqlite_resolve.specs.declared.compiled.Compiled.{Compiled}
use Rattle.sqlite.proofs.Callers.{IsPlain, command_of, reads_as}
use Rattle.sqlite_schema.specs.declared.schema.Schema.{Schema}
use Rattle.mailsql.proofs.Statements.{query_of, select_of}

pub flat_if : (p : Row → Bool) (f : Row → Env) (rows : List Row) → flat_map (λ r. cond (p r) (f r ∷ []) []) rows ≡ map f (filter p rows)
flat_if p f [] = refl
flat_if p f (r ∷ rows) = go (p r) (flat_if p f rows)
  where
    go : (b : Bool) → flat_map (λ x. cond (p x) (f x ∷ []) []) rows ≡ map f (filter p rows)
        → cond b (f r ∷ []) [] ++ flat_map (λ x. cond (p x) (f x ∷ []) []) rows ≡ map f (cond b (r ∷ filter p rows) (filter p rows))
    go true more = ap (λ l. f r ∷ l) more
    go false more = more

map-map : {A B C : Type 0} (g : B → C) (f : A → B) (xs : List A) → map g (map f xs) ≡ map (λ x. g (f x)) xs
map-map g f [] = refl
map-map g f (x ∷ xs) = ap (λ l. g (f x) ∷ l) (map-map g f xs)

-- the row passes WHERE
abbrev pub passes : Row → List Term → Row → Bool
passes params terms row = list_all (holds (params ∷ row ∷ [])) terms

module _ (t : ℕ) (terms project : List Term) (order : List (Term × Key)) (db : Trees) (params : Row) where
  abbrev pub outputs : List Output
  outputs = map (λ r. output (query_of (inner t end) terms project order) (params ∷ r ∷ [])) (filter (passes params terms) (db t))

  -- the rows that pass, shown in an order that ORDER BY allows
  pub record Selected (rows : List Row) : Type 0 where
    pub ordered : List Output
    pub same : IsPermutation outputs ordered
    pub sorted : IsSorted (output_cmp (query_of (inner t end) terms project order)) ordered
    pub shown : rows ≡ map (λ o. o.1) ordered

  pub selected : (rows : List Row) → IsAnswer (query_of (inner t end) terms project order) db params rows → Selected rows
  selected rows a =
      let q = query_of (inner t end) terms project order in
      let staged = a.grouped ∙ flat_if (passes params terms) (λ r. params ∷ r ∷ []) (db t) in
      let kept : a.kept ≡ outputs = a.distinct ∙ ap (map (output q)) staged ∙ map-map (output q) (λ r. params ∷ r ∷ []) (filter (passes params terms) (db t)) in
      record { ordered = a.ordered; same = subst (λ k. IsPermutation k a.ordered) kept a.same; sorted = a.sorted; shown = a.shown }

  pub shown_rows : (rows : List Row) → Selected rows → IsPermutation (map (λ r. eval_all project (params ∷ r ∷ [])) (filter (passes params terms) (db t))) rows
  shown_rows rows s =
      subst₂ IsPermutation (map-map (λ (o : Output). o.1) (λ r. output (query_of (inner t end) terms project order) (params ∷ r ∷ [])) (filter (passes params terms) (db t))) (sym s.shown)
      (IsPermutation-map (λ (o : Output). o.1) _ _ s.same)

rows_open : (old new : State) (sql : List ℕ) (c : Compiled) (params : Row) (rows : List Row) (what : Option Returning) → ShowsRows old new sql c params rows what → IsTrue old.is_open
rows_open old new sql c params rows None h = h.3.0.was_open
rows_open old new sql c params rows (Some what) h = h.1.shown.was_open

-- only an open connection answers
pub shown_open : (sql : List ℕ) (params : Row) (old new : State) (rows : List Row) → Shown sql params old new rows → IsTrue old.is_open
unfolding Shown
shown_open sql params old new rows h = rows_open old new sql h.0 _ rows _ h.2

pub shown_same : (sql : List ℕ) (params : Row) (old new : State) (rows : List Row) (schema : Schema) → old.now.schema ≡ schema
    → IsPlain (understood schema sql) → Shown sql params old new rows → IsUnchanged old new
unfolding Shown
shown_same sql params old new rows schema ours plain h =
    let known = sym h.1.is ∙ ap (λ s. understood s sql) ours in
    let bare = subst IsPlain (sym known) plain in
    (rw bare.0 at h.2).3

module _ (sql : List ℕ) (params : Row) (old new : State) (rows : List Row) (t : ℕ) (terms project : List Term) (order : List (Term × Key))
    (names : List (List ℕ)) (schema : Schema) (ours : old.now.schema ≡ schema)
    (is : (command_of (understood schema sql) ≡ select_of (query_of (inner t end) terms project order) names) × (reads_listing schema sql ≡ false)) (plain : IsPlain (understood schema sql))
    (placed : overlay old.now.trees [] t ≡ old.now.trees t) (h : Shown sql params old new rows) where
  pub unchanged : IsUnchanged old new
  unchanged = shown_same sql params old new rows schema ours plain h

  pub answers : Selected t terms project order old.now.trees params rows
  answers =
      let read = reads_as sql params old new schema ours _ is.0 plain is.1 rows h in
      let it = selected t terms project order (overlay old.now.trees []) params rows (read.answer Null) in
      record {
        ordered = it.ordered;
        same =
            subst (λ l. IsPermutation (map (λ r. output (query_of (inner t end) terms project order) (params ∷ r ∷ [])) (filter (passes params terms) l)) it.ordered) placed it.same;
        sorted =
            it.sorted;
        shown = it.shown;
      }
