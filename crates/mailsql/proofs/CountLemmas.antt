-- COUNT of the rows that pass.
use Rattle.std.proofs.Common.{◌≡◌, ◌<◌, inl, inr, ℕ, pos, min, Bool, true, false, List, [], ◌∷◌, map, filter, length, Some, Ok, Err, Result, IsTrue, codes, refl, sym, ap, subst, ◌∙◌}
use Rattle.std.specs.Prelude.{IfOk, IfErr, OnOk, OnErr}
use Rattle.std.specs.List.{AllZip}
use Rattle.std.specs.List.Sorted.{IsPermutation}
use Rattle.std.proofs.lemmas.List.{length-map}
use Rattle.std.proofs.lemmas.List.Sorted.{length_permutation}
use Rattle.sqlite_value.specs.declared.value.Value.TheVariants.{Null, Int}
use Rattle.sqlite_value.specs.Order.{Row, column}
use Rattle.sqlite_trees.specs.Tree.{Trees}
use Rattle.sqlite_sql.specs.Aggregate.{count}
use Rattle.sqlite_sql.specs.Group.{IsSummary, value_over}
use Rattle.sqlite_sql.specs.Term.{Term, Env, eval, lit}
use Rattle.sqlite_sql.specs.Query.{Join, inner, end, IsAnswer, matches, Output, output}
use Rattle.sqlite_sql.specs.Program.{overlay}
use Rattle.sqlite_rules.specs.Lists.{Has}
use Rattle.sqlite_keyed.proofs.ListLemmas.{filter_all, all_of}
use Rattle.sqlite.specs.declared.error.Error.{Error}
use Rattle.sqlite.specs.Effect.{IsDatabase}
use Rattle.sqlite.specs.Listing.{understood, reads_listing}
use Rattle.sqlite.specs.State.{State, IsLive, Shown, QueriesRow, FailsToQuery, IsUnchanged}
use Rattle.sqlite.proofs.Callers.{IsPlain, command_of, first_as, reads_as, one_permutation}
use Rattle.sqlite_schema.specs.declared.schema.Schema.{Schema}
use Rattle.mailsql.specs.Tables.{schema_of}
use Rattle.mailsql.proofs.Statements.{count_of, count_group, select_of}
use Rattle.mailsql.specs.Rows.{is_carried, IsKept, HasTables, IsUndone}
use Rattle.mailsql.specs.Errors.{FailsToCount, FailsToCountAs}
use Rattle.mailsql.proofs.OrderLemmas.{filter_map}
use Rattle.mailsql.proofs.QueryLemmas.{flat_if, passes, shown_same, shown_open}
use Rattle.mailsql.proofs.ResultLemmas.{if_ok}
use Rattle.mailsql.proofs.StateLemmas.{query_undone}

values_are : (order : List Env) (values : Row) → AllZip (λ a v. value_over order a ≡ Some v) count_group.aggregates values → values ≡ count (length order) ∷ []
values_are order [] all = absurd all
values_are order (v ∷ []) all =
    let e : Some (count (length (map (eval (lit Null)) order))) ≡ Some v = all.0 in
    let same : v ≡ count (length (map (eval (lit Null)) order)) = cc in
    ap (λ x. x ∷ []) same ∙ ap (λ n. count n ∷ []) (length-map _ _)
values_are order (v ∷ w ∷ more) all = absurd all.1

summary_is : (order : List Env) (row : Row) → IsSummary count_group order row → row ≡ count (length order) ∷ []
summary_is order row s = s.2 ∙ values_are order s.0 s.1

one_row : (order : List Env) (rows : List Row) → AllZip (IsSummary count_group) (order ∷ []) rows → rows ≡ (count (length order) ∷ []) ∷ []
one_row order [] all = absurd all
one_row order (row ∷ []) all = ap (λ r. r ∷ []) (summary_is order row all.0)
one_row order (row ∷ other ∷ more) all = absurd all.1

pub counted : (from : Join) (terms : List Term) (db : Trees) (params : Row) (rows : List Row) → IsAnswer (count_of from terms) db params rows
    → rows ≡ (count (length (matches db terms from (params ∷ []))) ∷ []) ∷ []
counted from terms db params rows a =
    let g = a.grouped in
    let order = g.grouping.0 in
    let summed : g.rows ≡ (count (length order) ∷ []) ∷ [] = one_row order g.rows (subst (λ gs. AllZip (IsSummary count_group) gs g.rows) g.grouping.2 g.summaries) in
    let total : length order ≡ length (matches db terms from (params ∷ [])) = length_permutation _ _ g.grouping.1 in
    let q = count_of from terms in
    let row = count (length order) ∷ [] in
    let staged : a.staged ≡ (params ∷ row ∷ []) ∷ [] = g.having ∙ rw summed refl in
    let o : Output = ([], row) in
    let kept : a.kept ≡ o ∷ [] = a.distinct ∙ ap (map (output q)) staged in
    let ordered : a.ordered ≡ o ∷ [] = one_permutation o a.ordered (subst (λ k. IsPermutation k a.ordered) kept a.same) in
    a.shown ∙ ap (map (λ (p : Output). p.1)) ordered ∙ ap (λ n. (count n ∷ []) ∷ []) total

one_of : (x y : Row) (xs ys : List Row) → x ∷ xs ≡ y ∷ ys → x ≡ y
one_of x y xs ys e = cc

none_of : (x : Row) (xs : List Row) → [] ≡ x ∷ xs → ⊥
none_of x xs e = cc

-- what the text means under a schema
pub record Tallies (schema : Schema) (sql : List ℕ) (t : ℕ) (terms : List Term) : Type 0 where
  pub is : (command_of (understood schema sql) ≡ select_of (count_of (inner t end) terms) (codes "count(*)" ∷ [])) × (reads_listing schema sql ≡ false)
  pub plain : IsPlain (understood schema sql)

row_open : (sql : List ℕ) (params : Row) (old new : State) (row : Row) → QueriesRow sql params old new (Ok row) → IsTrue old.is_open
unfolding QueriesRow
row_open sql params old new row (inl h) = h.1.0.was_open
row_open sql params old new row (inr h) = shown_open sql params old new _ h.1

module _ (sql : List ℕ) (at : (carried : Bool) → ℕ) (terms : List Term) (tallies : (c : Bool) → Tallies (schema_of c) sql (at c) terms)
    (placed : (c : Bool) (db : Trees) → overlay db [] (at c) ≡ db (at c)) (old new : State) (params : Row) (tables : HasTables old) where
  abbrev c : Bool
  c = is_carried old.now.trees

  pub row_same : (row : Row) → QueriesRow sql params old new (Ok row) → IsUnchanged old new
  unfolding QueriesRow
  row_same row (inl h) = h.1
  row_same row (inr h) = shown_same sql params old new _ (schema_of c) (tables (shown_open sql params old new _ h.1)).0 (tallies c).plain h.1

  pub row_undone : (e : Error) → QueriesRow sql params old new (Err e) → IsUndone old new
  unfolding QueriesRow
  row_undone e (inl h) = query_undone old new _ _ e h
  row_undone e (inr h) = inl (shown_same sql params old new _ (schema_of c) (tables (shown_open sql params old new _ h.1)).0 (tallies c).plain h.1)

  -- a count shows a row
  none_shown : Shown sql params old new [] → ⊥
  none_shown h =
      let ours = (tables (shown_open sql params old new [] h)).0 in
      let read = reads_as sql params old new (schema_of c) ours _ (tallies c).is.0 (tallies c).plain (tallies c).is.1 [] h in
      none_of _ _ (counted (inner (at c) end) terms (overlay old.now.trees []) params [] (read.answer Null))

  pub row_fails : (e : Error) → QueriesRow sql params old new (Err e) → FailsToQuery sql params old new e
  unfolding QueriesRow
  row_fails e (inl h) = h
  row_fails e (inr h) = absurd (none_shown h.1)

  module _ (row : Row) (h : QueriesRow sql params old new (Ok row)) where
    pub tallied_kept : IsKept old.now
    tallied_kept = tables (row_open sql params old new row h)

    pub tallied_sound : IsLive old → IsDatabase old.now
    tallied_sound live = (live (row_open sql params old new row h)).0

    pub tallied : row ≡ count (length (filter (passes params terms) (old.now.trees (at c)))) ∷ []
    tallied =
        let first = (first_as sql params old new (schema_of c) tallied_kept.0 _ (tallies c).is.0 (tallies c).plain (tallies c).is.1 row h).1 in
        let all = counted (inner (at c) end) terms (overlay old.now.trees []) params _ (first.1 Null) in
        let some = ap length (flat_if (passes params terms) (λ r. params ∷ r ∷ []) (overlay old.now.trees [] (at c))) ∙ length-map _ _
        ∙ ap (λ l. length (filter (passes params terms) l)) (placed c old.now.trees) in
        one_of _ _ _ _ all ∙ ap (λ n. count n ∷ []) some

-- the rows that pass are as many as the records that pass
pub as_many : {X : Type 0} (f : Row → X) (p : Row → Bool) (q : X → Bool) (rows : List Row) → ((r : Row) → Has rows r → p r ≡ q (f r)) → length (filter p rows) ≡ length (filter q (map f rows))
as_many f p q rows same = sym (length-map (filter p rows) f) ∙ ap length (filter_map f p q rows same)

pub all_as_many : {X : Type 0} (f : Row → X) (p : Row → Bool) (rows : List Row) → ((r : Row) → p r ≡ true) → length (filter p rows) ≡ length (map f rows)
all_as_many f p rows all = ap length (filter_all p rows (all_of (λ r. p r ≡ true) all rows)) ∙ sym (length-map rows f)

same_number : (x y : ℕ) → Int (pos x) ≡ Int (pos y) → x ≡ y
same_number x y e = cc

-- the number that is read of the answer
pub reads_count : (row : Row) (m n : ℕ) → row ≡ count m ∷ [] → m ≡ n → (r : Result ℕ Error)
    → IfOk r (λ x. (0 < length row) × (column row 0 ≡ Int (pos x))) → IfOk r (λ x. x ≡ min n 9223372036854775807)
reads_count row m n is same r h =
    if_ok r _ _ (λ (x : ℕ) (it : (0 < length row) × (column row 0 ≡ Int (pos x))). same_number _ _ (sym it.1 ∙ ap (λ l. column l 0) is) ∙ ap (λ k. min k 9223372036854775807) same) h

-- what the reading of a count makes of its row
module _ (sql : List ℕ) (at : (carried : Bool) → ℕ) (terms : List Term) (tallies : (c : Bool) → Tallies (schema_of c) sql (at c) terms)
    (placed : (c : Bool) (db : Trees) → overlay db [] (at c) ≡ db (at c)) (old new : State) (params : Row) (tables : HasTables old) where
  abbrev Counts : ℕ → Type 0
  Counts n = (row : Row) × QueriesRow sql params old new (Ok row) × (0 < length row) × (column row 0 ≡ Int (pos n))

  pub counted_same : (r : Result ℕ Error) → IfOk r Counts → OnOk r (IsUnchanged old new)
  counted_same (Ok n) it = row_same sql at terms tallies placed old new params tables it.0 it.1
  counted_same (Err e) it = tt

  pub counted_undone : (r : Result ℕ Error) → IfErr r (FailsToCountAs sql params old new) → OnErr r (IsUndone old new)
  counted_undone (Ok n) h = tt
  counted_undone (Err e) (inl fails) = row_undone sql at terms tallies placed old new params tables e fails
  counted_undone (Err e) (inr it) = inl (row_same sql at terms tallies placed old new params tables it.0 it.1)

  pub counted_fails : (r : Result ℕ Error) → IfErr r (FailsToCountAs sql params old new) → IfErr r (FailsToCount sql params old new)
  counted_fails (Ok n) h = tt
  counted_fails (Err e) (inl fails) = inl (row_fails sql at terms tallies placed old new params tables e fails)
  counted_fails (Err e) (inr it) = inr (it.2 _ (ap (λ l. column l 0) (tallied sql at terms tallies placed old new params tables it.0 it.1)), it.0, it.1)

  pub counted_is : (k : ℕ) (r : Result ℕ Error)
      → ((row : Row) → QueriesRow sql params old new (Ok row) → length (filter (passes params terms) (old.now.trees (at (is_carried old.now.trees)))) ≡ k)
      → IfOk r Counts → IfOk r (λ x. x ≡ min k 9223372036854775807)
  counted_is k (Ok n) is it = reads_count it.0 _ k (tallied sql at terms tallies placed old new params tables it.0 it.1) (is it.0 it.1) (Ok n) (it.2, it.3)
  counted_is k (Err e) is it = tt
