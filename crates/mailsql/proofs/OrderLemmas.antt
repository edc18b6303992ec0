-- An answer in the order of the rowids.
use Rattle.std.proofs.Common.{◌≡◌, inl, inr, ℕ, Bool, true, false, cond, List, [], ◌∷◌, map, filter, find, Ordering, Less, is_lt, IsSorted, refl, sym, ap, ◌∙◌, slice_get}
use Rattle.std.specs.Ordering.{on}
use Rattle.std.specs.Option.{option_map}
use Rattle.std.specs.Cmp.{IsTotalOrder}
use Rattle.std.proofs.lemmas.Cmp.{on_total}
use Rattle.sqlite_value.specs.Order.{Row, column, value_cmp}
use Rattle.sqlite_value.proofs.OrderLemmas.{value_cmp_total, then-Equal}
use Rattle.sqlite_trees.specs.Tree.{Trees, rowid}
use Rattle.sqlite_sql.specs.Term.{Term, eval_all}
use Rattle.sqlite_sql.specs.Query.{Query, Output, output, output_cmp, inner, end}
use Rattle.sqlite_keyed.proofs.SortLemmas.{sorted_unique}
use Rattle.sqlite_keyed.proofs.ListLemmas.{map-map, ascending-map, ascending-filter, slice_get-filter}
use Rattle.sqlite_rules.specs.Lists.{Has}
use Rattle.mailsql.proofs.Statements.{query_of, by_rowid}
use Rattle.mailsql.specs.Rows.{AreKeyed}
use Rattle.mailsql.proofs.QueryLemmas.{passes, Selected}

module _ (t : ℕ) (terms project : List Term) (db : Trees) (params : Row) where
  abbrev query : Query
  query = query_of (inner t end) terms project by_rowid

  abbrev out : Row → Output
  out r = output query (params ∷ r ∷ [])

  abbrev by_id : Output → Output → Ordering
  by_id = on (λ (o : Output). column o.0 0) value_cmp

  by_id_total : IsTotalOrder by_id
  by_id_total = on_total (λ (o : Output). column o.0 0) value_cmp_total

  by_id_sorted : (xs : List Output) → IsSorted (output_cmp query) xs → IsSorted by_id xs
  by_id_sorted xs sorted k d low within = ap is_lt (sym (then-Equal _)) ∙ sorted k d low within

  -- the rows that pass, as they stand
  pub in_order : (rows : List Row) → AreKeyed (db t) → Selected t terms project by_rowid db params rows → rows ≡ map (λ r. eval_all project (params ∷ r ∷ [])) (filter (passes params terms) (db t))
  in_order rows keyed it =
      let kept = filter (passes params terms) (db t) in
      let up = ascending-map (λ a b. by_id a b ≡ Less) out kept (ascending-filter (λ a b. value_cmp (rowid a) (rowid b) ≡ Less) (passes params terms) (db t) keyed.0) in
      let same : it.ordered ≡ map out kept = sorted_unique by_id by_id_total (map out kept) it.ordered up it.same (by_id_sorted it.ordered it.sorted) in
      it.shown ∙ ap (map (λ (o : Output). o.1)) same ∙ map-map (λ (o : Output). o.1) out kept

-- the rows that pass are the records that pass
pub filter_map : {X : Type 0} (f : Row → X) (p : Row → Bool) (q : X → Bool) (rows : List Row) → ((r : Row) → Has rows r → p r ≡ q (f r)) → map f (filter p rows) ≡ filter q (map f rows)
filter_map f p q [] same = refl
filter_map f p q (row ∷ rows) same = rw (sym (same row (inl refl))) (go (p row) (filter_map f p q rows (λ r h. same r (inr h))))
  where
    go : (b : Bool) → map f (filter p rows) ≡ filter q (map f rows) → map f (cond b (row ∷ filter p rows) (filter p rows)) ≡ cond b (f row ∷ filter q (map f rows)) (filter q (map f rows))
    go true more = ap (λ l. f row ∷ l) more
    go false more = more

slice_get-map : {X Y : Type 0} (f : X → Y) (xs : List X) → option_map f (slice_get xs 0) ≡ slice_get (map f xs) 0
slice_get-map f [] = refl
slice_get-map f (x ∷ xs) = refl

pub first_is : {X : Type 0} (read : Row → X) (q : X → Bool) (rows : List Row) (xs : List X) → map read rows ≡ filter q xs → option_map read (slice_get rows 0) ≡ find q xs
first_is read q rows xs h = slice_get-map read rows ∙ ap (λ l. slice_get l 0) h ∙ slice_get-filter q xs
