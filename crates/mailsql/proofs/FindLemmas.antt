-- The queries on maildrops.
use Rattle.std.proofs.Common.{◌≡◌, ℕ, Bool, true, false, not, List, [], ◌∷◌, map, filter, length, cond, Some, is_eq, refl, sym, ap, ◌∙◌, arith}
use Rattle.std.specs.Prelude.{◌&&◌, ◌||◌, ◌==◌, bytes_eq}
use Rattle.std.specs.List.{AllByRecursion, list_any}
use Rattle.std.proofs.lemmas.List.Sorted.{length_permutation}
use Rattle.std.proofs.lemmas.Map.Text.{is_eq-slice_cmp}
use Rattle.sqlite_value.specs.declared.value.Value.TheVariants.{Text}
use Rattle.sqlite_value.specs.declared.keys.Collation.TheVariants.{Binary}
use Rattle.sqlite_value.specs.Order.{Row, column, value_cmp, bytes}
use Rattle.std.proofs.lemmas.List.{length-map}
use Rattle.std.proofs.lemmas.Bool.Decides.{nat_tests}
use Rattle.sqlite_value.proofs.OrderLemmas.{value_cmp-Text}
use Rattle.sqlite_sql.specs.Ops.{binary, is_true, from_truth}
use Rattle.sqlite_sql.specs.Term.{col}
use Rattle.sqlite_schema.specs.Rules.{equal}
use Rattle.sqlite.specs.State.{State, IsLive, Shown, IsUnchanged}
use Rattle.mailsql.proofs.Statements.{eq, find_maildrop_text}
use Rattle.mailsql.specs.Rows.{Name, is_carried, rows_in, maildrop_of, has_name, HasTables}
use Rattle.mailsql.specs.Tables.{schema_of}
use Rattle.mailsql.proofs.Commands.{find_maildrop_is, find_maildrop_plain}
use Rattle.mailsql.proofs.QueryLemmas.{passes, shown_rows, answers, unchanged, shown_open}
use Rattle.mailsql.proofs.TypedLemmas.{IsText, maildrops_typed}

pub truth_back : (b : Bool) → is_true (from_truth (Some b)) ≡ b
truth_back true = refl
truth_back false = refl

pub and_true : (b : Bool) → (b && true) ≡ b
and_true true = refl
and_true false = refl

pub text_equal : (a b : List ℕ) → equal Binary (Text a) (Text b) ≡ bytes_eq a b
unfolding binary
text_equal a b = truth_back (is_eq (value_cmp (Text a) (Text b))) ∙ ap is_eq (value_cmp-Text a b) ∙ is_eq-slice_cmp a b

pub passes_name : (name : Name) (row : Row) → IsText (column row 1) → passes (Text name ∷ []) (eq (col 1 1) (col 0 0) ∷ []) row ≡ bytes_eq (maildrop_of row) name
passes_name name row text =
    and_true (equal Binary (column row 1) (Text name)) ∙ ap (λ v. equal Binary v (Text name)) text.1 ∙ text_equal text.0 name ∙ sym (ap (λ v. bytes_eq (bytes v) name) text.1)

-- some row passes
some_passes : (p : Row → Bool) (q : Name → Bool) (rows : List Row) → AllByRecursion (λ row. p row ≡ q (maildrop_of row)) rows → (length (filter p rows) == 0) ≡ not (list_any q (map maildrop_of rows))
some_passes p q [] all = refl
some_passes p q (row ∷ rows) all = rw (sym all.0) (go (p row) (some_passes p q rows all.1))
  where
    go : (b : Bool) → (length (filter p rows) == 0) ≡ not (list_any q (map maildrop_of rows))
        → (length (cond b (row ∷ filter p rows) (filter p rows)) == 0) ≡ not (b || list_any q (map maildrop_of rows))
    go true more = grind (arith, nat_tests)
    go false more = more

each : {P Q : Row → Type 0} → ((row : Row) → P row → Q row) → (rows : List Row) → AllByRecursion P rows → AllByRecursion Q rows
each f [] p = tt
each f (row ∷ rows) p = (f row p.0, each f rows p.1)

pub found : (old new : State) (name : Name) (rows : List Row) → HasTables old → IsLive old → Shown find_maildrop_text (Text name ∷ []) old new rows
    → ((length rows == 0) ≡ not (has_name name (rows_in old.now.trees).maildrops)) × IsUnchanged old new
found old new name rows tables live h =
    let ours = (tables (shown_open find_maildrop_text (Text name ∷ []) old new rows h)).0 in
    let still = unchanged find_maildrop_text (Text name ∷ []) old new rows 4 _ _ _ _ (schema_of (is_carried old.now.trees)) ours
    (find_maildrop_is (is_carried old.now.trees)) (find_maildrop_plain (is_carried old.now.trees)) refl h in
    let sound = (live still.0.was_open).0 in
    let params = Text name ∷ [] in
    let it = answers find_maildrop_text params old new rows 4 _ _ _ _ (schema_of (is_carried old.now.trees)) ours
    (find_maildrop_is (is_carried old.now.trees)) (find_maildrop_plain (is_carried old.now.trees)) refl h in
    let same = length_permutation _ _ (shown_rows 4 (eq (col 1 1) (col 0 0) ∷ []) (col 1 1 ∷ []) [] old.now.trees params rows it) in
    let some = some_passes (passes params (eq (col 1 1) (col 0 0) ∷ [])) (λ x. bytes_eq x name) (old.now.trees 4) (each (passes_name name) _ (maildrops_typed old.now ours sound)) in
    (ap (λ n. n == 0) (same ∙ length-map _ _) ∙ some, still)
