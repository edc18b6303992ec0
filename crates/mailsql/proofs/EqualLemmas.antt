-- What the tests of WHERE compare.
use Rattle.std.proofs.Common.{◌≡◌, inl, inr, ℕ, ℤ, Bool, true, false, not, cond, List, [], ◌∷◌, map, filter, is_eq, refl, sym, ap, ◌∙◌}
use Rattle.std.specs.Prelude.{bytes_eq}
use Rattle.std.specs.Ordering.{int_cmp}
use Rattle.std.proofs.lemmas.Cmp.{tied_itself}
use Rattle.sqlite_value.specs.declared.value.Value.{Value}
use Rattle.sqlite_value.specs.declared.value.Value.TheVariants.{Null, Int, Text}
use Rattle.sqlite_value.specs.declared.keys.Collation.TheVariants.{Binary}
use Rattle.sqlite_value.specs.Order.{Row, value_cmp, bytes}
use Rattle.sqlite_value.proofs.OrderLemmas.{value_cmp-Int, value_cmp_total}
use Rattle.sqlite_sql.specs.Ops.{binary, is_true, test}
use Rattle.sqlite_sql.specs.declared.ops.BinaryOp.TheVariants.{Compare}
use Rattle.sqlite_sql.specs.declared.ops.CompareOp.{CompareOp}
use Rattle.sqlite_schema.specs.Rules.{equal}
use Rattle.sqlite_rules.specs.Lists.{Has}
use Rattle.sqlite_rules.specs.Edit.{id_in}
use Rattle.mailsql.specs.Rows.{same_int}
use Rattle.mailsql.proofs.TypedLemmas.{IsText, IsInt}
use Rattle.mailsql.proofs.FindLemmas.{text_equal, truth_back}

pub int_equal : (a b : ℤ) → equal Binary (Int a) (Int b) ≡ same_int a b
unfolding binary
int_equal a b = truth_back (is_eq (value_cmp (Int a) (Int b))) ∙ ap is_eq (value_cmp-Int a b)

pub null_unequal : (a : ℤ) → equal Binary (Int a) Null ≡ false
unfolding binary
null_unequal a = refl

pub same_itself : (a : ℤ) → same_int a a ≡ true
same_itself a = ap is_eq (sym (value_cmp-Int a a) ∙ tied_itself value_cmp_total (Int a))

pub column_text : (v : Value) (name : List ℕ) → IsText v → equal Binary v (Text name) ≡ bytes_eq (bytes v) name
column_text v name it = ap (λ x. equal Binary x (Text name)) it.1 ∙ text_equal it.0 name ∙ sym (ap (λ x. bytes_eq (bytes x) name) it.1)

pub column_int : (v : Value) (n : ℤ) → IsInt v → equal Binary v (Int n) ≡ same_int (id_in v) n
column_int v n it = ap (λ x. equal Binary x (Int n)) it.1 ∙ int_equal it.0 n ∙ sym (ap (λ x. same_int (id_in x) n) it.1)

int_test : (op : CompareOp) (a b : ℤ) → is_true (binary (Compare op Binary) (Int a) (Int b)) ≡ test op (int_cmp a b)
unfolding binary
int_test op a b = truth_back (test op (value_cmp (Int a) (Int b))) ∙ ap (test op) (value_cmp-Int a b)

pub column_test : (op : CompareOp) (v : Value) (n : ℤ) → IsInt v → is_true (binary (Compare op Binary) v (Int n)) ≡ test op (int_cmp (id_in v) n)
column_test op v n it = ap (λ x. is_true (binary (Compare op Binary) x (Int n))) it.1 ∙ int_test op it.0 n ∙ sym (ap (λ x. test op (int_cmp (id_in x) n)) it.1)

-- what is left of the rows is what is left of the records
pub kept_map : {X : Type 0} (f : Row → X) (p : Row → Bool) (q : X → Bool) (rows : List Row) → ((r : Row) → Has rows r → p r ≡ q (f r))
    → map f (filter (λ r. not (p r)) rows) ≡ filter (λ x. not (q x)) (map f rows)
kept_map f p q [] same = refl
kept_map f p q (row ∷ rows) same = rw (sym (same row (inl refl))) (go (p row) (kept_map f p q rows (λ r h. same r (inr h))))
  where
    go : (b : Bool) → map f (filter (λ r. not (p r)) rows) ≡ filter (λ x. not (q x)) (map f rows)
        → map f (cond (not b) (row ∷ filter (λ r. not (p r)) rows) (filter (λ r. not (p r)) rows)) ≡ cond (not b) (f row ∷ filter (λ x. not (q x)) (map f rows)) (filter (λ x. not (q x)) (map f rows))
    go true more = more
    go false more = ap (λ l. f row ∷ l) more

pub nothing_kept : {X : Type 0} (f : Row → X) (rows : List Row) → map f (filter (λ r. false) rows) ≡ []
nothing_kept f [] = refl
nothing_kept f (row ∷ rows) = nothing_kept f rows
