-- A row whose rowid is chosen comes after the others.
use Rattle.std.proofs.Common.{◌≡◌, ℤ, pos, ◌+ℤ◌, ◌<ℤ◌, fold, List, [], ◌∷◌, ◌++◌, map, Less, int_cmp, refl, ap, ◌∙◌, arith, IsTrue}
use Rattle.std.specs.List.{AllByRecursion}
use Rattle.std.proofs.lemmas.Bool.Decides.{nat_tests}
use Rattle.std.proofs.lemmas.Int.{ints}
use Rattle.std.proofs.lemmas.List.{map-append}
use Rattle.sqlite_value.specs.declared.value.Value.TheVariants.{Int}
use Rattle.sqlite_value.specs.Order.{Row, value_cmp}
use Rattle.sqlite_value.proofs.OrderLemmas.{value_cmp-Int}
use Rattle.sqlite_trees.specs.Tree.{rowid, put_row, IsTable}
use Rattle.sqlite_trees.specs.View.{is_int}
use Rattle.sqlite_rules.specs.declared.error.Rowids.TheVariants.{Chosen, Above, Given}
use Rattle.sqlite_rules.specs.declared.error.Rowids.{Rowids}
use Rattle.sqlite_rules.specs.Edit.{id_in, next_rowid, at_least}
use Rattle.sqlite_rules.proofs.TableLemmas.{int_is}
use Rattle.mailsql.specs.Rows.{AreKeyed}

abbrev step_rowid : ℤ → Row → ℤ
step_rowid n r = id_in (rowid r) +ℤ pos 1

lower_than : (a b c : ℤ) → int_cmp a b ≡ Less → b <ℤ c → a <ℤ c
lower_than a b c p q = grind (arith, ints, nat_tests)

less_is : (a b : ℤ) → a <ℤ b → int_cmp a b ≡ Less
less_is a b h = grind (arith, ints, nat_tests)

below_next : (x : Row) (rows : List Row) → IsTable (x ∷ rows) → AllByRecursion (λ r. IsTrue (is_int (rowid r))) (x ∷ rows)
    → AllByRecursion (λ r. id_in (rowid r) <ℤ fold step_rowid (step_rowid (pos 1) x) rows) (x ∷ rows)
below_next x [] up keyed = (omega (arith, ints), tt)
below_next x (y ∷ rows) up keyed =
    let later = below_next y rows up.1 keyed.1 in
    let lower = rw (int_is (rowid x) keyed.0, int_is (rowid y) keyed.1.0, value_cmp-Int (id_in (rowid x)) (id_in (rowid y))) at up.0.0 in
    let first = later.0 in
    (lower_than (id_in (rowid x)) (id_in (rowid y)) _ lower first, later)

still_below : (rowids : Rowids) (a b : ℤ) → a <ℤ b → a <ℤ at_least rowids b
still_below Chosen a b h = h
still_below (Above last) a b h = grind (arith, ints, nat_tests)
still_below Given a b h = h

raised : (rowids : Rowids) (b : ℤ) (rows : List Row) → AllByRecursion (λ r. id_in (rowid r) <ℤ b) rows → AllByRecursion (λ r. id_in (rowid r) <ℤ at_least rowids b) rows
raised rowids b [] all = tt
raised rowids b (r ∷ rows) all = (still_below rowids (id_in (rowid r)) b all.0, raised rowids b rows all.1)

-- the chosen rowid is above each that is there
pub next_above : (rowids : Rowids) (rows : List Row) → AreKeyed rows → AllByRecursion (λ r. id_in (rowid r) <ℤ at_least rowids (next_rowid rows)) rows
next_above rowids [] keyed = tt
next_above rowids (x ∷ rows) keyed = raised rowids (next_rowid (x ∷ rows)) (x ∷ rows) (below_next x rows keyed.0 keyed.1)

-- a row whose rowid is above each that is there comes last
pub put_last : (id : ℤ) (rest : Row) (rows : List Row) → AllByRecursion (λ r. IsTrue (is_int (rowid r))) rows
    → AllByRecursion (λ r. id_in (rowid r) <ℤ id) rows → put_row (Int id ∷ rest) rows ≡ rows ++ (Int id ∷ rest) ∷ []
put_last id rest [] ints_are below = refl
put_last id rest (r ∷ rows) ints_are below =
    let less : value_cmp (rowid r) (Int id) ≡ Less = ap (λ v. value_cmp v (Int id)) (int_is (rowid r) ints_are.0) ∙ value_cmp-Int (id_in (rowid r)) id ∙ less_is (id_in (rowid r)) id below.0 in
    rw less (ap (λ l. r ∷ l) (put_last id rest rows ints_are.1 below.1))

pub next_last : (rowids : Rowids) (rest : Row) (rows : List Row) → AreKeyed rows
    → put_row (Int (at_least rowids (next_rowid rows)) ∷ rest) rows ≡ rows ++ (Int (at_least rowids (next_rowid rows)) ∷ rest) ∷ []
next_last rowids rest rows keyed = put_last (at_least rowids (next_rowid rows)) rest rows keyed.1 (next_above rowids rows keyed)

-- the records, with one more
pub appended : {X : Type 0} (f : Row → X) (rows next : List Row) (row : Row) → next ≡ rows ++ row ∷ [] → map f next ≡ map f rows ++ f row ∷ []
appended f rows next row is = ap (map f) is ∙ map-append f rows (row ∷ [])
