-- The rows that pass are taken out by their rowids, and no other.
use Rattle.std.proofs.Common.{◌≡◌, inl, inr, ℤ, Bool, true, false, not, cond, List, [], ◌∷◌, map, filter, Ordering, Less, Equal, Greater, is_eq, refl, sym, ap, subst, ◌∙◌, true≢false, IsTrue}
use Rattle.std.specs.Prelude.{◌&&◌, ◌||◌}
use Rattle.std.specs.List.{AllByRecursion, list_any}
use Rattle.std.specs.List.Sorted.{IsPermutation}
use Rattle.std.proofs.lemmas.Cmp.{tied_itself}
use Rattle.std.proofs.lemmas.List.Sorted.{Contains-permutation, IsPermutation-sym}
use Rattle.sqlite_value.specs.declared.value.Value.TheVariants.{Int}
use Rattle.sqlite_value.specs.Order.{Row, value_cmp}
use Rattle.sqlite_value.proofs.OrderLemmas.{value_cmp_total}
use Rattle.sqlite_trees.specs.Tree.{rowid, has_rowid, without_rowid}
use Rattle.sqlite_trees.specs.View.{is_int}
use Rattle.sqlite_rules.specs.Lists.{Has}
use Rattle.sqlite_rules.specs.Calls.{ids_of}
use Rattle.sqlite_rules.specs.Edit.{id_in, without_all}
use Rattle.sqlite_rules.proofs.ListLemmas.{all_has, has_filtered, has_kept, has_contained, contains_had, some_from, some_has}
use Rattle.sqlite_rules.proofs.TableLemmas.{int_is}

-- no two rows have one rowid
abbrev pub AreApart : List Row → Type 0
AreApart rows = (a b : Row) → Has rows a → Has rows b → value_cmp (rowid a) (rowid b) ≡ Equal → a ≡ b

module _ {A B : Type 0} where
  pub has_mapped : (f : A → B) (xs : List A) (x : A) → Has xs x → Has (map f xs) (f x)
  has_mapped f [] x h = h
  has_mapped f (y ∷ xs) x (inl e) = inl (ap f e)
  has_mapped f (y ∷ xs) x (inr h) = inr (has_mapped f xs x h)

  pub mapped_has : (f : A → B) (xs : List A) (y : B) → Has (map f xs) y → (x : A) × Has xs x × (y ≡ f x)
  mapped_has f [] y h = absurd h
  mapped_has f (x ∷ xs) y (inl e) = (x, inl refl, e)
  mapped_has f (x ∷ xs) y (inr h) = let it = mapped_has f xs y h in (it.0, inr it.1, it.2)

pub has_permuted : {A : Type 0} (xs ys : List A) (x : A) → IsPermutation xs ys → Has xs x → Has ys x
has_permuted xs ys x p h = has_contained ys x (Contains-permutation xs ys x p (contains_had xs x h))

pub filter_same : (p q : Row → Bool) (rows : List Row) → ((r : Row) → Has rows r → p r ≡ q r) → filter p rows ≡ filter q rows
filter_same p q [] same = refl
filter_same p q (r ∷ rows) same = rw (same r (inl refl), filter_same p q rows (λ x h. same x (inr h)))

filter-filter : (p q : Row → Bool) (rows : List Row) → filter p (filter q rows) ≡ filter (λ r. q r && p r) rows
filter-filter p q [] = refl
filter-filter p q (r ∷ rows) = go (q r) (filter-filter p q rows)
  where
    go : (b : Bool) → filter p (filter q rows) ≡ filter (λ x. q x && p x) rows
        → filter p (cond b (r ∷ filter q rows) (filter q rows)) ≡ cond (b && p r) (r ∷ filter (λ x. q x && p x) rows) (filter (λ x. q x && p x) rows)
    go true more = rw more
    go false more = more

not-or : (a b : Bool) → (not a && not b) ≡ not (a || b)
not-or true b = refl
not-or false b = refl

filter_everything : (rows : List Row) → filter (λ r. true) rows ≡ rows
filter_everything [] = refl
filter_everything (r ∷ rows) = ap (λ l. r ∷ l) (filter_everything rows)

pub without_all_filters : (ids : List ℤ) (rows : List Row) → without_all rows ids ≡ filter (λ r. not (list_any (λ id. has_rowid id r) ids)) rows
without_all_filters [] rows = sym (filter_everything rows)
without_all_filters (id ∷ ids) rows =
    without_all_filters ids (without_rowid id rows) ∙ filter-filter _ (λ r. not (has_rowid id r)) rows
    ∙ filter_same _ _ rows (λ r h. not-or (has_rowid id r) (list_any (λ i. has_rowid i r) ids))

pub tie : (o : Ordering) → is_eq o ≡ true → o ≡ Equal
tie Less h = absurd (true≢false (sym h))
tie Equal h = refl
tie Greater h = absurd (true≢false (sym h))

pub bool_same : (a b : Bool) → (a ≡ true → b ≡ true) → (b ≡ true → a ≡ true) → a ≡ b
bool_same true b f g = sym (f refl)
bool_same false true f g = g refl
bool_same false false f g = refl

-- each row that passes is among those that are shown, by its rowid
module _ (rows : List Row) (p : Row → Bool) (shown : List Row) (keyed : AreApart rows × AllByRecursion (λ r. IsTrue (is_int (rowid r))) rows)
    (same : IsPermutation (map (λ r. rowid r ∷ []) (filter p rows)) shown) where
  id_is : (r : Row) → Has rows r → rowid r ≡ Int (id_in (rowid r))
  id_is r h = int_is (rowid r) (all_has (λ x. IsTrue (is_int (rowid x))) rows r keyed.1 h)

  taken_if : (r : Row) → Has rows r → p r ≡ true → list_any (λ id. has_rowid id r) (ids_of shown) ≡ true
  taken_if r h passes =
      let there = has_permuted _ shown (rowid r ∷ []) same (has_mapped (λ x. rowid x ∷ []) (filter p rows) r (has_kept p rows r h passes)) in
      let id = has_mapped (λ x. id_in (rowid x)) shown (rowid r ∷ []) there in
      some_from (λ i. has_rowid i r) (ids_of shown) (id_in (rowid r)) id (ap (λ v. is_eq (value_cmp (rowid r) v)) (sym (id_is r h)) ∙ ap is_eq (tied_itself value_cmp_total (rowid r)))

  only_if : (r : Row) → Has rows r → list_any (λ id. has_rowid id r) (ids_of shown) ≡ true → p r ≡ true
  only_if r h taken =
      let found = some_has (λ i. has_rowid i r) (ids_of shown) taken in
      let seen = mapped_has (λ x. id_in (rowid x)) shown found.0 found.1 in
      let from = mapped_has (λ x. rowid x ∷ []) (filter p rows) seen.0 (has_permuted shown _ seen.0 (IsPermutation-sym _ shown same) seen.1) in
      let other = has_filtered p rows from.0 from.1 in
      let id : Int found.0 ≡ rowid from.0 = ap Int (seen.2 ∙ ap (λ x. id_in (rowid x)) from.2) ∙ sym (id_is from.0 other.0) in
      let equal = subst (λ v. is_eq (value_cmp (rowid r) v) ≡ true) id found.2 in
      ap p (keyed.0 r from.0 h other.0 (tie _ equal)) ∙ other.1

  pub without_shown : without_all rows (ids_of shown) ≡ filter (λ r. not (p r)) rows
  without_shown = without_all_filters (ids_of shown) rows ∙ filter_same _ _ rows (λ r h. ap not (bool_same (list_any (λ id. has_rowid id r) (ids_of shown)) (p r) (only_if r h) (taken_if r h)))
