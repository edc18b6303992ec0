-- The members of a group in the order of their places.
use Rattle.std.proofs.Common.{◌≡◌, ℕ, ℤ, ◌+◌, ◌<◌, Bool, true, false, List, [], ◌∷◌, map, filter, length, is_lt, refl, sym, ap, ap₂, subst, subst₂, ◌∙◌, arith, get_or, Result}
use Rattle.std.specs.Prelude.{IfOk, Vec}
use Rattle.std.specs.List.{AllByRecursion}
use Rattle.std.specs.List.Sorted.{IsPermutation, IsSorted}
use Rattle.std.specs.Ordering.{int_cmp, on}
use Rattle.std.proofs.lemmas.List.{get_or-map, length-map}
use Rattle.std.proofs.lemmas.List.Elements.{All-from_recursion, recursion_from_All}
use Rattle.std.proofs.lemmas.List.Sorted.{IsPermutation-map, All-permutation}
use Rattle.sqlite_tied.specs.Compute.{everything}
use Rattle.sqlite_value.specs.declared.value.Value.TheVariants.{Null, Int}
use Rattle.sqlite_value.specs.Order.{Row, column, value_cmp}
use Rattle.sqlite_value.proofs.OrderLemmas.{value_cmp-Int, then-Equal}
use Rattle.sqlite_sql.specs.Query.{Output, output, output_cmp}
use Rattle.sqlite_keyed.proofs.ListLemmas.{map-map}
use Rattle.sqlite_rules.specs.Edit.{id_in}
use Rattle.sqlite.specs.declared.error.Error.{Error}
use Rattle.sqlite.specs.Listing.{understood, reads_listing}
use Rattle.sqlite.specs.State.{State, IsLive, Shown, IsUnchanged}
use Rattle.sqlite.proofs.Callers.{IsPlain, command_of}
use Rattle.mailsql.specs.Tables.{schema_of}
use Rattle.mailsql.proofs.Statements.{members_text, members_query, members_terms, member_columns, member_names, by_place, select_of}
use Rattle.mailsql.specs.Rows.{Member, is_carried, rows_in, member_of, is_member_of, HasTables, IsByPlace, HoldsMember}
use Rattle.mailsql.proofs.QueryLemmas.{passes, answers, shown_rows, unchanged, shown_open}
use Rattle.mailsql.proofs.OrderLemmas.{filter_map}
use Rattle.mailsql.proofs.ReadLemmas.{all_of_map}
use Rattle.mailsql.proofs.HeldLemmas.{members_in, members_held}
use Rattle.mailsql.proofs.FindLemmas.{and_true}
use Rattle.mailsql.proofs.EqualLemmas.{column_int}
use Rattle.sqlite_rules.proofs.ListLemmas.{all_from, has_filtered}
use Rattle.mailsql.proofs.ResultLemmas.{if_ok}
use Rattle.mailsql.proofs.TypedLemmas.{IsInt}

pub members_is : (c : Bool) → (command_of (understood (schema_of c) members_text) ≡ select_of members_query member_names) × (reads_listing (schema_of c) members_text ≡ false)
unfolding understood everything
members_is false = (refl, refl)
members_is true = (refl, refl)

pub members_plain : (c : Bool) → IsPlain (understood (schema_of c) members_text)
unfolding understood everything
members_plain false = (refl, refl)
members_plain true = (refl, refl)

member_in : Output → Member
member_in o = member_of (Null ∷ o.1)

abbrev IsPlaced : Output → Type 0
IsPlaced o = (n : ℤ) × (o.0 ≡ Int n ∷ []) × (column o.1 1 ≡ Int n)

abbrev out : Row → Row → Output
out params r = output members_query (params ∷ r ∷ [])

placed : (params r : Row) → IsInt (column r 2) → IsPlaced (out params r)
placed params r int = (int.0, ap (λ v. v ∷ []) int.1, int.1)

all_placed : (params : Row) (rows : List Row) → AllByRecursion (λ r. IsInt (column r 2)) rows → AllByRecursion IsPlaced (map (out params) rows)
all_placed params [] all = tt
all_placed params (r ∷ rows) all = (placed params r all.0, all_placed params rows all.1)

same_order : (a b : Output) → IsPlaced a → IsPlaced b → output_cmp members_query a b ≡ int_cmp (member_in a).place (member_in b).place
unfolding member_in
same_order a b x y =
    then-Equal (value_cmp (column a.0 0) (column b.0 0)) ∙ ap₂ value_cmp (ap (λ r. column r 0) x.1) (ap (λ r. column r 0) y.1) ∙ value_cmp-Int x.0 y.0
    ∙ sym (ap₂ (λ v w. int_cmp (id_in v) (id_in w)) x.2 y.2)

places_rise : (ordered : List Output) → ((k : ℕ) (d : Output) → k < length ordered → IsPlaced (get_or ordered k d))
    → IsSorted (output_cmp members_query) ordered → IsSorted (on (λ (m : Member). m.place) int_cmp) (map member_in ordered)
places_rise ordered all sorted k d low within =
    let inside : k + 1 < length ordered = rw length-map at within in
    let none : Output = ([], []) in
    rw (get_or-map member_in ordered (k + 1) none d inside, get_or-map member_in ordered k none d (omega arith))
    (ap is_lt (sym (same_order (get_or ordered (k + 1) none) (get_or ordered k none) (all (k + 1) none inside) (all k none (omega arith)))) ∙ sorted k none low inside)

module _ (old new : State) (group : ℤ) (rows : List Row) (tables : HasTables old) (h : Shown members_text (Int group ∷ []) old new rows) where
  pub by_place_same : IsUnchanged old new
  by_place_same = unchanged members_text (Int group ∷ []) old new rows 19 members_terms member_columns by_place member_names
      (schema_of (is_carried old.now.trees)) (tables (shown_open members_text (Int group ∷ []) old new rows h)).0
      (members_is (is_carried old.now.trees)) (members_plain (is_carried old.now.trees)) refl h

  pub by_place_shows : IsLive old → IsByPlace (filter (is_member_of group) (rows_in old.now.trees).members) (map (λ r. member_of (Null ∷ r)) rows)
  unfolding member_in
  by_place_shows live =
      let params = Int group ∷ [] in
      let ours = (tables (shown_open members_text params old new rows h)).0 in
      let typed = members_in old.now ours (live by_place_same.0.was_open).0 in
      let it = answers members_text params old new rows 19 members_terms member_columns by_place member_names
      (schema_of (is_carried old.now.trees)) ours (members_is (is_carried old.now.trees)) (members_plain (is_carried old.now.trees)) refl h in
      let passing = filter (passes params members_terms) (old.now.trees 19) in
      let each = all_from _ passing (λ r has. (typed r (has_filtered (passes params members_terms) (old.now.trees 19) r has).0).1) in
      let asked : map member_in (map (out params) passing) ≡ filter (is_member_of group) (map member_of (old.now.trees 19)) =
      map-map member_in (out params) passing
      ∙ filter_map member_of (passes params members_terms) (is_member_of group) (old.now.trees 19) (λ r has. and_true _ ∙ column_int (column r 1) group (typed r has).0) in
      let read : map (λ r. member_of (Null ∷ r)) rows ≡ map member_in it.ordered = ap (map (λ r. member_of (Null ∷ r))) it.shown
      ∙ map-map (λ r. member_of (Null ∷ r)) (λ (o : Output). o.1) it.ordered in
      record {
        same = subst₂ IsPermutation asked (sym read) (IsPermutation-map member_in _ _ it.same);
        rise = subst (IsSorted (on (λ (m : Member). m.place) int_cmp)) (sym read)
            (places_rise it.ordered (All-permutation IsPlaced _ _ it.same (All-from_recursion IsPlaced (map (out params) passing) (all_placed params passing each))) it.sorted);
      }

  -- each row that was shown holds a member
  pub by_place_held : IsLive old → AllByRecursion (λ r. HoldsMember (Null ∷ r)) rows
  by_place_held live =
      let params = Int group ∷ [] in
      let ours = (tables (shown_open members_text params old new rows h)).0 in
      let held = members_held old.now ours (live by_place_same.0.was_open).0 in
      let it = answers members_text params old new rows 19 members_terms member_columns by_place member_names
      (schema_of (is_carried old.now.trees)) ours (members_is (is_carried old.now.trees)) (members_plain (is_carried old.now.trees)) refl h in
      let same = shown_rows 19 members_terms member_columns by_place old.now.trees params rows it in
      let P : Row → Type 0 = λ r. HoldsMember (Null ∷ r) in
      let each = all_of_map P (λ r. column r 1 ∷ column r 2 ∷ column r 3 ∷ []) _ (all_from _ _ (λ r has. held r (has_filtered (passes params members_terms) (old.now.trees 19) r has).0)) in
      recursion_from_All P rows (All-permutation P _ _ same (All-from_recursion P _ each))

pub reads_members : {A : Type 0} (members : List Member) (lent rows : List Row) (lend : lent ≡ rows) (is : IsByPlace members (map (λ r. member_of (Null ∷ r)) rows)) (r : Result (Vec Member A) Error)
    → IfOk r (λ all. all.items ≡ map (λ row. member_of (Null ∷ row)) lent) → IfOk r (λ all. IsByPlace members all.items)
reads_members members lent rows lend is r h = if_ok r _ _ (λ all e. subst (IsByPlace members) (sym (e ∙ ap (map (λ row. member_of (Null ∷ row))) lend)) is) h
