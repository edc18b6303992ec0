-- The steps of a caller.
use Rattle.std.proofs.Common.{◌≡◌, ℤ, pos, true, false, List, [], ◌∷◌, ◌++◌, ℕ, filter, find, Some, refl, sym, ap, subst, ◌∙◌}
use Rattle.sqlite.specs.Effect.{Database}
use Rattle.sqlite.specs.State.{State, Shows, IsUnchanged}
use Rattle.sqlite.specs.Steps.{IsEmpty}
use Rattle.mailsql.specs.Rows.{Rows, MetaRow, rows_in, no_rows, IsKept, IsReady, IsBegun, MakesTables, Changes, is_in, is_sheet}
use Rattle.mailsql.specs.Changes.{AddsMetaRow}
use Rattle.mailsql.specs.Uses.{Stands, orders, marked, sample_message, sheet_at_place, arrived, with_sheets, left_of}
use Rattle.mailsql.proofs.EqualLemmas.{same_itself}

pub begun : (old new : State) → IsEmpty old → Shows old new old.now old.committed true → IsBegun new
begun old new empty shows = record { is_open = shows.is_open; inside = shows.mode; bare = (ap (λ (d : Database). d.schema) shows.now_is ∙ empty.2, tt) }

pub stands_new : (first made marked new : State) (meta_row : MetaRow) → MakesTables first made
    → (IsReady made → Changes (AddsMetaRow meta_row) made marked) → Shows marked new marked.now marked.now false
    → Stands new (record no_rows { meta_rows = meta_row ∷ [] })
stands_new first made marked new meta_row m does shows =
    let it = does (m.on.is_open, m.kept) in
    record {
      is_open = shows.is_open;
      autocommit = shows.mode;
      kept = subst IsKept (sym shows.now_is) it.kept;
      rows_are = ap (λ (d : Database). rows_in d.trees) shows.now_is ∙ it.change ∙ ap (λ (r : Rows). let x : Rows = record r { meta_rows = r.meta_rows ++ meta_row ∷ [] } in x) m.rows;
    }

pub step : (Change : Rows → Rows → Type 0) (old new : State) (rows after : Rows) → (IsReady old → Changes Change old new)
    → (Change rows (rows_in new.now.trees) → rows_in new.now.trees ≡ after) → Stands old rows
    → Stands new after
step Change old new rows after does is s =
    let it = does (s.is_open, s.kept) in
    record { is_open = it.shown.is_open; autocommit = it.shown.mode ∙ s.autocommit; kept = it.kept; rows_are = is (subst (λ r. Change r (rows_in new.now.trees)) s.rows_are it.change) }

pub still : (old new : State) (rows : Rows) → IsUnchanged old new → Stands old rows → Stands new rows
still old new rows same s =
    record {
      is_open = same.0.is_open;
      autocommit = same.0.mode ∙ s.autocommit;
      kept = subst IsKept (sym same.0.now_is) s.kept;
      rows_are = ap (λ (d : Database). rows_in d.trees) same.0.now_is ∙ s.rows_are;
    }

-- no transaction is under way
pub at_rest : (s : State) (rows : Rows) → Stands s rows → IsReady s × (s.in_transaction ≡ false)
at_rest s rows stands = ((stands.is_open, stands.kept), stands.autocommit)

-- ---- the sample's rows

module _ (key version : ℤ) (first second : List ℕ) where
  abbrev pub full : Rows
  full = with_sheets key first second (arrived key (marked version))

  pub full_heads : filter (is_in orders) full.messages ≡ sample_message key ∷ []
  full_heads = refl

  pub full_first : find (is_sheet key (pos 0)) full.sheets ≡ Some (sheet_at_place key (pos 0) first)
  full_first = rw (same_itself key) refl

  pub full_second : find (is_sheet key (pos 1)) full.sheets ≡ Some (sheet_at_place key (pos 1) second)
  full_second = rw (same_itself key) refl

  pub left_none : (left_of key full).sheets ≡ []
  left_none = rw (same_itself key) refl
