-- The statements on sheets.
use Rattle.std.proofs.Common.{arith, false, true, Bool, ◌≡◌, ℕ, ℤ, List, [], ◌∷◌, map, filter, Option, None, Ok, refl, ap, ap₂, subst, ◌∙◌}
use Rattle.std.specs.Prelude.{◌&&◌}
use Rattle.sqlite_tied.specs.Compute.{everything}
use Rattle.sqlite_value.specs.declared.value.Value.TheVariants.{Null, Int, Blob}
use Rattle.sqlite_value.specs.Order.{Row, column}
use Rattle.sqlite_trees.specs.Tree.{Trees, put_row}
use Rattle.sqlite_sql.specs.Term.{lit, col}
use Rattle.sqlite_rules.specs.declared.error.Rowids.TheVariants.{Chosen}
use Rattle.sqlite_rules.specs.Edit.{next_rowid}
use Rattle.sqlite.specs.Effect.{Database, IsDatabase}
use Rattle.sqlite.specs.Does.{Tally, Does}
use Rattle.sqlite.specs.Listing.{understood}
use Rattle.sqlite.specs.State.{State, IsLive, mode_of, Executes, CommitsBy, Shown}
use Rattle.sqlite.proofs.Callers.{IsPlain, command_of}
use Rattle.mailsql.specs.Tables.{schema_of, to_mail}
use Rattle.mailsql.proofs.Statements as st
use Rattle.mailsql.specs.Rows as m
use Rattle.mailsql.specs.Changes as ch
use Rattle.mailsql.specs.Rows.{Rows, is_carried, rows_in, IsKept, IsReady, MayLeave, Changes}
use Rattle.mailsql.proofs.RowLemmas.{next_last, appended}
use Rattle.mailsql.proofs.WriteLemmas.{inserted}
use Rattle.mailsql.proofs.KeptLemmas.{applied_kept}
use Rattle.mailsql.proofs.FrameLemmas as frame
use Rattle.mailsql.proofs.FrameLemmas.{framed, kept_framed}
use Rattle.mailsql.proofs.CastLemmas.{cast_null, cast_int}
use Rattle.mailsql.proofs.StateLemmas.{changes, commits}
use Rattle.mailsql.proofs.TypedLemmas as typed
use Rattle.mailsql.proofs.EqualLemmas.{column_int, column_test}
use Rattle.sqlite_sql.specs.declared.ops.CompareOp.TheVariants.{Ge, Lt}
use Rattle.mailsql.proofs.FindLemmas.{and_true}
use Rattle.mailsql.proofs.ReadLemmas.{Asks, kept, sound, listed}

pub add_sheet_is : (c : Bool) → command_of (understood (schema_of c) st.add_sheet_text) ≡ st.add_sheet_command
unfolding understood everything
add_sheet_is false = refl
add_sheet_is true = refl

pub add_sheet_plain : (c : Bool) → IsPlain (understood (schema_of c) st.add_sheet_text)
unfolding understood everything
add_sheet_plain false = (refl, refl)
add_sheet_plain true = (refl, refl)

add_sheet_tail : ℤ → ℤ → List ℕ → Row
add_sheet_tail mail place octets = Int mail ∷ Int place ∷ Blob octets ∷ []

add_sheet_does : (mail : ℤ) (place : ℤ) (octets : List ℕ) (limit : Option ℕ) (s : State) (text : List ℕ) (tally : Tally) (after : Database) → IsKept s.now → IsDatabase s.now
    → Does limit (mode_of s) (Int mail ∷ Int place ∷ Blob octets ∷ []) s.now text None st.add_sheet_command (Ok (tally, after))
    → ch.AddsSheet (record { mail = mail; place = place; octets = octets }) (rows_in s.now.trees) (rows_in after.trees) × IsKept after
unfolding add_sheet_tail
add_sheet_does mail place octets limit s text tally after kept sound h =
    let db = s.now.trees in
    let params = Int mail ∷ Int place ∷ Blob octets ∷ [] in
    let here = subst (λ sch. Does limit (mode_of s) params (record s.now { schema = sch }) text None st.add_sheet_command (Ok (tally, after))) kept.0 h in
    let made = inserted limit (schema_of (is_carried db)) _ 15 _ None (1 ∷ 2 ∷ []) _ _ (to_mail ∷ []) params 8 4 (lit Null ∷ col 0 0 ∷ col 0 1 ∷ col 0 2 ∷ []) db tally after here in
    let next = made.0 in
    let tail = add_sheet_tail mail place octets in
    let rows : next 15 ≡ put_row (Int (next_rowid (db 15)) ∷ tail) (db 15) = simp (cast_null, cast_int) at made.1.rows in
    let last = rows ∙ next_last Chosen tail (db 15) kept.1.1.1.1.1.1.1.1.1.0 in
    let change = frame.sheets_alone db next (framed db next _ (λ e. absurd (omega arith)) made.1)
    ∙ ap (λ l. let r : Rows = record (rows_in db) { sheets = l } in r) (appended m.sheet_of (db 15) (next 15) (Int (next_rowid (db 15)) ∷ tail) last) in (
      ap (λ (d : Database). rows_in d.trees) made.2 ∙ change,
      kept_framed db next after made.2 (framed db next _ (λ e. absurd (omega arith)) made.1).same (applied_kept db next _ made.1 kept.1),
    )

module _ (old new : State) (mail : ℤ) (place : ℤ) (octets : List ℕ) (live : IsLive old) where
  pub add_sheet_ok : (count : ℕ) → IsReady old → Executes st.add_sheet_text (Int mail ∷ Int place ∷ Blob octets ∷ []) old new (Ok count)
      → Changes (ch.AddsSheet (record { mail = mail; place = place; octets = octets })) old new
  add_sheet_ok count ready h =
      changes st.add_sheet_text (Int mail ∷ Int place ∷ Blob octets ∷ []) (λ _. st.add_sheet_command) add_sheet_is add_sheet_plain (λ c e. cc)
      (λ c n e. cc) (λ c a b t n r. r) (ch.AddsSheet (record { mail = mail; place = place; octets = octets })) (add_sheet_does mail place octets) old new count ready live h

  pub add_sheet_commits : (db : Trees) → CommitsBy st.add_sheet_text (Int mail ∷ Int place ∷ Blob octets ∷ []) old db
      → MayLeave (ch.AddsSheet (record { mail = mail; place = place; octets = octets })) old db
  add_sheet_commits db h =
      commits st.add_sheet_text (Int mail ∷ Int place ∷ Blob octets ∷ []) (λ _. st.add_sheet_command) add_sheet_is add_sheet_plain (λ c e. cc)
      (λ c n e. cc) (λ c a b t n r. r) (ch.AddsSheet (record { mail = mail; place = place; octets = octets })) (add_sheet_does mail place octets) old db live h

pub find_sheet_asks : (c : Bool) → Asks (schema_of c) st.find_sheet_text 15 st.find_sheet_terms st.sheet_columns st.sheet_names
unfolding understood everything
find_sheet_asks false = record { is = (refl, refl); plain = (refl, refl) }
find_sheet_asks true = record { is = (refl, refl); plain = (refl, refl) }

module _ (old new : State) (mail : ℤ) (place : ℤ) (rows : List Row) (tables : m.HasTables old) (h : Shown st.find_sheet_text (Int mail ∷ Int place ∷ []) old new rows) where
  pub find_sheet_shows : IsLive old → map (λ r. m.sheet_of (Null ∷ r)) rows ≡ filter (m.is_sheet mail place) (rows_in old.now.trees).sheets
  find_sheet_shows live =
      let ours = kept _ _ _ _ _ find_sheet_asks (λ c db. refl) old new _ rows tables h in
      let ty = typed.sheets_typed old.now ours.0 (sound _ _ _ _ _ find_sheet_asks (λ c db. refl) old new _ rows tables h live) in
      listed _ _ _ _ _ find_sheet_asks (λ c db. refl) old new _ rows tables h m.sheet_of (λ r. m.sheet_of (Null ∷ r)) (m.is_sheet mail place) ours.1.1.1.1.1.1.1.1.1.0 (λ r. refl)
      (λ r has. let it = ty r has in ap₂ ◌&&◌ (column_int (column r 1) mail it.0) (and_true _ ∙ column_int (column r 2) place it.1))

pub sheets_between_asks : (c : Bool) → Asks (schema_of c) st.sheets_between_text 15 st.sheets_between_terms st.sheet_columns st.sheet_names
unfolding understood everything
sheets_between_asks false = record { is = (refl, refl); plain = (refl, refl) }
sheets_between_asks true = record { is = (refl, refl); plain = (refl, refl) }

module _ (old new : State) (mail from end : ℤ) (rows : List Row) (tables : m.HasTables old) (h : Shown st.sheets_between_text (Int mail ∷ Int from ∷ Int end ∷ []) old new rows) where
  pub sheets_between_shows : IsLive old → map (λ r. m.sheet_of (Null ∷ r)) rows ≡ filter (m.is_sheet_between mail from end) (rows_in old.now.trees).sheets
  sheets_between_shows live =
      let ours = kept _ _ _ _ _ sheets_between_asks (λ c db. refl) old new _ rows tables h in
      let ty = typed.sheets_typed old.now ours.0 (sound _ _ _ _ _ sheets_between_asks (λ c db. refl) old new _ rows tables h live) in
      listed _ _ _ _ _ sheets_between_asks (λ c db. refl) old new _ rows tables h m.sheet_of (λ r. m.sheet_of (Null ∷ r)) (m.is_sheet_between mail from end) ours.1.1.1.1.1.1.1.1.1.0 (λ r. refl)
      (λ r has. let it = ty r has in ap₂ ◌&&◌ (column_int (column r 1) mail it.0) (ap₂ ◌&&◌ (column_test Ge (column r 2) from it.1) (and_true _ ∙ column_test Lt (column r 2) end it.1)))
