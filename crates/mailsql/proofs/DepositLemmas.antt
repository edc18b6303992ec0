-- The statements on deposits.
use Rattle.std.proofs.Common.{arith, false, true, Bool, ◌≡◌, ℕ, ℤ, List, [], ◌∷◌, map, filter, Option, None, Ok, refl, ap, ap₂, subst, ◌∙◌}
use Rattle.std.specs.Prelude.{◌&&◌}
use Rattle.sqlite_tied.specs.Compute.{everything}
use Rattle.sqlite_value.specs.declared.value.Value.TheVariants.{Null, Int, Text, Blob}
use Rattle.sqlite_value.specs.Order.{Row, column}
use Rattle.sqlite_trees.specs.Tree.{Trees, put_row}
use Rattle.sqlite_sql.specs.Term.{lit, col}
use Rattle.sqlite_rules.specs.declared.error.Rowids.TheVariants.{Chosen}
use Rattle.sqlite_rules.specs.Edit.{next_rowid}
use Rattle.sqlite.specs.Effect.{Database, IsDatabase}
use Rattle.sqlite.specs.Does.{Tally, Does}
use Rattle.sqlite.specs.Listing.{understood}
use Rattle.sqlite.specs.State.{State, IsLive, mode_of, Executes, CommitsBy, Shown}
use Rattle.sqlite.proofs.Callers.{IsPlain, command_of}
use Rattle.mailsql.specs.Tables.{schema_of}
use Rattle.mailsql.proofs.Statements as st
use Rattle.mailsql.specs.Rows as m
use Rattle.mailsql.specs.Changes as ch
use Rattle.mailsql.specs.Rows.{Name, Rows, is_carried, rows_in, IsKept, IsReady, MayLeave, Changes}
use Rattle.mailsql.proofs.RowLemmas.{next_last, appended}
use Rattle.mailsql.proofs.WriteLemmas.{inserted}
use Rattle.mailsql.proofs.KeptLemmas.{applied_kept}
use Rattle.mailsql.proofs.FrameLemmas as frame
use Rattle.mailsql.proofs.FrameLemmas.{framed, kept_framed}
use Rattle.mailsql.proofs.CastLemmas.{cast_null, cast_int}
use Rattle.mailsql.proofs.StateLemmas.{changes, commits}
use Rattle.mailsql.proofs.TypedLemmas as typed
use Rattle.mailsql.proofs.EqualLemmas.{column_text}
use Rattle.mailsql.proofs.FindLemmas.{and_true}
use Rattle.mailsql.proofs.ReadLemmas.{Asks, kept, sound, listed, everything_listed}

pub add_deposit_is : (c : Bool) → command_of (understood (schema_of c) st.add_deposit_text) ≡ st.add_deposit_command
unfolding understood everything
add_deposit_is false = refl
add_deposit_is true = refl

pub add_deposit_plain : (c : Bool) → IsPlain (understood (schema_of c) st.add_deposit_text)
unfolding understood everything
add_deposit_plain false = (refl, refl)
add_deposit_plain true = (refl, refl)

add_deposit_tail : Name → Name → Name → ℤ → List ℕ → Row
add_deposit_tail maildrop id class k digest = Text maildrop ∷ Text id ∷ Text class ∷ Int k ∷ Blob digest ∷ []

add_deposit_does : (maildrop : Name) (id : Name) (class : Name) (k : ℤ) (digest : List ℕ) (limit : Option ℕ) (s : State) (text : List ℕ) (tally : Tally) (after : Database)
    → IsKept s.now → IsDatabase s.now
    → Does limit (mode_of s) (Text maildrop ∷ Text id ∷ Text class ∷ Int k ∷ Blob digest ∷ []) s.now text None st.add_deposit_command (Ok (tally, after))
    → ch.AddsDeposit (record { maildrop = maildrop; id = id; class = class; k = k; digest = digest }) (rows_in s.now.trees) (rows_in after.trees) × IsKept after
unfolding add_deposit_tail
add_deposit_does maildrop id class k digest limit s text tally after kept sound h =
    let db = s.now.trees in
    let params = Text maildrop ∷ Text id ∷ Text class ∷ Int k ∷ Blob digest ∷ [] in
    let here = subst (λ sch. Does limit (mode_of s) params (record s.now { schema = sch }) text None st.add_deposit_command (Ok (tally, after))) kept.0 h in
    let made = inserted limit (schema_of (is_carried db)) _ 8 _ None (1 ∷ 2 ∷ []) _ _ ([]) params 4 6 (lit Null ∷ col 0 0 ∷ col 0 1 ∷ col 0 2 ∷ col 0 3 ∷ col 0 4 ∷ []) db tally after here in
    let next = made.0 in
    let tail = add_deposit_tail maildrop id class k digest in
    let rows : next 8 ≡ put_row (Int (next_rowid (db 8)) ∷ tail) (db 8) = simp (cast_null, cast_int) at made.1.rows in
    let last = rows ∙ next_last Chosen tail (db 8) kept.1.1.1.1.1.0 in
    let change = frame.deposits_alone db next (framed db next _ (λ e. absurd (omega arith)) made.1)
    ∙ ap (λ l. let r : Rows = record (rows_in db) { deposits = l } in r) (appended m.deposit_of (db 8) (next 8) (Int (next_rowid (db 8)) ∷ tail) last) in (
      ap (λ (d : Database). rows_in d.trees) made.2 ∙ change,
      kept_framed db next after made.2 (framed db next _ (λ e. absurd (omega arith)) made.1).same (applied_kept db next _ made.1 kept.1),
    )

module _ (old new : State) (maildrop : Name) (id : Name) (class : Name) (k : ℤ) (digest : List ℕ) (live : IsLive old) where
  pub add_deposit_ok : (count : ℕ) → IsReady old
      → Executes st.add_deposit_text (Text maildrop ∷ Text id ∷ Text class ∷ Int k ∷ Blob digest ∷ []) old new (Ok count)
      → Changes (ch.AddsDeposit (record { maildrop = maildrop; id = id; class = class; k = k; digest = digest })) old new
  add_deposit_ok count ready h =
      changes st.add_deposit_text (Text maildrop ∷ Text id ∷ Text class ∷ Int k ∷ Blob digest ∷ [])
      (λ _. st.add_deposit_command) add_deposit_is add_deposit_plain (λ c e. cc) (λ c n e. cc) (λ c a b t n r. r)
      (ch.AddsDeposit (record { maildrop = maildrop; id = id; class = class; k = k; digest = digest })) (add_deposit_does maildrop id class k digest) old new count ready live h

  pub add_deposit_commits : (db : Trees) → CommitsBy st.add_deposit_text (Text maildrop ∷ Text id ∷ Text class ∷ Int k ∷ Blob digest ∷ []) old db
      → MayLeave (ch.AddsDeposit (record { maildrop = maildrop; id = id; class = class; k = k; digest = digest })) old db
  add_deposit_commits db h =
      commits st.add_deposit_text (Text maildrop ∷ Text id ∷ Text class ∷ Int k ∷ Blob digest ∷ [])
      (λ _. st.add_deposit_command) add_deposit_is add_deposit_plain (λ c e. cc) (λ c n e. cc) (λ c a b t n r. r)
      (ch.AddsDeposit (record { maildrop = maildrop; id = id; class = class; k = k; digest = digest })) (add_deposit_does maildrop id class k digest) old db live h

pub find_deposit_asks : (c : Bool) → Asks (schema_of c) st.find_deposit_text 8 st.find_deposit_terms st.deposit_columns st.deposit_names
unfolding understood everything
find_deposit_asks false = record { is = (refl, refl); plain = (refl, refl) }
find_deposit_asks true = record { is = (refl, refl); plain = (refl, refl) }

module _ (old new : State) (maildrop : Name) (id : Name) (rows : List Row) (tables : m.HasTables old) (h : Shown st.find_deposit_text (Text maildrop ∷ Text id ∷ []) old new rows) where
  pub find_deposit_shows : IsLive old → map (λ r. m.deposit_of (Null ∷ r)) rows ≡ filter (m.is_deposit maildrop id) (rows_in old.now.trees).deposits
  find_deposit_shows live =
      let ours = kept _ _ _ _ _ find_deposit_asks (λ c db. refl) old new _ rows tables h in
      let ty = typed.deposits_typed old.now ours.0 (sound _ _ _ _ _ find_deposit_asks (λ c db. refl) old new _ rows tables h live) in
      listed _ _ _ _ _ find_deposit_asks (λ c db. refl) old new _ rows tables h m.deposit_of (λ r. m.deposit_of (Null ∷ r)) (m.is_deposit maildrop id) ours.1.1.1.1.1.0 (λ r. refl)
      (λ r has. let it = ty r has in ap₂ ◌&&◌ (column_text (column r 1) maildrop it.0) (and_true _ ∙ column_text (column r 2) id it.1))

pub all_deposits_asks : (c : Bool) → Asks (schema_of c) st.all_deposits_text 8 [] st.deposit_columns st.deposit_names
unfolding understood everything
all_deposits_asks false = record { is = (refl, refl); plain = (refl, refl) }
all_deposits_asks true = record { is = (refl, refl); plain = (refl, refl) }

module _ (old new : State) (rows : List Row) (tables : m.HasTables old) (h : Shown st.all_deposits_text ([]) old new rows) where
  pub all_deposits_shows : map (λ r. m.deposit_of (Null ∷ r)) rows ≡ (rows_in old.now.trees).deposits
  all_deposits_shows =
      let ours = kept _ _ _ _ _ all_deposits_asks (λ c db. refl) old new _ rows tables h in
      everything_listed _ _ _ _ _ all_deposits_asks (λ c db. refl) old new _ rows tables h m.deposit_of (λ r. m.deposit_of (Null ∷ r)) ours.1.1.1.1.1.0 (λ r. refl) (λ r. refl)
