-- The statements on meta.
use Rattle.std.proofs.Common.{arith, false, true, Bool, ◌≡◌, ℕ, ℤ, List, [], ◌∷◌, map, filter, Option, None, Ok, refl, ap, subst, ◌∙◌}
use Rattle.sqlite_tied.specs.Compute.{everything}
use Rattle.sqlite_value.specs.declared.value.Value.TheVariants.{Null, Int, Text}
use Rattle.sqlite_value.specs.Order.{Row, column}
use Rattle.sqlite_trees.specs.Tree.{Trees, put_row}
use Rattle.sqlite_sql.specs.Term.{lit, col}
use Rattle.sqlite_schema.specs.declared.command.Command.{Command}
use Rattle.sqlite_schema.specs.declared.command.Command.TheVariants.{Delete}
use Rattle.sqlite_schema.specs.Rules.{Obeys}
use Rattle.sqlite_rules.specs.declared.error.Rowids.TheVariants.{Chosen}
use Rattle.sqlite_rules.specs.Edit.{next_rowid}
use Rattle.sqlite.specs.Effect.{Database, IsDatabase}
use Rattle.sqlite.specs.Does.{Tally, Does}
use Rattle.sqlite.specs.Listing.{understood}
use Rattle.sqlite.specs.State.{State, IsLive, mode_of, Executes, CommitsBy, Shown}
use Rattle.sqlite.proofs.Callers.{IsPlain, command_of}
use Rattle.mailsql.specs.Tables as tables
use Rattle.mailsql.specs.Tables.{schema_of, old_schema}
use Rattle.mailsql.proofs.Statements as st
use Rattle.mailsql.specs.Rows as m
use Rattle.mailsql.specs.Changes as ch
use Rattle.mailsql.specs.Rows.{Name, Rows, is_carried, rows_in, AreKept, IsKept, IsReady, MayLeave, Changes}
use Rattle.mailsql.proofs.RowLemmas.{next_last, appended}
use Rattle.mailsql.proofs.WriteLemmas.{inserted}
use Rattle.mailsql.proofs.KeptLemmas.{applied_kept, keyed_apart}
use Rattle.mailsql.proofs.FrameLemmas as frame
use Rattle.mailsql.proofs.FrameLemmas.{framed, kept_framed}
use Rattle.mailsql.proofs.CastLemmas.{cast_null, cast_int}
use Rattle.mailsql.proofs.StateLemmas.{changes, commits}
use Rattle.mailsql.proofs.TypedLemmas as typed
use Rattle.mailsql.proofs.EqualLemmas.{column_text, kept_map}
use Rattle.mailsql.proofs.FindLemmas.{and_true}
use Rattle.mailsql.proofs.QueryLemmas.{passes, shown_rows}
use Rattle.mailsql.proofs.RemoveLemmas.{removed}
use Rattle.mailsql.proofs.WithoutLemmas.{without_shown}
use Rattle.mailsql.proofs.CascadeLemmas as still
use Rattle.mailsql.proofs.ReadLemmas.{Asks, kept, sound, listed, everything_listed, listed_of, everything_of}

pub add_meta_row_is : (c : Bool) → command_of (understood (schema_of c) st.add_meta_row_text) ≡ st.add_meta_row_command
unfolding understood everything
add_meta_row_is false = refl
add_meta_row_is true = refl

pub add_meta_row_plain : (c : Bool) → IsPlain (understood (schema_of c) st.add_meta_row_text)
unfolding understood everything
add_meta_row_plain false = (refl, refl)
add_meta_row_plain true = (refl, refl)

add_meta_row_tail : Name → ℤ → Row
add_meta_row_tail name value = Text name ∷ Int value ∷ []

add_meta_row_does : (name : Name) (value : ℤ) (limit : Option ℕ) (s : State) (text : List ℕ) (tally : Tally) (after : Database) → IsKept s.now → IsDatabase s.now
    → Does limit (mode_of s) (Text name ∷ Int value ∷ []) s.now text None st.add_meta_row_command (Ok (tally, after))
    → ch.AddsMetaRow (record { name = name; value = value }) (rows_in s.now.trees) (rows_in after.trees) × IsKept after
unfolding add_meta_row_tail
add_meta_row_does name value limit s text tally after kept sound h =
    let db = s.now.trees in
    let params = Text name ∷ Int value ∷ [] in
    let here = subst (λ sch. Does limit (mode_of s) params (record s.now { schema = sch }) text None st.add_meta_row_command (Ok (tally, after))) kept.0 h in
    let made = inserted limit (schema_of (is_carried db)) _ 0 _ None (1 ∷ []) _ _ ([]) params 0 3 (lit Null ∷ col 0 0 ∷ col 0 1 ∷ []) db tally after here in
    let next = made.0 in
    let tail = add_meta_row_tail name value in
    let rows : next 0 ≡ put_row (Int (next_rowid (db 0)) ∷ tail) (db 0) = simp (cast_null, cast_int) at made.1.rows in
    let last = rows ∙ next_last Chosen tail (db 0) kept.1.0 in
    let change = frame.meta_rows_alone db next (framed db next _ (λ e. absurd (omega arith)) made.1)
    ∙ ap (λ l. let r : Rows = record (rows_in db) { meta_rows = l } in r) (appended m.meta_row_of (db 0) (next 0) (Int (next_rowid (db 0)) ∷ tail) last) in (
      ap (λ (d : Database). rows_in d.trees) made.2 ∙ change,
      kept_framed db next after made.2 (framed db next _ (λ e. absurd (omega arith)) made.1).same (applied_kept db next _ made.1 kept.1),
    )

module _ (old new : State) (name : Name) (value : ℤ) (live : IsLive old) where
  pub add_meta_row_ok : (count : ℕ) → IsReady old → Executes st.add_meta_row_text (Text name ∷ Int value ∷ []) old new (Ok count)
      → Changes (ch.AddsMetaRow (record { name = name; value = value })) old new
  add_meta_row_ok count ready h =
      changes st.add_meta_row_text (Text name ∷ Int value ∷ []) (λ _. st.add_meta_row_command) add_meta_row_is add_meta_row_plain (λ c e. cc)
      (λ c n e. cc) (λ c a b t n r. r) (ch.AddsMetaRow (record { name = name; value = value })) (add_meta_row_does name value) old new count ready live h

  pub add_meta_row_commits : (db : Trees) → CommitsBy st.add_meta_row_text (Text name ∷ Int value ∷ []) old db → MayLeave (ch.AddsMetaRow (record { name = name; value = value })) old db
  add_meta_row_commits db h =
      commits st.add_meta_row_text (Text name ∷ Int value ∷ []) (λ _. st.add_meta_row_command) add_meta_row_is add_meta_row_plain (λ c e. cc)
      (λ c n e. cc) (λ c a b t n r. r) (ch.AddsMetaRow (record { name = name; value = value })) (add_meta_row_does name value) old db live h

abbrev pub drop_meta_row_command : Command
drop_meta_row_command = Delete 0 (record { lets = []; body = st.drop_meta_row_query })

pub drop_meta_row_is : (c : Bool) → command_of (understood (schema_of c) st.drop_meta_row_text) ≡ drop_meta_row_command
unfolding understood everything
drop_meta_row_is false = refl
drop_meta_row_is true = refl

pub drop_meta_row_plain : (c : Bool) → IsPlain (understood (schema_of c) st.drop_meta_row_text)
unfolding understood everything
drop_meta_row_plain false = (refl, refl)
drop_meta_row_plain true = (refl, refl)

drop_meta_row_does : (name : Name) (limit : Option ℕ) (s : State) (text : List ℕ) (tally : Tally) (after : Database) → IsKept s.now → IsDatabase s.now
    → Does limit (mode_of s) (Text name ∷ []) s.now text None drop_meta_row_command (Ok (tally, after)) → ch.DropsMetaRow name (rows_in s.now.trees) (rows_in after.trees) × IsKept after
drop_meta_row_does name limit s text tally after kept sound h =
    let db = s.now.trees in
    let params = Text name ∷ [] in
    let terms = st.drop_meta_row_terms in
    let keyed = kept.1.0 in
    let here = subst (λ sch. Does limit (mode_of s) params (record s.now { schema = sch }) text None drop_meta_row_command (Ok (tally, after))) kept.0 h in
    let it = removed limit (schema_of (is_carried db)) (tables.meta_at 0) params 0 terms db tally after (still.still_meta (is_carried db)) refl here in
    let same = shown_rows 0 terms (col 1 0 ∷ []) [] db params it.0 (record { ordered = it.1.ordered; same = it.1.same; sorted = it.1.sorted; shown = it.1.shown }) in
    let rows = it.4 ∙ without_shown (db 0) (passes params terms) it.0 (keyed_apart (db 0) keyed, keyed.1) same in
    let left = ap (map m.meta_row_of) rows
    ∙ kept_map m.meta_row_of (passes params terms) (m.is_meta_row name) (db 0) (λ r has. let it = typed.meta_rows_typed s.now kept.0 sound r has in and_true _ ∙ column_text (column r 1) name it) in
    let change = frame.meta_rows_alone db it.2 (framed db it.2 _ (λ e. absurd (omega arith)) it.3) ∙ ap (λ l. let r : Rows = record (rows_in db) { meta_rows = l } in r) left in (
      ap (λ (d : Database). rows_in d.trees) it.5 ∙ change,
      kept_framed db it.2 after it.5 (framed db it.2 _ (λ e. absurd (omega arith)) it.3).same (applied_kept db it.2 _ it.3 kept.1),
    )

module _ (old new : State) (name : Name) (live : IsLive old) where
  pub drop_meta_row_ok : (count : ℕ) → IsReady old → Executes st.drop_meta_row_text (Text name ∷ []) old new (Ok count) → Changes (ch.DropsMetaRow name) old new
  drop_meta_row_ok count ready h =
      changes st.drop_meta_row_text (Text name ∷ []) (λ _. drop_meta_row_command) drop_meta_row_is drop_meta_row_plain (λ c e. cc) (λ c n e. cc)
      (λ c a b t n r. r) (ch.DropsMetaRow name) (drop_meta_row_does name) old new count ready live h

  pub drop_meta_row_commits : (db : Trees) → CommitsBy st.drop_meta_row_text (Text name ∷ []) old db → MayLeave (ch.DropsMetaRow name) old db
  drop_meta_row_commits db h =
      commits st.drop_meta_row_text (Text name ∷ []) (λ _. drop_meta_row_command) drop_meta_row_is drop_meta_row_plain (λ c e. cc) (λ c n e. cc)
      (λ c a b t n r. r) (ch.DropsMetaRow name) (drop_meta_row_does name) old db live h

pub find_meta_row_asks : (c : Bool) → Asks (schema_of c) st.find_meta_row_text 0 st.find_meta_row_terms st.meta_row_columns st.meta_row_names
unfolding understood everything
find_meta_row_asks false = record { is = (refl, refl); plain = (refl, refl) }
find_meta_row_asks true = record { is = (refl, refl); plain = (refl, refl) }

module _ (old new : State) (name : Name) (rows : List Row) (tables : m.HasTables old) (h : Shown st.find_meta_row_text (Text name ∷ []) old new rows) where
  pub find_meta_row_shows : IsLive old → map (λ r. m.meta_row_of (Null ∷ r)) rows ≡ filter (m.is_meta_row name) (rows_in old.now.trees).meta_rows
  find_meta_row_shows live =
      let ours = kept _ _ _ _ _ find_meta_row_asks (λ c db. refl) old new _ rows tables h in
      let ty = typed.meta_rows_typed old.now ours.0 (sound _ _ _ _ _ find_meta_row_asks (λ c db. refl) old new _ rows tables h live) in
      listed _ _ _ _ _ find_meta_row_asks (λ c db. refl) old new _ rows tables h m.meta_row_of (λ r. m.meta_row_of (Null ∷ r)) (m.is_meta_row name) ours.1.0 (λ r. refl)
      (λ r has. let it = ty r has in and_true _ ∙ column_text (column r 1) name it)

pub all_meta_rows_asks : (c : Bool) → Asks (schema_of c) st.all_meta_rows_text 0 [] st.meta_row_columns st.meta_row_names
unfolding understood everything
all_meta_rows_asks false = record { is = (refl, refl); plain = (refl, refl) }
all_meta_rows_asks true = record { is = (refl, refl); plain = (refl, refl) }

module _ (old new : State) (rows : List Row) (tables : m.HasTables old) (h : Shown st.all_meta_rows_text ([]) old new rows) where
  pub all_meta_rows_shows : map (λ r. m.meta_row_of (Null ∷ r)) rows ≡ (rows_in old.now.trees).meta_rows
  all_meta_rows_shows =
      let ours = kept _ _ _ _ _ all_meta_rows_asks (λ c db. refl) old new _ rows tables h in
      everything_listed _ _ _ _ _ all_meta_rows_asks (λ c db. refl) old new _ rows tables h m.meta_row_of (λ r. m.meta_row_of (Null ∷ r)) ours.1.0 (λ r. refl) (λ r. refl)

-- ---- an older store

pub find_old_meta_row_asks : (c : Bool) → Asks (old_schema c) st.find_meta_row_text 0 st.find_meta_row_terms st.meta_row_columns st.meta_row_names
unfolding understood everything
find_old_meta_row_asks false = record { is = (refl, refl); plain = (refl, refl) }
find_old_meta_row_asks true = record { is = (refl, refl); plain = (refl, refl) }

pub all_old_meta_rows_asks : (c : Bool) → Asks (old_schema c) st.all_meta_rows_text 0 [] st.meta_row_columns st.meta_row_names
unfolding understood everything
all_old_meta_rows_asks false = record { is = (refl, refl); plain = (refl, refl) }
all_old_meta_rows_asks true = record { is = (refl, refl); plain = (refl, refl) }

old_meta_rows_keyed : (c : Bool) (db : Trees) → AreKept (old_schema c).tables db → m.AreKeyed (db 0)
old_meta_rows_keyed false db all = all.0
old_meta_rows_keyed true db all = all.0

module _ (old new : State) (name : Name) (rows : List Row) (tables : m.IsOld old.now) (sound : IsDatabase old.now) (h : Shown st.find_meta_row_text (Text name ∷ []) old new rows) where
  pub find_old_meta_row_shows : map (λ r. m.meta_row_of (Null ∷ r)) rows ≡ filter (m.is_meta_row name) (rows_in old.now.trees).meta_rows
  find_old_meta_row_shows =
      let c = is_carried old.now.trees in
      let ty = typed.old_meta_rows_typed c old.now.trees (subst (λ s. Obeys s old.now.trees) tables.0 sound.obeys) in
      listed_of (old_schema c) _ _ _ _ _ (find_old_meta_row_asks c) (λ db. refl) old new _ rows tables.0 h m.meta_row_of
      (λ r. m.meta_row_of (Null ∷ r)) (m.is_meta_row name) (old_meta_rows_keyed c old.now.trees tables.1) (λ r. refl)
      (λ r has. and_true _ ∙ column_text (column r 1) name (ty r has))

module _ (old new : State) (rows : List Row) (tables : m.IsOld old.now) (h : Shown st.all_meta_rows_text ([]) old new rows) where
  pub all_old_meta_rows_shows : map (λ r. m.meta_row_of (Null ∷ r)) rows ≡ (rows_in old.now.trees).meta_rows
  all_old_meta_rows_shows =
      let c = is_carried old.now.trees in
      everything_of (old_schema c) _ _ _ _ _ (all_old_meta_rows_asks c) (λ db. refl) old new _ rows tables.0 h m.meta_row_of
      (λ r. m.meta_row_of (Null ∷ r)) (old_meta_rows_keyed c old.now.trees tables.1) (λ r. refl) (λ r. refl)
