-- The statements on counts.
use Rattle.std.proofs.Common.{arith, false, true, Bool, ◌≡◌, ℕ, ℤ, List, [], ◌∷◌, map, filter, Option, None, Ok, refl, ap, ap₂, subst, ◌∙◌}
use Rattle.std.specs.Prelude.{◌&&◌}
use Rattle.sqlite_tied.specs.Compute.{everything}
use Rattle.sqlite_value.specs.declared.value.Value.TheVariants.{Null, Int, Text}
use Rattle.sqlite_value.specs.Order.{Row, column}
use Rattle.sqlite_trees.specs.Tree.{Trees, put_row}
use Rattle.sqlite_sql.specs.Term.{lit, col}
use Rattle.sqlite_schema.specs.declared.command.Command.{Command}
use Rattle.sqlite_schema.specs.declared.command.Command.TheVariants.{Delete}
use Rattle.sqlite_rules.specs.declared.error.Rowids.TheVariants.{Chosen}
use Rattle.sqlite_rules.specs.Edit.{next_rowid}
use Rattle.sqlite.specs.Effect.{Database, IsDatabase}
use Rattle.sqlite.specs.Does.{Tally, Does}
use Rattle.sqlite.specs.Listing.{understood}
use Rattle.sqlite.specs.State.{State, IsLive, mode_of, Executes, CommitsBy, Shown}
use Rattle.sqlite.proofs.Callers.{IsPlain, command_of}
use Rattle.mailsql.specs.Tables as tables
use Rattle.mailsql.specs.Tables.{schema_of}
use Rattle.mailsql.proofs.Statements as st
use Rattle.mailsql.specs.Rows as m
use Rattle.mailsql.specs.Changes as ch
use Rattle.mailsql.specs.Rows.{Name, Rows, is_carried, rows_in, IsKept, IsReady, MayLeave, Changes}
use Rattle.mailsql.proofs.RowLemmas.{next_last, appended}
use Rattle.mailsql.proofs.WriteLemmas.{inserted}
use Rattle.mailsql.proofs.KeptLemmas.{applied_kept, keyed_apart}
use Rattle.mailsql.proofs.FrameLemmas as frame
use Rattle.mailsql.proofs.FrameLemmas.{framed, kept_framed}
use Rattle.mailsql.proofs.CastLemmas.{cast_null, cast_int}
use Rattle.mailsql.proofs.StateLemmas.{changes, commits}
use Rattle.mailsql.proofs.TypedLemmas as typed
use Rattle.mailsql.proofs.EqualLemmas.{column_text, kept_map}
use Rattle.mailsql.proofs.FindLemmas.{and_true}
use Rattle.mailsql.proofs.QueryLemmas.{passes, shown_rows}
use Rattle.mailsql.proofs.RemoveLemmas.{removed}
use Rattle.mailsql.proofs.WithoutLemmas.{without_shown}
use Rattle.mailsql.proofs.CascadeLemmas as still
use Rattle.mailsql.proofs.ReadLemmas.{Asks, kept, sound, listed, everything_listed}

pub add_count_is : (c : Bool) → command_of (understood (schema_of c) st.add_count_text) ≡ st.add_count_command
unfolding understood everything
add_count_is false = refl
add_count_is true = refl

pub add_count_plain : (c : Bool) → IsPlain (understood (schema_of c) st.add_count_text)
unfolding understood everything
add_count_plain false = (refl, refl)
add_count_plain true = (refl, refl)

add_count_tail : Name → Name → ℤ → Row
add_count_tail maildrop class k = Text maildrop ∷ Text class ∷ Int k ∷ []

add_count_does : (maildrop : Name) (class : Name) (k : ℤ) (limit : Option ℕ) (s : State) (text : List ℕ) (tally : Tally) (after : Database) → IsKept s.now → IsDatabase s.now
    → Does limit (mode_of s) (Text maildrop ∷ Text class ∷ Int k ∷ []) s.now text None st.add_count_command (Ok (tally, after))
    → ch.AddsCount (record { maildrop = maildrop; class = class; k = k }) (rows_in s.now.trees) (rows_in after.trees) × IsKept after
unfolding add_count_tail
add_count_does maildrop class k limit s text tally after kept sound h =
    let db = s.now.trees in
    let params = Text maildrop ∷ Text class ∷ Int k ∷ [] in
    let here = subst (λ sch. Does limit (mode_of s) params (record s.now { schema = sch }) text None st.add_count_command (Ok (tally, after))) kept.0 h in
    let made = inserted limit (schema_of (is_carried db)) _ 6 _ None (1 ∷ 2 ∷ []) _ _ ([]) params 3 4 (lit Null ∷ col 0 0 ∷ col 0 1 ∷ col 0 2 ∷ []) db tally after here in
    let next = made.0 in
    let tail = add_count_tail maildrop class k in
    let rows : next 6 ≡ put_row (Int (next_rowid (db 6)) ∷ tail) (db 6) = simp (cast_null, cast_int) at made.1.rows in
    let last = rows ∙ next_last Chosen tail (db 6) kept.1.1.1.1.0 in
    let change = frame.counts_alone db next (framed db next _ (λ e. absurd (omega arith)) made.1)
    ∙ ap (λ l. let r : Rows = record (rows_in db) { counts = l } in r) (appended m.count_of (db 6) (next 6) (Int (next_rowid (db 6)) ∷ tail) last) in (
      ap (λ (d : Database). rows_in d.trees) made.2 ∙ change,
      kept_framed db next after made.2 (framed db next _ (λ e. absurd (omega arith)) made.1).same (applied_kept db next _ made.1 kept.1),
    )

module _ (old new : State) (maildrop : Name) (class : Name) (k : ℤ) (live : IsLive old) where
  pub add_count_ok : (count : ℕ) → IsReady old → Executes st.add_count_text (Text maildrop ∷ Text class ∷ Int k ∷ []) old new (Ok count)
      → Changes (ch.AddsCount (record { maildrop = maildrop; class = class; k = k })) old new
  add_count_ok count ready h =
      changes st.add_count_text (Text maildrop ∷ Text class ∷ Int k ∷ []) (λ _. st.add_count_command) add_count_is add_count_plain (λ c e. cc)
      (λ c n e. cc) (λ c a b t n r. r) (ch.AddsCount (record { maildrop = maildrop; class = class; k = k })) (add_count_does maildrop class k) old new count ready live h

  pub add_count_commits : (db : Trees) → CommitsBy st.add_count_text (Text maildrop ∷ Text class ∷ Int k ∷ []) old db
      → MayLeave (ch.AddsCount (record { maildrop = maildrop; class = class; k = k })) old db
  add_count_commits db h =
      commits st.add_count_text (Text maildrop ∷ Text class ∷ Int k ∷ []) (λ _. st.add_count_command) add_count_is add_count_plain (λ c e. cc)
      (λ c n e. cc) (λ c a b t n r. r) (ch.AddsCount (record { maildrop = maildrop; class = class; k = k })) (add_count_does maildrop class k) old db live h

abbrev pub clear_count_command : Command
clear_count_command = Delete 3 (record { lets = []; body = st.clear_count_query })

pub clear_count_is : (c : Bool) → command_of (understood (schema_of c) st.clear_count_text) ≡ clear_count_command
unfolding understood everything
clear_count_is false = refl
clear_count_is true = refl

pub clear_count_plain : (c : Bool) → IsPlain (understood (schema_of c) st.clear_count_text)
unfolding understood everything
clear_count_plain false = (refl, refl)
clear_count_plain true = (refl, refl)

clear_count_does : (maildrop : Name) (class : Name) (limit : Option ℕ) (s : State) (text : List ℕ) (tally : Tally) (after : Database) → IsKept s.now → IsDatabase s.now
    → Does limit (mode_of s) (Text maildrop ∷ Text class ∷ []) s.now text None clear_count_command (Ok (tally, after))
    → ch.ClearsCount maildrop class (rows_in s.now.trees) (rows_in after.trees) × IsKept after
clear_count_does maildrop class limit s text tally after kept sound h =
    let db = s.now.trees in
    let params = Text maildrop ∷ Text class ∷ [] in
    let terms = st.clear_count_terms in
    let keyed = kept.1.1.1.1.0 in
    let here = subst (λ sch. Does limit (mode_of s) params (record s.now { schema = sch }) text None clear_count_command (Ok (tally, after))) kept.0 h in
    let it = removed limit (schema_of (is_carried db)) (tables.counts_at 6) params 3 terms db tally after (still.still_counts (is_carried db)) refl here in
    let same = shown_rows 6 terms (col 1 0 ∷ []) [] db params it.0 (record { ordered = it.1.ordered; same = it.1.same; sorted = it.1.sorted; shown = it.1.shown }) in
    let rows = it.4 ∙ without_shown (db 6) (passes params terms) it.0 (keyed_apart (db 6) keyed, keyed.1) same in
    let left = ap (map m.count_of) rows
    ∙ kept_map m.count_of (passes params terms) (m.is_count maildrop class) (db 6)
    (λ r has. let it = typed.counts_typed s.now kept.0 sound r has in ap₂ ◌&&◌ (column_text (column r 1) maildrop it.0) (and_true _ ∙ column_text (column r 2) class it.1)) in
    let change = frame.counts_alone db it.2 (framed db it.2 _ (λ e. absurd (omega arith)) it.3) ∙ ap (λ l. let r : Rows = record (rows_in db) { counts = l } in r) left in (
      ap (λ (d : Database). rows_in d.trees) it.5 ∙ change,
      kept_framed db it.2 after it.5 (framed db it.2 _ (λ e. absurd (omega arith)) it.3).same (applied_kept db it.2 _ it.3 kept.1),
    )

module _ (old new : State) (maildrop : Name) (class : Name) (live : IsLive old) where
  pub clear_count_ok : (count : ℕ) → IsReady old → Executes st.clear_count_text (Text maildrop ∷ Text class ∷ []) old new (Ok count) → Changes (ch.ClearsCount maildrop class) old new
  clear_count_ok count ready h =
      changes st.clear_count_text (Text maildrop ∷ Text class ∷ []) (λ _. clear_count_command) clear_count_is clear_count_plain (λ c e. cc)
      (λ c n e. cc) (λ c a b t n r. r) (ch.ClearsCount maildrop class) (clear_count_does maildrop class) old new count ready live h

  pub clear_count_commits : (db : Trees) → CommitsBy st.clear_count_text (Text maildrop ∷ Text class ∷ []) old db → MayLeave (ch.ClearsCount maildrop class) old db
  clear_count_commits db h =
      commits st.clear_count_text (Text maildrop ∷ Text class ∷ []) (λ _. clear_count_command) clear_count_is clear_count_plain (λ c e. cc)
      (λ c n e. cc) (λ c a b t n r. r) (ch.ClearsCount maildrop class) (clear_count_does maildrop class) old db live h

pub find_count_asks : (c : Bool) → Asks (schema_of c) st.find_count_text 6 st.find_count_terms st.count_columns st.count_names
unfolding understood everything
find_count_asks false = record { is = (refl, refl); plain = (refl, refl) }
find_count_asks true = record { is = (refl, refl); plain = (refl, refl) }

module _ (old new : State) (maildrop : Name) (class : Name) (rows : List Row) (tables : m.HasTables old) (h : Shown st.find_count_text (Text maildrop ∷ Text class ∷ []) old new rows) where
  pub find_count_shows : IsLive old → map (λ r. m.count_of (Null ∷ r)) rows ≡ filter (m.is_count maildrop class) (rows_in old.now.trees).counts
  find_count_shows live =
      let ours = kept _ _ _ _ _ find_count_asks (λ c db. refl) old new _ rows tables h in
      let ty = typed.counts_typed old.now ours.0 (sound _ _ _ _ _ find_count_asks (λ c db. refl) old new _ rows tables h live) in
      listed _ _ _ _ _ find_count_asks (λ c db. refl) old new _ rows tables h m.count_of (λ r. m.count_of (Null ∷ r)) (m.is_count maildrop class) ours.1.1.1.1.0 (λ r. refl)
      (λ r has. let it = ty r has in ap₂ ◌&&◌ (column_text (column r 1) maildrop it.0) (and_true _ ∙ column_text (column r 2) class it.1))

pub all_counts_asks : (c : Bool) → Asks (schema_of c) st.all_counts_text 6 [] st.count_columns st.count_names
unfolding understood everything
all_counts_asks false = record { is = (refl, refl); plain = (refl, refl) }
all_counts_asks true = record { is = (refl, refl); plain = (refl, refl) }

module _ (old new : State) (rows : List Row) (tables : m.HasTables old) (h : Shown st.all_counts_text ([]) old new rows) where
  pub all_counts_shows : map (λ r. m.count_of (Null ∷ r)) rows ≡ (rows_in old.now.trees).counts
  all_counts_shows =
      let ours = kept _ _ _ _ _ all_counts_asks (λ c db. refl) old new _ rows tables h in
      everything_listed _ _ _ _ _ all_counts_asks (λ c db. refl) old new _ rows tables h m.count_of (λ r. m.count_of (Null ∷ r)) ours.1.1.1.1.0 (λ r. refl) (λ r. refl)
