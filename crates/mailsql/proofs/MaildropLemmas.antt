-- The statements on maildrops.
use Rattle.std.proofs.Common.{arith, false, true, Bool, ◌≡◌, ℕ, List, [], ◌∷◌, map, Option, None, Ok, refl, ap, subst, ◌∙◌}
use Rattle.std.specs.Prelude.{bytes_eq}
use Rattle.sqlite_tied.specs.Compute.{everything}
use Rattle.sqlite_value.specs.declared.value.Value.TheVariants.{Null, Int, Text}
use Rattle.sqlite_value.specs.Order.{Row, column}
use Rattle.sqlite_trees.specs.Tree.{Trees, put_row}
use Rattle.sqlite_sql.specs.Term.{lit, col}
use Rattle.sqlite_schema.specs.declared.command.Command.{Command}
use Rattle.sqlite_schema.specs.declared.command.Command.TheVariants.{Delete}
use Rattle.sqlite_rules.specs.declared.error.Rowids.TheVariants.{Chosen}
use Rattle.sqlite_rules.specs.Edit.{next_rowid}
use Rattle.sqlite.specs.Effect.{Database, IsDatabase}
use Rattle.sqlite.specs.Does.{Tally, Does}
use Rattle.sqlite.specs.Listing.{understood}
use Rattle.sqlite.specs.State.{State, IsLive, mode_of, Executes, CommitsBy, Shown}
use Rattle.sqlite.proofs.Callers.{IsPlain, command_of}
use Rattle.mailsql.specs.Tables as tables
use Rattle.mailsql.specs.Tables.{schema_of}
use Rattle.mailsql.proofs.Statements as st
use Rattle.mailsql.specs.Rows as m
use Rattle.mailsql.specs.Changes as ch
use Rattle.mailsql.specs.Rows.{Name, Rows, is_carried, rows_in, IsKept, IsReady, MayLeave, Changes}
use Rattle.mailsql.proofs.RowLemmas.{next_last, appended}
use Rattle.mailsql.proofs.WriteLemmas.{inserted}
use Rattle.mailsql.proofs.KeptLemmas.{applied_kept, keyed_apart}
use Rattle.mailsql.proofs.FrameLemmas as frame
use Rattle.mailsql.proofs.FrameLemmas.{framed, kept_framed}
use Rattle.mailsql.proofs.CastLemmas.{cast_null, cast_int}
use Rattle.mailsql.proofs.StateLemmas.{changes, commits}
use Rattle.mailsql.proofs.TypedLemmas as typed
use Rattle.mailsql.proofs.EqualLemmas.{column_text, kept_map}
use Rattle.mailsql.proofs.FindLemmas.{and_true}
use Rattle.mailsql.proofs.QueryLemmas.{passes, shown_rows}
use Rattle.mailsql.proofs.RemoveLemmas.{removed}
use Rattle.mailsql.proofs.WithoutLemmas.{without_shown}
use Rattle.mailsql.proofs.CascadeLemmas as still
use Rattle.mailsql.proofs.ReadLemmas.{Asks, kept, sound, everything_listed}

pub add_maildrop_is : (c : Bool) → command_of (understood (schema_of c) st.add_maildrop_text) ≡ st.add_maildrop_command
unfolding understood everything
add_maildrop_is false = refl
add_maildrop_is true = refl

pub add_maildrop_plain : (c : Bool) → IsPlain (understood (schema_of c) st.add_maildrop_text)
unfolding understood everything
add_maildrop_plain false = (refl, refl)
add_maildrop_plain true = (refl, refl)

add_maildrop_tail : Name → Row
add_maildrop_tail name = Text name ∷ []

add_maildrop_does : (name : Name) (limit : Option ℕ) (s : State) (text : List ℕ) (tally : Tally) (after : Database) → IsKept s.now → IsDatabase s.now
    → Does limit (mode_of s) (Text name ∷ []) s.now text None st.add_maildrop_command (Ok (tally, after)) → ch.AddsMaildrop name (rows_in s.now.trees) (rows_in after.trees) × IsKept after
unfolding add_maildrop_tail
add_maildrop_does name limit s text tally after kept sound h =
    let db = s.now.trees in
    let params = Text name ∷ [] in
    let here = subst (λ sch. Does limit (mode_of s) params (record s.now { schema = sch }) text None st.add_maildrop_command (Ok (tally, after))) kept.0 h in
    let made = inserted limit (schema_of (is_carried db)) _ 4 _ None (1 ∷ []) _ _ ([]) params 2 2 (lit Null ∷ col 0 0 ∷ []) db tally after here in
    let next = made.0 in
    let tail = add_maildrop_tail name in
    let rows : next 4 ≡ put_row (Int (next_rowid (db 4)) ∷ tail) (db 4) = simp (cast_null, cast_int) at made.1.rows in
    let last = rows ∙ next_last Chosen tail (db 4) kept.1.1.1.0 in
    let change = frame.maildrops_alone db next (framed db next _ (λ e. absurd (omega arith)) made.1)
    ∙ ap (λ l. let r : Rows = record (rows_in db) { maildrops = l } in r) (appended m.maildrop_of (db 4) (next 4) (Int (next_rowid (db 4)) ∷ tail) last) in (
      ap (λ (d : Database). rows_in d.trees) made.2 ∙ change,
      kept_framed db next after made.2 (framed db next _ (λ e. absurd (omega arith)) made.1).same (applied_kept db next _ made.1 kept.1),
    )

module _ (old new : State) (name : Name) (live : IsLive old) where
  pub add_maildrop_ok : (count : ℕ) → IsReady old → Executes st.add_maildrop_text (Text name ∷ []) old new (Ok count) → Changes (ch.AddsMaildrop name) old new
  add_maildrop_ok count ready h =
      changes st.add_maildrop_text (Text name ∷ []) (λ _. st.add_maildrop_command) add_maildrop_is add_maildrop_plain (λ c e. cc) (λ c n e. cc)
      (λ c a b t n r. r) (ch.AddsMaildrop name) (add_maildrop_does name) old new count ready live h

  pub add_maildrop_commits : (db : Trees) → CommitsBy st.add_maildrop_text (Text name ∷ []) old db → MayLeave (ch.AddsMaildrop name) old db
  add_maildrop_commits db h =
      commits st.add_maildrop_text (Text name ∷ []) (λ _. st.add_maildrop_command) add_maildrop_is add_maildrop_plain (λ c e. cc) (λ c n e. cc)
      (λ c a b t n r. r) (ch.AddsMaildrop name) (add_maildrop_does name) old db live h

abbrev pub drop_maildrop_command : Command
drop_maildrop_command = Delete 2 (record { lets = []; body = st.drop_maildrop_query })

pub drop_maildrop_is : (c : Bool) → command_of (understood (schema_of c) st.drop_maildrop_text) ≡ drop_maildrop_command
unfolding understood everything
drop_maildrop_is false = refl
drop_maildrop_is true = refl

pub drop_maildrop_plain : (c : Bool) → IsPlain (understood (schema_of c) st.drop_maildrop_text)
unfolding understood everything
drop_maildrop_plain false = (refl, refl)
drop_maildrop_plain true = (refl, refl)

drop_maildrop_does : (name : Name) (limit : Option ℕ) (s : State) (text : List ℕ) (tally : Tally) (after : Database) → IsKept s.now → IsDatabase s.now
    → Does limit (mode_of s) (Text name ∷ []) s.now text None drop_maildrop_command (Ok (tally, after)) → ch.DropsMaildrop name (rows_in s.now.trees) (rows_in after.trees) × IsKept after
drop_maildrop_does name limit s text tally after kept sound h =
    let db = s.now.trees in
    let params = Text name ∷ [] in
    let terms = st.drop_maildrop_terms in
    let keyed = kept.1.1.1.0 in
    let here = subst (λ sch. Does limit (mode_of s) params (record s.now { schema = sch }) text None drop_maildrop_command (Ok (tally, after))) kept.0 h in
    let it = removed limit (schema_of (is_carried db)) (tables.maildrops_at 4) params 2 terms db tally after (still.still_maildrops (is_carried db)) refl here in
    let same = shown_rows 4 terms (col 1 0 ∷ []) [] db params it.0 (record { ordered = it.1.ordered; same = it.1.same; sorted = it.1.sorted; shown = it.1.shown }) in
    let rows = it.4 ∙ without_shown (db 4) (passes params terms) it.0 (keyed_apart (db 4) keyed, keyed.1) same in
    let left = ap (map m.maildrop_of) rows
    ∙ kept_map m.maildrop_of (passes params terms) (λ n. bytes_eq n name) (db 4) (λ r has. let it = typed.names_typed s.now kept.0 sound r has in and_true _ ∙ column_text (column r 1) name it) in
    let change = frame.maildrops_alone db it.2 (framed db it.2 _ (λ e. absurd (omega arith)) it.3) ∙ ap (λ l. let r : Rows = record (rows_in db) { maildrops = l } in r) left in (
      ap (λ (d : Database). rows_in d.trees) it.5 ∙ change,
      kept_framed db it.2 after it.5 (framed db it.2 _ (λ e. absurd (omega arith)) it.3).same (applied_kept db it.2 _ it.3 kept.1),
    )

module _ (old new : State) (name : Name) (live : IsLive old) where
  pub drop_maildrop_ok : (count : ℕ) → IsReady old → Executes st.drop_maildrop_text (Text name ∷ []) old new (Ok count) → Changes (ch.DropsMaildrop name) old new
  drop_maildrop_ok count ready h =
      changes st.drop_maildrop_text (Text name ∷ []) (λ _. drop_maildrop_command) drop_maildrop_is drop_maildrop_plain (λ c e. cc) (λ c n e. cc)
      (λ c a b t n r. r) (ch.DropsMaildrop name) (drop_maildrop_does name) old new count ready live h

  pub drop_maildrop_commits : (db : Trees) → CommitsBy st.drop_maildrop_text (Text name ∷ []) old db → MayLeave (ch.DropsMaildrop name) old db
  drop_maildrop_commits db h =
      commits st.drop_maildrop_text (Text name ∷ []) (λ _. drop_maildrop_command) drop_maildrop_is drop_maildrop_plain (λ c e. cc) (λ c n e. cc)
      (λ c a b t n r. r) (ch.DropsMaildrop name) (drop_maildrop_does name) old db live h

pub all_maildrops_asks : (c : Bool) → Asks (schema_of c) st.all_maildrops_text 4 [] st.maildrop_columns st.maildrop_names
unfolding understood everything
all_maildrops_asks false = record { is = (refl, refl); plain = (refl, refl) }
all_maildrops_asks true = record { is = (refl, refl); plain = (refl, refl) }

module _ (old new : State) (rows : List Row) (tables : m.HasTables old) (h : Shown st.all_maildrops_text ([]) old new rows) where
  pub all_maildrops_shows : map (λ r. m.maildrop_of (Null ∷ r)) rows ≡ (rows_in old.now.trees).maildrops
  all_maildrops_shows =
      let ours = kept _ _ _ _ _ all_maildrops_asks (λ c db. refl) old new _ rows tables h in
      everything_listed _ _ _ _ _ all_maildrops_asks (λ c db. refl) old new _ rows tables h m.maildrop_of (λ r. m.maildrop_of (Null ∷ r)) ours.1.1.1.0 (λ r. refl) (λ r. refl)
