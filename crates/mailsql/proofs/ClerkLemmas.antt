-- The statements on clerks.
use Rattle.std.proofs.Common.{arith, false, true, Bool, ◌≡◌, ℕ, ℤ, List, [], ◌∷◌, map, filter, Option, None, Ok, refl, ap, subst, ◌∙◌}
use Rattle.sqlite_tied.specs.Compute.{everything}
use Rattle.sqlite_value.specs.declared.value.Value.TheVariants.{Null, Int, Text, Blob}
use Rattle.sqlite_value.specs.Order.{Row, column}
use Rattle.sqlite_trees.specs.Tree.{Trees, put_row}
use Rattle.sqlite_sql.specs.Term.{lit, col}
use Rattle.sqlite_schema.specs.declared.command.Command.{Command}
use Rattle.sqlite_schema.specs.declared.command.Command.TheVariants.{Delete}
use Rattle.sqlite_rules.specs.declared.error.Rowids.TheVariants.{Chosen}
use Rattle.sqlite_rules.specs.Edit.{next_rowid}
use Rattle.sqlite.specs.Effect.{Database, IsDatabase}
use Rattle.sqlite.specs.Does.{Tally, Does}
use Rattle.sqlite.specs.Listing.{understood}
use Rattle.sqlite.specs.State.{State, IsLive, mode_of, Executes, CommitsBy, Shown}
use Rattle.sqlite.proofs.Callers.{IsPlain, command_of}
use Rattle.mailsql.specs.Tables as tables
use Rattle.mailsql.specs.Tables.{schema_of}
use Rattle.mailsql.proofs.Statements as st
use Rattle.mailsql.specs.Rows as m
use Rattle.mailsql.specs.Changes as ch
use Rattle.mailsql.specs.Rows.{Name, Rows, is_carried, rows_in, IsKept, IsReady, MayLeave, Changes}
use Rattle.mailsql.proofs.RowLemmas.{next_last, appended}
use Rattle.mailsql.proofs.WriteLemmas.{inserted}
use Rattle.mailsql.proofs.KeptLemmas.{applied_kept, keyed_apart}
use Rattle.mailsql.proofs.FrameLemmas as frame
use Rattle.mailsql.proofs.FrameLemmas.{framed, kept_framed}
use Rattle.mailsql.proofs.CastLemmas.{cast_null, cast_int}
use Rattle.mailsql.proofs.StateLemmas.{changes, commits}
use Rattle.mailsql.proofs.TypedLemmas as typed
use Rattle.mailsql.proofs.EqualLemmas.{column_text, kept_map}
use Rattle.mailsql.proofs.FindLemmas.{and_true}
use Rattle.mailsql.proofs.QueryLemmas.{passes, shown_rows}
use Rattle.mailsql.proofs.RemoveLemmas.{removed}
use Rattle.mailsql.proofs.WithoutLemmas.{without_shown}
use Rattle.mailsql.proofs.CascadeLemmas as still
use Rattle.mailsql.proofs.ReadLemmas.{Asks, kept, sound, listed, everything_listed}

pub add_clerk_is : (c : Bool) → command_of (understood (schema_of c) st.add_clerk_text) ≡ st.add_clerk_command
unfolding understood everything
add_clerk_is false = refl
add_clerk_is true = refl

pub add_clerk_plain : (c : Bool) → IsPlain (understood (schema_of c) st.add_clerk_text)
unfolding understood everything
add_clerk_plain false = (refl, refl)
add_clerk_plain true = (refl, refl)

add_clerk_tail : Name → ℤ → List ℕ → Row
add_clerk_tail name kind secret = Text name ∷ Int kind ∷ Blob secret ∷ []

add_clerk_does : (name : Name) (kind : ℤ) (secret : List ℕ) (limit : Option ℕ) (s : State) (text : List ℕ) (tally : Tally) (after : Database) → IsKept s.now → IsDatabase s.now
    → Does limit (mode_of s) (Text name ∷ Int kind ∷ Blob secret ∷ []) s.now text None st.add_clerk_command (Ok (tally, after))
    → ch.AddsClerk (record { name = name; kind = kind; secret = secret }) (rows_in s.now.trees) (rows_in after.trees) × IsKept after
unfolding add_clerk_tail
add_clerk_does name kind secret limit s text tally after kept sound h =
    let db = s.now.trees in
    let params = Text name ∷ Int kind ∷ Blob secret ∷ [] in
    let here = subst (λ sch. Does limit (mode_of s) params (record s.now { schema = sch }) text None st.add_clerk_command (Ok (tally, after))) kept.0 h in
    let made = inserted limit (schema_of (is_carried db)) _ 2 _ None (1 ∷ []) _ _ ([]) params 1 4 (lit Null ∷ col 0 0 ∷ col 0 1 ∷ col 0 2 ∷ []) db tally after here in
    let next = made.0 in
    let tail = add_clerk_tail name kind secret in
    let rows : next 2 ≡ put_row (Int (next_rowid (db 2)) ∷ tail) (db 2) = simp (cast_null, cast_int) at made.1.rows in
    let last = rows ∙ next_last Chosen tail (db 2) kept.1.1.0 in
    let change = frame.clerks_alone db next (framed db next _ (λ e. absurd (omega arith)) made.1)
    ∙ ap (λ l. let r : Rows = record (rows_in db) { clerks = l } in r) (appended m.clerk_of (db 2) (next 2) (Int (next_rowid (db 2)) ∷ tail) last) in (
      ap (λ (d : Database). rows_in d.trees) made.2 ∙ change,
      kept_framed db next after made.2 (framed db next _ (λ e. absurd (omega arith)) made.1).same (applied_kept db next _ made.1 kept.1),
    )

module _ (old new : State) (name : Name) (kind : ℤ) (secret : List ℕ) (live : IsLive old) where
  pub add_clerk_ok : (count : ℕ) → IsReady old → Executes st.add_clerk_text (Text name ∷ Int kind ∷ Blob secret ∷ []) old new (Ok count)
      → Changes (ch.AddsClerk (record { name = name; kind = kind; secret = secret })) old new
  add_clerk_ok count ready h =
      changes st.add_clerk_text (Text name ∷ Int kind ∷ Blob secret ∷ []) (λ _. st.add_clerk_command) add_clerk_is add_clerk_plain (λ c e. cc)
      (λ c n e. cc) (λ c a b t n r. r) (ch.AddsClerk (record { name = name; kind = kind; secret = secret })) (add_clerk_does name kind secret) old new count ready live h

  pub add_clerk_commits : (db : Trees) → CommitsBy st.add_clerk_text (Text name ∷ Int kind ∷ Blob secret ∷ []) old db
      → MayLeave (ch.AddsClerk (record { name = name; kind = kind; secret = secret })) old db
  add_clerk_commits db h =
      commits st.add_clerk_text (Text name ∷ Int kind ∷ Blob secret ∷ []) (λ _. st.add_clerk_command) add_clerk_is add_clerk_plain (λ c e. cc)
      (λ c n e. cc) (λ c a b t n r. r) (ch.AddsClerk (record { name = name; kind = kind; secret = secret })) (add_clerk_does name kind secret) old db live h

abbrev pub drop_clerk_command : Command
drop_clerk_command = Delete 1 (record { lets = []; body = st.drop_clerk_query })

pub drop_clerk_is : (c : Bool) → command_of (understood (schema_of c) st.drop_clerk_text) ≡ drop_clerk_command
unfolding understood everything
drop_clerk_is false = refl
drop_clerk_is true = refl

pub drop_clerk_plain : (c : Bool) → IsPlain (understood (schema_of c) st.drop_clerk_text)
unfolding understood everything
drop_clerk_plain false = (refl, refl)
drop_clerk_plain true = (refl, refl)

drop_clerk_does : (name : Name) (limit : Option ℕ) (s : State) (text : List ℕ) (tally : Tally) (after : Database) → IsKept s.now → IsDatabase s.now
    → Does limit (mode_of s) (Text name ∷ []) s.now text None drop_clerk_command (Ok (tally, after)) → ch.DropsClerk name (rows_in s.now.trees) (rows_in after.trees) × IsKept after
drop_clerk_does name limit s text tally after kept sound h =
    let db = s.now.trees in
    let params = Text name ∷ [] in
    let terms = st.drop_clerk_terms in
    let keyed = kept.1.1.0 in
    let here = subst (λ sch. Does limit (mode_of s) params (record s.now { schema = sch }) text None drop_clerk_command (Ok (tally, after))) kept.0 h in
    let it = removed limit (schema_of (is_carried db)) (tables.clerks_at 2) params 1 terms db tally after (still.still_clerks (is_carried db)) refl here in
    let same = shown_rows 2 terms (col 1 0 ∷ []) [] db params it.0 (record { ordered = it.1.ordered; same = it.1.same; sorted = it.1.sorted; shown = it.1.shown }) in
    let rows = it.4 ∙ without_shown (db 2) (passes params terms) it.0 (keyed_apart (db 2) keyed, keyed.1) same in
    let left = ap (map m.clerk_of) rows
    ∙ kept_map m.clerk_of (passes params terms) (m.is_clerk name) (db 2) (λ r has. let it = typed.clerks_typed s.now kept.0 sound r has in and_true _ ∙ column_text (column r 1) name it) in
    let change = frame.clerks_alone db it.2 (framed db it.2 _ (λ e. absurd (omega arith)) it.3) ∙ ap (λ l. let r : Rows = record (rows_in db) { clerks = l } in r) left in (
      ap (λ (d : Database). rows_in d.trees) it.5 ∙ change,
      kept_framed db it.2 after it.5 (framed db it.2 _ (λ e. absurd (omega arith)) it.3).same (applied_kept db it.2 _ it.3 kept.1),
    )

module _ (old new : State) (name : Name) (live : IsLive old) where
  pub drop_clerk_ok : (count : ℕ) → IsReady old → Executes st.drop_clerk_text (Text name ∷ []) old new (Ok count) → Changes (ch.DropsClerk name) old new
  drop_clerk_ok count ready h =
      changes st.drop_clerk_text (Text name ∷ []) (λ _. drop_clerk_command) drop_clerk_is drop_clerk_plain (λ c e. cc) (λ c n e. cc)
      (λ c a b t n r. r) (ch.DropsClerk name) (drop_clerk_does name) old new count ready live h

  pub drop_clerk_commits : (db : Trees) → CommitsBy st.drop_clerk_text (Text name ∷ []) old db → MayLeave (ch.DropsClerk name) old db
  drop_clerk_commits db h =
      commits st.drop_clerk_text (Text name ∷ []) (λ _. drop_clerk_command) drop_clerk_is drop_clerk_plain (λ c e. cc) (λ c n e. cc)
      (λ c a b t n r. r) (ch.DropsClerk name) (drop_clerk_does name) old db live h

pub find_clerk_asks : (c : Bool) → Asks (schema_of c) st.find_clerk_text 2 st.find_clerk_terms st.clerk_columns st.clerk_names
unfolding understood everything
find_clerk_asks false = record { is = (refl, refl); plain = (refl, refl) }
find_clerk_asks true = record { is = (refl, refl); plain = (refl, refl) }

module _ (old new : State) (name : Name) (rows : List Row) (tables : m.HasTables old) (h : Shown st.find_clerk_text (Text name ∷ []) old new rows) where
  pub find_clerk_shows : IsLive old → map (λ r. m.clerk_of (Null ∷ r)) rows ≡ filter (m.is_clerk name) (rows_in old.now.trees).clerks
  find_clerk_shows live =
      let ours = kept _ _ _ _ _ find_clerk_asks (λ c db. refl) old new _ rows tables h in
      let ty = typed.clerks_typed old.now ours.0 (sound _ _ _ _ _ find_clerk_asks (λ c db. refl) old new _ rows tables h live) in
      listed _ _ _ _ _ find_clerk_asks (λ c db. refl) old new _ rows tables h m.clerk_of (λ r. m.clerk_of (Null ∷ r)) (m.is_clerk name) ours.1.1.0 (λ r. refl)
      (λ r has. let it = ty r has in and_true _ ∙ column_text (column r 1) name it)

pub all_clerks_asks : (c : Bool) → Asks (schema_of c) st.all_clerks_text 2 [] st.clerk_columns st.clerk_names
unfolding understood everything
all_clerks_asks false = record { is = (refl, refl); plain = (refl, refl) }
all_clerks_asks true = record { is = (refl, refl); plain = (refl, refl) }

module _ (old new : State) (rows : List Row) (tables : m.HasTables old) (h : Shown st.all_clerks_text ([]) old new rows) where
  pub all_clerks_shows : map (λ r. m.clerk_of (Null ∷ r)) rows ≡ (rows_in old.now.trees).clerks
  all_clerks_shows =
      let ours = kept _ _ _ _ _ all_clerks_asks (λ c db. refl) old new _ rows tables h in
      everything_listed _ _ _ _ _ all_clerks_asks (λ c db. refl) old new _ rows tables h m.clerk_of (λ r. m.clerk_of (Null ∷ r)) ours.1.1.0 (λ r. refl) (λ r. refl)
