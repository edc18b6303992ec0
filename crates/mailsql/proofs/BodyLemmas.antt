-- The statements on the messages of version 1, in a store that was carried over.
use Rattle.std.proofs.Common.{◌≡◌, ℕ, ℤ, true, List, [], ◌∷◌, map, filter, Option, Some, None, Ok, refl, sym, ap, subst, ◌∙◌, arith}
use Rattle.sqlite_tied.specs.Compute.{everything}
use Rattle.sqlite_value.specs.declared.value.Value.TheVariants.{Int}
use Rattle.sqlite_value.specs.Order.{Row, column}
use Rattle.sqlite_trees.specs.Tree.{Trees}
use Rattle.sqlite_sql.specs.Term.{col}
use Rattle.sqlite_schema.specs.declared.command.Command.{Command}
use Rattle.sqlite_schema.specs.declared.command.Command.TheVariants.{Delete}
use Rattle.sqlite_schema.specs.declared.schema.Constraint.TheVariants.{Datatype, NotNull}
use Rattle.sqlite_schema.specs.Rules.{Obeys}
use Rattle.sqlite_rules.specs.Lists.{Has}
use Rattle.sqlite_rules.proofs.ListLemmas.{all_has}
use Rattle.sqlite.specs.Effect.{Database, IsDatabase}
use Rattle.sqlite.specs.Does.{Tally, Does}
use Rattle.sqlite.specs.Listing.{understood}
use Rattle.sqlite.specs.State.{State, IsLive, mode_of, Executes, CommitsBy, Shown}
use Rattle.sqlite.proofs.Callers.{IsPlain, command_of}
use Rattle.mailsql.specs.Tables.{schema_of, messages_at}
use Rattle.mailsql.proofs.Statements as st
use Rattle.mailsql.specs.Rows as m
use Rattle.mailsql.specs.Changes as ch
use Rattle.mailsql.specs.Rows.{Rows, is_carried, rows_in, bodies_at, HoldsBody, AreKeyed, AreKept, IsKept, IsReady, MayLeave, Changes}
use Rattle.mailsql.proofs.KeptLemmas.{applied_kept, keyed_apart}
use Rattle.mailsql.proofs.FrameLemmas.{Frame, framed, kept_framed, bodies_alone}
use Rattle.mailsql.proofs.TypedLemmas.{both}
use Rattle.mailsql.proofs.HeldLemmas.{Holds, row_held, text_octets, blob_octets}
use Rattle.mailsql.proofs.KeyLemmas.{id_is}
use Rattle.mailsql.proofs.StateLemmas.{changes_in, commits_in}
use Rattle.mailsql.proofs.EqualLemmas.{nothing_kept, column_int}
use Rattle.mailsql.proofs.FindLemmas.{and_true}
use Rattle.mailsql.proofs.QueryLemmas.{passes, shown_rows}
use Rattle.mailsql.proofs.RemoveLemmas.{removed}
use Rattle.mailsql.proofs.WithoutLemmas.{without_shown}
use Rattle.mailsql.proofs.CascadeLemmas.{still_bodies}
use Rattle.mailsql.proofs.ReadLemmas.{Asks, listed_of, everything_of}

pub old_messages_asks : Asks (schema_of true) st.old_messages_text 10 [] st.message_columns st.message_names
unfolding understood everything
old_messages_asks = record { is = (refl, refl); plain = (refl, refl) }

pub find_body_asks : Asks (schema_of true) st.find_body_text 10 st.find_body_terms st.body_columns st.body_names
unfolding understood everything
find_body_asks = record { is = (refl, refl); plain = (refl, refl) }

bodies_in : (db : Trees) → Obeys (schema_of true) db → (r : Row) → Has (db 10) r → Holds (Some 0) 0 (messages_at 10).columns r
bodies_in db obeys r =
    all_has _ (db 10) r (both (λ row. row_held (schema_of true) db (messages_at 10) row refl) (db 10) (obeys.rules Datatype).1.1.1.1.1.0 (obeys.rules NotNull).1.1.1.1.1.0)

-- the bodies are those in the tree
pub bodies_are : (db : Trees) → is_carried db ≡ true → (rows_in db).bodies ≡ map m.body_of (db 10)
bodies_are db e = ap (λ c. bodies_at c db) e

pub bodies_keyed : (db : Database) → is_carried db.trees ≡ true → IsKept db → AreKeyed (db.trees 10)
bodies_keyed db e kept = kept.1.1.1.1.1.1.0

pub ours_carried : (db : Database) → is_carried db.trees ≡ true → IsKept db → db.schema ≡ schema_of true
ours_carried db e kept = kept.0 ∙ ap schema_of e

heads_of : (rows : List Row) → map m.message_of rows ≡ map (λ (b : m.Body). b.head) (map m.body_of rows)
heads_of [] = refl
heads_of (r ∷ rows) = ap (λ l. m.message_of r ∷ l) (heads_of rows)

module _ (old new : State) (rows : List Row) (carried : is_carried old.now.trees ≡ true) (kept : IsKept old.now) (h : Shown st.old_messages_text ([]) old new rows) where
  pub old_messages_shows : map (λ r. m.message_of (column r 0 ∷ r)) rows ≡ map (λ (b : m.Body). b.head) (rows_in old.now.trees).bodies
  old_messages_shows =
      everything_of (schema_of true) _ _ _ _ _ old_messages_asks (λ db. refl) old new _ rows (ours_carried old.now carried kept) h m.message_of
      (λ r. m.message_of (column r 0 ∷ r)) (bodies_keyed old.now carried kept) (λ r. refl) (λ r. refl)
      ∙ heads_of (old.now.trees 10) ∙ ap (map (λ (b : m.Body). b.head)) (sym (bodies_are old.now.trees carried))

module _ (old new : State) (key : ℤ) (rows : List Row) (carried : is_carried old.now.trees ≡ true) (kept : IsKept old.now) (h : Shown st.find_body_text (Int key ∷ []) old new rows) where
  pub find_body_shows : map (λ r. m.body_of (column r 0 ∷ r)) rows ≡ filter (m.is_body key) (rows_in old.now.trees).bodies
  find_body_shows =
      let keyed = bodies_keyed old.now carried kept in
      listed_of (schema_of true) _ _ _ _ _ find_body_asks (λ db. refl) old new _ rows (ours_carried old.now carried kept) h m.body_of
      (λ r. m.body_of (column r 0 ∷ r)) (m.is_body key) keyed (λ r. refl)
      (λ r has. and_true _ ∙ column_int (column r 0) key (id_is (old.now.trees 10) keyed r has)) ∙ ap (filter (m.is_body key)) (sym (bodies_are old.now.trees carried))

-- each row can be read
pub bodies_held : (db : Database) → is_carried db.trees ≡ true → IsKept db → IsDatabase db → (r : Row) → Has (db.trees 10) r → HoldsBody r
bodies_held db carried kept sound r has =
    let obeys : Obeys (schema_of true) db.trees = subst (λ s. Obeys s db.trees) (ours_carried db carried kept) sound.obeys in
    let it = bodies_in db.trees obeys r has in
    ((id_is (db.trees 10) (bodies_keyed db carried kept) r has, text_octets r 2 it.1.0, text_octets r 3 it.1.1.0, it.1.1.1.0, it.1.1.1.1.0), blob_octets r 6 it.1.1.1.1.1.0)

abbrev pub clear_bodies_command : Command
clear_bodies_command = Delete 5 (record { lets = []; body = st.clear_bodies_query })

pub clear_bodies_is : command_of (understood (schema_of true) st.clear_bodies_text) ≡ clear_bodies_command
unfolding understood everything
clear_bodies_is = refl

pub clear_bodies_plain : IsPlain (understood (schema_of true) st.clear_bodies_text)
unfolding understood everything
clear_bodies_plain = (refl, refl)

clear_bodies_does : (limit : Option ℕ) (s : State) (text : List ℕ) (tally : Tally) (after : Database) → is_carried s.now.trees ≡ true → IsKept s.now → IsDatabase s.now
    → Does limit (mode_of s) ([]) s.now text None clear_bodies_command (Ok (tally, after)) → ch.ClearsBodies (rows_in s.now.trees) (rows_in after.trees) × IsKept after
clear_bodies_does limit s text tally after carried kept sound h =
    let db = s.now.trees in
    let params = [] in
    let terms = st.clear_bodies_terms in
    let keyed = bodies_keyed s.now carried kept in
    let here = subst (λ sch. Does limit (mode_of s) params (record s.now { schema = sch }) text None clear_bodies_command (Ok (tally, after))) (ours_carried s.now carried kept) h in
    let it = removed limit (schema_of true) (messages_at 10) params 5 terms db tally after still_bodies refl here in
    let same = shown_rows 10 terms (col 1 0 ∷ []) [] db params it.0 (record { ordered = it.1.ordered; same = it.1.same; sorted = it.1.sorted; shown = it.1.shown }) in
    let rows = it.4 ∙ without_shown (db 10) (passes params terms) it.0 (keyed_apart (db 10) keyed, keyed.1) same in
    let left : map m.body_of (it.2 10) ≡ [] = ap (map m.body_of) rows ∙ nothing_kept m.body_of (db 10) in
    let back = sym carried in
    let frame = subst (λ c. Frame c 10 db it.2) back (framed {carried = true} db it.2 _ (λ e. absurd (omega arith)) it.3) in
    let change = bodies_alone db it.2 carried frame ∙ ap (λ l. let r : Rows = record (rows_in db) { bodies = l } in r) (ap (λ c. bodies_at c it.2) carried ∙ left) in
    let is : after ≡ record { schema = schema_of (is_carried db); trees = it.2 } = it.5 ∙ ap (λ c. let d : Database = record { schema = schema_of c; trees = it.2 } in d) back in
    let all = subst (λ c. AreKept (schema_of c).tables it.2) back (applied_kept {schema = schema_of true} db it.2 _ it.3 (subst (λ c. AreKept (schema_of c).tables db) carried kept.1)) in
    (ap (λ (d : Database). rows_in d.trees) it.5 ∙ change, kept_framed db it.2 after is frame.same all)

module _ (old new : State) (carried : is_carried old.now.trees ≡ true) (live : IsLive old) where
  pub clear_bodies_ok : (count : ℕ) → IsReady old → Executes st.clear_bodies_text ([]) old new (Ok count) → Changes (ch.ClearsBodies) old new
  clear_bodies_ok count ready h =
      changes_in true st.clear_bodies_text ([]) clear_bodies_command clear_bodies_is clear_bodies_plain (λ e. cc) (λ n e. cc) (λ a b t n r. r)
      (ch.ClearsBodies) (clear_bodies_does) old new count carried ready live h

  pub clear_bodies_commits : (db : Trees) → CommitsBy st.clear_bodies_text ([]) old db → MayLeave (ch.ClearsBodies) old db
  clear_bodies_commits db h =
      commits_in true st.clear_bodies_text ([]) clear_bodies_command clear_bodies_is clear_bodies_plain (λ e. cc) (λ n e. cc) (λ a b t n r. r)
      (ch.ClearsBodies) (clear_bodies_does) old db carried live h
