-- DELETE of a message, with its sheets.
use Rattle.std.proofs.Common.{◌≡◌, ℕ, ℤ, Bool, true, false, List, [], ◌∷◌, map, filter, Option, None, Ok, refl, ap, ap₂, subst, ◌∙◌}
use Rattle.std.specs.Prelude.{◌&&◌, codes}
use Rattle.std.specs.List.{list_any}
use Rattle.sqlite_value.specs.declared.value.Value.TheVariants.{Null, Int, Text}
use Rattle.sqlite_value.specs.Order.{Row, column}
use Rattle.sqlite_trees.specs.Tree.{Trees, rowid}
use Rattle.sqlite_sql.specs.Term.{col}
use Rattle.sqlite_sql.specs.Program.{overlay}
use Rattle.sqlite_schema.specs.declared.command.Command.{Command}
use Rattle.sqlite_schema.specs.declared.command.Command.TheVariants.{Delete}
use Rattle.sqlite_rules.specs.Calls.{ids_of}
use Rattle.sqlite_rules.specs.Edit.{id_in, row_at}
use Rattle.sqlite_rules.specs.Lists.{Has}
use Rattle.sqlite_rules.specs.Action.{pairs, is_child_of}
use Rattle.sqlite.specs.Effect.{Database, IsDatabase}
use Rattle.sqlite.specs.Does.{Tally, Does, OnRows}
use Rattle.sqlite.specs.Rows.{Written}
use Rattle.sqlite.specs.State.{State, IsLive, mode_of, Executes, CommitsBy}
use Rattle.mailsql.specs.Tables.{schema_of, mail_tree, mail_place, mail_at, sheets_at}
use Rattle.mailsql.proofs.Statements as st
use Rattle.mailsql.specs.Rows.{Name, Rows, is_carried, rows_in, message_of, sheet_of, IsKept, IsReady, MayLeave, Changes, is_message, is_sheet_of}
use Rattle.mailsql.specs.Changes.{RemovesMessage}
use Rattle.mailsql.proofs.WriteLemmas.{went, same_value, plain_mode, task_of}
use Rattle.mailsql.proofs.FrameLemmas.{kept_framed}
use Rattle.mailsql.proofs.HeadLemmas.{mail_keyed, mail_placed}
use Rattle.std.specs.List.Sorted.{IsPermutation}
use Rattle.sqlite_sql.specs.Query.{output, inner, end}
use Rattle.mailsql.proofs.QueryLemmas.{passes, selected, shown_rows}
use Rattle.mailsql.proofs.WithoutLemmas.{without_shown}
use Rattle.mailsql.proofs.KeptLemmas.{keyed_apart}
use Rattle.mailsql.proofs.TypedLemmas.{number_is, messages_typed, sheets_typed}
use Rattle.mailsql.proofs.EqualLemmas.{column_text, column_int, kept_map}
use Rattle.mailsql.proofs.FindLemmas.{and_true}
use Rattle.mailsql.proofs.CascadeLemmas.{cascade, mail_acting, cascades, swept, messages_swept, child_is, row_id}
use Rattle.mailsql.proofs.StateLemmas.{changes, commits}
use Rattle.mailsql.proofs.Commands as c

abbrev pub remove_message_command : (carried : Bool) → Command
remove_message_command carried = Delete (mail_place carried) (record { lets = []; body = st.remove_message_query carried })

-- the place is that of mail
delete_on : (carried : Bool) (limit : Option ℕ) (s : State) (params : Row) (text : List ℕ) (tally : Tally) (after : Database)
    → Does limit (mode_of s) params (record s.now { schema = schema_of carried }) text None (remove_message_command carried) (Ok (tally, after))
    → OnRows (task_of limit (schema_of carried) (mail_at (mail_tree carried)) params) plain_mode None (remove_message_command carried) s.now.trees (Ok (tally, after))
delete_on false limit s params text tally after h = h
delete_on true limit s params text tally after h = h

pub remove_message_does : (key : ℤ) (maildrop : Name) (limit : Option ℕ) (s : State) (text : List ℕ) (tally : Tally) (after : Database) → IsKept s.now → IsDatabase s.now
    → Does limit (mode_of s) (Int key ∷ Text maildrop ∷ []) s.now text None (remove_message_command (is_carried s.now.trees)) (Ok (tally, after))
    → RemovesMessage key maildrop (rows_in s.now.trees) (rows_in after.trees) × IsKept after
remove_message_does key maildrop limit s text tally after kept sound h =
    let db = s.now.trees in
    let carried = is_carried db in
    let mail = mail_tree carried in
    let params = Int key ∷ Text maildrop ∷ [] in
    let terms = st.eq (col 1 0) (col 0 0) ∷ st.eq (col 1 2) (col 0 1) ∷ [] in
    let keyed = mail_keyed carried db kept.1 in
    let here = delete_on carried limit s params text tally after
    (subst (λ sch. Does limit (mode_of s) params (record s.now { schema = sch }) text None (remove_message_command carried) (Ok (tally, after))) kept.0 h) in
    let done = went here in
    let now = ap (λ (p : Tally × Database). p.1) (same_value (went (went done.2).2).2) in
    let asked = went done.1 in
    let wrote = went asked.2 in
    let shown = asked.0 in
    let picked = selected mail terms (col 1 0 ∷ []) [] (overlay db []) params shown (asked.1.answer Null) in
    let same = shown_rows mail terms (col 1 0 ∷ []) [] db params shown
    (record {
      ordered = picked.ordered;
      same =
          subst (λ l. IsPermutation (map (λ r. output (st.query_of (inner mail end) terms (col 1 0 ∷ []) []) (params ∷ r ∷ [])) (filter (passes params terms) l)) picked.ordered)
          (mail_placed carried db) picked.same;
      sorted = picked.sorted;
      shown = picked.shown;
    }) in
    let next = wrote.0 in
    let it = swept carried (mail_at mail) (sheets_at 15) (codes "mail") (mail_acting carried) db next (ids_of shown) kept.1
    (cascades carried (mail_at mail) (sheets_at 15) (codes "mail") (mail_acting carried) db next (ids_of shown) wrote.1) in
    let is = λ (r : Row) (t : Has (db mail) r).
    ap₂ ◌&&◌ (column_int (column r 0) key (id_in (rowid r), row_id (db mail) shown (passes params terms) keyed same r t))
    (and_true _ ∙ column_text (column r 2) maildrop (messages_typed s.now kept.0 sound r t)) in
    let left = ap (map message_of) (it.parents ∙ without_shown (db mail) (passes params terms) shown (keyed_apart (db mail) keyed, keyed.1) same)
    ∙ kept_map message_of (passes params terms) (is_message key maildrop) (db mail) is in
    let q = λ (r : Row). list_any (is_child_of (cascade (sheets_at 15) (codes "mail") (map (row_at (db mail)) (ids_of shown))) r) (pairs (map (row_at (db mail)) (ids_of shown)) []) in
    let number = λ (r : Row) (t : Has (db 15) r). (sheets_typed s.now kept.0 sound r t).0 in
    let sheets = ap (map sheet_of) it.children ∙ kept_map sheet_of q (is_sheet_of key maildrop (map message_of (db mail))) (db 15) (λ r t.
    child_is (db mail) shown (passes params terms) keyed same (sheets_at 15) (codes "mail") message_of (is_message key maildrop) (λ x. x.key) r
    (id_in (column r 1)) (number_is (column r 1) (number r t)) is (λ y. refl)) in
    let change = messages_swept db it.mid next it.first it.second ∙ (λ i. let m : Rows = record (rows_in db) { messages = left i; sheets = sheets i } in m) in
    let trees = ap (λ (w : Written). w.trees) (same_value wrote.2) in
    let end : after ≡ record { schema = schema_of carried; trees = next } = now ∙ ap (λ (t : Trees). let d : Database = record { schema = schema_of carried; trees = t } in d) trees in
    (ap (λ (d : Database). rows_in d.trees) end ∙ change, kept_framed db next after end (it.second.same ∙ it.first.same) it.kept)

module _ (old new : State) (key : ℤ) (maildrop : Name) (live : IsLive old) where
  pub remove_message_ok : (count : ℕ) → IsReady old → Executes st.remove_message_text (Int key ∷ Text maildrop ∷ []) old new (Ok count) → Changes (RemovesMessage key maildrop) old new
  remove_message_ok count ready h =
      changes st.remove_message_text (Int key ∷ Text maildrop ∷ []) remove_message_command c.remove_message_is c.remove_message_plain (λ c e. cc)
      (λ c n e. cc) (λ c a b t n r. r) (RemovesMessage key maildrop) (remove_message_does key maildrop) old new count ready live h

  pub remove_message_commits : (db : Trees) → CommitsBy st.remove_message_text (Int key ∷ Text maildrop ∷ []) old db → MayLeave (RemovesMessage key maildrop) old db
  remove_message_commits db h =
      commits st.remove_message_text (Int key ∷ Text maildrop ∷ []) remove_message_command c.remove_message_is c.remove_message_plain (λ c e. cc)
      (λ c n e. cc) (λ c a b t n r. r) (RemovesMessage key maildrop) (remove_message_does key maildrop) old db live h
