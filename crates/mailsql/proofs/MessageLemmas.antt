-- The statements on messages.
use Rattle.std.proofs.Common.{◌≡◌, ℕ, ℤ, ◌/◌, List, [], ◌∷◌, length, map, Bool, true, false, Option, Some, None, Ok, refl, sym, ap, subst, subst₂, ◌∙◌, arith}
use Rattle.sqlite_value.specs.declared.value.Value.TheVariants.{Null, Int, Text}
use Rattle.sqlite_value.specs.Order.{Row}
use Rattle.sqlite_trees.specs.Tree.{Trees, rowid, put_row}
use Rattle.std.specs.List.{AllByRecursion}
use Rattle.std.specs.Prelude.{◌<ℤ◌}
use Rattle.sqlite_schema.specs.declared.schema.Keys.TheVariants.{Enforced}
use Rattle.sqlite_rules.specs.Edit.{Edit, edit_of, Applies, next_rowid, id_in}
use Rattle.sqlite_rules.specs.Action.{works, Writes}
use Rattle.sqlite_sql.specs.Term.{Term}
use Rattle.sqlite_schema.specs.declared.command.Command.{Command}
use Rattle.sqlite_schema.specs.declared.command.Command.TheVariants.{Insert}
use Rattle.sqlite_schema.specs.declared.command.Source.TheVariants.{Values}
use Rattle.sqlite_trees.specs.Objects.{catalog_tree}
use Rattle.sqlite.specs.Effect.{Database, IsDatabase, value_rows}
use Rattle.sqlite.specs.Does.{Tally, Does, OnRows}
use Rattle.sqlite.specs.Rows.{Written, Task, Edited, Counts, CountsIn, CounterIn, Gives, sequence, last_id, rowids_for, count_of, counter_in, counting, higher, stamped}
use Rattle.sqlite_schema.specs.Names.{same_name}
use Rattle.std.specs.Prelude.{MatchBool, fold}
use Rattle.std.specs.Ordering.{int_cmp, is_lt}
use Rattle.std.specs.Prelude.{unwrap_or}
use Rattle.sqlite.specs.State.{State, IsLive, mode_of, Executes, CommitsBy, Runs, Writes as WritesTo}
use Rattle.mailsql.proofs.Commands.{add_message_is, add_message_plain, add_keyed_is, add_keyed_plain}
use Rattle.mailsql.proofs.StateLemmas.{changes, commits}
use Rattle.sqlite.proofs.Callers.{runs_as, statement_of}
use Rattle.sqlite.specs.Listing.{understood}
use Rattle.sqlite.proofs.Callers.{one_step}
use Rattle.mailsql.specs.Tables.{schema_of, mail_tree, mail_place, mail_at, sequence_at}
use Rattle.mailsql.proofs.Statements.{add_message_text, add_message_terms, add_message_command, add_keyed_text, add_keyed_terms, add_keyed_command}
use Rattle.mailsql.specs.Rows.{Name, Rows, Message, is_carried, rows_in, message_of, IsKept, AreKept, IsReady, MayLeave, Changes}
use Rattle.mailsql.specs.Changes.{AddsMessage, AddsKeyed, Arrives}
use Rattle.mailsql.proofs.KeptLemmas.{applied_kept}
use Rattle.mailsql.proofs.WriteLemmas.{went, same_value, plain_mode, task_of, nothing_acts}
use Rattle.mailsql.proofs.FrameLemmas.{Frame, framed, frame_none, not_mail, kept_framed, edited_alone, mail_alone}
use Rattle.mailsql.proofs.HeadLemmas.{mail_keyed}
use Rattle.sqlite_rules.specs.Edit.{at_least}
use Rattle.mailsql.proofs.RowLemmas.{put_last, next_last, next_above, appended}
use Rattle.mailsql.proofs.CastLemmas.{cast_null, cast_int}

-- the parameters of a message
abbrev pub message_params : Name → Name → ℤ → ℤ → Row
message_params maildrop class k octets = Text maildrop ∷ Text class ∷ Int k ∷ Int octets ∷ []

-- the parameters of a message under a key of its own
abbrev pub keyed_params : Message → Row
keyed_params m = Int m.key ∷ Text m.maildrop ∷ Text m.class ∷ Int m.k ∷ Int m.octets ∷ []

-- what stands in the columns: with a rowid that is to be chosen, or with a given one
abbrev pub chosen_sources : Row → List Row
chosen_sources params = (Null ∷ Null ∷ params) ∷ []

abbrev pub keyed_sources : Message → List Row
keyed_sources m = (Int m.key ∷ Null ∷ Text m.maildrop ∷ Text m.class ∷ Int m.k ∷ Int m.octets ∷ []) ∷ []

module _ (carried : Bool) (sources : List Row) (db : Trees) where
  abbrev pub counter : Option Row
  counter = counter_in db (mail_at (mail_tree carried)) (sequence_at 12)

  abbrev pub edit : Edit
  edit = edit_of db (mail_at (mail_tree carried)) [] (rowids_for (mail_at (mail_tree carried)) (count_of counter)) 0 sources

sequence_is : (c : Bool) → sequence (schema_of c) ≡ Some (sequence_at 12)
unfolding same_name
sequence_is false = refl
sequence_is true = refl

-- the count in sqlite_sequence, written or not, leaves the other tables
count_alone : (carried : Bool) (db : Trees) (c : Option Row) (top : ℤ) (next : Trees)
    → Edited (schema_of carried) Enforced db (counting db (mail_at (mail_tree carried)) (sequence_at 12) top c) (Ok next)
    → (edit : Edit) × (edit.table.tree ≡ 12) × Applies (schema_of carried) Enforced db edit next
count_alone false db None top next h = (_, refl, one_step (schema_of false) Enforced db next _ refl h)
count_alone false db (Some r) top next h = (_, refl, one_step (schema_of false) Enforced db next _ refl h)
count_alone true db None top next h = (_, refl, one_step (schema_of true) Enforced db next _ refl h)
count_alone true db (Some r) top next h = (_, refl, one_step (schema_of true) Enforced db next _ refl h)

pub record OnlySequence (carried : Bool) (db next : Trees) : Type 0 where
  pub frame : Frame carried 12 db next
  pub kept : AreKept (schema_of carried).tables db → AreKept (schema_of carried).tables next

only_sequence : (carried : Bool) (db next : Trees) (edit : Edit) → edit.table.tree ≡ 12 → Applies (schema_of carried) Enforced db edit next → OnlySequence carried db next
only_sequence carried db next edit at h = record { frame = subst (λ t. Frame carried t db next) at (framed db next edit (λ e. absurd (omega (arith, at))) h); kept = applied_kept db next edit h }

same_sequence : (carried : Bool) (db : Trees) → OnlySequence carried db db
same_sequence carried db = record { frame = frame_none carried 12 db; kept = λ k. k }

counted_alone : (carried : Bool) (task : Task)
    → task ≡ record task { schema = schema_of carried; keys = Enforced; table = mail_at (mail_tree carried) } → (mid next : Trees) (c : Option Row) (top : ℤ) (b : Bool)
    → MatchBool b (CountsIn task mid c top (Some (sequence_at 12)) (Ok next)) (Gives mid (Ok next)) → OnlySequence carried mid next
counted_alone carried task is mid next c top true h = let it =
    count_alone carried mid c top next (subst (λ (t : Task). Edited t.schema t.keys mid (counting mid t.table (sequence_at 12) top c) (Ok next)) is h) in only_sequence carried mid next it.0 it.1 it.2
counted_alone carried task is mid next c top false h = subst (OnlySequence carried mid) (sym (same_value h)) (same_sequence carried mid)

raised_alone : (carried : Bool) (limit : Option ℕ) (params : Row) (mid next : Trees) (c : Option Row) (top : ℤ)
    → Counts (record { limit = limit; keys = Enforced; schema = schema_of carried; table = mail_at (mail_tree carried); params = params }) mid c top (Ok next) → OnlySequence carried mid next
raised_alone carried limit params mid next c top h =
    let task : Task = record { limit = limit; keys = Enforced; schema = schema_of carried; table = mail_at (mail_tree carried); params = params } in
    counted_alone carried task refl mid next c top (is_lt (int_cmp (count_of c) top))
    (subst (λ o. MatchBool (is_lt (int_cmp (count_of c) top)) (CountsIn task mid c top o (Ok next)) (Gives mid (Ok next))) (sequence_is carried) h)

-- the place is that of mail
abbrev pub insert_command : List Term → (carried : Bool) → Command
insert_command terms carried = Insert (mail_place carried) (Values terms 6)

insert_on : (terms : List Term) (carried : Bool) (limit : Option ℕ) (s : State) (params : Row) (text : List ℕ) (tally : Tally) (after : Database)
    → Does limit (mode_of s) params (record s.now { schema = schema_of carried }) text None (insert_command terms carried) (Ok (tally, after))
    → OnRows (task_of limit (schema_of carried) (mail_at (mail_tree carried)) params) plain_mode None (insert_command terms carried) s.now.trees (Ok (tally, after))
insert_on terms false limit s params text tally after h = h
insert_on terms true limit s params text tally after h = h

no_deeds : (carried : Bool) (news : List Row) → works (schema_of carried) Enforced 0 (mail_tree carried) [] news ≡ []
no_deeds carried news = nothing_acts (schema_of carried) 0 (mail_tree carried) news (schema_of carried).tables

-- INSERT of one row, whose values these terms give
insert_steps : (terms : List Term) (params : Row) (sources : List Row)
    → ((carried : Bool) → value_rows (stamped (mail_at (mail_tree carried)) params) 6 (length terms / 6) terms ≡ sources)
    → (limit : Option ℕ) (s : State) (text : List ℕ) (tally : Tally) (after : Database) → IsKept s.now
    → Does limit (mode_of s) params s.now text None (insert_command terms (is_carried s.now.trees)) (Ok (tally, after))
    → (mid next : Trees) × Applies (schema_of (is_carried s.now.trees)) Enforced s.now.trees (edit (is_carried s.now.trees) sources s.now.trees) mid × OnlySequence (is_carried s.now.trees) mid next
    × (after ≡ record { schema = schema_of (is_carried s.now.trees); trees = next })
    × (tally.last ≡ last_id (edit (is_carried s.now.trees) sources s.now.trees).news)
insert_steps terms params sources gives limit s text tally after kept h =
    let carried = is_carried s.now.trees in
    let mail = mail_at (mail_tree carried) in
    let db = s.now.trees in
    let task : Task = record { limit = limit; keys = Enforced; schema = schema_of carried; table = mail; params = params } in
    let here = insert_on terms carried limit s params text tally after
    (subst (λ sch. Does limit (mode_of s) params (record s.now { schema = sch }) text None (insert_command terms carried) (Ok (tally, after))) kept.0 h) in
    let done = went here in
    let end = same_value (went (went done.2).2).2 in
    let now = ap (λ (p : Tally × Database). p.1) end in
    let last = ap (λ (p : Tally × Database). p.0.last) end in
    let given = went done.1 in
    let given_is : given.0 ≡ sources = given.1.1 ∙ gives carried in
    let counted = went given.2 in
    let counter_is : counted.0 ≡ counter carried sources db = same_value (subst (λ o. CounterIn task db o (Ok counted.0)) (sequence_is carried) counted.1) in
    let written = went counted.2 in
    let raised = went written.2 in
    let record_is = same_value raised.2 in
    let trees : done.0.trees ≡ raised.0 = ap (λ (it : Written). it.trees) record_is in
    let news = λ (c : Option Row) (rows : List Row). (edit_of db mail [] (rowids_for mail (count_of c)) 0 rows).news in
    let wrote : Writes (schema_of carried) Enforced db (edit carried sources db) (Ok written.0) =
    subst₂ (λ c rows. Writes (schema_of carried) Enforced db (edit_of db mail [] (rowids_for mail (count_of c)) 0 rows) (Ok written.0)) counter_is given_is written.1 in
    let step = one_step (schema_of carried) Enforced db written.0 (edit carried sources db) (no_deeds carried (edit carried sources db).news) wrote in
    let alone = raised_alone carried limit params written.0 raised.0 counted.0 (fold higher (count_of counted.0) (news counted.0 given.0)) raised.1 in (
      written.0,
      raised.0,
      step,
      alone,
      now ∙ ap (λ (t : Trees). let d : Database = record { schema = schema_of carried; trees = t } in d) trees,
      last ∙ ap (λ (it : Written). it.last) record_is ∙ (λ i. last_id (news (counter_is i) (given_is i))),
    )

key_for : (carried : Bool) → Trees → ℤ
key_for carried db = at_least (rowids_for (mail_at (mail_tree carried)) (count_of (counter_in db (mail_at (mail_tree carried)) (sequence_at 12)))) (next_rowid (db (mail_tree carried)))

message_tail : Name → Name → ℤ → ℤ → Row
message_tail maildrop class k octets = Null ∷ Text maildrop ∷ Text class ∷ Int k ∷ Int octets ∷ []

message_alone : (db mid next : Trees) → Frame (is_carried db) (mail_tree (is_carried db)) db mid → Frame (is_carried db) 12 mid next
    → rows_in next ≡ record (rows_in db) { messages = map message_of (mid (mail_tree (is_carried db))) }
message_alone db mid next a b =
    edited_alone 12 mid next (λ e. absurd (omega arith)) (λ e. absurd (omega arith)) (subst (λ c. Frame c 12 mid next) (sym a.same) b) ∙ mail_alone db mid a

all_above : (key : ℤ) (rows : List Row) → AllByRecursion (λ r. id_in (rowid r) <ℤ key) rows → AllByRecursion (λ (m : Message). m.key <ℤ key) (map message_of rows)
all_above key [] all = tt
all_above key (r ∷ rows) all = (all.0, all_above key rows all.1)

pub add_message_does : (maildrop class : Name) (k octets : ℤ) (limit : Option ℕ) (s : State) (text : List ℕ) (tally : Tally) (after : Database) → IsKept s.now
    → Does limit (mode_of s) (message_params maildrop class k octets) s.now text None (add_message_command (is_carried s.now.trees)) (Ok (tally, after))
    → (key : ℤ) × AddsMessage (record { key = key; maildrop = maildrop; class = class; k = k; octets = octets }) (rows_in s.now.trees) (rows_in after.trees) × IsKept after × (tally.last ≡ Some key)
unfolding key_for message_tail
add_message_does maildrop class k octets limit s text tally after kept h =
    let db = s.now.trees in
    let carried = is_carried db in
    let params = message_params maildrop class k octets in
    let it = insert_steps add_message_terms params (chosen_sources params) (λ c. refl) limit s text tally after kept h in
    let mid = it.0 in
    let next = it.1 in
    let edited = it.2 in
    let keyed = mail_keyed carried db kept.1 in
    let chosen = rowids_for (mail_at (mail_tree carried)) (count_of (counter_in db (mail_at (mail_tree carried)) (sequence_at 12))) in
    let tail = message_tail maildrop class k octets in
    let rows : mid (mail_tree carried) ≡ put_row (Int (key_for carried db) ∷ tail) (db (mail_tree carried)) = simp (cast_null, cast_int) at edited.rows in
    let last = rows ∙ next_last chosen tail (db (mail_tree carried)) keyed in
    let first = framed db mid _ (not_mail carried catalog_tree (λ e. absurd (omega arith)) (λ e. absurd (omega arith))) edited in
    let alone = message_alone db mid next first it.3.frame in
    let change : AddsMessage (record { key = key_for carried db; maildrop = maildrop; class = class; k = k; octets = octets }) (rows_in db) (rows_in next) = record {
      added = alone ∙ ap (λ l. let m : Rows = record (rows_in db) { messages = l } in m)
          (appended message_of (db (mail_tree carried)) (mid (mail_tree carried)) (Int (key_for carried db) ∷ tail) last);
      above = all_above (key_for carried db) (db (mail_tree carried)) (next_above chosen (db (mail_tree carried)) keyed);
    } in (
      key_for carried db,
      subst (λ (d : Database). AddsMessage (record { key = key_for carried db; maildrop = maildrop; class = class; k = k; octets = octets }) (rows_in db) (rows_in d.trees)) (sym it.4) change,
      kept_framed db next after it.4 (it.3.frame.same ∙ first.same) (it.3.kept (applied_kept db mid _ edited kept.1)),
      it.5 ∙ rw cast_null,
    )

abbrev pub add_message_record : Name → Name → ℤ → ℤ → ℤ → Message
add_message_record maildrop class k octets key = record { key = key; maildrop = maildrop; class = class; k = k; octets = octets }

message_written : (c : Bool) (old new : State) (text : List ℕ) (params : Row) (count : ℕ)
    → Runs old new None (add_message_command c) text params count → WritesTo old new None (add_message_command c) text params count
message_written c old new text params count h = h

module _ (old new : State) (maildrop class : Name) (k octets : ℤ) (live : IsLive old) where
  pub add_message_ok : (count : ℕ) → IsReady old → Executes add_message_text (message_params maildrop class k octets) old new (Ok count)
      → Changes (AddsMessage (add_message_record maildrop class k octets new.last_rowid)) old new
  add_message_ok count ready h =
      let c = is_carried old.now.trees in
      let w = message_written c old new _ _ count
      (runs_as add_message_text (message_params maildrop class k octets) old new (schema_of c) ready.1.0 (add_message_command c) (add_message_is c) (add_message_plain c) count h) in
      let it = add_message_does maildrop class k octets old.step_limit old (statement_of add_message_text (understood (schema_of c) add_message_text)) w.tally new.now ready.1 w.changed in
      let last : new.last_rowid ≡ it.0 = w.last_rowid ∙ ap (λ o. unwrap_or o old.last_rowid) it.3 in
      record { change = subst (λ key. AddsMessage (add_message_record maildrop class k octets key) (rows_in old.now.trees) (rows_in new.now.trees)) (sym last) it.1; kept = it.2; shown = w.shown }

  pub add_message_commits : (db : Trees) → CommitsBy add_message_text (message_params maildrop class k octets) old db → MayLeave (Arrives maildrop class k octets) old db
  add_message_commits db h =
      commits add_message_text (message_params maildrop class k octets) add_message_command add_message_is add_message_plain (λ c e. cc) (λ c n e. cc)
      (λ c a b t n r. r) (Arrives maildrop class k octets)
      (λ limit s text tally after kept sound d. let it = add_message_does maildrop class k octets limit s text tally after kept d in ((it.0, it.1), it.2)) old db live h

-- ---- under a given key

keys_below : (key : ℤ) (rows : List Row) → AllByRecursion (λ (m : Message). m.key <ℤ key) (map message_of rows) → AllByRecursion (λ r. id_in (rowid r) <ℤ key) rows
keys_below key [] all = tt
keys_below key (r ∷ rows) all = (all.0, keys_below key rows all.1)

pub add_keyed_does : (m : Message) (limit : Option ℕ) (s : State) (text : List ℕ) (tally : Tally) (after : Database) → IsKept s.now → IsDatabase s.now
    → Does limit (mode_of s) (keyed_params m) s.now text None (add_keyed_command (is_carried s.now.trees)) (Ok (tally, after)) → AddsKeyed m (rows_in s.now.trees) (rows_in after.trees) × IsKept after
unfolding message_tail
add_keyed_does m limit s text tally after kept sound h =
    let db = s.now.trees in
    let carried = is_carried db in
    let it = insert_steps add_keyed_terms (keyed_params m) (keyed_sources m) (λ c. refl) limit s text tally after kept h in
    let mid = it.0 in
    let next = it.1 in
    let edited = it.2 in
    let keyed = mail_keyed carried db kept.1 in
    let tail = message_tail m.maildrop m.class m.k m.octets in
    let rows : mid (mail_tree carried) ≡ put_row (Int m.key ∷ tail) (db (mail_tree carried)) = simp (cast_null, cast_int) at edited.rows in
    let first = framed db mid _ (not_mail carried catalog_tree (λ e. absurd (omega arith)) (λ e. absurd (omega arith))) edited in
    let alone = message_alone db mid next first it.3.frame in
    let change : AddsKeyed m (rows_in db) (rows_in next) = λ above. record {
      added = alone ∙ ap (λ l. let r : Rows = record (rows_in db) { messages = l } in r)
          (appended message_of (db (mail_tree carried)) (mid (mail_tree carried)) (Int m.key ∷ tail)
          (rows ∙ put_last m.key tail (db (mail_tree carried)) keyed.1 (keys_below m.key (db (mail_tree carried)) above)));
      above = above;
    } in (
      subst (λ (d : Database). AddsKeyed m (rows_in db) (rows_in d.trees)) (sym it.4) change,
      kept_framed db next after it.4 (it.3.frame.same ∙ first.same) (it.3.kept (applied_kept db mid _ edited kept.1)),
    )

module _ (old new : State) (m : Message) (live : IsLive old) where
  pub add_keyed_ok : (count : ℕ) → IsReady old → Executes add_keyed_text (keyed_params m) old new (Ok count) → Changes (AddsKeyed m) old new
  add_keyed_ok count ready h = changes add_keyed_text (keyed_params m) add_keyed_command add_keyed_is add_keyed_plain (λ c e. cc) (λ c n e. cc)
      (λ c a b t n r. r) (AddsKeyed m) (add_keyed_does m) old new count ready live h

  pub add_keyed_commits : (db : Trees) → CommitsBy add_keyed_text (keyed_params m) old db → MayLeave (AddsKeyed m) old db
  add_keyed_commits db h = commits add_keyed_text (keyed_params m) add_keyed_command add_keyed_is add_keyed_plain (λ c e. cc) (λ c n e. cc)
      (λ c a b t n r. r) (AddsKeyed m) (add_keyed_does m) old db live h
