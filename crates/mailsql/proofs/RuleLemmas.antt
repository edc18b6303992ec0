-- The statements on rules.
use Rattle.std.proofs.Common.{arith, false, true, Bool, ◌≡◌, ℕ, ℤ, pos, List, [], ◌∷◌, ◌++◌, map, Option, Some, None, Ok, refl, sym, ap, subst, ◌∙◌}
use Rattle.std.specs.Prelude.{fold, ◌+ℤ◌}
use Rattle.sqlite_tied.specs.Compute.{everything}
use Rattle.sqlite_value.specs.declared.value.Value.TheVariants.{Null, Int, Text}
use Rattle.sqlite_value.specs.Order.{Row, column}
use Rattle.sqlite_trees.specs.Tree.{Trees, rowid, put_row}
use Rattle.sqlite_sql.specs.Term.{lit, col}
use Rattle.sqlite_schema.specs.declared.command.Command.{Command}
use Rattle.sqlite_schema.specs.declared.command.Command.TheVariants.{Delete}
use Rattle.sqlite_rules.specs.declared.error.Rowids.TheVariants.{Chosen}
use Rattle.sqlite_rules.specs.Edit.{next_rowid, id_in}
use Rattle.sqlite.specs.Effect.{Database, IsDatabase}
use Rattle.sqlite.specs.Does.{Tally, Does}
use Rattle.sqlite.specs.Listing.{understood}
use Rattle.sqlite.specs.State.{State, IsLive, mode_of, Executes, CommitsBy, Shown}
use Rattle.sqlite.proofs.Callers.{IsPlain, command_of}
use Rattle.mailsql.specs.Tables as tables
use Rattle.mailsql.specs.Tables.{schema_of}
use Rattle.mailsql.proofs.Statements as st
use Rattle.mailsql.specs.Rows as m
use Rattle.mailsql.specs.Changes as ch
use Rattle.mailsql.specs.Rows.{Name, Rows, is_carried, rows_in, IsKept, IsReady, MayLeave, Changes}
use Rattle.mailsql.proofs.RowLemmas.{next_last, appended}
use Rattle.mailsql.proofs.WriteLemmas.{inserted}
use Rattle.mailsql.proofs.KeptLemmas.{applied_kept, keyed_apart}
use Rattle.mailsql.proofs.FrameLemmas as frame
use Rattle.mailsql.proofs.FrameLemmas.{framed, kept_framed}
use Rattle.mailsql.proofs.CastLemmas.{cast_null, cast_int}
use Rattle.mailsql.proofs.StateLemmas.{changes, commits}
use Rattle.mailsql.proofs.EqualLemmas.{nothing_kept}
use Rattle.mailsql.proofs.QueryLemmas.{passes, shown_rows}
use Rattle.mailsql.proofs.RemoveLemmas.{removed}
use Rattle.mailsql.proofs.WithoutLemmas.{without_shown}
use Rattle.mailsql.proofs.CascadeLemmas as still
use Rattle.mailsql.proofs.ReadLemmas.{Asks, kept, sound, everything_listed}

place_from : (start : ℤ) (rows : List Row) → fold (λ _ (r : m.Rule). r.place +ℤ pos 1) start (map m.rule_of rows) ≡ fold (λ _ r. id_in (rowid r) +ℤ pos 1) start rows
place_from start [] = refl
place_from start (r ∷ rows) = place_from (id_in (rowid r) +ℤ pos 1) rows

pub add_rule_is : (c : Bool) → command_of (understood (schema_of c) st.add_rule_text) ≡ st.add_rule_command
unfolding understood everything
add_rule_is false = refl
add_rule_is true = refl

pub add_rule_plain : (c : Bool) → IsPlain (understood (schema_of c) st.add_rule_text)
unfolding understood everything
add_rule_plain false = (refl, refl)
add_rule_plain true = (refl, refl)

add_rule_tail : Name → ℤ → Name → Name → Name → ℤ → Row
add_rule_tail name effect clerk maildrop class actions = Null ∷ Text name ∷ Int effect ∷ Text clerk ∷ Text maildrop ∷ Text class ∷ Int actions ∷ []

add_rule_does : (name : Name) (effect : ℤ) (clerk : Name) (maildrop : Name) (class : Name) (actions : ℤ) (limit : Option ℕ) (s : State) (text : List ℕ) (tally : Tally) (after : Database)
    → IsKept s.now → IsDatabase s.now
    → Does limit (mode_of s) (Text name ∷ Int effect ∷ Text clerk ∷ Text maildrop ∷ Text class ∷ Int actions ∷ []) s.now text None st.add_rule_command (Ok (tally, after))
    → ch.AddsRule name effect clerk maildrop class actions (rows_in s.now.trees) (rows_in after.trees) × IsKept after
unfolding add_rule_tail
add_rule_does name effect clerk maildrop class actions limit s text tally after kept sound h =
    let db = s.now.trees in
    let params = Text name ∷ Int effect ∷ Text clerk ∷ Text maildrop ∷ Text class ∷ Int actions ∷ [] in
    let here = subst (λ sch. Does limit (mode_of s) params (record s.now { schema = sch }) text None st.add_rule_command (Ok (tally, after))) kept.0 h in
    let made = inserted limit (schema_of (is_carried db)) _ 13 _ (Some 0) (0 ∷ []) _ _ ([]) params 7 8
    (lit Null ∷ lit Null ∷ col 0 0 ∷ col 0 1 ∷ col 0 2 ∷ col 0 3 ∷ col 0 4 ∷ col 0 5 ∷ []) db tally after here in
    let next = made.0 in
    let tail = add_rule_tail name effect clerk maildrop class actions in
    let rows : next 13 ≡ put_row (Int (next_rowid (db 13)) ∷ tail) (db 13) = simp (cast_null, cast_int) at made.1.rows in
    let last = rows ∙ next_last Chosen tail (db 13) kept.1.1.1.1.1.1.1.1.0 in
    let change = frame.rules_alone db next (framed db next _ (λ e. absurd (omega arith)) made.1)
    ∙ ap (λ l. let r : Rows = record (rows_in db) { rules = l } in r) (appended m.rule_of (db 13) (next 13) (Int (next_rowid (db 13)) ∷ tail) last
    ∙ ap (λ n. map m.rule_of (db 13) ++ (let r : m.Rule = record { place = n; name = name; effect = effect; clerk = clerk; maildrop = maildrop; class = class; actions = actions } in r) ∷ [])
    (sym (place_from (pos 1) (db 13)))) in (
      ap (λ (d : Database). rows_in d.trees) made.2 ∙ change,
      kept_framed db next after made.2 (framed db next _ (λ e. absurd (omega arith)) made.1).same (applied_kept db next _ made.1 kept.1),
    )

module _ (old new : State) (name : Name) (effect : ℤ) (clerk : Name) (maildrop : Name) (class : Name) (actions : ℤ) (live : IsLive old) where
  pub add_rule_ok : (count : ℕ) → IsReady old
      → Executes st.add_rule_text (Text name ∷ Int effect ∷ Text clerk ∷ Text maildrop ∷ Text class ∷ Int actions ∷ []) old new (Ok count)
      → Changes (ch.AddsRule name effect clerk maildrop class actions) old new
  add_rule_ok count ready h =
      changes st.add_rule_text (Text name ∷ Int effect ∷ Text clerk ∷ Text maildrop ∷ Text class ∷ Int actions ∷ [])
      (λ _. st.add_rule_command) add_rule_is add_rule_plain (λ c e. cc) (λ c n e. cc) (λ c a b t n r. r)
      (ch.AddsRule name effect clerk maildrop class actions) (add_rule_does name effect clerk maildrop class actions) old new count ready live h

  pub add_rule_commits : (db : Trees)
      → CommitsBy st.add_rule_text (Text name ∷ Int effect ∷ Text clerk ∷ Text maildrop ∷ Text class ∷ Int actions ∷ []) old db → MayLeave (ch.AddsRule name effect clerk maildrop class actions) old db
  add_rule_commits db h =
      commits st.add_rule_text (Text name ∷ Int effect ∷ Text clerk ∷ Text maildrop ∷ Text class ∷ Int actions ∷ [])
      (λ _. st.add_rule_command) add_rule_is add_rule_plain (λ c e. cc) (λ c n e. cc) (λ c a b t n r. r)
      (ch.AddsRule name effect clerk maildrop class actions) (add_rule_does name effect clerk maildrop class actions) old db live h

abbrev pub clear_rules_command : Command
clear_rules_command = Delete 7 (record { lets = []; body = st.clear_rules_query })

pub clear_rules_is : (c : Bool) → command_of (understood (schema_of c) st.clear_rules_text) ≡ clear_rules_command
unfolding understood everything
clear_rules_is false = refl
clear_rules_is true = refl

pub clear_rules_plain : (c : Bool) → IsPlain (understood (schema_of c) st.clear_rules_text)
unfolding understood everything
clear_rules_plain false = (refl, refl)
clear_rules_plain true = (refl, refl)

clear_rules_does : (limit : Option ℕ) (s : State) (text : List ℕ) (tally : Tally) (after : Database) → IsKept s.now → IsDatabase s.now
    → Does limit (mode_of s) ([]) s.now text None clear_rules_command (Ok (tally, after)) → ch.ClearsRules (rows_in s.now.trees) (rows_in after.trees) × IsKept after
clear_rules_does limit s text tally after kept sound h =
    let db = s.now.trees in
    let params = [] in
    let terms = st.clear_rules_terms in
    let keyed = kept.1.1.1.1.1.1.1.1.0 in
    let here = subst (λ sch. Does limit (mode_of s) params (record s.now { schema = sch }) text None clear_rules_command (Ok (tally, after))) kept.0 h in
    let it = removed limit (schema_of (is_carried db)) (tables.rules_at 13) params 7 terms db tally after (still.still_rules (is_carried db)) refl here in
    let same = shown_rows 13 terms (col 1 0 ∷ []) [] db params it.0 (record { ordered = it.1.ordered; same = it.1.same; sorted = it.1.sorted; shown = it.1.shown }) in
    let rows = it.4 ∙ without_shown (db 13) (passes params terms) it.0 (keyed_apart (db 13) keyed, keyed.1) same in
    let left = ap (map m.rule_of) rows ∙ nothing_kept m.rule_of (db 13) in
    let change = frame.rules_alone db it.2 (framed db it.2 _ (λ e. absurd (omega arith)) it.3) ∙ ap (λ l. let r : Rows = record (rows_in db) { rules = l } in r) left in (
      ap (λ (d : Database). rows_in d.trees) it.5 ∙ change,
      kept_framed db it.2 after it.5 (framed db it.2 _ (λ e. absurd (omega arith)) it.3).same (applied_kept db it.2 _ it.3 kept.1),
    )

module _ (old new : State) (live : IsLive old) where
  pub clear_rules_ok : (count : ℕ) → IsReady old → Executes st.clear_rules_text ([]) old new (Ok count) → Changes (ch.ClearsRules) old new
  clear_rules_ok count ready h =
      changes st.clear_rules_text ([]) (λ _. clear_rules_command) clear_rules_is clear_rules_plain (λ c e. cc) (λ c n e. cc) (λ c a b t n r. r)
      (ch.ClearsRules) (clear_rules_does) old new count ready live h

  pub clear_rules_commits : (db : Trees) → CommitsBy st.clear_rules_text ([]) old db → MayLeave (ch.ClearsRules) old db
  clear_rules_commits db h =
      commits st.clear_rules_text ([]) (λ _. clear_rules_command) clear_rules_is clear_rules_plain (λ c e. cc) (λ c n e. cc) (λ c a b t n r. r) (ch.ClearsRules) (clear_rules_does) old db live h

pub all_rules_asks : (c : Bool) → Asks (schema_of c) st.all_rules_text 13 [] st.rule_columns st.rule_names
unfolding understood everything
all_rules_asks false = record { is = (refl, refl); plain = (refl, refl) }
all_rules_asks true = record { is = (refl, refl); plain = (refl, refl) }

module _ (old new : State) (rows : List Row) (tables : m.HasTables old) (h : Shown st.all_rules_text ([]) old new rows) where
  pub all_rules_shows : map (λ r. m.rule_of (column r 0 ∷ r)) rows ≡ (rows_in old.now.trees).rules
  all_rules_shows =
      let ours = kept _ _ _ _ _ all_rules_asks (λ c db. refl) old new _ rows tables h in
      everything_listed _ _ _ _ _ all_rules_asks (λ c db. refl) old new _ rows tables h m.rule_of (λ r. m.rule_of (column r 0 ∷ r)) ours.1.1.1.1.1.1.1.1.0 (λ r. refl) (λ r. refl)
