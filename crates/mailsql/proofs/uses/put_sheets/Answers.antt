use Rattle.std.proofs.Common.{ℤ, ℕ, List, inl, inr, pos, ◌++◌, ◌∷◌, [], to_z-of_z}
use Rattle.sqlite.specs.Held.{state}
use Rattle.sqlite.specs.Steps.{over_memory}
use Rattle.sqlite.proofs.Callers.{memory_is_clean}
use Rattle.mailsql.specs.Rows.{Rows}
use Rattle.mailsql.specs.Changes.{AddsSheet}
use Rattle.mailsql.specs.Uses.{Stands, sheet_at_place, with_sheets, FailsToPutSheets}
use Rattle.mailsql.proofs.ResultLemmas.{on_ok_then, if_err, if_passed_on}
use Rattle.mailsql.proofs.UsesLemmas.{step, at_rest}
use Rattle.mailsql.proofs.uses.put_sheets.Goals.{In_ok-add_sheet}
use Rattle.mailsql.proofs.uses.put_sheets.Goals as goal

-- the first sheet has come
abbrev begun : ℤ → List ℕ → Rows → Rows
begun key first rows = record rows { sheets = rows.sheets ++ sheet_at_place key (pos 0) first ∷ [] }

after_first : (c : In_ok-add_sheet) (rows : Rows) → Stands (state over_memory c.args.conn.now) rows → Stands (state over_memory c.add_sheet.new.conn) (begun c.args.key c.args.first.now rows)
after_first c rows =
    step (AddsSheet (sheet_at_place c.args.key (pos 0) c.args.first.now)) (state over_memory c.args.conn.now) (state over_memory c.add_sheet.new.conn) rows (begun c.args.key c.args.first.now rows)
    (λ ready. simp (to_z-of_z, c.ranges.key) at (c.in_ok-add_sheet.ensures.ok (memory_is_clean c.add_sheet.new.conn) ready)) (λ e. e)

pub returns-clause-stands : goal.returns-clause-stands
returns-clause-stands c rows s =
    let w1 = after_first (goal.at.returns-clause-stands c).In_ok-add_sheet rows s in
    on_ok_then _ (λ does. step (AddsSheet (sheet_at_place c.args.key (pos 1) c.args.second.now)) (state over_memory c.add_sheet.new.conn) (state over_memory c.add_sheet-2.new.conn)
    (begun c.args.key c.args.first.now rows) (with_sheets c.args.key c.args.first.now c.args.second.now rows) (λ _. does) (λ e. e) w1)
    (simp (to_z-of_z, c.ranges.key) at (c.add_sheet-2.ensures.ok (memory_is_clean c.add_sheet-2.new.conn) (w1.is_open, w1.kept)))

pub returns-in_err-add_sheet-clause-cause : goal.returns-in_err-add_sheet-clause-cause
returns-in_err-add_sheet-clause-cause c rows s =
    let e = c.in_err-add_sheet.field-0.0 in
    let cause = simp (to_z-of_z, c.ranges.key) at (c.in_err-add_sheet.ensures.cause (memory_is_clean c.add_sheet.new.conn)) in
    if_passed_on c.from_residual.result e (FailsToPutSheets c.args.key c.args.first.now c.args.second.now) c.from_residual.ensures.1 (inl (c.args.conn.now, c.add_sheet.new.conn, at_rest _ _ s, cause))

pub returns-clause-cause : goal.returns-clause-cause
returns-clause-cause c rows s =
    let w1 = after_first (goal.at.returns-clause-cause c).In_ok-add_sheet rows s in
    if_err _ _ (FailsToPutSheets c.args.key c.args.first.now c.args.second.now) (λ e cause. inr (c.add_sheet.new.conn, c.add_sheet-2.new.conn, at_rest _ _ w1, cause))
    (simp (to_z-of_z, c.ranges.key) at (c.add_sheet-2.ensures.cause (memory_is_clean c.add_sheet-2.new.conn)))
