use Rattle.std.proofs.Common.{◌∙◌, inl, inr, pos, find, ap, to_z-of_z}
use Rattle.sqlite.specs.Held.{state}
use Rattle.sqlite.specs.Steps.{over_memory}
use Rattle.sqlite.proofs.Callers.{memory_is_clean}
use Rattle.mailsql.specs.Rows.{Rows, is_sheet}
use Rattle.mailsql.specs.Uses.{Stands, FailsToReadSheets}
use Rattle.mailsql.proofs.ResultLemmas.{if_passed_on}
use Rattle.mailsql.proofs.UsesLemmas.{still, at_rest}
use Rattle.mailsql.proofs.uses.read_sheets.Goals.{In_ok-first}
use Rattle.mailsql.proofs.uses.read_sheets.Goals as goal

-- the first look leaves what stood
looked : (c : In_ok-first) (rows : Rows) → Stands (state over_memory c.args.conn.now) rows → Stands (state over_memory c.find_sheet.new.conn) rows
looked c rows s =
    still (state over_memory c.args.conn.now) (state over_memory c.find_sheet.new.conn) rows (c.in_ok-first.ensures.same (memory_is_clean c.find_sheet.new.conn) (λ _. s.kept)) s

pub returns-clause-found : goal.returns-clause-found
returns-clause-found c rows s =
    let w1 = looked (goal.at.returns-clause-found c).In_ok-first rows s in
    let first = simp (to_z-of_z, c.ranges.key) at (c.in_ok-first.ensures.ok (memory_is_clean c.find_sheet.new.conn) (λ _. s.kept)) in
    let second = simp (to_z-of_z, c.ranges.key) at (c.in_ok-second.ensures.ok (memory_is_clean c.find_sheet-2.new.conn) (λ _. w1.kept)) in
    (first ∙ ap (λ (r : Rows). find (is_sheet c.args.key (pos 0)) r.sheets) s.rows_are, second ∙ ap (λ (r : Rows). find (is_sheet c.args.key (pos 1)) r.sheets) w1.rows_are)

pub returns-clause-same : goal.returns-clause-same
returns-clause-same c rows s =
    let s1 = state over_memory c.find_sheet.new.conn in
    let s2 = state over_memory c.find_sheet-2.new.conn in
    let w1 = looked (goal.at.returns-clause-same c).In_ok-first rows s in
    still s1 s2 rows (c.in_ok-second.ensures.same (memory_is_clean c.find_sheet-2.new.conn) (λ _. w1.kept)) w1

pub returns-in_err-first-clause-cause : goal.returns-in_err-first-clause-cause
returns-in_err-first-clause-cause c rows s =
    let e = c.in_err-first.field-0.0 in
    let cause = simp (to_z-of_z, c.ranges.key) at (c.in_err-first.ensures.cause (memory_is_clean c.find_sheet.new.conn) (λ _. s.kept)) in
    if_passed_on c.from_residual.result e (FailsToReadSheets c.args.key) c.from_residual.ensures.1 (inl (c.args.conn.now, c.find_sheet.new.conn, at_rest _ _ s, cause))

pub returns-in_err-second-clause-cause : goal.returns-in_err-second-clause-cause
returns-in_err-second-clause-cause c rows s =
    let w1 = looked (goal.at.returns-in_err-second-clause-cause c).In_ok-first rows s in
    let e = c.in_err-second.field-0.0 in
    let cause = simp (to_z-of_z, c.ranges.key) at (c.in_err-second.ensures.cause (memory_is_clean c.find_sheet-2.new.conn) (λ _. w1.kept)) in
    if_passed_on c.from_residual-in_err-second.result e (FailsToReadSheets c.args.key) c.from_residual-in_err-second.ensures.1
    (inr (c.find_sheet.new.conn, c.find_sheet-2.new.conn, at_rest _ _ w1, cause))
