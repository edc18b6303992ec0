use Rattle.std.proofs.Common.{◌∙◌, ℤ, List, ℕ, inl, inr, pos, find, filter, ap, to_z-of_z, SFits, w64, rules}
use Rattle.sqlite.specs.Held.{state}
use Rattle.sqlite.specs.Steps.{over_memory}
use Rattle.sqlite.proofs.Callers.{memory_is_clean}
use Rattle.mailsql.specs.Rows.{Rows, is_in, is_sheet}
use Rattle.mailsql.specs.Changes.{RemovesMessage}
use Rattle.mailsql.specs.Uses.{Stands, orders, marked, arrived, left_of, FailsToSample}
use Rattle.mailsql.proofs.ResultLemmas.{if_passed_on}
use Rattle.mailsql.proofs.UsesLemmas.{step, still, at_rest, full, full_heads, full_first, full_second, left_none}
use Rattle.mailsql.proofs.uses.sample.Goals.{In_ok-key, In_ok-put_sheets, In_ok-heads, In_ok-remove_message}
use Rattle.mailsql.proofs.uses.sample.Goals as goal

-- ---- what stands after each step

-- the message that has arrived has a key of 64 bits
keyed : (c : In_ok-key) → SFits w64 c.in_ok-key.key
keyed c = search rules

came : (c : In_ok-key) → Stands (state over_memory c.arrive.new.conn) (arrived c.in_ok-key.key (marked (pos 2)))
came c = c.in_ok-key.ensures.stands (marked (pos 2)) c.in_ok-conn.ensures.stands

-- the rows once its sheets were put
abbrev sheeted : (key : ℤ) (first second : List ℕ) → Rows
sheeted key first second = full key (pos 2) first second

sheets : (c : In_ok-put_sheets) → SFits w64 c.in_ok-key.key → Stands (state over_memory c.arrive.new.conn) (arrived c.in_ok-key.key (marked (pos 2)))
    → Stands (state over_memory c.put_sheets.new.conn) (sheeted c.in_ok-key.key c.args.first.now c.args.second.now)
sheets c fits s = simp (to_z-of_z, fits) at (c.in_ok-put_sheets.ensures.stands (arrived c.in_ok-key.key (marked (pos 2))) s)

headed : (c : In_ok-heads) (rows : Rows) → Stands (state over_memory c.put_sheets.new.conn) rows → Stands (state over_memory c.heads.new.conn) rows
headed c rows s =
    still (state over_memory c.put_sheets.new.conn) (state over_memory c.heads.new.conn) rows
    (c.in_ok-heads.ensures.same (memory_is_clean c.heads.new.conn) (λ _. s.kept)) s

removed : (c : In_ok-remove_message) (rows : Rows) → SFits w64 c.in_ok-key.key → Stands (state over_memory c.read_sheets.new.conn) rows
    → Stands (state over_memory c.remove_message.new.conn) (left_of c.in_ok-key.key rows)
removed c rows fits =
    step (RemovesMessage c.in_ok-key.key orders) (state over_memory c.read_sheets.new.conn) (state over_memory c.remove_message.new.conn) rows (left_of c.in_ok-key.key rows)
    (λ ready. simp (to_z-of_z, fits) at (c.in_ok-remove_message.ensures.ok (memory_is_clean c.remove_message.new.conn) ready)) (λ e. e)

-- ---- each exit

pub returns-clause-saw : goal.returns-clause-saw
returns-clause-saw c =
    let it = goal.at.returns-clause-saw c in
    let key = c.in_ok-key.key in
    let fits = keyed it.In_ok-key in
    let two = pos 2 in
    let first = c.args.first.now in
    let second = c.args.second.now in
    let rows = sheeted key first second in
    let p = sheets it.In_ok-put_sheets fits (came it.In_ok-key) in
    let heads = c.in_ok-heads.ensures.ok (memory_is_clean c.heads.new.conn) (λ _. p.kept) in
    let h = headed it.In_ok-heads rows p in
    let before = simp (to_z-of_z, fits) at (c.in_ok-before.ensures.found rows h) in
    let gone = removed it.In_ok-remove_message rows fits (c.in_ok-before.ensures.same rows h) in
    let after = simp (to_z-of_z, fits) at (c.in_ok-after.ensures.found (left_of key rows) gone) in
    rw (to_z-of_z fits) record {
      heads = heads ∙ ap (λ (r : Rows). filter (is_in orders) r.messages) p.rows_are ∙ full_heads key two first second;
      first_before = before.0 ∙ full_first key two first second;
      second_before = before.1 ∙ full_second key two first second;
      first_after = after.0 ∙ ap (find (is_sheet key (pos 0))) (left_none key two first second);
      second_after = after.1 ∙ ap (find (is_sheet key (pos 1))) (left_none key two first second);
    }

pub returns-in_err-conn-clause-cause : goal.returns-in_err-conn-clause-cause
returns-in_err-conn-clause-cause c =
    if_passed_on c.from_residual.result c.in_err-conn.field-0.0 (FailsToSample c.args.first.now c.args.second.now) c.from_residual.ensures.1 (inl c.in_err-conn.ensures.cause)

pub returns-in_err-key-clause-cause : goal.returns-in_err-key-clause-cause
returns-in_err-key-clause-cause c =
    if_passed_on c.from_residual-in_err-key.result c.in_err-key.field-0.0
    (FailsToSample c.args.first.now c.args.second.now) c.from_residual-in_err-key.ensures.1 (inr (inl (c.in_err-key.ensures.cause (marked (pos 2)) c.in_ok-conn.ensures.stands)))

pub returns-in_err-put_sheets-clause-cause : goal.returns-in_err-put_sheets-clause-cause
returns-in_err-put_sheets-clause-cause c =
    let it = (goal.at.returns-in_err-put_sheets-clause-cause c).In_ok-key in
    let cause = simp (to_z-of_z, keyed it) at (c.in_err-put_sheets.ensures.cause (arrived c.in_ok-key.key (marked (pos 2))) (came it)) in
    if_passed_on c.from_residual-in_err-put_sheets.result c.in_err-put_sheets.field-0.0
    (FailsToSample c.args.first.now c.args.second.now) c.from_residual-in_err-put_sheets.ensures.1 (inr (inr (c.in_ok-key.key, inl cause)))

pub returns-in_err-heads-clause-cause : goal.returns-in_err-heads-clause-cause
returns-in_err-heads-clause-cause c =
    let it = goal.at.returns-in_err-heads-clause-cause c in
    let p = sheets it.In_ok-put_sheets (keyed it.In_ok-key) (came it.In_ok-key) in
    if_passed_on c.from_residual-in_err-heads.result c.in_err-heads.field-0.0
    (FailsToSample c.args.first.now c.args.second.now) c.from_residual-in_err-heads.ensures.1
    (inr (inr (c.in_ok-key.key, inr (inl (c.put_sheets.new.conn, c.heads.new.conn, at_rest _ _ p, (c.in_err-heads.ensures.cause (memory_is_clean c.heads.new.conn) (λ _. p.kept)))))))

pub returns-in_err-before-clause-cause : goal.returns-in_err-before-clause-cause
returns-in_err-before-clause-cause c =
    let it = goal.at.returns-in_err-before-clause-cause c in
    let fits = keyed it.In_ok-key in
    let p = sheets it.In_ok-put_sheets fits (came it.In_ok-key) in
    let cause = simp (to_z-of_z, fits) at (c.in_err-before.ensures.cause _ (headed it.In_ok-heads _ p)) in
    if_passed_on c.from_residual-in_err-before.result c.in_err-before.field-0.0
    (FailsToSample c.args.first.now c.args.second.now) c.from_residual-in_err-before.ensures.1 (inr (inr (c.in_ok-key.key, inr (inr (inl cause)))))

pub returns-in_err-remove_message-clause-cause : goal.returns-in_err-remove_message-clause-cause
returns-in_err-remove_message-clause-cause c =
    let it = goal.at.returns-in_err-remove_message-clause-cause c in
    let fits = keyed it.In_ok-key in
    let h = headed it.In_ok-heads _ (sheets it.In_ok-put_sheets fits (came it.In_ok-key)) in
    let cause = simp (to_z-of_z, fits) at (c.in_err-remove_message.ensures.cause (memory_is_clean c.remove_message.new.conn)) in
    if_passed_on c.from_residual-in_err-remove_message.result c.in_err-remove_message.field-0.0
    (FailsToSample c.args.first.now c.args.second.now) c.from_residual-in_err-remove_message.ensures.1
    (inr (inr (c.in_ok-key.key, inr (inr (inr (c.read_sheets.new.conn, c.remove_message.new.conn, at_rest _ _ (c.in_ok-before.ensures.same _ h), cause))))))

pub returns-in_err-after-clause-cause : goal.returns-in_err-after-clause-cause
returns-in_err-after-clause-cause c =
    let it = goal.at.returns-in_err-after-clause-cause c in
    let fits = keyed it.In_ok-key in
    let h = headed it.In_ok-heads _ (sheets it.In_ok-put_sheets fits (came it.In_ok-key)) in
    let gone = removed it.In_ok-remove_message _ fits (c.in_ok-before.ensures.same _ h) in
    let cause = simp (to_z-of_z, fits) at (c.in_err-after.ensures.cause _ gone) in
    if_passed_on c.from_residual-in_err-after.result c.in_err-after.field-0.0
    (FailsToSample c.args.first.now c.args.second.now) c.from_residual-in_err-after.ensures.1 (inr (inr (c.in_ok-key.key, inr (inr (inl cause)))))
