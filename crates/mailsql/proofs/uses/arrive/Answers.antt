use Rattle.std.proofs.Common.{inl, inr, ◌++◌, ◌∷◌, []}
use Rattle.sqlite.specs.Held.{state}
use Rattle.sqlite.specs.Steps.{over_memory}
use Rattle.sqlite.proofs.Callers.{memory_is_clean}
use Rattle.mailsql.specs.Rows.{Rows}
use Rattle.mailsql.specs.Changes.{AddsMaildrop, AddsDeposit, AddsMessage}
use Rattle.mailsql.specs.Uses.{Stands, orders, sample_deposit, sample_message, arrived, FailsToArrive}
use Rattle.mailsql.proofs.ResultLemmas.{if_ok, if_err, if_passed_on}
use Rattle.mailsql.proofs.UsesLemmas.{step, at_rest}
use Rattle.mailsql.proofs.uses.arrive.Goals.{In_ok-add_maildrop, In_ok-add_deposit}
use Rattle.mailsql.proofs.uses.arrive.Goals as goal

-- ---- what stands after each step

abbrev housed : Rows → Rows
housed rows = record rows { maildrops = rows.maildrops ++ orders ∷ [] }

abbrev deposited : Rows → Rows
deposited rows = record (housed rows) { deposits = rows.deposits ++ sample_deposit ∷ [] }

after_maildrop : (c : In_ok-add_maildrop) (rows : Rows) → Stands (state over_memory c.args.conn.now) rows → Stands (state over_memory c.add_maildrop.new.conn) (housed rows)
after_maildrop c rows =
    step (AddsMaildrop orders) (state over_memory c.args.conn.now) (state over_memory c.add_maildrop.new.conn) rows (housed rows)
    (c.in_ok-add_maildrop.ensures.ok (memory_is_clean c.add_maildrop.new.conn)) (λ e. e)

after_deposit : (c : In_ok-add_deposit) (rows : Rows) → Stands (state over_memory c.add_maildrop.new.conn) (housed rows) → Stands (state over_memory c.add_deposit.new.conn) (deposited rows)
after_deposit c rows =
    step (AddsDeposit sample_deposit) (state over_memory c.add_maildrop.new.conn) (state over_memory c.add_deposit.new.conn) (housed rows) (deposited rows)
    (c.in_ok-add_deposit.ensures.ok (memory_is_clean c.add_deposit.new.conn)) (λ e. e)

-- ---- each exit

pub returns-clause-stands : goal.returns-clause-stands
returns-clause-stands c rows s =
    let it = goal.at.returns-clause-stands c in
    let w2 = after_deposit it.In_ok-add_deposit rows (after_maildrop it.In_ok-add_maildrop rows s) in
    if_ok _ _ _ (λ key does. step (AddsMessage (sample_message key)) (state over_memory c.add_deposit.new.conn) (state over_memory c.add_message.new.conn) (deposited rows) (arrived key rows)
    (λ ready. does) (λ e. e.added) w2)
    (c.add_message.ensures.ok (memory_is_clean c.add_message.new.conn) (w2.is_open, w2.kept))

pub returns-in_err-add_maildrop-clause-cause : goal.returns-in_err-add_maildrop-clause-cause
returns-in_err-add_maildrop-clause-cause c rows s =
    let e = c.in_err-add_maildrop.field-0.0 in
    let cause = c.in_err-add_maildrop.ensures.cause (memory_is_clean c.add_maildrop.new.conn) in
    if_passed_on c.from_residual.result e FailsToArrive c.from_residual.ensures.1 (inl (c.args.conn.now, c.add_maildrop.new.conn, at_rest _ _ s, cause))

pub returns-in_err-add_deposit-clause-cause : goal.returns-in_err-add_deposit-clause-cause
returns-in_err-add_deposit-clause-cause c rows s =
    let w1 = after_maildrop (goal.at.returns-in_err-add_deposit-clause-cause c).In_ok-add_maildrop rows s in
    let e = c.in_err-add_deposit.field-0.0 in
    let cause = c.in_err-add_deposit.ensures.cause (memory_is_clean c.add_deposit.new.conn) in
    if_passed_on c.from_residual-in_err-add_deposit.result e FailsToArrive c.from_residual-in_err-add_deposit.ensures.1
    (inr (inl (c.add_maildrop.new.conn, c.add_deposit.new.conn, at_rest _ _ w1, cause)))

pub returns-clause-cause : goal.returns-clause-cause
returns-clause-cause c rows s =
    let here = goal.at.returns-clause-cause c in
    let last = after_deposit here.In_ok-add_deposit rows (after_maildrop here.In_ok-add_maildrop rows s) in
    if_err _ _ FailsToArrive (λ e cause. inr (inr (c.add_deposit.new.conn, c.add_message.new.conn, at_rest _ _ last, cause))) (c.add_message.ensures.cause (memory_is_clean c.add_message.new.conn))
