use Rattle.std.proofs.Common.{refl, sym, true≢false, rules}
use Rattle.office.proofs.Accounts.{opening_told, tick_told, deposit_told, restart_told}
use Rattle.office.proofs.office.Office.handle.Goals as goal

pub returns-in-Connect-clause-after : goal.returns-in-Connect-clause-after
returns-in-Connect-clause-after g c = rw (c.in-Connect.is, c.silent.ensures) c.connect.ensures.after

pub returns-in-Bytes-clause-after : goal.returns-in-Bytes-clause-after
returns-in-Bytes-clause-after g c = search rules

pub returns-in-Took-clause-after : goal.returns-in-Took-clause-after
returns-in-Took-clause-after g c = rw c.in-Took.is c.took.ensures.after

pub returns-in-Gone-clause-after : goal.returns-in-Gone-clause-after
returns-in-Gone-clause-after g c = rw c.in-Gone.is c.gone.ensures.after

pub returns-in-Tick-clause-after : goal.returns-in-Tick-clause-after
returns-in-Tick-clause-after g c = rw (c.in-Tick.is, c.silent-in-Tick.ensures) c.tick.ensures.after

pub returns-in-Deposit-clause-after : goal.returns-in-Deposit-clause-after
returns-in-Deposit-clause-after g c = rw (c.in-Deposit.is, c.silent-in-Deposit.ensures) c.deposit.ensures

pub returns-in-Admin-clause-after : goal.returns-in-Admin-clause-after
returns-in-Admin-clause-after g c = rw c.in-Admin.is c.command.ensures.after

pub returns-in-Restart-clause-after : goal.returns-in-Restart-clause-after
returns-in-Restart-clause-after g c = rw (c.in-Restart.is, c.silent-in-Restart.ensures) c.restart.ensures.after

pub returns-in-Bytes-clause-unasked_line : goal.returns-in-Bytes-clause-unasked_line
returns-in-Bytes-clause-unasked_line g c T st clean = rw c.in-Bytes.is (c.bytes.ensures.unasked T st clean)

pub returns-in-Took-clause-unasked_line : goal.returns-in-Took-clause-unasked_line
returns-in-Took-clause-unasked_line g c T st clean = rw c.in-Took.is (c.took.ensures.unasked T st clean)

pub returns-in-Deposit-clause-unasked_line : goal.returns-in-Deposit-clause-unasked_line
returns-in-Deposit-clause-unasked_line g c T st clean = rw c.in-Deposit.is (λ none. absurd (true≢false none))

pub returns-in-Admin-clause-unasked_line : goal.returns-in-Admin-clause-unasked_line
returns-in-Admin-clause-unasked_line g c T st clean = rw c.in-Admin.is (λ none. absurd (true≢false none))

pub returns-in-Connect-clause-account : goal.returns-in-Connect-clause-account
returns-in-Connect-clause-account g c T st clean = rw (c.in-Connect.is, c.silent.ensures) (sym (opening_told T _))

pub returns-in-Bytes-clause-account : goal.returns-in-Bytes-clause-account
returns-in-Bytes-clause-account g c T st clean = rw c.in-Bytes.is (c.bytes.ensures.account T st clean)

pub returns-in-Took-clause-account : goal.returns-in-Took-clause-account
returns-in-Took-clause-account g c T st clean = rw c.in-Took.is (c.took.ensures.account T st clean)

pub returns-in-Gone-clause-account : goal.returns-in-Gone-clause-account
returns-in-Gone-clause-account g c T st clean = rw c.in-Gone.is (c.gone.ensures.account T)

pub returns-in-Tick-clause-account : goal.returns-in-Tick-clause-account
returns-in-Tick-clause-account g c T st clean = rw (c.in-Tick.is, c.silent-in-Tick.ensures) (sym (tick_told T _ _))

pub returns-in-Deposit-clause-account : goal.returns-in-Deposit-clause-account
returns-in-Deposit-clause-account g c T st clean =
    rw (c.in-Deposit.is, c.silent-in-Deposit.ensures) (sym (deposit_told T c.in-Deposit.maildrop.now c.in-Deposit.class.now c.in-Deposit.id.now c.in-Deposit.text.now _))

pub returns-in-Admin-clause-account : goal.returns-in-Admin-clause-account
returns-in-Admin-clause-account g c T st clean = rw c.in-Admin.is (c.command.ensures.account T st clean)

pub returns-in-Restart-clause-account : goal.returns-in-Restart-clause-account
returns-in-Restart-clause-account g c T st clean = rw (c.in-Restart.is, c.silent-in-Restart.ensures) (sym (restart_told T c.in-Restart.boot _))

pub returns-in-Tick-clause-succeeds : goal.returns-in-Tick-clause-succeeds
returns-in-Tick-clause-succeeds g c = rw (c.in-Tick.is, c.silent-in-Tick.ensures, c.tick.ensures.done) refl

pub returns-in-Restart-clause-succeeds : goal.returns-in-Restart-clause-succeeds
returns-in-Restart-clause-succeeds g c = rw (c.in-Restart.is, c.silent-in-Restart.ensures, c.restart.ensures.done) refl
