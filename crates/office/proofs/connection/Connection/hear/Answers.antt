use Rattle.std.proofs.Common.{◌≡◌, IfOk, true, false, subst, Option}
use Rattle.std.specs.Prelude.{IsOkAnd, OnOk, OnErr}
use Rattle.vault.specs.Changes.{Contents}
use Rattle.vault.specs.Calls.{has_grown}
use Rattle.office.specs.Connections.{reading}
use Rattle.office.specs.Stopping.{ActsOnce, WasDone}
use Rattle.office.specs.Transaction.{Transaction}
use Rattle.office.specs.Kept.{Kept, asks}
use Rattle.office.specs.Answered.{HasTransaction, LocksFollow, held_if}
use Rattle.office.specs.AfterLine.{AfterNext, NothingDone, line_of}
use Rattle.office.specs.declared.account.LineReport.{LineReport}
use Rattle.office.specs.declared.login_state.LineOutcome.TheVariants as outcome
use Rattle.office.proofs.connection.Connection.hear.Goals as goal

pub returns-clause-answered : goal.returns-clause-answered
returns-clause-answered g c =
    let before = c.args in
    let new = c.answer_next.new in
    subst (λ (k : Kept). IfOk c.answer_next.result
    (λ (r : LineReport). (d : Contents) (v : Option Transaction) → g.V.Vault.holds before.vault.now d → g.V.Vault.is_clean new.vault → HasTransaction d k.session v
    → AfterNext (g.V.Vault.holds new.vault)
    (has_grown (g.V.Vault.faults before.vault.now) (g.V.Vault.faults new.vault)) d before.policy.now before.locks.now v k new.self r.outcome r.account))
    c.in_ok-cut_piece.ensures.cut c.answer_next.ensures.answered

pub returns-clause-locks : goal.returns-clause-locks
returns-clause-locks g c =
    subst (λ (k : Kept). OnOk c.answer_next.result
    (LocksFollow c.args.number k.session c.answer_next.new.self.session c.args.locks.now c.answer_next.new.locks)) c.in_ok-cut_piece.ensures.cut c.answer_next.ensures.locks

pub returns-clause-err : goal.returns-clause-err
returns-clause-err g c =
    let before = c.args in
    let new = c.answer_next.new in
    subst (λ (k : Kept). OnErr c.answer_next.result
    ((k.held.whole ≡ true) × NothingDone g.V.Vault before.vault.now new.vault before.locks.now new.locks)) c.in_ok-cut_piece.ensures.cut c.answer_next.ensures.err

pub returns-clause-acts : goal.returns-clause-acts
returns-clause-acts g c =
    subst (λ (k : Kept). ActsOnce g.V.Vault c.args.vault.now c.answer_next.new.vault (IsOkAnd c.answer_next.result (λ (r : LineReport). WasDone r.outcome))
    (held_if k.held.whole outcome.Done c.args.policy.now k.session (reading (line_of k)))) c.in_ok-cut_piece.ensures.cut
    c.answer_next.ensures.acts

pub returns-clause-unasked : goal.returns-clause-unasked
returns-clause-unasked g c =
    subst (λ (k : Kept). (d : Contents) (v : Option Transaction) → HasTransaction d k.session v
    → (k.held.whole ≡ true → asks c.args.policy.now k.state v (reading (line_of k)) ≡ false) → c.answer_next.new.vault ≡ c.args.vault.now)
    c.in_ok-cut_piece.ensures.cut c.answer_next.ensures.unasked
