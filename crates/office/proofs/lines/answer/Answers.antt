use Rattle.std.proofs.Common.{◌≡◌, false, Option, Some, None, sym, subst}
use Rattle.popline.specs.Seen.{cut_seen}
use Rattle.vault.specs.Calls.{has_grown}
use Rattle.office.specs.Connections.{reading}
use Rattle.office.specs.Transaction.{Transaction}
use Rattle.office.specs.Answered.{HasTransaction, context_over}
use Rattle.office.specs.AfterLine.{AfterLine}
use Rattle.office.proofs.Unasked.{authorization_asks_none, transaction_asks_none}
use Rattle.office.proofs.Entering.{state_case, unseated_case}
use Rattle.vault.specs.Changes.{Contents}
use Rattle.office.specs.Kept.{asks}
use Rattle.office.proofs.lines.answer.Given.{Over}
use Rattle.office.proofs.lines.answer.Goals.{After-authorization_answer, After-transaction_answer}
use Rattle.office.proofs.lines.answer.Goals as goal

pub returns-in_ok-answered-in-None-clause-answered : goal.returns-in_ok-answered-in-None-clause-answered
returns-in_ok-answered-in-None-clause-answered g c d v held clean sits =
    let e : None ≡ c.args.session.now = c.in-None.ensures.value in
    let x = cut_seen c.args.cut in
    let new = c.authorization_answer.new in
    let P : Option Transaction → Type 0 =
    λ v. AfterLine (g.V.Vault.holds new.vault) (has_grown (g.V.Vault.faults c.args.vault.now) (g.V.Vault.faults new.vault)) d
    (context_over d c.args.context c.args.locks.now) x c.in_ok-answered-in-None.answered.outcome v None c.in_ok-answered-in-None.begun
    c.args.state.now new.state new.output c.in_ok-answered-in-None.answered.account in
    rw (sym e) (unseated_case d v P
    (rw c.read-line.ensures at c.in_ok-answered-in-None.ensures.answered d held clean) (subst (λ o. HasTransaction d o v) (sym e) sits))

pub returns-in_ok-answered-in-Some-clause-answered : goal.returns-in_ok-answered-in-Some-clause-answered
returns-in_ok-answered-in-Some-clause-answered g c d v held clean sits =
    let e : Some c.in-Some.current ≡ c.args.session.now = c.in-Some.ensures.value in
    let x = cut_seen c.args.cut in
    let new = c.transaction_answer.new in
    let P : Option Transaction → Type 0 =
    λ v. AfterLine (g.V.Vault.holds new.vault) (has_grown (g.V.Vault.faults c.args.vault.now) (g.V.Vault.faults new.vault)) d
    (context_over d c.args.context c.args.locks.now) x c.in_ok-answered-in-Some.answered.outcome v
    (Some c.in-Some.current) c.in_ok-answered-in-Some.after c.args.state.now new.state new.output c.in_ok-answered-in-Some.answered.account in
    rw (sym e) (state_case d c.in-Some.current v P (λ w seat. rw c.read-line.ensures at c.in_ok-answered-in-Some.ensures.answered d w held clean seat) (subst (λ o. HasTransaction d o v) (sym e) sits))

-- before a session and in one, nothing is asked if the line asks nothing
unasked_before : (g : Over) (c : After-authorization_answer g) (d : Contents) (v : Option Transaction) → HasTransaction d c.args.session.now v
    → asks c.args.context.policy.now c.args.state.now v (reading (cut_seen c.args.cut)) ≡ false → c.authorization_answer.new.vault ≡ c.args.vault.now
unasked_before g c d v sits none =
    let e : c.args.session.now ≡ None = sym c.in-None.ensures.value in
    let same = c.read-line.ensures in
    c.authorization_answer.ensures.unasked
    (rw same (authorization_asks_none d c.args.context.policy.now c.args.state.now v (reading (cut_seen c.args.cut)) (subst (λ o. HasTransaction d o v) e sits) none))

unasked_in : (g : Over) (c : After-transaction_answer g) (d : Contents) (v : Option Transaction) → HasTransaction d c.args.session.now v
    → asks c.args.context.policy.now c.args.state.now v (reading (cut_seen c.args.cut)) ≡ false → c.transaction_answer.new.vault ≡ c.args.vault.now
unasked_in g c d v sits none =
    let seated : c.args.session.now ≡ Some c.in-Some.current = sym c.in-Some.ensures.value in
    let w = transaction_asks_none d c.args.context.policy.now c.in-Some.current c.args.state.now v (reading (cut_seen c.args.cut)) (subst (λ o. HasTransaction d o v) seated sits) none in
    c.transaction_answer.ensures.unasked d w.transaction w.has_transaction (rw c.read-line.ensures w.none)

pub returns-in_ok-answered-in-None-clause-unasked : goal.returns-in_ok-answered-in-None-clause-unasked
returns-in_ok-answered-in-None-clause-unasked g c = unasked_before g (goal.at.returns-in_ok-answered-in-None-clause-unasked g c).After-authorization_answer

pub returns-in_ok-answered-in-Some-clause-unasked : goal.returns-in_ok-answered-in-Some-clause-unasked
returns-in_ok-answered-in-Some-clause-unasked g c = unasked_in g (goal.at.returns-in_ok-answered-in-Some-clause-unasked g c).After-transaction_answer

pub returns-in_err-answered-in-None-clause-unasked : goal.returns-in_err-answered-in-None-clause-unasked
returns-in_err-answered-in-None-clause-unasked g c = unasked_before g (goal.at.returns-in_err-answered-in-None-clause-unasked g c).After-authorization_answer

pub returns-in_err-answered-in-Some-clause-unasked : goal.returns-in_err-answered-in-Some-clause-unasked
returns-in_err-answered-in-Some-clause-unasked g c = unasked_in g (goal.at.returns-in_err-answered-in-Some-clause-unasked g c).After-transaction_answer
