use Rattle.std.proofs.Common.{◌∙◌, refl}
use Rattle.office.proofs.Naming.{sent_so}
use Rattle.office.proofs.Obeying.{if_ok_so}
use Rattle.office.proofs.Reporting.{reported_ok, reported_so, reported_looks}
use Rattle.office.proofs.message.retrieve.Goals as goal

pub returns-clause-done : goal.returns-clause-done
returns-clause-done g c = rw c.report.ensures (reported_ok _ c.of_sending-told.result c.send-answered.result
    (if_ok_so _ c.send-answered.result c.send-answered.ensures.done (λ w h d kept held clean lies. h c.args.policy.now c.args.session.now d kept c.pick_for-readable.ensures held clean lies)))

pub returns-clause-looks : goal.returns-clause-looks
returns-clause-looks g c = rw c.report.ensures (reported_looks g.V.Vault c.of_sending-told.result c.send-answered.result c.send-answered.ensures.looks)

pub returns-clause-account : goal.returns-clause-account
returns-clause-account g c = rw c.report.ensures (reported_so _ c.of_sending-told.result c.send-answered.result (λ w d kept lies.
    sent_so d c.args.policy.now c.args.session.now kept lies c.args.n w c.args.lines _ _
    (c.of_sending-told.ensures ∙ rw (c.command_for.ensures, c.pick_for-readable.ensures, c.row_at.ensures) refl) refl))

pub returns-clause-unasked : goal.returns-clause-unasked
returns-clause-unasked g c = λ d kept lies none. c.send-answered.ensures.unasked c.args.policy.now c.args.session.now d kept c.pick_for-readable.ensures lies none
