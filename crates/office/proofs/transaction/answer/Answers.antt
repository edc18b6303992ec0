use Rattle.std.proofs.Common.{sym, ap, ◌∙◌}
use Rattle.popline.specs.Seen.{reply_seen}
use Rattle.office.specs.Accounts.{named_in}
use Rattle.office.specs.Connections.{reading}
use Rattle.office.specs.History.{Done}
use Rattle.office.specs.Replying.{InTransaction}
use Rattle.office.specs.Transaction.{transaction_of, transaction_asks, tag_of}
use Rattle.office.specs.declared.login_state.LineOutcome.TheVariants as outcome
use Rattle.office.proofs.Obeying.{if_ok_so}
use Rattle.office.proofs.Permitted.{permitted_reply, refused_reply, refused_silent, refused_goes_on, refused_held}
use Rattle.office.proofs.Reporting.{reported_done, reported_quiet}
use Rattle.office.proofs.transaction.answer.Goals as goal

pub returns-in-Ok-clause-answered : goal.returns-in-Ok-clause-answered
returns-in-Ok-clause-answered g c = if_ok_so _ c.answer_command.result c.answer_command.ensures.done (λ r h d kept held clean lies.
    let it = c.in-Ok.ensures.ok in
    let s = InTransaction c.args.policy.now (transaction_of c.args.session.now kept) in
    rw (it.read, permitted_reply _ _ c.args.line.now _ it s (tag_of r.outcome)) (h d kept held clean lies))

pub returns-in-Err-clause-answered : goal.returns-in-Err-clause-answered
returns-in-Err-clause-answered g c = rw c.report.ensures (reported_done _ c.say-answered.result c.say-answered.ensures.outcome c.say-answered.ensures.owed (λ w said d kept held clean lies.
    let x = c.args.line.now in
    let p = c.args.policy.now in
    let v = transaction_of c.args.session.now kept in
    let h = c.in-Err.ensures.err in
    rw (sym (refused_reply p v x _ h Done)) (record {
      owed = said d _;
      session = refused_goes_on p v x (reply_seen c.in-Err.reply) h c.args.session.now;
      held = rw (refused_held p v x _ h c.args.session.now d) held;
      may = λ f. cc;
      cause = λ f. cc;
    })))

pub returns-in-Ok-clause-acts : goal.returns-in-Ok-clause-acts
returns-in-Ok-clause-acts g c = rw c.in-Ok.ensures.ok.read c.answer_command.ensures.acts

pub returns-in-Ok-clause-unasked : goal.returns-in-Ok-clause-unasked
returns-in-Ok-clause-unasked g c d kept lies none =
    c.answer_command.ensures.unasked d kept lies (ap (transaction_asks c.args.policy.now (transaction_of c.args.session.now kept)) (sym c.in-Ok.ensures.ok.read) ∙ none)

pub returns-in-Ok-clause-account : goal.returns-in-Ok-clause-account
returns-in-Ok-clause-account g c = if_ok_so _ c.answer_command.result c.answer_command.ensures.account (λ r h d kept lies.
    let it = c.in-Ok.ensures.ok in
    let s = InTransaction c.args.policy.now (transaction_of c.args.session.now kept) in
    rw (it.read, permitted_reply _ _ c.args.line.now _ it s (tag_of r.outcome)) (h d kept lies))

pub returns-in-Err-clause-account : goal.returns-in-Err-clause-account
returns-in-Err-clause-account g c = rw c.report.ensures (reported_quiet _ c.say-answered.result c.say-answered.ensures.outcome (λ d kept lies.
    let p = c.args.policy.now in
    let s = c.args.session.now in
    let v = transaction_of s kept in
    let h = c.in-Err.ensures.err in
    rw (sym (refused_reply p v c.args.line.now _ h Done)) (sym (refused_silent p v c.args.line.now _ h outcome.Done s (named_in v (reading c.args.line.now))))))
