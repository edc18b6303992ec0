use Rattle.std.proofs.Common.{◌≡◌, ◌∙◌, true, Ok, rules}
use Rattle.popline.specs.Seen.{command_seen, reply_seen}
use Rattle.office.specs.Transaction.{transaction_of}
use Rattle.office.specs.Telling.{is_told}
use Rattle.office.proofs.Accounts.{told_so}
use Rattle.office.proofs.Obeying.{if_ok_so, if_ok_both, said_so, listed, identified}
use Rattle.office.proofs.Reporting.{reported_done, reported_so, nothing_told}
use Rattle.office.specs.declared.account.Account.TheVariants as account
use Rattle.office.proofs.Telling.{stays_held}
use Rattle.office.proofs.Quitting.{none_asked}
use Rattle.office.proofs.Naming.{heads_name}
use Rattle.office.proofs.transaction.answer_command.Goals as goal

pub returns-in-Quit-clause-done : goal.returns-in-Quit-clause-done
returns-in-Quit-clause-done g c = rw c.in-Quit.is c.quit.ensures.done

pub returns-in-Retr-clause-done : goal.returns-in-Retr-clause-done
returns-in-Retr-clause-done g c = rw c.in-Retr.is c.retrieve.ensures.done

pub returns-in-Top-clause-done : goal.returns-in-Top-clause-done
returns-in-Top-clause-done g c = rw c.in-Top.is c.retrieve-in-Top.ensures.done

pub returns-in-List-None-clause-done : goal.returns-in-List-None-clause-done
returns-in-List-None-clause-done g c =
    let none = rw c.in-List-None.is at c.in-List-None.field-0-is in
    rw (c.in-List-None.is, none, c.report.ensures) (reported_done _ c.list-answered.result c.list-answered.ensures.outcome c.list-answered.ensures.owed (λ w said d kept held clean lies.
    listed _ _ d c.args.policy.now c.args.session.now kept lies _ (said d) held))

pub returns-in-Uidl-None-clause-done : goal.returns-in-Uidl-None-clause-done
returns-in-Uidl-None-clause-done g c =
    let none = rw c.in-Uidl-None.is at c.in-Uidl-None.field-0-is in
    rw (c.in-Uidl-None.is, none, c.report-in-Uidl-None.ensures)
    (reported_done _ c.list_uids-answered.result c.list_uids-answered.ensures.outcome c.list_uids-answered.ensures.owed (λ w said d kept held clean lies.
    identified _ _ d c.args.policy.now c.args.session.now kept lies _ (said d) held))

pub returns-in_default-clause-done : goal.returns-in_default-clause-done
returns-in_default-clause-done g c = if_ok_both _ c.put.result c.put.ensures.outcome c.put.ensures.owed (λ r e said d kept held clean lies.
    let p = c.args.policy.now in
    let s = c.args.session.now in
    let is : is_told (command_seen c.args.command.now) ≡ true = search rules in
    said_so _ _ d p s c.plain_reply-reply.new.session kept _ (Ok (command_seen c.args.command.now)) r.outcome (reply_seen c.plain_reply-reply.result) e
    (said d _) (c.plain_reply-reply.ensures.said d kept lies) c.plain_reply-reply.ensures.session
    (rw (stays_held p s d (command_seen c.args.command.now) is) held))

pub returns-in-Quit-clause-unasked : goal.returns-in-Quit-clause-unasked
returns-in-Quit-clause-unasked g c = rw c.in-Quit.is (λ d kept lies none. c.quit.ensures.unasked (none_asked d c.args.policy.now c.args.session.now kept lies none))

pub returns-in-Retr-clause-unasked : goal.returns-in-Retr-clause-unasked
returns-in-Retr-clause-unasked g c = rw c.in-Retr.is c.retrieve.ensures.unasked

pub returns-in-Top-clause-unasked : goal.returns-in-Top-clause-unasked
returns-in-Top-clause-unasked g c = rw c.in-Top.is c.retrieve-in-Top.ensures.unasked

pub returns-in-Quit-clause-account : goal.returns-in-Quit-clause-account
returns-in-Quit-clause-account g c = rw c.in-Quit.is (if_ok_so _ c.quit.result c.quit.ensures.account (λ r is d kept lies. is))

pub returns-in-Retr-clause-account : goal.returns-in-Retr-clause-account
returns-in-Retr-clause-account g c = rw c.in-Retr.is c.retrieve.ensures.account

pub returns-in-Top-clause-account : goal.returns-in-Top-clause-account
returns-in-Top-clause-account g c = rw c.in-Top.is c.retrieve-in-Top.ensures.account

pub returns-in-List-None-clause-account : goal.returns-in-List-None-clause-account
returns-in-List-None-clause-account g c =
    let none = rw c.in-List-None.is at c.in-List-None.field-0-is in
    rw (c.in-List-None.is, none, c.report.ensures) (reported_so _ account.Nothing c.list-answered.result (λ w d kept lies. nothing_told w))

pub returns-in-Uidl-None-clause-account : goal.returns-in-Uidl-None-clause-account
returns-in-Uidl-None-clause-account g c =
    let none = rw c.in-Uidl-None.is at c.in-Uidl-None.field-0-is in
    rw (c.in-Uidl-None.is, none, c.report-in-Uidl-None.ensures) (reported_so _ account.Nothing c.list_uids-answered.result (λ w d kept lies. nothing_told w))

pub returns-in_default-clause-account : goal.returns-in_default-clause-account
returns-in_default-clause-account g c = if_ok_both _ c.put.result c.put.ensures.outcome c.put.ensures.account (λ r e so d kept lies.
    let p = c.args.policy.now in
    let s = c.args.session.now in
    let is : is_told (command_seen c.args.command.now) ≡ true = search rules in
    told_so p s (transaction_of s kept) r.outcome (command_seen c.args.command.now) (reply_seen c.plain_reply-reply.result) _ r.account is e (c.plain_reply-reply.ensures.said d kept lies)
    (c.message_named-named.ensures ∙ heads_name d s kept lies (Ok (command_seen c.args.command.now))) so)

pub returns-in-Quit-clause-acts : goal.returns-in-Quit-clause-acts
returns-in-Quit-clause-acts g c = rw c.in-Quit.is c.quit.ensures.acts
