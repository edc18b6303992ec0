use Rattle.std.proofs.Common.{sym, rules}
use Rattle.office.specs.History.{Done}
use Rattle.office.specs.Kept.{state_of}
use Rattle.office.specs.Answered.{context_over}
use Rattle.office.proofs.Permitted.{permitted_reply, refused_line, refused_begins, refused_lets_none}
use Rattle.vault.proofs.CallLemmas.{looks_self}
use Rattle.std.proofs.Common.{None}
use Rattle.office.proofs.lines.reply_to.Goals as goal

pub command_reply-requires : goal.command_reply-requires
command_reply-requires g c = let it = rw c.is_some.ensures at c.in-Ok.ensures.ok in it.allowed

pub returns-in-Ok-clause-said : goal.returns-in-Ok-clause-said
returns-in-Ok-clause-said g c d held clean =
    let it = rw c.is_some.ensures at c.in-Ok.ensures.ok in
    rw (permitted_reply _ _ c.args.line.now _ it (state_of (context_over d c.args.context c.args.locks.now) c.args.state None) Done)
    (c.command_reply.ensures.said d held clean)

pub returns-in-Ok-clause-session : goal.returns-in-Ok-clause-session
returns-in-Ok-clause-session g c = rw c.in-Ok.ensures.ok.read c.command_reply.ensures.session

pub returns-in-Ok-clause-asked : goal.returns-in-Ok-clause-asked
returns-in-Ok-clause-asked g c = rw c.in-Ok.ensures.ok.read c.command_reply.ensures.asked

pub returns-in-Ok-clause-unasked : goal.returns-in-Ok-clause-unasked
returns-in-Ok-clause-unasked g c = rw c.in-Ok.ensures.ok.read c.command_reply.ensures.unasked

pub returns-in-Err-clause-said : goal.returns-in-Err-clause-said
returns-in-Err-clause-said g c d held clean =
    let h = rw c.is_some.ensures at c.in-Err.ensures.err in
    rw (sym (refused_line (context_over d c.args.context c.args.locks.now) c.args.state c.args.line.now _ h)) (search rules)

pub returns-in-Err-clause-session : goal.returns-in-Err-clause-session
returns-in-Err-clause-session g c d held clean =
    let h = rw c.is_some.ensures at c.in-Err.ensures.err in
    refused_begins (context_over d c.args.context c.args.locks.now) c.args.state c.args.line.now _ h d c.args.context.policy.now

pub returns-in-Ok-clause-rule : goal.returns-in-Ok-clause-rule
returns-in-Ok-clause-rule g c = rw c.in-Ok.ensures.ok.read c.command_reply.ensures.rule

pub returns-in-Err-clause-rule : goal.returns-in-Err-clause-rule
returns-in-Err-clause-rule g c =
    let h = rw c.is_some.ensures at c.in-Err.ensures.err in
    refused_lets_none c.args.state.user c.args.line.now _ h _

pub returns-in-Err-clause-looks : goal.returns-in-Err-clause-looks
returns-in-Err-clause-looks g c =
    looks_self g.V.Vault c.args.vault.now _ (g.met.V.Vault.settled c.args.vault.now)
