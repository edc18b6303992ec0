use Rattle.std.proofs.Common.{true≢false}
use Rattle.office.specs.Answered.{context_over}
use Rattle.office.proofs.Entering.{pass_said}
use Rattle.vault.proofs.CallLemmas.{looks_self}
use Rattle.office.proofs.lines.command_reply.Goals as goal

pub returns-in-Some-clause-said : goal.returns-in-Some-clause-said
returns-in-Some-clause-said g c d held clean =
    rw (c.in-Pass.is, pass_said (context_over d c.args.context c.args.locks.now) c.args.state c.in-Pass.password.now c.in-Some.name c.in-Some.is) (c.judge.ensures.said d held clean)

pub returns-in-Some-clause-unasked : goal.returns-in-Some-clause-unasked
returns-in-Some-clause-unasked g c = rw (c.in-Pass.is, c.in-Some.is) (λ none. absurd (true≢false none))

pub returns-in-Apop-clause-unasked : goal.returns-in-Apop-clause-unasked
returns-in-Apop-clause-unasked g c = rw c.in-Apop.is (λ none. absurd (true≢false none))

pub returns-in-Capa-clause-looks : goal.returns-in-Capa-clause-looks
returns-in-Capa-clause-looks g c =
    looks_self g.V.Vault c.args.vault.now _ (g.met.V.Vault.settled c.args.vault.now)

pub returns-in-User-clause-looks : goal.returns-in-User-clause-looks
returns-in-User-clause-looks g c =
    looks_self g.V.Vault c.args.vault.now _ (g.met.V.Vault.settled c.args.vault.now)

pub returns-in-Quit-clause-looks : goal.returns-in-Quit-clause-looks
returns-in-Quit-clause-looks g c =
    looks_self g.V.Vault c.args.vault.now _ (g.met.V.Vault.settled c.args.vault.now)
