use Rattle.std.proofs.Common.{[], Err, refl}
use Rattle.converse.specs.declared.talk.TalkFault.TheVariants as fault
use Rattle.converse.proofs.Clauses.{refused_as}
use Rattle.converse.proofs.SoFar.{heard_none, listen_cut}
use Rattle.converse.proofs.Streaming.{failed_none, handed_on}
use Rattle.converse.proofs.talk.listen.Goals as goal

pub returns-in_default-clause-read : goal.returns-in_default-clause-read
returns-in_default-clause-read g c = listen_cut g.V.Vault.is_clean [] (Err fault.Read) fault.Read refl c.in_default.ensures.given.0 (heard_none g.V.Vault.is_clean)

pub returns-in_err-hear-clause-read : goal.returns-in_err-hear-clause-read
returns-in_err-hear-clause-read g c =
    let r = c.from_residual in
    let f = c.in_err-hear.field-0.0 in
    listen_cut g.V.Vault.is_clean _ r.result f (refused_as r.result f r.ensures.1) c.in-Ok.ensures.given.0 c.in_err-hear.ensures.heard

pub returns-in_default-clause-failed : goal.returns-in_default-clause-failed
returns-in_default-clause-failed g c = c.in_default.ensures.given.1

pub returns-in_err-hear-clause-failed : goal.returns-in_err-hear-clause-failed
returns-in_err-hear-clause-failed g c =
    handed_on _ _ c.from_residual.result c.in_err-hear.field-0.0 c.from_residual.ensures.1 (failed_none _ _ c.in_err-hear.field-0.0 c.in_err-hear.ensures.failed)
