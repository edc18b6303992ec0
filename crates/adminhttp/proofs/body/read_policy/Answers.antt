use Rattle.std.proofs.Common.{◌∙◌}
use Rattle.adminhttp.proofs.BodyLemmas.{not_text, policy_read, policy_fault}
use Rattle.adminhttp.proofs.body.read_policy.Goals as goal

pub returns-in_default-clause-fault : goal.returns-in_default-clause-fault
returns-in_default-clause-fault c = λ _. not_text c.args.body.now c.in_default.ensures.cases.0

pub returns-in-Ok-read-clause-ok : goal.returns-in-Ok-read-clause-ok
returns-in-Ok-read-clause-ok c =
    policy_read c.args.body.now c.in-Ok.text.now c.in-Ok-read.policy c.in-Ok.ensures.cases.0 c.in-Ok.ensures.cases.1 c.in-Ok-read.ensures.ok

pub returns-in-Err-clause-fault : goal.returns-in-Err-clause-fault
returns-in-Err-clause-fault c = λ h.
    let fault = policy_fault c.args.body.now c.in-Ok.text.now c.in-Err.fault c.in-Ok.ensures.cases.0 c.in-Ok.ensures.cases.1 c.in-Err.ensures.fault (λ e. h (c.no_command_of.ensures ∙ e)) in
    rw c.no_command_of.ensures fault
