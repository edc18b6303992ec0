use Rattle.std.proofs.Common.{◌≡◌, Option, Some, Result, Err, IfErr, false, ap, subst, ◌∙◌}
use Rattle.std.specs.Prelude.{ok_or}
use Rattle.policy.specs.Policy.{Policy}
use Rattle.converse.specs.declared.fault.Fault.{Fault}
use Rattle.converse.specs.Causes.{IsPolicyEnd}
use Rattle.converse.specs.PolicyFile.{IsFaultOf}
use Rattle.converse.specs.Script.{ScriptLine}
use Rattle.converse.specs.Escapes.{unescaped}
use Rattle.converse.proofs.Reading.{policy_read, policy_fault, policy_joined}
use Rattle.converse.proofs.script.read_policy.Goals as goal

pub returns-in-Ok : goal.returns-in-Ok
returns-in-Ok c =
    let known : unescaped c.args.text.now ≡ Some c.in-Some.octets.items = rw c.in-Some.is at c.in_ok-octets.ensures.is in
    ap (λ (o : Option ScriptLine). ok_or o 1) (policy_joined _ _ _ _ known c.as_slice.ensures.value (policy_read _ _ c.in-Ok.ensures.ok))

pub returns-in-Err-NoPolicy : goal.returns-in-Err-NoPolicy
returns-in-Err-NoPolicy c =
    let known : unescaped c.args.text.now ≡ Some c.in-Some.octets.items = rw c.in-Some.is at c.in_ok-octets.ensures.is in
    let is : IsFaultOf c.as_slice.result.now c.in-Err-NoPolicy.fault =
    subst (λ (r : Result Policy Fault). IfErr r (IsPolicyEnd (IsFaultOf c.as_slice.result.now) false)) (c.in-Err-NoPolicy.is ∙ ap Err c.in-Err-NoPolicy.field-0-is)
    c.read_octets.ensures.cause in
    ap (λ (o : Option ScriptLine). ok_or o 1) (policy_joined _ _ _ _ known c.as_slice.ensures.value (policy_fault _ _ is))
