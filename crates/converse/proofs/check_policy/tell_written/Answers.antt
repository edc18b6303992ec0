use Rattle.std.proofs.Common.{◌∙◌, List, ℕ, inr, subst}
use Rattle.converse.specs.Causes.{IsPolicyEnd}
use Rattle.converse.specs.PolicyFile.{IsFaultOf}
use Rattle.converse.specs.Streams.{WritesPart, writes_failed}
use Rattle.converse.proofs.Policies.{ended_unwritten, ended_writing}
use Rattle.converse.proofs.TextWriting.{handed_as, if_err_still}
use Rattle.converse.proofs.check_policy.tell_written.Goals as goal

pub returns-in_err-policy-clause-cause : goal.returns-in_err-policy-clause-cause
returns-in_err-policy-clause-cause g c =
    let written = writes_failed (g.W.Sink.seen c.args.out.now) (g.W.Sink.seen c.args.out.now) in
    let Is = IsFaultOf c.args.octets.now in
    handed_as c.from_residual.result _ (IsPolicyEnd Is written) c.from_residual.ensures.1 (ended_unwritten Is Is written (λ e is. is) _ c.in_err-policy.ensures.cause)

pub returns-clause-faulty : goal.returns-clause-faulty
returns-clause-faulty g c = λ none. absurd (none _ c.in_ok-policy.ensures.ok)

pub returns-clause-part : goal.returns-clause-part
returns-clause-part g c =
    inr (
      c.in_ok-policy.policy,
      c.in_ok-policy.ensures.ok,
      subst (λ (text : List ℕ). WritesPart (g.W.Sink.seen c.args.out.now) (g.W.Sink.seen c.write_text.new.out) text)
          (c.deref.ensures.value ∙ c.in_ok-text.ensures) c.write_text.ensures.part,
    )

pub returns-clause-cause : goal.returns-clause-cause
returns-clause-cause g c =
    let written = writes_failed (g.W.Sink.seen c.args.out.now) (g.W.Sink.seen c.write_text.new.out) in
    if_err_still _ _ _ (λ e is. ended_writing (IsFaultOf c.args.octets.now) written e is.0 is.1) c.write_text.ensures.cause
