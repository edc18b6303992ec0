use Rattle.std.proofs.Common.{inr}
use Rattle.converse.specs.Causes.{IsPolicyEnd}
use Rattle.converse.specs.PolicyFile.{IsFaultOf}
use Rattle.converse.specs.Streams.{writes_failed}
use Rattle.converse.proofs.Policies.{ended_unwritten, ended_writing, review_part, review_whole}
use Rattle.converse.proofs.TextWriting.{handed_as}
use Rattle.converse.proofs.review_policy.tell_review.Goals as goal

pub returns-in_err-policy-clause-cause : goal.returns-in_err-policy-clause-cause
returns-in_err-policy-clause-cause g c =
    let written = writes_failed (g.W.Sink.seen c.args.out.now) (g.W.Sink.seen c.args.out.now) in
    let Is = IsFaultOf c.args.text.now in
    handed_as c.from_residual.result _ (IsPolicyEnd Is written) c.from_residual.ensures.1 (ended_unwritten Is Is written (λ e is. is) _ c.in_err-policy.ensures.cause)

pub returns-in_err-write_text-clause-faulty : goal.returns-in_err-write_text-clause-faulty
returns-in_err-write_text-clause-faulty g c = λ none. absurd (none _ c.in_ok-policy.ensures.ok)

pub returns-in_err-write_text-clause-part : goal.returns-in_err-write_text-clause-part
returns-in_err-write_text-clause-part g c = inr (review_part c.args.choice.now c.in_ok-policy.ensures.ok c.deref.ensures.value c.in_ok-review.ensures c.in_err-write_text.ensures.part)

pub returns-in_err-write_text-clause-cause : goal.returns-in_err-write_text-clause-cause
returns-in_err-write_text-clause-cause g c =
    let failed = writes_failed (g.W.Sink.seen c.args.out.now) (g.W.Sink.seen c.write_text.new.out) in
    let Faults = IsFaultOf c.args.text.now in
    let cause = c.in_err-write_text.ensures.cause in
    handed_as c.from_residual-in_err-write_text.result _ (IsPolicyEnd Faults failed) c.from_residual-in_err-write_text.ensures.1 (ended_writing Faults failed _ cause.0 cause.1)

pub returns-clause-faulty : goal.returns-clause-faulty
returns-clause-faulty g c = λ none. absurd (none _ c.in_ok-policy.ensures.ok)

pub returns-clause-ok : goal.returns-clause-ok
returns-clause-ok g c = review_whole c.args.choice.now c.in_ok-policy.ensures.ok c.deref.ensures.value c.in_ok-review.ensures c.in_ok-write_text.ensures.ok

pub returns-clause-part : goal.returns-clause-part
returns-clause-part g c = inr (review_part c.args.choice.now c.in_ok-policy.ensures.ok c.deref.ensures.value c.in_ok-review.ensures c.in_ok-write_text.ensures.part)

pub returns-clause-flushed : goal.returns-clause-flushed
returns-clause-flushed g c = c.in_ok-write_text.ensures.flushed
