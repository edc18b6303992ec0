use Rattle.std.proofs.Common.{inr}
use Rattle.converse.specs.Causes.{IsPolicyEnd}
use Rattle.converse.specs.PolicyFile.{IsFaultOf, IsFaultOfEither}
use Rattle.converse.specs.Streams.{writes_failed}
use Rattle.converse.proofs.Policies.{change_part, change_whole, ended_unwritten, ended_writing, fault_of_first, fault_of_second}
use Rattle.converse.proofs.TextWriting.{handed_as}
use Rattle.converse.proofs.review_policy.tell_change.Goals as goal

pub returns-in_err-before-clause-cause : goal.returns-in_err-before-clause-cause
returns-in_err-before-clause-cause g c =
    let old = c.args.old.now in
    let Either = IsFaultOfEither old c.args.text.now in
    let written = writes_failed (g.W.Sink.seen c.args.out.now) (g.W.Sink.seen c.args.out.now) in
    handed_as c.from_residual.result _ (IsPolicyEnd Either written) c.from_residual.ensures.1
    (ended_unwritten (IsFaultOf old) Either written (fault_of_first old c.args.text.now) _ c.in_err-before.ensures.cause)

pub returns-in_err-policy-clause-cause : goal.returns-in_err-policy-clause-cause
returns-in_err-policy-clause-cause g c =
    let out = g.W.Sink.seen c.args.out.now in
    let text = c.args.text.now in
    let Ends = IsPolicyEnd (IsFaultOfEither c.args.old.now text) (writes_failed out out) in
    let fault = fault_of_second c.args.old.now text c.in_ok-before.before c.in_ok-before.ensures.ok in
    handed_as c.from_residual-in_err-policy.result _ Ends c.from_residual-in_err-policy.ensures.1
    (ended_unwritten (IsFaultOf text) (IsFaultOfEither c.args.old.now text) (writes_failed out out) fault _ c.in_err-policy.ensures.cause)

pub returns-in_err-write_text-clause-part : goal.returns-in_err-write_text-clause-part
returns-in_err-write_text-clause-part g c =
    let r = c.in_ok-review.ensures in
    inr (change_part c.args.choice.now c.in_ok-before.ensures.ok c.in_ok-policy.ensures.ok c.deref.ensures.value r.text c.nobody-none.ensures c.in_err-write_text.ensures.part)

pub returns-in_err-write_text-clause-cause : goal.returns-in_err-write_text-clause-cause
returns-in_err-write_text-clause-cause g c =
    let written = writes_failed (g.W.Sink.seen c.args.out.now) (g.W.Sink.seen c.write_text.new.out) in
    let Faults = IsFaultOfEither c.args.old.now c.args.text.now in
    let cause = c.in_err-write_text.ensures.cause in
    handed_as c.from_residual-in_err-write_text.result _ (IsPolicyEnd Faults written) c.from_residual-in_err-write_text.ensures.1 (ended_writing Faults written _ cause.0 cause.1)

pub returns-clause-ok : goal.returns-clause-ok
returns-clause-ok g c =
    change_whole c.args.choice.now c.in_ok-before.ensures.ok c.in_ok-policy.ensures.ok c.in_ok-review.ensures.differ
    c.deref.ensures.value c.in_ok-review.ensures.text c.nobody-none.ensures c.in_ok-write_text.ensures.ok

pub returns-clause-part : goal.returns-clause-part
returns-clause-part g c =
    inr (change_part c.args.choice.now c.in_ok-before.ensures.ok c.in_ok-policy.ensures.ok c.deref.ensures.value c.in_ok-review.ensures.text c.nobody-none.ensures c.in_ok-write_text.ensures.part)

pub returns-clause-flushed : goal.returns-clause-flushed
returns-clause-flushed g c = λ one. c.in_ok-write_text.ensures.flushed
