use Rattle.converse.specs.PolicyFile.{IsFaultOf, IsFaultOfEither}
use Rattle.converse.specs.Streams.{writes_failed}
use Rattle.converse.proofs.Policies.{ended_still, fault_of_second}
use Rattle.converse.proofs.review_policy.review_change_in_store.Goals as goal

pub returns-in-Ok-clause-why : goal.returns-in-Ok-clause-why
returns-in-Ok-clause-why g c = λ one.
    let written = writes_failed (g.W.Sink.seen c.args.out.now) (g.W.Sink.seen c.review_in_store.new.out) in
    let Either = IsFaultOfEither c.args.old.now c.args.text.now in
    let told = c.review_in_store.ensures.why one in (
      told.0,
      ended_still (IsFaultOf c.args.text.now) Either written written (fault_of_second c.args.old.now c.args.text.now _ c.in-Ok.ensures.ok) (λ e. e) told.0 told.1,
      told.2,
    )
