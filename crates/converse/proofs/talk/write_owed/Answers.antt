use Rattle.std.proofs.Common.{Ok, Err, ◌∙◌, ap, inr, sym, subst, arith, false}
use Rattle.office.specs.Stands.{vault_of}
use Rattle.office.specs.Trace.{acts}
use Rattle.converse.specs.Streams.{writes_failed}
use Rattle.converse.specs.Talked.{HasFailed}
use Rattle.converse.specs.declared.talk.TalkFault.TheVariants as fault
use Rattle.converse.proofs.Clauses.{refused_as}
use Rattle.converse.proofs.Ends.{midway_broken}
use Rattle.converse.proofs.Streaming.{writes_then, writes_failed_then, failed_more, handed_on}
use Rattle.converse.proofs.SoFar.{wrote_none, wrote_then, wrote_more, wrote_all, wrote_out, wrote_cut, wrote_unflushed}
use Rattle.converse.proofs.talk.write_owed.Goals as goal

pub returns-in_err-write_some-clause-wrote : goal.returns-in_err-write_some-clause-wrote
returns-in_err-write_some-clause-wrote g c =
    let r = c.from_residual in
    let f = c.in_err-write_some.field-0.0 in
    let t = c.in_err-write_some.ensures in
    wrote_cut r.result f (refused_as r.result f r.ensures.1) (wrote_then 0 t.wrote.0 (omega (arith)) c.loop.invariant t.wrote.1 t.counted t.clean t.wrote.3)

pub returns-in_err-flush-clause-wrote : goal.returns-in_err-flush-clause-wrote
returns-in_err-flush-clause-wrote g c =
    let r = c.from_residual-in_err-flush in
    let f = c.in_err-flush.field-0.0 in
    let t = c.in_ok-write_some.ensures in
    wrote_unflushed r.result (refused_as r.result f r.ensures.1 ∙ ap Err c.in_err-flush.ensures.cause.0)
    (wrote_all c.in_ok-write_some.field-0 t.wrote.0 c.if-not-branch.true c.loop.invariant t.wrote.1 t.counted t.clean t.wrote.3 c.in_err-flush.ensures.took)

pub returns-then-not-branch-clause-wrote : goal.returns-then-not-branch-clause-wrote
returns-then-not-branch-clause-wrote g c =
    let t = c.in_ok-write_some.ensures in
    wrote_out (Ok tt)
    (wrote_all c.in_ok-write_some.field-0 t.wrote.0 c.if-not-branch.true c.loop.invariant t.wrote.1 t.counted t.clean t.wrote.3 c.in_ok-flush.ensures.took)
    (λ before T octets written L long h. h)

pub loop-preserved : goal.loop-preserved
loop-preserved g c =
    let t = c.in_ok-write_some.ensures in
    wrote_more c.in_ok-write_some.field-0 t.wrote.0 c.if-not-branch.false (t.wrote.2 (ap (λ x. Ok x) c.if-not-branch.false)) c.loop.invariant t.wrote.1 t.counted t.clean t.wrote.3

pub returns-clause-wrote : goal.returns-clause-wrote
returns-clause-wrote g c =
    let over = c.loop-test.false in
    wrote_out (Err fault.Endless) c.loop.invariant
    (λ before T octets written L long h. (midway_broken T.base c.args.c (acts T) octets written before (g.V.Vault.faults (vault_of c.loop.office)) L h, inr (omega (arith, long, over))))

pub loop-init : goal.loop-init
loop-init g c = wrote_none

pub returns-in_err-write_some-clause-failed : goal.returns-in_err-write_some-clause-failed
returns-in_err-write_some-clause-failed g c =
    let s = c.loop.invariant in
    let now = g.W.Sink.seen c.write_some.new.writer in
    handed_on false (writes_failed (g.W.Sink.seen c.args.writer.now) now) c.from_residual.result c.in_err-write_some.field-0.0 c.from_residual.ensures.1
    (failed_more false _ false _ _ (λ q. q) (λ q. writes_failed_then (g.W.Sink.seen c.args.writer.now) (g.W.Sink.seen c.loop.writer) now s.more s.writes q) c.in_err-write_some.ensures.failed)

pub returns-in_err-flush-clause-failed : goal.returns-in_err-flush-clause-failed
returns-in_err-flush-clause-failed g c =
    let d = c.in_ok-write_some.ensures.wrote in
    let first = g.W.Sink.seen c.args.writer.now in
    let now = g.W.Sink.seen c.flush.new.writer in
    let cause = c.in_err-flush.ensures.cause in
    handed_on _ _ c.from_residual-in_err-flush.result _ c.from_residual-in_err-flush.ensures.1
    (subst (HasFailed false (writes_failed first now)) (sym cause.0) (writes_failed_then first _ now _ (writes_then first _ _ c.loop.invariant.more d.0 c.loop.invariant.writes d.1) cause.1))
