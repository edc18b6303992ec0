use Rattle.std.proofs.Common.{Ok, Err, ap, inl, arith, false}
use Rattle.std.specs.Io.KnownBytes.{IsAtEnd}
use Rattle.office.specs.Trace.{acts}
use Rattle.converse.specs.Streams.{reads_failed, writes_failed}
use Rattle.converse.specs.declared.talk.TalkFault.TheVariants as fault
use Rattle.converse.proofs.Ends.{goes_broken}
use Rattle.converse.proofs.Clauses.{refused_as}
use Rattle.converse.proofs.Streaming.{reads_failed_then, writes_failed_then, failed_more, handed_on, flushed_unread, flushed_anyway}
use Rattle.converse.proofs.SoFar.{talked_none, talked_then, talked_waits, talked_over, talked_on, talked_more, talked_all, talked_out, talked_cut}
use Rattle.converse.proofs.talk.converse.Goals as goal

pub returns-in_err-write_owed-clause-talked : goal.returns-in_err-write_owed-clause-talked
returns-in_err-write_owed-clause-talked g c =
    let r = c.from_residual in
    let f = c.in_err-write_owed.field-0.0 in
    let t = c.in_err-write_owed.ensures in
    talked_cut r.result f (refused_as r.result f r.ensures.1) (talked_then t.wrote.0 c.loop.invariant t.wrote.1 t.counted t.clean t.wrote.2)

pub returns-then-ended-clause-talked : goal.returns-then-ended-clause-talked
returns-then-ended-clause-talked g c =
    let t = c.in_ok-write_owed.ensures in
    talked_out (Ok tt) (λ before T octets written L long h. h)
    (talked_over (IsAtEnd (g.R.Source.seen c.loop.reader).left) c.ended.result c.ended.ensures c.if-ended.true (talked_then t.wrote.0 c.loop.invariant t.wrote.1 t.counted t.clean t.wrote.2))

pub returns-in_err-listen-clause-talked : goal.returns-in_err-listen-clause-talked
returns-in_err-listen-clause-talked g c =
    let r = c.from_residual-in_err-listen in
    let f = c.in_err-listen.field-0.0 in
    let t = c.in_ok-write_owed.ensures in
    let n = c.in_err-listen.ensures in
    talked_cut r.result f (refused_as r.result f r.ensures.1) (talked_on 0 n.read.0 (omega (arith)) n.read.1 n.counted n.clean n.read.4
    (talked_waits c.ended.result c.ended.ensures c.if-ended.false (talked_then t.wrote.0 c.loop.invariant t.wrote.1 t.counted t.clean t.wrote.2)))

pub returns-then-not-branch-clause-talked : goal.returns-then-not-branch-clause-talked
returns-then-not-branch-clause-talked g c =
    let off = c.if-not-branch.true in
    let t = c.in_ok-write_owed.ensures in
    let n = c.in_ok-listen.ensures in
    talked_out (Ok tt) (λ before T octets written L long h. h)
    (talked_all c.in_ok-listen.field-0 off (n.read.3 (ap (λ x. Ok x) off)) (talked_on 0 n.read.0 (omega (arith)) n.read.1 n.counted n.clean n.read.4
    (talked_waits c.ended.result c.ended.ensures c.if-ended.false (talked_then t.wrote.0 c.loop.invariant t.wrote.1 t.counted t.clean t.wrote.2))))

pub loop-preserved : goal.loop-preserved
loop-preserved g c =
    let on = c.if-not-branch.false in
    let t = c.in_ok-write_owed.ensures in
    let n = c.in_ok-listen.ensures in
    let some = n.read.2 (ap (λ x. Ok x) on) in
    talked_more c.in_ok-listen.field-0 on (talked_on _ n.read.0 (omega (arith, some)) n.read.1 n.counted n.clean n.read.4
    (talked_waits c.ended.result c.ended.ensures c.if-ended.false (talked_then t.wrote.0 c.loop.invariant t.wrote.1 t.counted t.clean t.wrote.2)))

pub returns-clause-talked : goal.returns-clause-talked
returns-clause-talked g c =
    let over = c.loop-test.false in
    talked_out (Err fault.Endless) (λ before T octets written L long h. (goes_broken T.base c.args.c (acts T) octets written L h, inl (omega (arith, long, over)))) c.loop.invariant

pub loop-init : goal.loop-init
loop-init g c = talked_none

pub returns-in_err-write_owed-clause-failed : goal.returns-in_err-write_owed-clause-failed
returns-in_err-write_owed-clause-failed g c =
    let s = c.loop.invariant in
    let first = g.W.Sink.seen c.args.writer.now in
    let now = g.W.Sink.seen c.write_owed.new.writer in
    let reads = reads_failed (g.R.Source.seen c.args.reader.now) (g.R.Source.seen c.loop.reader) in
    handed_on reads (writes_failed first now) c.from_residual.result c.in_err-write_owed.field-0.0 c.from_residual.ensures.1
    (failed_more false _ reads _ _ (λ q. absurd (cc)) (λ q. writes_failed_then first (g.W.Sink.seen c.loop.writer) now s.written s.writes q) c.in_err-write_owed.ensures.failed)

pub returns-in_err-listen-clause-failed : goal.returns-in_err-listen-clause-failed
returns-in_err-listen-clause-failed g c =
    let s = c.loop.invariant in
    let read = g.R.Source.seen c.listen.new.reader in
    let was = g.R.Source.seen c.args.reader.now in
    let writes = writes_failed (g.W.Sink.seen c.args.writer.now) (g.W.Sink.seen c.write_owed.new.writer) in
    handed_on (reads_failed was read) writes c.from_residual-in_err-listen.result c.in_err-listen.field-0.0 c.from_residual-in_err-listen.ensures.1
    (failed_more _ false _ writes _ (λ q. reads_failed_then was (g.R.Source.seen c.loop.reader) read s.octets s.reads q) (λ q. absurd (cc)) c.in_err-listen.ensures.failed)

pub returns-in_err-write_owed-clause-flushed : goal.returns-in_err-write_owed-clause-flushed
returns-in_err-write_owed-clause-flushed g c =
    let t = c.in_err-write_owed in
    flushed_unread _ _ c.from_residual.result _ (refused_as c.from_residual.result t.field-0.0 c.from_residual.ensures.1) t.ensures.failed

pub returns-in_err-listen-clause-flushed : goal.returns-in_err-listen-clause-flushed
returns-in_err-listen-clause-flushed g c = flushed_anyway _ _ c.in_ok-write_owed.ensures.flushed
