use Rattle.std.proofs.Common.{rules, arith, ◌≡◌, ◌-◌, ◌≤◌, List, ℕ, inl, refl, length, take, drop, subst, take_all, length-drop, true}
use Rattle.converse.specs.Streams.{Writes, writes_failed}
use Rattle.converse.specs.declared.fault.Fault.TheVariants.{CannotWrite}
use Rattle.converse.proofs.Streaming.{writes_none, writes_failed_then}
use Rattle.converse.proofs.TextWriting.{wrote_more, wrote_part, wrote_all, some_failed, if_err_still, handed_as}
use Rattle.converse.proofs.Stopping.{on_ok}
use Rattle.converse.proofs.writing.write_text.Goals as goal

pub loop-init : goal.loop-init
loop-init g c = record { within = omega arith; writes = writes_none (g.S.Sink.seen c.args.out.now); some = inl (omega arith) }

pub loop-preserved : goal.loop-preserved
loop-preserved g c =
    let all = c.args.text.now in
    let done = c.loop.done in
    let count = c.in_ok-done.field-0 in
    let before = g.S.Sink.seen c.loop.out in
    let after = g.S.Sink.seen c.write_some.new.out in
    let left = length-drop done all in
    let rest : take (length all - done) (drop done all) ≡ drop done all = take_all (length all - done) (drop done all) (omega (arith, left)) in
    wrote_more (g.S.Sink.seen c.args.out.now) before after all done c.loop.counter count c.loop.invariant
    (subst (λ (text : List ℕ). count ≤ length text) rest c.in_ok-done.ensures.bound)
    (subst (λ (text : List ℕ). Writes before after (take count text)) rest c.in_ok-done.ensures.took.0) c.in_ok-done.ensures.took.1

pub returns-then-done-text-clause-part : goal.returns-then-done-text-clause-part
returns-then-done-text-clause-part g c = wrote_part _ _ _ c.args.text.now c.loop.done c.loop.counter c.loop.invariant c.flush.ensures.took

pub returns-clause-part : goal.returns-clause-part
returns-clause-part g c = wrote_part _ _ _ c.args.text.now c.loop.done c.loop.counter c.loop.invariant (writes_none (g.S.Sink.seen c.loop.out))

pub returns-in_err-done-clause-part : goal.returns-in_err-done-clause-part
returns-in_err-done-clause-part g c = wrote_part _ _ _ c.args.text.now c.loop.done c.loop.counter c.loop.invariant c.in_err-done.ensures.took.0

pub returns-in_err-done-clause-cause : goal.returns-in_err-done-clause-cause
returns-in_err-done-clause-cause g c =
    let first = g.S.Sink.seen c.args.out.now in
    let now = g.S.Sink.seen c.write_some.new.out in
    let t = c.in_err-done.ensures.took in
    handed_as c.from_residual.result _ (λ fault. (fault ≡ CannotWrite) × (writes_failed first now ≡ true)) c.from_residual.ensures.1
    (t.1, writes_failed_then first (g.S.Sink.seen c.loop.out) now (take c.loop.done c.args.text.now) c.loop.invariant.writes t.2)

pub returns-then-done-text-clause-ok : goal.returns-then-done-text-clause-ok
returns-then-done-text-clause-ok g c =
    on_ok c.flush.result (wrote_all _ _ _ c.args.text.now c.loop.done c.loop.counter c.loop.invariant c.flush.ensures.took (search rules))

pub returns-then-done-text-clause-cause : goal.returns-then-done-text-clause-cause
returns-then-done-text-clause-cause g c =
    let first = g.S.Sink.seen c.args.out.now in
    let now = g.S.Sink.seen c.flush.new.out in
    if_err_still c.flush.result (λ fault. (fault ≡ CannotWrite) × (writes_failed (g.S.Sink.seen c.loop.out) now ≡ true)) (λ fault. (fault ≡ CannotWrite) × (writes_failed first now ≡ true))
    (λ e h. (h.0, writes_failed_then first (g.S.Sink.seen c.loop.out) now (take c.loop.done c.args.text.now) c.loop.invariant.writes h.1)) c.flush.ensures.cause

pub returns-clause-cause : goal.returns-clause-cause
returns-clause-cause g c = (refl, some_failed _ _ c.args.text.now c.loop.done c.loop.counter c.loop.invariant (search rules))

pub returns-then-done-text-clause-flushed : goal.returns-then-done-text-clause-flushed
returns-then-done-text-clause-flushed g c = c.flush.ensures.flushed
