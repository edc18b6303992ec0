use Rattle.std.proofs.Common.{◌≡◌, ◌∙◌, ap, inr, subst, List, ℕ}
use Rattle.converse.specs.Causes.{IsPolicyEnd}
use Rattle.converse.specs.PolicyFile.{IsFaultOf}
use Rattle.converse.specs.Streams.{Writes, WritesPart, writes_failed}
use Rattle.converse.specs.Told.{count_line}
use Rattle.converse.proofs.Policies.{ended_unwritten, ended_writing}
use Rattle.converse.proofs.TextWriting.{handed_as}
use Rattle.converse.proofs.check_policy.tell_count.Goals as goal

-- the line that is printed
counted_line : (text line : List ℕ) (n m : ℕ) → text ≡ line → line ≡ count_line n → n ≡ m → text ≡ count_line m
counted_line text line n m lent told is = lent ∙ told ∙ ap count_line is

pub returns-in_err-read_octets-clause-cause : goal.returns-in_err-read_octets-clause-cause
returns-in_err-read_octets-clause-cause g c =
    let written = writes_failed (g.W.Sink.seen c.args.out.now) (g.W.Sink.seen c.args.out.now) in
    let Is = IsFaultOf c.args.octets.now in
    handed_as c.from_residual.result _ (IsPolicyEnd Is written) c.from_residual.ensures.1 (ended_unwritten Is Is written (λ e is. is) _ c.in_err-read_octets.ensures.cause)

pub returns-in_err-write_text-clause-faulty : goal.returns-in_err-write_text-clause-faulty
returns-in_err-write_text-clause-faulty g c = λ none. absurd (none _ c.in_ok-read_octets.ensures.ok)

pub returns-in_err-write_text-clause-part : goal.returns-in_err-write_text-clause-part
returns-in_err-write_text-clause-part g c = inr (
  _,
  c.in_ok-read_octets.ensures.ok,
  subst (λ (text : List ℕ). WritesPart (g.W.Sink.seen c.args.out.now) (g.W.Sink.seen c.write_text.new.out) text)
      (counted_line _ _ _ _ c.as_bytes.ensures.value c.in_ok-line.ensures c.len-count.ensures.value) c.in_err-write_text.ensures.part,
)

pub returns-in_err-write_text-clause-cause : goal.returns-in_err-write_text-clause-cause
returns-in_err-write_text-clause-cause g c =
    let written = writes_failed (g.W.Sink.seen c.args.out.now) (g.W.Sink.seen c.write_text.new.out) in
    let Is = IsFaultOf c.args.octets.now in
    handed_as c.from_residual-in_err-write_text.result _ (IsPolicyEnd Is written) c.from_residual-in_err-write_text.ensures.1
    (ended_writing Is written _ c.in_err-write_text.ensures.cause.0 c.in_err-write_text.ensures.cause.1)

pub returns-clause-faulty : goal.returns-clause-faulty
returns-clause-faulty g c = λ none. absurd (none _ c.in_ok-read_octets.ensures.ok)

pub returns-clause-part : goal.returns-clause-part
returns-clause-part g c = inr (
  _,
  c.in_ok-read_octets.ensures.ok,
  subst (λ (text : List ℕ). WritesPart (g.W.Sink.seen c.args.out.now) (g.W.Sink.seen c.write_text.new.out) text)
      (counted_line _ _ _ _ c.as_bytes.ensures.value c.in_ok-line.ensures c.len-count.ensures.value) c.in_ok-write_text.ensures.part,
)

pub returns-clause-ok : goal.returns-clause-ok
returns-clause-ok g c = (
  _,
  c.in_ok-read_octets.ensures.ok,
  subst (λ (text : List ℕ). Writes (g.W.Sink.seen c.args.out.now) (g.W.Sink.seen c.write_text.new.out) text)
      (counted_line _ _ _ _ c.as_bytes.ensures.value c.in_ok-line.ensures c.len-count.ensures.value) c.in_ok-write_text.ensures.ok,
)

pub returns-clause-flushed : goal.returns-clause-flushed
returns-clause-flushed g c = c.in_ok-write_text.ensures.flushed
