use Rattle.std.proofs.Common.{◌≡◌, ◌<◌, ◌≤◌, [], ℕ, length, take, Ok, Err, refl, subst, eq-eqb, arith}
use Rattle.std.proofs.lemmas.List.{length-take-le}
use Rattle.office.specs.Stands.{vault_of}
use Rattle.office.specs.Trace.{acts}
use Rattle.converse.specs.Streams.{Writes}
use Rattle.converse.specs.Talked.{trace_of}
use Rattle.converse.specs.declared.talk.TalkFault.TheVariants as fault
use Rattle.converse.proofs.Clauses.{paid, found_empty, refused_as}
use Rattle.converse.proofs.SoFar.{paid_none, paid_cut, paid_some, some_cut}
use Rattle.converse.proofs.Streaming.{writes_none, failed_none, handed_on, some_lent}
use Rattle.converse.proofs.talk.write_some.Goals as goal

pub returns-then-is_empty-clause-wrote : goal.returns-then-is_empty-clause-wrote
returns-then-is_empty-clause-wrote g c =
    let lent = c.owed-lent.result.now in
    let none = found_empty c.is_empty.result lent c.if-is_empty.true c.is_empty.ensures in (
      [],
      writes_none _,
      (λ e. absurd (cc)),
      paid_none g.V.Vault.is_clean (λ before T octets written L st h.
          paid before (g.V.Vault.faults (vault_of c.args.office.now)) T.base c.args.c (acts T) octets written L lent h (c.owed-lent.ensures.lent (trace_of T.base L) st) none),
    )

pub returns-in_default-clause-wrote : goal.returns-in_default-clause-wrote
returns-in_default-clause-wrote g c = some_cut g.V.Vault.is_clean [] (Err fault.Write) fault.Write refl c.in_default.ensures.taken.0 (paid_cut g.V.Vault.is_clean)

pub returns-in_err-had_memory-clause-wrote : goal.returns-in_err-had_memory-clause-wrote
returns-in_err-had_memory-clause-wrote g c =
    let r = c.from_residual in
    let f = c.in_err-had_memory.field-0.0 in
    let s = c.step.ensures in
    some_cut g.V.Vault.is_clean _ r.result f (refused_as r.result f r.ensures.1) c.in-Ok.ensures.taken.0
    (paid_some g.V.Vault.is_clean (Err f) c.in_err-had_memory.ensures.is (omega (arith, c.if-count-eq0.false))
    (omega (arith, c.in-Ok.ensures.bound)) c.owed-lent.ensures.lent c.owed-lent.ensures.count (eq-eqb c.args.c c.args.c refl)
    (record { stands = s.stands; outcome = s.outcome; cause = s.cause; counted = s.counted }))

pub returns-clause-wrote : goal.returns-clause-wrote
returns-clause-wrote g c =
    let n = c.in-Ok.count in
    let some : 0 < n = omega (arith, c.if-count-eq0.false) in
    let fits : n ≤ length c.owed-lent.result.now = omega (arith, c.in-Ok.ensures.bound) in
    let s = c.step.ensures in (
      take n c.owed-lent.result.now,
      c.in-Ok.ensures.taken.0,
      (λ q. omega (arith, some, length-take-le n c.owed-lent.result.now fits)),
      paid_some g.V.Vault.is_clean (Ok tt) c.in_ok-had_memory.ensures.is some fits c.owed-lent.ensures.lent c.owed-lent.ensures.count (eq-eqb c.args.c c.args.c refl)
          (record { stands = s.stands; outcome = s.outcome; cause = s.cause; counted = s.counted }),
    )

pub returns-then-count-eq0-clause-wrote : goal.returns-then-count-eq0-clause-wrote
returns-then-count-eq0-clause-wrote g c =
    let zero : c.in-Ok.count ≡ 0 = omega (arith, c.if-count-eq0.true) in
    some_cut g.V.Vault.is_clean [] (Err fault.Write) fault.Write refl
    (subst (λ (m : ℕ). Writes (g.W.Sink.seen c.args.writer.now) (g.W.Sink.seen c.write.new.self) (take m c.owed-lent.result.now)) zero c.in-Ok.ensures.taken.0) (paid_cut g.V.Vault.is_clean)

pub returns-in_default-clause-failed : goal.returns-in_default-clause-failed
returns-in_default-clause-failed g c = c.in_default.ensures.taken.1

pub returns-then-count-eq0-clause-failed : goal.returns-then-count-eq0-clause-failed
returns-then-count-eq0-clause-failed g c =
    c.in-Ok.ensures.taken.1 (omega (arith, c.if-count-eq0.true)) (some_lent c.is_empty.result c.owed-lent.result.now c.if-is_empty.false c.is_empty.ensures)

pub returns-in_err-had_memory-clause-failed : goal.returns-in_err-had_memory-clause-failed
returns-in_err-had_memory-clause-failed g c =
    handed_on _ _ c.from_residual.result c.in_err-had_memory.field-0.0 c.from_residual.ensures.1 (failed_none _ _ c.in_err-had_memory.field-0.0 c.in_err-had_memory.ensures.failed)
