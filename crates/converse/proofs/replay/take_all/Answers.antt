use Rattle.std.proofs.Common.{arith, ◌≡◌, ◌++◌, [], length}
use Rattle.std.proofs.KnownBytes.{Appends-nil, Appends-trans}
use Rattle.office.specs.Events.{Took}
use Rattle.office.specs.Seen.{outcome_seen, followed_by}
use Rattle.office.specs.Stands.{vault_of}
use Rattle.office.specs.Trace.{rest}
use Rattle.converse.specs.Escapes.{escaped}
use Rattle.converse.proofs.Clauses.{found_empty, nothing_lent}
use Rattle.converse.specs.Played.{lent_at, Begun}
use Rattle.converse.specs.Script.{Drains}
use Rattle.converse.proofs.Playing.{TakesSoFar, by_owed, caused_none, caused_one, caused_more, owed_whole, takes_none, takes_lent}
use Rattle.converse.proofs.Streaming.{some_lent}
use Rattle.converse.proofs.Stopping.{begun_taking, reaches_by}
use Rattle.converse.proofs.replay.take_all.Goals as goal

pub loop-init : goal.loop-init
loop-init g c = record {
  taken = λ T st clean. record {
    printed = [];
    trace = T;
    appends = Appends-nil _;
    stands = st;
    is =
        (takes_none T c.args.number, caused_none (g.V.Vault.faults (vault_of c.args.office.now)) (g.V.Vault.faults (vault_of c.args.office.now)) T);
  };
  counted = omega (arith);
  clean = λ clean. clean;
}

pub loop-preserved : goal.loop-preserved
loop-preserved g c =
    let lent = c.owed-owed.result.now in
    let e = Took c.args.number (length lent) in
    let x = c.step-outcome in record {
      taken = λ T st clean.
          (let s = c.loop.invariant.taken T st (x.ensures.clean clean) in
          let whole : lent ≡ lent_at s.trace c.args.number =
          owed_whole g.V.Vault.holds c.loop.office s.trace s.stands c.args.number lent (c.owed-owed.ensures.lent s.trace s.stands) c.owed-owed.ensures.count in
          record {
            printed = s.printed ++ escaped lent;
            trace = followed_by s.trace e x.result;
            appends = Appends-trans _ _ _ s.printed (escaped lent) s.appends c.in-Ok.ensures.told;
            stands = x.ensures.stands s.trace s.stands clean;
            is = (
              takes_lent T c.args.number (outcome_seen c.loop.outcome) (outcome_seen x.result) s.printed s.trace lent whole s.is.0
                  (some_lent c.is_empty.result lent c.if-is_empty.false c.is_empty.ensures)
                  (by_owed g.V.Vault.holds c.loop.office s.trace s.stands e (outcome_seen x.result) (x.ensures.outcome s.trace s.stands clean)),
              caused_more (g.V.Vault.faults (vault_of c.args.office.now)) (g.V.Vault.faults (vault_of c.loop.office))
                  (g.V.Vault.faults (vault_of x.new.self)) T s.trace (followed_by s.trace e x.result) c.loop.invariant.counted x.ensures.counted s.is.1
                  (caused_one (g.V.Vault.faults (vault_of c.loop.office)) (g.V.Vault.faults (vault_of x.new.self)) s.trace e (outcome_seen x.result) (x.ensures.cause s.trace s.stands clean)),
            );
          });
      counted = omega (arith, c.loop.invariant.counted, x.ensures.counted);
      clean = λ clean. c.loop.invariant.clean (x.ensures.clean clean);
    }

pub returns-then-is_empty-clause-taken : goal.returns-then-is_empty-clause-taken
returns-then-is_empty-clause-taken g c =
    let n = c.args.number in
    let lent = c.owed-owed.result.now in λ T st clean.
    (let s = c.loop.invariant.taken T st clean in
    record {
      printed = s.printed;
      trace = s.trace;
      appends = s.appends;
      stands = s.stands;
      is = (
        (s.is.0.0, s.is.0.1, nothing_lent (rest s.trace n) lent (c.owed-owed.ensures.lent s.trace s.stands) (found_empty c.is_empty.result lent c.if-is_empty.true c.is_empty.ensures), s.is.0.2),
        s.is.1,
      );
    })

pub returns-in_default-clause-broken : goal.returns-in_default-clause-broken
returns-in_default-clause-broken g c =
    let o = outcome_seen c.loop.outcome in
    reaches_by (λ T. Begun T (Drains c.args.number)) (λ T. TakesSoFar T c.args.number o) (λ T. begun_taking T c.args.number o) c.loop.invariant.taken

pub returns-clause-broken : goal.returns-clause-broken
returns-clause-broken g c =
    reaches_by (λ T. Begun T (Drains c.args.number)) (λ T. TakesSoFar T c.args.number (outcome_seen c.loop.outcome)) (λ T. begun_taking T _ _) c.loop.invariant.taken
