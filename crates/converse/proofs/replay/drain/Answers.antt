use Rattle.std.proofs.Common.{◌≡◌, ◌<◌, [], ◌++◌, codes, length, refl, subst}
use Rattle.std.specs.Fmt.{decimal}
use Rattle.std.proofs.KnownBytes.{Appends-nil}
use Rattle.office.specs.Seen.{outcome_seen}
use Rattle.office.specs.Stands.{vault_of}
use Rattle.office.specs.Trace.{rest}
use Rattle.converse.proofs.Clauses.{found_empty, nothing_lent}
use Rattle.converse.specs.Played.{lent_at, Begun, TakesAll}
use Rattle.converse.specs.Script.{Drains}
use Rattle.converse.proofs.Stopping.{begun_taken, reaches_by}
use Rattle.converse.proofs.Playing.{caused_none, owed_whole, drains_all, appends_three}
use Rattle.converse.proofs.Streaming.{some_lent}
use Rattle.converse.proofs.replay.drain.Goals as goal

pub returns-then-is_empty-clause-drained : goal.returns-then-is_empty-clause-drained
returns-then-is_empty-clause-drained g c =
    let n = c.args.number in
    let lent = c.owed.result.now in λ T st clean. record {
      printed = [];
      trace = T;
      appends = Appends-nil _;
      stands = st;
      is = (
        (
          [],
          record { are = tt; last = refl; behind = refl },
          nothing_lent (rest T n) lent (c.owed.ensures.lent T st) (found_empty c.is_empty.result lent c.if-is_empty.true c.is_empty.ensures),
          refl,
        ),
        caused_none (g.V.Vault.faults (vault_of c.args.office.now)) (g.V.Vault.faults (vault_of c.args.office.now)) T,
      );
    }

pub returns-in-Ok-writeln-clause-drained : goal.returns-in-Ok-writeln-clause-drained
returns-in-Ok-writeln-clause-drained g c =
    let lent = c.owed.result.now in λ T st clean.
    (let s = c.in_ok-outcome.ensures.taken T st clean in
    let whole : lent ≡ lent_at T c.args.number = owed_whole g.V.Vault.holds c.args.office.now T st c.args.number lent (c.owed.ensures.lent T st) c.owed.ensures.count in
    let some : 0 < length lent = some_lent c.is_empty.result lent c.if-is_empty.false c.is_empty.ensures in
    record {
      printed = codes "sent " ++ decimal c.args.number ++ codes " " ++ s.printed ++ codes "\n";
      trace = s.trace;
      appends = appends_three _ _ _ _ _ s.printed _ _ c.in-Ok.ensures.bytes s.appends c.in-Ok-writeln.ensures.bytes refl;
      stands = s.stands;
      is = (drains_all T c.args.number (outcome_seen c.in_ok-outcome.outcome) s.printed s.trace s.is.0 (subst (λ r. 0 < length r) whole some), s.is.1);
    })

pub returns-in-Err-clause-broken : goal.returns-in-Err-clause-broken
returns-in-Err-clause-broken g c =
    let o = outcome_seen c.in_ok-outcome.outcome in
    reaches_by (λ T. Begun T (Drains c.args.number)) (λ T. TakesAll T c.args.number o) (λ T. begun_taken T c.args.number o) c.in_ok-outcome.ensures.taken
