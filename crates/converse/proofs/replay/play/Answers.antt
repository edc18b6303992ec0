use Rattle.std.proofs.Common.{arith, [], map, subst, take_all}
use Rattle.office.specs.Stands.{vault_of}
use Rattle.converse.specs.Played.{Plays, PlaysInPart, point}
use Rattle.converse.specs.Script.{line_seen}
use Rattle.converse.proofs.Playing.{played_more}
use Rattle.converse.proofs.Stopping.{at_faults, stopped_at}
use Rattle.converse.proofs.replay.play.Goals as goal

pub loop-line-preserved : goal.loop-line-preserved
loop-line-preserved g c =
    let x = c.play_line in record {
      played = λ T st clean.
          (let s = c.loop-line.invariant.played T st (x.ensures.clean clean) in
          played_more g.V.Vault.holds c.loop-line.office x.new.office
          (point T []) c.args.lines.now c.loop-line.line-index c.line-item.result c.loop-line-test.true c.line-item.is
          (g.V.Vault.faults (vault_of c.args.office.now)) (g.V.Vault.faults (vault_of c.loop-line.office))
          (g.V.Vault.faults (vault_of x.new.office)) c.loop-line.invariant.counted x.ensures.counted _ _ _ _ _ s
          (c.in_ok-play_line.ensures.played s.trace s.stands clean));
      counted = omega (arith, c.loop-line.invariant.counted, x.ensures.counted);
      clean = λ clean. c.loop-line.invariant.clean (x.ensures.clean clean);
    }

pub returns-clause-played : goal.returns-clause-played
returns-clause-played g c = λ T st clean.
    (let s = c.loop-line.invariant.played T st clean in
    let known = c.loop-line.known.items in
    record {
      printed = s.printed;
      trace = s.trace;
      appends = s.appends;
      stands = s.stands;
      is = (
        (known, subst (λ lines. Plays (point T []) (map line_seen lines) s.printed (point s.trace known)) (take_all c.loop-line.line-index c.args.lines.now c.loop-line-test.false) s.is.0),
        s.is.1,
      );
    })

pub returns-in_err-play_line-clause-broken : goal.returns-in_err-play_line-clause-broken
returns-in_err-play_line-clause-broken g c =
    let n = g.V.Vault.faults in
    let x = c.play_line in
    let mid = c.loop-line.office in
    at_faults _ (λ T. PlaysInPart (point T []) (map line_seen c.args.lines.now))
    (λ T st clean.
    (let s = c.loop-line.invariant.played T st (x.ensures.clean clean) in
    stopped_at g.V.Vault.holds mid x.new.office (point T []) c.args.lines.now c.loop-line.line-index c.line-item.result c.loop-line-test.true c.line-item.is
    (n (vault_of c.args.office.now)) (n (vault_of mid)) (n (vault_of x.new.office)) c.loop-line.invariant.counted x.ensures.counted _ _ _ s
    (c.in_err-play_line.ensures.broken s.trace s.stands clean)))
