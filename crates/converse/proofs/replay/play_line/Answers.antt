use Rattle.std.proofs.Common.{◌≡◌, Some, None}
use Rattle.std.specs.Io.KnownBytes.{Appends}
use Rattle.office.specs.Seen.{outcome_seen}
use Rattle.office.specs.Stands.{vault_of}
use Rattle.converse.specs.Played.{Acts, Begun, ComesTo, WithCause, PlaysLine, point, told_text, still_known}
use Rattle.converse.specs.Script.{line_seen}
use Rattle.converse.proofs.Playing.{by_told, comes_kept, line_none, line_some}
use Rattle.converse.proofs.Stopping.{at_faults, at_ok, begun_acted, on_ok, reaches_by}
use Rattle.converse.proofs.replay.play_line.Goals as goal

pub returns-in-None-clause-played : goal.returns-in-None-clause-played
returns-in-None-clause-played g c = on_ok c.flush.result (λ T st clean.
    comes_kept g.V.Vault.holds c.act.new.office (g.W.Write.contents c.args.out.now) (g.W.Write.contents c.act.new.out) (g.W.Write.contents c.flush.new.out) _ c.flush.ensures.kept
    (line_none g.V.Vault.holds c.act.new.office T (g.V.Vault.faults (vault_of c.args.office.now)) (g.V.Vault.faults (vault_of c.act.new.office)) (line_seen c.args.line.now) _ _ c.args.known.now.items
    (by_told g.V.Vault.holds c.act.new.office T (g.V.Vault.faults (vault_of c.args.office.now)) (g.V.Vault.faults (vault_of c.act.new.office))
    (line_seen c.args.line.now) _ _ _ _ c.in-None.is (c.in_ok-outcome.ensures.acted T st clean))))

pub returns-in-Some-clause-played : goal.returns-in-Some-clause-played
returns-in-Some-clause-played g c =
    let line = line_seen c.args.line.now in
    let o = outcome_seen c.in-Some.outcome in
    let known = c.args.known.now.items in
    let x = c.act.new.office in
    let first = g.V.Vault.faults (vault_of c.args.office.now) in
    let now = g.V.Vault.faults (vault_of x) in
    let before = g.W.Write.contents c.args.out.now in
    let during = g.W.Write.contents c.act.new.out in
    let after = g.W.Write.contents c.tell_whole.new.out in
    let left = c.tell_whole.new.known.items in
    at_ok _ g.V.Vault.holds c.args.office.now x (g.V.Vault.is_clean (vault_of x))
    (λ T. Appends during after (told_text T known (Some o)))
    (λ T. left ≡ still_known T known (Some o))
    (λ T. ComesTo g.V.Vault.holds x before after (WithCause first now T (λ printed U. PlaysLine (point T known) line printed (point U left))))
    c.tell_whole.ensures.told c.tell_whole.ensures.kept
    (λ T st clean told kept.
    (let h = by_told g.V.Vault.holds x T first now line _ _ _ _ c.in-Some.is (c.in_ok-outcome.ensures.acted T st clean) in
    line_some g.V.Vault.holds x T first now line o before during after known left h (told h.trace h.stands) (kept h.trace h.stands)))

pub returns-in-Some-clause-broken : goal.returns-in-Some-clause-broken
returns-in-Some-clause-broken g c =
    let said = line_seen c.args.line.now in
    let o = Some (outcome_seen c.in-Some.outcome) in
    at_faults _ (λ T. Begun T said) (reaches_by (λ T. Begun T said) (λ T. Acts T said o) (λ T. begun_acted T said o)
    (λ T st clean. by_told _ _ T (g.V.Vault.faults (vault_of c.args.office.now)) (g.V.Vault.faults (vault_of c.act.new.office)) said _ _ _ _ c.in-Some.is (c.in_ok-outcome.ensures.acted T st clean)))

pub returns-in-None-clause-broken : goal.returns-in-None-clause-broken
returns-in-None-clause-broken g c =
    let line = line_seen c.args.line.now in
    at_faults _ (λ T. Begun T line) (reaches_by (λ T. Begun T line) (λ T. Acts T line None) (λ T. begun_acted T line None)
    (λ T st clean. by_told _ _ T (g.V.Vault.faults (vault_of c.args.office.now)) (g.V.Vault.faults (vault_of c.act.new.office)) line _ _ _ _ c.in-None.is (c.in_ok-outcome.ensures.acted T st clean)))

pub returns-in-None-clause-flushed : goal.returns-in-None-clause-flushed
returns-in-None-clause-flushed g c = c.flush.ensures.flushed

pub returns-in-Some-clause-flushed : goal.returns-in-Some-clause-flushed
returns-in-Some-clause-flushed g c = c.tell_whole.ensures.flushed
