use Rattle.std.proofs.Common.{ap, refl, sym, ◌∙◌}
use Rattle.office.specs.Events.{Bytes, Deposit}
use Rattle.office.specs.Stands.{vault_of}
use Rattle.converse.specs.Script.{Does, line_seen}
use Rattle.converse.proofs.Playing.{does_one, of_line}
use Rattle.converse.proofs.Stopping.{line_broken}
use Rattle.converse.proofs.replay.act.Goals as goal

pub returns-in-Connect-clause-acted : goal.returns-in-Connect-clause-acted
returns-in-Connect-clause-acted g c =
    let s = c.step in
    does_one (g.V.Vault.faults (vault_of c.args.office.now)) (g.V.Vault.faults (vault_of s.new.self)) _ (ap line_seen c.in-Connect.is) (λ T. refl) s.ensures.stands s.ensures.outcome s.ensures.cause

pub returns-in-Bytes-clause-acted : goal.returns-in-Bytes-clause-acted
returns-in-Bytes-clause-acted g c =
    let s = c.step-in-Bytes in
    does_one (g.V.Vault.faults (vault_of c.args.office.now)) (g.V.Vault.faults (vault_of s.new.self)) _
    (ap line_seen c.in-Bytes.is ∙ ap (λ piece. Does (Bytes c.in-Bytes.number piece)) (sym c.as_slice.ensures.value)) (λ T. refl) s.ensures.stands s.ensures.outcome s.ensures.cause

pub returns-in_ok-take-in-Took-clause-acted : goal.returns-in_ok-take-in-Took-clause-acted
returns-in_ok-take-in-Took-clause-acted g c = λ T st clean.
    of_line g.V.Vault.holds c.take.new.office T (g.V.Vault.faults (vault_of c.args.office.now))
    (g.V.Vault.faults (vault_of c.take.new.office)) _ _ _ _ _ (ap line_seen c.in-Took.is) (c.in_ok-take-in-Took.ensures.taken T st clean)

pub returns-in_ok-drain-in-Drain-clause-acted : goal.returns-in_ok-drain-in-Drain-clause-acted
returns-in_ok-drain-in-Drain-clause-acted g c = λ T st clean.
    of_line g.V.Vault.holds c.drain.new.office T (g.V.Vault.faults (vault_of c.args.office.now))
    (g.V.Vault.faults (vault_of c.drain.new.office)) _ _ _ _ _ (ap line_seen c.in-Drain.is) (c.in_ok-drain-in-Drain.ensures.drained T st clean)

pub returns-in-Gone-clause-acted : goal.returns-in-Gone-clause-acted
returns-in-Gone-clause-acted g c =
    let s = c.step-in-Gone in
    does_one (g.V.Vault.faults (vault_of c.args.office.now)) (g.V.Vault.faults (vault_of s.new.self)) _ (ap line_seen c.in-Gone.is) (λ T. refl) s.ensures.stands s.ensures.outcome s.ensures.cause

pub returns-in-Tick-clause-acted : goal.returns-in-Tick-clause-acted
returns-in-Tick-clause-acted g c =
    let s = c.step-in-Tick in
    does_one (g.V.Vault.faults (vault_of c.args.office.now)) (g.V.Vault.faults (vault_of s.new.self)) _ (ap line_seen c.in-Tick.is) (λ T. refl) s.ensures.stands s.ensures.outcome s.ensures.cause

pub returns-in-Restart-clause-acted : goal.returns-in-Restart-clause-acted
returns-in-Restart-clause-acted g c =
    let s = c.step-in-Restart in
    does_one (g.V.Vault.faults (vault_of c.args.office.now)) (g.V.Vault.faults (vault_of s.new.self)) _ (ap line_seen c.in-Restart.is) (λ T. refl) s.ensures.stands s.ensures.outcome s.ensures.cause

pub returns-in-Deposit-clause-acted : goal.returns-in-Deposit-clause-acted
returns-in-Deposit-clause-acted g c =
    let s = c.step-in-Deposit in
    does_one (g.V.Vault.faults (vault_of c.args.office.now)) (g.V.Vault.faults (vault_of s.new.self)) _
    (ap line_seen c.in-Deposit.is ∙ ap (λ text. Does (Deposit c.in-Deposit.maildrop c.in-Deposit.class c.in-Deposit.id text)) (sym c.as_slice-in-Deposit.ensures.value))
    (λ T. refl) s.ensures.stands s.ensures.outcome s.ensures.cause

pub returns-in-Admin-clause-acted : goal.returns-in-Admin-clause-acted
returns-in-Admin-clause-acted g c =
    let s = c.step-in-Admin in
    does_one (g.V.Vault.faults (vault_of c.args.office.now)) (g.V.Vault.faults (vault_of s.new.self)) _ (ap line_seen c.in-Admin.is) (λ T. refl) s.ensures.stands s.ensures.outcome s.ensures.cause

pub returns-in_err-take-in-Took-clause-broken : goal.returns-in_err-take-in-Took-clause-broken
returns-in_err-take-in-Took-clause-broken g c = line_broken _ (ap line_seen c.in-Took.is) c.in_err-take-in-Took.ensures.broken

pub returns-in_err-drain-in-Drain-clause-broken : goal.returns-in_err-drain-in-Drain-clause-broken
returns-in_err-drain-in-Drain-clause-broken g c = line_broken _ (ap line_seen c.in-Drain.is) c.in_err-drain-in-Drain.ensures.broken
