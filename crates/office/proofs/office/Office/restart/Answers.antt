use Rattle.std.proofs.Common.{◌<◌, ap, refl, nat_cmp, rules}
use Rattle.std.specs.Map.{lookup}
use Rattle.std.specs.BTreeMap.{is_at}
use Rattle.office.specs.History.{Done}
use Rattle.office.specs.Answered.{name_cmp}
use Rattle.office.specs.Events.{Restart}
use Rattle.office.specs.Outcomes as outcome
use Rattle.office.proofs.Restarting.{restart_stands, boot_formed}
use Rattle.office.proofs.AfterEvents.{unasked_after}
use Rattle.office.proofs.office.Office.restart.Goals as goal

pub returns-clause-after : goal.returns-clause-after
returns-clause-after g c =
    let boot : c.args.boot < 18446744073709551616 = search rules in
    unasked_after g.V.Vault c.args.self.now _ (Restart c.args.boot) outcome.Done (g.met.V.Vault.settled _) refl tt
    (λ T st clean. restart_stands g.V.Vault.holds c.args.self.now _ T c.args.boot st (boot_formed T c.args.boot boot) (λ k h. h) refl refl refl refl refl
    (λ q. ap (λ es. lookup (is_at (nat_cmp q)) es) c.clear.ensures.empty) (λ d. ap (λ es. lookup (is_at (name_cmp d)) es) c.clear-2.ensures.empty))
    (λ T st. record { tag = Done; may = refl; is = refl })
