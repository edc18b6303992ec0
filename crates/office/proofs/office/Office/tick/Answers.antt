use Rattle.std.proofs.Common.{◌≡◌, ◌∙◌, ap, refl, max, nat_cmp, rules}
use Rattle.std.specs.BTreeMap.{get}
use Rattle.office.specs.History.{Done}
use Rattle.office.specs.Idle.{unless_idle}
use Rattle.office.specs.Events.{Tick}
use Rattle.office.specs.Outcomes as outcome
use Rattle.office.proofs.Ticking.{tick_stands}
use Rattle.office.proofs.AfterEvents.{unasked_after}
use Rattle.office.proofs.office.Office.tick.Goals as goal

pub returns-clause-after : goal.returns-clause-after
returns-clause-after g c =
    let o = c.args.self.now in
    let later : c.max-self.result ≡ max o.moment c.args.now = search rules in
    unasked_after g.V.Vault o _ (Tick c.args.now) outcome.Done (g.met.V.Vault.settled _) refl tt
    (λ T st clean. tick_stands g.V.Vault.holds o _ T c.args.now st
    (λ q. c.end_idle.ensures q ∙ (ap (λ m. unless_idle m c.idle.result (get nat_cmp o.connections q)) later
    ∙ ap (λ s. unless_idle (max o.moment c.args.now) s (get nat_cmp o.connections q)) c.idle.ensures))
    (λ k h. h) refl refl refl refl (ap (λ m. (o.opened, m)) later) c.release_ended.ensures)
    (λ T st. record { tag = Done; may = refl; is = refl })
