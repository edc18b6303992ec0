use Rattle.std.proofs.Common.{◌≡◌, Some, not, inl, inr, sym, ap, refl, subst, nat_cmp}
use Rattle.std.specs.Map.{lookup}
use Rattle.std.specs.BTreeMap.{get, is_at}
use Rattle.office.specs.History.{Done}
use Rattle.office.specs.Kept.{Kept}
use Rattle.office.specs.Locks.{Released}
use Rattle.office.specs.Events.{Gone}
use Rattle.office.specs.Expected.{reason_if}
use Rattle.office.specs.Outcomes as outcome
use Rattle.office.proofs.Ending.{gone_ends, ended_stands}
use Rattle.office.proofs.AfterEvents.{closed_at, open_at, unasked_after, ignored_after}
use Rattle.office.proofs.office.Office.gone.Goals as goal

pub returns-in-None-clause-after : goal.returns-in-None-clause-after
returns-in-None-clause-after g c =
    rw c.ignored.ensures (ignored_after g.V.Vault c.args.self.now _ (Gone c.args.c) outcome.NoSuchConnection (g.met.V.Vault.settled _)
    (λ q. ap (λ es. lookup (is_at (nat_cmp q)) es) c.in-None.ensures.unchanged)
    (λ T st. ap (λ b. reason_if (not b) outcome.NoSuchConnection) (closed_at T c.args.c st (sym c.in-None.ensures.value))))

pub returns-in-Some-clause-after : goal.returns-in-Some-clause-after
returns-in-Some-clause-after g c =
    let k : Kept = c.in-Some.connection in
    let found : get nat_cmp c.args.self.now.connections c.args.c ≡ Some k = sym c.in-Some.ensures.value in
    rw c.ended.ensures (unasked_after g.V.Vault c.args.self.now _ (Gone c.args.c) outcome.Done (g.met.V.Vault.settled _) refl tt
    (λ T st clean. ended_stands g.V.Vault.holds c.args.self.now _ T _ _ c.args.c (gone_ends T c.args.c) st k found (λ k h. h) refl refl refl refl refl c.remove.ensures.updates
    (subst (λ m. Released m c.args.self.now.locks c.release.new.locks) c.maildrop.ensures c.release.ensures))
    (λ T st. let there = open_at T c.args.c st k found in record { tag = Done; may = refl; is = rw there refl }))

pub returns-in-None-clause-account : goal.returns-in-None-clause-account
returns-in-None-clause-account g c T = rw c.ignored.ensures refl

pub returns-in-Some-clause-account : goal.returns-in-Some-clause-account
returns-in-Some-clause-account g c T = rw c.ended.ensures refl

pub returns-in-None-clause-done : goal.returns-in-None-clause-done
returns-in-None-clause-done g c = rw c.ignored.ensures (inr refl)

pub returns-in-Some-clause-done : goal.returns-in-Some-clause-done
returns-in-Some-clause-done g c = rw c.ended.ensures (inl refl)
