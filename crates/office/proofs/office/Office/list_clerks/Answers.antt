use Rattle.std.proofs.Common.{refl}
use Rattle.vault.specs.Calls.{seen_as}
use Rattle.office.specs.Answers.{ListClerks}
use Rattle.office.specs.Events.{Admin}
use Rattle.office.specs.VaultAnswers as by_vault
use Rattle.office.proofs.AfterEvents.{looked_after}
use Rattle.office.proofs.Stopping.{own}
use Rattle.office.proofs.VaultCalls.{clerks_listed, store_seen}
use Rattle.office.proofs.office.Office.list_clerks.Goals as goal

pub returns : goal.returns
returns g c =
    rw c.clerks_listed.ensures (looked_after g.V.Vault c.args.self.now _ (Admin ListClerks) _ tt c.clerks.ensures.looks
    (own (λ r. by_vault.clerks_listed (seen_as r (λ v. v.items))) c.clerks.result refl refl)
    (g.met.V.Vault.settled _) (λ T st clean. clerks_listed _ T st.keeps _ _ (c.clerks.ensures.done st.keeps.contents st.keeps.held clean)
    (λ e. c.clerks.ensures.looks.counted.cause (store_seen _ _ e))))
