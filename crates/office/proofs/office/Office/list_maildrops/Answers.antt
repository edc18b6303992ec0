use Rattle.std.proofs.Common.{refl}
use Rattle.vault.specs.Calls.{seen_as}
use Rattle.office.specs.Answers.{ListMaildrops}
use Rattle.office.specs.Events.{Admin}
use Rattle.office.specs.VaultAnswers as by_vault
use Rattle.office.proofs.AfterEvents.{looked_after}
use Rattle.office.proofs.Stopping.{own}
use Rattle.office.proofs.VaultCalls.{maildrops_listed, store_seen}
use Rattle.office.proofs.office.Office.list_maildrops.Goals as goal

pub returns : goal.returns
returns g c =
    rw c.listed.ensures (looked_after g.V.Vault c.args.self.now _ (Admin ListMaildrops) _ tt c.maildrops.ensures.looks
    (own (λ r. by_vault.listed (seen_as r (λ v. v.items))) c.maildrops.result refl refl)
    (g.met.V.Vault.settled _) (λ T st clean. maildrops_listed _ T st.keeps _ _ (c.maildrops.ensures.done st.keeps.contents st.keeps.held clean)
    (λ e. c.maildrops.ensures.looks.counted.cause (store_seen _ _ e))))
