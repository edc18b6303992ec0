use Rattle.std.proofs.Common.{refl}
use Rattle.office.specs.Answers.{ShowClerk}
use Rattle.office.specs.Events.{Admin}
use Rattle.office.specs.VaultAnswers as by_vault
use Rattle.office.proofs.AfterEvents.{looked_after}
use Rattle.office.proofs.Stopping.{own}
use Rattle.office.proofs.VaultCalls.{clerk_shown}
use Rattle.office.proofs.office.Office.show_clerk.Goals as goal

pub returns : goal.returns
returns g c =
    rw c.credential_told.ensures (looked_after g.V.Vault c.args.self.now _ (Admin (ShowClerk c.args.clerk.now)) _ tt c.credential.ensures.looks
    (own by_vault.credential_told c.credential.result refl refl)
    (g.met.V.Vault.settled _) (λ T st clean. clerk_shown _ T st.keeps _ c.args.clerk.now c.credential.result
    (c.credential.ensures.done st.keeps.contents st.keeps.held clean) c.credential.ensures.looks.counted.cause))
