use Rattle.std.proofs.Common.{refl}
use Rattle.vault.specs.Calls.{IsClerkDropped}
use Rattle.office.specs.Answers.{DropClerk}
use Rattle.office.specs.Events.{Admin}
use Rattle.office.specs.VaultAnswers as by_vault
use Rattle.office.proofs.AfterEvents.{committed_after}
use Rattle.office.proofs.VaultCalls.{clerk_dropped}
use Rattle.office.proofs.office.Office.drop_clerk.Goals as goal

pub returns : goal.returns
returns g c =
    let name = c.args.clerk.now in
    rw c.clerk_dropped.ensures (committed_after g.V.Vault c.args.self.now _ (Admin (DropClerk name)) by_vault.clerk_dropped (λ k Held r. IsClerkDropped Held k name r)
    c.drop_clerk.result c.drop_clerk.ensures.commits c.drop_clerk.ensures.done (g.met.V.Vault.settled _)
    (λ After T st grown r did cause. clerk_dropped After T st.keeps grown name r did cause) refl refl (λ x. refl) tt)
