use Rattle.std.proofs.Common.{refl}
use Rattle.vault.specs.Calls.{IsClerkPut}
use Rattle.office.specs.Answers.{PutClerk}
use Rattle.office.specs.Answers as answer
use Rattle.office.specs.Events.{Admin}
use Rattle.office.specs.VaultAnswers as by_vault
use Rattle.office.proofs.AfterEvents.{committed_after}
use Rattle.office.proofs.Stopping.{put_mark}
use Rattle.office.proofs.VaultCalls.{clerk_put}
use Rattle.office.proofs.office.Office.put_clerk.Goals as goal

pub returns : goal.returns
returns g c =
    let name = c.args.clerk.now in
    let new = c.args.credential.now in
    rw c.clerk_put.ensures (committed_after g.V.Vault c.args.self.now _ (Admin (PutClerk name new)) (by_vault.put answer.Replaced) (λ k Held r. IsClerkPut Held k name new r)
    c.put_clerk-put.result c.put_clerk-put.ensures.commits c.put_clerk-put.ensures.done (g.met.V.Vault.settled _)
    (λ After T st grown r did cause. clerk_put After T st.keeps grown name new c.name_has_form.ensures c.credential_has_form.ensures r did cause) refl refl (put_mark answer.Replaced) tt)
