use Rattle.std.proofs.Common.{refl}
use Rattle.vault.specs.Calls.{IsMaildropAdded}
use Rattle.office.specs.Answers.{AddMaildrop}
use Rattle.office.specs.Answers as answer
use Rattle.office.specs.Events.{Admin}
use Rattle.office.specs.VaultAnswers as by_vault
use Rattle.office.proofs.AfterEvents.{committed_after}
use Rattle.office.proofs.Stopping.{put_mark}
use Rattle.office.proofs.VaultCalls.{maildrop_added}
use Rattle.office.proofs.office.Office.add_maildrop.Goals as goal

pub returns : goal.returns
returns g c =
    let d = c.args.maildrop.now in
    rw c.added.ensures (committed_after g.V.Vault c.args.self.now _ (Admin (AddMaildrop d)) (by_vault.put answer.WasThere) (λ k Held r. IsMaildropAdded Held k d r)
    c.add_maildrop.result c.add_maildrop.ensures.commits c.add_maildrop.ensures.done (g.met.V.Vault.settled _)
    (λ After T st grown r did cause. maildrop_added After T st.keeps grown d c.name_has_form.ensures r did cause) refl refl (put_mark answer.WasThere) tt)
