use Rattle.std.proofs.Common.{refl, ⊎_elim}
use Rattle.vault.specs.Calls.{seen_as}
use Rattle.office.specs.Answers.{ShowMaildrop}
use Rattle.office.specs.Events.{Admin}
use Rattle.office.specs.VaultAnswers as by_vault
use Rattle.office.proofs.AfterEvents.{looked_after}
use Rattle.office.proofs.Stopping.{own}
use Rattle.office.proofs.VaultCalls.{maildrop_shown, maildrop_show_lacked, store_seen}
use Rattle.office.proofs.office.Office.show_maildrop.Goals as goal

pub returns : goal.returns
returns g c =
    let d = c.args.maildrop.now in
    ⊎_elim
    (λ e. rw e (looked_after g.V.Vault c.args.self.now _ (Admin (ShowMaildrop d)) _ tt c.heads.ensures.looks
    (own (λ r. by_vault.maildrop_shown (seen_as r (λ v. v.items))) c.heads.result refl refl) (g.met.V.Vault.settled _)
    (λ T st clean. maildrop_shown _ T st.keeps _ d _ (c.heads.ensures.done st.keeps.contents st.keeps.held clean) (λ x. c.heads.ensures.looks.counted.cause (store_seen _ _ x)))))
    (λ e. rw e (looked_after g.V.Vault c.args.self.now _ (Admin (ShowMaildrop d)) _ tt c.heads.ensures.looks (λ answered. absurd answered) (g.met.V.Vault.settled _)
    (λ T st clean. maildrop_show_lacked _ T st.keeps _ d _ (c.heads.ensures.done st.keeps.contents st.keeps.held clean))))
    c.maildrop_shown.ensures
