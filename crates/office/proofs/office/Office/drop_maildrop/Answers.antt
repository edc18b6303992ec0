use Rattle.std.proofs.Common.{sym, ◌∙◌, refl}
use Rattle.vault.specs.Calls.{IsMaildropDropped}
use Rattle.office.specs.Answers.{DropMaildrop}
use Rattle.office.specs.Events.{Admin}
use Rattle.office.specs.VaultAnswers as by_vault
use Rattle.office.proofs.AfterEvents.{answered_after, committed_after}
use Rattle.office.proofs.VaultCalls.{maildrop_dropped, maildrop_in_use, not_held, held_by}
use Rattle.office.proofs.office.Office.drop_maildrop.Goals as goal

pub returns-then-contains_key : goal.returns-then-contains_key
returns-then-contains_key g c =
    let d = c.args.maildrop.now in
    let held = held_by _ _ c.contains_key.ensures c.if-contains_key.true in
    answered_after g.V.Vault c.args.self.now (Admin (DropMaildrop d)) _ tt (g.met.V.Vault.settled _) (λ T st. maildrop_in_use T st.keeps _ d held.0 (sym (st.locks d) ∙ held.1))

pub returns : goal.returns
returns g c =
    let d = c.args.maildrop.now in
    let free = not_held _ _ c.contains_key.ensures c.if-contains_key.false in
    rw c.maildrop_dropped.ensures (committed_after g.V.Vault c.args.self.now _ (Admin (DropMaildrop d)) by_vault.maildrop_dropped (λ k Held r. IsMaildropDropped Held k d r)
    c.drop_maildrop.result c.drop_maildrop.ensures.commits c.drop_maildrop.ensures.done (g.met.V.Vault.settled _)
    (λ After T st grown r did cause. maildrop_dropped After T st.keeps grown d (sym (st.locks d) ∙ free) r did cause) refl refl (λ x. refl) tt)
