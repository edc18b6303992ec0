use Rattle.std.proofs.Common.{◌∙◌, sym, refl, Ok, Err, length}
use Rattle.vault.specs.Calls.{IsPolicySet}
use Rattle.office.specs.Answers.{SetPolicy}
use Rattle.office.specs.Events.{Admin}
use Rattle.office.specs.Outcomes as outcome
use Rattle.office.specs.VaultAnswers as by_vault
use Rattle.office.proofs.AfterEvents.{unchanged_after, ruled_after}
use Rattle.office.proofs.PolicyCommands.{policy_set, policy_set_lacked, refused_rules, set_rules}
use Rattle.vault.specs.declared.fault.VaultFault.TheVariants as fault
use Rattle.office.proofs.office.Office.set_policy.Goals as goal

pub returns-in_default : goal.returns-in_default
returns-in_default g c =
    let p = c.args.policy.now in
    unchanged_after g.V.Vault c.args.self.now (Admin (SetPolicy p)) outcome.NoMemory tt (g.met.V.Vault.settled _) (λ T st. policy_set_lacked _ T st.keeps _ p c.len-rules.ensures.sound st.keeps.held)
    (λ T st t m. st.policy ∙ sym (refused_rules T p fault.NoMemory t m))

pub returns-in-Ok-set_policy : goal.returns-in-Ok-set_policy
returns-in-Ok-set_policy g c =
    let p = c.args.policy.now in
    rw c.len-rules.ensures.value (ruled_after g.V.Vault c.args.self.now _ (Admin (SetPolicy p)) (by_vault.policy_set (length p.rules)) (λ k Held r. IsPolicySet Held k p r)
    (Ok tt) c.in-Ok-set_policy.ensures.commits c.in-Ok-set_policy.ensures.done (g.met.V.Vault.settled _)
    (λ After T st grown r did cause. policy_set After T st.keeps grown p c.len-rules.ensures.sound r did cause) refl refl (λ x. refl) _ tt
    (λ T st t m. c.in-Ok.ensures.ok ∙ set_rules T p t m))

pub returns-in-Err : goal.returns-in-Err
returns-in-Err g c =
    let p = c.args.policy.now in
    rw c.refused.ensures (ruled_after g.V.Vault c.args.self.now _ (Admin (SetPolicy p)) (by_vault.policy_set (length p.rules)) (λ k Held r. IsPolicySet Held k p r)
    (Err c.in-Err.fault) c.in-Err.ensures.commits c.in-Err.ensures.done (g.met.V.Vault.settled _)
    (λ After T st grown r did cause. policy_set After T st.keeps grown p c.len-rules.ensures.sound r did cause) refl refl (λ x. refl) _ tt
    (λ T st t m. st.policy ∙ sym (refused_rules T p c.in-Err.fault t m)))
