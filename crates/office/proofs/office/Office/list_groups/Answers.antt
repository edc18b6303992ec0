use Rattle.std.proofs.Common.{◌∙◌}
use Rattle.office.specs.Answers.{ListGroups}
use Rattle.office.specs.Events.{Admin}
use Rattle.office.proofs.AfterEvents.{answered_after}
use Rattle.office.proofs.PolicyCommands.{groups_listed, groups_lacked}
use Rattle.office.proofs.office.Office.list_groups.Goals as goal

pub returns-in-Ok : goal.returns-in-Ok
returns-in-Ok g c = answered_after g.V.Vault c.args.self.now (Admin ListGroups) _ tt (g.met.V.Vault.settled _) (λ T st. groups_listed T st.keeps _ c.in-Ok.policy (c.in-Ok.ensures.ok ∙ st.policy))

pub returns-in-Err : goal.returns-in-Err
returns-in-Err g c = answered_after g.V.Vault c.args.self.now (Admin ListGroups) _ tt (g.met.V.Vault.settled _) (λ T st. groups_lacked T st.keeps _)
