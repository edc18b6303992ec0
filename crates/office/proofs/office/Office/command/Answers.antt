use Rattle.std.proofs.Common.{◌∙◌, sym}
use Rattle.office.proofs.Accounts.{command_told}
use Rattle.office.proofs.office.Office.command.Goals as goal

pub returns-clause-account : goal.returns-clause-account
returns-clause-account g c T st clean =
    c.ended_by-account.ensures ∙ sym (command_told T _ _ _ (c.administer-outcome.ensures.each T st clean).outcome)
