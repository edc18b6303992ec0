use Rattle.std.proofs.Common.{ap, ◌∙◌}
use Rattle.office.specs.Events.{Limits}
use Rattle.office.proofs.office.Office.admin_access.Goals as goal

pub returns : goal.returns
returns g c = λ T st. c.access.ensures ∙ ap (λ (l : Limits). l.access) st.limits
