use Rattle.std.proofs.Common.{◌≡◌, List, ◌∙◌, ap, subst}
use Rattle.std.specs.Prelude.{count_by}
use Rattle.creds.specs.declared.login_name.LoginName.{LoginName}
use Rattle.policy.specs.Policy.{Policy}
use Rattle.session.specs.declared.quit_plan.QuitPlan.{QuitPlan}
use Rattle.policy.specs.Lane.{Lane}
use Rattle.session.specs.declared.row.Row.{Row}
use Rattle.session.specs.Session.{Session, IsPlan}
use Rattle.session.specs.Rows.{login_of, Plans}
use Rattle.session.proofs.RowLemmas.{plan-rows}
use Rattle.session.proofs.session.Session.plan_quit.Goals as goal

-- what is planned in a lane is planned for the clerk and the maildrop
in_lane : (lane : Lane) (policy : Policy) (name : LoginName) (rows : List Row) (plan : QuitPlan) → lane ≡ record { policy = policy; clerk = name.clerk; maildrop = name.maildrop }
    → Plans lane.policy (login_of lane) rows plan → Plans policy name rows plan
in_lane lane policy name rows plan e plans = subst (λ (l : Lane). Plans l.policy (login_of l) rows plan) e plans

pub returns : goal.returns
returns c =
    let s = c.self.inside in
    let p = c.args.policy.now in
    let plan = c.in_ok-plan.plan in
    let counted = c.in_ok-plan.ensures.marked ∙ ap (λ (rows : List Row). count_by (λ (row : Row). row.is_marked) rows) c.deref.ensures.value in
    let here = subst (λ (rows : List Row). Plans c.lane-lane.result.policy (login_of c.lane-lane.result) rows plan) c.deref.ensures.value c.in_ok-plan.ensures.plans in
    subst (λ (session : Session). IsPlan p session plan) c.self.view_is
    (plan-rows p s.name s.removals s.rows.items plan counted (in_lane c.lane-lane.result p s.name s.rows.items plan c.lane-lane.ensures here))
