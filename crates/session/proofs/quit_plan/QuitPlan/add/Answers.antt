use Rattle.std.proofs.Common.{refl, rules}
use Rattle.std.proofs.lemmas.Bool.{not-true, not-false}
use Rattle.session.specs.Rows.{login_of}
use Rattle.session.proofs.RowLemmas.{plans_unmarked, plans_denied, plans_allowed}
use Rattle.session.proofs.quit_plan.QuitPlan.add.Goals as goal

pub returns-then-not-row-clause-plans : goal.returns-then-not-row-clause-plans
returns-then-not-row-clause-plans c = λ rows so.
    plans_unmarked c.args.lane.now.policy (login_of c.args.lane.now) rows c.args.row.now c.args.self.now c.if-not-row.true so

pub returns-then-not-decision-clause-plans : goal.returns-then-not-decision-clause-plans
returns-then-not-decision-clause-plans c = λ rows so.
    plans_denied c.args.lane.now.policy (login_of c.args.lane.now) rows c.args.row.now c.args.self.now _ c.removal-decision.result c.removal-decision.ensures
    c.if-not-row.false (not-true c.removal-decision.result.allowed c.if-not-decision.true) (search rules) (search rules) (search rules) so

pub returns-clause-plans : goal.returns-clause-plans
returns-clause-plans c = λ rows so.
    plans_allowed c.args.lane.now.policy (login_of c.args.lane.now) rows c.args.row.now c.args.self.now _ c.removal-decision.result c.removal-decision.ensures
    c.if-not-row.false (not-false c.removal-decision.result.allowed c.if-not-decision.false) c.in_ok-push.ensures.items c.in_ok-push-2.ensures refl so
