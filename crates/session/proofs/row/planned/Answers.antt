use Rattle.std.proofs.Common.{◌≡◌, ◌+◌, ◌∷◌, ◌++◌, [], List, sym, ◌∙◌, ap, subst, take}
use Rattle.std.proofs.lemmas.List.{take_more, take_all}
use Rattle.session.specs.declared.row.Row.{Row}
use Rattle.session.specs.Rows.{login_of, Plans}
use Rattle.session.proofs.row.planned.Goals as goal

pub loop-row-init : goal.loop-row-init
loop-row-init c = record {
  marked = c.new-plan.ensures.marked ∙ c.marked_count.ensures;
  plans = c.new-plan.ensures.plans c.args.lane.now.policy (login_of c.args.lane.now);
}

pub loop-row-preserved : goal.loop-row-preserved
loop-row-preserved c =
    let i = c.loop-row.row-index in
    let rows = c.args.rows.now in
    let row = c.row-item.result in
    let more : take (i + 1) rows ≡ take i rows ++ row ∷ [] = take_more rows i row c.loop-row-test.true ∙ ap (λ (r : Row). take i rows ++ r ∷ []) (sym c.row-item.is) in
    record {
      marked = c.in_ok-add.ensures.marked ∙ c.loop-row.invariant.marked;
      plans = subst (λ (rows : List Row). Plans c.args.lane.now.policy (login_of c.args.lane.now) rows c.add.new.self) (sym more) (c.in_ok-add.ensures.plans (take i rows) c.loop-row.invariant.plans);
    }

pub returns-clause-plans : goal.returns-clause-plans
returns-clause-plans c =
    subst (λ (rows : List Row). Plans c.args.lane.now.policy (login_of c.args.lane.now) rows c.loop-row.plan) (take_all c.loop-row.row-index c.args.rows.now c.loop-row-test.false)
    c.loop-row.invariant.plans
