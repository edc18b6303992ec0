use Rattle.std.proofs.Common.{◌≡◌, take}
use Rattle.std.specs.Prelude.{count_by}
use Rattle.session.specs.declared.row.Row.{Row}
use Rattle.session.specs.Rows.{login_of, Plans}
use Rattle.session.proofs.row.planned.Given as goal

abbrev pub invariant-loop-row : goal.invariant-loop-row
invariant-loop-row l = record {
  marked : l.plan.marked ≡ count_by (λ (row : Row). row.is_marked) l.rows;
  plans : Plans l.lane.policy (login_of l.lane) (take l.row-index l.rows) l.plan;
}
