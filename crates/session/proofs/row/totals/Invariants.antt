use Rattle.std.proofs.Common.{◌≡◌, ◌≤◌, ◌-◌, ◌^◌, take, min}
use Rattle.std.specs.Prelude.{not, count_by, sum_by}
use Rattle.session.specs.declared.row.Row.{Row}
use Rattle.session.specs.Rows.{octets_unless_marked}
use Rattle.session.proofs.row.totals.Given as goal

abbrev pub invariant-loop-row : goal.invariant-loop-row
invariant-loop-row l = record {
  few : l.messages ≤ l.row-index;
  messages : l.messages ≡ count_by (λ (row : Row). not row.is_marked) (take l.row-index l.rows);
  octets : l.octets ≡ min (sum_by octets_unless_marked (take l.row-index l.rows)) (2 ^ 64 - 1);
}
