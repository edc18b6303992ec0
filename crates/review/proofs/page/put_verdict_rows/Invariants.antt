use Rattle.std.proofs.Common.{◌≡◌, ◌++◌, take}
use Rattle.std.specs.List.{flat_map}
use Rattle.review.specs.Page.{verdict_row}
use Rattle.review.proofs.page.put_verdict_rows.Given as goal

abbrev pub invariant-loop-verdict : goal.invariant-loop-verdict
invariant-loop-verdict l = l.out.items ≡ l.initial.out.items ++ flat_map verdict_row (take l.verdict-index l.verdicts)
