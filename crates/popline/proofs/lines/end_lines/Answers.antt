-- The line of the dot.
use Rattle.std.proofs.Common.{rules, arith}
use Rattle.std.proofs.lemmas.Grind.{common_steps}
use Rattle.popline.proofs.lines.end_lines.Goals as goal

pub returns-clause-ok : goal.returns-clause-ok
returns-clause-ok c = search rules

pub returns-clause-scan : goal.returns-clause-scan
returns-clause-scan c = grind (arith, common_steps)

pub returns-clause-uids : goal.returns-clause-uids
returns-clause-uids c = grind (arith, common_steps)
