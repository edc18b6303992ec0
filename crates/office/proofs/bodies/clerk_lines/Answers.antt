use Rattle.std.proofs.Common.{arith, ap, take_all, ◌∙◌}
use Rattle.std.proofs.lemmas.Grind.{common_steps}
use Rattle.office.specs.Answers.{body_lines, clerk_text}
use Rattle.office.proofs.bodies.clerk_lines.Goals as goal

pub loop-row-preserved : goal.loop-row-preserved
loop-row-preserved c = grind (arith, common_steps)

pub returns : goal.returns
returns c = c.loop-row.invariant ∙ ap (λ rows. body_lines clerk_text rows) (take_all c.loop-row.row-index c.args.rows.now c.loop-row-test.false)
