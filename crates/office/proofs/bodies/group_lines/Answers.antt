use Rattle.std.proofs.Common.{arith, ap, take_all, ◌∙◌}
use Rattle.std.proofs.lemmas.Grind.{common_steps}
use Rattle.office.specs.Answers.{body_lines, group_line}
use Rattle.office.proofs.bodies.group_lines.Goals as goal

pub loop-group-preserved : goal.loop-group-preserved
loop-group-preserved c = grind (arith, common_steps)

pub returns : goal.returns
returns c = c.loop-group.invariant ∙ ap (λ rows. body_lines group_line rows) (take_all c.loop-group.group-index c.args.groups.now c.loop-group-test.false)
