use Rattle.std.proofs.Common.{arith, ap, map, take_all, ◌∙◌}
use Rattle.std.proofs.lemmas.Grind.{common_steps}
use Rattle.office.specs.Answers.{body_lines, session_text}
use Rattle.office.specs.Seen.{session_seen}
use Rattle.office.proofs.bodies.session_lines.Goals as goal

pub loop-row-preserved : goal.loop-row-preserved
loop-row-preserved c = grind (arith, common_steps)

pub returns : goal.returns
returns c = c.loop-row.invariant ∙ ap (λ rows. body_lines session_text (map session_seen rows)) (take_all c.loop-row.row-index c.args.rows.now c.loop-row-test.false)
