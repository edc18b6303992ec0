use Rattle.std.proofs.Common.{◌≡◌, length, arith, ◌∙◌}
use Rattle.mailtext.proofs.PartLemmas.{lines_found, lines_are_all}
use Rattle.mailtext.proofs.parts.lines_end.Goals as goal

pub returns-then-left-eq0-clause-value : goal.returns-then-left-eq0-clause-value
returns-then-left-eq0-clause-value c =
    let l = c.loop-i in
    lines_found c.args.body.now l.i c.args.n c.requires (rw c.if-left-eq0.true at l.invariant)

pub returns-clause-value : goal.returns-clause-value
returns-clause-value c =
    let l = c.loop-i in
    let all : length c.args.body.now ≡ l.i = omega arith in
    all ∙ lines_are_all c.args.body.now l.i l.left c.args.n c.requires c.loop-i-test.false l.invariant
