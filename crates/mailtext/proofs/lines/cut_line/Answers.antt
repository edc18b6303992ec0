use Rattle.std.proofs.Common.{◌+◌}
use Rattle.std.proofs.lemmas.List.{take_rest}
use Rattle.mailtext.proofs.Writing.{lines_of-cut, lines_of-whole}
use Rattle.mailtext.proofs.lines.cut_line.Goals as goal

pub returns-in-Some-clause-lines : goal.returns-in-Some-clause-lines
returns-in-Some-clause-lines c =
    let text = c.args.text.now in
    let end = c.in-Some.end in
    let found = c.in-Some.ensures in
    rw (c.without_return.ensures, take_rest text (end + 1)) (lines_of-cut text end found.0.high found.0.before found.1)

pub returns-in-None-clause-lines : goal.returns-in-None-clause-lines
returns-in-None-clause-lines c = lines_of-whole c.args.text.now c.requires c.in-None.ensures
