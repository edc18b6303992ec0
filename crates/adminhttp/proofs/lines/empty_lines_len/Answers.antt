use Rattle.std.proofs.Common.{drop, sym, ◌∙◌, arith}
use Rattle.std.proofs.lemmas.List.{take_rest}
use Rattle.adminhttp.proofs.LineLemmas.{no_empty_lines, lines_passed, lines_end}
use Rattle.adminhttp.proofs.lines.empty_lines_len.Goals as goal

pub lines-preserved : goal.lines-preserved
lines-preserved c =
    let is = rw (take_rest c.args.octets.now c.lines.at) at c.empty_line_len-len.ensures.value in
    (omega arith, lines_passed c.args.octets.now c.lines.at c.empty_line_len-len.result is c.lines.invariant.1)

pub returns-after-lines-clause-value : goal.returns-after-lines-clause-value
returns-after-lines-clause-value c = sym (lines_end c.args.octets.now c.lines.at c.lines-test.false c.lines.invariant.1)

pub returns-then-len-eq0-clause-value : goal.returns-then-len-eq0-clause-value
returns-then-len-eq0-clause-value c =
    let is = rw (take_rest c.args.octets.now c.lines.at) at c.empty_line_len-len.ensures.value in
    let none = no_empty_lines (drop c.lines.at c.args.octets.now) (sym is ∙ c.if-len-eq0.true) in
    omega (arith, c.lines.invariant.1, none)
