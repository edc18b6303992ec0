use Rattle.std.proofs.Common.{sym, ◌∙◌, arith}
use Rattle.std.proofs.lemmas.List.{take_rest}
use Rattle.adminhttp.proofs.LineLemmas.{counting_zero, head_stop, head_next, head_none}
use Rattle.adminhttp.proofs.lines.head_len.Goals as goal

pub loop-i-init : goal.loop-i-init
loop-i-init c = sym (counting_zero _)

pub returns-then-len-gt0-clause-value : goal.returns-then-len-gt0-clause-value
returns-then-len-gt0-clause-value c =
    sym (c.loop-i.invariant ∙ head_stop c.loop-i.fresh c.args.octets.now c.loop-i.i c.end_len-len.result (omega arith)
    (rw (take_rest c.args.octets.now c.loop-i.i) at c.end_len-len.ensures.value) (omega arith))

pub loop-i-preserved : goal.loop-i-preserved
loop-i-preserved c =
    c.loop-i.invariant ∙ head_next c.loop-i.fresh c.args.octets.now c.loop-i.i c.end_len-len.result (omega arith)
    (rw (take_rest c.args.octets.now c.loop-i.i) at c.end_len-len.ensures.value) (omega arith)

pub returns-clause-value : goal.returns-clause-value
returns-clause-value c = sym (c.loop-i.invariant ∙ head_none c.loop-i.fresh c.args.octets.now c.loop-i.i (omega arith))
