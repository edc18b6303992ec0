use Rattle.std.proofs.Common.{◌≡◌, ◌≢◌, ◌<◌, ◌-◌, length, get_or, sym, ◌∙◌, arith, ne_eqb}
use Rattle.popline.proofs.Words.{trimmed-front, trimmed-whole}
use Rattle.popline.proofs.arguments.without_trailing_spaces.Goals as goal

pub loop-rest-preserved : goal.loop-rest-preserved
loop-rest-preserved c =
    let rest = c.loop-rest.rest.now in
    let some : 0 < length rest = omega arith in
    let last : get_or rest (length rest - 1) 0 ≡ 32 = omega arith in
    trimmed-front rest some last ∙ c.loop-rest.invariant

pub returns-in_default-2 : goal.returns-in_default-2
returns-in_default-2 c =
    let rest = c.loop-rest.rest.now in
    let some : 0 < length rest = omega arith in
    let last : get_or rest (length rest - 1) 0 ≢ 32 = omega arith in
    sym (trimmed-whole rest some (ne_eqb (get_or rest (length rest - 1) 0) 32 last)) ∙ c.loop-rest.invariant
