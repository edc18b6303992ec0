use Rattle.std.proofs.Common.{◌≡◌, ◌-◌, length, arith, ◌∙◌, rules}
use Rattle.mailtext.proofs.PartLemmas.{header_found, header_is_all}
use Rattle.mailtext.proofs.parts.header_end.Goals as goal

pub returns-then-i-start-eq1-clause-value : goal.returns-then-i-start-eq1-clause-value
returns-then-i-start-eq1-clause-value c =
    let l = c.loop-i in
    header_found c.args.octets.now l.i (l.i - l.start) c.requires c.loop-i-test.true c.if-octet-eq-LF.true c.if-i-start-eq1.true l.invariant.header

pub returns-clause-value : goal.returns-clause-value
returns-clause-value c =
    let l = c.loop-i in
    let all : length c.args.octets.now ≡ l.i = omega arith in
    all ∙ header_is_all c.args.octets.now l.i (l.i - l.start) c.requires c.loop-i-test.false l.invariant.header

pub returns-clause-within : goal.returns-clause-within
returns-clause-within c = search rules
