use Rattle.std.proofs.Common.{◌≡◌, length, ap, arith, rules}
use Rattle.std.proofs.lemmas.Bool.Decides.{nat_tests}
use Rattle.mailtext.specs.Written.{written}
use Rattle.mailtext.proofs.Writing.{written-empty}
use Rattle.mailtext.proofs.lines.written_len.Goals as goal

pub returns : goal.returns
returns c =
    let l = c.loop-rest in
    let none : length l.rest.now ≡ 0 = search (rules, nat_tests) in
    let whole : l.len ≡ length (written c.args.dots c.args.text.now) = omega (arith, l.invariant.octets, ap length (written-empty c.args.dots l.rest.now none)) in
    (rw whole at l.invariant.fits, whole)
