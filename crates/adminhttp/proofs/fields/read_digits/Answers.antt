use Rattle.std.proofs.Common.{◌*◌, refl, arith}
use Rattle.adminhttp.proofs.FieldLemmas.{too_many, digit_at}
use Rattle.adminhttp.proofs.fields.read_digits.Goals as goal

pub returns-then-length-gt-MAX_BODY : goal.returns-then-length-gt-MAX_BODY
returns-then-length-gt-MAX_BODY c =
    let digit = digit_at c.args.digits.now c.loop-digit.digit-index c.loop-digit-test.true c.requires in
    let over = too_many c.args.digits.now c.loop-digit.digit-index c.loop-digit.length 1048576 c.loop-digit-test.true c.loop-digit.invariant.1
    (omega (arith, digit, c.if-length-gt-MAX_BODY.true)) in
    rw over refl
