use Rattle.std.proofs.Common.{◌≡◌, ◌≤◌, drop}
use Rattle.std.specs.Str.Parse.{digits_value, digits_value_after}
use Rattle.adminhttp.proofs.fields.read_digits.Given as goal

-- the number so far, and the digits still to come
abbrev pub invariant-loop-digit : goal.invariant-loop-digit
invariant-loop-digit l =
    (l.length ≤ 1048576) × (digits_value 10 l.digits ≡ digits_value_after 10 l.length (drop l.digit-index l.digits))
