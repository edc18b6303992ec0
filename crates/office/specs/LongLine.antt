-- A line that is too long.
use Rattle.std.specs.Prelude.{Bool, true, false}
use Rattle.popline.specs.Cutting.{Cut, TooLong}
use Rattle.popline.specs.Cutting as cutting

-- more octets came than a line may have
abbrev pub is_too_long : Cut → Bool
is_too_long (cutting.Line l) = false
is_too_long TooLong = true
