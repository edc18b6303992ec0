-- Numbers as an administrator writes them: in a script, and in the path of a request.
use Rattle.std.specs.Prelude.{ℕ, ◌^◌, ◌&&◌, nat_le, nat_lt, Bool, List, length, Option, Some, None}
use Rattle.std.specs.Prelude.{if◌then◌else◌}
use Rattle.std.specs.List.{list_all}
use Rattle.std.specs.Char.{is_digit}
use Rattle.std.specs.Str.Parse.{digits_value}

-- 1 to 20 decimal digits of a number below 2^64
abbrev pub is_number : List ℕ → Bool
is_number field = nat_lt 0 (length field) && list_all (λ b. is_digit b 10) field && nat_le
    (length field) 20 && nat_lt (digits_value 10 field) (2 ^ 64)

-- the number that they write
abbrev pub number_of : List ℕ → Option ℕ
number_of field = if is_number field then Some (digits_value 10 field) else None
