-- The headers that give the length of a request's body (RFC 9112, 6).
use Rattle.std.specs.Prelude.{ℕ, ◌&&◌, nat_le, nat_lt, Bool, List, [], ◌∷◌, codes, length, map, filter, Result, Ok, Err, if◌then◌else◌}
use Rattle.std.specs.List.{list_all, list_any}
use Rattle.std.specs.Char.{to_ascii_lowercase, is_ascii_digit}
use Rattle.std.specs.Str.{bytes_eq}
use Rattle.std.specs.Str.Parse.{digits_value}
use Rattle.adminhttp.specs.Steps.{◌>>=◌}
use Rattle.adminhttp.specs.declared.no_command.NoCommand.{NoCommand}
use Rattle.adminhttp.specs.declared.no_command.NoCommand.TheVariants.{Bad}
use Rattle.adminhttp.specs.declared.refusal.Refusal.TheVariants.{BadRequest, LengthRequired, TooLarge}

-- a header: its name, and its value without the spaces and tabs around it
abbrev pub Header : Type 0
Header = List ℕ × List ℕ

-- the header has this name, in letters of either case
abbrev pub is_named : (word : List ℕ) → Header → Bool
is_named word header = bytes_eq (map to_ascii_lowercase header.0) word

-- the values of the headers of this name
abbrev pub values_of : (word : List ℕ) → List Header → List (List ℕ)
values_of word headers = map (λ h. h.1) (filter (is_named word) headers)

-- the only value; without one the length is missing, and more than one are a bad request
abbrev pub only : List (List ℕ) → Result (List ℕ) NoCommand
only [] = Err (Bad LengthRequired)
only (value ∷ []) = Ok value
only (value ∷ second ∷ more) = Err (Bad BadRequest)

-- the value of Content-Length; with a Transfer-Encoding the length isn't known
abbrev pub length_text : List Header → Result (List ℕ) NoCommand
length_text headers =
    if list_any (is_named (codes "transfer-encoding")) headers then Err (Bad LengthRequired)
    else only (values_of (codes "content-length") headers)

-- a body has at most so many octets
abbrev pub most_in_body : ℕ
most_in_body = 1048576

-- the number that digits alone write
abbrev pub length_of : List ℕ → Result ℕ NoCommand
length_of value =
    if nat_lt 0 (length value) && list_all is_ascii_digit value
    then (if nat_le (digits_value 10 value) most_in_body then Ok (digits_value 10 value) else Err (Bad TooLarge))
    else Err (Bad BadRequest)

-- the length of the body that follows a head of these headers
unfoldable pub body_length : List Header → Result ℕ NoCommand
body_length headers = length_text headers >>= length_of
