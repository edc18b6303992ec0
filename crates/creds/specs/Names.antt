-- Names, deposit ids, secrets and host names, as texts. A mailbox is named by the arguments of USER and APOP
-- (RFC 1939, 7); the forms here are this server's own choice, and a host's is narrower than RFC 1123, 2.1.
use Rattle.std.specs.Prelude.{ℕ, Bool, true, false, not, ◌&&◌, ◌||◌, ◌==◌, nat_le, nat_lt, List, [], ◌∷◌, length, Option, Some, None, if◌then◌else◌, slice_index, ◌-◌}
use Rattle.std.specs.List.{list_all, slice_split}

-- `0` to `9`
abbrev pub is_digit : ℕ → Bool
is_digit b = nat_le 48 b && nat_le b 57

-- `a` to `z`
abbrev pub is_small_letter : ℕ → Bool
is_small_letter b = nat_le 97 b && nat_le b 122

-- `A` to `Z`
abbrev pub is_capital : ℕ → Bool
is_capital b = nat_le 65 b && nat_le b 90

-- an octet of a name: `a-z`, `0-9`, `-`
abbrev pub is_name_octet : ℕ → Bool
is_name_octet b = is_small_letter b || is_digit b || b == 45

-- an octet of a deposit id: `a-z`, `A-Z`, `0-9`, `-`, `_`
abbrev pub is_id_octet : ℕ → Bool
is_id_octet b = is_small_letter b || is_capital b || is_digit b || b == 45 || b == 95

-- an octet of a secret: printable ASCII
abbrev pub is_printable : ℕ → Bool
is_printable b = nat_le 32 b && nat_le b 126

-- an octet of a host name: `a-z`, `0-9`, `.`, `-`
abbrev pub is_host_octet : ℕ → Bool
is_host_octet b = is_small_letter b || is_digit b || b == 46 || b == 45

-- the text has from `least` to `most` octets
abbrev pub has_length : ℕ → ℕ → List ℕ → Bool
has_length least most text = nat_le least (length text) && nat_le (length text) most

-- a name of a clerk, a maildrop or a rule, or a class
abbrev pub is_name : List ℕ → Bool
is_name text = has_length 1 32 text && list_all is_name_octet text

-- the id under which a deposit acts once
abbrev pub is_deposit_id : List ℕ → Bool
is_deposit_id text = has_length 1 64 text && list_all is_id_octet text

-- a secret or a password that a clerk is given
abbrev pub is_secret : List ℕ → Bool
is_secret text = has_length 1 128 text && list_all is_printable text

-- a part of a host's name between its dots
abbrev pub is_host_part : List ℕ → Bool
is_host_part part = nat_lt 0 (length part) && not (slice_index part 0 == 45) && not (slice_index part (length part - 1) == 45)

-- a host's name
abbrev pub is_host : List ℕ → Bool
is_host text = has_length 1 64 text && list_all is_host_octet text && list_all is_host_part (slice_split (λ b. b == 46) text)

-- the text, if it has the form
abbrev pub text_if : Bool → List ℕ → Option (List ℕ)
text_if has_form text = if has_form then Some text else None

-- the name that a text is
abbrev pub name_of : List ℕ → Option (List ℕ)
name_of text = text_if (is_name text) text

-- the deposit id that a text is
abbrev pub deposit_id_of : List ℕ → Option (List ℕ)
deposit_id_of text = text_if (is_deposit_id text) text

-- the secret that a text is
abbrev pub secret_of : List ℕ → Option (List ℕ)
secret_of text = text_if (is_secret text) text

-- the host name that a text is
abbrev pub host_of : List ℕ → Option (List ℕ)
host_of text = text_if (is_host text) text

-- the first text comes before the second, in the order of their octets
abbrev pub comes_before : List ℕ → List ℕ → Bool
comes_before [] [] = false
comes_before [] (y ∷ ys) = true
comes_before (x ∷ xs) [] = false
comes_before (x ∷ xs) (y ∷ ys) = if x == y then comes_before xs ys else nat_lt x y

-- the names with one more, put in its place
abbrev pub put_by_name : List ℕ → List (List ℕ) → List (List ℕ)
put_by_name name [] = name ∷ []
put_by_name name (x ∷ xs) = if comes_before x name then x ∷ put_by_name name xs else name ∷ x ∷ xs

-- names in the order of their octets
abbrev pub by_name : List (List ℕ) → List (List ℕ)
by_name [] = []
by_name (name ∷ names) = put_by_name name (by_name names)
