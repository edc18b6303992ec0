-- The numbers that the rows of deposits have, and those that the rows of counts ask for.
use Rattle.std.specs.Prelude.{◌≡◌, ◌+◌, ◌==◌, ◌&&◌, ◌||◌, ℕ, ℤ, pos, negsuc, Bool, false, nat_lt, nat_le, List, length, map, sum_by, Option, Some, None}
use Rattle.std.specs.declared.cmp.Ordering.{Ordering}
use Rattle.std.specs.Ordering.{nat_cmp, is_eq, ordering_then}
use Rattle.std.specs.Cmp.Lexicographic.{slice_cmp}
use Rattle.std.specs.List.{list_any, list_all, range_with_len}
use Rattle.std.specs.BTreeSet.{BTreeSet, contains}
use Rattle.creds.specs.Names.{is_name, is_deposit_id}
use Rattle.vault.specs.Records.{most_deposits}
use Rattle.mailsql.specs.declared.rows.Count.{Count}
use Rattle.mailsql.specs.declared.rows.Deposit.{Deposit}
use Rattle.mailsql.specs.Columns.{Name}

-- a number, in a class of a maildrop's name
abbrev pub Number : Type 0
Number = Name × Name × ℕ

-- their order
abbrev pub number_cmp : Number → Number → Ordering
number_cmp x y = ordering_then (ordering_then (slice_cmp nat_cmp x.0 y.0) (slice_cmp nat_cmp x.1 y.1)) (nat_cmp x.2 y.2)

-- the number is among these
abbrev pub has_number : List Number → Number → Bool
has_number ns q = list_any (λ (x : Number). is_eq (number_cmp x q)) ns

-- the set has just these numbers
abbrev pub IsSetOf : List Number → BTreeSet Number → Type 0
IsSetOf ns s = (q : Number) → contains number_cmp s q ≡ has_number ns q

-- the number of a row as a natural; 0 if it is negative
abbrev pub natural : ℤ → ℕ
natural (pos n) = n
natural (negsuc n) = 0

-- the number of a row as a natural; `None` if it is negative
abbrev pub natural_of : ℤ → Option ℕ
natural_of (pos n) = Some n
natural_of (negsuc n) = None

-- the number of a deposit's row
abbrev pub number_of : Deposit → Number
number_of d = (d.maildrop, d.class, natural d.k)

-- the row's names, id and digest have their forms, and its number is 1 or more
abbrev pub is_deposit_row : Deposit → Bool
is_deposit_row d = is_name d.maildrop && is_deposit_id d.id && is_name d.class && nat_lt 0 (natural d.k) && length d.digest == 32

-- the number is one of 0 to the greatest number of deposits
abbrev pub is_within : ℤ → Bool
is_within (pos n) = nat_le n most_deposits
is_within (negsuc n) = false

-- the numbers 1 to n of a class
abbrev pub numbers_to : Name → Name → ℕ → List Number
numbers_to d class n = map {B = Number} (λ (k : ℕ). (d, class, k + 1)) (range_with_len 0 n)

-- the numbers 1 to n of a class are all among these
abbrev pub has_all : List Number → Name → Name → ℕ → Bool
has_all ns d class n = list_all (has_number ns) (numbers_to d class n)

-- the count is in its range, and the numbers 1 to it of its class are all among these
abbrev pub is_filled : List Number → Count → Bool
is_filled ns c = is_within c.k && (natural c.k == 0 || (is_name c.maildrop && is_name c.class && has_all ns c.maildrop c.class (natural c.k)))

-- how many numbers a count asks for
abbrev pub asked : Count → ℕ
asked c = natural c.k

-- each row is a deposit's, and their numbers are just those that the counts ask for
abbrev pub are_sound_rows : List Deposit → List Count → Bool
are_sound_rows ds cs = list_all is_deposit_row ds && (list_all (is_filled (map number_of ds)) cs && sum_by asked cs == length ds)
