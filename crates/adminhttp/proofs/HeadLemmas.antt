-- The octets of a head and after it.
use Rattle.std.proofs.Common.{ℕ, ◌≤◌, List, length, take, arith}
use Rattle.std.proofs.lemmas.List.{length-take}

pub length_take_le : (n : ℕ) (xs : List ℕ) → length (take n xs) ≤ length xs
length_take_le n xs = rw length-take (omega arith)
