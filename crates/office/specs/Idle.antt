-- What is left of the connections and their locks after a tick.
use Rattle.std.specs.Prelude.{ℕ, Bool, ◌+◌, nat_le, Option, None, Some, is_some, if◌then◌else◌}
use Rattle.std.specs.Ordering.{nat_cmp}
use Rattle.std.specs.BTreeMap.{BTreeMap, get}
use Rattle.office.specs.Kept.{Kept}

-- a connection has done nothing for so many seconds at this moment
abbrev pub is_idle : (moment seconds : ℕ) → Kept → Bool
is_idle moment seconds k = nat_le (k.clock + seconds) moment

-- what is kept of a connection after the tick: nothing, if it was idle
abbrev pub unless_idle : (moment seconds : ℕ) → Option Kept → Option Kept
unless_idle moment seconds None = None
unless_idle moment seconds (Some k) = if is_idle moment seconds k then None else Some k

-- a lock after the tick: let go if the connection that held it is ended
abbrev pub lock_of_kept : BTreeMap ℕ Kept → Option ℕ → Option ℕ
lock_of_kept connections None = None
lock_of_kept connections (Some c) = if is_some (get nat_cmp connections c) then Some c else None
