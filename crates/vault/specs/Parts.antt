-- What a part of the work over a vault keeps of it, in one word: the part only looks. Two such
-- parts compose by `looks_then` of proofs/CallLemmas.
use Rattle.std.specs.Prelude.{◌≤◌}
use Rattle.vault.specs.declared.vault.Vault.{Ghosts}
use Rattle.vault.specs.Changes.{Contents}
use Rattle.vault.specs.Stops.{LeavesBefore}

-- The count of faults doesn't fall, and the store doesn't become clean again. If it is clean, it
-- holds what it held, it is up still if the part ended as `Own` says, and a stop leaves what is
-- held.
pub record OnlyLooks {V : Type 0} (vault : Ghosts V) (old new : V) (Own : Type 0) : Type 0 where
  pub counted : vault.faults old ≤ vault.faults new
  pub clean : vault.is_clean new → vault.is_clean old
  pub held : (c : Contents) → vault.holds old c → vault.is_clean new → vault.holds new c
  pub up : (c : Contents) → vault.holds old c → vault.is_clean new → vault.is_up old → Own
      → vault.is_up new
  pub stop : (c : Contents) → vault.holds old c → vault.is_clean new → vault.is_up old
      → LeavesBefore (vault.may_leave new) c
