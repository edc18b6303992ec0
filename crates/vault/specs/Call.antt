-- What each call of a vault keeps, beside what it answers and leaves, in one word: a call that only
-- looks (`Looks`), and one that changes records once (`Commits`).
use Rattle.std.specs.Prelude.{ℕ, Result}
use Rattle.vault.specs.declared.fault.VaultFault.{VaultFault}
use Rattle.vault.specs.Changes.{Contents}
use Rattle.vault.specs.Calls.{CountsFaults}
use Rattle.vault.specs.Stops.{StaysUp, LeavesBefore, LeavesEither}

module _ {V : Type 0} (holds : V → Contents → Type 0) (faults : V → ℕ) (is_clean is_up : V → Type 0)
    (may_leave : V → Contents → Type 0) (old new : V) where
  -- Faults are counted, and the store doesn't become clean again. If it is clean, it holds what
  -- it held, it is up still after an answer of the call's own, and a stop leaves what is held.
  pub record Looks {A : Type 0} (answered : Result A VaultFault) : Type 0 where
    pub counted : CountsFaults (faults old) (faults new) answered
    pub clean : is_clean new → is_clean old
    pub held : (c : Contents) → is_clean new → holds old c → holds new c
    pub up : (c : Contents) → is_clean new → holds old c
        → StaysUp (is_up old) (is_up new) answered
    pub stop : (c : Contents) → is_clean new → is_up old → holds old c
        → LeavesBefore (may_leave new) c

  -- Faults are counted, and the store doesn't become clean again. If it is clean, it is up still
  -- after an answer of the call's own, and a stop leaves what was held, or what the call makes of
  -- it (`Done`).
  pub record Commits {A : Type 0}
      (Done : Contents → (Contents → Type 0) → Result A VaultFault → Type 0)
      (answered : Result A VaultFault) : Type 0 where
    pub counted : CountsFaults (faults old) (faults new) answered
    pub clean : is_clean new → is_clean old
    pub up : (c : Contents) → is_clean new → holds old c
        → StaysUp (is_up old) (is_up new) answered
    pub stop : (c : Contents) → is_clean new → is_up old → holds old c
        → LeavesEither (may_leave new) c (Done c)
