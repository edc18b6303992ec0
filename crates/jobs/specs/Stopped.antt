-- What an opening finds after a stop, whatever tables it finds.
use Rattle.std.specs.Prelude.{Bool, IsTrue}
use Rattle.sqlite.specs.Effect.{IsDatabase}
use Rattle.sqlite.specs.State.{State, Opens}
use Rattle.sqlvault.specs.Carries.{IsOlder, LeavesEither}

-- The connection was just opened, and found what a stop might leave.
pub record FindsWhole (stopped first : State) : Type 0 where
  pub opened : Opens first
  pub left : stopped.may_leave first.committed.trees

-- The connection `old`, which was open, had an older store, and no transaction was under way. It was
-- stopped while that was carried over: `stopped` may leave the old store, or the new one.
pub record StopsCarrying (old stopped : State) : Type 0 where
  pub carried : Bool
  pub older : IsOlder carried old
  pub was_open : IsTrue old.is_open
  pub listed : IsDatabase old.committed
  pub left : LeavesEither old stopped
