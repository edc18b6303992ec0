-- A store that is opened again after a stop holds what the stop left.
use Rattle.sqlite.specs.State.{State, Opens}
use Rattle.vault.specs.Changes.{Contents}
use Rattle.mailsql.specs.Rows.{IsKept}
use Rattle.sqlvault.specs.Stands.{Holds}
use Rattle.sqlvault.specs.Stops.{MayHold}

-- The connection was just opened. It found our tables, with what a stop of the store might leave.
pub record FindsLeft (stopped first : State) : Type 0 where
  pub opened : Opens first
  pub tables : IsKept first.now
  pub left : stopped.may_leave first.committed.trees

-- the store now holds contents that the stop might leave
abbrev pub HoldsLeft : (stopped now : State) → Type 0
HoldsLeft stopped now = (left : Contents) × MayHold stopped left × Holds now left

-- there are contents that the stop can't leave
abbrev pub RulesOut : State → Type 0
RulesOut stopped = (never : Contents) × (MayHold stopped never → ⊥)
