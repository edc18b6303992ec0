-- What an event makes of an office, in one word.
use Rattle.std.specs.Prelude.{◌≤◌}
use Rattle.vault.specs.declared.vault.Vault.{Ghosts}
use Rattle.office.specs.Events.{Event, Trace, given}
use Rattle.office.specs.Expected.{IsOutcome}
use Rattle.office.specs.Outcomes.{Outcome, event_tag_of, HasCause}
use Rattle.office.specs.Stands.{StandsFor, OfEachTrace, lent_by, vault_of}
use Rattle.office.specs.Stopping.{StaysUpUnless, StopLeaves}
use Rattle.office.specs.declared.office.Office.{Office}

-- An office that stood for a trace stands for the trace with this event. The outcome is one that
-- the event may have there. It is Failed only if the store's count of faults grew. A device that
-- was up is up still, unless the outcome is Failed or NoMemory. A stop leaves what the trace says,
-- or what it says with the event, as the outcome says.
pub record StandsAfter {V : Type 0} (vault : Ghosts V) (old new : Office V) (e : Event)
    (o : Outcome) (T : Trace) : Type 0 where
  pub stands : StandsFor vault.holds new (given T e (event_tag_of o))
  pub outcome : IsOutcome T (lent_by old) e o
  pub cause : HasCause (vault.faults (vault_of old)) (vault.faults (vault_of new)) o
  pub up : StaysUpUnless (vault.is_up (vault_of old)) (vault.is_up (vault_of new)) o
  pub stop : vault.is_up (vault_of old) → StopLeaves (vault.may_leave (vault_of new)) T e o

-- So it is for each trace, if the store is clean after the event. Whatever the store does, the
-- count of faults doesn't fall, and a store that wasn't clean isn't clean again.
pub record AfterEvent {V : Type 0} (vault : Ghosts V) (old new : Office V) (e : Event)
    (o : Outcome) : Type 0 where
  pub counted : vault.faults (vault_of old) ≤ vault.faults (vault_of new)
  pub clean : vault.is_clean (vault_of new) → vault.is_clean (vault_of old)
  pub each : OfEachTrace vault old new (StandsAfter vault old new e o)
