-- Offices that are opened one after the other over one store in files.
use Rattle.std.specs.Prelude.{ℕ, List}
use Rattle.sqlite_disk.specs.declared.Disk.{Ghosts}
use Rattle.sqlite_store.specs.declared.store.FileStore.{FileStore}
use Rattle.sqlite.specs.Files.{file_state}
use Rattle.vault.specs.Changes.{Contents, records_of}
use Rattle.vault.specs.Plain.{no_contents}
use Rattle.office.specs.Events.{Trace, Event, Limits, Start, Tagged, given}
use Rattle.office.specs.History.{Done}
use Rattle.office.specs.Seen.{followed_by}
use Rattle.office.specs.Stands.{begun}
use Rattle.office.specs.declared.event.Outcome.{Outcome}
use Rattle.sqlvault.specs.Opened.{Opened}
use Rattle.sqlvault.specs.Stands.{Holds}

-- the store in files holds these contents
abbrev pub holds : {D : Type 0} {g : Ghosts D} → Opened (FileStore D g) → Contents → Type 0
holds vault = Holds (file_state vault.conn)

-- the trace of a new store, in which nothing was done
abbrev pub unused : Trace
unused = begun (records_of no_contents)

-- an office's opening follows the trace
abbrev pub opened : Trace → (host : List ℕ) (boot : ℕ) → Limits → Trace
opened T host boot limits = given T (Start host boot limits) (Tagged Done)

-- an office's opening and one event follow the trace
abbrev pub sat : Trace → (host : List ℕ) (boot : ℕ) → Limits → Event → Outcome → Trace
sat T host boot limits event outcome = followed_by (opened T host boot limits) event outcome
