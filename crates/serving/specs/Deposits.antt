-- The deposits of a log are those of spool files that were read, and what happened to the files is what their answers say.
use Rattle.std.specs.Prelude.{◌≡◌, ℕ, List, [], ◌∷◌, ◌++◌}
use Rattle.vault.specs.Records.{Records}
use Rattle.vault.specs.Changes.{Contents}
use Rattle.office.specs.History.{Tag}
use Rattle.office.specs.Events.{Event, EventTag, Tagged, Log, Trace}
use Rattle.office.specs.Events as event
use Rattle.office.specs.Trace.{history}
use Rattle.office.specs.Expected.{shown_at}
use Rattle.office.specs.Taken.{trace_of, AreAdmittedBy}
use Rattle.office.specs.Stands.{StandsFor}
use Rattle.office.specs.declared.office.Office.{Office}
use Rattle.serving.specs.declared.file_name.FileName.{FileName}
use Rattle.serving.specs.Spools.{FileAct, disposal_of, IsFiled}

-- the name of the file whose deposit this is
abbrev pub named : (maildrop class id : List ℕ) → FileName
named d class id = record { maildrop = d; class = class; id = id }

-- a deposit is of a file that was tried, and its answer says what was to become of it; any other event leaves files alone
abbrev pub IsFiledBy : Records → Log → Event → EventTag → (Before : List FileAct → Type 0)
    → List FileAct → Type 0
IsFiledBy B L (event.Deposit d class id text) (Tagged t) Before acts =
    (before : List FileAct) × Before before × IsFiled (named d class id) text (disposal_of (shown_at B L (history (trace_of B L)) (event.Deposit d class id text) t)) before acts
IsFiledBy B L e m Before acts = Before acts

-- what happened to the files by the events since an older log, the newest last
abbrev pub AreFiled : Records → (older more : Log) → List FileAct → Type 0
AreFiled B older [] acts = acts ≡ []
AreFiled B older ((e, m) ∷ more) acts = IsFiledBy B (more ++ older) e m (AreFiled B older more) acts

-- one file was tried, or none: a log has its deposit more, or is as it was
pub data IsOneFile (T : Trace) (acts : List FileAct) : Log → List FileAct → Type 0 where
  NoFile : IsOneFile T acts T.log acts
  OneFile : (d class id text : List ℕ) (t : Tag) (acts_then : List FileAct)
      → IsFiled (named d class id) text (disposal_of (shown_at T.base T.log (history T) (event.Deposit d class id text) t)) acts acts_then
      → IsOneFile T acts ((event.Deposit d class id text, Tagged t) ∷ T.log) acts_then

-- so it is of an office and a spool
pub record IsTried {V S : Type 0} (Holds : V → Contents → Type 0) (Tells : S → List FileAct → Type 0) (T : Trace) (acts : List FileAct) (office : Office V) (spool : S) : Type 0 where
  pub log : Log
  pub acts_then : List FileAct
  pub stands : StandsFor Holds office (trace_of T.base log)
  pub admitted : AreAdmittedBy T.base T.log → AreAdmittedBy T.base log
  pub tells : Tells spool acts_then
  pub one : IsOneFile T acts log acts_then
