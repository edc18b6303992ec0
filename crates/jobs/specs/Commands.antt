-- What the commands of the program did to the trace that a store kept: `T` is that trace, `opened`
-- the same with the opening of the command's office, and U the trace that the store keeps now. The
-- store's count of faults was `first`, and is `last`.
use Rattle.std.specs.Prelude.{◌≡◌, ◌≤◌, ◌⊎◌, ℕ, Bool, ⊤, List, [], Option, IfSome, Result, Ok, Err}
use Rattle.std.specs.Prelude.{true}
use Rattle.std.specs.Io.KnownBytes.{IsAtEnd}
use Rattle.vault.specs.declared.answer.Total.{Total}
use Rattle.vault.specs.declared.fault.VaultFault.{VaultFault}
use Rattle.vault.specs.declared.fault.VaultFault.TheVariants.{Store, NoMemory}
use Rattle.vault.specs.Calls.{has_grown}
use Rattle.office.specs.Events.{Log, Trace}
use Rattle.converse.specs.declared.talk.TalkFault.{TalkFault}
use Rattle.converse.specs.Script.{ScriptLine, script_of}
use Rattle.converse.specs.Played.{Runs, RunsInPart}
use Rattle.converse.specs.Runs.{TalksOn, BreaksOn}
use Rattle.converse.specs.Streams.{Reading, Writing, Reads, Writes}
use Rattle.converse.specs.Streams.{reads_failed, writes_failed}
use Rattle.converse.specs.Talked.{trace_of}

-- ---- a script

-- these lines are the script's, if its text is known
abbrev pub AreLinesOf : (script : Option (List ℕ)) → List ScriptLine → Type 0
AreLinesOf script lines = IfSome script (λ text. script_of text ≡ Ok lines)

-- all of them were played, and printed what was printed
abbrev pub WasPlayed : (script before after : Option (List ℕ)) (first last : ℕ) (opened U : Trace)
    → Type 0
WasPlayed script before after first last opened U =
    (lines : List ScriptLine) × AreLinesOf script lines
    × Runs first last before after opened lines U

-- the first were, and at most one more was begun
abbrev pub WasPlayedInPart : (script : Option (List ℕ)) (first last : ℕ) (opened U : Trace) → Type 0
WasPlayedInPart script first last opened U =
    (lines : List ScriptLine) × AreLinesOf script lines × RunsInPart first last opened lines U

-- By the exit status: at 0 an office was opened, the script was played, and what it printed is
-- flushed; at 1 the trace is the old one, or an office was opened, and the script was played in
-- part.
pub record HasReplayed (script before after : Option (List ℕ)) (flushed : Bool)
    (status first last : ℕ) (T opened U : Trace) : Type 0 where
  pub bound : status ≤ 1
  pub on : status ≡ 0 → flushed ≡ true
  pub whole : status ≡ 0 → WasPlayed script before after first last opened U
  pub part : status ≡ 1 → (U ≡ T) ⊎ WasPlayedInPart script first last opened U

-- ---- a conversation

-- U goes on from `opened` by one conversation, which came out well
abbrev pub WentWell : (first last : ℕ) (opened : Trace) (octets written : List ℕ) (AtEnd : Type 0)
    (U : Trace) → Type 0
WentWell first last opened octets written AtEnd U =
    (L : Log) × (U ≡ trace_of opened.base L)
    × TalksOn (has_grown first last) opened octets written AtEnd L

-- no office was opened, and nothing was read or written
pub record NeverBegan (T : Trace) (octets written : List ℕ) (U : Trace) : Type 0 where
  pub same : U ≡ T
  pub unread : octets ≡ []
  pub unwritten : written ≡ []

-- U goes on from `opened` by one conversation, which this fault broke off
abbrev pub WasBroken : (first last : ℕ) (old new : Reading) (before after : Writing)
    (opened : Trace) (octets written : List ℕ) (U : Trace) → Type 0
WasBroken first last old new before after opened octets written U =
    (fault : TalkFault) × (L : Log) × (U ≡ trace_of opened.base L)
    × BreaksOn (has_grown first last) (reads_failed old new) (writes_failed before after) opened
    octets written (IsAtEnd new.left) fault L

-- By the exit status, of the octets that were read and written. At 0 those written are flushed.
pub record HasConversed (old new : Reading) (before after : Writing) (status first last : ℕ)
    (T opened U : Trace) : Type 0 where
  pub octets : List ℕ
  pub written : List ℕ
  pub read : Reads old new octets
  pub wrote : Writes before after written
  pub bound : status ≤ 1
  pub on : status ≡ 0 → after.flushed ≡ true
  pub whole : status ≡ 0 → WentWell first last opened octets written (IsAtEnd new.left) U
  pub part : status ≡ 1 → NeverBegan T octets written U
      ⊎ WasBroken first last old new before after opened octets written U

-- ---- a look

-- these totals were answered, or a refusal: for want of memory, or if the store's count of
-- faults grew
abbrev pub IsLook : (these : List Total) (first last : ℕ)
    → (answered : Result (List Total) VaultFault) → Type 0
IsLook these first last (Ok found) = found ≡ these
IsLook these first last (Err Store) = has_grown first last ≡ true
IsLook these first last (Err NoMemory) = ⊤
IsLook these first last (Err fault) = ⊥
