-- What the runs of a script and of a conversation leave in the store that they were given.
use Rattle.std.specs.Prelude.{◌≡◌, ◌<◌, ℕ, Bool, true, List, [], ◌⊎◌, Err}
use Rattle.vault.specs.Changes.{Contents}
use Rattle.session.specs.declared.removals.Removals.{Removals}
use Rattle.office.specs.Events.{Trace, Log, Tagged, no_access, given}
use Rattle.office.specs.Events as event
use Rattle.office.specs.History.{Done}
use Rattle.office.specs.Log.{next_number}
use Rattle.office.specs.Stands.{Keeps}
use Rattle.office.specs.Trace.{acts}
use Rattle.converse.specs.Played.{failures}
use Rattle.converse.specs.Talk.{Talks, TalksInPart}
use Rattle.converse.specs.Talked.{trace_of, Extends, Leaves, ComesOut, HasFailed}
use Rattle.converse.specs.declared.talk.TalkFault.{TalkFault}

-- a store that is clean at the end holds what it held
abbrev pub StillHolds : {V : Type 0} (Holds : V → Contents → Type 0) (IsClean : V → Type 0) → (old new : V) → Type 0
StillHolds Holds IsClean old new = (c : Contents) → Holds old c → IsClean new → Holds new c

-- after so many seconds without an act a connection is ended
abbrev pub idle_seconds : ℕ
idle_seconds = 600

-- a trace with an office's opening, which says when removals are judged
abbrev pub opened_on : Trace → (host : List ℕ) (boot : ℕ) (removals : Removals) → Trace
opened_on T host boot removals = given T (event.Start host boot (record { idle = idle_seconds; removals = removals; access = no_access })) (Tagged Done)

-- A conversation came out well over an office that stood for T: L is the log of a trace that goes on
-- from T by it alone. All was heard and answered, or a later part of a message couldn't be read,
-- since the store refused a call; and an event failed for that alone: `grown` says that it counted a
-- refusal.
pub record TalksOn (grown : Bool) (T : Trace) (octets written : List ℕ) (AtEnd : Type 0) (L : Log)
    : Type 0 where
  pub own : Extends (next_number T.log) T.log L
  pub caused : failures T.log < failures L → grown ≡ true
  pub came_out : Leaves T.base (next_number T.log) L (λ history.
      Talks T.base (next_number T.log) octets written AtEnd (acts T) history
      ⊎ (TalksInPart T.base (next_number T.log) octets written (acts T) history × (grown ≡ true)))

-- the store keeps what such a trace says
pub record HasTalked {V : Type 0} (Holds : V → Contents → Type 0) (new : V) (grown : Bool) (T : Trace) (octets written : List ℕ) (AtEnd : Type 0) : Type 0 where
  pub log : Log
  pub keeps : Keeps (Holds new) (trace_of T.base log)
  pub on : TalksOn grown T octets written AtEnd log

-- A fault broke off a conversation over an office that stood for T. L is the log of a trace that
-- continues T by it alone, and meets the condition of this fault; an event failed only if the store
-- counted a refusal, and a fault of the source or of the sink came only if one of its calls failed:
-- `reads` and `writes` say so.
pub record BreaksOn (grown reads writes : Bool) (T : Trace) (octets written : List ℕ)
    (AtEnd : Type 0) (fault : TalkFault) (L : Log) : Type 0 where
  pub own : Extends (next_number T.log) T.log L
  pub caused : failures T.log < failures L → grown ≡ true
  pub failed : HasFailed reads writes fault
  pub came_out : ComesOut AtEnd true T (next_number T.log) octets written (Err fault) L

-- the store keeps what such a trace says
pub record HasBroken {V : Type 0} (Holds : V → Contents → Type 0) (new : V) (grown reads writes : Bool) (T : Trace) (octets written : List ℕ) (AtEnd : Type 0) : Type 0 where
  pub fault : TalkFault
  pub log : Log
  pub keeps : Keeps (Holds new) (trace_of T.base log)
  pub on : BreaksOn grown reads writes T octets written AtEnd fault log

-- No office was opened over a store that kept what T says, nothing was read or written, and it keeps that; or one was opened, and the
-- conversation in it was broken off.
abbrev pub HasStopped : {V : Type 0} (Holds : V → Contents → Type 0) (new : V) (grown reads writes : Bool) (T opened : Trace) (octets written : List ℕ) (AtEnd : Type 0) → Type 0
HasStopped Holds new grown reads writes T opened octets written AtEnd =
    (Keeps (Holds new) T × (octets ≡ []) × (written ≡ [])) ⊎ HasBroken Holds new grown reads writes opened octets written AtEnd
