-- What the parts of a turn do for the links of the administration, each in one word that its
-- contract cites.
use Rattle.std.specs.Prelude.{◌≡◌, ◌≤◌, ℕ, ◌+◌, Bool, true, false, if◌then◌else◌, List, [], length}
use Rattle.std.specs.Prelude.{take, drop, Option}
use Rattle.vault.specs.Records.{Records}
use Rattle.vault.specs.Changes.{Contents}
use Rattle.vault.specs.declared.vault.Vault.{Ghosts}
use Rattle.office.specs.Events.{Log}
use Rattle.adminhttp.specs.Sites.{Site}
use Rattle.office.specs.Taken.{trace_of}
use Rattle.office.specs.Stands.{StandsFor, vault_of}
use Rattle.office.specs.declared.office.Office.{Office}
use Rattle.serving.specs.Calls.{Call}
use Rattle.serving.specs.declared.server.Server.{Server}
use Rattle.serving.specs.declared.wire.Wire as the_wire
use Rattle.serving.specs.declared.listener.Listener as the_listener
use Rattle.serving.specs.declared.requests.Exchange.{Exchange}
use Rattle.serving.specs.Parts.{Part, Also, Asking, Asks, Giving, IsQuiet}
use Rattle.serving.specs.Works.{AreCaused}
use Rattle.serving.specs.Hearing.{HeardApart}
use Rattle.serving.specs.HttpTurns.{GoesOnAt}
use Rattle.serving.specs.HttpWorks.{ComesTo, IsWrittenOf, HasWrittenAll, HadHttpTurns}

-- This was done after any log for which the office stands, and the clients' links and openings
-- were left alone.
pub record DidApart {V : Type 0} (Holds : V → Contents → Type 0) (IsClean : V → Type 0)
    (office office_then : Office V) (Did : Records → Log → Log → List Call → Type 0)
    (given : Log) (calls : List Call) : Type 0 where
  pub quiet : IsQuiet given calls
  pub caused : AreCaused [] calls given
  pub did : (B : Records) (L : Log) → StandsFor Holds office (trace_of B L)
      → IsClean (vault_of office_then) → Did B L given calls

-- what octets that were read come to, with no call
abbrev pub ComeTo : Site → (read : List ℕ) (response : Option (List ℕ)) → Records → Log → Log
    → List Call → Type 0
ComeTo site read response B L given calls = ComesTo site B L read given response

-- calls of the administration's links alone, of which this holds
abbrev pub AskedApart : (List Call → Type 0) → List Call → Type 0
AskedApart Facts calls = IsQuiet [] calls × Facts calls

-- A part of a server's turn that does this, and nothing for the clients' links. The listener hears
-- what is heard of its events and nothing else.
abbrev pub DoesApart : {V W L : Type 0} (vault : Ghosts V) (wire : the_wire.Ghosts W)
    (listener : the_listener.Ghosts L) (old new : Server V W L)
    (Did : Records → Log → Log → List Call → Type 0) → Type 0
DoesApart vault wire listener old new Did =
    Part vault wire.asked old.office old.wire new.office new.wire
    (DidApart vault.holds vault.is_clean old.office new.office
    (HeardApart listener.heard old.listener new.listener Did))

-- the same, if this holds of its calls too
abbrev pub ServesApart : {V W L : Type 0} (vault : Ghosts V) (wire : the_wire.Ghosts W)
    (listener : the_listener.Ghosts L) (old new : Server V W L) (Facts : List Call → Type 0)
    (Did : Records → Log → Log → List Call → Type 0) → Type 0
ServesApart vault wire listener old new Facts Did =
    Part vault wire.asked old.office old.wire new.office new.wire
    (Also (DidApart vault.holds vault.is_clean old.office new.office
    (HeardApart listener.heard old.listener new.listener Did)) Facts)

-- One that asks the wire nothing.
abbrev pub GivesApart : {V : Type 0} (vault : Ghosts V) (office office_then : Office V)
    (Did : Records → Log → Log → List Call → Type 0) → Type 0
GivesApart vault office office_then Did =
    Giving vault office office_then
    (λ given. DidApart vault.holds vault.is_clean office office_then Did given [])

-- One that gives the office nothing: of the wire alone, and of a server.
abbrev pub AskingApart : {W : Type 0} (Asked : W → List Call → Type 0) (wire wire_then : W)
    (Facts : List Call → Type 0) → Type 0
AskingApart Asked wire wire_then Facts = Asking Asked wire wire_then (AskedApart Facts)

abbrev pub AsksApart : {V W L : Type 0} (wire : the_wire.Ghosts W)
    (listener : the_listener.Ghosts L) (old new : Server V W L) (Facts : List Call → Type 0)
    → Type 0
AsksApart wire listener old new Facts = Asks wire listener old new (AskedApart Facts)

-- the link at a place had its turn, and whether it is held on
abbrev pub HadTurnAt : Site → (now place : ℕ) (stays : Bool) (held held_then : List Exchange)
    → Records → Log → Log → List Call → Type 0
HadTurnAt site now place stays held held_then B L given calls =
    HadHttpTurns site now B L (take 1 (drop place held))
    (take (if stays then 1 else 0) (drop place held_then)) given calls

-- What follows of a response was written once at most, and if that doesn't go on nothing more can be
-- written for now.
pub record Writes (e e_then : Exchange) (times octets : ℕ) (has_more : Bool) (calls : List Call)
    : Type 0 where
  pub is : IsWrittenOf e e_then times octets calls
  pub once : length calls ≤ 1
  pub ends : has_more ≡ false → HasWrittenAll e_then calls

-- the exchange is still that of its link, which was accepted when it was
pub record KeepsLink (e e_then : Exchange) : Type 0 where
  pub link : e_then.link ≡ e.link
  pub since : e_then.since ≡ e.since

-- and as much of its response is written, and it is over if it was
pub record KeepsWritten (e e_then : Exchange) : Type 0 where
  pub link : e_then.link ≡ e.link
  pub since : e_then.since ≡ e.since
  pub written : e_then.written ≡ e.written
  pub over : e_then.is_over ≡ e.is_over

-- The link at one place is served, and goes unless it stays: those before it and after it are held
-- on, and it goes on if it stays.
pub record ServesPlace (now place : ℕ) (stays : Bool) (held held_then : List Exchange)
    : Type 0 where
  pub before : take place held_then ≡ take place held
  pub behind : drop (if stays then place + 1 else place) held_then ≡ drop (place + 1) held
  pub goes_on : stays ≡ true → GoesOnAt now held_then place
