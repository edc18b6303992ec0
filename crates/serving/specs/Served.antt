-- That links are served: what is read and written on each is what its own connection gives and takes.
use Rattle.std.specs.Prelude.{◌≡◌, ◌≤◌, ◌<◌, ⊤, ℕ, Bool, true, false, ◌||◌, ◌+◌, ◌==◌, List, [], ◌∷◌, ◌++◌, Option, Some, None, if◌then◌else◌, ◌⊎◌, length}
use Rattle.std.specs.List.{All, AllPairs}
use Rattle.vault.specs.Records.{Records}
use Rattle.vault.specs.Changes.{Contents}
use Rattle.office.specs.History.{Done}
use Rattle.office.specs.Events.{Event, EventTag, Tagged, Log, Trace}
use Rattle.office.specs.Events as event
use Rattle.office.specs.Log.{next_number, opened}
use Rattle.office.specs.Trace.{is_open}
use Rattle.office.specs.Taken.{trace_of, all_taken_by, AreAdmittedBy, IsSentExactly}
use Rattle.office.specs.Stands.{StandsFor, vault_of}
use Rattle.adminhttp.specs.Sites.{Site}
use Rattle.office.specs.declared.office.Office.{Office}
use Rattle.serving.specs.Wires.{Told, ToldOfPorts}
use Rattle.serving.specs.Requests.{Exchanges, AreExchanged, AreHeld}
use Rattle.serving.specs.declared.requests.Exchange.{Exchange}
use Rattle.serving.specs.Spools.{FileAct}
use Rattle.serving.specs.Deposits.{AreFiled}
use Rattle.serving.specs.declared.links.Seat.{Seat}

-- ---- what a connection gave since its opening

-- after an event; `next` is the number that an opening gets
abbrev pub given_after : Event → EventTag → (next c : ℕ) → List ℕ → List ℕ
given_after event.Connect (Tagged Done) next c before = if next == c then [] else before
given_after (event.Bytes n piece) (Tagged t) next c before = if n == c then before ++ piece else before
given_after _ m next c before = before

-- the pieces that weren't ignored, joined
abbrev pub given_by : Log → ℕ → List ℕ
given_by [] c = []
given_by ((e, m) ∷ L) c = given_after e m (next_number L) c (given_by L c)

-- ---- links and their connections: `owner` has the connection of each link's number, None if it got none

abbrev pub Owners : Type 0
Owners = ℕ → Option ℕ

-- of one link
abbrev pub IsServed : Records → Log → Option ℕ → (read written : List ℕ) → Type 0
IsServed B L None read written = (read ≡ []) × (written ≡ [])
IsServed B L (Some c) read written = (read ≡ given_by L c) × (written ≡ all_taken_by B L c)

-- each link that was ever accepted has a connection of its own or none; all that was read from it was given by this connection, and all
-- that was written on it was taken by this connection, which isn't open once the link is over; and nothing was read or written on a link that
-- was over by then
pub record AreServed (told : Told) (owner : Owners) (B : Records) (L : Log) : Type 0 where
  pub each : (k : ℕ) → IsServed B L (owner k) (told.read k) (told.written k)
  pub own : (j k c : ℕ) → owner j ≡ Some c → owner k ≡ Some c → j ≡ k
  pub accepted : (k c : ℕ) → owner k ≡ Some c → k < told.accepted
  pub opened : (k c : ℕ) → owner k ≡ Some c → c ≤ opened L
  pub over : (k c : ℕ) → told.over k ≡ true → owner k ≡ Some c → is_open (trace_of B L) c ≡ false
  pub straight : told.strayed ≡ false

-- ---- which events serving gives rise to

-- a connection is some link's
abbrev pub IsOwned : Owners → ℕ → Type 0
IsOwned owner c = (k : ℕ) × (owner k ≡ Some c)

-- a tick, an opening, a deposit, and those of a link's connection
abbrev pub IsOwnEvent : Owners → Event → Type 0
IsOwnEvent owner (event.Tick now) = ⊤
IsOwnEvent owner event.Connect = ⊤
IsOwnEvent owner (event.Deposit d class id text) = ⊤
IsOwnEvent owner (event.Bytes c piece) = IsOwned owner c
IsOwnEvent owner (event.Took c octets) = IsOwned owner c
IsOwnEvent owner (event.Gone c) = IsOwned owner c
IsOwnEvent owner _ = ⊥

-- an administrator's command
abbrev pub IsCommand : Event → Type 0
IsCommand (event.Admin command) = ⊤
IsCommand _ = ⊥

-- each event
abbrev pub AreOwnEvents : Owners → Log → Type 0
AreOwnEvents owner [] = ⊤
AreOwnEvents owner ((e, m) ∷ L) = (IsOwnEvent owner e ⊎ IsCommand e) × AreOwnEvents owner L

-- how many openings were asked for
abbrev pub connects : Log → ℕ
connects [] = 0
connects ((event.Connect, m) ∷ L) = connects L + 1
connects ((e, m) ∷ L) = connects L

-- a log is an older one and own events, whose deposits are of the files that were read, and whose answers say what happened to these; of so many
-- openings
pub record AddsEvents (owner : Owners) (B : Records) (older L : Log) (acts : List FileAct) (calls : ℕ) : Type 0 where
  pub more : Log
  pub is : L ≡ more ++ older
  pub each : AreOwnEvents owner more
  pub filed : AreFiled B older more acts
  pub counted : connects more ≡ calls

-- What is told elsewhere than on the clients' links: what happened to the spool's files; and of the administration's links, with their exchanges.
pub record Elsewhere : Type 0 where
  pub acts : List FileAct
  pub admin : Told
  pub x : Exchanges

-- a log is an older one and such events, and each command of these is a request's, which is answered so
pub record Adds (owner : Owners) (B : Records) (older L : Log) (elsewhere : Elsewhere) (calls : ℕ) : Type 0 where
  pub events : AddsEvents owner B older L elsewhere.acts calls
  pub requests : AreExchanged elsewhere.admin elsewhere.x B (length older) L

-- ---- seats

-- a seat has a link and the connection that is its own
abbrev pub HasOwn : Owners → Seat → Type 0
HasOwn owner s = owner s.link.number ≡ Some s.connection

-- one seat's connection was opened before another's
abbrev pub Precedes : Seat → Seat → Type 0
Precedes s t = s.connection < t.connection

-- its connection is open
abbrev pub HasOpen : Trace → Seat → Type 0
HasOpen T s = is_open T s.connection ≡ true

-- a connection has a seat
abbrev pub is_seated : List Seat → ℕ → Bool
is_seated [] c = false
is_seated (s ∷ seats) c = s.connection == c || is_seated seats c

-- each seat has its own connection, and they ascend; each open connection has a seat; and these seats' connections are open
pub record AreSeated (owner : Owners) (T : Trace) (seats these : List Seat) : Type 0 where
  pub own : All (HasOwn owner) seats
  pub ascend : AllPairs Precedes seats
  pub all : (c : ℕ) → is_open T c ≡ true → is_seated seats c ≡ true
  pub here : All (HasOpen T) these

-- ---- the invariant of serving

-- An office serves a wire's links and a spool's files, since the trace T, and the connections of these seats are open. What is said of them all is
-- said of some log, what the wire tells, and owners.
pub record IsServing {V W : Type 0} (Holds : V → Contents → Type 0) (Tells : W → ToldOfPorts → Type 0) (T : Trace) (elsewhere : Elsewhere) (office : Office V) (wire : W) (seats these : List Seat) : Type 0 where
  pub log : Log
  pub told : Told
  pub owner : Owners
  pub stands : StandsFor Holds office (trace_of T.base log)
  pub admitted : AreAdmittedBy T.base log
  pub tells : Tells wire (record { pop = told; admin = elsewhere.admin })
  pub served : AreServed told owner T.base log
  pub seated : AreSeated owner (trace_of T.base log) seats these
  -- as many openings were asked for as links came
  pub adds : Adds owner T.base T.log log elsewhere told.accepted

-- it still does, if the store is clean
abbrev pub StillServes : {V W : Type 0} (Holds : V → Contents → Type 0) (IsClean : V → Type 0) (Tells : W → ToldOfPorts → Type 0)
    (office : Office V) (wire : W) (seats these : List Seat) (office_then : Office V) (wire_then : W) (seats_then these_then : List Seat) → Type 0
StillServes Holds IsClean Tells office wire seats these office_then wire_then seats_then these_then =
    (T : Trace) (elsewhere : Elsewhere) → IsServing Holds Tells T elsewhere office wire seats these → IsClean (vault_of office_then)
    → IsServing Holds Tells T elsewhere office_then wire_then seats_then these_then

-- Between turns each seat's connection is open; what the spool tells is filed; each connection was sent exactly what the history sends it; and
-- each link of the administration that is open is held with its exchange, all of this site.
pub record Serves {V W S : Type 0} (Holds : V → Contents → Type 0) (Tells : W → ToldOfPorts → Type 0) (TellsFiles : S → List FileAct → Type 0) (T : Trace) (office : Office V) (wire : W) (spool : S) (seats : List Seat) (held : List Exchange) (site : Site) : Type 0 where
  pub elsewhere : Elsewhere
  pub tells : TellsFiles spool elsewhere.acts
  pub is : IsServing Holds Tells T elsewhere office wire seats seats
  pub sent : (c : ℕ) → IsSentExactly (trace_of T.base is.log) c
  pub requests : AreHeld elsewhere.admin elsewhere.x held
  pub of_site : elsewhere.x.site ≡ site
