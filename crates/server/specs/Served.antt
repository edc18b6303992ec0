-- What `popbox serve` does by its options, and what it leaves in a store that kept a trace.
use Rattle.std.specs.Prelude.{◌≡◌, ◌≤◌, ◌↔◌, ℕ, Bool, true, false, min, List, [], ◌++◌, length}
use Rattle.std.specs.Prelude.{Option, Some, None, Result, Ok, Err}
use Rattle.std.specs.Prelude.{is_some, is_none}
use Rattle.std.specs.Borrow.{Bor}
use Rattle.std.specs.List.{list_any}
use Rattle.std.specs.Option.{unwrap_or}
use Rattle.creds.specs.Names.{host_of, is_host}
use Rattle.vault.specs.Calls.{has_grown}
use Rattle.vault.specs.declared.vault.Vault as a_vault
use Rattle.office.specs.History.{Done}
use Rattle.office.specs.Events.{Tagged, Limits, Log, Trace, given}
use Rattle.office.specs.Events as event
use Rattle.office.specs.Taken.{trace_of}
use Rattle.office.specs.Stands.{StandsFor}
use Rattle.office.specs.declared.office.Office.{Office}
use Rattle.office.specs.declared.office.OpenFault.{OpenFault}
use Rattle.office.specs.declared.office.OpenFault.TheVariants as opening
use Rattle.serving.specs.Given.{AreNewlyAdmitted, is_failed, moments}
use Rattle.serving.specs.HttpTurns.{AreFew, AreShort}
use Rattle.serving.specs.Running.{AreTurns, WaitsOnceMore, WasServed}
use Rattle.serving.specs.Settings.{Settings, settings}
use Rattle.serving.specs.declared.links.Links.{Links}
use Rattle.serving.specs.declared.listener.Listener as a_listener
use Rattle.serving.specs.declared.spool.Spool as a_spool
use Rattle.serving.specs.declared.wire.Wire as a_wire
use Rattle.converse.specs.Causes.{of_opening}
use Rattle.converse.specs.declared.fault.Fault.{Fault}
use Rattle.converse.specs.declared.fault.Fault.TheVariants as fault
use Rattle.arguments.specs.declared.options.ServeOptions.{ServeOptions}
use Rattle.server.specs.declared.serve.Stop.{Stop}
use Rattle.server.specs.declared.serve.Stop.TheVariants as why

-- ---- the options

-- the limits that the options of a server name
abbrev pub limits_by : ServeOptions → Limits
limits_by options = record {
  idle = options.idle;
  removals = options.removals;
  access = record { lists_clerks = options.list_clerks };
}

-- an office can end idle connections so soon, and so late
abbrev pub IsIdleTime : (seconds : ℕ) → Type 0
IsIdleTime seconds = (600 ≤ seconds) × (seconds ≤ 86400)

-- how its loop is set by them
abbrev pub settings_by : ServeOptions → Settings
settings_by options = record {
  wait = min options.wait 60;
  login_seconds = min options.login_seconds 600;
  make_room = options.make_room;
  slow_guesses = options.slow_guesses;
}

-- the site of the administration by its name's text, if that is of the form of a host's name
abbrev pub site_of : Option (List ℕ) → Result (Option (List ℕ)) Fault
site_of None = Err fault.BadHost
site_of (Some host) = Ok (Some host)

-- the site by the option, if there is one
abbrev pub site_by : Option (Bor (List ℕ)) → Result (Option (List ℕ)) Fault
site_by None = Ok None
site_by (Some name) = site_of (host_of name.now)

-- how many turns it does; without the option 2^64 - 1
abbrev pub turns_by : Option ℕ → ℕ
turns_by turns = unwrap_or turns 18446744073709551615

-- a trace with the opening of the server's office
abbrev pub opened_by : ServeOptions → (boot : ℕ) → Trace → Trace
opened_by options boot T =
    given T (event.Start options.host.now boot (limits_by options)) (Tagged Done)

-- ---- the loop

-- What a server's clock gave: its notes say that; and it stopped exactly if it gave no moment once.
pub record HasGiven (stop : Option Stop) (notes answers : List (Option ℕ)) : Type 0 where
  pub is : answers ≡ notes
  pub stopped : is_some stop ≡ list_any is_none answers

-- how a loop ends by why its clock stopped, if it did
abbrev pub answer_by : Option Stop → Result ℕ Fault
answer_by None = Ok 0
answer_by (Some why.StoreLost) = Ok 1
answer_by (Some why.NoTime) = Err fault.NoClock

-- What came of an office that was served since a trace: it was given some events, of which this
-- holds.
pub record WasServedBySome {V : Type 0} (vault : a_vault.Ghosts V) (T : Trace)
    (office office_then : Office V) (Did : Log → Type 0) : Type 0 where
  pub given : Log
  pub served : WasServed vault.holds vault.faults T office office_then given
  pub did : Did given

-- Links with which a loop begins, set as the options say.
pub record AreSetBy (options : ServeOptions) (links : Links) : Type 0 where
  pub set : settings links ≡ settings_by options
  pub site : site_by options.admin_site ≡ Ok links.site
  pub few : AreFew links
  pub short : AreShort links

-- The loop ran from such links, turn by turn, and the turns gave these events: as many turns as the
-- options name, or fewer if its clock stopped.
pub record HasRunBy {V W S H : Type 0} (vault : a_vault.Ghosts V) (wires : a_wire.Ghosts W)
    (spools : a_spool.Ghosts S) (listeners : a_listener.Ghosts H) (T : Trace)
    (options : ServeOptions) (office : Office V) (wire : W) (spool : S) (listener : H)
    (stopped : Bool) (office_then : Office V) (wire_then : W) (spool_then : S) (listener_then : H)
    (given : Log) : Type 0 where
  pub links : Links
  pub begun : AreSetBy options links
  pub links_then : Links
  pub moments : List ℕ
  pub row : ℕ
  -- the wire after the last turn that was done
  pub wire_left : W
  pub turns : AreTurns vault wires.asked spools.asked listeners.heard T
      links office wire spool listener
      moments row given links_then office_then wire_left spool_then listener_then
  pub last : WaitsOnceMore wires.asked stopped links_then wire_left wire_then
  pub within : length moments ≤ turns_by options.turns
  pub all : stopped ≡ false → length moments ≡ turns_by options.turns

-- So a loop ended, by the answer: a fault before the first turn, and nothing was done; or once it
-- ran, by why its clock stopped: that the store was lost, or couldn't be read. Without a cause it
-- didn't stop: all turns were done.
pub data HasServed {V W S H : Type 0} (vault : a_vault.Ghosts V) (wires : a_wire.Ghosts W)
    (spools : a_spool.Ghosts S) (listeners : a_listener.Ghosts H) (T : Trace)
    (options : ServeOptions) (office : Office V) (wire : W) (spool : S) (listener : H)
    : Result ℕ Fault → Office V → W → S → H → Log → Type 0 where
  HasNoSite : (met : Fault) → site_by options.admin_site ≡ Err met
      → HasServed vault wires spools listeners T options office wire spool listener
      (Err met) office wire spool listener []
  HasNoClock : HasServed vault wires spools listeners T options office wire spool listener
      (Err fault.NoClock) office wire spool listener []
  HasEnded : (stop : Option Stop) (office_then : Office V) (wire_then : W) (spool_then : S)
      (listener_then : H) (given : Log)
      → HasRunBy vault wires spools listeners T options office wire spool listener
      (is_some stop) office_then wire_then spool_then listener_then given
      → HasServed vault wires spools listeners T options office wire spool listener
      (answer_by stop) office_then wire_then spool_then listener_then given

-- The same with a spool to whose files nothing was done before, and a listener that heard nothing.
pub record HasServedAnew {V W S H : Type 0} (vault : a_vault.Ghosts V) (wires : a_wire.Ghosts W)
    (spools : a_spool.Ghosts S) (listeners : a_listener.Ghosts H) (T : Trace)
    (options : ServeOptions) (office : Office V) (wire : W)
    (answer : Result ℕ Fault) (office_then : Office V) (given : Log) : Type 0 where
  pub spool : S
  pub listener : H
  pub untouched : spools.tells spool []
  pub unheard : listeners.heard listener []
  pub wire_then : W
  pub spool_then : S
  pub listener_then : H
  pub served : HasServed vault wires spools listeners T options office wire spool listener
      answer office_then wire_then spool_then listener_then given

-- The same over sockets: by the option as they are, or each link of a client as a proxy's, over a
-- wire around the sockets that wasn't asked before.
pub data HasServedLinks {V W P S H : Type 0} (vault : a_vault.Ghosts V)
    (sockets : a_wire.Ghosts W) (proxied : a_wire.Ghosts P) (spools : a_spool.Ghosts S)
    (listeners : a_listener.Ghosts H) (T : Trace) (options : ServeOptions) (office : Office V)
    (wire : W) (answer : Result ℕ Fault) (office_then : Office V) (given : Log) : Type 0 where
  OverSockets : options.proxy_protocol ≡ false
      → HasServedAnew vault sockets spools listeners T options office wire answer office_then given
      → HasServedLinks vault sockets proxied spools listeners T options office wire
      answer office_then given
  BehindProxy : (proxy : P) → options.proxy_protocol ≡ true → proxied.asked proxy []
      → HasServedAnew vault proxied spools listeners T options office proxy answer office_then given
      → HasServedLinks vault sockets proxied spools listeners T options office wire
      answer office_then given

-- ---- a server

-- The status of a server whose loop ended so: that status, or 1 if the loop ended well and the
-- store was lost.
pub data IsStatus : (answer status : Result ℕ Fault) → Type 0 where
  IsAsAnswered : (answer : Result ℕ Fault) → IsStatus answer answer
  IsLost : (answer : ℕ) → IsStatus (Ok answer) (Ok 1)

-- Why a start can't be said: standard output takes no more, or the site's name isn't of the form of
-- a host's.
pub data IsUnsaid (options : ServeOptions) : Fault → Type 0 where
  IsUnwritten : IsUnsaid options fault.CannotWrite
  IsNoSite : (met : Fault) → site_by options.admin_site ≡ Err met → IsUnsaid options met

-- What a server did, by its status and the events that its office was given.
pub data HasListened {V W P S H : Type 0} (vault : a_vault.Ghosts V) (sockets : a_wire.Ghosts W)
    (proxied : a_wire.Ghosts P) (spools : a_spool.Ghosts S) (listeners : a_listener.Ghosts H)
    (T : Trace) (options : ServeOptions) (office : Office V)
    : (status : Result ℕ Fault) → Office V → Log → Type 0 where
  -- the system refused to listen
  WasRefused : HasListened vault sockets proxied spools listeners T options office (Ok 1) office []
  -- it listened, and couldn't say so
  WasUnsaid : (met : Fault) → IsUnsaid options met
      → HasListened vault sockets proxied spools listeners T options office (Err met) office []
  -- it served what came over its sockets, of which nothing was asked before
  WasEnded : (wire : W) (answer status : Result ℕ Fault) (office_then : Office V) (given : Log)
      → sockets.asked wire []
      → HasServedLinks vault sockets proxied spools listeners T options office wire
      answer office_then given
      → IsStatus answer status
      → HasListened vault sockets proxied spools listeners T options office
      status office_then given

-- ---- what a store keeps

-- What became of a trace that a store kept, by the status: it is as it was, for a cause; or an
-- office was opened, and served.
pub data HasKept {V W P S H : Type 0} (vault : a_vault.Ghosts V) (sockets : a_wire.Ghosts W)
    (proxied : a_wire.Ghosts P) (spools : a_spool.Ghosts S) (listeners : a_listener.Ghosts H)
    (options : ServeOptions) (boot : ℕ) (T : Trace)
    : (status : Result ℕ Fault) → Trace → Type 0 where
  HasNoLimits : (IsIdleTime options.idle → ⊥)
      → HasKept vault sockets proxied spools listeners options boot T (Ok 2) T
  LacksMemory : HasKept vault sockets proxied spools listeners options boot T
      (Err fault.OutOfMemory) T
  IsNotOpened : (why : OpenFault)
      → ((why ≡ opening.BadHost) ↔ (is_host options.host.now ≡ false))
      → HasKept vault sockets proxied spools listeners options boot T (Err (of_opening why)) T
  IsOpened : (office office_then : Office V) (status : Result ℕ Fault) (given : Log)
      → StandsFor vault.holds office (opened_by options boot T)
      → WasServed vault.holds vault.faults (opened_by options boot T) office office_then given
      → HasListened vault sockets proxied spools listeners (opened_by options boot T) options office
      status office_then given
      → HasKept vault sockets proxied spools listeners options boot T
      status (trace_of T.base (given ++ (opened_by options boot T).log))

-- It leaves the trace as it was, if no office was opened. Otherwise the office was given these
-- events after its opening, each with a tag that it may have.
pub data IsServed (options : ServeOptions) (boot : ℕ) (T : Trace) : Trace → Type 0 where
  NotOpened : IsServed options boot T T
  Opened : (log : Log) → AreNewlyAdmitted T.base (opened_by options boot T).log log
      → IsServed options boot T (trace_of T.base (log ++ (opened_by options boot T).log))

-- ---- a server as a job over a store, which can't name its office

-- With which status it may end after these events: 0 once all turns were done; 1; since its clock
-- couldn't be read; or for a fault before its loop, and then there was no event.
pub data IsStatusAfter (options : ServeOptions) : (status : Result ℕ Fault) → (given : Log)
    → Type 0 where
  HasDone : (given : Log) → length (moments given) ≡ turns_by options.turns
      → IsStatusAfter options (Ok 0) given
  HasCome : (given : Log) → IsStatusAfter options (Ok 1) given
  HasNoTime : (given : Log) → IsStatusAfter options (Err fault.NoClock) given
  HasNotBegun : (met : Fault) → IsUnsaid options met → IsStatusAfter options (Err met) []

-- It ended so after these events, in as many turns as the options name or fewer: each has one Tick.
pub record HasEndedBy (options : ServeOptions) (status : Result ℕ Fault) (given : Log)
    : Type 0 where
  pub within : length (moments given) ≤ turns_by options.turns
  pub ended : IsStatusAfter options status given

-- What became of a trace that the store kept, by the status, and the store's count of faults before
-- and after: it is as it was, for a cause; or an office was opened, and given these events, each
-- with a tag that it may have, and none failed unless the count grew.
pub data HasServedStore (options : ServeOptions) (boot : ℕ) (T : Trace) (first last : ℕ)
    : (status : Result ℕ Fault) → Trace → Type 0 where
  WithoutLimits : (IsIdleTime options.idle → ⊥)
      → HasServedStore options boot T first last (Ok 2) T
  WithoutMemory : HasServedStore options boot T first last (Err fault.OutOfMemory) T
  WithoutOffice : (why : OpenFault)
      → ((why ≡ opening.BadHost) ↔ (is_host options.host.now ≡ false))
      → (why ≡ opening.Store → has_grown first last ≡ true)
      → HasServedStore options boot T first last (Err (of_opening why)) T
  WithOffice : (status : Result ℕ Fault) (given : Log)
      → AreNewlyAdmitted T.base (opened_by options boot T).log given
      → (list_any is_failed given ≡ true → has_grown first last ≡ true)
      → HasEndedBy options status given
      → HasServedStore options boot T first last
      status (trace_of T.base (given ++ (opened_by options boot T).log))
