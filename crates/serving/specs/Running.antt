-- That a server goes on turn by turn, each from where the one before it ended.
use Rattle.std.specs.Prelude.{◌≡◌, ◌≤◌, ◌⊎◌, ℕ, Bool, true, false, List, [], ◌∷◌, ◌++◌, length}
use Rattle.std.specs.Prelude.{map, ⊤, Option, Some, None, Result, if◌then◌else◌}
use Rattle.std.specs.List.{list_any}
use Rattle.vault.specs.Call.{Looks}
use Rattle.vault.specs.Calls.{has_grown}
use Rattle.vault.specs.Changes.{Contents}
use Rattle.vault.specs.declared.answer.Progress.{Progress}
use Rattle.vault.specs.declared.fault.VaultFault.{VaultFault}
use Rattle.vault.specs.declared.vault.Vault.{Ghosts}
use Rattle.office.specs.Events.{Log, Trace}
use Rattle.office.specs.Taken.{trace_of}
use Rattle.office.specs.Stands.{StandsFor, vault_of}
use Rattle.office.specs.declared.office.Office.{Office}
use Rattle.serving.specs.Calls.{Call, Waited, WasAsked}
use Rattle.serving.specs.Spools.{FileCall}
use Rattle.serving.specs.Hearing.{Hearing}
use Rattle.serving.specs.Given.{AreNewlyAdmitted, is_failed}
use Rattle.serving.specs.Seen.{given_in}
use Rattle.serving.specs.HttpTurns.{AllGoOn, AreFew}
use Rattle.serving.specs.Newcomers.{AllHaveSeats}
use Rattle.serving.specs.Guesses.{AllArePacing}
use Rattle.serving.specs.Quits.{in_a_row, most_in_a_row}
use Rattle.serving.specs.Settings.{settings}
use Rattle.serving.specs.Turns.{Works, millis_of}
use Rattle.serving.specs.declared.links.Links.{Links}

-- What the next turn finds as the first one did: how the loop was set, that those who haven't
-- logged in have seats, and that each refusal keeps a login back for 1 to 15 seconds; and that the
-- administration's links are few, and none of them is over.
pub record LeavesAsFound (now : ℕ) (links links_then : Links) : Type 0 where
  pub set : settings links_then ≡ settings links
  pub site : links_then.site ≡ links.site
  pub seated : AllHaveSeats links → AllHaveSeats links_then
  pub pacing : AllArePacing links → AllArePacing links_then
  pub few : AreFew links → AreFew links_then
  pub ongoing : AllGoOn now links_then

-- The links after such a pause: if a large file is read or prepared, the next turn doesn't wait.
abbrev pub polled : (is_coming : Bool) → Links → Links
polled is_coming links = record {
  clients = record {
    seats = links.clients.seats;
    poll_now = if is_coming then true else links.clients.poll_now;
    last = links.clients.last;
    wait = links.clients.wait;
    lock_released = links.clients.lock_released;
    make_room = links.clients.make_room;
    newcomers = links.clients.newcomers;
    guesses = links.clients.guesses;
  };
  requests = links.requests;
  site = links.site;
}

-- After a turn: if the next one waits, or a QUIT stays unread, or a large file is read or prepared,
-- the store did nothing but look, whatever it answered; else nothing was done. That the store was
-- asked to do what it has put off, or to prepare what the QUIT removes, or the file's deposit, is
-- seen in no value: the tests of `maintenance.rt` and `long_quits.rt` (turn_tests)
-- count the calls.
pub data Maintains {V : Type 0} (vault : Ghosts V) (is_preparing is_coming : Bool) (links : Links)
    (office office_then : Office V) : Type 0 where
  Maintained : (answer : Result ⊤ VaultFault) → millis_of links ≡ 1000
      → Looks vault.holds vault.faults vault.is_clean vault.is_up vault.may_leave
      (vault_of office) (vault_of office_then) answer
      → Maintains vault is_preparing is_coming links office office_then
  Prepared : (answer : Result Progress VaultFault)
      → (is_preparing ≡ true) ⊎ (is_coming ≡ true)
      → Looks vault.holds vault.faults vault.is_clean vault.is_up vault.may_leave
      (vault_of office) (vault_of office_then) answer
      → Maintains vault is_preparing is_coming links office office_then
  Deferred : millis_of links ≡ 0 → office_then ≡ office
      → Maintains vault is_preparing is_coming links office office_then

-- The next turn doesn't wait only if it didn't before, or a spool answered that a file is coming.
abbrev pub PollsForFile : {S : Type 0} (IsComing : S → Bool → Type 0) (before now : Bool) → Type 0
PollsForFile {S} IsComing before now =
    now ≡ true → (before ≡ true) ⊎ ((spool : S) × IsComing spool true)

-- A part of the deposit of the large file that is coming, if one is, was prepared, or none was.
pub data PreparesFile {V : Type 0} (vault : Ghosts V) (is_coming : Bool)
    (office office_then : Office V) : Type 0 where
  FilePrepared : (answer : Result Progress VaultFault) → is_coming ≡ true
      → Looks vault.holds vault.faults vault.is_clean vault.is_up vault.may_leave
      (vault_of office) (vault_of office_then) answer
      → PreparesFile vault is_coming office office_then
  NotPrepared : office_then ≡ office → PreparesFile vault is_coming office office_then

-- The pause after a turn. Of the links only that the next turn doesn't wait may change, and of the
-- spool nothing that was asked; the store is maintained.
pub record Pauses {V S : Type 0} (vault : Ghosts V) (AskedFiles : S → List FileCall → Type 0)
    (is_preparing : Bool) (links : Links) (office : Office V) (spool : S)
    (links_then : Links) (office_then : Office V) (spool_then : S) : Type 0 where
  pub is_coming : Bool
  pub links_are : links_then ≡ polled is_coming links
  pub asked_files : (calls : List FileCall) → AskedFiles spool calls → AskedFiles spool_then calls
  pub maintains : Maintains vault is_preparing is_coming links_then office office_then

-- The turns of these moments were done, the oldest first, and gave these events: each turn works,
-- from the trace with the events of those before it; and after each there is a pause. In each of
-- the last `row` turns a QUIT stayed unread; in no more than 1,000 in a row did one.
pub data AreTurns {V W S H : Type 0} (vault : Ghosts V)
    (Asked : W → List Call → Type 0) (AskedFiles : S → List FileCall → Type 0)
    (Heard : H → List Hearing → Type 0) (T : Trace)
    (links : Links) (office : Office V) (wire : W) (spool : S) (listener : H)
    : (moments : List ℕ) → (row : ℕ) → (given : Log) → Links → Office V → W → S → H
    → Type 0 where
  NoTurn : AreTurns vault Asked AskedFiles Heard T links office wire spool listener
      [] 0 [] links office wire spool listener
  OneMore : (moments : List ℕ) (row : ℕ) (given : Log) (links1 : Links) (office1 : Office V)
      (wire1 : W) (spool1 : S) (listener1 : H) (now : ℕ) (links2 : Links) (office2 : Office V)
      (wire2 : W) (spool2 : S) (listener2 : H) (links3 : Links) (office3 : Office V) (spool3 : S)
      → AreTurns vault Asked AskedFiles Heard T links office wire spool listener
      moments row given links1 office1 wire1 spool1 listener1
      → (turn : Works vault Asked AskedFiles Heard (trace_of T.base (given ++ T.log)) now
      links1 office1 wire1 spool1 listener1 office2 links2 wire2 spool2 listener2)
      → LeavesAsFound now links1 links2
      → Pauses vault AskedFiles turn.seen.is_preparing links2 office2 spool2 links3 office3 spool3
      → in_a_row turn.seen.is_preparing row ≤ most_in_a_row
      → AreTurns vault Asked AskedFiles Heard T links office wire spool listener
      (moments ++ now ∷ []) (in_a_row turn.seen.is_preparing row) (given_in turn.seen ++ given)
      links3 office3 wire2 spool3 listener2

-- What came of an office that was given these events since a trace: it stands for that trace with
-- them.
pub record WasServed {V : Type 0} (Holds : V → Contents → Type 0) (Faults : V → ℕ) (T : Trace)
    (office office_then : Office V) (given : Log) : Type 0 where
  pub stands : StandsFor Holds office_then (trace_of T.base (given ++ T.log))
  -- each event has a tag that it may have
  pub admitted : AreNewlyAdmitted T.base T.log given
  -- the store's count of faults never falls, and an event failed only if it grew
  pub counted : Faults (vault_of office) ≤ Faults (vault_of office_then)
  pub failed : list_any is_failed given ≡ true
      → has_grown (Faults (vault_of office)) (Faults (vault_of office_then)) ≡ true

-- So an office went on since a trace, turn by turn, by the events of the turns.
pub record HasGoneOn {V W S H : Type 0} (vault : Ghosts V)
    (Asked : W → List Call → Type 0) (AskedFiles : S → List FileCall → Type 0)
    (Heard : H → List Hearing → Type 0) (T : Trace) (moments : List ℕ) (row : ℕ)
    (links : Links) (office : Office V) (wire : W) (spool : S) (listener : H)
    (links_then : Links) (office_then : Office V) (wire_then : W) (spool_then : S)
    (listener_then : H) : Type 0 where
  pub given : Log
  pub turns : AreTurns vault Asked AskedFiles Heard T links office wire spool listener
      moments row given links_then office_then wire_then spool_then listener_then
  pub served : WasServed vault.holds vault.faults T office office_then given

-- what a clock answered: these moments, and after them none, if it stopped
abbrev pub answers : (stopped : Bool) → (moments : List ℕ) → List (Option ℕ)
answers stopped moments = map (λ m. Some m) moments ++ (if stopped then None ∷ [] else [])

-- A clock was asked for these moments and no others, and for each a turn was done, since any trace.
pub record HasTurned {V W S H C : Type 0} (vault : Ghosts V)
    (Asked : W → List Call → Type 0) (AskedFiles : S → List FileCall → Type 0)
    (Heard : H → List Hearing → Type 0) (Gave : C → List (Option ℕ) → Type 0)
    (stopped : Bool) (moments : List ℕ) (row : ℕ)
    (links : Links) (office : Office V) (wire : W) (spool : S) (listener : H) (clock : C)
    (links_then : Links) (office_then : Office V) (wire_then : W) (spool_then : S)
    (listener_then : H) (clock_then : C) : Type 0 where
  pub gave : (before : List (Option ℕ)) → Gave clock before
      → Gave clock_then (before ++ answers stopped moments)
  pub each : (T : Trace) → StandsFor vault.holds office T → vault.is_clean (vault_of office_then)
      → HasGoneOn vault Asked AskedFiles Heard T moments row
      links office wire spool listener links_then office_then wire_then spool_then listener_then

-- If the clock stopped, the wire was asked for one wait more, and for nothing else.
abbrev pub WaitsOnceMore : {W : Type 0} (Asked : W → List Call → Type 0) (stopped : Bool)
    (links : Links) (wire wire_then : W) → Type 0
WaitsOnceMore Asked true links wire wire_then =
    WasAsked Asked wire wire_then (Waited (millis_of links) ∷ [])
WaitsOnceMore Asked false links wire wire_then = wire_then ≡ wire

-- Turns were done until the clock stopped, or so many were over. The clock is asked after a turn's
-- wait: if it stopped, nothing but this wait was done since the turn before.
pub record HasRun {V W S H C : Type 0} (vault : Ghosts V)
    (Asked : W → List Call → Type 0) (AskedFiles : S → List FileCall → Type 0)
    (Heard : H → List Hearing → Type 0) (Gave : C → List (Option ℕ) → Type 0) (most : ℕ)
    (links : Links) (office : Office V) (wire : W) (spool : S) (listener : H) (clock : C)
    (links_then : Links) (office_then : Office V) (wire_then : W) (spool_then : S)
    (listener_then : H) (clock_then : C) : Type 0 where
  pub moments : List ℕ
  pub row : ℕ
  pub stopped : Bool
  -- the wire after the last turn that was done
  pub wire_left : W
  pub turned : HasTurned vault Asked AskedFiles Heard Gave stopped moments row
      links office wire spool listener clock
      links_then office_then wire_left spool_then listener_then clock_then
  pub last : WaitsOnceMore Asked stopped links_then wire_left wire_then
  pub within : length moments ≤ most
  pub all : stopped ≡ false → length moments ≡ most
