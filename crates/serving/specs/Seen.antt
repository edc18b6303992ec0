-- What is seen of one turn, stage by stage: the events that its office was given, the newest first,
-- and the calls that were made on its wire and its spool, the newest last.
use Rattle.std.specs.Prelude.{ℕ, Bool, List, ◌++◌}
use Rattle.office.specs.Events.{Log, Trace}
use Rattle.office.specs.Taken.{trace_of}
use Rattle.serving.specs.Calls.{Call}
use Rattle.serving.specs.Settings.{settings}
use Rattle.serving.specs.Spools.{FileCall}
use Rattle.serving.specs.KeptBack.{may_by}
use Rattle.serving.specs.Works.{Came}
use Rattle.serving.specs.declared.links.Links.{Links}
use Rattle.serving.specs.declared.links.Seat.{Seat}
use Rattle.serving.specs.declared.requests.Exchange.{Exchange}

-- the numbers are those of docs/ARCHITECTURE.md, "One turn of the loop"
pub record Seen : Type 0 where
  -- 1. the calls by which it waits
  pub wait : List Call
  -- 2. the events by which the office learns the moment
  pub tick : Log
  -- 3. the clients' links that came, with the openings that were asked for, and the ends of those
  -- that made room; which seats are taken then; and which links of the administration are held then
  pub came : List Came
  pub connects : Log
  pub accepts : List Call
  pub seats : List Seat
  pub admin_accepts : List Call
  pub held : List Exchange
  -- 4. as clients' links are served, and whether a client's session ended meanwhile, and whether a
  -- link stays unread for a QUIT that the store prepares
  pub served : Log
  pub serves : List Call
  pub lock_released : Bool
  pub is_preparing : Bool
  -- 5. as the administration's links are served, as late clients are ended, and as links are closed
  pub commands : Log
  pub admin_serves : List Call
  pub late : Log
  pub closes : List Call
  -- 6. as a file is tried
  pub deposits : Log
  pub file_calls : List FileCall

-- the events before the links of the administration are served, and before the file is tried
abbrev pub before_commands : Seen → Log
before_commands t = t.served ++ (t.connects ++ t.tick)

abbrev pub before_deposits : Seen → Log
before_deposits t = t.late ++ (t.commands ++ before_commands t)

-- all events, and all calls on the wire
abbrev pub given_in : Seen → Log
given_in t = (t.deposits ++ t.late) ++ (t.commands ++ before_commands t)

abbrev pub calls_in : Seen → List Call
calls_in t =
    ((((t.wait ++ t.accepts) ++ t.admin_accepts) ++ t.serves) ++ t.admin_serves) ++ t.closes

-- the trace after all of them
abbrev pub trace_after : Trace → Seen → Trace
trace_after T t = trace_of T.base (given_in t ++ T.log)

-- of which connections logins may be kept back in it
abbrev pub may_keep : (now : ℕ) → Links → Seen → (c : ℕ) → Bool
may_keep now links t c = may_by (settings links).slow_guesses now
    links.clients.newcomers.newcomers.items t.seats t.lock_released c
