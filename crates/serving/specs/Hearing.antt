-- What a listener hears of a turn: accounts of connections, by the history.
use Rattle.std.specs.Prelude.{ℕ, List, [], ◌∷◌, ◌++◌, map, filter}
use Rattle.vault.specs.Records.{Records}
use Rattle.vault.specs.Changes.{Contents}
use Rattle.office.specs.Accounts.{account_of}
use Rattle.office.specs.Answers.{AdminCommand, EndSession}
use Rattle.office.specs.Events.{Event, EventTag, Log, Trace}
use Rattle.office.specs.Events as event
use Rattle.office.specs.Taken.{trace_of}
use Rattle.office.specs.Stands.{StandsFor, vault_of}
use Rattle.office.specs.declared.office.Office.{Office}
use Rattle.office.specs.declared.account.Account.{Account}
use Rattle.office.specs.declared.account.Account.TheVariants as account
use Rattle.office.specs.declared.account.End.{End}
use Rattle.office.specs.declared.account.End.TheVariants as end
use Rattle.serving.specs.Calls.{Call}
use Rattle.serving.specs.Seen.{Seen}
use Rattle.serving.specs.Works.{is_shut_seat}
use Rattle.serving.specs.declared.links.Links.{Links}
use Rattle.serving.specs.declared.links.Seat.{Seat}

-- of which connection something is heard, and what
abbrev pub Hearing : Type 0
Hearing = ℕ × Account

-- ---- of events, by the trace before each

-- of a command with this account: how it ended a session
abbrev pub heard_by : AdminCommand → Account → List Hearing
heard_by (EndSession c) account = (c, account) ∷ []
heard_by _ account = []

-- of an event: its account, if it is a client's or ends a session
abbrev pub heard_of : Trace → Event → EventTag → List Hearing
heard_of T (event.Bytes c piece) m = (c, account_of T (event.Bytes c piece) m) ∷ []
heard_of T (event.Took c octets) m = (c, account_of T (event.Took c octets) m) ∷ []
heard_of T (event.Gone c) m = (c, account_of T (event.Gone c) m) ∷ []
heard_of T (event.Admin command) m = heard_by command (account_of T (event.Admin command) m)
heard_of T e m = []

-- of events after an older log, in their order
abbrev pub heard_of_all : Records → (older given : Log) → List Hearing
heard_of_all B older [] = []
heard_of_all B older ((e, m) ∷ given) =
    heard_of_all B older given ++ heard_of (trace_of B (given ++ older)) e m

-- ---- of connections that serving ends, or that a moment ended

-- of an event by which serving ends a connection for this cause
abbrev pub end_by : End → Event → List Hearing
end_by why (event.Gone c) = (c, account.Ended why) ∷ []
end_by why e = []

-- of such events, in their order
abbrev pub ends_by : End → Log → List Hearing
ends_by why [] = []
ends_by why ((e, m) ∷ given) = ends_by why given ++ end_by why e

-- of a seat whose connection was idle for too long
abbrev pub idle_end : Seat → Hearing
idle_end s = (s.connection, account.Ended end.Idle)

-- of each seat whose connection isn't open after a moment
abbrev pub idle_ends : (after : Trace) → List Seat → List Hearing
idle_ends after seats = map idle_end (filter (is_shut_seat after) seats)

-- Of a turn, in this order: of each seat whose connection the moment ended, that it was idle; of
-- each client whose place a newcomer got, that the house was full; the accounts of clients' events
-- and of commands that end sessions; and of each client that is late, that it is.
abbrev pub hearings : Trace → Links → Seen → List Hearing
hearings T links t = idle_ends (trace_of T.base (t.tick ++ T.log)) links.clients.seats.items
    ++ (ends_by end.FullHouse t.connects
    ++ (heard_of_all T.base (t.connects ++ (t.tick ++ T.log)) (t.commands ++ t.served)
    ++ ends_by end.TooLate t.late))

-- ---- what a listener heard, and nothing else

-- just this
pub record HasHeard {H : Type 0} (Heard : H → List Hearing → Type 0) (listener listener_then : H)
    (more : List Hearing) : Type 0 where
  pub is : (before : List Hearing) → Heard listener before → Heard listener_then (before ++ more)

-- what is heard of these events, after any log for which the office stands
pub record HasHeardOf {V H : Type 0} (Holds : V → Contents → Type 0) (IsClean : V → Type 0)
    (Heard : H → List Hearing → Type 0) (office : Office V) (listener : H)
    (office_then : Office V) (listener_then : H) (given : Log) : Type 0 where
  pub is : (B : Records) (L : Log) → StandsFor Holds office (trace_of B L)
      → IsClean (vault_of office_then)
      → HasHeard Heard listener listener_then (heard_of_all B L given)

-- of a part of a turn: just what is heard of its events was heard, and of these this holds
abbrev pub WithHeard : {V H : Type 0} (Holds : V → Contents → Type 0) (IsClean : V → Type 0)
    (Heard : H → List Hearing → Type 0) (office : Office V) (listener : H)
    (office_then : Office V) (listener_then : H) (Facts : Log → List Call → Type 0)
    → Log → List Call → Type 0
WithHeard Holds IsClean Heard office listener office_then listener_then Facts given calls =
    HasHeardOf Holds IsClean Heard office listener office_then listener_then given
    × Facts given calls

-- the same of what was done after a log
abbrev pub HeardApart : {H : Type 0} (Heard : H → List Hearing → Type 0)
    (listener listener_then : H) (Did : Records → Log → Log → List Call → Type 0)
    → Records → Log → Log → List Call → Type 0
HeardApart Heard listener listener_then Did B L given calls =
    HasHeard Heard listener listener_then (heard_of_all B L given) × Did B L given calls
