-- When an office stands for a trace: what it keeps of each connection and of the whole is what the
-- trace says.
use Rattle.std.specs.Prelude.{◌≡◌, ℕ, Bool, true, false, List, [], ◌++◌, length, drop, map, min}
use Rattle.std.specs.Prelude.{◌≤◌, Option, Some, None, IsSome, string_bytes}
use Rattle.std.specs.Ordering.{nat_cmp}
use Rattle.std.specs.BTreeMap.{get}
use Rattle.creds.specs.declared.login_name.LoginName.{LoginName}
use Rattle.popline.specs.Cutting.{cut, coming}
use Rattle.vault.specs.Records.{Records, IsSound, Agree}
use Rattle.vault.specs.Changes.{Contents, records_of}
use Rattle.session.specs.declared.removals.Removals.{Removals}
use Rattle.office.specs.History.{Entry, in_force}
use Rattle.office.specs.Connections.{user, failures, setting, judging, connected, closing, acted}
use Rattle.office.specs.Connections.{serving, sent}
use Rattle.office.specs.Sessions.{live, login, marks, view, holder, records}
use Rattle.office.specs.Replying.{stamp}
use Rattle.office.specs.Events.{Log, Trace}
use Rattle.office.specs.Formed.{are_formed}
use Rattle.office.specs.Laws.{HasBegun, IsNewOrBegun}
use Rattle.office.specs.Log.{opened, limits_in, moment, stream, taken, clock}
use Rattle.office.specs.Trace.{history, is_open_by}
use Rattle.office.specs.Expected.{most_in_a_piece}
use Rattle.office.specs.Transaction.{LiesIn}
use Rattle.office.specs.Answered.{name_cmp}
use Rattle.office.specs.Output.{Owes, reads_text, lent_of}
use Rattle.office.specs.Kept.{Kept, most_failures}
use Rattle.session.specs.Session.{Session}
use Rattle.session.specs.View.{is_marked}
use Rattle.vault.specs.declared.record.Keyed.{Keyed}
use Rattle.vault.specs.declared.vault.Vault.{Ghosts}
use Rattle.vault.specs.declared.record.Message as store
use Rattle.office.specs.declared.office.Office.{Office}

-- ---- the store

-- A store keeps what a trace says: it holds the records of the trace's history. The records that it
-- began with are sound, the events have their form, and the first event, if any, is an opening.
pub record Keeps (Holds : Contents → Type 0) (T : Trace) : Type 0 where
  pub contents : Contents
  pub held : Holds contents
  pub agree : Agree (records_of contents) (records T.base (history T))
  pub sound : IsSound T.base
  pub formed : are_formed T.log ≡ true
  pub began : IsNewOrBegun T.log

-- the trace of these records in which nothing was done
abbrev pub begun : Records → Trace
begun B = record { base = B; log = [] }

-- ---- one connection

-- what a trace says of one connection
pub record Seen : Type 0 where
  pub connected : Bool
  pub closing : Bool
  pub live : Bool
  pub stream : List ℕ
  pub acted : ℕ
  pub serving : Bool
  pub sent : List ℕ
  pub taken : ℕ
  pub user : Option LoginName
  pub failures : ℕ
  pub stamp : List ℕ
  pub judging : Removals
  pub login : Option LoginName
  pub marks : List ℕ
  pub view : List store.Message
  pub clock : ℕ

-- the same, by a log and its history
abbrev pub seen_at : Records → Log → List Entry → ℕ → Seen
seen_at B T G c = record {
  connected = connected G c;
  closing = closing G c;
  live = live G c;
  stream = stream T c;
  acted = acted G c;
  serving = serving G c;
  sent = sent G c;
  taken = taken T c;
  user = user G c;
  failures = failures G c;
  stamp = stamp G c;
  judging = judging G;
  login = login G c;
  marks = marks G c;
  view = view B G c;
  clock = clock T c;
}

-- the same, at the end of a trace
abbrev pub seen : Trace → ℕ → Seen
seen T c = seen_at T.base T.log (history T) c

-- what was sent and isn't taken yet
abbrev pub untaken_of : Seen → List ℕ
untaken_of s = drop s.taken s.sent

-- it is open
abbrev pub is_seen_open : Seen → Bool
is_seen_open s = is_open_by s.connected s.closing (untaken_of s)

-- at most so many octets of a line are kept
abbrev pub most_in_a_line : ℕ
most_in_a_line = 255

-- The session that is kept is the trace's: the same login, the same numbers marked, and a view of
-- messages that the store holds.
pub record IsTransaction (c : Contents) (s : Seen) (k : Session) : Type 0 where
  pub live : s.live ≡ true
  pub login : s.login ≡ Some k.name
  pub judged : k.removals ≡ s.judging
  pub marks : (n : ℕ) → is_marked k.marks n ≡ is_marked s.marks n
  pub kept : List Keyed
  pub lies : LiesIn c k kept
  pub view : map (λ (x : Keyed). x.message) kept ≡ s.view

-- a session is kept exactly if the trace has one
abbrev pub IsSession : Contents → Seen → Option Session → Type 0
IsSession c s None = s.live ≡ false
IsSession c s (Some k) = IsTransaction c s k

-- what is kept of an open connection is what the trace says of it, over a store with these contents
pub record Matches (c : Contents) (s : Seen) (k : Kept) : Type 0 where
  pub opened : is_seen_open s ≡ true
  pub session : IsSession c s k.session
  -- a connection that closes has no session
  pub parted : s.closing ≡ true → s.live ≡ false
  pub taken : s.taken ≤ length s.sent
  pub owed : Owes c k.session k.output (untaken_of s)
  -- more of a message is to come only if the last reply has one
  pub serving : reads_text k.output.source ≡ true → s.serving ≡ true
  pub closing : k.state.closing ≡ s.closing
  pub user : k.state.user ≡ s.user
  pub failures : k.state.failures ≡ min s.failures most_failures
  pub stamp : k.stamp ≡ s.stamp
  pub judged : k.state.removals ≡ s.judging
  pub clock : k.clock ≡ s.clock
  -- whatever comes next, the lines that haven't acted are those that what is kept and it give
  pub lines : (more : List ℕ) → drop s.acted (cut (s.stream ++ more)) ≡ coming k.held
      (k.pending ++ more)
  -- if nothing is owed, all octets that were kept are cut
  pub cut_whole : untaken_of s ≡ [] → k.pending ≡ []
  -- it keeps at most a line and a piece of input: 255 + 4,096 octets
  pub line_kept : length k.held.octets ≤ most_in_a_line
  pub piece_kept : length k.pending ≤ most_in_a_piece

-- a connection that isn't kept isn't open, and nobody is in session on it
pub record IsOver (s : Seen) : Type 0 where
  pub closed : is_seen_open s ≡ false
  pub authorization : s.live ≡ false

-- what is kept of a connection, or that nothing is, fits what the trace says of it
abbrev pub IsKeptFor : Contents → Seen → Option Kept → Type 0
IsKeptFor c s None = IsOver s
IsKeptFor c s (Some k) = Matches c s k

-- ---- the office

-- An office stands for a trace, which begins with an opening. `Holds` says which contents a store
-- holds.
pub record StandsFor {V : Type 0} (Holds : V → Contents
    → Type 0) (o : Office V) (T : Trace) : Type 0 where
  pub keeps : Keeps (Holds o.vault) T
  pub began : HasBegun T.log
  pub policy : o.policy ≡ in_force T.base (history T)
  pub boot : o.boot ≡ (setting (history T)).0
  pub host : string_bytes o.host ≡ (setting (history T)).1
  pub judged : o.limits.removals ≡ judging (history T)
  pub limits : o.limits ≡ limits_in T.log
  pub moment : o.moment ≡ moment T.log
  -- an open connection's number was given since the last restart
  pub numbered : (c : ℕ) → IsSome (get nat_cmp o.connections c) → (1 ≤ c) × (c ≤ opened T.log)
  pub opened : o.opened ≡ opened T.log
  pub connections : (c : ℕ) → IsKeptFor keeps.contents (seen T c) (get nat_cmp o.connections c)
  -- a maildrop's lock is its holder's
  pub locks : (d : List ℕ) → get name_cmp o.locks d ≡ holder (history T) d

-- how many octets an office lends a connection
abbrev pub length_of_lent : Option Kept → ℕ
length_of_lent None = 0
length_of_lent (Some k) = length (lent_of k.output)

-- how many octets an office lends a connection of this number
abbrev pub lent_by : {V : Type 0} → Office V → ℕ → ℕ
lent_by o c = length_of_lent (get nat_cmp o.connections c)

-- the vault that an office was opened over
abbrev pub vault_of : {V : Type 0} → Office V → V
vault_of o = o.vault

-- of each trace that the office stood for before a call, if the store is clean after it
abbrev pub OfEachTrace : {V : Type 0} → Ghosts V → (old new : Office V) → (Trace → Type 0) → Type 0
OfEachTrace vault old new Says =
    (T : Trace) → StandsFor vault.holds old T → vault.is_clean (vault_of new) → Says T
