-- What an office keeps, over other contents of its store.
use Rattle.std.proofs.Common.{ℕ, Option, Some, None}
use Rattle.vault.specs.declared.record.Keyed.{Keyed}
use Rattle.vault.specs.Changes.{Contents}
use Rattle.session.specs.Session.{Session}
use Rattle.office.specs.Laws.{In}
use Rattle.office.specs.Events.{Log}
use Rattle.office.specs.Log.{opened, moment}
use Rattle.office.specs.Kept.{Kept}
use Rattle.office.specs.Stands.{Seen, untaken_of, IsSession, Matches, IsKeptFor}
use Rattle.office.specs.declared.office.Office.{Office}
use Rattle.office.proofs.Lying.{lies_on}
use Rattle.office.proofs.Owing.{owes_on}

-- the newest number and the moment
abbrev pub counters : {V : Type 0} → Office V → ℕ × ℕ
counters o = (o.opened, o.moment)

-- the same by the events
abbrev pub counted : Log → ℕ × ℕ
counted T = (opened T, moment T)

-- the messages of a store are still there
abbrev pub Stays : (c c' : Contents) → Type 0
Stays c c' = (x : Keyed) → In x c.messages → In x c'.messages

pub session_on : (c c' : Contents) (s : Seen) (o : Option Session) → Stays c c' → IsSession c s o → IsSession c' s o
session_on c c' s None stays h = h
session_on c c' s (Some k) stays h = record {
  live = h.live;
  login = h.login;
  judged = h.judged;
  marks = h.marks;
  kept = h.kept;
  lies = lies_on c c' k h.kept h.lies (λ x i within. stays x i);
  view = h.view;
}

matches_with : (c c' : Contents) (s : Seen) (k : Kept) → IsSession c' s k.session → Stays c c' → Matches c s k → Matches c' s k
matches_with c c' s k session stays m = record {
  opened = m.opened;
  session = session;
  parted = m.parted;
  taken = m.taken;
  owed = owes_on c c' k.session k.output (untaken_of s) (λ o e x i within. stays x i) m.owed;
  serving = m.serving;
  closing = m.closing;
  user = m.user;
  failures = m.failures;
  stamp = m.stamp;
  judged = m.judged;
  clock = m.clock;
  lines = m.lines;
  cut_whole = m.cut_whole;
  line_kept = m.line_kept;
  piece_kept = m.piece_kept;
}

-- what is kept of a connection, if the store's messages stay
pub kept_on : (c c' : Contents) (s : Seen) (o : Option Kept) → Stays c c' → IsKeptFor c s o → IsKeptFor c' s o
kept_on c c' s None stays h = h
kept_on c c' s (Some k) stays m = matches_with c c' s k (session_on c c' s k.session stays m.session) stays m
