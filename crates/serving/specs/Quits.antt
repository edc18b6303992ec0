-- Long QUITs, whose lines stay unread in a turn, since the store prepares what they remove.
use Rattle.std.specs.Prelude.{◌≡◌, ◌⊎◌, ◌<◌, ◌+◌, ℕ, Bool, true, false, List, ◌++◌}
use Rattle.std.specs.List.{Contains}
use Rattle.vault.specs.Records.{Records}
use Rattle.office.specs.Events.{Log}
use Rattle.office.specs.Quitting.{brings_long_quit}
use Rattle.office.specs.Taken.{trace_of}
use Rattle.serving.specs.Calls.{Call, Looked}
use Rattle.serving.specs.InOrder.{ServesSeat}
use Rattle.serving.specs.Works.{most_writes}
use Rattle.serving.specs.declared.wire.Port.TheVariants.{Pop}
use Rattle.serving.specs.declared.wire.Io.{Io}
use Rattle.serving.specs.declared.links.Seat.{Seat}
use Rattle.serving.specs.declared.quits.Quits.{Quits}

-- A seat's link stays unread: while it was served, by events and calls of its own, it was looked at
-- and never read, and it showed a piece with which its connection's next line is a QUIT of its
-- session, which has marked more than 128 messages.
pub record AwaitsQuit (B : Records) (older given : Log) (calls : List Call) (s : Seat)
    : Type 0 where
  pub later : Log
  pub own : Log
  pub front : Log
  pub given_are : given ≡ later ++ (own ++ front)
  pub before : List Call
  pub here : List Call
  pub after : List Call
  pub calls_are : calls ≡ before ++ (here ++ after)
  pub unread : ServesSeat s 0 most_writes own here
  pub piece : List ℕ
  pub io : Io
  pub shown : Contains here (Looked Pop s.link io piece)
  pub brings : brings_long_quit (trace_of B (own ++ (front ++ older))) s.connection piece ≡ true

-- so does the link of one of these seats
abbrev pub SomeAwaitsQuit : (B : Records) (older given : Log) (calls : List Call) → List Seat
    → Type 0
SomeAwaitsQuit B older given calls seats =
    (s : Seat) × Contains seats s × AwaitsQuit B older given calls s

-- More links stay unread so: still, if one did before; and if one does now, one did before, or the
-- next turn doesn't wait.
pub record PreparesMore (before now poll_now : Bool) : Type 0 where
  pub still : before ≡ true → now ≡ true
  pub polled : now ≡ true → (before ≡ true) ⊎ (poll_now ≡ true)

-- how many turns in a row a QUIT has stayed unread, after this turn, if it was so many before it
abbrev pub in_a_row : (is_preparing : Bool) → ℕ → ℕ
in_a_row false n = 0
in_a_row true n = n + 1

-- how many these are at most
abbrev pub most_in_a_row : ℕ
most_in_a_row = 1000

-- A QUIT has stayed unread for so many turns in a row, and may for those that are left.
abbrev pub HasStayedFor : ℕ → Quits → Type 0
HasStayedFor row quits = row + quits.turns_left ≡ most_in_a_row

-- While links are served: QUITs stay unread only if turns are left for it, and the turn isn't
-- counted yet.
pub record KeepsCount (before now : Quits) : Type 0 where
  pub same : now.turns_left ≡ before.turns_left
  pub left : now.is_preparing ≡ true → (before.is_preparing ≡ true) ⊎ (0 < before.turns_left)
