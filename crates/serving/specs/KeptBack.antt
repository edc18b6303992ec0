-- Why a client's link stays unread in a turn, or is read by its first line alone.
use Rattle.std.specs.Prelude.{◌≡◌, ◌⊎◌, ℕ, Bool, true, not, ◌&&◌, ◌||◌, ◌==◌, nat_le, nat_lt, List}
use Rattle.std.specs.Prelude.{◌++◌, length, filter}
use Rattle.std.specs.List.{Contains}
use Rattle.vault.specs.Records.{Records}
use Rattle.office.specs.Events.{Log, Trace}
use Rattle.office.specs.Logins.{brings_login}
use Rattle.office.specs.Taken.{trace_of}
use Rattle.office.specs.Waiting as waiting
use Rattle.serving.specs.Calls.{Call, Looked, Read}
use Rattle.serving.specs.Newcomers.{newcomer, waited_of}
use Rattle.serving.specs.Paces.{first_line, most_paced}
use Rattle.serving.specs.declared.wire.Port.TheVariants.{Pop}
use Rattle.serving.specs.declared.wire.Io.{Io}
use Rattle.serving.specs.declared.links.Seat.{Seat}
use Rattle.serving.specs.declared.newcomers.Newcomer.{Newcomer}

-- two of these seats have one number, as none do between turns
abbrev pub is_shared : List Seat → (c : ℕ) → Bool
is_shared seats c = nat_le 2 (length (filter (λ s. s.connection == c) seats))

-- Logins of a connection may be kept back: after a session ended in this turn; or if guesses are
-- slow, while one has lain unread for less than 15 seconds, by who was noted as the turn began.
abbrev pub may_by : (slow : Bool) (now : ℕ) → List Newcomer → List Seat → (lock_released : Bool) → (c : ℕ)
    → Bool
may_by slow now newcomers seats lock_released c = lock_released || (slow
    && (nat_lt (waited_of now (newcomer c newcomers)) most_paced || is_shared seats c))

-- with this piece a connection's next line is a login that waits for its maildrop's lock, or any
-- login, if logins may be kept back
abbrev pub IsKeptBack : Trace → (c : ℕ) → (piece : List ℕ) → (wait : ℕ) (may : Bool) → Type 0
IsKeptBack T c piece wait may =
    (waiting.waits T c piece wait ≡ true) ⊎ ((may ≡ true) × (brings_login T c piece ≡ true))

-- A link was looked at, and showed a piece that is kept back: so it is after some of these events.
pub record StaysUnread (B : Records) (older given : Log) (calls : List Call) (wait : ℕ) (may : Bool)
    (s : Seat) : Type 0 where
  pub piece : List ℕ
  pub io : Io
  pub shown : Contains calls (Looked Pop s.link io piece)
  pub later : Log
  pub front : Log
  pub is : given ≡ later ++ front
  pub kept : IsKeptBack (trace_of B (front ++ older)) s.connection piece wait may

-- the link of one of these seats, whose connection this is, stays unread
pub record LiesUnread (B : Records) (older given : Log) (calls : List Call) (wait : ℕ) (may : Bool)
    (seats : List Seat) (c : ℕ) : Type 0 where
  pub seat : Seat
  pub among : Contains seats seat
  pub is : seat.connection ≡ c
  pub unread : StaysUnread B older given calls wait may seat

-- lines are read one at a time before a login: if logins wait for a lock, or may be kept back
abbrev pub reads_by_line : (wait : ℕ) (may : Bool) → Bool
reads_by_line wait may = may || not (wait == 0)

-- what a link showed was read by its first line, if lines are read one at a time
pub record IsReadByLine (calls : List Call) (by_line : Bool) (s : Seat) : Type 0 where
  pub piece : List ℕ
  pub io : Io
  pub io_then : Io
  pub octets : List ℕ
  pub held : by_line ≡ true
  pub shown : Contains calls (Looked Pop s.link io piece)
  pub read : Contains calls (Read Pop s.link (first_line piece) io_then octets)

-- so much of a link is kept back: all of it, or what is after its first line
abbrev pub IsHeldBack : (B : Records) (older given : Log) (calls : List Call) (wait : ℕ)
    (by_line may : Bool) → Seat → Type 0
IsHeldBack B older given calls wait by_line may s =
    IsReadByLine calls by_line s ⊎ StaysUnread B older given calls wait may s
