-- Clients' links are served one after the other: what is done for each, and whether a session ended
-- meanwhile.
use Rattle.std.specs.Prelude.{◌≡◌, ◌≤◌, ℕ, Bool, true, false, ◌+◌, ◌||◌, List, [], ◌∷◌, ◌++◌}
use Rattle.std.specs.Prelude.{length, filter}
use Rattle.std.specs.List.{All}
use Rattle.vault.specs.Records.{Records}
use Rattle.office.specs.Events.{Event, EventTag, Log}
use Rattle.office.specs.Events as event
use Rattle.office.specs.Trace.{history}
use Rattle.office.specs.Sessions.{live}
use Rattle.office.specs.Taken.{trace_of}
use Rattle.serving.specs.Calls.{Call, Looked, Read, Wrote}
use Rattle.serving.specs.Paces.{releases_lock}
use Rattle.serving.specs.Works.{most_writes}
use Rattle.serving.specs.declared.wire.Link.{Link}
use Rattle.serving.specs.declared.wire.Port.TheVariants.{Pop}
use Rattle.serving.specs.declared.links.Seat.{Seat}

-- an event of a connection
abbrev pub IsEventOf : (c : ℕ) → Event × EventTag → Type 0
IsEventOf c (event.Bytes d piece, m) = d ≡ c
IsEventOf c (event.Took d octets, m) = d ≡ c
IsEventOf c (event.Gone d, m) = d ≡ c
IsEventOf c _ = ⊥

-- a call on a client's link
abbrev pub IsCallOn : Link → Call → Type 0
IsCallOn link (Looked Pop l io octets) = l ≡ link
IsCallOn link (Read Pop l room io octets) = l ≡ link
IsCallOn link (Wrote Pop l offered io octets) = l ≡ link
IsCallOn link _ = ⊥

abbrev pub is_read : Call → Bool
is_read (Read port link room io octets) = true
is_read _ = false

abbrev pub is_write : Call → Bool
is_write (Wrote port link offered io octets) = true
is_write _ = false

-- For a seat just events of its own connection were given, and just calls on its own link made: so
-- many reads and writes at most.
pub record ServesSeat (s : Seat) (reads writes : ℕ) (given : Log) (calls : List Call) : Type 0 where
  pub events : All (IsEventOf s.connection) given
  pub asked : All (IsCallOn s.link) calls
  pub read : length (filter is_read calls) ≤ reads
  pub written : length (filter is_write calls) ≤ writes

-- These seats were served in their order: the link of each was read from once at most, and written
-- on 128 times at most (the loop writes before it reads, and after that, 64 times each). And
-- `lock_released` exactly if logins wait for locks and a session lived before its own seat was
-- served, but not after that.
pub data ServesInOrder (wait : ℕ) (B : Records) (older : Log)
    : List Seat → (given : Log) → List Call → (lock_released : Bool) → Type 0 where
  NoSeat : ServesInOrder wait B older [] [] [] false
  OneMoreSeat : (seats : List Seat) (given : Log) (calls : List Call) (lock_released : Bool)
      (s : Seat) (g : Log) (c : List Call)
      → ServesInOrder wait B older seats given calls lock_released
      → ServesSeat s 1 (most_writes + most_writes) g c
      → ServesInOrder wait B older (seats ++ s ∷ []) (g ++ given) (calls ++ c)
      (lock_released
      || releases_lock wait (live (history (trace_of B (given ++ older))) s.connection)
      (live (history (trace_of B (g ++ (given ++ older)))) s.connection))
