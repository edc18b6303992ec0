-- Clients that haven't logged in since they were accepted.
use Rattle.std.specs.Prelude.{◌≡◌, ◌⊎◌, ℕ, Bool, true, false, not, ◌-◌, ◌==◌, ◌&&◌, min, nat_le}
use Rattle.std.specs.Prelude.{List, [], ◌∷◌, ◌++◌, filter, find, map, Option, Some, None, is_some}
use Rattle.std.specs.Prelude.{if◌then◌else◌}
use Rattle.serving.specs.declared.newcomers.Newcomer.{Newcomer}
use Rattle.serving.specs.declared.links.Seat.{Seat}
use Rattle.serving.specs.declared.links.Clients.{Clients}
use Rattle.serving.specs.declared.links.Links.{Links}

-- the one of a connection
abbrev pub newcomer : (connection : ℕ) → List Newcomer → Option Newcomer
newcomer connection newcomers = find (λ n. n.connection == connection) newcomers

-- all but that
abbrev pub others : (connection : ℕ) → List Newcomer → List Newcomer
others connection newcomers = filter (λ n. not (n.connection == connection)) newcomers

-- how many of its seconds are over at a moment: none goes by while its login lies unread
abbrev pub until : (now : ℕ) → (held : Option ℕ) → ℕ
until now None = now
until now (Some moment) = min moment now

abbrev pub spent : (now : ℕ) → Newcomer → ℕ
spent now n = until now n.held - n.since

-- its seconds are over
abbrev pub is_late_by : (now seconds : ℕ) → Option Newcomer → Bool
is_late_by now seconds None = false
is_late_by now seconds (Some n) = nat_le seconds (spent now n)

-- a client took so many seconds or more, and hasn't logged in: of those who are noted with the
-- moment at which they came
abbrev pub is_late : (now seconds : ℕ) → List Newcomer → (c : ℕ) → Bool
is_late now seconds newcomers c =
    not (seconds == 0) && is_late_by now seconds (newcomer c newcomers)

-- a login of it lies unread
abbrev pub lies_unread : Option Newcomer → Bool
lies_unread None = false
lies_unread (Some n) = is_some n.held

-- for how many seconds it has
abbrev pub since_then : (now : ℕ) → (held : Option ℕ) → ℕ
since_then now None = 0
since_then now (Some moment) = now - moment

abbrev pub waited : (now : ℕ) → Newcomer → ℕ
waited now n = since_then now n.held

abbrev pub waited_of : (now : ℕ) → Option Newcomer → ℕ
waited_of now None = 0
waited_of now (Some n) = waited now n

-- its login lies unread at this moment, and since the first such moment; or none does, and the
-- seconds count again from where they stood
abbrev pub held_at : (now : ℕ) → (held : Option ℕ) → Option ℕ
held_at now None = Some now
held_at now (Some moment) = Some moment

abbrev pub since_at : (now : ℕ) → (held : Option ℕ) → (since : ℕ) → ℕ
since_at now None since = since
since_at now (Some moment) since = now - (min moment now - since)

abbrev pub settled : (lies_unread : Bool) → (now : ℕ) → Newcomer → Newcomer
settled true now n = record {
  connection = n.connection;
  since = n.since;
  held = held_at now n.held;
}
settled false now n = record {
  connection = n.connection;
  since = since_at now n.held n.since;
  held = None;
}

abbrev pub settled_if : (connection : ℕ) → (lies_unread : Bool) → (now : ℕ) → Newcomer → Newcomer
settled_if connection lies_unread now n =
    if n.connection == connection then settled lies_unread now n else n

-- so it is noted of a connection
abbrev pub settled_in : (connection : ℕ) → (lies_unread : Bool) → (now : ℕ) → List Newcomer
    → List Newcomer
settled_in connection lies now newcomers = map (settled_if connection lies now) newcomers

-- one more, if it is noted
abbrev pub noted : (is_noted : Bool) → (connection now : ℕ) → List Newcomer → List Newcomer
noted false connection now newcomers = newcomers
noted true connection now newcomers =
    newcomers ++ record { connection = connection; since = now; held = None } ∷ []

-- each newcomer has a seat of its own, in the order of the seats; some seats have none
pub data HaveSeats : List Newcomer → List Seat → Type 0 where
  NoSeat : HaveSeats [] []
  IsNewcomers : (n : Newcomer) (s : Seat) (newcomers : List Newcomer) (seats : List Seat)
      → n.connection ≡ s.connection → HaveSeats newcomers seats
      → HaveSeats (n ∷ newcomers) (s ∷ seats)
  IsAnothers : (s : Seat) (newcomers : List Newcomer) (seats : List Seat)
      → HaveSeats newcomers seats → HaveSeats newcomers (s ∷ seats)

abbrev pub AreSeatedAt : Clients → Type 0
AreSeatedAt links = HaveSeats links.newcomers.newcomers.items links.seats.items

-- those that serving keeps
abbrev pub AllHaveSeats : Links → Type 0
AllHaveSeats links = AreSeatedAt links.clients

-- a seat's connection is noted with this moment, if it wasn't noted before
abbrev pub IsNewlyNoted : (now : ℕ) → (newcomers newcomers_then : List Newcomer) → Seat → Type 0
IsNewlyNoted now newcomers newcomers_then s = newcomer s.connection newcomers ≡ None
    → newcomer s.connection newcomers_then
    ≡ Some (record { connection = s.connection; since = now; held = None })

-- whoever is noted otherwise than before is noted with this moment
abbrev pub AreNotedNow : (now : ℕ) → (newcomers newcomers_then : List Newcomer) → Type 0
AreNotedNow now newcomers newcomers_then = (c : ℕ)
    → (newcomer c newcomers_then ≡ newcomer c newcomers)
    ⊎ (newcomer c newcomers_then ≡ Some (record { connection = c; since = now; held = None }))

-- ---- while links are served

-- A newcomer is noted still, by the same number: so many of its seconds are over at this moment as
-- before, and if they count from this moment they still do.
abbrev pub IsSettled : (now : ℕ) → (before after : Option Newcomer) → Type 0
IsSettled now None after = after ≡ None
IsSettled now (Some n) after = (m : Newcomer) × (after ≡ Some m) × (m.connection ≡ n.connection)
    × (spent now m ≡ spent now n) × (n.since ≡ now → m.since ≡ now)

abbrev pub connection_of : Newcomer → ℕ
connection_of n = n.connection

-- so it is of each, and no one else is noted
pub record AreSettled (now : ℕ) (newcomers newcomers_then : List Newcomer) : Type 0 where
  pub same : map connection_of newcomers_then ≡ map connection_of newcomers
  pub each : (c : ℕ) → IsSettled now (newcomer c newcomers) (newcomer c newcomers_then)

-- the login of a connection was noted as lying unread at this moment, or that none does
pub record Settles (now connection : ℕ) (links links_then : Clients) : Type 0 where
  pub lies : Bool
  pub is : links_then.newcomers.newcomers.items
      ≡ settled_in connection lies now links.newcomers.newcomers.items

-- One is noted, and its seconds count from this moment.
abbrev pub CountsFrom : (now : ℕ) → Option Newcomer → Type 0
CountsFrom now noted = (n : Newcomer) × (noted ≡ Some n) × (n.since ≡ now)

-- that of a seat's connection does, if it wasn't noted before
abbrev pub IsComer : (now : ℕ) → (newcomers newcomers_then : List Newcomer) → Seat → Type 0
IsComer now newcomers newcomers_then s = newcomer s.connection newcomers ≡ None
    → CountsFrom now (newcomer s.connection newcomers_then)
