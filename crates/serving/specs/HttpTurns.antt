-- Which links of the administration stay when a turn has served them.
use Rattle.std.specs.Prelude.{◌≡◌, ◌≤◌, ◌-◌, ◌<◌, ℕ, Bool, false, nat_le, List, length}
use Rattle.std.specs.Prelude.{slice_index_or, IfNone}
use Rattle.std.specs.List.{All}
use Rattle.serving.specs.declared.requests.Exchange.{Exchange}
use Rattle.serving.specs.declared.links.Links.{Links}

-- after how many seconds a link is closed
abbrev pub most_seconds : ℕ
most_seconds = 60

-- a link was accepted so long ago, or longer
abbrev pub is_late_at : (now : ℕ) → Exchange → Bool
is_late_at now e = nat_le most_seconds (now - e.since)

-- its exchange isn't over, and its link was accepted less than 60 seconds ago
pub record GoesOn (now : ℕ) (e : Exchange) : Type 0 where
  pub live : e.is_over ≡ false
  pub timely : is_late_at now e ≡ false

-- that of the one at a place
abbrev pub GoesOnAt : (now : ℕ) → List Exchange → (place : ℕ) → Type 0
GoesOnAt now held place =
    (place < length held) × ((d : Exchange) → GoesOn now (slice_index_or held place d))

-- how many links of the administration are open at once at most
abbrev pub most_exchanges : ℕ
most_exchanges = 8

-- so many are open, or fewer
abbrev pub AreFew : Links → Type 0
AreFew links = length links.requests.exchanges.items ≤ most_exchanges

-- so it is of these
abbrev pub TheseGoOn : (now : ℕ) → List Exchange → Type 0
TheseGoOn now held = All (GoesOn now) held

-- so it is of all that stay
abbrev pub AllGoOn : (now : ℕ) → Links → Type 0
AllGoOn now links = TheseGoOn now links.requests.exchanges.items

-- ---- requests that aren't whole

-- Such a request has fewer octets: 8,192 of its head, and 1,048,576 of its body.
abbrev pub most_asked : ℕ
most_asked = 1056768

-- so many were read, if there is no response yet
abbrev pub IsShort : Exchange → Type 0
IsShort e = IfNone e.response (length e.read.items < most_asked)

-- of each link that is held
abbrev pub AreShort : Links → Type 0
AreShort links = All IsShort links.requests.exchanges.items
