-- Which links are read between two waits: those that wait longest for it.
use Rattle.std.specs.Prelude.{◌≡◌, ◌≤◌, ◌<◌, ℕ, Bool, true, false, not, ◌&&◌, ◌||◌, ◌+◌, ◌*◌, ◌==◌, ◌^◌, min}
use Rattle.std.specs.Prelude.{nat_lt, nat_le, List, [], ◌∷◌, filter, map, length, count_by, if◌then◌else◌}
use Rattle.serving.specs.declared.sockets.Place.{Place}

-- a read of its socket may give octets at once
abbrev pub presses : Place → Bool
presses p = p.unread && (not p.is_blocked && (length p.ahead == 0))

-- how many links are read while so many press; all 160 if more than 40
abbrev pub most_due : (pressing : ℕ) → ℕ
most_due pressing = if nat_le pressing 20 then 4 else if nat_le pressing 40 then 8 else 160

-- of the links that press, the numbers of their last turns at reading; none if all are read
abbrev pub waiting_turns : List Place → List ℕ
waiting_turns places =
    if nat_le (count_by presses places) 40 then map (λ p. p.turn) (filter presses places) else []

-- how many of these turns were before that one
abbrev pub before : (turn : ℕ) → List ℕ → ℕ
before turn turns = count_by (λ other. nat_lt other turn) turns

-- It presses, and its other end has ended or fewer than `most` wait longer.
abbrev pub is_due : (most : ℕ) → (waiting : List ℕ) → Place → Bool
is_due most waiting p = presses p && (p.is_ending || nat_lt (before p.turn waiting) most)

-- its turn from now on: one after all those before this wait, if it is due
abbrev pub turn_behind : (turns : ℕ) → Place → ℕ
turn_behind turns p = min (turns + p.at) 18446744073709551615

abbrev pub chosen : (turns most : ℕ) → (waiting : List ℕ) → Place → Place
chosen turns most waiting p =
    let due = is_due most waiting p in
    record {
      port = p.port;
      number = p.number;
      stream = p.stream;
      peer = p.peer;
      ahead = p.ahead;
      unread = p.unread;
      is_ending = p.is_ending;
      is_blocked = p.is_blocked;
      at = p.at;
      is_due = due;
      turn = if due then turn_behind turns p else p.turn;
    }

-- a wait chooses
abbrev pub chosen_of : (turns : ℕ) → List Place → List Place
chosen_of turns places =
    map (chosen turns (most_due (count_by presses places)) (waiting_turns places)) places

-- how many links had their last turn before this one
abbrev pub ahead_of : (turn : ℕ) → List Place → ℕ
ahead_of turn places = before turn (map (λ p. p.turn) places)

-- No link is passed over for ever: at each wait at which it presses and isn't due, four of those
-- that had their turns before it, at least, have theirs after it from then on.
abbrev pub NobodyIsPassedOver : Type 0
NobodyIsPassedOver = (turns : ℕ) (places : List Place) (p : Place) → turns < 2 ^ 64 → p.turn < turns
    → presses p ≡ true → is_due (most_due (count_by presses places)) (waiting_turns places) p ≡ false
    → ahead_of p.turn (chosen_of turns places) + 4 ≤ ahead_of p.turn places

-- ---- many waits

-- a wait: where it numbers its turns from, and the places as it begins
pub record Wait : Type 0 where
  pub turns : ℕ
  pub places : List Place

-- at this wait a link presses whose last turn was this one, and isn't due
pub record PassesOver (turn : ℕ) (wait : Wait) : Type 0 where
  pub place : Place
  pub last : place.turn ≡ turn
  pub early : turn < wait.turns
  pub fits : wait.turns < 2 ^ 64
  pub pressing : presses place ≡ true
  pub passed : is_due (most_due (count_by presses wait.places)) (waiting_turns wait.places) place ≡ false

-- Waits one after another pass it over. Between two of them links come and go, and none gets a turn
-- before this one.
abbrev pub PassOver : (turn : ℕ) → Wait → List Wait → Type 0
PassOver turn wait [] = PassesOver turn wait
PassOver turn wait (next ∷ waits) = PassesOver turn wait
    × (ahead_of turn next.places ≤ ahead_of turn (chosen_of wait.turns wait.places))
    × PassOver turn next waits

-- If n links had their turns before it, no more than n / 4 waits do.
abbrev pub NoMoreThanAFourth : Type 0
NoMoreThanAFourth = (turn : ℕ) (wait : Wait) (waits : List Wait) → PassOver turn wait waits
    → 4 * length (wait ∷ waits) ≤ ahead_of turn wait.places
