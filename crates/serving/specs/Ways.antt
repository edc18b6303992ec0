-- How clients' links are served, as the parts of a turn say it: after any log, and in any way. Of a
-- whole turn it is `HadItsTurn` of specs/Turns.
use Rattle.std.specs.Prelude.{◌≡◌, ◌⊎◌, ℕ, Bool, true, ◌||◌, List, length}
use Rattle.vault.specs.Records.{Records}
use Rattle.office.specs.Events.{Log, Trace}
use Rattle.office.specs.Trace.{is_open}
use Rattle.serving.specs.Calls.{Call}
use Rattle.serving.specs.Settings.{Settings}
use Rattle.serving.specs.KeptBack.{reads_by_line, may_by, IsHeldBack}
use Rattle.serving.specs.Quits.{AwaitsQuit}
use Rattle.serving.specs.Works.{share_by, had_its_turn}
use Rattle.serving.specs.declared.links.Seat.{Seat}
use Rattle.serving.specs.declared.newcomers.Newcomer.{Newcomer}

-- how links are served: the share of each, for how many seconds a login waits for a lock, whether
-- lines are read one at a time before a login, of which connections logins may be kept back,
-- whether the store prepares QUITs that stay unread, and whether the next turn doesn't wait
pub record Way : Type 0 where
  pub share : ℕ
  pub wait : ℕ
  pub by_line : Bool
  pub may : ℕ → Bool
  pub is_preparing : Bool
  pub poll_now : Bool

-- these links are served, by these settings, and whether a session ended and a QUIT stayed unread
-- meanwhile
abbrev pub way_by : Settings → (now : ℕ) → List Newcomer → (seats : List Seat)
    → (lock_released is_preparing poll_now : Bool) → Way
way_by set now newcomers seats lock_released is_preparing poll_now = record {
  share = share_by (length seats);
  wait = set.wait;
  by_line = reads_by_line set.wait (set.slow_guesses || lock_released);
  may = may_by set.slow_guesses now newcomers seats lock_released;
  is_preparing = is_preparing;
  poll_now = poll_now;
}

-- a seat's link had its turn, or stays unread for a cause, if its connection is open by then
abbrev pub HadTurn : Way → (B : Records) (older given : Log) → (after : Trace) → List Call → Seat
    → Type 0
HadTurn way B older given after calls s = is_open after s.connection ≡ true
    → (had_its_turn way.share way.poll_now s.link calls ≡ true)
    ⊎ (IsHeldBack B older given calls way.wait way.by_line (way.may s.connection) s
    ⊎ ((way.is_preparing ≡ true) × AwaitsQuit B older given calls s))
