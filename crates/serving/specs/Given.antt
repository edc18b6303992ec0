-- What is seen of the events that an office was given, the newest first.
use Rattle.std.specs.Prelude.{◌≡◌, ⊤, ℕ, Bool, true, false, List, [], ◌∷◌, ◌++◌, length, filter}
use Rattle.std.specs.Prelude.{filter_map, Option, Some, None}
use Rattle.std.specs.List.{All}
use Rattle.vault.specs.Records.{Records}
use Rattle.office.specs.History.{Done, Failed}
use Rattle.office.specs.Events.{Event, EventTag, Tagged, Log}
use Rattle.office.specs.Events as event
use Rattle.office.specs.Taken.{trace_of, IsAdmitted}
use Rattle.serving.specs.Newcomers.{is_late}
use Rattle.serving.specs.declared.newcomers.Newcomer.{Newcomer}

-- each moment that it was given
abbrev pub moment_of : Event × EventTag → Option ℕ
moment_of (event.Tick now, m) = Some now
moment_of _ = None

abbrev pub moments : Log → List ℕ
moments given = filter_map moment_of given

-- each opening that was asked for
abbrev pub is_opening : Event × EventTag → Bool
is_opening (event.Connect, m) = true
is_opening _ = false

abbrev pub openings : Log → ℕ
openings given = length (filter is_opening given)

-- an opening wasn't done: it was ignored, or wanted memory
abbrev pub is_refusal : Event × EventTag → Bool
is_refusal (event.Connect, Tagged Done) = false
is_refusal (event.Connect, m) = true
is_refusal _ = false

abbrev pub refusals : Log → ℕ
refusals given = length (filter is_refusal given)

-- an event failed
abbrev pub is_failed : Event × EventTag → Bool
is_failed (e, Tagged Failed) = true
is_failed _ = false

-- each event after an older log has a tag that it may have there
abbrev pub AreNewlyAdmitted : Records → (older given : Log) → Type 0
AreNewlyAdmitted B older [] = ⊤
AreNewlyAdmitted B older ((e, m) ∷ given) =
    IsAdmitted (trace_of B (given ++ older)) e m × AreNewlyAdmitted B older given

-- deposits, and no other event
abbrev pub AreDeposits : Log → Type 0
AreDeposits [] = ⊤
AreDeposits ((event.Deposit d class id text, m) ∷ given) = AreDeposits given
AreDeposits (x ∷ given) = ⊥

-- a connection goes because its client is late, and nothing else is done
abbrev pub IsLateGone : (now seconds : ℕ) → List Newcomer → Event × EventTag → Type 0
IsLateGone now seconds newcomers (event.Gone c, m) = is_late now seconds newcomers c ≡ true
IsLateGone now seconds newcomers _ = ⊥

abbrev pub AreLateGone : (now seconds : ℕ) → List Newcomer → Log → Type 0
AreLateGone now seconds newcomers given = All (IsLateGone now seconds newcomers) given
