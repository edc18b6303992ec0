-- What the events alone say; the list of them has the newest first.
use Rattle.std.specs.Prelude.{ℕ, not, ◌&&◌, ◌+◌, ◌==◌, List, [], ◌∷◌, ◌++◌, max, if◌then◌else◌}
use Rattle.popline.specs.Cutting.{has_newline}
use Rattle.office.specs.History.{Done, is_no_memory}
use Rattle.session.specs.declared.removals.Removals.TheVariants.{JudgedAtDele}
use Rattle.office.specs.declared.limits.AdminAccess.{AdminAccess}
use Rattle.office.specs.Events.{Limits, no_access, Event, EventTag, Tagged, Log}
use Rattle.office.specs.Events as event

-- ---- what the events alone say

-- how many connections were opened since the last restart
abbrev pub opened_after : Event → EventTag → ℕ → ℕ
opened_after (event.Start host boot limits) (Tagged t) before = 0
opened_after (event.Restart boot) (Tagged t) before = 0
opened_after event.Connect (Tagged Done) before = before + 1
opened_after _ m before = before

-- the number of the newest connection
abbrev pub opened : Log → ℕ
opened [] = 0
opened ((e, m) ∷ T) = opened_after e m (opened T)

-- the number that the next connection gets
abbrev pub next_number : Log → ℕ
next_number T = opened T + 1

-- the settings before any opening: the least idle seconds, and all else as it is by default
abbrev pub least_limits : Limits
least_limits = record { idle = 600; removals = JudgedAtDele; access = no_access }

-- the settings after an event: an opening sets them
abbrev pub limits_after : Event → EventTag → Limits → Limits
limits_after (event.Start host boot limits) (Tagged t) before = limits
limits_after _ m before = before

-- the settings that the office was opened with
abbrev pub limits_in : Log → Limits
limits_in [] = least_limits
limits_in ((e, m) ∷ T) = limits_after e m (limits_in T)

-- the idle seconds that it was opened with
abbrev pub idle_seconds : Log → ℕ
idle_seconds T = (limits_in T).idle

-- which requests of its administration it was opened to answer
abbrev pub access_in : Log → AdminAccess
access_in T = (limits_in T).access

-- the moment after an event: the greatest tick since the last restart, or 0
abbrev pub moment_after : Event → EventTag → ℕ → ℕ
moment_after (event.Start host boot limits) (Tagged t) before = 0
moment_after (event.Restart boot) (Tagged t) before = 0
moment_after (event.Tick now) (Tagged t) before = max before now
moment_after _ m before = before

-- the present moment, in seconds
abbrev pub moment : Log → ℕ
moment [] = 0
moment ((e, m) ∷ T) = moment_after e m (moment T)

-- The facts of one connection since its opening; `next` is the number that an opening gets.

-- the octets that were accepted from it; a piece without LF that met want of memory isn't
abbrev pub stream_after : Event → EventTag → (next c : ℕ) → List ℕ → List ℕ
stream_after event.Connect (Tagged Done) next c before = if next == c then [] else before
stream_after (event.Bytes n piece) (Tagged t) next c before =
    if n == c && not (is_no_memory t && not (has_newline piece)) then before ++ piece else before
stream_after _ m next c before = before

-- all that a connection gave since its opening
abbrev pub stream : Log → ℕ → List ℕ
stream [] c = []
stream ((e, m) ∷ T) c = stream_after e m (next_number T) c (stream T c)

-- how many octets it took
abbrev pub taken_after : Event → EventTag → (next c : ℕ) → ℕ → ℕ
taken_after event.Connect (Tagged Done) next c before = if next == c then 0 else before
taken_after (event.Took n octets) (Tagged t) next c before =
    if n == c then before + octets else before
taken_after _ m next c before = before

-- how many octets a connection took since its opening
abbrev pub taken : Log → ℕ → ℕ
taken [] c = 0
taken ((e, m) ∷ T) c = taken_after e m (next_number T) c (taken T c)

-- its clock: the moment of its opening, of its last line that acted or of its last taking
abbrev pub clock_after : Event → EventTag → (next now c : ℕ) → ℕ → ℕ
clock_after event.Connect (Tagged Done) next now c before = if next == c then now else before
clock_after (event.Bytes n piece) (Tagged t) next now c before =
    if n == c && has_newline piece then now else before
clock_after (event.Took n octets) (Tagged t) next now c before = if n == c then now else before
clock_after _ m next now c before = before

-- the moment from which a connection's idle time is counted
abbrev pub clock : Log → ℕ → ℕ
clock [] c = 0
clock ((e, m) ∷ T) c = clock_after e m (next_number T) (moment T) c (clock T c)
