-- A log that begins with an opening, one event on.
use Rattle.std.proofs.Common.{◌≡◌, ◌⊎◌, inl, inr, ⊎_elim, ℕ, List, [], ◌∷◌, refl}
use Rattle.office.specs.History.{Tag}
use Rattle.office.specs.Events.{Limits, Event, EventTag, Ignored, Tagged, Log}
use Rattle.office.specs.Events as event
use Rattle.office.specs.Stopping.{taken_as_done}
use Rattle.office.specs.Laws.{IsStart, BeginsWithStart, HasBegun, IsNewOrBegun}

one_on : (e : Event) (m : EventTag) (T : Log) → BeginsWithStart T → BeginsWithStart ((e, m) ∷ T)
one_on e m [] h = absurd h
one_on e m (x ∷ T) h = h

pub begins_on : (e : Event) (m : EventTag) (T : Log) → HasBegun T → HasBegun ((e, m) ∷ T)
unfolding HasBegun
begins_on e m T h = one_on e m T h

pub begins_so : (T : Log) → HasBegun T → BeginsWithStart T
unfolding HasBegun
begins_so T h = h

pub begun_of : (T : Log) → HasBegun T → IsNewOrBegun T
unfolding HasBegun IsNewOrBegun
begun_of T h = inr h

-- what a store keeps of a trace with one event more
pub begun_on : (e : Event) (m : EventTag) (T : Log) → HasBegun T → IsNewOrBegun ((e, m) ∷ T)
begun_on e m T h = begun_of ((e, m) ∷ T) (begins_on e m T h)

pub new_log : IsNewOrBegun []
unfolding IsNewOrBegun
new_log = inl refl

start_on : (host : List ℕ) (boot : ℕ) (limits : Limits) (t : Tag) (T : Log) → (T ≡ []) ⊎ BeginsWithStart T → BeginsWithStart ((event.Start host boot limits, Tagged t) ∷ T)
start_on host boot limits t [] h = tt
start_on host boot limits t (x ∷ T) h = ⊎_elim (λ (e : (x ∷ T) ≡ []). cc) (λ (k : BeginsWithStart (x ∷ T)). k) h

pub begins_anew : (host : List ℕ) (boot : ℕ) (limits : Limits) (t : Tag) (T : Log) → IsNewOrBegun T → HasBegun ((event.Start host boot limits, Tagged t) ∷ T)
unfolding HasBegun IsNewOrBegun
begins_anew host boot limits t T h = start_on host boot limits t T h

start_done : (e : Event) (m : EventTag) → IsStart e m → IsStart e (taken_as_done m)
start_done (event.Start host boot limits) Ignored h = h
start_done (event.Start host boot limits) (Tagged t) h = tt
start_done event.Connect m h = absurd h
start_done (event.Bytes c piece) m h = absurd h
start_done (event.Took c octets) m h = absurd h
start_done (event.Gone c) m h = absurd h
start_done (event.Tick now) m h = absurd h
start_done (event.Deposit d class id text) m h = absurd h
start_done (event.Admin command) m h = absurd h
start_done (event.Restart boot) m h = absurd h

done_so : (e : Event) (m : EventTag) (T : Log) → BeginsWithStart ((e, m) ∷ T) → BeginsWithStart ((e, taken_as_done m) ∷ T)
done_so e m [] h = start_done e m h
done_so e m (x ∷ T) h = h

-- and with its last event taken as done
pub begun_done : (e : Event) (m : EventTag) (T : Log) → IsNewOrBegun ((e, m) ∷ T) → IsNewOrBegun ((e, taken_as_done m) ∷ T)
unfolding IsNewOrBegun
begun_done e m T h = ⊎_elim (λ (n : ((e, m) ∷ T) ≡ []). cc) (λ (k : BeginsWithStart ((e, m) ∷ T)). inr (done_so e m T k)) h
