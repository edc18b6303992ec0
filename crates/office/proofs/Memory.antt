-- Events that take no memory aren't answered that it was wanting.
use Rattle.std.proofs.Common.{◌≡◌, ℕ, true, false, true≢false, List, [], ◌∷◌, Option, Some, None, length, sym, ◌∙◌, ap, subst, arith, nat_lt, lt-ltb}
use Rattle.vault.specs.Changes.{Contents}
use Rattle.office.specs.History.{Tag, Done, Failed, NoMemory}
use Rattle.office.specs.Events.{Trace, Event}
use Rattle.office.specs.Events as event
use Rattle.office.specs.Outcomes.{Outcome, Reason, HasMemory}
use Rattle.office.specs.Expected.{IsOutcome, may_show, shown_at, or_ignored, ignored}
use Rattle.office.specs.Output.{is_feeding}
use Rattle.office.specs.Kept.{Kept}
use Rattle.office.specs.Stands.{Matches, seen, untaken_of, lent_by}
use Rattle.office.specs.Seen.{event_seen, outcome_seen, followed_by}
use Rattle.office.specs.Runs.{Step, AreSteps, HaveMemory}
use Rattle.office.specs.declared.event.Event.{Event as Given}
use Rattle.office.specs.Trace.{history, rest, rest_if, most_lent}
use Rattle.office.proofs.Owing.{owes_more}

-- while something is still to come, more is owed than is lent
pub more_than_lent : (c : Contents) (T : Trace) (x : ℕ) (k : Kept) → Matches c (seen T x) k → is_feeding k.output.source ≡ true → nat_lt most_lent (length (rest T x)) ≡ true
more_than_lent c T x k m feeds =
    let whole : rest T x ≡ untaken_of (seen T x) = ap (λ b. rest_if b (untaken_of (seen T x))) m.opened in
    let size = ap length whole in
    let more = owes_more c k.session k.output (untaken_of (seen T x)) m.owed feeds in
    let filled = m.owed.filled feeds in
    lt-ltb most_lent (length (rest T x)) (omega (arith, size, more, filled))

-- ---- by the outcome

by_tag : (T : Trace) (e : Event) (t : Tag) → may_show T e t ≡ true → may_show T e NoMemory ≡ false → HasMemory (shown_at T.base T.log (history T) e t)
by_tag T e NoMemory may none = absurd (true≢false (sym may ∙ none))
by_tag T e Failed may none = tt
by_tag T (event.Start host boot limits) Done may none = tt
by_tag T event.Connect Done may none = tt
by_tag T (event.Bytes c piece) Done may none = tt
by_tag T (event.Took c octets) Done may none = tt
by_tag T (event.Gone c) Done may none = tt
by_tag T (event.Tick now) Done may none = tt
by_tag T (event.Deposit d class id text) Done may none = tt
by_tag T (event.Admin command) Done may none = tt
by_tag T (event.Restart boot) Done may none = tt

or_so : (why : Option Reason) (o : Outcome) → HasMemory o → HasMemory (or_ignored why o)
or_so None o h = h
or_so (Some reason) o h = tt

-- an event that may not be answered that memory was wanting isn't
pub has_memory : (T : Trace) (lent : ℕ → ℕ) (e : Event) (o : Outcome) → IsOutcome T lent e o → may_show T e NoMemory ≡ false → HasMemory o
has_memory T lent e o is none = subst HasMemory (sym is.is) (or_so (ignored T lent e) _ (by_tag T e is.tag is.may none))

-- ---- a run

pub steps_have_memory : {V : Type 0} (H : V → Contents → Type 0) (T : Trace) (es : List Given) (ss : List Step) → AreSteps H T es ss → HaveMemory T es ss
steps_have_memory H T [] [] are = tt
steps_have_memory H T [] (s ∷ ss) are = tt
steps_have_memory H T (e ∷ es) [] are = tt
steps_have_memory H T (e ∷ es) (s ∷ ss) are =
    let is = are.0 in
    (has_memory T (lent_by is.office) (event_seen e) (outcome_seen s.outcome) is.outcome, steps_have_memory H (followed_by T (event_seen e) s.outcome) es ss are.1)
