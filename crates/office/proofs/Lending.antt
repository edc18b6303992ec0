-- An office lends what it owes, so its events have marks that they may have.
use Rattle.std.proofs.Common.{◌≡◌, ◌≤◌, ℕ, List, [], ◌∷◌, length, refl, ap, arith, nat_cmp, None, Some, Option}
use Rattle.std.specs.BTreeMap.{get}
use Rattle.vault.specs.Changes.{Contents}
use Rattle.office.specs.History.{Done}
use Rattle.office.specs.Events.{Limits, Event, Trace, Tagged, given}
use Rattle.office.specs.Events as event
use Rattle.office.specs.Trace.{history, rest, is_open, untaken, most_lent}
use Rattle.office.specs.Expected.{IsOutcome}
use Rattle.office.specs.Outcomes.{Outcome, event_tag_of}
use Rattle.office.specs.Outcomes as outcome
use Rattle.office.specs.Kept.{Kept}
use Rattle.office.proofs.Owing.{owes_within}
use Rattle.std.proofs.lemmas.List.{length-take}
use Rattle.office.specs.Seen.{event_seen, outcome_seen, followed_by}
use Rattle.office.specs.Stands.{StandsFor, IsKeptFor, seen, untaken_of, lent_by, length_of_lent}
use Rattle.office.specs.Taken.{IsAdmitted, AreAdmitted, IsSentExactly}
use Rattle.office.specs.Runs.{Step, AreSteps, followed}
use Rattle.office.specs.declared.event.Event.{Event as Given}
use Rattle.office.specs.declared.office.Office.{Office}
use Rattle.office.proofs.SentExactly.{taken_is_sent, rest_open}

lends : (k : Contents) (T : Trace) (c : ℕ) (l : Option Kept) → IsKeptFor k (seen T c) l → length_of_lent l ≤ length (rest T c)
lends k T c None over = omega arith
lends k T c (Some connection) m =
    let r : rest T c ≡ untaken T.log (history T) c = rest_open (is_open T c) (untaken T.log (history T) c) m.opened in
    let lent = length-take most_lent connection.output.ready in
    let within = owes_within k connection.session connection.output (untaken_of (seen T c)) m.owed in
    let same = ap length r in
    omega (arith, lent, within, same)

pub lends_owed : {V : Type 0} {Holds : V → Contents → Type 0} (o : Office V) (T : Trace) → StandsFor Holds o T → (c : ℕ) → lent_by o c ≤ length (rest T c)
lends_owed o T st c = lends st.keeps.contents T c (get nat_cmp o.connections c) (st.connections c)

pub admitted : {V : Type 0} {Holds : V → Contents → Type 0} (o : Office V) (T : Trace) (e : Event) (w : Outcome) → StandsFor Holds o T → IsOutcome T (lent_by o) e w
    → IsAdmitted T e (event_tag_of w)
admitted o T e w st is = record { lent = lent_by o; owed = lends_owed o T st; outcome = w; is = is; event_tag = refl }

-- an opening
pub start_admitted : (T : Trace) (host : List ℕ) (boot : ℕ) (limits : Limits) → IsAdmitted T (event.Start host boot limits) (Tagged Done)
start_admitted T host boot limits = record {
  lent = λ c. 0;
  owed = λ c. omega arith;
  outcome = outcome.Done;
  is = record { tag = Done; may = refl; is = refl };
  event_tag = refl;
}

-- the events of a run
pub steps_admitted : {V : Type 0} (H : V → Contents → Type 0) (T : Trace) (es : List Given) (ss : List Step) → AreSteps H T es ss → AreAdmitted T → AreAdmitted (followed T es ss)
steps_admitted H T [] [] are a = a
steps_admitted H T [] (s ∷ ss) are a = absurd are
steps_admitted H T (e ∷ es) [] are a = absurd are
steps_admitted H T (e ∷ es) (s ∷ ss) are a =
    let is = are.0 in
    steps_admitted H (followed_by T (event_seen e) s.outcome) es ss are.1 (admitted is.office T (event_seen e) (outcome_seen s.outcome) is.stood is.outcome, a)

-- ---- sent exactly

pub sent_so : {V : Type 0} {Holds : V → Contents → Type 0} (o : Office V) (T : Trace) (e : Event) (w : Outcome) → StandsFor Holds o T → IsOutcome T (lent_by o) e w
    → AreAdmitted T → (c : ℕ) → IsSentExactly (given T e (event_tag_of w)) c
sent_so o T e w st is a c = taken_is_sent (given T e (event_tag_of w)) (admitted o T e w st is, a) c
