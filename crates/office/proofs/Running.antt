-- A run, one event on.
use Rattle.std.proofs.Common.{◌≡◌, ◌<◌, ◌≤◌, ◌+◌, ℕ, Bool, true, false, ◌||◌, nat_lt, nat_le, List, [], ◌∷◌, ◌++◌, refl, sym, ◌∙◌, subst, arith}
use Rattle.std.proofs.lemmas.Bool.{ltb-true, lt-leb}
use Rattle.vault.specs.Calls.{greatest_count, has_grown}
use Rattle.vault.specs.Changes.{Contents}
use Rattle.vault.specs.declared.vault.Vault.{Ghosts}
use Rattle.office.specs.Events.{Trace}
use Rattle.office.specs.Seen.{event_seen, outcome_seen, followed_by}
use Rattle.office.specs.Outcomes.{HasCause}
use Rattle.office.specs.Outcomes as outcomes
use Rattle.office.specs.Stands.{vault_of}
use Rattle.office.specs.Stopping.{IsAnswered, StopLeaves}
use Rattle.office.specs.Runs.{Step, IsStep, AreSteps, followed, Follows, Enters, Ran, HaveCauses, AreAnswered, StopLeavesRun, one_if_failed, FailuresAreCounted}
use Rattle.office.specs.declared.event.Event.{Event}
use Rattle.office.specs.declared.office.Office.{Office}
use Rattle.office.proofs.Lending.{steps_admitted}

followed_more : {V : Type 0} (H : V → Contents → Type 0) (T : Trace) (es : List Event) (ss : List Step) (e : Event) (s : Step) → AreSteps H T es ss
    → followed T (es ++ e ∷ []) (ss ++ s ∷ []) ≡ followed_by (followed T es ss) (event_seen e) s.outcome
followed_more H T [] [] e s are = refl
followed_more H T [] (q ∷ ss) e s are = absurd are
followed_more H T (d ∷ es) [] e s are = absurd are
followed_more H T (d ∷ es) (q ∷ ss) e s are = followed_more H (followed_by T (event_seen d) q.outcome) es ss e s are.1

steps_more : {V : Type 0} (H : V → Contents → Type 0) (T : Trace) (es : List Event) (ss : List Step) (e : Event) (s : Step) → AreSteps H T es ss → IsStep H (followed T es ss) (event_seen e) s
    → AreSteps H T (es ++ e ∷ []) (ss ++ s ∷ [])
steps_more H T [] [] e s are is = (is, tt)
steps_more H T [] (q ∷ ss) e s are is = absurd are
steps_more H T (d ∷ es) [] e s are is = absurd are
steps_more H T (d ∷ es) (q ∷ ss) e s are is = (are.0, steps_more H (followed_by T (event_seen d) q.outcome) es ss e s are.1 is)

pub follows_more : {V : Type 0} (vault : Ghosts V) (o o' : Office V) (es : List Event) (ss ss' : List Step) (e : Event) (T : Trace)
    → Follows vault.holds es ss T o → Enters vault e ss ss' o o' (followed T es ss) → Follows vault.holds (es ++ e ∷ []) ss' T o'
follows_more vault o o' es ss ss' e T f n =
    let is : IsStep vault.holds (followed T es ss) (event_seen e) n.step = record { office = o; stood = f.stands; outcome = n.done.outcome; octets = n.octets } in
    record {
      each = rw n.entered (steps_more vault.holds T es ss e n.step f.each is);
      stands = rw (n.entered, followed_more vault.holds T es ss e n.step f.each) n.done.stands;
    }

-- ---- causes

causes_more : (before now after : ℕ) (ss : List Step) (s : Step) → HaveCauses before now ss → now ≤ after → HasCause now after (outcome_seen s.outcome) → HaveCauses before after (ss ++ s ∷ [])
causes_more before now after [] s same le cause =
    (after, subst (λ n. n ≤ after) (sym same) le, subst (λ n. HasCause n after (outcome_seen s.outcome)) (sym same) cause, refl)
causes_more before now after (q ∷ ss) s h le cause = (h.0, h.1, h.2, causes_more h.0 now after ss s h.3 le cause)

-- ---- stops

answered_all : (ss : List Step) (s : Step) → AreAnswered (ss ++ s ∷ []) → AreAnswered ss × IsAnswered (outcome_seen s.outcome)
answered_all [] s h = (tt, h.0)
answered_all (q ∷ ss) s h = let r = answered_all ss s h.1 in ((h.0, r.0), r.1)

stop_next : {V : Type 0} (H : V → Contents → Type 0) (MayLeave : Contents → Type 0) (T : Trace) (d : Event) (q : Step) (es : List Event) (ss : List Step) (e : Event) (s : Step)
    → AreSteps H (followed_by T (event_seen d) q.outcome) es ss
    → (AreAnswered (q ∷ ss) → StopLeaves MayLeave (followed (followed_by T (event_seen d) q.outcome) es ss) (event_seen e) (outcome_seen s.outcome))
    → StopLeavesRun MayLeave T (d ∷ (es ++ e ∷ [])) (q ∷ (ss ++ s ∷ []))
stop_next H M T d q [] [] e s are h = λ a. h (a, tt)
stop_next H M T d q [] (y ∷ ss) e s are h = absurd are
stop_next H M T d q (x ∷ es) [] e s are h = absurd are
stop_next H M T d q (x ∷ es) (y ∷ ss) e s are h = λ a. stop_next H M (followed_by T (event_seen d) q.outcome) x y es ss e s are.1 (λ rest. h (a, rest))

stop_more : {V : Type 0} (H : V → Contents → Type 0) (MayLeave : Contents → Type 0) (T : Trace) (es : List Event) (ss : List Step) (e : Event) (s : Step) → AreSteps H T es ss
    → (AreAnswered ss → StopLeaves MayLeave (followed T es ss) (event_seen e) (outcome_seen s.outcome)) → StopLeavesRun MayLeave T (es ++ e ∷ []) (ss ++ s ∷ [])
stop_more H M T [] [] e s are h = h tt
stop_more H M T [] (q ∷ ss) e s are h = absurd are
stop_more H M T (d ∷ es) [] e s are h = absurd are
stop_more H M T (d ∷ es) (q ∷ ss) e s are h = stop_next H M T d q es ss e s are.1 h

-- ---- a run

pub ran_more : {V : Type 0} (vault : Ghosts V) (first o o' : Office V) (es : List Event) (ss ss' : List Step) (e : Event) (T : Trace)
    → Ran vault.holds vault.faults vault.is_up vault.may_leave es ss T first o → Enters vault e ss ss' o o' (followed T es ss) → vault.faults (vault_of o) ≤ vault.faults (vault_of o')
    → Ran vault.holds vault.faults vault.is_up vault.may_leave (es ++ e ∷ []) ss' T first o'
ran_more vault first o o' es ss ss' e T r n le =
    let s = n.step in
    let before = vault.faults (vault_of first) in
    let now = vault.faults (vault_of o') in
    let back : ss ++ s ∷ [] ≡ ss' = sym n.entered in
    let follows = follows_more vault o o' es ss ss' e T r.follows n in
    record {
      follows = follows;
      admitted = steps_admitted vault.holds T (es ++ e ∷ []) ss' follows.each;
      causes = subst (HaveCauses before now) back (causes_more before (vault.faults (vault_of o)) now ss s r.causes le n.done.cause);
      up = λ up a. let all = answered_all ss s (subst AreAnswered n.entered a) in n.done.up (r.up up all.0) all.1;
      stop = λ up. subst (StopLeavesRun (vault.may_leave (vault_of o')) T (es ++ e ∷ [])) back
          (stop_more vault.holds (vault.may_leave (vault_of o')) T es ss e s r.follows.each (λ a. n.done.stop (r.up up a)));
    }

-- ---- how many failed

climbs : (before now : ℕ) (ss : List Step) → HaveCauses before now ss → before ≤ now
climbs before now [] same = omega (arith, same)
climbs before now (s ∷ ss) h = let first = h.1 in omega (arith, first, climbs h.0 now ss h.3)

grew : (before after : ℕ) → after < greatest_count → has_grown before after ≡ true → before < after
grew before after below h =
    let least : nat_le greatest_count after ≡ false = lt-leb greatest_count after below in
    ltb-true before after (sym (or_none (nat_lt before after) (nat_le greatest_count after) least) ∙ h)
  where
    or_none : (a b : Bool) → b ≡ false → (a || b) ≡ a
    or_none true b e = refl
    or_none false b e = e

counts_one : (before after : ℕ) (o : outcomes.Outcome) → after < greatest_count → before ≤ after → HasCause before after o → before + one_if_failed o ≤ after
counts_one before after (outcomes.Opened c) below le cause = omega (arith, le)
counts_one before after outcomes.Done below le cause = omega (arith, le)
counts_one before after outcomes.Failed below le cause = let more = grew before after below cause in omega (arith, more)
counts_one before after outcomes.NoMemory below le cause = omega (arith, le)
counts_one before after (outcomes.Ignored reason) below le cause = omega (arith, le)
counts_one before after (outcomes.Answered answer) below le cause = omega (arith, le)

pub failures_are_counted : FailuresAreCounted
failures_are_counted before now [] below same = omega (arith, same)
failures_are_counted before now (s ∷ ss) below h =
    let later = climbs h.0 now ss h.3 in
    let one = counts_one before h.0 (outcome_seen s.outcome) (omega (arith, below, later)) h.1 h.2 in
    let rest = failures_are_counted h.0 now ss below h.3 in
    omega (arith, one, rest)
