-- What a stop leaves after one event, and after some and then others.
use Rattle.std.proofs.Common.{◌≡◌, ◌&&◌, Bool, true, false, [], ◌∷◌, ◌++◌, refl, sym, ◌∙◌, subst, append_assoc}
use Rattle.std.specs.List.{list_all}
use Rattle.std.proofs.lemmas.List.Folds.{list_all-append}
use Rattle.vault.specs.Records.{Records}
use Rattle.vault.specs.Changes.{Contents}
use Rattle.office.specs.Events.{Event, Log, Trace}
use Rattle.office.specs.Outcomes.{Outcome, event_tag_of}
use Rattle.office.specs.Outcomes as outcome
use Rattle.office.specs.Stands.{StandsFor, vault_of}
use Rattle.office.specs.Stopping.{IsAnswered, EitherOrWith, StopLeaves, StaysUpUnless, SaysTrace, with_it_done}
use Rattle.office.specs.Taken.{trace_of}
use Rattle.office.specs.declared.office.Office.{Office}
use Rattle.serving.specs.Stopping.{is_answered, EitherOrWithBy, StopLeavesBy, StopLeavesAfter, Outlasts}

and_left : (a b : Bool) → (a && b) ≡ true → a ≡ true
and_left true b e = refl
and_left false b e = cc

and_right : (a b : Bool) → (a && b) ≡ true → b ≡ true
and_right true b e = e
and_right false b e = cc

-- an outcome by its tag
answered : (e : Event) (o : Outcome) → list_all is_answered ((e, event_tag_of o) ∷ []) ≡ true → IsAnswered o
answered e (outcome.Opened c) a = tt
answered e outcome.Done a = tt
answered e outcome.Failed a = cc
answered e outcome.NoMemory a = cc
answered e (outcome.Ignored reason) a = tt
answered e (outcome.Answered answer) a = tt

by_tag : (o : Outcome) (A C : Type 0) → EitherOrWith o A C → EitherOrWithBy (event_tag_of o) A C
by_tag (outcome.Opened c) A C h = h
by_tag outcome.Done A C h = h
by_tag outcome.Failed A C h = h
by_tag outcome.NoMemory A C h = h
by_tag (outcome.Ignored reason) A C h = h
by_tag (outcome.Answered answer) A C h = h

-- ---- at one trace

module _ {V : Type 0} (IsUp : V → Type 0) (MayLeave : V → Contents → Type 0) (o o1 o2 : Office V) where
  pub up_then : (g1 g2 : Log) → (IsUp (vault_of o) → list_all is_answered g1 ≡ true → IsUp (vault_of o1)) → (IsUp (vault_of o1) → list_all is_answered g2 ≡ true → IsUp (vault_of o2))
      → IsUp (vault_of o) → list_all is_answered (g2 ++ g1) ≡ true → IsUp (vault_of o2)
  up_then g1 g2 a b u all =
      let both : (list_all is_answered g2 && list_all is_answered g1) ≡ true = sym (list_all-append is_answered g2 g1) ∙ all in
      b (a u (and_right (list_all is_answered g2) (list_all is_answered g1) both)) (and_left (list_all is_answered g2) (list_all is_answered g1) both)

  pub stop_then : (B : Records) (L g1 g2 : Log) → (g2 ≡ [] → ⊥) → (IsUp (vault_of o) → list_all is_answered g1 ≡ true → IsUp (vault_of o1))
      → (IsUp (vault_of o1) → StopLeavesAfter (MayLeave (vault_of o2)) B (g1 ++ L) g2) → IsUp (vault_of o) → StopLeavesAfter (MayLeave (vault_of o2)) B L (g2 ++ g1)
  stop_then B L g1 [] some a b u = absurd (some refl)
  stop_then B L g1 ((e, m) ∷ g2) some a b u = λ all.
      (let both : (list_all is_answered g2 && list_all is_answered g1) ≡ true = sym (list_all-append is_answered g2 g1) ∙ all in
      let was_up = a u (and_right (list_all is_answered g2) (list_all is_answered g1) both) in
      subst (λ l. StopLeavesBy (MayLeave (vault_of o2)) (trace_of B l) e m) (sym (append_assoc g2 g1 L))
      (b was_up (and_left (list_all is_answered g2) (list_all is_answered g1) both)))

-- ---- at any trace

module _ {V : Type 0} (Holds : V → Contents → Type 0) (IsClean IsUp : V → Type 0) (MayLeave : V → Contents → Type 0) where
  pub outlasts_none : (o : Office V) → Outlasts Holds IsClean IsUp MayLeave o o []
  outlasts_none o = record { up = λ B L s k u a. u; stop = λ B L s k u. tt; unasked = λ e. refl }

  pub outlasts_one : (o o1 : Office V) (e : Event) (out : Outcome)
      → ((T : Trace) → StandsFor Holds o T → IsClean (vault_of o1) → StaysUpUnless (IsUp (vault_of o)) (IsUp (vault_of o1)) out)
      → ((T : Trace) → StandsFor Holds o T → IsClean (vault_of o1) → IsUp (vault_of o) → StopLeaves (MayLeave (vault_of o1)) T e out)
      → Outlasts Holds IsClean IsUp MayLeave o o1 ((e, event_tag_of out) ∷ [])
  outlasts_one o o1 e out up stop = record {
    up = λ B L s k u a. up (trace_of B L) s k u (answered e out a);
    stop = λ B L s k u none left may. by_tag out (SaysTrace left (trace_of B L)) (SaysTrace left (with_it_done (trace_of B L) e out)) (stop (trace_of B L) s k u left may);
    unasked = λ none. cc;
  }

  pub outlasts_then : (o o1 o2 : Office V) (g1 g2 : Log) → (IsClean (vault_of o2) → IsClean (vault_of o1))
      → ((B : Records) (L : Log) → StandsFor Holds o (trace_of B L) → IsClean (vault_of o1) → StandsFor Holds o1 (trace_of B (g1 ++ L)))
      → Outlasts Holds IsClean IsUp MayLeave o o1 g1 → Outlasts Holds IsClean IsUp MayLeave o1 o2 g2 → Outlasts Holds IsClean IsUp MayLeave o o2 (g2 ++ g1)
  outlasts_then o o1 o2 g1 [] clean stands a b =
      let same : vault_of o2 ≡ vault_of o1 = b.unasked refl in
      record {
        up = λ B L s k u all. subst IsUp (sym same) (a.up B L s (clean k) u all);
        stop = λ B L s k u. subst (λ v. StopLeavesAfter (MayLeave v) B L g1) (sym same) (a.stop B L s (clean k) u);
        unasked = λ none. same ∙ a.unasked none;
      }
  outlasts_then o o1 o2 g1 ((e, m) ∷ g2) clean stands a b = record {
    up = λ B L s k u all. up_then IsUp MayLeave o o1 o2 g1 ((e, m) ∷ g2) (a.up B L s (clean k)) (b.up B (g1 ++ L) (stands B L s (clean k)) k) u all;
    stop = λ B L s k u. stop_then IsUp MayLeave o o1 o2 B L g1 ((e, m) ∷ g2) (λ none. cc) (a.up B L s (clean k)) (b.stop B (g1 ++ L) (stands B L s (clean k)) k) u;
    unasked = λ none. cc;
  }
