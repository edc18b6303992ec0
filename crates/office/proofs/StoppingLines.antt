-- What a stop in a line leaves.
use Rattle.std.proofs.Common.{◌≡◌, ◌⊎◌, inl, inr, ⊎_elim, ℕ, true, false, List, ◌∷◌, Some, None, slice_get, refl, sym, subst}
use Rattle.std.proofs.lemmas.Bool.{cases_Bool}
use Rattle.popline.specs.Cutting.{cut, has_newline, through_newline}
use Rattle.popline.specs.Replies.{Bye}
use Rattle.popline.proofs.Cuts.{coming-fed}
use Rattle.vault.specs.Records.{Agree}
use Rattle.vault.specs.Changes.{Contents, AreSound, records_of}
use Rattle.office.specs.History.{Done}
use Rattle.office.specs.Connections.{reading}
use Rattle.office.specs.Sessions.{records}
use Rattle.office.specs.Events.{Event, EventTag, Ignored, Tagged, Log, Trace, given}
use Rattle.office.specs.Formed.{are_formed}
use Rattle.office.specs.Trace.{history}
use Rattle.office.specs.Outcomes.{Outcome, event_tag_of}
use Rattle.office.specs.Outcomes as outcome
use Rattle.office.specs.Kept.{LineContext, Kept, answered, line_after}
use Rattle.office.specs.Answered.{shown_of, held_after, held_if}
use Rattle.office.specs.Stands.{Keeps, Seen}
use Rattle.office.specs.Output.{nothing_owed}
use Rattle.office.specs.Stopping.{SaysTrace, IsAnswered, taken_as_done, with_it_done, EitherOrWith, LeavesOneOf, WasDone}
use Rattle.office.specs.declared.login_state.LoginState.{LoginState}
use Rattle.office.specs.declared.login_state.LineOutcome.{LineOutcome}
use Rattle.office.specs.declared.login_state.LineOutcome.TheVariants as line_outcome
use Rattle.office.proofs.Hearing.{Awaits, acts_next, none_next}
use Rattle.office.proofs.Events.{line_entry}
use Rattle.office.proofs.Judging.{Judges}
use Rattle.office.proofs.Stopping.{agree_through, says_kept}
use Rattle.office.proofs.Beginning.{begun_done}

-- a line that was answered otherwise than Failed was done
pub line_answered : (w : LineOutcome) (o : Outcome) → o ≡ shown_of w → IsAnswered o → WasDone w
line_answered line_outcome.Done o e a = tt
line_answered line_outcome.Failed o e a = absurd (subst IsAnswered e a)

module _ {Before : Contents → Type 0} (T : Trace) (n : ℕ) (keeps : Keeps Before T) (sound : AreSound keeps.contents) (s : Seen) (k : Kept) (p : List ℕ) (d : LineContext) (t : LoginState)
    (m : Awaits keeps.contents s k p) (j : Judges T.base (history T) n keeps.contents d t k.session) (e : Event)
    (line : has_newline p ≡ true → slice_get (cut s.stream) s.acted ≡ Some (line_after k p)
    → records T.base (history (given T e (Tagged Done))) ≡ records T.base (line_entry T n (line_after k p) line_outcome.Done ∷ history T))
    (part : has_newline p ≡ false → slice_get (cut s.stream) s.acted ≡ None → records T.base (history (given T e (Tagged Done))) ≡ records T.base (history T)) where
  -- the line that is next, whatever it is answered
  next_is : has_newline p ≡ true → slice_get (cut s.stream) s.acted ≡ Some (line_after k p)
  next_is h = acts_next keeps.contents s k (answered k p Bye k.session nothing_owed) p Bye m refl
      (λ more. coming-fed k.held (answered k p Bye k.session nothing_owed).held p (through_newline p) refl refl more) h

  next_none : has_newline p ≡ false → slice_get (cut s.stream) s.acted ≡ None
  next_none h = none_next keeps.contents s k (answered k p Bye k.session nothing_owed) p Bye m refl
      (λ more. coming-fed k.held (answered k p Bye k.session nothing_owed).held p (through_newline p) refl refl more) h

  abbrev after : Contents
  after = held_if (has_newline p) line_outcome.Done d.policy k.session (reading (line_after k p)) keeps.contents

  done_agrees : Agree (records_of after) (records T.base (history (given T e (Tagged Done))))
  done_agrees = ⊎_elim
      (λ h. subst (λ b. Agree (records_of (held_if b line_outcome.Done d.policy k.session (reading (line_after k p)) keeps.contents)) (records T.base (history (given T e (Tagged Done))))) (sym h)
      (subst (λ R. Agree (records_of (held_after line_outcome.Done d.policy k.session (reading (line_after k p)) keeps.contents)) R) (sym (line h (next_is h)))
      (j.agrees sound keeps.agree line_outcome.Done (line_after k p) (line_entry T n (line_after k p) line_outcome.Done).said)))
      (λ h. subst (λ b. Agree (records_of (held_if b line_outcome.Done d.policy k.session (reading (line_after k p)) keeps.contents)) (records T.base (history (given T e (Tagged Done))))) (sym h)
      (subst (λ R. Agree (records_of keeps.contents) R) (sym (part h (next_none h))) keeps.agree))
      (cases_Bool (has_newline p))

  pub line_left : {MayLeave : Contents → Type 0} → LeavesOneOf MayLeave keeps.contents after
      → (left : Contents) → MayLeave left → SaysTrace left T ⊎ SaysTrace left (given T e (Tagged Done))
  line_left h left may = ⊎_elim (λ same. inl (says_kept left T keeps same))
      (λ same. inr (agree_through (records_of left) (records_of after) (records T.base (history (given T e (Tagged Done)))) same done_agrees)) (h.says left may)

-- ---- opened again

pub keeps_left : {Before Holds : Contents → Type 0} (left : Contents) (T : Trace) → Keeps Before T → Holds left → SaysTrace left T → Keeps Holds T
keeps_left left T k held says = record { contents = left; held = held; agree = says; sound = k.sound; formed = k.formed; began = k.began }

formed_done : (T : Log) (e : Event) (m : EventTag) → are_formed ((e, m) ∷ T) ≡ true → are_formed ((e, taken_as_done m) ∷ T) ≡ true
formed_done T e Ignored f = f
formed_done T e (Tagged t) f = f

pub keeps_with_it : {Before Holds : Contents → Type 0} (left : Contents) (T : Trace) (e : Event) (w : Outcome) → Keeps Before (given T e (event_tag_of w)) → Holds left
    → SaysTrace left (with_it_done T e w) → Keeps Holds (with_it_done T e w)
keeps_with_it left T e w k held says = record {
  contents = left;
  held = held;
  agree = says;
  sound = k.sound;
  formed = formed_done T.log e
      (event_tag_of w) k.formed;
  began = begun_done e (event_tag_of w) T.log k.began;
}

pub either_so : (w : Outcome) {A B C D : Type 0} → (A → C) → (B → D) → EitherOrWith w A B → EitherOrWith w C D
either_so (outcome.Opened c) f g h = g h
either_so outcome.Done f g h = g h
either_so outcome.Failed f g h = ⊎_elim (λ a. inl (f a)) (λ b. inr (g b)) h
either_so outcome.NoMemory f g h = ⊎_elim (λ a. inl (f a)) (λ b. inr (g b)) h
either_so (outcome.Ignored reason) f g h = g h
either_so (outcome.Answered answer) f g h = g h
