-- Why the check and the review of a policy's text end, and what was printed.
use Rattle.std.proofs.Common.{◌≡◌, ◌∙◌, Bool, List, ℕ, true, false, true≢false, ap, inl, inr, sym, subst}
use Rattle.policy.specs.Policy.{Policy}
use Rattle.policy.specs.declared.fault.PolicyFault.{PolicyFault}
use Rattle.converse.specs.declared.fault.Fault.{Fault}
use Rattle.converse.specs.declared.fault.Fault.TheVariants as fault
use Rattle.converse.specs.Causes.{IsPolicyEnd}
use Rattle.converse.specs.PolicyFile.{IsFaultOf, IsFaultOfEither, IsPolicyText}
use Rattle.converse.specs.Reviewed.{TellsChange, TellsChangePart, TellsReview, TellsReviewPart, TellsStored, TellsStoredPart, status_of}
use Rattle.converse.specs.Streams.{Writing, Writes, WritesPart}
use Rattle.review.specs.declared.choice.Choice.{Choice}
use Rattle.review.specs.Names.{Kept, nobody}
use Rattle.review.specs.Review.{against_text, changes_of, has_lines, review_text, stored_text}

-- a cause is one still where more failed
pub ended_still : (Is Also : PolicyFault → Type 0) (written more : Bool) → ((e : PolicyFault) → Is e → Also e) → (written ≡ true → more ≡ true)
    → (f : Fault) → IsPolicyEnd Is written f → IsPolicyEnd Also more f
ended_still Is Also written more p w fault.CannotRead h = absurd h
ended_still Is Also written more p w (fault.BadEvent n) h = absurd h
ended_still Is Also written more p w fault.BadHost h = absurd h
ended_still Is Also written more p w (fault.Store e) h = absurd h
ended_still Is Also written more p w (fault.Talk e) h = absurd h
ended_still Is Also written more p w (fault.NoPolicy e) h = p e h
ended_still Is Also written more p w fault.NoClock h = absurd h
ended_still Is Also written more p w fault.CannotPut h = absurd h
ended_still Is Also written more p w fault.CannotWrite h = w h
ended_still Is Also written more p w fault.Differs h = absurd h
ended_still Is Also written more p w fault.OutOfMemory h = tt

-- before anything was written
pub ended_unwritten : (Is Also : PolicyFault → Type 0) (more : Bool) → ((e : PolicyFault) → Is e → Also e) → (f : Fault) → IsPolicyEnd Is false f → IsPolicyEnd Also more f
ended_unwritten Is Also more p f h = ended_still Is Also false more p (λ e. absurd (true≢false (sym e))) f h

-- a call of the writer failed
pub ended_writing : (Is : PolicyFault → Type 0) (written : Bool) (f : Fault) → f ≡ fault.CannotWrite → written ≡ true → IsPolicyEnd Is written f
ended_writing Is written f same failed = subst (IsPolicyEnd Is written) (sym same) failed

-- the fault of the first text, and that of the second where the first is a policy's
pub fault_of_first : (first second : List ℕ) (e : PolicyFault) → IsFaultOf first e → IsFaultOfEither first second e
fault_of_first first second e is = inl is

pub fault_of_second : (first second : List ℕ) (policy : Policy) → IsPolicyText first policy → (e : PolicyFault) → IsFaultOf second e → IsFaultOfEither first second e
fault_of_second first second policy good e is = inr (policy, good, is)

-- ---- what was printed of a review

-- of one policy, alone or beside a store: a part of it was, or all
module _ (choice : Choice) {text : List ℕ} {held holds : Writing} {policy : Policy} {lent printed : List ℕ} (good : IsPolicyText text policy) (lends : lent ≡ printed) where
  pub review_part : printed ≡ review_text choice text policy → WritesPart held holds lent → TellsReviewPart choice text held holds
  review_part is w = (policy, good, subst (WritesPart held holds) (lends ∙ is) w)

  pub review_whole : printed ≡ review_text choice text policy → Writes held holds lent → TellsReview choice text held holds
  review_whole is w = (policy, good, subst (Writes held holds) (lends ∙ is) w)

  pub stored_part : (old : Policy) (kept : Kept) → printed ≡ stored_text choice text old policy kept → WritesPart held holds lent → TellsStoredPart choice old kept text held holds
  stored_part old kept is w = (policy, good, subst (WritesPart held holds) (lends ∙ is) w)

  pub stored_whole : (old : Policy) (kept : Kept) {differ : Bool} → printed ≡ stored_text choice text old policy kept → differ ≡ has_lines (changes_of choice old policy kept) → Writes held holds lent
      → TellsStored choice (status_of differ) old kept text held holds
  stored_whole old kept is differs w = (policy, good, ap status_of differs, subst (Writes held holds) (lends ∙ is) w)

-- of a policy against that of another text
pub change_part : (choice : Choice) {old_text text : List ℕ} {held holds : Writing} {old new : Policy} {kept : Kept} {lent printed : List ℕ} → IsPolicyText old_text old → IsPolicyText text new
    → lent ≡ printed → printed ≡ against_text choice text old new kept → kept ≡ nobody → WritesPart held holds lent → TellsChangePart choice old_text text held holds
change_part choice {old_text} {text} {held} {holds} {old} {new} {kept} {lent} good good2 lends is none w =
    (old, new, good, good2, subst (WritesPart held holds) (lends ∙ is ∙ ap (λ (k : Kept). against_text choice text old new k) none) w)

pub change_whole : (choice : Choice) {differ : Bool} {old_text text : List ℕ} {held holds : Writing} {old new : Policy} {kept : Kept} {lent printed : List ℕ}
    → IsPolicyText old_text old → IsPolicyText text new
    → differ ≡ has_lines (changes_of choice old new kept) → lent ≡ printed → printed ≡ against_text choice text old new kept → kept ≡ nobody → Writes held holds lent
    → TellsChange choice (status_of differ) old_text text held holds
change_whole choice {differ} {old_text} {text} {held} {holds} {old} {new} {kept} {lent} good good2 differs lends is none w = (
  old,
  new,
  good,
  good2,
  ap status_of (differs ∙ ap (λ (k : Kept). has_lines (changes_of choice old new k)) none),
  subst (Writes held holds) (lends ∙ is ∙ ap (λ (k : Kept). against_text choice text old new k) none) w,
)
