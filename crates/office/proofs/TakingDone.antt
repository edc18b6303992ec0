-- A taking of all that is lent, on a trace: what the next line leaves, and what the event is answered.
use Rattle.std.proofs.Common.{◌≡◌, ◌<◌, ◌≤◌, ℕ, Bool, true, false, List, [], ◌++◌, length, Option, Some, None, refl, sym, ◌∙◌, subst, nat_cmp}
use Rattle.std.specs.BTreeMap.{BTreeMap, get}
use Rattle.popline.specs.Cutting.{coming, whole_line, has_newline}
use Rattle.popline.specs.Replies.{Reply}
use Rattle.policy.specs.Policy.{Policy}
use Rattle.vault.specs.Changes.{Contents, AreSound}
use Rattle.office.specs.History.{Done, Failed, Says, in_force}
use Rattle.office.specs.Connections.{reading, closing, serving, user}
use Rattle.office.specs.Sessions.{holder}
use Rattle.office.specs.Events.{Trace, Took, Tagged, given}
use Rattle.office.specs.Log.{moment}
use Rattle.office.specs.Trace.{history, is_left, next_line, acts_of_took}
use Rattle.office.specs.Expected.{ignored, may_show, IsOutcome}
use Rattle.office.specs.Outcomes.{Outcome}
use Rattle.office.specs.Kept.{Kept, answered, line_after, asks}
use Rattle.office.specs.Answered.{name_cmp, judged_at, reply_of, tag_of, shown_of, held_if, LocksFollow}
use Rattle.office.specs.Output.{lent_of, reads_text}
use Rattle.office.specs.Stands.{seen, lent_by, length_of_lent, Matches, Keeps, StandsFor}
use Rattle.office.specs.declared.office.Office.{Office}
use Rattle.office.specs.declared.login_state.LineOutcome.{LineOutcome}
use Rattle.office.specs.declared.login_state.LineOutcome.TheVariants as outcome
use Rattle.office.proofs.AfterEvents.{kept_at}
use Rattle.office.proofs.Judging.{Judges}
use Rattle.office.proofs.Taking.{lent_ready}
use Rattle.office.proofs.Unasked.{taking_reads_none}
use Rattle.office.proofs.Hearing.{took, Awaits, acts_next, none_next}
use Rattle.office.proofs.Events.{Moves, took_goes, next_kept, seen-took_line, records-took_line, seen-took_none, records-took_none, seen-took_other}
use Rattle.office.specs.AfterLine.{AfterNext, cut_through}
use Rattle.office.specs.declared.account.Account.{Account}
use Rattle.office.proofs.AfterLines.{lines_go}
use Rattle.office.specs.Accounts.{account_if, state_account, acts_account}
use Rattle.office.proofs.Accounts.{line_so, all_taken}
use Rattle.office.proofs.LineDone.{judges, line_moves}

-- what is known if a connection is lent at least what was taken of it
pub record IsTaking {V : Type 0} {Holds : V → Contents → Type 0} {o : Office V} {T : Trace} (st : StandsFor Holds o T) (x n : ℕ) (k : Kept) : Type 0 where
  pub found : get nat_cmp o.connections x ≡ Some k
  pub matches : Matches st.keeps.contents (seen T x) k
  pub fits : n ≤ length k.output.ready
  pub goes : ignored T (lent_by o) (Took x n) ≡ None
  pub reads_none : may_show T (Took x n) Failed ≡ false → reads_text k.output.source ≡ false

pub taking_at : {V : Type 0} {Holds : V → Contents → Type 0} (o : Office V) (T : Trace) (st : StandsFor Holds o T) (x n : ℕ) (k : Kept) → get nat_cmp o.connections x ≡ Some k
    → (0 < n) × (n ≤ length (lent_of k.output)) → IsTaking st x n k
taking_at o T st x n k found lends =
    let m = kept_at T x st k found in
    let fits = lent_ready k.output n lends.1 in
    record {
      found = found;
      matches = m;
      fits = fits;
      goes = took_goes T (lent_by o) x n m.opened lends.0 (subst (λ (e : Option Kept). n ≤ length_of_lent e) (sym found) lends.1);
      reads_none = taking_reads_none T x n st.keeps.contents k o.moment m fits;
    }

module _ {Before : Contents → Type 0} (T : Trace) (n octets : ℕ) (keeps : Keeps Before T) (sound : AreSound keeps.contents) (policy : Policy) (rules : policy ≡ in_force T.base (history T))
    (locks : BTreeMap (List ℕ) ℕ) (held : (d : List ℕ) → get name_cmp locks d ≡ holder (history T) d)
    (now : ℕ) (moment_is : now ≡ moment T.log) (k : Kept) (ready : Awaits keeps.contents (took (seen T n) octets now) k k.pending)
    (all : is_left T.log (history T) n octets ≡ false) (open_yet : closing (history T) n ≡ false) where
  abbrev p : List ℕ
  p = k.pending

  abbrev pub judged : Judges T.base (history T) n keeps.contents (judged_at keeps.contents policy k.stamp locks) k.state k.session
  judged = judges T n keeps sound policy rules locks held (took (seen T n) octets now) k p ready refl refl refl refl refl refl refl refl

  abbrev replied : LineOutcome → Reply
  replied w = reply_of w (judged_at keeps.contents policy k.stamp locks) k.state judged.transaction (line_after k p)

  module _ {After : Contents → Type 0} {grown : Bool} {told : Account} (w : LineOutcome) (k' : Kept)
      (did : AfterNext After grown keeps.contents policy locks judged.transaction (cut_through p k) k' w told) where
    law : (more : List ℕ) → coming k.held (p ++ more) ≡ whole_line k'.held ++ coming k'.held (k'.pending ++ more)
    law = lines_go k k' p (replied w) k'.session k'.output did.kept

    none : has_newline p ≡ false → next_line T.log (history T) n [] ≡ None
    none h = next_kept T n ∙ none_next keeps.contents (took (seen T n) octets now) k k' p (replied w) ready did.kept law h

    module _ (locks' : BTreeMap (List ℕ) ℕ) (follow : LocksFollow n k.session k'.session locks locks') where
      abbrev left : Contents
      left = held_if (has_newline p) w policy k.session (reading (line_after k p)) keeps.contents

      pub taking_moves : {V : Type 0} (Holds : V → Contents → Type 0) (o o' : Office V) → get nat_cmp o'.connections n ≡ Some k' → o'.locks ≡ locks' → Holds o'.vault left
          → Moves Holds o o' T keeps.contents n (given T (Took n octets) (Tagged (tag_of w)))
      taking_moves = line_moves T n keeps sound policy rules locks held (took (seen T n) octets now) k p ready refl refl refl refl refl refl refl refl
          (Took n octets) w k' locks' did.may did.kept law did.session follow did.owes refl
          (λ h nx. seen-took_line T n octets now moment_is w (line_after k p) all open_yet (next_kept T n ∙ nx))
          (λ h nx. records-took_line T n octets w (line_after k p) all open_yet (next_kept T n ∙ nx))
          (λ h d. rw d (seen-took_none T n octets now moment_is all open_yet (none h)))
          (λ h d. rw d (records-took_none T n octets all open_yet (none h))) (λ q e. seen-took_other T n octets q (tag_of w) e)

    -- a taking after which a line acts is answered what became of it
    pub taking_answered : (lent : ℕ → ℕ) (o : Outcome) → ignored T lent (Took n octets) ≡ None → o ≡ shown_of w → IsOutcome T lent (Took n octets) o
    taking_answered lent o goes e = at w did.may did.kept e
      where
        at : (w : LineOutcome) → (w ≡ outcome.Failed → (has_newline p ≡ true) × (asks policy k.state judged.transaction (reading (line_after k p)) ≡ true))
            → k' ≡ answered k p (replied w) k'.session k'.output → o ≡ shown_of w → IsOutcome T lent (Took n octets) o
        at outcome.Done may is e = record { tag = Done; may = refl; is = e ∙ rw goes refl }
        at outcome.Failed may is e =
            let there = may refl in
            let next = next_kept T n ∙ acts_next keeps.contents (took (seen T n) octets now) k k' p (replied outcome.Failed) ready is law there.0 in
            let fails = judged.fails (line_after k p) there.1 in
            record { tag = Failed; may = rw (all, open_yet, next, fails) refl; is = e ∙ rw goes refl }

    -- the line after a taking is said to have judged what the history says
    pub taking_told : k.state.user ≡ user (history T) n → account_if (has_newline p) (state_account w policy judged.transaction (reading (line_after k p)) (Says (replied w)) k.state.user)
        ≡ acts_account T.base (history T) (acts_of_took (is_left T.log (history T) n octets) (serving (history T) n) (closing (history T) n) n (tag_of w) (next_line T.log (history T) n []))
    taking_told named = at (has_newline p) refl
      where
        at : (b : Bool) → has_newline p ≡ b → account_if b (state_account w policy judged.transaction (reading (line_after k p)) (Says (replied w)) k.state.user)
            ≡ acts_account T.base (history T) (acts_of_took (is_left T.log (history T) n octets) (serving (history T) n) (closing (history T) n) n (tag_of w) (next_line T.log (history T) n []))
        at false h = sym (all_taken T.base (history T) (is_left T.log (history T) n octets) (serving (history T) n) (closing (history T) n) n
            (tag_of w) (next_line T.log (history T) n []) None all open_yet (none h))
        at true h =
            let next = next_kept T n ∙ acts_next keeps.contents (took (seen T n) octets now) k k' p (replied w) ready did.kept law h in
            line_so T.base (history T) n keeps.contents (judged_at keeps.contents policy k.stamp locks) k.state k.session judged named (line_after k p) w (λ g. (did.may g).1)
            ∙ sym (all_taken T.base (history T) (is_left T.log (history T) n octets) (serving (history T) n) (closing (history T) n) n (tag_of w)
            (next_line T.log (history T) n []) (Some (line_after k p)) all open_yet next)
