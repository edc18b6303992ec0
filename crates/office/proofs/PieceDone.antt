-- A piece of octets on a trace: what it leaves, and what its event is answered.
use Rattle.std.proofs.Common.{◌≡◌, ℕ, ◌≤◌, Bool, true, false, List, ◌++◌, length, Some, refl, ◌∙◌, nat_cmp}
use Rattle.std.specs.BTreeMap.{BTreeMap, get}
use Rattle.popline.specs.Cutting.{coming, whole_line, has_newline}
use Rattle.popline.specs.Replies.{Reply}
use Rattle.policy.specs.Policy.{Policy}
use Rattle.vault.specs.Changes.{Contents, AreSound}
use Rattle.office.specs.History.{Done, Failed, Says, in_force}
use Rattle.office.specs.Connections.{reading}
use Rattle.office.specs.Sessions.{holder}
use Rattle.office.specs.Events.{Trace, Bytes, Tagged, given}
use Rattle.office.specs.Log.{moment}
use Rattle.office.specs.Trace.{history, acts_of_piece, next_line}
use Rattle.office.specs.Expected.{most_in_a_piece, IsOutcome}
use Rattle.office.specs.Outcomes.{Outcome}
use Rattle.office.specs.Output.{nothing_owed}
use Rattle.office.specs.Kept.{Kept, clocked, answered, line_after, asks}
use Rattle.office.specs.Answered.{name_cmp, judged_at, reply_of, tag_of, shown_of, held_if, LocksFollow}
use Rattle.office.specs.Stands.{seen, untaken_of, Matches, Keeps}
use Rattle.office.specs.declared.office.Office.{Office}
use Rattle.office.specs.declared.login_state.LineOutcome.{LineOutcome}
use Rattle.office.specs.declared.login_state.LineOutcome.TheVariants as outcome
use Rattle.office.proofs.Judging.{Judges}
use Rattle.office.proofs.Hearing.{streamed, Awaits, acts_next}
use Rattle.office.proofs.Events.{Moves, awaits_bytes, bytes_goes, seen-bytes_line, records-bytes_line, seen-bytes_part, records-bytes_part, seen-bytes_other}
use Rattle.office.proofs.Owing.{none_owed}
use Rattle.office.specs.AfterLine.{AfterNext, cut_through}
use Rattle.office.specs.declared.account.Account.{Account}
use Rattle.office.proofs.AfterLines.{lines_go}
use Rattle.office.specs.Accounts.{account_if, state_account, acts_account}
use Rattle.office.proofs.Accounts.{line_so}
use Rattle.office.proofs.LineDone.{judges, line_moves}

module _ {Before : Contents → Type 0} (T : Trace) (n : ℕ) (p : List ℕ) (keeps : Keeps Before T) (sound : AreSound keeps.contents) (policy : Policy) (rules : policy ≡ in_force T.base (history T))
    (locks : BTreeMap (List ℕ) ℕ) (held : (d : List ℕ) → get name_cmp locks d ≡ holder (history T) d)
    (now : ℕ) (moment_is : now ≡ moment T.log) (k : Kept) (m : Matches keeps.contents (seen T n) k) (nothing : k.output ≡ nothing_owed) (fits : length p ≤ most_in_a_piece) where
  -- what is kept as the line is answered
  abbrev set : Kept
  set = clocked now p k

  abbrev pub ready : Awaits keeps.contents (streamed (seen T n) p now) set p
  ready = awaits_bytes keeps.contents (seen T n) k p now m nothing fits

  abbrev pub judged : Judges T.base (history T) n keeps.contents (judged_at keeps.contents policy k.stamp locks) k.state k.session
  judged = judges T n keeps sound policy rules locks held (streamed (seen T n) p now) set p ready refl refl refl refl refl refl refl refl

  abbrev replied : LineOutcome → Reply
  replied w = reply_of w (judged_at keeps.contents policy k.stamp locks) k.state judged.transaction (line_after k p)

  module _ {After : Contents → Type 0} {grown : Bool} {told : Account} (w : LineOutcome) (k' : Kept)
      (did : AfterNext After grown keeps.contents policy locks judged.transaction (cut_through p set) k' w told) where
    law : (more : List ℕ) → coming k.held (p ++ more) ≡ whole_line k'.held ++ coming k'.held (k'.pending ++ more)
    law = lines_go set k' p (replied w) k'.session k'.output did.kept

    module _ (locks' : BTreeMap (List ℕ) ℕ) (follow : LocksFollow n k.session k'.session locks locks') where
      abbrev left : Contents
      left = held_if (has_newline p) w policy k.session (reading (line_after k p)) keeps.contents

      pub piece_moves : {V : Type 0} (Holds : V → Contents → Type 0) (o o' : Office V) → get nat_cmp o'.connections n ≡ Some k' → o'.locks ≡ locks' → Holds o'.vault left
          → Moves Holds o o' T keeps.contents n (given T (Bytes n p) (Tagged (tag_of w)))
      piece_moves = line_moves T n keeps sound policy rules locks held (streamed (seen T n) p now) set p ready refl refl refl refl refl refl refl refl
          (Bytes n p) w k' locks' did.may did.kept law did.session follow did.owes refl
          (λ h nx. seen-bytes_line T n p now moment_is w (line_after k p) h nx) (λ h nx. records-bytes_line T n p w (line_after k p) h nx)
          (λ h d. rw d (seen-bytes_part T n p h now)) (λ h d. records-bytes_part T n p (tag_of w) h) (λ q e. seen-bytes_other T n p q (tag_of w) e)

    -- a piece that isn't ignored is answered what became of its line
    pub piece_answered : (lent : ℕ → ℕ) (o : Outcome) → o ≡ shown_of w → IsOutcome T lent (Bytes n p) o
    piece_answered lent o e = at w did.may did.kept e
      where
        at : (w : LineOutcome) → (w ≡ outcome.Failed → (has_newline p ≡ true) × (asks policy k.state judged.transaction (reading (line_after k p)) ≡ true))
            → k' ≡ answered set p (replied w) k'.session k'.output → o ≡ shown_of w → IsOutcome T lent (Bytes n p) o
        at outcome.Done may is e =
            let goes = bytes_goes T lent n p m.opened (none_owed keeps.contents k.session k.output (untaken_of (seen T n)) m.owed nothing) fits in
            record { tag = Done; may = refl; is = e ∙ rw goes refl }
        at outcome.Failed may is e =
            let goes = bytes_goes T lent n p m.opened (none_owed keeps.contents k.session k.output (untaken_of (seen T n)) m.owed nothing) fits in
            let there = may refl in
            let h = there.0 in
            let next = acts_next keeps.contents (streamed (seen T n) p now) set k' p (replied outcome.Failed) ready is law h in
            let fails = judged.fails (line_after k p) there.1 in
            record { tag = Failed; may = rw (h, next, fails) refl; is = e ∙ rw goes refl }

    -- what a piece's line is said to have been judged is what the history says
    pub piece_told : account_if (has_newline p) (state_account w policy judged.transaction (reading (line_after k p)) (Says (replied w)) k.state.user)
        ≡ acts_account T.base (history T) (acts_of_piece (has_newline p) n (tag_of w) (next_line T.log (history T) n p))
    piece_told = at (has_newline p) refl
      where
        at : (b : Bool) → has_newline p ≡ b → account_if b (state_account w policy judged.transaction (reading (line_after k p)) (Says (replied w)) k.state.user)
            ≡ acts_account T.base (history T) (acts_of_piece b n (tag_of w) (next_line T.log (history T) n p))
        at false h = refl
        at true h =
            let next = acts_next keeps.contents (streamed (seen T n) p now) set k' p (replied w) ready did.kept law h in
            rw next (line_so T.base (history T) n keeps.contents (judged_at keeps.contents policy k.stamp locks) k.state k.session judged m.user (line_after k p) w (λ g. (did.may g).1))
