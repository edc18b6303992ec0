-- What becomes of a line of a session by the reply that was put, and by what the store did.
use Rattle.std.proofs.Common.{◌≡◌, Bool, false, List, Some, Result, Ok, Err, refl, sym, subst, true≢false}
use Rattle.std.specs.Prelude.{IfOk}
use Rattle.popline.specs.Commands.{Command, ListAll, UidlAll}
use Rattle.popline.specs.Cutting.{Cut, TooLong}
use Rattle.popline.specs.Cutting as cutting
use Rattle.popline.specs.declared.command.LineFault.{LineFault}
use Rattle.popline.specs.Replies.{Reply, ScanListing, UidListing}
use Rattle.policy.specs.Policy.{Policy}
use Rattle.vault.specs.Changes.{Contents}
use Rattle.vault.specs.declared.record.Keyed.{Keyed}
use Rattle.session.specs.Session.{Session}
use Rattle.session.specs.Session as head
use Rattle.session.specs.View.{unmarked, sizes_of, uids_of}
use Rattle.office.specs.Connections.{reading}
use Rattle.office.specs.LongLine.{is_too_long}
use Rattle.office.specs.History.{Tag}
use Rattle.office.specs.Replying.{LineState, reply_to_reading, reply_to}
use Rattle.office.specs.Output.{Output, OwesReply}
use Rattle.office.specs.Transaction.{LiesIn, GoesOn, IsAnswered, session_left, transaction_answered, held_after_line, transaction_of}
use Rattle.office.specs.declared.login_state.LineOutcome.{LineOutcome}
use Rattle.office.specs.declared.login_state.LineOutcome.TheVariants as outcome
use Rattle.office.proofs.Listed.{list_said, uidl_said}

-- ---- calls that end a function

pub if_ok_so : {A E : Type 0} {P : A → Type 0} (Q : A → Type 0) (r : Result A E) → IfOk r P → ((x : A) → P x → Q x) → IfOk r Q
if_ok_so Q (Ok x) p f = f x p
if_ok_so Q (Err e) p f = tt

pub if_ok_both : {A E : Type 0} {P Q : A → Type 0} (R : A → Type 0) (r : Result A E) → IfOk r P → IfOk r Q → ((x : A) → P x → Q x → R x) → IfOk r R
if_ok_both R (Ok x) p q f = f x p q
if_ok_both R (Err e) p q f = tt

-- ---- a line that needs no store

module _ (After : Contents → Type 0) (grown : Bool) (c : Contents) (p : Policy) (s new : Session) (kept : List Keyed) (after : Output) where
  -- what reads alike
  pub reads_alike : (r q : Result Command LineFault) (w : LineOutcome) → r ≡ q → IsAnswered After grown c p s new kept after r w → IsAnswered After grown c p s new kept after q w
  reads_alike r q w e h = subst (λ (x : Result Command LineFault). IsAnswered After grown c p s new kept after x w) e h

  -- a reply that was put
  pub said_so : (r : Result Command LineFault) (w : LineOutcome) (reply : Reply) → w ≡ outcome.Done → OwesReply c (session_left r new) after reply
      → reply ≡ transaction_answered outcome.Done p (transaction_of s kept) r → GoesOn reply s new → After (held_after_line outcome.Done p s r c)
      → IsAnswered After grown c p s new kept after r w
  said_so r w reply e said told on held = subst (λ (x : LineOutcome). IsAnswered After grown c p s new kept after r x) (sym e) (record {
    owed = subst (λ (x : Reply). OwesReply c (session_left r new) after x) told said;
    session = subst (λ (x : Reply). GoesOn x s new) told on;
    held = held;
    may = λ e. cc;
    cause = λ e. cc;
  })

module _ (After : Contents → Type 0) (grown : Bool) (c : Contents) (p : Policy) (s : Session) (kept : List Keyed) (lies : LiesIn c s kept) (after : Output) where
  pub listed : OwesReply c (Some s) after (ScanListing (sizes_of head.octets_of (unmarked s.marks s.view))) → After c → IsAnswered After grown c p s s kept after (Ok ListAll) outcome.Done
  listed said held = said_so After grown c p s s kept after (Ok ListAll) outcome.Done (ScanListing (sizes_of head.octets_of (unmarked s.marks s.view))) refl said
      (list_said c s kept lies p) (record { name = refl; removals = refl; view = refl; marks = λ n. refl }) held

  pub identified : OwesReply c (Some s) after (UidListing (uids_of head.uid_of (unmarked s.marks s.view))) → After c → IsAnswered After grown c p s s kept after (Ok UidlAll) outcome.Done
  identified said held = said_so After grown c p s s kept after (Ok UidlAll) outcome.Done (UidListing (uids_of head.uid_of (unmarked s.marks s.view))) refl said
      (uidl_said c s kept lies p) (record { name = refl; removals = refl; view = refl; marks = λ n. refl }) held

-- ---- a line and what it reads as

pub reads_so : (s : LineState) (x : Cut) (t : Tag) → is_too_long x ≡ false → reply_to_reading s (reading x) t ≡ reply_to s x t
reads_so s (cutting.Line l) t e = refl
reads_so s TooLong t e = absurd (true≢false e)
