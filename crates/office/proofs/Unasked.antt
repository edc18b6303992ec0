-- An event that may not fail asks no store.
use Rattle.std.proofs.Common.{◌≡◌, ℕ, Bool, true, false, true≢false, ◌≤◌, List, length, Option, Some, None, Result, slice_get, refl, sym, ◌∙◌}
use Rattle.popline.specs.Cutting.{cut, has_newline, through_newline}
use Rattle.popline.specs.Commands.{Command}
use Rattle.popline.specs.declared.command.LineFault.{LineFault}
use Rattle.popline.specs.Replies.{Bye}
use Rattle.popline.proofs.Cuts.{coming-fed}
use Rattle.policy.specs.Policy.{Policy}
use Rattle.vault.specs.Changes.{Contents}
use Rattle.session.specs.Session.{Session}
use Rattle.office.specs.History.{Failed}
use Rattle.office.specs.Connections.{reading, closing, serving}
use Rattle.office.specs.Events.{Trace, Bytes, Took}
use Rattle.office.specs.Trace.{history, is_left}
use Rattle.office.specs.Expected.{may_show}
use Rattle.office.specs.Transaction.{Transaction}
use Rattle.office.specs.Kept.{LineContext, Kept, answered, line_after, clocked, asks, authorization_asks}
use Rattle.office.specs.Answered.{HasTransaction}
use Rattle.office.specs.Stands.{Seen, seen, Matches}
use Rattle.office.specs.declared.login_state.LoginState.{LoginState}
use Rattle.office.proofs.Hearing.{Awaits, acts_next, streamed, took}
use Rattle.office.specs.Output.{reads_text}
use Rattle.office.proofs.Events.{next_kept, left_over}
use Rattle.office.proofs.Owing.{text_feeds}
use Rattle.office.proofs.Taking.{took_more}
use Rattle.office.proofs.Judging.{Judges}

none_true : (b : Bool) → (b ≡ true → ⊥) → b ≡ false
none_true true h = absurd (h refl)
none_true false h = refl

-- ---- a line

-- who isn't in session
pub authorization_asks_none : (c : Contents) (p : Policy) (t : LoginState) (v : Option Transaction) (r : Result Command LineFault)
    → HasTransaction c None v → asks p t v r ≡ false → authorization_asks t r ≡ false
authorization_asks_none c p t None r sits none = none
authorization_asks_none c p t (Some v) r sits none = absurd sits

-- who is
pub record AsksNone (c : Contents) (p : Policy) (s : Session) (t : LoginState) (r : Result Command LineFault) : Type 0 where
  pub transaction : Transaction
  pub has_transaction : HasTransaction c (Some s) (Some transaction)
  pub none : asks p t (Some transaction) r ≡ false

pub transaction_asks_none : (c : Contents) (p : Policy) (s : Session) (t : LoginState) (v : Option Transaction) (r : Result Command LineFault) → HasTransaction c (Some s) v → asks p t v r ≡ false
    → AsksNone c p s t r
transaction_asks_none c p s t None r sits none = absurd sits
transaction_asks_none c p s t (Some v) r sits none = record { transaction = v; has_transaction = sits; none = none }

-- ---- on a trace

-- the line that is next, whatever it is answered
next_at : (c : Contents) (s : Seen) (k : Kept) (p : List ℕ) → Awaits c s k p → has_newline p ≡ true → slice_get (cut s.stream) s.acted ≡ Some (line_after k p)
next_at c s k p ready h =
    acts_next c s k (answered k p Bye k.session k.output) p Bye ready refl (λ more. coming-fed k.held (answered k p Bye k.session k.output).held p (through_newline p) refl refl more) h

module _ (T : Trace) (n : ℕ) (c : Contents) (k : Kept) (d : LineContext) (t : LoginState) (old : Option Session) (j : Judges T.base (history T) n c d t old) where
  -- a piece whose line may not fail
  pub piece_asks_none : (p : List ℕ) (now : ℕ) → Awaits c (streamed (seen T n) p now) (clocked now p k) p → may_show T (Bytes n p) Failed ≡ false → has_newline p ≡ true
      → asks d.policy t j.transaction (reading (line_after k p)) ≡ false
  piece_asks_none p now ready none h =
      none_true (asks d.policy t j.transaction (reading (line_after k p))) (λ asked.
      let next = next_at c (streamed (seen T n) p now) (clocked now p k) p ready h in
      let fails = j.fails (line_after k p) asked in
      let may : may_show T (Bytes n p) Failed ≡ true = rw (h, next, fails) refl in
      true≢false (sym may ∙ none))

  -- a taking of all after which a line acts that may not fail
  pub taking_asks_none : (octets now : ℕ) → Awaits c (took (seen T n) octets now) k k.pending → is_left T.log (history T) n octets ≡ false → closing (history T) n ≡ false
      → may_show T (Took n octets) Failed ≡ false → has_newline k.pending ≡ true → asks d.policy t j.transaction (reading (line_after k k.pending)) ≡ false
  taking_asks_none octets now ready all open_yet none h =
      none_true (asks d.policy t j.transaction (reading (line_after k k.pending))) (λ asked.
      let next = next_kept T n ∙ next_at c (took (seen T n) octets now) k k.pending ready h in
      let fails = j.fails (line_after k k.pending) asked in
      let may : may_show T (Took n octets) Failed ≡ true = rw (all, open_yet, next, fails) refl in
      true≢false (sym may ∙ none))

-- a taking that may not fail takes of no message
pub taking_reads_none : (T : Trace) (n octets : ℕ) (c : Contents) (k : Kept) (now : ℕ) (m : Matches c (seen T n) k) → octets ≤ length k.output.ready → may_show T (Took n octets) Failed ≡ false
    → reads_text k.output.source ≡ false
taking_reads_none T n octets c k now m fits none =
    none_true (reads_text k.output.source) (λ reads.
    let left : is_left T.log (history T) n octets ≡ true = left_over (seen T n) octets (took_more c (seen T n) k octets now m fits (text_feeds k.output.source reads)) in
    let serves : serving (history T) n ≡ true = m.serving reads in
    let may : may_show T (Took n octets) Failed ≡ true = rw (left, serves) refl in
    true≢false (sym may ∙ none))
