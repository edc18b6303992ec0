use Rattle.std.proofs.Common.{◌≡◌, ◌≤◌, ◌⊎◌, true, false, length, Some, None, sym, ◌∙◌, nat_cmp, nat_lt, subst, rules, refl, ap, arith}
use Rattle.std.proofs.lemmas.Grind.{common_steps}
use Rattle.std.specs.BTreeMap.{get}
use Rattle.vault.specs.Changes.{Contents, AreSound}
use Rattle.office.specs.Events.{Trace, Bytes, Tagged, given}
use Rattle.office.specs.History.{Done, Failed, NoMemory}
use Rattle.office.specs.Trace.{acts, history}
use Rattle.office.specs.Accounts.{account_of}
use Rattle.office.proofs.Accounts.{piece_account}
use Rattle.office.specs.Locks.{Released}
use Rattle.office.specs.Expected.{most_in_a_piece, may_show}
use Rattle.office.specs.Output.{nothing_owed}
use Rattle.office.specs.Kept.{Kept, clocked, line_after}
use Rattle.office.specs.Answered.{tag_of, judged_at}
use Rattle.office.specs.Stands.{Matches, IsKeptFor, StandsFor, seen, untaken_of, lent_by}
use Rattle.office.specs.Stopping.{SaysTrace}
use Rattle.office.proofs.Events.{moved, marked, seen-bytes_other, whole-bytes, is_apart, line_cause, next_there, awaits_bytes, records-bytes_lacking, over-bytes, bytes_goes}
use Rattle.office.proofs.Events.{records-bytes_line, records-bytes_part, bytes_waits, bytes_too_long}
use Rattle.office.proofs.Hearing.{streamed, Awaits}
use Rattle.office.proofs.Locking.{holds_by}
use Rattle.office.proofs.Coming.{released, put_back}
use Rattle.office.specs.declared.login_state.LineOutcome.TheVariants as line_outcome
use Rattle.office.proofs.Owing.{none_owed, some_owed}
use Rattle.office.proofs.PieceDone.{judged, piece_moves, piece_answered, piece_told}
use Rattle.office.specs.Outcomes as outcome
use Rattle.office.proofs.AfterEvents.{kept_at, closed_at, stands_after, ignored_after}
use Rattle.office.proofs.StoppingLines.{line_left, line_answered}
use Rattle.office.proofs.Unasked.{piece_asks_none}
use Rattle.office.proofs.Judging.{Judges}
use Rattle.office.proofs.office.Office.bytes.Given.{Over}
use Rattle.office.proofs.office.Office.bytes.Goals.{After-hear}
use Rattle.office.proofs.office.Office.bytes.Goals as goal

-- ---- what is known as the piece is heard

matches : (g : Over) (c : After-hear g) (T : Trace) (st : StandsFor g.V.Vault.holds c.args.self.now T) → Matches st.keeps.contents (seen T c.args.c) c.in-Some.connection.now
matches g c T st = kept_at T c.args.c st c.in-Some.connection.now (sym c.in-Some.ensures.value)

nothing : (g : Over) (c : After-hear g) → c.in-Some.connection.now.output ≡ nothing_owed
nothing g c = c.owes_nothing.ensures.nothing c.if-not-owes_nothing.false

fits : (g : Over) (c : After-hear g) → length c.args.piece.now ≤ most_in_a_piece
fits g c = search rules

-- its line is judged as the trace says
abbrev judging : (g : Over) (c : After-hear g) (T : Trace) (st : StandsFor g.V.Vault.holds c.args.self.now T) → AreSound st.keeps.contents
    → Judges T.base (history T) c.args.c st.keeps.contents (judged_at st.keeps.contents c.args.self.now.policy c.in-Some.connection.now.stamp c.args.self.now.locks)
    c.in-Some.connection.now.state c.in-Some.connection.now.session
judging g c T st sound =
    let o = c.args.self.now in
    judged T c.args.c c.args.piece.now st.keeps sound o.policy st.policy o.locks st.locks o.moment st.moment c.in-Some.connection.now (matches g c T st) (nothing g c) (fits g c)

-- the line is cut as it is next
awaits : (g : Over) (c : After-hear g) (T : Trace) (st : StandsFor g.V.Vault.holds c.args.self.now T)
    → Awaits st.keeps.contents (streamed (seen T c.args.c) c.args.piece.now c.args.self.now.moment) (clocked c.args.self.now.moment c.args.piece.now c.in-Some.connection.now) c.args.piece.now
awaits g c T st = awaits_bytes st.keeps.contents (seen T c.args.c) c.in-Some.connection.now c.args.piece.now c.args.self.now.moment (matches g c T st) (nothing g c) (fits g c)

-- nothing is asked, if the piece asks nothing
unasked : (g : Over) (c : After-hear g) (T : Trace) → StandsFor g.V.Vault.holds c.args.self.now T → g.V.Vault.is_clean c.args.self.now.vault
    → may_show T (Bytes c.args.c c.args.piece.now) Failed ≡ false → c.hear.new.vault ≡ c.args.self.now.vault
unasked g c T st clean none =
    let o = c.args.self.now in
    let k : Kept = c.in-Some.connection.now in
    let ct = st.keeps.contents in
    let j = judging g c T st (g.met.V.Vault.sound o.vault ct st.keeps.held clean) in
    c.hear.ensures.unasked ct j.transaction j.has_transaction
    (piece_asks_none T c.args.c ct k (judged_at ct o.policy k.stamp o.locks) k.state k.session j c.args.piece.now o.moment (awaits g c T st) none)

-- what a stop leaves once the line may have acted
stops : (g : Over) (c : After-hear g) (T : Trace) → StandsFor g.V.Vault.holds c.args.self.now T → g.V.Vault.is_clean c.hear.new.vault → g.V.Vault.is_up c.args.self.now.vault
    → (left : Contents) → g.V.Vault.may_leave c.hear.new.vault left → SaysTrace left T ⊎ SaysTrace left (given T (Bytes c.args.c c.args.piece.now) (Tagged Done))
stops g c T st clean up =
    let o = c.args.self.now in
    let n = c.args.c in
    let p = c.args.piece.now in
    let k : Kept = c.in-Some.connection.now in
    let ct = st.keeps.contents in
    let sound : AreSound ct = g.met.V.Vault.sound o.vault ct st.keeps.held (c.hear.ensures.acts.clean clean) in
    line_left T n st.keeps sound (streamed (seen T n) p o.moment) (clocked o.moment p k) p (judged_at ct o.policy k.stamp o.locks) k.state (awaits g c T st) (judging g c T st sound) (Bytes n p)
    (λ h nx. records-bytes_line T n p line_outcome.Done (line_after k p) h nx) (λ h nx. records-bytes_part T n p Done h) (c.hear.ensures.acts.stop ct st.keeps.held clean up)

-- ---- each exit

pub returns-in_default-clause-after : goal.returns-in_default-clause-after
returns-in_default-clause-after g c =
    let o = c.args.self.now in
    let none : get nat_cmp o.connections c.args.c ≡ None = search rules in
    rw c.ignored.ensures (ignored_after g.V.Vault o _ (Bytes c.args.c c.args.piece.now) outcome.NoSuchConnection (g.met.V.Vault.settled _)
    (λ q. ap (λ connections. get nat_cmp connections q) c.get_mut.follows.holds-at-none)
    (λ T st. let closed = closed_at T c.args.c st none in rw closed refl))

pub returns-then-not-owes_nothing-clause-after : goal.returns-then-not-owes_nothing-clause-after
returns-then-not-owes_nothing-clause-after g c =
    let o = c.args.self.now in
    let n = c.args.c in
    let k : Kept = c.in-Some.connection.now in
    let found : get nat_cmp o.connections n ≡ Some k = sym c.in-Some.ensures.value in
    let updates = (c.get_mut.follows.holds k).3 (search rules) in
    rw c.ignored-then-not-owes_nothing.ensures
    (ignored_after g.V.Vault o _ (Bytes n c.args.piece.now) outcome.NotReady (g.met.V.Vault.settled _) (put_back n k o.connections (c.get_mut.follows.lender k) found updates)
    (λ T st.
    let m = kept_at T n st k found in
    bytes_waits T (lent_by o) n c.args.piece.now m.opened
    (some_owed st.keeps.contents k.session k.output (untaken_of (seen T n)) m.owed (sym c.owes_nothing.ensures.value ∙ c.if-not-owes_nothing.true))))

pub returns-then-piece-gt-MOST_IN_A_PIECE-clause-after : goal.returns-then-piece-gt-MOST_IN_A_PIECE-clause-after
returns-then-piece-gt-MOST_IN_A_PIECE-clause-after g c =
    let o = c.args.self.now in
    let n = c.args.c in
    let p = c.args.piece.now in
    let k : Kept = c.in-Some.connection.now in
    let found : get nat_cmp o.connections n ≡ Some k = sym c.in-Some.ensures.value in
    let updates = (c.get_mut.follows.holds k).3 (search rules) in
    let long : nat_lt most_in_a_piece (length p) ≡ true = search rules in
    rw c.ignored-then-piece-gt-MOST_IN_A_PIECE.ensures
    (ignored_after g.V.Vault o _ (Bytes n p) outcome.PieceTooLong (g.met.V.Vault.settled _) (put_back n k o.connections (c.get_mut.follows.lender k) found updates)
    (λ T st.
    let m = kept_at T n st k found in
    bytes_too_long T (lent_by o) n p m.opened (none_owed st.keeps.contents k.session k.output (untaken_of (seen T n)) m.owed (c.owes_nothing.ensures.nothing c.if-not-owes_nothing.false)) long))

pub returns-in-Ok-clause-after : goal.returns-in-Ok-clause-after
returns-in-Ok-clause-after g c = record {
  counted = c.hear.ensures.acts.counted;
  clean = c.hear.ensures.acts.clean;
  each = λ T st clean.
      let it = (goal.at.returns-in-Ok-clause-after g c).After-hear in
      let o = c.args.self.now in
      let n = c.args.c in
      let p = c.args.piece.now in
      let k : Kept = c.in-Some.connection.now in
      let k' : Kept = c.hear.new.self in
      let w = c.in-Ok.line.outcome in
      let ct = st.keeps.contents in
      let found : get nat_cmp o.connections n ≡ Some k = sym c.in-Some.ensures.value in
      let m = matches g it T st in
      let owes = nothing g it in
      let size = fits g it in
      let updates = (c.get_mut.follows.holds k').3 (search rules) in
      let kept : get nat_cmp (c.get_mut.follows.lender k') n ≡ Some k' = updates.1 in
      let sound : AreSound ct = g.met.V.Vault.sound o.vault ct st.keeps.held (c.hear.ensures.acts.clean clean) in
      let j = judging g it T st sound in
      let does = c.in-Ok.ensures in
      let did = does.answered ct j.transaction st.keeps.held clean j.has_transaction in
      stands_after g.V.Vault o _ T (Bytes n p) _
      (moved g.V.Vault.holds o _ T (Bytes n p) _ (tag_of w) n (marked w _ c.after_line.ensures.outcome) st refl refl refl refl refl refl (whole-bytes T n p (tag_of w)) refl refl
      (rw found refl) (λ q e. seen-bytes_other T n p q (tag_of w) e) (λ q ne. updates.2 q (is_apart n q ne))
      (piece_moves T n p st.keeps sound o.policy st.policy o.locks st.locks o.moment st.moment k m owes size w k' did _ does.locks g.V.Vault.holds o _ kept refl did.held))
      (piece_answered T n p st.keeps sound o.policy st.policy o.locks st.locks o.moment st.moment k m owes size w k' did (lent_by o) _ c.after_line.ensures.outcome)
      (line_cause (g.V.Vault.faults o.vault) (g.V.Vault.faults c.hear.new.vault) w _ c.after_line.ensures.outcome did.cause)
      (λ up answered. does.acts.up ct st.keeps.held clean up (line_answered w _ c.after_line.ensures.outcome answered))
      (λ up. stops g it T st clean up) (g.met.V.Vault.settled _) clean;
}

pub returns-in-Err-clause-after : goal.returns-in-Err-clause-after
returns-in-Err-clause-after g c = rw c.lack_memory.ensures.outcome (record {
  counted = c.hear.ensures.acts.counted;
  clean = c.hear.ensures.acts.clean;
  each = λ T st clean.
      let it = (goal.at.returns-in-Err-clause-after g c).After-hear in
      let b = c.args.self.now in
      let n = c.args.c in
      let p = c.args.piece.now in
      let here : Kept = c.in-Some.connection.now in
      let m = matches g it T st in
      let line = c.in-Err.ensures.err.0 in
      let undone = c.in-Err.ensures.err.1 in
      let x = next_there st.keeps.contents (streamed (seen T n) p b.moment) (clocked b.moment p here) p (awaits g it T st) line in
      let gone = over-bytes T n p x.0 line x.1 in
      let goes = bytes_goes T (lent_by b) n p m.opened (none_owed st.keeps.contents here.session here.output (untaken_of (seen T n)) m.owed (nothing g it)) (fits g it) in
      let first = (c.get_mut.follows.holds c.hear.new.self).3 (search rules) in
      let second = c.lack_memory.ensures.connections in
      let there : get nat_cmp b.connections n ≡ Some here = sym c.in-Some.ensures.value in
      stands_after g.V.Vault b _ T (Bytes n p) outcome.NoMemory
      (moved g.V.Vault.holds b _ T (Bytes n p) _ NoMemory n refl st refl refl refl refl refl refl (whole-bytes T n p NoMemory) refl refl
      (rw there refl) (λ q e. seen-bytes_other T n p q NoMemory e) (λ q ne. second.2 q (is_apart n q ne) ∙ first.2 q (is_apart n q ne)) (record {
        contents = st.keeps.contents;
        held = undone.held st.keeps.contents st.keeps.held clean;
        agree = rw (records-bytes_lacking T n p x.0 line x.1) st.keeps.agree;
        here = subst (IsKeptFor st.keeps.contents (seen (given T (Bytes n p) (Tagged NoMemory)) n)) (sym second.1) gone;
        carried = λ q e i. i;
        locks = released T.base (acts T) (acts (given T (Bytes n p) (Tagged NoMemory))) n (λ d q e. ap (λ s. holds_by s d) (seen-bytes_other T n p q NoMemory e))
            (λ d. let out = gone.authorization in rw out refl) st.keeps.contents (seen T n) here.session c.hear.new.locks _ m.session refl refl
            (λ d. undone.locks d ∙ st.locks d)
            (subst (λ h. Released h c.hear.new.locks c.lack_memory.new.locks) c.maildrop-held.ensures c.lack_memory.ensures.locks);
      }))
      (record { tag = NoMemory; may = line; is = rw goes refl }) tt (λ up answered. absurd answered)
      (λ up. stops g it T st clean up) (g.met.V.Vault.settled _) clean;
})

pub hear-requires : goal.hear-requires
hear-requires c = grind (arith, common_steps)

pub returns-in-Ok-clause-unasked : goal.returns-in-Ok-clause-unasked
returns-in-Ok-clause-unasked g c T st clean none = unasked g (goal.at.returns-in-Ok-clause-unasked g c).After-hear T st clean none

pub returns-in-Err-clause-unasked : goal.returns-in-Err-clause-unasked
returns-in-Err-clause-unasked g c T st clean none = unasked g (goal.at.returns-in-Err-clause-unasked g c).After-hear T st clean none

pub returns-in-Ok-clause-account : goal.returns-in-Ok-clause-account
returns-in-Ok-clause-account g c T st clean =
    let it = (goal.at.returns-in-Ok-clause-account g c).After-hear in
    let b = c.args.self.now in
    let q = c.args.piece.now in
    let w = c.in-Ok.line.outcome in
    let sound = g.met.V.Vault.sound b.vault st.keeps.contents st.keeps.held (c.hear.ensures.acts.clean clean) in
    let j = judging g it T st sound in
    let did = c.in-Ok.ensures.answered st.keeps.contents j.transaction st.keeps.held clean j.has_transaction in
    let is = piece_told T c.args.c q st.keeps sound b.policy st.policy b.locks st.locks b.moment st.moment c.in-Some.connection.now (matches g it T st) (nothing g it) (fits g it)
    w c.hear.new.self did in
    c.after_line.ensures.account ∙ (did.account ∙ (is ∙ sym (ap (account_of T (Bytes c.args.c q)) (marked w _ c.after_line.ensures.outcome) ∙ piece_account T c.args.c q w)))

pub returns-in-Err-clause-account : goal.returns-in-Err-clause-account
returns-in-Err-clause-account g c T st clean = rw c.lack_memory.ensures.outcome c.lack_memory.ensures.account

pub returns-in_default-clause-account : goal.returns-in_default-clause-account
returns-in_default-clause-account g c T st clean = rw c.ignored.ensures refl

pub returns-then-not-owes_nothing-clause-account : goal.returns-then-not-owes_nothing-clause-account
returns-then-not-owes_nothing-clause-account g c T st clean = rw c.ignored-then-not-owes_nothing.ensures refl

pub returns-then-piece-gt-MOST_IN_A_PIECE-clause-account : goal.returns-then-piece-gt-MOST_IN_A_PIECE-clause-account
returns-then-piece-gt-MOST_IN_A_PIECE-clause-account g c T st clean = rw c.ignored-then-piece-gt-MOST_IN_A_PIECE.ensures refl
