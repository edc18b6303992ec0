use Rattle.std.proofs.Common.{◌≡◌, [], false, Some, None, sym, ◌∙◌, ap, nat_cmp, subst, rules, refl, arith}
use Rattle.std.specs.BTreeMap.{get, Updates}
use Rattle.vault.specs.Changes.{AreSound}
use Rattle.office.specs.Events.{Took, Tagged, given}
use Rattle.office.specs.History.{Done, Failed, NoMemory}
use Rattle.office.specs.Connections.{closing, serving, user}
use Rattle.office.specs.Trace.{acts, history, next_line}
use Rattle.office.specs.Accounts.{account_of, taken_told}
use Rattle.office.proofs.Accounts.{taking_account, part_taken}
use Rattle.office.specs.Kept.{Kept, line_after, maildrop_of}
use Rattle.office.specs.Locks.{Released}
use Rattle.office.specs.Answered.{tag_of, judged_at}
use Rattle.office.specs.Stands.{IsKeptFor, IsSession, seen, untaken_of, lent_by}
use Rattle.office.specs.declared.login_state.LineOutcome.TheVariants as line_outcome
use Rattle.office.proofs.Events.{moved, marked, seen-took_other, records-took_lacking, whole-took}
use Rattle.office.proofs.Events.{over-took, next_there, next_kept, is_apart, line_cause, records-took_line}
use Rattle.office.proofs.Events.{records-took_none}
use Rattle.office.proofs.Hearing.{took}
use Rattle.office.proofs.Locking.{holds_by}
use Rattle.office.proofs.Coming.{released, put_back}
use Rattle.office.proofs.Taking.{lent_ready, takes_all}
use Rattle.office.proofs.TakingDone.{taking_at, judged, taking_moves, taking_answered, taking_told}
use Rattle.office.specs.Outcomes as outcome
use Rattle.office.proofs.AfterEvents.{closed_at, stands_after, ignored_after}
use Rattle.office.proofs.StoppingLines.{line_left, line_answered}
use Rattle.office.proofs.Unasked.{taking_asks_none}
use Rattle.vault.proofs.CallLemmas.{grown_before}
use Rattle.office.specs.Expected.{may_show}
use Rattle.office.specs.Events.{Trace}
use Rattle.office.specs.Stands.{StandsFor}
use Rattle.office.proofs.TakingDone.{IsTaking}
use Rattle.office.proofs.TakingExits.{exits_after, lacking_exit, failing_exit, part_exit, closing_exit, feeds_left, reads_left, part_left, all_left, still_closing}
use Rattle.office.proofs.Judging.{Judges}
use Rattle.office.specs.Stopping.{SaysTrace}
use Rattle.vault.specs.Changes.{Contents}
use Rattle.std.proofs.Common.{◌⊎◌}
use Rattle.office.proofs.Taking.{TakesAll}
use Rattle.office.proofs.office.Office.took.Given.{Over}
use Rattle.office.proofs.office.Office.took.Goals.{After-take, After-resume}
use Rattle.office.proofs.office.Office.took.Goals as goal

-- ---- what several exits know

-- what is known as the octets are taken
taking : (g : Over) (c : After-take g) (T : Trace) (st : StandsFor g.V.Vault.holds c.args.self.now T) → IsTaking st c.args.c c.args.octets c.in-Some.connection.now
taking g c T st = taking_at c.args.self.now T st c.args.c c.args.octets c.in-Some.connection.now (sym c.in-Some.ensures.value) (c.lends.ensures.some c.if-not-lends.false)

-- what is kept of the connection then stands where it stood
changed : (g : Over) (c : After-take g) → Updates nat_cmp c.args.self.now.connections (c.get_mut.follows.lender c.take.new.self) c.args.c (Some c.take.new.self)
changed g c = (c.get_mut.follows.holds c.take.new.self).3 (search rules)

-- they are taken without asking the store, if the taking asks nothing
unasked : (g : Over) (c : After-take g) (T : Trace) → StandsFor g.V.Vault.holds c.args.self.now T → may_show T (Took c.args.c c.args.octets) Failed ≡ false → c.take.new.vault ≡ c.args.self.now.vault
unasked g c T st none = c.take.ensures.unasked ((taking g c T st).reads_none none)

-- all is taken before the next line acts
all : (g : Over) (c : After-resume g) (T : Trace) (st : StandsFor g.V.Vault.holds c.args.self.now T) → g.V.Vault.is_clean c.take.new.vault
    → TakesAll st.keeps.contents T c.args.c c.args.octets c.args.self.now.moment c.take.new.self
all g c T st before =
    let o = c.args.self.now in
    let at = taking_at o T st c.args.c c.args.octets c.in-Some.connection.now (sym c.in-Some.ensures.value) (c.lends.ensures.some c.if-not-lends.false) in
    takes_all st.keeps.contents T c.args.c c.args.octets o.moment c.in-Some.connection.now c.take.new.self at.matches at.fits c.take.ensures.kept
    (c.in-Ok.ensures.owes c.if-not-taken.false st.keeps.contents (untaken_of (seen T c.args.c)) st.keeps.held before at.matches.owed)
    (c.owes_nothing.ensures.nothing c.if-not-owes_nothing.false) (sym c.is_closing.ensures ∙ c.if-is_closing.false)

-- the contents that the trace is kept with are sound
sound_then : (g : Over) (c : After-resume g) (T : Trace) (st : StandsFor g.V.Vault.holds c.args.self.now T) → g.V.Vault.is_clean c.take.new.vault → AreSound st.keeps.contents
sound_then g c T st before = g.met.V.Vault.sound c.args.self.now.vault st.keeps.contents st.keeps.held (c.take.ensures.looks.clean before)

-- the next line is judged as the trace says
abbrev judging : (g : Over) (c : After-resume g) (T : Trace) (st : StandsFor g.V.Vault.holds c.args.self.now T) → g.V.Vault.is_clean c.take.new.vault
    → Judges T.base (history T) c.args.c st.keeps.contents (judged_at st.keeps.contents c.args.self.now.policy c.take.new.self.stamp c.args.self.now.locks)
    c.take.new.self.state c.take.new.self.session
judging g c T st before =
    let o = c.args.self.now in
    let a = all g c T st before in
    judged T c.args.c c.args.octets st.keeps (sound_then g c T st before) o.policy st.policy o.locks st.locks o.moment st.moment c.take.new.self a.ready a.over a.open_yet

-- nothing is asked for the next line either
resumed : (g : Over) (c : After-resume g) (T : Trace) → StandsFor g.V.Vault.holds c.args.self.now T → g.V.Vault.is_clean c.args.self.now.vault
    → may_show T (Took c.args.c c.args.octets) Failed ≡ false → c.take.new.vault ≡ c.args.self.now.vault → c.resume.new.vault ≡ c.args.self.now.vault
resumed g c T st clean none same =
    let o = c.args.self.now in
    let ct = st.keeps.contents in
    let k1 : Kept = c.take.new.self in
    let before = subst g.V.Vault.is_clean (sym same) clean in
    let a = all g c T st before in
    let j = judging g c T st before in
    c.resume.ensures.unasked ct j.transaction j.has_transaction
    (taking_asks_none T c.args.c ct k1 (judged_at ct o.policy k1.stamp o.locks) k1.state k1.session j c.args.octets o.moment a.ready a.over a.open_yet none) ∙ same

-- what a stop leaves once the next line may have acted
stops : (g : Over) (c : After-resume g) (T : Trace) → StandsFor g.V.Vault.holds c.args.self.now T → g.V.Vault.is_clean c.resume.new.vault → g.V.Vault.is_up c.args.self.now.vault
    → (left : Contents) → g.V.Vault.may_leave c.resume.new.vault left → SaysTrace left T ⊎ SaysTrace left (given T (Took c.args.c c.args.octets) (Tagged Done))
stops g c T st clean up =
    let o = c.args.self.now in
    let x = c.args.c in
    let n = c.args.octets in
    let ct = st.keeps.contents in
    let k1 : Kept = c.take.new.self in
    let before = c.resume.ensures.acts.clean clean in
    let a = all g c T st before in
    line_left T x st.keeps (sound_then g c T st before) (took (seen T x) n o.moment) k1 k1.pending (judged_at ct o.policy k1.stamp o.locks) k1.state a.ready (judging g c T st before) (Took x n)
    (λ h nx. records-took_line T x n line_outcome.Done (line_after k1 k1.pending) a.over a.open_yet (next_kept T x ∙ nx)) (λ h nx. records-took_none T x n a.over a.open_yet (next_kept T x ∙ nx))
    (c.resume.ensures.acts.stop ct (c.take.ensures.looks.held ct st.keeps.held before) clean (c.in-Ok.ensures.looks.up ct st.keeps.held before up c.if-not-taken.false))

-- ---- each exit

pub returns-in_default-clause-after : goal.returns-in_default-clause-after
returns-in_default-clause-after g c =
    let o = c.args.self.now in
    let none : get nat_cmp o.connections c.args.c ≡ None = search rules in
    rw c.ignored.ensures (ignored_after g.V.Vault o _ (Took c.args.c c.args.octets) outcome.NoSuchConnection (g.met.V.Vault.settled _)
    (λ q. ap (λ connections. get nat_cmp connections q) c.get_mut.follows.holds-at-none)
    (λ T st. let closed = closed_at T c.args.c st none in rw closed refl))

pub returns-then-not-lends-clause-after : goal.returns-then-not-lends-clause-after
returns-then-not-lends-clause-after g c =
    let o = c.args.self.now in
    let x = c.args.c in
    let k : Kept = c.in-Some.connection.now in
    let found : get nat_cmp o.connections x ≡ Some k = sym c.in-Some.ensures.value in
    let updates = (c.get_mut.follows.holds k).3 (search rules) in
    rw c.ignored-then-not-lends.ensures
    (ignored_after g.V.Vault o _ (Took x c.args.octets) outcome.NotReady (g.met.V.Vault.settled _) (put_back x k o.connections (c.get_mut.follows.lender k) found updates)
    (λ T st. search rules))

pub returns-in-Err-clause-after : goal.returns-in-Err-clause-after
returns-in-Err-clause-after g c =
    let it = (goal.at.returns-in-Err-clause-after g c).After-take in
    rw c.ended.ensures (exits_after g.V.Vault c.args.self.now _ (Took c.args.c c.args.octets) outcome.NoMemory c.take.ensures.looks (g.met.V.Vault.settled _)
    (λ T st clean. lacking_exit g.V.Vault (taking g it T st) c.take.new.vault (c.get_mut.follows.lender c.take.new.self) _ _ c.take.new.self (λ d h. c.take.ensures.looks.held d h clean)
    (changed g it) c.cut_off.ensures.connections (subst (λ h. Released h c.args.self.now.locks c.cut_off.new.locks) c.maildrop-held.ensures c.cut_off.ensures.locks) c.in-Err.ensures.err))

pub returns-then-not-taken-clause-after : goal.returns-then-not-taken-clause-after
returns-then-not-taken-clause-after g c =
    let it = (goal.at.returns-then-not-taken-clause-after g c).After-take in
    let refused = c.if-not-taken.true in
    rw c.ended-then-not-taken.ensures (exits_after g.V.Vault c.args.self.now _ (Took c.args.c c.args.octets) outcome.Failed c.take.ensures.looks (g.met.V.Vault.settled _) (λ T st clean.
    let at = taking g it T st in
    failing_exit g.V.Vault at c.take.new.vault (c.get_mut.follows.lender c.take.new.self) _ _ c.take.new.self (λ d h. c.take.ensures.looks.held d h clean)
    (changed g it) c.cut_off-then-not-taken.ensures.connections
    (subst (λ h. Released h c.args.self.now.locks c.cut_off-then-not-taken.new.locks) c.maildrop-held.ensures c.cut_off-then-not-taken.ensures.locks)
    (c.in-Ok.ensures.refused refused) (c.in-Ok.ensures.cause refused st.keeps.contents (untaken_of (seen T c.args.c)) st.keeps.held clean at.matches.owed)))

pub returns-then-not-owes_nothing-clause-after : goal.returns-then-not-owes_nothing-clause-after
returns-then-not-owes_nothing-clause-after g c =
    let it = (goal.at.returns-then-not-owes_nothing-clause-after g c).After-take in
    let done = c.if-not-taken.false in
    rw c.silent.ensures (exits_after g.V.Vault c.args.self.now _ (Took c.args.c c.args.octets) outcome.Done c.in-Ok.ensures.looks (g.met.V.Vault.settled _) (λ T st clean.
    let at = taking g it T st in
    part_exit g.V.Vault at c.take.new.self c.take.ensures.kept (c.in-Ok.ensures.owes done st.keeps.contents (untaken_of (seen T c.args.c)) st.keeps.held clean at.matches.owed) c.take.new.vault _
    (c.take.ensures.looks.held st.keeps.contents st.keeps.held clean) done (changed g it) (sym c.owes_nothing.ensures.value ∙ c.if-not-owes_nothing.true) c.in-Ok.ensures.kind))

pub returns-then-is_closing-clause-after : goal.returns-then-is_closing-clause-after
returns-then-is_closing-clause-after g c =
    let it = (goal.at.returns-then-is_closing-clause-after g c).After-take in
    let done = c.if-not-taken.false in
    rw c.all_taken.ensures (exits_after g.V.Vault c.args.self.now _ (Took c.args.c c.args.octets) outcome.Done c.in-Ok.ensures.looks (g.met.V.Vault.settled _) (λ T st clean.
    let at = taking g it T st in
    closing_exit g.V.Vault at c.take.new.self c.take.ensures.kept (c.in-Ok.ensures.owes done st.keeps.contents (untaken_of (seen T c.args.c)) st.keeps.held clean at.matches.owed) c.take.new.vault _
    (c.in-Ok.ensures.looks.held st.keeps.contents st.keeps.held clean) (c.get_mut.follows.lender c.take.new.self) done (changed g it)
    c.remove.ensures.updates (c.owes_nothing.ensures.nothing c.if-not-owes_nothing.false) (sym c.is_closing.ensures ∙ c.if-is_closing.true)))

pub returns-in-Ok-resume-clause-after : goal.returns-in-Ok-resume-clause-after
returns-in-Ok-resume-clause-after g c = record {
  counted = omega (arith, c.take.ensures.looks.counted, c.resume.ensures.acts.counted);
  clean = λ clean. c.take.ensures.looks.clean (c.resume.ensures.acts.clean clean);
  each = λ T st clean.
      let it = goal.at.returns-in-Ok-resume-clause-after g c in
      let before = c.resume.ensures.acts.clean clean in
      let o = c.args.self.now in
      let x = c.args.c in
      let n = c.args.octets in
      let ct = st.keeps.contents in
      let k1 : Kept = c.take.new.self in
      let at = taking g it.After-take T st in
      let a = all g it.After-resume T st before in
      let j = judging g it.After-resume T st before in
      let sound = sound_then g it.After-resume T st before in
      let held = c.take.ensures.looks.held ct st.keeps.held before in
      let w = c.in-Ok-resume.line.outcome in
      let line = c.in-Ok-resume.ensures in
      let k' : Kept = c.resume.new.self in
      let change = (c.get_mut.follows.holds k').3 (search rules) in
      let did = line.answered ct j.transaction held clean j.has_transaction in
      stands_after g.V.Vault o _ T (Took x n) _
      (moved g.V.Vault.holds o _ T (Took x n) _ (tag_of w) x (marked w _ c.after_all.ensures.outcome) st refl refl refl refl refl refl (whole-took T x n (tag_of w)) refl refl
      (rw at.found refl) (λ q e. seen-took_other T x n q (tag_of w) e) (λ q ne. change.2 q (is_apart x q ne))
      (taking_moves T x n st.keeps sound o.policy st.policy o.locks st.locks o.moment st.moment k1 a.ready a.over a.open_yet w k' did _ line.locks g.V.Vault.holds o _ change.1 refl did.held))
      (taking_answered T x n st.keeps sound o.policy st.policy o.locks st.locks o.moment st.moment k1 a.ready a.over a.open_yet w k' did (lent_by o) _ at.goes c.after_all.ensures.outcome)
      (line_cause (g.V.Vault.faults o.vault) (g.V.Vault.faults c.resume.new.vault) w _ c.after_all.ensures.outcome
      (λ f. grown_before (g.V.Vault.faults o.vault) (g.V.Vault.faults c.take.new.vault) (g.V.Vault.faults c.resume.new.vault) c.take.ensures.looks.counted (did.cause f)))
      (λ up answered. line.acts.up ct held clean (c.in-Ok.ensures.looks.up ct st.keeps.held before up c.if-not-taken.false) (line_answered w _ c.after_all.ensures.outcome answered))
      (λ up. stops g it.After-resume T st clean up) (g.met.V.Vault.settled _) clean;
}

pub returns-in-Err-resume-clause-after : goal.returns-in-Err-resume-clause-after
returns-in-Err-resume-clause-after g c = rw c.lack_memory.ensures.outcome (record {
  counted = omega (arith, c.take.ensures.looks.counted, c.resume.ensures.acts.counted);
  clean = λ clean. c.take.ensures.looks.clean (c.resume.ensures.acts.clean clean);
  each = λ T st clean.
      let it = goal.at.returns-in-Err-resume-clause-after g c in
      let before = c.resume.ensures.acts.clean clean in
      let x = c.args.c in
      let n = c.args.octets in
      let at = taking g it.After-take T st in
      let a = all g it.After-resume T st before in
      let lacks = c.in-Err-resume.ensures.err in
      let next = next_there st.keeps.contents (took (seen T x) n c.args.self.now.moment) c.take.new.self c.take.new.self.pending a.ready lacks.0 in
      let line = next_kept T x ∙ next.1 in
      let first = (c.get_mut.follows.holds c.resume.new.self).3 (search rules) in
      let second = c.lack_memory.ensures.connections in
      let gone = over-took T x n next.0 a.over a.open_yet line in
      let sits : c.take.new.self.session ≡ c.in-Some.connection.now.session = ap (λ (k : Kept). k.session) c.take.ensures.kept in
      stands_after g.V.Vault c.args.self.now _ T (Took x n) outcome.NoMemory
      (moved g.V.Vault.holds c.args.self.now _ T (Took x n) _ NoMemory x refl st refl refl refl refl refl refl (whole-took T x n NoMemory) refl refl (rw at.found refl)
      (λ q e. seen-took_other T x n q NoMemory e) (λ q ne. second.2 q (is_apart x q ne) ∙ first.2 q (is_apart x q ne)) (record {
        contents = st.keeps.contents;
        held = lacks.1.held st.keeps.contents (c.take.ensures.looks.held st.keeps.contents st.keeps.held before) clean;
        agree = rw (records-took_lacking T x n next.0 a.over a.open_yet line) st.keeps.agree;
        here = subst (IsKeptFor st.keeps.contents (seen (given T (Took x n) (Tagged NoMemory)) x)) (sym second.1) gone;
        carried = λ q e i. i;
        locks = released T.base (acts T) (acts (given T (Took x n) (Tagged NoMemory))) x (λ d q e. ap (λ s. holds_by s d) (seen-took_other T x n q NoMemory e))
            (λ d. let out = gone.authorization in rw out refl) st.keeps.contents (seen T x) c.take.new.self.session c.resume.new.locks _
            (subst (IsSession st.keeps.contents (seen T x)) (sym sits) at.matches.session) refl refl (λ d. lacks.1.locks d ∙ st.locks d)
            (subst (λ h. Released h c.resume.new.locks c.lack_memory.new.locks) (c.maildrop-held.ensures ∙ ap maildrop_of (sym sits)) c.lack_memory.ensures.locks);
      }))
      (record { tag = NoMemory; may = rw (a.over, a.open_yet, line) refl; is = rw at.goes refl }) tt (λ up answered. absurd answered)
      (λ up. stops g it.After-resume T st clean up) (g.met.V.Vault.settled _) clean;
})

pub take-requires : goal.take-requires
take-requires g c = lent_ready c.in-Some.connection.now.output c.args.octets (c.lends.ensures.some c.if-not-lends.false).1

pub returns-in-Err-clause-unasked : goal.returns-in-Err-clause-unasked
returns-in-Err-clause-unasked g c T st clean none = unasked g (goal.at.returns-in-Err-clause-unasked g c).After-take T st none

pub returns-then-not-taken-clause-unasked : goal.returns-then-not-taken-clause-unasked
returns-then-not-taken-clause-unasked g c T st clean none = unasked g (goal.at.returns-then-not-taken-clause-unasked g c).After-take T st none

pub returns-then-not-owes_nothing-clause-unasked : goal.returns-then-not-owes_nothing-clause-unasked
returns-then-not-owes_nothing-clause-unasked g c T st clean none = unasked g (goal.at.returns-then-not-owes_nothing-clause-unasked g c).After-take T st none

pub returns-then-is_closing-clause-unasked : goal.returns-then-is_closing-clause-unasked
returns-then-is_closing-clause-unasked g c T st clean none = unasked g (goal.at.returns-then-is_closing-clause-unasked g c).After-take T st none

pub returns-in-Ok-resume-clause-unasked : goal.returns-in-Ok-resume-clause-unasked
returns-in-Ok-resume-clause-unasked g c T st clean none =
    let at = goal.at.returns-in-Ok-resume-clause-unasked g c in
    resumed g at.After-resume T st clean none (unasked g at.After-take T st none)

pub returns-in-Err-resume-clause-unasked : goal.returns-in-Err-resume-clause-unasked
returns-in-Err-resume-clause-unasked g c T st clean none =
    let at = goal.at.returns-in-Err-resume-clause-unasked g c in
    resumed g at.After-resume T st clean none (unasked g at.After-take T st none)

pub returns-in-Ok-resume-clause-account : goal.returns-in-Ok-resume-clause-account
returns-in-Ok-resume-clause-account g c T st clean =
    let here = goal.at.returns-in-Ok-resume-clause-account g c in
    let before = c.resume.ensures.acts.clean clean in
    let now = c.args.self.now in
    let k1 : Kept = c.take.new.self in
    let a = all g here.After-resume T st before in
    let j = judging g here.After-resume T st before in
    let w = c.in-Ok-resume.line.outcome in
    let did = c.in-Ok-resume.ensures.answered st.keeps.contents j.transaction (c.take.ensures.looks.held st.keeps.contents st.keeps.held before) clean j.has_transaction in
    let named : k1.state.user ≡ user (history T) c.args.c = ap (λ (k : Kept). k.state.user) c.take.ensures.kept ∙ (taking g here.After-take T st).matches.user in
    let is = taking_told T c.args.c c.args.octets st.keeps (sound_then g here.After-resume T st before) now.policy st.policy now.locks st.locks now.moment st.moment k1 a.ready a.over a.open_yet
    w c.resume.new.self did named in
    c.after_all.ensures.account ∙ (ap taken_told (did.account ∙ is) ∙ sym (ap (account_of T (Took c.args.c c.args.octets)) (marked w _ c.after_all.ensures.outcome)
    ∙ taking_account T c.args.c c.args.octets w a.over))

pub returns-in-Err-resume-clause-account : goal.returns-in-Err-resume-clause-account
returns-in-Err-resume-clause-account g c T st clean =
    let a = all g (goal.at.returns-in-Err-resume-clause-account g c).After-resume T st (c.resume.ensures.acts.clean clean) in
    rw (c.lack_memory.ensures.outcome, a.over) c.lack_memory.ensures.account

pub returns-in-Err-clause-account : goal.returns-in-Err-clause-account
returns-in-Err-clause-account g c T st clean =
    let left = feeds_left g.V.Vault (taking g (goal.at.returns-in-Err-clause-account g c).After-take T st) c.in-Err.ensures.err in
    rw (c.ended.ensures, left) refl

pub returns-then-not-taken-clause-account : goal.returns-then-not-taken-clause-account
returns-then-not-taken-clause-account g c T st clean =
    let left = reads_left g.V.Vault (taking g (goal.at.returns-then-not-taken-clause-account g c).After-take T st) (c.in-Ok.ensures.refused c.if-not-taken.true) in
    rw (c.ended-then-not-taken.ensures, left) refl

pub returns-then-not-owes_nothing-clause-account : goal.returns-then-not-owes_nothing-clause-account
returns-then-not-owes_nothing-clause-account g c T st clean =
    let x = c.args.c in
    let at = taking g (goal.at.returns-then-not-owes_nothing-clause-account g c).After-take T st in
    let owes = c.in-Ok.ensures.owes c.if-not-taken.false st.keeps.contents (untaken_of (seen T x)) st.keeps.held clean at.matches.owed in
    let left = part_left g.V.Vault at c.take.new.self c.take.ensures.kept owes (sym c.owes_nothing.ensures.value ∙ c.if-not-owes_nothing.true) in
    rw (c.silent.ensures, left) (sym (part_taken T.base (history T) (serving (history T) x) (closing (history T) x) x (next_line T.log (history T) x [])))

pub returns-then-is_closing-clause-account : goal.returns-then-is_closing-clause-account
returns-then-is_closing-clause-account g c T st clean =
    let at = taking g (goal.at.returns-then-is_closing-clause-account g c).After-take T st in
    let owed = c.in-Ok.ensures.owes c.if-not-taken.false st.keeps.contents (untaken_of (seen T c.args.c)) st.keeps.held clean at.matches.owed in
    let over = all_left g.V.Vault at c.take.new.self c.take.ensures.kept owed (c.owes_nothing.ensures.nothing c.if-not-owes_nothing.false) in
    let closed = still_closing g.V.Vault at c.take.new.self c.take.ensures.kept owed (sym c.is_closing.ensures ∙ c.if-is_closing.true) in
    rw (c.all_taken.ensures, over, closed) refl

pub returns-in_default-clause-account : goal.returns-in_default-clause-account
returns-in_default-clause-account g c T st clean = rw c.ignored.ensures refl

pub returns-then-not-lends-clause-account : goal.returns-then-not-lends-clause-account
returns-then-not-lends-clause-account g c T st clean = rw c.ignored-then-not-lends.ensures refl
