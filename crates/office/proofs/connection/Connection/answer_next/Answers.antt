use Rattle.std.proofs.Common.{◌≡◌, ◌∙◌, true, false, drop, string_bytes, sym, ap, subst}
use Rattle.std.proofs.lemmas.Result.{on_err_weaker}
use Rattle.popline.specs.Seen.{cut_seen}
use Rattle.vault.specs.Calls.{has_grown}
use Rattle.office.specs.Kept.{Kept}
use Rattle.office.specs.Connections.{reading}
use Rattle.office.specs.Kept.{asks}
use Rattle.office.specs.Answered.{judged_at, HasTransaction, held_if}
use Rattle.office.specs.Stopping.{ActsOnce, WasDone}
use Rattle.std.specs.Prelude.{IsOkAnd}
use Rattle.office.specs.AfterLine.{AfterLine, AfterNext, line_of}
use Rattle.office.specs.declared.account.Account.TheVariants as account
use Rattle.office.specs.declared.account.LineReport.{LineReport}
use Rattle.office.specs.declared.login_state.LineOutcome.TheVariants as outcome
use Rattle.office.proofs.Obeying.{if_ok_so}
use Rattle.office.proofs.AfterLines.{is_whole, asks_next, acts_next, next_answered, next_none}
use Rattle.office.proofs.connection.Connection.answer_next.Given.{Over}
use Rattle.office.proofs.connection.Connection.answer_next.Goals.{After-clear}
use Rattle.office.proofs.connection.Connection.answer_next.Goals as goal

-- what is kept of the connection, by its fields
abbrev kept : (g : Over) → After-clear g → Kept
kept g c =
    let s = c.self.inside in
    record { held = s.cutter; pending = drop s.cut s.pending.items; output = s.output; state = s.state; stamp = string_bytes s.stamp; session = s.session; clock = s.clock }

pub returns-clause-answered : goal.returns-clause-answered
returns-clause-answered g c =
    let v = c.self.view_is in
    let s = c.self.inside in
    let k = kept g (goal.at.returns-clause-answered g c).After-clear in
    let p = c.args.policy.now in
    let locks = c.args.locks.now in
    let x = cut_seen c.in-Some.cut in
    let new = c.answer.new in
    let grown = has_grown (g.V.Vault.faults c.args.vault.now) (g.V.Vault.faults new.vault) in
    if_ok_so _ c.answer.result c.answer.ensures.answered (λ r h d t held clean sits.
    let line = h d t held clean (subst (λ (k : Kept). HasTransaction d k.session t) (sym v) sits) in
    subst (λ (k : Kept). AfterNext (g.V.Vault.holds new.vault) grown d p locks t k
    (record { held = s.cutter; pending = drop s.cut s.pending.items; output = new.output; state = new.state; stamp = string_bytes s.stamp; session = new.session; clock = s.clock })
    r.outcome r.account) v
    (next_answered k x c.in-Some.ensures (g.V.Vault.holds new.vault) grown d p locks t r.outcome r.account new.session new.state new.output
    (subst (λ stamp. AfterLine (g.V.Vault.holds new.vault) grown d
    (judged_at d p stamp locks) x r.outcome t k.session new.session k.state new.state new.output r.account) c.as_bytes.ensures.value line)))

pub returns-in_default-clause-answered : goal.returns-in_default-clause-answered
returns-in_default-clause-answered g c d t held clean sits =
    let s = c.self.inside in
    let k = kept g (goal.at.returns-in_default-clause-answered g c).After-clear in
    subst (λ (k : Kept). AfterNext (g.V.Vault.holds c.args.vault.now)
    (has_grown (g.V.Vault.faults c.args.vault.now) (g.V.Vault.faults c.args.vault.now)) d c.args.policy.now c.args.locks.now t k
    (record { held = s.cutter; pending = drop s.cut s.pending.items; output = c.clear.new.self; state = s.state; stamp = string_bytes s.stamp; session = s.session; clock = s.clock })
    outcome.Done account.Nothing) c.self.view_is
    (next_none k c.in_default.ensures (g.V.Vault.holds c.args.vault.now) _ d c.args.policy.now c.args.locks.now t c.clear.new.self c.clear.ensures held)

pub returns-clause-err : goal.returns-clause-err
returns-clause-err g c =
    let k = kept g (goal.at.returns-clause-err g c).After-clear in
    on_err_weaker c.answer.result (λ none. (ap (λ (k : Kept). k.held.whole) (sym c.self.view_is) ∙ is_whole k (cut_seen c.in-Some.cut) c.in-Some.ensures, none)) c.answer.ensures.err

pub returns-clause-acts : goal.returns-clause-acts
returns-clause-acts g c =
    let k = kept g (goal.at.returns-clause-acts g c).After-clear in
    let p = c.args.policy.now in
    subst (λ (k : Kept). ActsOnce g.V.Vault c.args.vault.now c.answer.new.vault (IsOkAnd c.answer.result (λ (r : LineReport). WasDone r.outcome))
    (held_if k.held.whole outcome.Done p k.session (reading (line_of k)))) c.self.view_is
    (acts_next k (cut_seen c.in-Some.cut) c.in-Some.ensures g.V.Vault c.args.vault.now c.answer.new.vault (IsOkAnd c.answer.result (λ (r : LineReport). WasDone r.outcome)) p c.answer.ensures.acts)

pub returns-clause-unasked : goal.returns-clause-unasked
returns-clause-unasked g c d t sits none =
    let v = c.self.view_is in
    let k = kept g (goal.at.returns-clause-unasked g c).After-clear in
    let p = c.args.policy.now in
    let asked = subst (λ (k : Kept). k.held.whole ≡ true → asks p k.state t (reading (line_of k)) ≡ false) (sym v) none in
    c.answer.ensures.unasked d t (subst (λ (k : Kept). HasTransaction d k.session t) (sym v) sits) (asks_next k (cut_seen c.in-Some.cut) c.in-Some.ensures p t asked)
