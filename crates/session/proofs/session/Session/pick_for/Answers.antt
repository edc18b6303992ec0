use Rattle.std.proofs.Common.{ℕ, true, false, List, sym, ap, ◌∙◌, ◌≡◌, refl, not}
use Rattle.std.specs.Prelude.{Ok, Err}
use Rattle.std.proofs.lemmas.Result.{err_from_is_err_and}
use Rattle.std.proofs.lemmas.Bool.{not-true, not-false}
use Rattle.creds.specs.declared.login_name.LoginName.{LoginName}
use Rattle.policy.specs.Lane.{Lane}
use Rattle.policy.specs.Policy.{Policy}
use Rattle.policy.specs.declared.decide.Decision.{Decision}
use Rattle.vault.specs.declared.answer.Head.{Head}
use Rattle.session.specs.declared.pick.Pick.TheVariants.{Denied}
use Rattle.session.specs.declared.row.Row.{Row}
use Rattle.session.specs.Session.{Session, read_answer, picked_for}
use Rattle.session.specs.Rows.{login_of, row_picked}
use Rattle.session.specs.View.{retrieval}
use Rattle.session.proofs.RowLemmas.{reading-found, reading-refused}
use Rattle.session.proofs.session.Session.pick_for.Goals as goal

-- what a lane says is what the policy says of the clerk and the maildrop
of_lane : (lane : Lane) (policy : Policy) (name : LoginName) (class : List ℕ) → lane ≡ record { policy = policy; clerk = name.clerk; maildrop = name.maildrop }
    → retrieval lane.policy (login_of lane) class ≡ retrieval policy name class
of_lane lane policy name class e = ap (λ (l : Lane). retrieval l.policy (login_of l) class) e

denied : (decision : Decision) (head : Head) → not decision.allowed ≡ true → read_answer decision head ≡ Err (Denied decision.rule)
denied decision head e = rw (not-true decision.allowed e) refl

granted : (decision : Decision) (head : Head) → not decision.allowed ≡ false → read_answer decision head ≡ Ok (record { head = head; rule = decision.rule })
granted decision head e = rw (not-false decision.allowed e) refl

pub returns-in_err-head : goal.returns-in_err-head
returns-in_err-head c =
    let p = err_from_is_err_and c.from_residual.result c.from_residual.ensures.1 in
    let s = c.self.inside in
    let policy = c.args.policy.now in
    let why = c.in_err-head.field-0.0 in
    let refused : row_picked s.rows.items c.args.n ≡ Err why = ap (λ (rows : List Row). row_picked rows c.args.n) (sym c.deref.ensures.value) ∙ sym c.in_err-head.ensures.answer in
    p.1 ∙ ap Err p.2 ∙ sym (reading-refused policy s.name s.removals s.rows.items c.args.n why refused) ∙ ap (λ (session : Session). picked_for policy session c.args.n) c.self.view_is

pub returns-then-not-decision : goal.returns-then-not-decision
returns-then-not-decision c =
    let s = c.self.inside in
    let policy = c.args.policy.now in
    let found : row_picked s.rows.items c.args.n ≡ Ok c.in_ok-head.head = ap (λ (rows : List Row). row_picked rows c.args.n) (sym c.deref.ensures.value) ∙ sym c.in_ok-head.ensures.answer in
    sym (denied c.retrieval-decision.result c.in_ok-head.head c.if-not-decision.true)
    ∙ ap (λ (d : Decision). read_answer d c.in_ok-head.head)
    (c.retrieval-decision.ensures ∙ of_lane c.lane-lane.result c.args.policy.now c.self.inside.name c.in_ok-head.head.class c.lane-lane.ensures)
    ∙ sym (reading-found policy s.name s.removals s.rows.items c.args.n c.in_ok-head.head found) ∙ ap (λ (session : Session). picked_for policy session c.args.n) c.self.view_is

pub returns : goal.returns
returns c =
    let s = c.self.inside in
    let policy = c.args.policy.now in
    let found : row_picked s.rows.items c.args.n ≡ Ok c.in_ok-head.head = ap (λ (rows : List Row). row_picked rows c.args.n) (sym c.deref.ensures.value) ∙ sym c.in_ok-head.ensures.answer in
    sym (granted c.retrieval-decision.result c.in_ok-head.head c.if-not-decision.false)
    ∙ ap (λ (d : Decision). read_answer d c.in_ok-head.head)
    (c.retrieval-decision.ensures ∙ of_lane c.lane-lane.result c.args.policy.now c.self.inside.name c.in_ok-head.head.class c.lane-lane.ensures)
    ∙ sym (reading-found policy s.name s.removals s.rows.items c.args.n c.in_ok-head.head found) ∙ ap (λ (session : Session). picked_for policy session c.args.n) c.self.view_is
