use Rattle.std.proofs.Common.{ℕ, true, List, set, sym, ap, ◌∙◌, ◌≡◌, ◌<◌, ◌-◌, ◌+◌, length, refl, arith}
use Rattle.std.specs.Prelude.{Ok, Err, ◌||◌, ◌==◌}
use Rattle.std.proofs.lemmas.Result.{err_from_is_err_and}
use Rattle.creds.specs.declared.login_name.LoginName.{LoginName}
use Rattle.policy.specs.Lane.{Lane}
use Rattle.policy.specs.Policy.{Policy}
use Rattle.vault.specs.declared.answer.Head.{Head}
use Rattle.session.specs.declared.row.Row.{Row}
use Rattle.session.specs.Session.{Session, mark_answer, marking}
use Rattle.session.specs.Rows.{login_of, row_picked, marks_of}
use Rattle.session.specs.View.{is_marked, removal}
use Rattle.session.proofs.RowLemmas.{marking-found, marking-refused, is_marked-set, heads_of-set, session_with}
use Rattle.session.proofs.session.Session.mark.Goals as goal

-- what a lane says is what the policy says of the clerk and the maildrop
of_lane : (lane : Lane) (policy : Policy) (name : LoginName) (class : List ℕ) → lane ≡ record { policy = policy; clerk = name.clerk; maildrop = name.maildrop }
    → removal lane.policy (login_of lane) class ≡ removal policy name class
of_lane lane policy name class e = ap (λ (l : Lane). removal l.policy (login_of l) class) e

pub returns-in_err-head-clause-answer : goal.returns-in_err-head-clause-answer
returns-in_err-head-clause-answer c =
    let p = err_from_is_err_and c.from_residual.result c.from_residual.ensures.1 in
    let s = c.self.inside in
    let policy = c.args.policy.now in
    let why = c.in_err-head.field-0.0 in
    let refused : row_picked s.rows.items c.args.n ≡ Err why = ap (λ (rows : List Row). row_picked rows c.args.n) (sym c.deref.ensures.value) ∙ sym c.in_err-head.ensures.answer in
    p.1 ∙ ap Err p.2 ∙ sym (marking-refused policy s.name s.removals s.rows.items c.args.n why refused) ∙ ap (λ (session : Session). marking policy session c.args.n) c.self.view_is

pub returns-in_err-judge_mark-clause-answer : goal.returns-in_err-judge_mark-clause-answer
returns-in_err-judge_mark-clause-answer c =
    let p = err_from_is_err_and c.from_residual-in_err-judge_mark.result c.from_residual-in_err-judge_mark.ensures.1 in
    let s = c.self.inside in
    let policy = c.args.policy.now in
    let found : row_picked s.rows.items c.args.n ≡ Ok c.in_ok-head.head = ap (λ (rows : List Row). row_picked rows c.args.n) (sym c.deref.ensures.value) ∙ sym c.in_ok-head.ensures.answer in
    p.1 ∙ ap Err p.2 ∙ c.in_err-judge_mark.ensures
    ∙ ap (mark_answer s.removals) (of_lane c.lane-lane.result c.args.policy.now c.self.inside.name c.in_ok-head.head.class c.lane-lane.ensures)
    ∙ sym (marking-found policy s.name s.removals s.rows.items c.args.n c.in_ok-head.head found) ∙ ap (λ (session : Session). marking policy session c.args.n) c.self.view_is

pub returns-clause-answer : goal.returns-clause-answer
returns-clause-answer c =
    let s = c.self.inside in
    let policy = c.args.policy.now in
    let found : row_picked s.rows.items c.args.n ≡ Ok c.in_ok-head.head = ap (λ (rows : List Row). row_picked rows c.args.n) (sym c.deref.ensures.value) ∙ sym c.in_ok-head.ensures.answer in
    c.in_ok-judge_mark.ensures ∙ ap (mark_answer s.removals) (of_lane c.lane-lane.result c.args.policy.now c.self.inside.name c.in_ok-head.head.class c.lane-lane.ensures)
    ∙ sym (marking-found policy s.name s.removals s.rows.items c.args.n c.in_ok-head.head found) ∙ ap (λ (session : Session). marking policy session c.args.n) c.self.view_is

pub returns-clause-kept : goal.returns-clause-kept
returns-clause-kept c =
    let s = c.self.inside in
    let row : Row = record { head = c.index_mut.result.now.head; is_marked = true } in
    let marks = marks_of (set s.rows.items (c.args.n - 1) row) in
    let same = heads_of-set s.rows.items (c.args.n - 1) row c.index_mut.result.now (ap (λ (r : Row). r.head) c.index_mut.ensures.value) in
    ap (λ (view : List Head). session_with s.name s.removals view marks) same ∙ ap (λ (session : Session). session_with session.name session.removals session.view marks) c.self.view_is

pub returns-clause-marked : goal.returns-clause-marked
returns-clause-marked c = λ m.
    let rows = c.self.inside.rows.items in
    let n = c.args.n in
    let row : Row = record { head = c.index_mut.result.now.head; is_marked = true } in
    let within : c.args.n - 1 < length rows = omega (arith, c.in_ok-head.ensures.within, ap (λ (rs : List Row). length rs) c.deref.ensures.value) in
    let above : n ≡ n - 1 + 1 = omega (arith, c.in_ok-head.ensures.within) in
    is_marked-set rows (n - 1) m n row refl within above ∙ ap (λ (session : Session). is_marked session.marks m || m == n) c.self.view_is
