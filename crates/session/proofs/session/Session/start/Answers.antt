use Rattle.std.proofs.Common.{List, sym, ap, subst, ◌∙◌, ◌≡◌, ◌≤◌, map}
use Rattle.std.specs.Prelude.{sum_by}
use Rattle.creds.specs.declared.login_name.LoginName.{LoginName}
use Rattle.policy.specs.Lane.{Lane}
use Rattle.policy.specs.Policy.{Policy}
use Rattle.vault.specs.declared.answer.Head.{Head}
use Rattle.session.specs.declared.row.Row.{Row}
use Rattle.session.specs.Session.{class_of, octets_of}
use Rattle.session.specs.Rows.{login_of, heads_of, unmarked_row, session_of}
use Rattle.session.specs.View.{visible, may_read}
use Rattle.session.proofs.MarkLemmas.{sum_by-filter-le}
use Rattle.session.proofs.RowLemmas.{heads_of-unmarked, session_of-unmarked}
use Rattle.session.proofs.session.Session.start.Goals as goal

-- what is visible in a lane
seen_by : (lane : Lane) (policy : Policy) (name : LoginName) (heads : List Head) (rows : List Row) → lane ≡ record { policy = policy; clerk = name.clerk; maildrop = name.maildrop }
    → rows ≡ map unmarked_row (visible class_of lane.policy (login_of lane) heads) → rows ≡ map unmarked_row (visible class_of policy name heads)
seen_by lane policy name heads rows e r = r ∙ ap (λ (l : Lane). map unmarked_row (visible class_of l.policy (login_of l) heads)) e

pub returns-clause-session : goal.returns-clause-session
returns-clause-session c =
    let name : LoginName = record { clerk = c.args.clerk; maildrop = c.args.maildrop } in
    let seen = visible class_of c.args.policy.now name c.args.heads.now in
    let rows : c.in_ok-rows.rows.items ≡ map unmarked_row seen = seen_by c.lane-lane.result c.args.policy.now name c.args.heads.now c.in_ok-rows.rows.items c.lane-lane.ensures c.in_ok-rows.ensures in
    ap (session_of name c.args.removals) rows ∙ session_of-unmarked name c.args.removals seen

pub returns-clause-octets : goal.returns-clause-octets
returns-clause-octets c =
    let name : LoginName = record { clerk = c.args.clerk; maildrop = c.args.maildrop } in
    let policy = c.args.policy.now in
    let heads = c.args.heads.now in
    let seen = visible class_of policy name heads in
    let rows : c.in_ok-rows.rows.items ≡ map unmarked_row seen = seen_by c.lane-lane.result policy name heads c.in_ok-rows.rows.items c.lane-lane.ensures c.in_ok-rows.ensures in
    let view : heads_of c.in_ok-rows.rows.items ≡ seen = ap heads_of rows ∙ heads_of-unmarked seen in
    subst (λ (hs : List Head). sum_by octets_of hs ≤ sum_by octets_of heads) (sym view) (sum_by-filter-le (λ (head : Head). may_read policy name (class_of head)) octets_of heads)
