use Rattle.std.proofs.Common.{◌≡◌, ℕ, List, sym, ap, subst, ◌∙◌, length, min, ◌<◌, ◌^◌, ◌-◌}
use Rattle.std.specs.Prelude.{not, count_by, sum_by}
use Rattle.session.specs.declared.row.Row.{Row}
use Rattle.session.specs.Session.{Session, octets_of}
use Rattle.session.specs.Rows.{octets_unless_marked}
use Rattle.session.specs.View.{unmarked, total_of}
use Rattle.session.proofs.RowLemmas.{unmarked-rows, length-unmarked_from, total_of-unmarked_from, exact_total}
use Rattle.session.proofs.session.Session.stat.Goals as goal

pub returns-clause-messages : goal.returns-clause-messages
returns-clause-messages c =
    let rows = c.self.inside.rows.items in
    c.totals.ensures.messages ∙ ap (λ (rs : List Row). count_by (λ (row : Row). not row.is_marked) rs) c.deref.ensures.value
    ∙ sym (length-unmarked_from rows 1) ∙ ap length (sym (unmarked-rows rows)) ∙ ap (λ (s : Session). length (unmarked s.marks s.view)) c.self.view_is

pub returns-clause-octets : goal.returns-clause-octets
returns-clause-octets c =
    let rows = c.self.inside.rows.items in
    c.totals.ensures.octets ∙ ap (λ (rs : List Row). min (sum_by octets_unless_marked rs) (2 ^ 64 - 1)) c.deref.ensures.value
    ∙ ap (λ (octets : ℕ). min octets (2 ^ 64 - 1)) (sym (total_of-unmarked_from rows 1) ∙ ap (total_of octets_of) (sym (unmarked-rows rows)))
    ∙ ap (λ (s : Session). min (total_of octets_of (unmarked s.marks s.view)) (2 ^ 64 - 1)) c.self.view_is

pub returns-clause-exact : goal.returns-clause-exact
returns-clause-exact c =
    let rows = c.self.inside.rows.items in
    let octets : c.totals.result.1 ≡ min (sum_by octets_unless_marked rows) (2 ^ 64 - 1) =
    c.totals.ensures.octets ∙ ap (λ (rs : List Row). min (sum_by octets_unless_marked rs) (2 ^ 64 - 1)) c.deref.ensures.value in
    let P : Session → Type 0 = λ s. sum_by octets_of s.view < 2 ^ 64 → c.totals.result.1 ≡ total_of octets_of (unmarked s.marks s.view) in
    subst P c.self.view_is (λ fits. exact_total rows c.totals.result.1 octets fits)
