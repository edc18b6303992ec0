use Rattle.std.proofs.Common.{List, sym, ap, ◌∙◌, length}
use Rattle.std.specs.Prelude.{count_by}
use Rattle.session.specs.declared.row.Row.{Row}
use Rattle.session.specs.Session.{Session}
use Rattle.session.specs.View.{marked}
use Rattle.session.proofs.RowLemmas.{length-marked}
use Rattle.session.proofs.session.Session.marked.Goals as goal

pub returns : goal.returns
returns c =
    let rows = c.self.inside.rows.items in
    c.marked_count.ensures ∙ ap (λ (rs : List Row). count_by (λ (row : Row). row.is_marked) rs) c.deref.ensures.value
    ∙ sym (length-marked rows) ∙ ap (λ (s : Session). length (marked s.marks s.view)) c.self.view_is
