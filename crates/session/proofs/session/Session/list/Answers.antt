use Rattle.std.proofs.Common.{List, sym, ap, ◌∙◌}
use Rattle.session.specs.declared.row.Row.{Row}
use Rattle.session.specs.Session.{Session, octets_of}
use Rattle.session.specs.Rows.{unmarked_from}
use Rattle.session.specs.View.{unmarked, sizes_of}
use Rattle.session.proofs.RowLemmas.{unmarked-rows}
use Rattle.session.proofs.session.Session.list.Goals as goal

pub returns : goal.returns
returns c =
    let rows = c.self.inside.rows.items in
    c.new.ensures ∙ ap (λ (rs : List Row). sizes_of octets_of (unmarked_from 1 rs)) c.deref.ensures.value ∙ ap (sizes_of octets_of) (sym (unmarked-rows rows))
    ∙ ap (λ (s : Session). sizes_of octets_of (unmarked s.marks s.view)) c.self.view_is
