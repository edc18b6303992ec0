use Rattle.std.proofs.Common.{List, sym, ap, ◌∙◌}
use Rattle.session.specs.declared.row.Row.{Row}
use Rattle.session.specs.Session.{Session, uid_of}
use Rattle.session.specs.Rows.{unmarked_from}
use Rattle.session.specs.View.{unmarked, uids_of}
use Rattle.session.proofs.RowLemmas.{unmarked-rows}
use Rattle.session.proofs.session.Session.uidl.Goals as goal

pub returns : goal.returns
returns c =
    let rows = c.self.inside.rows.items in
    c.new.ensures ∙ ap (λ (rs : List Row). uids_of uid_of (unmarked_from 1 rs)) c.deref.ensures.value ∙ ap (uids_of uid_of) (sym (unmarked-rows rows))
    ∙ ap (λ (s : Session). uids_of uid_of (unmarked s.marks s.view)) c.self.view_is
