use Rattle.std.proofs.Common.{List, sym, ap, ◌∙◌}
use Rattle.session.specs.declared.row.Row.{Row}
use Rattle.session.specs.Session.{Session, picked}
use Rattle.session.specs.Rows.{row_picked}
use Rattle.session.proofs.RowLemmas.{picked-rows}
use Rattle.session.proofs.session.Session.pick.Goals as goal

pub returns : goal.returns
returns c =
    let s = c.self.inside in
    let n = c.args.n in
    c.head_at.ensures.answer ∙ ap (λ (rows : List Row). row_picked rows n) c.deref.ensures.value ∙ sym (picked-rows s.name s.removals s.rows.items n)
    ∙ ap (λ (session : Session). picked session n) c.self.view_is
