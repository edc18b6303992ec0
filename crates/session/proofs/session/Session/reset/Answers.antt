use Rattle.std.proofs.Common.{List, [], ap, ◌∙◌, map}
use Rattle.std.proofs.lemmas.List.{with_items_is}
use Rattle.session.specs.declared.row.Row.{Row}
use Rattle.session.specs.Session.{Session}
use Rattle.session.specs.Rows.{heads_of, unmarked_row, session_of}
use Rattle.session.proofs.RowLemmas.{session_of-unmarked, session_with}
use Rattle.session.proofs.session.Session.reset.Goals as goal

pub returns : goal.returns
returns c =
    let s = c.self.inside in
    let kept = with_items_is s.rows c.unmark_all.new.rows (c.unmark_all.auto.rows ∙ c.deref_mut.ensures.len) in
    ap (session_of s.name s.removals) (kept ∙ c.unmark_all.ensures ∙ ap (λ (rows : List Row). map unmarked_row (heads_of rows)) c.deref_mut.ensures.value)
    ∙ session_of-unmarked s.name s.removals (heads_of s.rows.items) ∙ ap (λ (session : Session). session_with session.name session.removals session.view []) c.self.view_is
