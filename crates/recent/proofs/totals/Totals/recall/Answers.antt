-- Rows of which none is stale are made of their totals.
use Rattle.std.proofs.Common.{List, map, ap, sym, ◌∙◌}
use Rattle.vault.specs.declared.answer.Total.{Total}
use Rattle.recent.specs.Recalling.{fresh}
use Rattle.recent.proofs.Sums.{all_fresh}
use Rattle.recent.proofs.totals.Totals.recall.Goals as goal

pub returns-in-Ok : goal.returns-in-Ok
returns-in-Ok c =
    let none = sym c.is_any_stale.ensures ∙ c.if-is_any_stale.false in
    sym c.self.view_is ∙ sym c.as_slice-rows.ensures.value ∙ all_fresh c.as_slice-rows.result.now none ∙ ap (λ (ts : List Total). map fresh ts) (sym c.in-Ok.ensures)
