use Rattle.std.proofs.Common.{◌≡◌, codes, ℕ, List, subst}
use Rattle.std.specs.Prelude.{OnOk}
use Rattle.review.specs.Page.{who_table}
use Rattle.review.proofs.Pieces.{last, more}
use Rattle.review.proofs.page.put_who.Goals as goal

pub returns : goal.returns
unfolding who_table
returns c =
    let rows = more _ _ _ c.in_ok-put_who_head.ensures c.in_ok-put_rows.ensures in
    subst (λ (text : List ℕ). OnOk c.put.result (c.put.new.out.items ≡ text))
    (last _ _ (codes "</tbody></table></div>\n") rows) c.put.ensures
