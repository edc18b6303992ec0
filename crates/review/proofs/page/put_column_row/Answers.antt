use Rattle.std.proofs.Common.{◌≡◌, codes, ℕ, List, subst}
use Rattle.std.specs.Prelude.{OnOk}
use Rattle.review.specs.Page.{column_row}
use Rattle.review.proofs.Pieces.{last, more}
use Rattle.review.proofs.page.put_column_row.Goals as goal

pub returns : goal.returns
unfolding column_row
returns c =
    let column = more c.args.out.now.items _ _ (more c.args.out.now.items _ _ c.in_ok-put.ensures c.in_ok-put_column.ensures) c.in_ok-put-2.ensures in
    let all = more c.args.out.now.items _ _
    (more c.args.out.now.items _ _ (more c.args.out.now.items _ _ column c.in_ok-put_decision_link.ensures) c.in_ok-put_marks.ensures) c.in_ok-put_before.ensures in
    subst (λ (text : List ℕ). OnOk c.put-3.result (c.put-3.new.out.items ≡ text))
    (last c.args.out.now.items _ (codes "</td></tr>\n") all) c.put-3.ensures
