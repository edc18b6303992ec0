use Rattle.std.proofs.Common.{◌≡◌, codes, ℕ, List, subst}
use Rattle.std.specs.Prelude.{OnOk}
use Rattle.review.specs.Page.{cell_text}
use Rattle.review.proofs.Pieces.{last, more}
use Rattle.review.proofs.page.put_cell.Goals as goal

pub returns : goal.returns
unfolding cell_text
returns c =
    let words = more c.args.out.now.items _ _
    (more c.args.out.now.items _ _ (more c.args.out.now.items _ _ c.in_ok-put.ensures c.in_ok-put_level.ensures) c.in_ok-put-2.ensures) c.in_ok-put_words.ensures in
    let rows = more c.args.out.now.items _ _
    (more c.args.out.now.items _ _ (more c.args.out.now.items _ _ words c.in_ok-put_marks_of.ensures) c.in_ok-put-3.ensures) c.in_ok-put_verdict_rows.ensures in
    subst (λ (text : List ℕ). OnOk c.put-4.result (c.put-4.new.out.items ≡ text))
    (last c.args.out.now.items _ (codes "</table></details></td>\n") rows) c.put-4.ensures
