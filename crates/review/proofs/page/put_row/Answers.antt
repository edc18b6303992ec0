use Rattle.std.proofs.Common.{◌≡◌, codes, ℕ, List, subst}
use Rattle.std.specs.Prelude.{OnOk}
use Rattle.review.specs.Page.{clerk_row}
use Rattle.review.proofs.Pieces.{last, more}
use Rattle.review.proofs.page.put_row.Goals as goal

pub returns : goal.returns
unfolding clerk_row
returns c =
    let cells = more c.args.out.now.items _ _ c.in_ok-put_tagged.ensures c.in_ok-put.ensures in
    subst (λ (text : List ℕ). OnOk c.put-2.result (c.put-2.new.out.items ≡ text))
    (last _ _ (codes "</tr>\n") cells) c.put-2.ensures
