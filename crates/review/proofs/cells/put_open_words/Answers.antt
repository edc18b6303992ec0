use Rattle.std.proofs.Common.{◌≡◌, ℕ, List, subst}
use Rattle.std.specs.Prelude.{OnOk}
use Rattle.review.specs.Cells.{open_words}
use Rattle.review.specs.Cells.{share_by}
use Rattle.std.proofs.Common.{true}
use Rattle.review.proofs.Pieces.{last, more}
use Rattle.review.proofs.cells.put_open_words.Goals as goal

pub returns : goal.returns
unfolding open_words
returns c =
    let read = more c.args.out.now.items _ _ (more c.args.out.now.items _ _ c.in_ok-put.ensures c.in_ok-put_share_by.ensures) c.in_ok-put-2.ensures in
    subst (λ (text : List ℕ). OnOk c.put_share_by-2.result (c.put_share_by-2.new.out.items ≡ text))
    (last c.args.out.now.items _ (share_by true c.args.verdicts.now) read) c.put_share_by-2.ensures
