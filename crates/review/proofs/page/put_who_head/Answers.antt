use Rattle.std.proofs.Common.{◌≡◌, codes, ℕ, List, subst}
use Rattle.std.specs.Prelude.{OnOk}
use Rattle.review.specs.Page.{who_head}
use Rattle.review.proofs.Pieces.{last, more}
use Rattle.review.proofs.page.put_who_head.Goals as goal

pub returns : goal.returns
unfolding who_head
returns c =
    let heads = more c.args.out.now.items _ _ c.in_ok-put.ensures c.in_ok-put_maildrop_heads.ensures in
    subst (λ (text : List ℕ). OnOk c.put-2.result (c.put-2.new.out.items ≡ text))
    (last _ _ (codes "</tr></thead>\n<tbody>\n") heads) c.put-2.ensures
