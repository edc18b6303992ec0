use Rattle.std.proofs.Common.{◌≡◌, codes, ℕ, List, subst}
use Rattle.std.specs.Prelude.{OnOk}
use Rattle.review.specs.Page.{source_section}
use Rattle.review.proofs.Pieces.{last, more}
use Rattle.review.proofs.page.put_source.Goals as goal

pub returns : goal.returns
unfolding source_section
returns c =
    let text = more c.args.out.now.items _ _ c.in_ok-put.ensures c.in_ok-put_escaped.ensures in
    subst (λ (text : List ℕ). OnOk c.put-2.result (c.put-2.new.out.items ≡ text))
    (last _ _ (codes "</pre>\n</main>\n</body>\n</html>\n") text) c.put-2.ensures
