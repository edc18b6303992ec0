use Rattle.std.proofs.Common.{◌≡◌, codes, ℕ, List, subst}
use Rattle.std.specs.Prelude.{OnOk}
use Rattle.review.specs.Page.{notes_section}
use Rattle.review.proofs.Pieces.{last, more}
use Rattle.review.proofs.page.put_notes.Goals as goal

pub returns : goal.returns
unfolding notes_section
returns c =
    let text = more c.args.out.now.items _ _ c.in_ok-put.ensures c.in_ok-put_lines.ensures in
    subst (λ (text : List ℕ). OnOk c.put-2.result (c.put-2.new.out.items ≡ text))
    (last _ _ (codes "</pre>\n") text) c.put-2.ensures
