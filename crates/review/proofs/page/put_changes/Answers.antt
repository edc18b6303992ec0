use Rattle.std.proofs.Common.{◌≡◌, codes, ℕ, List, subst}
use Rattle.std.specs.Prelude.{OnOk}
use Rattle.review.specs.Page.{changes_section}
use Rattle.review.proofs.Pieces.{last, more}
use Rattle.review.proofs.page.put_changes.Goals as goal

pub returns : goal.returns
unfolding changes_section
returns c =
    let given = more c.args.out.now.items _ _ c.in_ok-put.ensures c.in_ok-put_lines.ensures in
    let taken = more c.args.out.now.items _ _ (more c.args.out.now.items _ _ given c.in_ok-put-2.ensures) c.in_ok-put_lines-2.ensures in
    subst (λ (text : List ℕ). OnOk c.put-3.result (c.put-3.new.out.items ≡ text))
    (last c.args.out.now.items _ (codes "</pre>\n") taken) c.put-3.ensures
