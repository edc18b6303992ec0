use Rattle.std.proofs.Common.{◌≡◌, ◌++◌, ◌∙◌, ap, ℕ, List, subst}
use Rattle.std.specs.Prelude.{OnOk}
use Rattle.review.specs.Differences.{label_text}
use Rattle.review.proofs.Pieces.{three}
use Rattle.review.proofs.cells.put_tagged.Goals as goal

pub returns : goal.returns
returns c =
    let front = c.args.front.now in
    let label = label_text c.args.label.now in
    let back = c.args.back.now in
    subst (λ (text : List ℕ). OnOk c.put-3.result (c.put-3.new.out.items ≡ text))
    (three c.args.out.now.items _ _ front label back c.in_ok-put.ensures
    (c.in_ok-put-2.ensures ∙ ap (λ (t : List ℕ). c.put.new.out.items ++ t) c.label_bytes.ensures))
    c.put-3.ensures
