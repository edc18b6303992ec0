use Rattle.std.proofs.Common.{◌≡◌, ◌++◌, ◌∙◌, ap, ℕ, List, subst}
use Rattle.std.specs.Prelude.{OnOk}
use Rattle.review.specs.Page.{rule_head}
use Rattle.review.proofs.Pieces.{last, more}
use Rattle.review.proofs.page.put_rule_head.Goals as goal

pub returns : goal.returns
unfolding rule_head
returns c =
    let name = c.args.rule.now.name in
    let named : c.put-2.new.out.items ≡ c.put.new.out.items ++ name =
    c.in_ok-put-2.ensures ∙ ap (λ (t : List ℕ). c.put.new.out.items ++ t) c.as_bytes.ensures.value in
    let number = more c.args.out.now.items _ _ (more c.args.out.now.items _ _ (more c.args.out.now.items _ _ c.in_ok-put.ensures named) c.in_ok-put-3.ensures) c.in_ok-put_number.ensures in
    let all = last c.args.out.now.items _ name (more c.args.out.now.items _ _ number c.in_ok-put-4.ensures) in
    subst (λ (text : List ℕ). OnOk c.put-5.result (c.put-5.new.out.items ≡ text))
    (ap (λ (t : List ℕ). c.put-4.new.out.items ++ t) c.as_bytes-2.ensures.value ∙ all) c.put-5.ensures
