use Rattle.std.proofs.Common.{◌≡◌, ◌++◌, ◌∙◌, ap, codes, ℕ, List, subst}
use Rattle.std.specs.Prelude.{OnOk}
use Rattle.review.specs.Differences.{effect_word}
use Rattle.review.specs.Page.{decision_link}
use Rattle.review.proofs.Pieces.{last, more}
use Rattle.review.proofs.page.put_decision_link.Goals as goal

pub returns : goal.returns
unfolding decision_link
returns c =
    let d = c.args.decision.now in
    let before = c.args.out.now.items in
    let one : c.put.new.out.items ≡ before ++ effect_word d.allowed =
    c.in_ok-put.ensures ∙ ap (λ (t : List ℕ). before ++ t) (c.as_bytes.ensures.value ∙ c.effect_word.ensures) in
    let two = more _ _ _ one c.in_ok-put-2.ensures in
    let three : c.put-3.new.out.items ≡ c.put-2.new.out.items ++ d.rule =
    c.in_ok-put-3.ensures ∙ ap (λ (t : List ℕ). c.put-2.new.out.items ++ t) c.as_bytes-2.ensures.value in
    let four = more _ _ _ (more _ _ _ two three) c.in_ok-put-4.ensures in
    let five : c.put-5.new.out.items ≡ c.put-4.new.out.items ++ d.rule =
    c.in_ok-put-5.ensures ∙ ap (λ (t : List ℕ). c.put-4.new.out.items ++ t) c.as_bytes-3.ensures.value in
    subst (λ (text : List ℕ). OnOk c.put-6.result (c.put-6.new.out.items ≡ text))
    (last _ _ (codes "</a>") (more _ _ _ four five)) c.put-6.ensures
