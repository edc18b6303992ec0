use Rattle.std.proofs.Common.{◌≡◌, ℕ, List, codes, subst}
use Rattle.std.specs.Prelude.{OnOk}
use Rattle.review.specs.Covers.{rule_words}
use Rattle.review.specs.Renames.{was_words}
use Rattle.review.proofs.Pieces.{four}
use Rattle.review.proofs.renames.put_was_words.Goals as goal

pub returns : goal.returns
unfolding was_words
returns c =
    subst (λ (text : List ℕ). OnOk c.put-2.result (c.put-2.new.out.items ≡ text))
    (four c.args.out.now.items _ _ _ (rule_words c.args.news.now c.args.is) (codes " was ") (rule_words c.args.olds.now c.args.was) (codes "\n")
    c.in_ok-put_rule.ensures c.in_ok-put.ensures c.in_ok-put_rule-2.ensures)
    c.put-2.ensures
