use Rattle.std.proofs.Common.{◌≡◌, ℕ, List, codes, subst}
use Rattle.std.specs.Prelude.{OnOk}
use Rattle.review.specs.Covers.{cover_line, rule_words}
use Rattle.review.proofs.Pieces.{four}
use Rattle.review.proofs.covers.put_line.Goals as goal

pub returns : goal.returns
unfolding cover_line
returns c =
    let rules = c.args.rules.now in
    subst (λ (text : List ℕ). OnOk c.put-2.result (c.put-2.new.out.items ≡ text))
    (four c.args.out.now.items _ _ _ (rule_words rules c.args.place) (codes " never decides: ") (rule_words rules c.args.by) (codes " matches first\n")
    c.in_ok-put_rule.ensures c.in_ok-put.ensures c.in_ok-put_rule-2.ensures)
    c.put-2.ensures
