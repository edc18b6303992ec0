use Rattle.std.proofs.Common.{◌≡◌, ℕ, List, subst}
use Rattle.std.specs.Prelude.{OnOk}
use Rattle.review.specs.Page.{rules_end}
use Rattle.review.proofs.Pieces.{last, more}
use Rattle.review.proofs.page.put_rules.Goals as goal

pub returns : goal.returns
returns c =
    let rows = more _ _ _ c.in_ok-put_rules_head.ensures c.in_ok-put_rule_rows.ensures in
    subst (λ (text : List ℕ). OnOk c.put_rules_end.result (c.put_rules_end.new.out.items ≡ text))
    (last _ _ rules_end rows) c.put_rules_end.ensures
