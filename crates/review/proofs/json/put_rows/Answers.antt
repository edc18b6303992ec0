use Rattle.std.proofs.Common.{◌≡◌, ◌++◌, List, ℕ, subst}
use Rattle.std.specs.Prelude.{OnOk}
use Rattle.review.proofs.CellLemmas.{same_json_rows}
use Rattle.review.proofs.json.put_rows.Goals as goal

pub returns : goal.returns
returns c =
    subst (λ (text : List ℕ). OnOk c.put_clerks.result (c.put_clerks.new.out.items ≡ c.args.out.now.items ++ text))
    (same_json_rows c.args.policy.now c.args.asked.now c.args.maildrops.now c.args.clerks.now) c.put_clerks.ensures
