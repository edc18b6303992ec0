-- Those of the maildrop alone are left out.
use Rattle.std.proofs.Common.{ap, arith, rules}
use Rattle.std.proofs.lemmas.Fn.{filter_same}
use Rattle.recent.specs.Recalling.{count}
use Rattle.recent.proofs.Keeping.{without_count}
use Rattle.recent.proofs.kept.forget_one.Goals as goal

pub returns-clause-rows : goal.returns-clause-rows
returns-clause-rows c = filter_same _ _ _ (λ x b f' k. search rules) _ _ c.retain.ensures.filtered

pub returns-clause-few : goal.returns-clause-few
returns-clause-few c =
    let s = ap count (returns-clause-rows c) in
    omega (arith, s, without_count c.args.maildrop.now c.args.kept.now.items)
