use Rattle.std.proofs.Common.{Option, ap, ◌∙◌}
use Rattle.adminhttp.specs.Steps.{value_or}
use Rattle.adminhttp.specs.declared.target.Target.{Target}
use Rattle.adminhttp.specs.declared.refusal.Refusal.TheVariants.{NotFound}
use Rattle.adminhttp.proofs.Routing.{found_target}
use Rattle.adminhttp.proofs.target.read.read_target.Goals as goal

pub returns-in-Some-clause-ok : goal.returns-in-Some-clause-ok
returns-in-Some-clause-ok c =
    let is = found_target c.in-Ok.path.now c.args.target.now c.in_ok-find_route.field-0 c.read_found.result c.in-Ok.ensures.cases.0 c.in_ok-find_route.ensures c.read_found.ensures in
    ap (λ (o : Option Target). value_or o NotFound) (is ∙ c.in-Some.is)

pub returns-in-None-clause-fault : goal.returns-in-None-clause-fault
returns-in-None-clause-fault c = λ _.
    let is = found_target c.in-Ok.path.now c.args.target.now c.in_ok-find_route.field-0 c.read_found.result c.in-Ok.ensures.cases.0 c.in_ok-find_route.ensures c.read_found.ensures in
    ap (λ (o : Option Target). value_or o NotFound) (is ∙ c.in-None.is)
