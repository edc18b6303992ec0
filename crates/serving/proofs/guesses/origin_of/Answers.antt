use Rattle.serving.proofs.Origins.{origin_four, origin_six}
use Rattle.serving.proofs.guesses.origin_of.Goals as goal

pub returns-clause-four : goal.returns-clause-four
returns-clause-four c = origin_four c.args.address.now c.to_canonical.result c.canonical_origin.result c.to_canonical.ensures c.canonical_origin.ensures

pub returns-clause-six : goal.returns-clause-six
returns-clause-six c = origin_six c.args.address.now c.to_canonical.result c.canonical_origin.result c.to_canonical.ensures c.canonical_origin.ensures
