use Rattle.serving.proofs.Parts.{front_is}
use Rattle.serving.proofs.octets.part_of.Goals as goal

pub returns : goal.returns
returns c =
    front_is c.min.result c.args.most c.rest_of-rest.result.now _ c.min.ensures c.rest_of-rest.ensures
