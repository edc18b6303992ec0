use Rattle.std.proofs.Common.{rules}
use Rattle.office.proofs.Owing.{stays_filled}
use Rattle.office.proofs.output.Output.begin_message.Goals as goal

pub invariant_of-self-2 : goal.invariant_of-self-2
invariant_of-self-2 c =
    stays_filled c.self.inside.source c.self.inside.taken c.len-before.result c.self.inside.ready.items c.keep_within_room.new.octets.items (search rules)
    c.self.invariant.0 c.self.invariant.1 c.keep_within_room.ensures.least c.keep_within_room.ensures.most
