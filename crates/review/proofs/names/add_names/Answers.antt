use Rattle.std.proofs.Common.{arith}
use Rattle.review.proofs.Naming.{name_more}
use Rattle.review.proofs.names.add_names.Goals as goal

pub loop-name-preserved : goal.loop-name-preserved
loop-name-preserved c =
    name_more c.args.names.now.keys c.loop-name.names.keys c.insert.new.self.keys c.args.more.now c.loop-name.name-index c.name-item.result
    (omega arith) c.name-item.is c.loop-name.invariant c.in_ok-insert.ensures.keys
