use Rattle.std.specs.Ordering.{nat_cmp}
use Rattle.std.specs.BTreeMap.{get}
use Rattle.proxy.proofs.HandingOn.{line_broken}
use Rattle.proxy.proofs.wire.ProxiedWire.break_off.Goals as goal

pub returns-clause-called : goal.returns-clause-called
returns-clause-called g c least far room a h =
    let known = get nat_cmp c.args.self.now.known in
    let hurries = c.args.self.now.hurries in
    line_broken g.W.Wire.asked c.args.self.now.wire c.close.new.self known hurries c.args.link least far room a c.close.ensures.called h
