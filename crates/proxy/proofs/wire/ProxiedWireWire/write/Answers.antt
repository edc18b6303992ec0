use Rattle.std.proofs.Common.{refl, length}
use Rattle.std.specs.Ordering.{nat_cmp}
use Rattle.std.specs.BTreeMap.{get}
use Rattle.serving.specs.Calls.{Wrote}
use Rattle.serving.specs.Wires.{counted}
use Rattle.proxy.proofs.HandingOn.{hands_on}
use Rattle.proxy.proofs.wire.ProxiedWireWire.write.Goals as goal

pub returns-clause-called : goal.returns-clause-called
returns-clause-called g c a h =
    let known = get nat_cmp c.args.self.now.known in
    let hurries = c.args.self.now.hurries in
    hands_on g.W.Wire.asked c.args.self.now.wire c.write.new.self known hurries a
    (Wrote c.args.port c.args.link (length c.args.octets.now) c.write.result (counted c.write.result c.args.octets.now)) refl (λ inside so. tt) c.write.ensures.called h
