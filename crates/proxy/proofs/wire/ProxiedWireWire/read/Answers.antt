use Rattle.std.proofs.Common.{sym, subst, length}
use Rattle.std.specs.Ordering.{nat_cmp}
use Rattle.std.specs.BTreeMap.{get}
use Rattle.serving.specs.Wires.{at_port, has_read, counted}
use Rattle.proxy.specs.Proxied.{TellsProxy}
use Rattle.std.proofs.Common.{refl}
use Rattle.serving.specs.Calls.{Read}
use Rattle.proxy.specs.Behind.{IsBehindLine}
use Rattle.proxy.proofs.HandingOn.{hands_on}
use Rattle.proxy.proofs.wire.ProxiedWireWire.read.Goals as goal

pub returns-in-Pop-clause-told : goal.returns-in-Pop-clause-told
returns-in-Pop-clause-told g c u h =
    let r = c.read_client.new.self in
    let io = c.read_client.result in
    subst (λ p. TellsProxy g.W.Wire.tells r.wire (get nat_cmp r.begun) (get nat_cmp r.known) (at_port p (λ of. has_read of c.args.link.number io (counted io c.read_client.new.buffer)) u))
    (sym c.in-Pop.is) (c.read_client.ensures.told u h)

pub returns-in-Admin-clause-called : goal.returns-in-Admin-clause-called
returns-in-Admin-clause-called g c a h =
    let known = get nat_cmp c.args.self.now.known in
    let hurries = c.args.self.now.hurries in
    let octets = counted c.read.result c.read.new.buffer in
    let room = length c.args.buffer.now in
    hands_on g.W.Wire.asked c.args.self.now.wire c.read.new.self known hurries a (Read c.args.port c.args.link room c.read.result octets) refl
    (λ inside so. subst (λ p. IsBehindLine inside (Read p c.args.link room c.read.result octets)) (sym c.in-Admin.is) tt) c.read.ensures.called h
