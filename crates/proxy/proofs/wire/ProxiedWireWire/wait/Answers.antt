use Rattle.std.proofs.Common.{[], ◌∷◌, ◌++◌, subst}
use Rattle.std.specs.Ordering.{nat_cmp}
use Rattle.std.specs.BTreeMap.{get}
use Rattle.serving.specs.Calls.{Waited}
use Rattle.proxy.proofs.HandingOn.{hands_wait}
use Rattle.proxy.proofs.wire.ProxiedWireWire.wait.Goals as goal

pub returns-clause-called : goal.returns-clause-called
returns-clause-called g c a h =
    let known = get nat_cmp c.args.self.now.known in
    let hurries = c.args.self.now.hurries in
    hands_wait g.W.Wire.asked c.args.self.now.wire c.wait.new.self known hurries a c.args.millis
    (λ b k. subst (λ m. g.W.Wire.asked c.wait.new.self (b ++ Waited m ∷ [])) c.wait_of-wait.ensures (c.wait.ensures.called b k)) h
