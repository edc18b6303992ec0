use Rattle.std.proofs.Common.{refl, sym, subst, [], ◌∷◌, ◌++◌, None}
use Rattle.std.specs.Ordering.{nat_cmp}
use Rattle.std.specs.BTreeMap.{get}
use Rattle.serving.specs.Calls.{Closed}
use Rattle.proxy.specs.Behind.{AskedBehind}
use Rattle.proxy.proofs.Telling.{updated_put}
use Rattle.proxy.proofs.HandingOn.{hands_on, hands_close}
use Rattle.proxy.proofs.wire.ProxiedWireWire.close.Goals as goal

pub returns-in-Pop-clause-called : goal.returns-in-Pop-clause-called
returns-in-Pop-clause-called g c a h =
    let known = get nat_cmp c.args.self.now.known in
    let hurries = c.args.self.now.hurries in
    let link = c.args.link in
    let w = c.close.new.self in
    let left = c.remove-in-Pop.new.self in
    subst (λ p. AskedBehind g.W.Wire.asked w (get nat_cmp left) hurries (a ++ Closed p link ∷ [])) (sym c.in-Pop.is)
    (hands_close g.W.Wire.asked c.args.self.now.wire w known (get nat_cmp left) hurries a link (updated_put c.args.self.now.known left link.number None c.remove-in-Pop.ensures.updates)
    (λ b k. subst (λ p. g.W.Wire.asked w (b ++ Closed p link ∷ [])) c.in-Pop.is (c.close.ensures.called b k)) h)

pub returns-in-Admin-clause-called : goal.returns-in-Admin-clause-called
returns-in-Admin-clause-called g c a h =
    let known = get nat_cmp c.args.self.now.known in
    hands_on g.W.Wire.asked c.args.self.now.wire c.close.new.self known c.args.self.now.hurries a (Closed c.args.port c.args.link) refl (λ inside so. tt) c.close.ensures.called h
