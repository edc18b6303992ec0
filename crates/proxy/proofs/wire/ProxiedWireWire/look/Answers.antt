use Rattle.std.proofs.Common.{◌≡◌, ◌∙◌, true, false, refl, sym, subst, is_some, [], ◌∷◌, ◌++◌}
use Rattle.std.specs.Ordering.{nat_cmp}
use Rattle.std.specs.BTreeMap.{get}
use Rattle.serving.specs.Calls.{Looked}
use Rattle.serving.specs.Wires.{counted}
use Rattle.serving.specs.declared.wire.Io.TheVariants.{Later}
use Rattle.proxy.specs.Behind.{IsBehindLine, AskedBehind}
use Rattle.proxy.proofs.HandingOn.{hands_on, keeps_back, known_whole, none_known}
use Rattle.proxy.proofs.wire.ProxiedWireWire.look.Goals as goal

pub returns-then-contains_key-clause-called : goal.returns-then-contains_key-clause-called
returns-then-contains_key-clause-called g c a h =
    let known = get nat_cmp c.args.self.now.known in
    let hurries = c.args.self.now.hurries in
    let k = c.args.link.number in
    let octets = counted c.look.result c.look.new.buffer in
    let there : is_some (known k) ≡ true = sym c.contains_key.ensures ∙ c.if-contains_key.true in
    hands_on g.W.Wire.asked c.args.self.now.wire c.look.new.self known hurries a (Looked c.args.port c.args.link c.look.result octets) refl
    (λ inside so. subst (λ p. IsBehindLine inside (Looked p c.args.link c.look.result octets)) (sym c.in-Pop.is) (known_whole (known k) k inside there (so k))) c.look.ensures.called h

pub returns-else-contains_key-clause-called : goal.returns-else-contains_key-clause-called
returns-else-contains_key-clause-called g c a h =
    let known = get nat_cmp c.args.self.now.known in
    let away : is_some (known c.args.link.number) ≡ false = sym c.contains_key.ensures ∙ c.if-contains_key.false in
    subst (λ p. AskedBehind g.W.Wire.asked c.args.self.now.wire known c.args.self.now.hurries (a ++ Looked p c.args.link Later [] ∷ [])) (sym c.in-Pop.is)
    (keeps_back g.W.Wire.asked c.args.self.now.wire known c.args.self.now.hurries a c.args.link (none_known _ away) h)

pub returns-in-Admin-clause-called : goal.returns-in-Admin-clause-called
returns-in-Admin-clause-called g c a h =
    let known = get nat_cmp c.args.self.now.known in
    let octets = counted c.look-in-Admin.result c.look-in-Admin.new.buffer in
    hands_on g.W.Wire.asked c.args.self.now.wire c.look-in-Admin.new.self known c.args.self.now.hurries a (Looked c.args.port c.args.link c.look-in-Admin.result octets) refl
    (λ inside so. subst (λ p. IsBehindLine inside (Looked p c.args.link c.look-in-Admin.result octets)) (sym c.in-Admin.is) tt) c.look-in-Admin.ensures.called h
