use Rattle.std.proofs.Common.{◌≡◌, ◌∙◌, true, sym, subst, length, [], is_some}
use Rattle.std.specs.Ordering.{nat_cmp}
use Rattle.std.specs.BTreeMap.{get}
use Rattle.serving.specs.Wires.{at_port, has_read, counted}
use Rattle.serving.specs.declared.wire.Port.TheVariants.{Pop}
use Rattle.proxy.specs.Proxied.{IsKnown, TellsProxy}
use Rattle.proxy.proofs.Telling.{known_read, some_there, counted_none, within_any}
use Rattle.std.proofs.Common.{◌∷◌, ◌++◌, false, refl}
use Rattle.serving.specs.Calls.{Read}
use Rattle.proxy.specs.Behind.{AskedBehind}
use Rattle.proxy.proofs.HandingOn.{hands_on, known_whole, none_known}
use Rattle.proxy.proofs.wire.ProxiedWire.read_client.Goals as goal

pub returns-then-contains_key-clause-told : goal.returns-then-contains_key-clause-told
returns-then-contains_key-clause-told g c u (t, h, a) =
    let k = c.args.link.number in
    let begun = get nat_cmp c.args.self.now.begun in
    let known = get nat_cmp c.args.self.now.known in
    let octets = counted c.read.result c.read.new.buffer in
    let there : is_some (known k) ≡ true = sym c.contains_key.ensures ∙ c.if-contains_key.true in
    let so = some_there (known k) (λ source. IsKnown t.pop k source) there (a.known_so k) in
    (at_port Pop (λ of. has_read of k c.read.result octets) t, c.read.ensures.told t h, known_read begun known t u k c.read.result octets so.0 a so.1)

pub returns-clause-within : goal.returns-clause-within
returns-clause-within g c = within_any c.read_line.result (length c.args.buffer.now) c.read_line.ensures.within

pub returns-clause-told : goal.returns-clause-told
returns-clause-told g c u h =
    let r = c.read_line.new.self in
    let io = c.read_line.result in
    subst (λ xs. TellsProxy g.W.Wire.tells r.wire (get nat_cmp r.begun) (get nat_cmp r.known) (at_port Pop (λ of. has_read of c.args.link.number io xs) u))
    (sym (counted_none io c.args.buffer.now c.read_line.ensures.within)) (c.read_line.ensures.told u h)

pub returns-then-contains_key-clause-called : goal.returns-then-contains_key-clause-called
returns-then-contains_key-clause-called g c a h =
    let k = c.args.link.number in
    let known = get nat_cmp c.args.self.now.known in
    let octets = counted c.read.result c.read.new.buffer in
    let there : is_some (known k) ≡ true = sym c.contains_key.ensures ∙ c.if-contains_key.true in
    hands_on g.W.Wire.asked c.args.self.now.wire c.read.new.self known c.args.self.now.hurries a (Read Pop c.args.link (length c.args.buffer.now) c.read.result octets) refl
    (λ inside so. known_whole (known k) k inside there (so k)) c.read.ensures.called h

pub returns-clause-called : goal.returns-clause-called
returns-clause-called g c a h =
    let r = c.read_line.new.self in
    let away : is_some (get nat_cmp c.args.self.now.known c.args.link.number) ≡ false = sym c.contains_key.ensures ∙ c.if-contains_key.false in
    subst (λ xs. AskedBehind g.W.Wire.asked r.wire (get nat_cmp r.known) r.hurries (a ++ Read Pop c.args.link (length c.args.buffer.now) c.read_line.result xs ∷ []))
    (sym (counted_none c.read_line.result c.args.buffer.now c.read_line.ensures.within))
    (c.read_line.ensures.called (length c.args.buffer.now) a (none_known _ away) h)
