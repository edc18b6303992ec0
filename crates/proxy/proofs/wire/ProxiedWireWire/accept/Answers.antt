use Rattle.std.proofs.Common.{◌≡◌, ◌∙◌, sym, subst}
use Rattle.std.specs.Ordering.{nat_cmp}
use Rattle.std.specs.BTreeMap.{get}
use Rattle.serving.specs.Wires.{at_port, told_at, has_accepted}
use Rattle.proxy.specs.Proxied.{TellsProxy}
use Rattle.std.proofs.Common.{rules, refl, [], ◌∷◌, ◌++◌, Some}
use Rattle.serving.specs.Calls.{Accepted}
use Rattle.proxy.specs.Behind.{AskedBehind}
use Rattle.proxy.proofs.HandingOn.{hands_on}
use Rattle.proxy.proofs.wire.ProxiedWireWire.accept.Goals as goal

pub returns-in-Pop-clause-told : goal.returns-in-Pop-clause-told
returns-in-Pop-clause-told g c u (t, h, a) =
    let n = c.in_ok-link.link.number in
    let new = c.begin.new.self in
    let came = subst (λ p. (n ≡ (told_at p t).accepted) × g.W.Wire.tells c.accept.new.self (at_port p has_accepted t)) c.in-Pop.is (c.in_ok-link.ensures.told t h) in
    subst (λ p. (n ≡ (told_at p u).accepted) × TellsProxy g.W.Wire.tells new.wire (get nat_cmp new.begun) (get nat_cmp new.known) (at_port p has_accepted u)) (sym c.in-Pop.is)
    (came.0 ∙ sym a.pop.accepted, c.begin.ensures.told t u came.0 came.1 a)

pub returns-in_err-link-clause-called : goal.returns-in_err-link-clause-called
returns-in_err-link-clause-called g c a h =
    let known = get nat_cmp c.args.self.now.known in
    let same : c.accept.result ≡ c.from_residual.result = search rules in
    subst (λ r. AskedBehind g.W.Wire.asked c.accept.new.self known c.args.self.now.hurries (a ++ Accepted c.args.port r ∷ [])) same
    (hands_on g.W.Wire.asked c.args.self.now.wire c.accept.new.self known c.args.self.now.hurries a (Accepted c.args.port c.accept.result) refl (λ inside so. tt) c.accept.ensures.called h)

pub returns-in-Pop-clause-called : goal.returns-in-Pop-clause-called
returns-in-Pop-clause-called g c a h =
    let known = get nat_cmp c.args.self.now.known in
    let hurries = c.args.self.now.hurries in
    c.begin.ensures.called (a ++ Accepted c.args.port (Some c.in_ok-link.link) ∷ [])
    (hands_on g.W.Wire.asked c.args.self.now.wire c.accept.new.self known hurries a (Accepted c.args.port (Some c.in_ok-link.link)) refl (λ inside so. tt) c.in_ok-link.ensures.called h)

pub returns-in-Admin-clause-called : goal.returns-in-Admin-clause-called
returns-in-Admin-clause-called g c a h =
    let known = get nat_cmp c.args.self.now.known in
    hands_on g.W.Wire.asked c.args.self.now.wire c.accept.new.self known c.args.self.now.hurries a (Accepted c.args.port (Some c.in_ok-link.link)) refl (λ inside so. tt) c.in_ok-link.ensures.called h
