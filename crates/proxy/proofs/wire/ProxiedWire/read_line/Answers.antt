use Rattle.std.proofs.Common.{arith, ◌≡◌, ◌∙◌, ◌<◌, List, refl, sym, ap, subst, IfSome, Some, None, []}
use Rattle.std.specs.Ordering.{nat_cmp}
use Rattle.std.specs.BTreeMap.{get}
use Rattle.serving.specs.Calls.{Call}
use Rattle.serving.specs.Wires.{ToldOfPorts, at_port, counted, has_read, is_fault}
use Rattle.serving.specs.declared.wire.Io.TheVariants.{End, Broken}
use Rattle.serving.specs.declared.wire.Port.TheVariants.{Pop}
use Rattle.proxy.specs.declared.wire.Progress.{Progress}
use Rattle.proxy.specs.declared.wire.Progress.TheVariants.{Whole, Open}
use Rattle.proxy.specs.Proxied.{IsBegun, IsAsFarAs, TellsProxied, io_of}
use Rattle.proxy.specs.Behind.{AskedAmid, AskedBehind}
use Rattle.proxy.proofs.Telling.{reads_on, updated_put, as_later}
use Rattle.proxy.proofs.HandingOn.{amid, looked_first, line_open}
use Rattle.proxy.proofs.wire.ProxiedWire.read_line.Given.{Over}
use Rattle.proxy.proofs.wire.ProxiedWire.read_line.Goals.{After-read_octets}
use Rattle.proxy.proofs.wire.ProxiedWire.read_line.Goals as goal

-- ---- what is known once the line was read further

-- what is kept of the line is what was read of it before
begun_so : (g : Over) (c : After-read_octets g) (t u : ToldOfPorts)
    → TellsProxied (get nat_cmp c.args.self.now.begun) (get nat_cmp c.args.self.now.known) t u → IsBegun t.pop c.args.link.number c.in-Some.begun.line.items
begun_so g c t u a =
    let there : get nat_cmp c.args.self.now.begun c.args.link.number ≡ Some c.in-Some.begun = sym c.remove.ensures.value ∙ c.in-Some.is in
    subst (λ o. IfSome o (λ x. IsBegun t.pop c.args.link.number x.line.items)) there (a.begun_so c.args.link.number)

-- it is read so far
so_far : (g : Over) (c : After-read_octets g) (t u : ToldOfPorts) → TellsProxied (get nat_cmp c.args.self.now.begun) (get nat_cmp c.args.self.now.known) t u
    → (p : Progress) → c.read_octets.result ≡ p → IsAsFarAs p c.read_octets.new.line.items
so_far g c t u a p is = subst (λ q. IsAsFarAs q c.read_octets.new.line.items) is (c.read_octets.ensures.so_far (begun_so g c t u a).open_yet)

-- what is told of the links, once nothing is kept of it
told_further : (g : Over) (c : After-read_octets g) (t u : ToldOfPorts) → g.W.Wire.tells c.args.self.now.wire t
    → TellsProxied (get nat_cmp c.args.self.now.begun) (get nat_cmp c.args.self.now.known) t u
    → (p : Progress) → c.read_octets.result ≡ p
    → (t' : ToldOfPorts) × g.W.Wire.tells c.read_octets.new.wire t'
    × TellsProxied (get nat_cmp c.remove.new.self) (get nat_cmp c.args.self.now.known) t' (at_port Pop (λ of. has_read of c.args.link.number (io_of p) []) u)
    × (c.args.link.number < t'.pop.accepted) × (t'.pop.read c.args.link.number ≡ c.read_octets.new.line.items)
told_further g c t u h a p is =
    let so = begun_so g c t u a in
    reads_on g.W.Wire.tells c.read_octets.new.wire (get nat_cmp c.args.self.now.begun) (get nat_cmp c.remove.new.self) (get nat_cmp c.args.self.now.known) c.args.link.number
    c.in-Some.begun.line.items c.read_octets.new.line.items c.read_octets.result p t u is a so
    (updated_put c.args.self.now.begun c.remove.new.self c.args.link.number None c.remove.ensures.updates)
    (c.read_octets.ensures.told t (c.look.ensures.told t h)) (c.read_octets.ensures.so_far so.open_yet)

-- what the wire was asked for that
asked_amid : (g : Over) (c : After-read_octets g) (a : List Call) → get nat_cmp c.args.self.now.known c.args.link.number ≡ None
    → AskedBehind g.W.Wire.asked c.args.self.now.wire (get nat_cmp c.args.self.now.known) c.args.self.now.hurries a
    → (p : Progress) → c.read_octets.result ≡ p → AskedAmid g.W.Wire.asked c.read_octets.new.wire (get nat_cmp c.args.self.now.known) c.args.self.now.hurries c.args.link 1 p a
asked_amid g c a none h p is =
    let q = c.read_octets.result in
    subst (λ x. AskedAmid g.W.Wire.asked c.read_octets.new.wire (get nat_cmp c.args.self.now.known) c.args.self.now.hurries c.args.link 1 x a) is
    (amid g.W.Wire.asked c.args.self.now.wire c.read_octets.new.wire (get nat_cmp c.args.self.now.known) c.args.self.now.hurries c.args.link 1 q a h none (λ b k.
    looked_first g.W.Wire.asked c.read_octets.new.wire c.args.link c.look.result (counted c.look.result c.look.new.buffer) q b (c.read_octets.ensures.called _ (c.look.ensures.called b k))))

-- ---- each exit

pub returns-in-Whole-clause-told : goal.returns-in-Whole-clause-told
returns-in-Whole-clause-told g c u (t, h, a) =
    let it = (goal.at.returns-in-Whole-clause-told g c).After-read_octets in
    let x = told_further g it t u h a Whole c.in-Whole.is in
    c.learn.ensures.told u (x.0, x.1, x.2, x.3, x.4 ∙ sym c.as_slice.ensures.value)
    (subst (λ l. IsAsFarAs Whole l) (sym c.as_slice.ensures.value) (so_far g it t u a Whole c.in-Whole.is))

pub returns-in-Open-End-clause-told : goal.returns-in-Open-End-clause-told
returns-in-Open-End-clause-told g c u (t, h, a) =
    let it = (goal.at.returns-in-Open-End-clause-told g c).After-read_octets in
    let x = told_further g it t u h a (Open End) (c.in-Open-End.is ∙ ap Open c.in-Open-End.field-0-is) in
    (x.0, x.1, x.2)

pub returns-in-Open-Broken-clause-told : goal.returns-in-Open-Broken-clause-told
returns-in-Open-Broken-clause-told g c u (t, h, a) =
    let it = (goal.at.returns-in-Open-Broken-clause-told g c).After-read_octets in
    let x = told_further g it t u h a (Open Broken) (c.in-Open-Broken.is ∙ ap Open c.in-Open-Broken.field-0-is) in
    (x.0, x.1, x.2)

pub returns-in-Open-Later-clause-told : goal.returns-in-Open-Later-clause-told
returns-in-Open-Later-clause-told g c u (t, h, a) =
    let it = (goal.at.returns-in-Open-Later-clause-told g c).After-read_octets in
    let was = c.in-Open-Later.field-0 in
    let x = told_further g it t u h a (Open was) c.in-Open-Later.is in
    let later = as_later (get nat_cmp c.remove.new.self) (get nat_cmp c.args.self.now.known) x.0 u c.args.link.number was (ap is_fault c.in-Open-Later.field-0-is) x.2 in
    c.keep.ensures.told u (x.0, x.1, later, x.3, x.4) (so_far g it t u a (Open was) c.in-Open-Later.is)

pub returns-in-Open-Count-clause-told : goal.returns-in-Open-Count-clause-told
returns-in-Open-Count-clause-told g c u (t, h, a) =
    let it = (goal.at.returns-in-Open-Count-clause-told g c).After-read_octets in
    let was = c.in-Open-Count.field-0 in
    let x = told_further g it t u h a (Open was) c.in-Open-Count.is in
    let later = as_later (get nat_cmp c.remove.new.self) (get nat_cmp c.args.self.now.known) x.0 u c.args.link.number was (ap is_fault c.in-Open-Count.field-0-is) x.2 in
    c.keep-in-Open-Count.ensures.told u (x.0, x.1, later, x.3, x.4) (so_far g it t u a (Open was) c.in-Open-Count.is)

pub returns-in-Whole-clause-called : goal.returns-in-Whole-clause-called
returns-in-Whole-clause-called g c room a none h =
    c.learn.ensures.called room a (asked_amid g (goal.at.returns-in-Whole-clause-called g c).After-read_octets a none h Whole c.in-Whole.is)

pub returns-in-Open-End-clause-called : goal.returns-in-Open-End-clause-called
returns-in-Open-End-clause-called g c room a none h =
    let it = (goal.at.returns-in-Open-End-clause-called g c).After-read_octets in
    line_open g.W.Wire.asked c.read_octets.new.wire (get nat_cmp c.args.self.now.known) c.args.self.now.hurries c.args.link 1 End room End a refl (omega arith)
    (asked_amid g it a none h (Open End) (c.in-Open-End.is ∙ ap Open c.in-Open-End.field-0-is))

pub returns-in-Open-Broken-clause-called : goal.returns-in-Open-Broken-clause-called
returns-in-Open-Broken-clause-called g c room a none h =
    let it = (goal.at.returns-in-Open-Broken-clause-called g c).After-read_octets in
    line_open g.W.Wire.asked c.read_octets.new.wire (get nat_cmp c.args.self.now.known) c.args.self.now.hurries c.args.link 1 Broken room Broken a refl (omega arith)
    (asked_amid g it a none h (Open Broken) (c.in-Open-Broken.is ∙ ap Open c.in-Open-Broken.field-0-is))

pub returns-in-Open-Later-clause-called : goal.returns-in-Open-Later-clause-called
returns-in-Open-Later-clause-called g c room a none h =
    let it = (goal.at.returns-in-Open-Later-clause-called g c).After-read_octets in
    c.keep.ensures.called c.in-Open-Later.field-0 room a (ap is_fault c.in-Open-Later.field-0-is) (asked_amid g it a none h (Open c.in-Open-Later.field-0) c.in-Open-Later.is)

pub returns-in-Open-Count-clause-called : goal.returns-in-Open-Count-clause-called
returns-in-Open-Count-clause-called g c room a none h =
    let it = (goal.at.returns-in-Open-Count-clause-called g c).After-read_octets in
    c.keep-in-Open-Count.ensures.called c.in-Open-Count.field-0 room a (ap is_fault c.in-Open-Count.field-0-is)
    (asked_amid g it a none h (Open c.in-Open-Count.field-0) c.in-Open-Count.is)
