use Rattle.std.proofs.Common.{arith, ◌≡◌, [], false, refl, subst, ap, ⊎_elim}
use Rattle.std.specs.Ordering.{nat_cmp}
use Rattle.std.specs.BTreeMap.{get}
use Rattle.serving.specs.Wires.{at_port, has_read, is_fault}
use Rattle.serving.specs.declared.wire.Port.TheVariants.{Pop}
use Rattle.proxy.proofs.Telling.{none_read, counted_none, as_later}
use Rattle.serving.specs.declared.wire.Io.TheVariants.{End, Broken}
use Rattle.proxy.specs.declared.wire.Progress.TheVariants.{Open}
use Rattle.proxy.proofs.HandingOn.{none_taken, amid, line_open}
use Rattle.proxy.proofs.wire.ProxiedWire.refuse.Goals as goal

pub returns-in-Later-clause-told : goal.returns-in-Later-clause-told
returns-in-Later-clause-told g c u (t, h, a) =
    let k = c.args.link.number in
    let io = c.read.result in
    let begun = get nat_cmp c.args.self.now.begun in
    let known = get nat_cmp c.args.self.now.known in
    let told : g.W.Wire.tells c.read.new.self (at_port Pop (λ of. has_read of k io []) t) =
    subst (λ xs. g.W.Wire.tells c.read.new.self (at_port Pop (λ of. has_read of k io xs) t)) (counted_none io c.read.new.buffer c.read.ensures.within) (c.read.ensures.told t h)
    in
    let fine : is_fault io ≡ false = ⊎_elim (λ e. ap is_fault e) (λ e. ap is_fault e.1) c.in-Later.is in
    c.break_off.ensures.told u (
      at_port Pop (λ of. has_read of k io []) t,
      told,
      as_later begun known (at_port Pop (λ of. has_read of k io []) t) u k io fine (none_read begun known t u k io a),
    )

pub returns-in-End-clause-called : goal.returns-in-End-clause-called
returns-in-End-clause-called g c room a none h =
    let known = get nat_cmp c.args.self.now.known in
    let hurries = c.args.self.now.hurries in
    line_open g.W.Wire.asked c.read.new.self known hurries c.args.link 0 End room End a refl (omega arith)
    (amid g.W.Wire.asked c.args.self.now.wire c.read.new.self known hurries c.args.link 0 (Open End) a h none
    (λ b k. none_taken g.W.Wire.asked c.read.new.self c.args.link End c.read.new.buffer b c.in-End.ensures.within (c.in-End.ensures.called b k)))

pub returns-in-Broken-clause-called : goal.returns-in-Broken-clause-called
returns-in-Broken-clause-called g c room a none h =
    let known = get nat_cmp c.args.self.now.known in
    line_open g.W.Wire.asked c.read.new.self known c.args.self.now.hurries c.args.link 0 Broken room Broken a refl (omega arith)
    (amid g.W.Wire.asked c.args.self.now.wire c.read.new.self known c.args.self.now.hurries c.args.link 0 (Open Broken) a h none
    (λ b k. none_taken g.W.Wire.asked c.read.new.self c.args.link Broken c.read.new.buffer b c.in-Broken.ensures.within (c.in-Broken.ensures.called b k)))

pub returns-in-Later-clause-called : goal.returns-in-Later-clause-called
returns-in-Later-clause-called g c room a none h =
    c.break_off.ensures.called 0 (Open c.read.result) room a
    (amid g.W.Wire.asked c.args.self.now.wire c.read.new.self (get nat_cmp c.args.self.now.known) c.args.self.now.hurries c.args.link 0 (Open c.read.result) a h none
    (λ b k. none_taken g.W.Wire.asked c.read.new.self c.args.link c.read.result c.read.new.buffer b c.read.ensures.within (c.read.ensures.called b k)))
