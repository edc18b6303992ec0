use Rattle.std.proofs.Common.{arith}
use Rattle.std.specs.Ordering.{nat_cmp}
use Rattle.std.specs.BTreeMap.{get}
use Rattle.serving.specs.declared.wire.Io.TheVariants.{Later}
use Rattle.proxy.specs.declared.wire.Progress.TheVariants.{Open}
use Rattle.proxy.proofs.HandingOn.{line_open}
use Rattle.proxy.proofs.wire.ProxiedWire.keep.Goals as goal

pub returns-then-is_full-clause-called : goal.returns-then-is_full-clause-called
returns-then-is_full-clause-called g c io room a fine h = c.break_off.ensures.called 1 (Open io) room a h

pub returns-then-saturating_sub-ge-MOST_SECONDS-clause-called : goal.returns-then-saturating_sub-ge-MOST_SECONDS-clause-called
returns-then-saturating_sub-ge-MOST_SECONDS-clause-called g c io room a fine h = c.break_off-then-saturating_sub-ge-MOST_SECONDS.ensures.called 1 (Open io) room a h

pub returns-in-Ok-clause-called : goal.returns-in-Ok-clause-called
returns-in-Ok-clause-called g c io room a fine h =
    let known = get nat_cmp c.args.self.now.known in
    let hurries = c.args.self.now.hurries in
    line_open g.W.Wire.asked c.args.self.now.wire known hurries c.args.link 1 io room Later a fine (omega arith) h

pub returns-in-Err-clause-called : goal.returns-in-Err-clause-called
returns-in-Err-clause-called g c io room a fine h = c.break_off-in-Err.ensures.called 1 (Open io) room a h
