use Rattle.std.proofs.Common.{rules, slice_index, arith, [], refl}
use Rattle.serving.specs.declared.wire.Io.TheVariants.{Later, End, Broken, Count}
use Rattle.proxy.specs.declared.wire.Progress.TheVariants.{Whole, Open}
use Rattle.proxy.proofs.Telling.{nothing_came, octet_came, still_open}
use Rattle.proxy.proofs.HandingOn.{one_read, octet_read}
use Rattle.proxy.proofs.wire.read_octet.Goals as goal

pub returns-in-Later-clause-told : goal.returns-in-Later-clause-told
returns-in-Later-clause-told g c t h = nothing_came g.W.Wire.tells c.read.new.self c.args.link.number Later c.args.line.now.items t (c.in-Later.ensures.told t h)

pub returns-in-Later-clause-so_far : goal.returns-in-Later-clause-so_far
returns-in-Later-clause-so_far g c h = h

pub returns-in-End-clause-told : goal.returns-in-End-clause-told
returns-in-End-clause-told g c t h = nothing_came g.W.Wire.tells c.read.new.self c.args.link.number End c.args.line.now.items t (c.in-End.ensures.told t h)

pub returns-in-End-clause-so_far : goal.returns-in-End-clause-so_far
returns-in-End-clause-so_far g c h = h

pub returns-in-Broken-clause-told : goal.returns-in-Broken-clause-told
returns-in-Broken-clause-told g c t h = nothing_came g.W.Wire.tells c.read.new.self c.args.link.number Broken c.args.line.now.items t (c.in-Broken.ensures.told t h)

pub returns-in-Broken-clause-so_far : goal.returns-in-Broken-clause-so_far
returns-in-Broken-clause-so_far g c h = h

pub returns-then-octet-eq10-clause-told : goal.returns-then-octet-eq10-clause-told
returns-then-octet-eq10-clause-told g c t h =
    rw c.push.ensures.items (octet_came g.W.Wire.tells c.read.new.self c.args.link.number c.in-Count.field-0 _ c.read.new.buffer c.args.line.now.items Whole t (c.in-Count.ensures.told t h)
    c.in-Count.ensures.within.0 c.in-Count.ensures.within.1 (search rules) (search rules) refl)

pub returns-then-octet-eq10-clause-so_far : goal.returns-then-octet-eq10-clause-so_far
returns-then-octet-eq10-clause-so_far g c h = (c.args.line.now.items, search rules, h)

pub returns-clause-told : goal.returns-clause-told
returns-clause-told g c t h =
    rw c.push.ensures.items (octet_came g.W.Wire.tells c.read.new.self c.args.link.number c.in-Count.field-0 _ c.read.new.buffer c.args.line.now.items (Open (Count 1)) t (c.in-Count.ensures.told t h)
    c.in-Count.ensures.within.0 c.in-Count.ensures.within.1 (search rules) (search rules) refl)

pub returns-clause-so_far : goal.returns-clause-so_far
returns-clause-so_far g c h = rw c.push.ensures.items (still_open c.args.line.now.items _ h (search rules))

pub returns-in-Later-clause-called : goal.returns-in-Later-clause-called
returns-in-Later-clause-called g c a h = one_read g.W.Wire.asked c.read.new.self c.args.link 1 Later [] (Open Later) a (c.in-Later.ensures.called a h) (omega arith) (omega arith) refl refl

pub returns-in-End-clause-called : goal.returns-in-End-clause-called
returns-in-End-clause-called g c a h = one_read g.W.Wire.asked c.read.new.self c.args.link 1 End [] (Open End) a (c.in-End.ensures.called a h) (omega arith) (omega arith) refl refl

pub returns-in-Broken-clause-called : goal.returns-in-Broken-clause-called
returns-in-Broken-clause-called g c a h = one_read g.W.Wire.asked c.read.new.self c.args.link 1 Broken [] (Open Broken) a (c.in-Broken.ensures.called a h) (omega arith) (omega arith) refl refl

pub returns-then-octet-eq10-clause-called : goal.returns-then-octet-eq10-clause-called
returns-then-octet-eq10-clause-called g c a h =
    octet_read g.W.Wire.asked c.read.new.self c.args.link c.in-Count.field-0 10 c.read.new.buffer Whole a
    (c.in-Count.ensures.called a h) c.in-Count.ensures.within.0 c.in-Count.ensures.within.1 (search rules) (search rules)
    ([], refl, refl) refl

pub returns-clause-called : goal.returns-clause-called
returns-clause-called g c a h =
    octet_read g.W.Wire.asked c.read.new.self c.args.link c.in-Count.field-0 (slice_index c.read.new.buffer 0) c.read.new.buffer (Open (Count 1)) a
    (c.in-Count.ensures.called a h) c.in-Count.ensures.within.0 c.in-Count.ensures.within.1 (search rules) (search rules)
    (still_open [] (slice_index c.read.new.buffer 0) refl (search rules)) refl
