use Rattle.std.proofs.Common.{rules, ◌≡◌, false}
use Rattle.serving.specs.Wires.{is_fault}
use Rattle.proxy.specs.Proxied.{io_of}
use Rattle.proxy.proofs.Telling.{line_read_on}
use Rattle.proxy.proofs.HandingOn.{reads_then}
use Rattle.proxy.proofs.wire.+read_octets.Goals as goal

pub returns-else-is_full-clause-told : goal.returns-else-is_full-clause-told
returns-else-is_full-clause-told g t c u h =
    let fine : is_fault (io_of c.read_octet.result) ≡ false = search rules in
    line_read_on g.W.Wire.tells c.read_octet.new.wire c.read_octets.new.wire c.args.link.number c.args.line.now.items c.read_octet.new.line.items
    c.read_octets.new.line.items c.read_octet.result c.read_octets.result u
    (c.read_octet.ensures.told u h) fine c.read_octets.ensures.told

pub returns-else-is_full-clause-so_far : goal.returns-else-is_full-clause-so_far
returns-else-is_full-clause-so_far g t c h = c.read_octets.ensures.so_far (c.in-Open-Count.ensures.so_far h)

pub returns-else-is_full-clause-called : goal.returns-else-is_full-clause-called
returns-else-is_full-clause-called g t c a h =
    reads_then g.W.Wire.asked c.read_octet.new.wire c.read_octets.new.wire c.args.link c.read_octet.result c.in-Open-Count.field-0 c.read_octets.result a c.in-Open-Count.is (search rules)
    (c.read_octet.ensures.called a h) c.read_octets.ensures.called
