use Rattle.std.proofs.Common.{rules, ◌≡◌, []}
use Rattle.std.specs.Ordering.{nat_cmp}
use Rattle.std.specs.BTreeMap.{get}
use Rattle.proxy.proofs.Telling.{empty_none}
use Rattle.proxy.proofs.HandingOn.{nothing_asked}
use Rattle.proxy.proofs.wire.ProxiedWire.new.Goals as goal

pub returns-clause-asked : goal.returns-clause-asked
returns-clause-asked g c h =
    let none : c.new-2.result.entries ≡ [] = search rules in
    nothing_asked g.W.Wire.asked c.args.wire (get nat_cmp c.new-2.result) h (λ k. empty_none c.new-2.result none k)
