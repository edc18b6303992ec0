use Rattle.std.proofs.Common.{◌≡◌, pos, take, Ok}
use Rattle.sqlvault.specs.Frame.{Writes}
use Rattle.sqlvault.specs.Rules.{AddsGroups}
use Rattle.sqlvault.proofs.groups.add_groups.Given as goal

abbrev pub invariant-loop-group : goal.invariant-loop-group
invariant-loop-group g l =
    (l.place ≡ pos l.group-index) × Writes g.S.Store l.fn.conn l.conn
    (λ (_ : Unit {0}). AddsGroups (take l.group-index l.policy.groups)) (Ok tt)
