use Rattle.std.proofs.Common.{◌≡◌, pos, take, Ok}
use Rattle.sqlvault.specs.Frame.{Writes}
use Rattle.sqlvault.specs.Rules.{AddsMembers}
use Rattle.sqlvault.proofs.groups.add_members.Given as goal

abbrev pub invariant-loop-member : goal.invariant-loop-member
invariant-loop-member g l =
    (l.place ≡ pos l.member-index) × Writes g.S.Store l.fn.conn l.conn
    (λ (_ : Unit {0}). AddsMembers l.group (take l.member-index l.members)) (Ok tt)
