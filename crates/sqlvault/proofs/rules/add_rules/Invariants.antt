use Rattle.std.proofs.Common.{take, Ok}
use Rattle.sqlvault.specs.Frame.{Writes}
use Rattle.sqlvault.specs.Rules.{AddsRules}
use Rattle.sqlvault.proofs.rules.add_rules.Given as goal

abbrev pub invariant-loop-rule : goal.invariant-loop-rule
invariant-loop-rule g l =
    Writes g.S.Store l.fn.conn l.conn
    (λ (_ : Unit {0}). AddsRules (take l.rule-index l.rules)) (Ok tt)
