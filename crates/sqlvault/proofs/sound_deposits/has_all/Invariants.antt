use Rattle.std.proofs.Common.{◌≡◌, true, List}
use Rattle.sqlvault.specs.Numbers as spec
use Rattle.sqlvault.proofs.sound_deposits.has_all.Given as goal

abbrev pub invariant-loop-before : goal.invariant-loop-before
invariant-loop-before l = (ns : List spec.Number) → spec.IsSetOf ns l.numbers → spec.has_all ns l.maildrop l.class l.before ≡ true
