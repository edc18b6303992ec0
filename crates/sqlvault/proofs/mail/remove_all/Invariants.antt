use Rattle.std.proofs.Common.{◌≤◌, length, drop, Ok}
use Rattle.sqlvault.specs.Frame.{Writes}
use Rattle.sqlvault.proofs.RemoveLemmas.{Removed}
use Rattle.sqlvault.proofs.mail.remove_all.Given as goal

abbrev pub invariant-loop-left : goal.invariant-loop-left
invariant-loop-left g l = record {
  within : l.left ≤ length l.keys;
  done : Writes g.S.Store l.fn.conn l.conn
      (λ (_ : Unit {0}). Removed l.maildrop (drop l.left l.keys)) (Ok tt);
}

abbrev pub decreases-loop-left : goal.decreases-loop-left
decreases-loop-left g l = l.left
