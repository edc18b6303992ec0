use Rattle.std.proofs.Common.{length}
use Rattle.journal.proofs.message_ids.+is_atoms.Given as goal

abbrev pub decreases-is_atoms : goal.decreases-is_atoms
decreases-is_atoms l = length l.text.now
