use Rattle.converse.proofs.Numbering.{told_by_their_line}
use Rattle.converse.proofs.faults_are_told_by_their_line.Goals as goal

pub returns : goal.returns
returns c = told_by_their_line
