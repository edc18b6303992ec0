use Rattle.converse.proofs.Clauses.{prints_none}
use Rattle.converse.proofs.fault.tell_fault.Goals as goal

pub returns-in-Err-clause-line : goal.returns-in-Err-clause-line
returns-in-Err-clause-line g c = prints_none (g.E.Write.contents c.args.err.now) _
