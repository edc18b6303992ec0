use Rattle.converse.proofs.Removing as laws
use Rattle.converse.proofs.removes_by_quit_alone.Goals as goal

pub returns : goal.returns
returns c = laws.removes_by_quit_alone
