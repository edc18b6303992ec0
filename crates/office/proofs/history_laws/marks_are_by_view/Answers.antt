use Rattle.office.proofs.MarksByView as laws
use Rattle.office.proofs.history_laws.marks_are_by_view.Goals as goal

pub returns : goal.returns
returns c = laws.marks_are_by_view
