use Rattle.sqlvault.proofs.CarryLemmas.{met_of_rows}
use Rattle.sqlvault.proofs.carry.unsound.Goals as goal

pub returns-in-Ok-clause-undoes : goal.returns-in-Ok-clause-undoes
returns-in-Ok-clause-undoes g c = c.roll_back.ensures

pub returns-in-Err-clause-undoes : goal.returns-in-Err-clause-undoes
returns-in-Err-clause-undoes g c = c.roll_back.ensures

pub returns-in-Err-clause-kinds : goal.returns-in-Err-clause-kinds
returns-in-Err-clause-kinds g c = met_of_rows c.in-Err.error
