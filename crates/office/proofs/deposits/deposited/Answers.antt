use Rattle.std.proofs.Common.{rules}
use Rattle.office.proofs.deposits.deposited.Goals as goal

pub returns-in-Ok-New : goal.returns-in-Ok-New
returns-in-Ok-New c = search rules
