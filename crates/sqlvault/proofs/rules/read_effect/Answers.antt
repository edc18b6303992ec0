use Rattle.std.proofs.Common.{rules}
use Rattle.sqlvault.proofs.rules.read_effect.Goals as goal

pub returns-in-0-clause-number : goal.returns-in-0-clause-number
returns-in-0-clause-number c = search rules

pub returns-in-0-clause-read : goal.returns-in-0-clause-read
returns-in-0-clause-read c = search rules
