use Rattle.std.proofs.Common.{rules}
use Rattle.mailsql.proofs.tables.create_text.Goals as goal

pub returns-in_default : goal.returns-in_default
returns-in_default c = search rules
