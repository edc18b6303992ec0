-- The table of rows of `meta`, as its text makes it.
use Rattle.std.proofs.Common.{rules}
use Rattle.mailsql.proofs.schema.has_meta.Goals as goal

pub returns : goal.returns
returns c = search rules
