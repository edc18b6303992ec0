use Rattle.std.proofs.Common.{rules}
use Rattle.creds.proofs.name.is_name_octet.Goals as goal

pub returns-in-97-to-122-3 : goal.returns-in-97-to-122-3
returns-in-97-to-122-3 c = search rules
