use Rattle.std.proofs.Common.{rules}
use Rattle.creds.proofs.host_name.is_host_part.Goals as goal

pub returns-then-part-ne45 : goal.returns-then-part-ne45
returns-then-part-ne45 c = search rules
