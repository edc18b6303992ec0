-- The keyword of the variant.
use Rattle.std.proofs.Common.{rules}
use Rattle.popline.proofs.command.Command.keyword.Goals as goal

pub returns-in-Uidl : goal.returns-in-Uidl
returns-in-Uidl c = search rules
