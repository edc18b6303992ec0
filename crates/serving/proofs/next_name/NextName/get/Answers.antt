-- The least name after the last one is the next, if there is one.
use Rattle.std.proofs.Common.{rules}
use Rattle.serving.proofs.next_name.NextName.get.Goals as goal

pub returns-in-Some-default : goal.returns-in-Some-default
returns-in-Some-default c = search rules
