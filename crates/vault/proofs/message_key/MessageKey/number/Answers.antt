-- The number itself.
use Rattle.std.proofs.Common.{rules}
use Rattle.vault.proofs.message_key.MessageKey.number.Goals as goal

pub returns : goal.returns
returns c = search rules
