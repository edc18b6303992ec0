-- The number itself.
use Rattle.std.proofs.Common.{rules}
use Rattle.vault.proofs.message_key.MessageKey.new.Goals as goal

pub returns : goal.returns
returns c = search rules
