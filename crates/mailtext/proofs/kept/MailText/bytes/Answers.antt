-- The octets themselves.
use Rattle.std.proofs.Common.{rules}
use Rattle.mailtext.proofs.kept.MailText.bytes.Goals as goal

pub returns-clause-value : goal.returns-clause-value
returns-clause-value c = search rules
