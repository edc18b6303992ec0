-- Where the header ends.
use Rattle.std.proofs.Common.{rules}
use Rattle.mailtext.proofs.kept.MailText.header_len.Goals as goal

pub returns : goal.returns
returns c = search rules
