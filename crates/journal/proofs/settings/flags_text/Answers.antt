use Rattle.std.proofs.Common.{append_assoc}
use Rattle.journal.proofs.settings.flags_text.Goals as goal

pub returns : goal.returns
returns c = rw (c.in_ok-text.ensures.ok, c.yes_or_no-room.ensures, c.yes_or_no-guesses.ensures, c.yes_or_no-proxied.ensures) (simp append_assoc)
