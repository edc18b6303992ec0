-- Full if there is no room, else the class's next number.
use Rattle.std.proofs.Common.{rules}
use Rattle.vault.proofs.deposits.judge.Goals as goal

pub returns-then-present-ge-MAX_MESSAGES : goal.returns-then-present-ge-MAX_MESSAGES
returns-then-present-ge-MAX_MESSAGES c = search rules

pub returns : goal.returns
returns c = search rules
