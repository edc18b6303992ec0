use Rattle.std.proofs.Common.{rules}
use Rattle.policy.specs.PolicyText.{rules_of}
use Rattle.policy.proofs.read.read_text.Goals as goal

pub returns-in-Ok-clause-fault : goal.returns-in-Ok-clause-fault
unfolding rules_of
returns-in-Ok-clause-fault c = search rules

pub returns-in-Err-2-clause-ok : goal.returns-in-Err-2-clause-ok
unfolding rules_of
returns-in-Err-2-clause-ok c = search rules
