use Rattle.std.proofs.Common.{rules}
use Rattle.policy.specs.PolicyText.{settings_of}
use Rattle.policy.proofs.read.read_settings.Goals as goal

pub returns-in-Some-clause-fault : goal.returns-in-Some-clause-fault
unfolding settings_of
returns-in-Some-clause-fault c = search rules
