use Rattle.serving.proofs.Waiting.{nobody, a_fourth}
use Rattle.serving.proofs.due.nobody_is_passed_over.Goals as goal

pub returns-clause-each : goal.returns-clause-each
returns-clause-each c = nobody

pub returns-clause-waits : goal.returns-clause-waits
returns-clause-waits c = a_fourth
