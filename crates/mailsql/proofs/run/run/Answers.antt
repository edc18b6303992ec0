use Rattle.mailsql.proofs.StateLemmas.{error_undone}
use Rattle.mailsql.proofs.run.run.Goals as goal

pub returns-in-Err-clause-err : goal.returns-in-Err-clause-err
returns-in-Err-clause-err g c clean = error_undone _ _ _ _ _ (c.in-Err.ensures.runs clean)
