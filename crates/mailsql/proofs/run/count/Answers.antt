use Rattle.std.proofs.Common.{inl}
use Rattle.mailsql.proofs.ErrorLemmas.{counts, fails_to_count_as}
use Rattle.mailsql.proofs.run.count.Goals as goal

pub returns-in-Ok-clause-ok : goal.returns-in-Ok-clause-ok
returns-in-Ok-clause-ok g c clean = counts _ _ _ _ _ (c.in-Ok.ensures.row clean) _ c.read_count.ensures.ok

pub returns-in-Ok-clause-err : goal.returns-in-Ok-clause-err
returns-in-Ok-clause-err g c clean = fails_to_count_as _ _ _ _ _ (c.in-Ok.ensures.row clean) _ c.read_count.ensures.memory

pub returns-in-Err-clause-err : goal.returns-in-Err-clause-err
returns-in-Err-clause-err g c clean = inl (c.in-Err.ensures.row clean)
