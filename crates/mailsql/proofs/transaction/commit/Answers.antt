use Rattle.sqlite.specs.Held.{state}
use Rattle.sqlite.proofs.StateLemmas.{survives_weaker}
use Rattle.mailsql.proofs.TransactionLemmas.{committed, commit_commits}
use Rattle.mailsql.proofs.transaction.commit.Goals as goal

pub returns-clause-ok : goal.returns-clause-ok
returns-clause-ok g c clean = committed (state g.S.Store c.args.conn.now) (state g.S.Store c.run.new.conn) _ (c.run.ensures.ok clean)

pub returns-clause-err : goal.returns-clause-err
returns-clause-err g c = c.run.ensures.err

pub returns-clause-cause : goal.returns-clause-cause
returns-clause-cause g c = c.run.ensures.cause

pub returns-clause-survives : goal.returns-clause-survives
returns-clause-survives g c = survives_weaker _ _ _ _ (λ _ db. commit_commits (state g.S.Store c.args.conn.now) db) c.run.ensures.survives
