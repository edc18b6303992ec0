use Rattle.sqlite.specs.Held.{state}
use Rattle.sqlite.proofs.StateLemmas.{survives_weaker}
use Rattle.mailsql.proofs.ResultLemmas.{on_ok_then}
use Rattle.mailsql.proofs.MaildropLemmas.{add_maildrop_ok, add_maildrop_commits}
use Rattle.mailsql.proofs.maildrops.add_maildrop.Goals as goal

pub returns-clause-ok : goal.returns-clause-ok
returns-clause-ok g c clean ready =
    on_ok_then _ (λ it. add_maildrop_ok (state g.S.Store c.args.conn.now) (state g.S.Store c.run.new.conn) c.args.name.now c.run.ensures.live it.0 ready it.1) (c.run.ensures.ok clean)

pub returns-clause-err : goal.returns-clause-err
returns-clause-err g c = c.run.ensures.err

pub returns-clause-cause : goal.returns-clause-cause
returns-clause-cause g c clean = c.run.ensures.cause clean

pub returns-clause-survives : goal.returns-clause-survives
returns-clause-survives g c = survives_weaker _ _ _ _
    (λ _ db may. add_maildrop_commits (state g.S.Store c.args.conn.now) (state g.S.Store c.run.new.conn) c.args.name.now c.run.ensures.live db may) c.run.ensures.survives
