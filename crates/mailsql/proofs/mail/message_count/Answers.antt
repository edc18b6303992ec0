use Rattle.sqlite.specs.Held.{state}
use Rattle.mailsql.proofs.StateLemmas.{never}
use Rattle.mailsql.proofs.CountLemmas.{counted_is, counted_same, counted_undone, counted_fails}
use Rattle.mailsql.proofs.TallyLemmas.{message_count_tallies, message_count_is}
use Rattle.mailsql.proofs.HeadLemmas.{mail_placed}
use Rattle.mailsql.proofs.mail.message_count.Goals as goal

pub returns-clause-ok : goal.returns-clause-ok
returns-clause-ok g c clean tables =
    counted_is _ _ _ message_count_tallies mail_placed (state g.S.Store c.args.conn.now) (state g.S.Store c.count.new.conn) _ tables _ _
    (λ row h. message_count_is (state g.S.Store c.args.conn.now) (state g.S.Store c.count.new.conn) c.args.maildrop.now tables row h c.count.ensures.live) (c.count.ensures.ok clean)

pub returns-clause-same : goal.returns-clause-same
returns-clause-same g c clean tables = counted_same _ _ _ message_count_tallies mail_placed (state g.S.Store c.args.conn.now) (state g.S.Store c.count.new.conn) _ tables _ (c.count.ensures.ok clean)

pub returns-clause-err : goal.returns-clause-err
returns-clause-err g c clean tables = counted_undone _ _ _ message_count_tallies mail_placed (state g.S.Store c.args.conn.now) (state g.S.Store c.count.new.conn) _ tables _ (c.count.ensures.err clean)

pub returns-clause-cause : goal.returns-clause-cause
returns-clause-cause g c clean tables =
    counted_fails _ _ _ message_count_tallies mail_placed (state g.S.Store c.args.conn.now) (state g.S.Store c.count.new.conn) _ tables _ (c.count.ensures.err clean)

pub returns-clause-survives : goal.returns-clause-survives
returns-clause-survives g c = never _ _ (state g.S.Store c.args.conn.now) (state g.S.Store c.count.new.conn) (λ b. (message_count_tallies b).plain) c.count.ensures.survives
