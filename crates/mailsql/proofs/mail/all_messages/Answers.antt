use Rattle.std.proofs.Common.{◌∙◌}
use Rattle.sqlite.specs.Held.{state}
use Rattle.mailsql.proofs.StateLemmas.{never}
use Rattle.mailsql.proofs.HeadLemmas.{mail_placed, mail_keyed, all_messages_asks, all_messages_shows}
use Rattle.mailsql.proofs.ErrorLemmas.{asked_ok, asked_same, asked_undone, asked_fails}
use Rattle.mailsql.proofs.HeldLemmas.{messages_held}
use Rattle.mailsql.proofs.mail.all_messages.Goals as goal

pub returns-clause-ok : goal.returns-clause-ok
returns-clause-ok g c clean tables =
    asked_ok _ _ _ _ _ _ _ (c.list.ensures.ok clean) (λ all rows shown e. e ∙ all_messages_shows (state g.S.Store c.args.conn.now) (state g.S.Store c.list.new.conn) rows tables shown)

pub returns-clause-same : goal.returns-clause-same
returns-clause-same g c clean tables = asked_same _ _ _ _ _ all_messages_asks mail_placed (state g.S.Store c.args.conn.now) (state g.S.Store c.list.new.conn) _ tables _ _ (c.list.ensures.ok clean)

pub returns-clause-err : goal.returns-clause-err
returns-clause-err g c clean tables = asked_undone _ _ _ _ _ all_messages_asks mail_placed (state g.S.Store c.args.conn.now) (state g.S.Store c.list.new.conn) _ tables _ _ (c.list.ensures.err clean)

pub returns-clause-cause : goal.returns-clause-cause
returns-clause-cause g c clean tables =
    asked_fails _ _ _ _ _ all_messages_asks mail_placed (state g.S.Store c.args.conn.now)
    (state g.S.Store c.list.new.conn) _ tables _ _ c.list.ensures.live (λ kept. mail_keyed _ _ kept.1) (λ kept sound. messages_held _ kept.0 sound (mail_keyed _ _ kept.1)) (c.list.ensures.err clean)

pub returns-clause-survives : goal.returns-clause-survives
returns-clause-survives g c = never _ _ (state g.S.Store c.args.conn.now) (state g.S.Store c.list.new.conn) (λ b. (all_messages_asks b).plain) c.list.ensures.survives
