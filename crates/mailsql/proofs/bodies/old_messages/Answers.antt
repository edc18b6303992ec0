use Rattle.std.proofs.Common.{◌∙◌, true, refl}
use Rattle.sqlite.specs.Held.{state}
use Rattle.mailsql.specs.Tables.{schema_of}
use Rattle.mailsql.proofs.StateLemmas.{never_in}
use Rattle.mailsql.proofs.BodyLemmas.{old_messages_asks, old_messages_shows, ours_carried, bodies_keyed, bodies_held}
use Rattle.mailsql.proofs.ErrorLemmas.{asked_ok, asked_same_of, asked_undone_of, asked_fails_of}
use Rattle.mailsql.proofs.QueryLemmas.{shown_open}
use Rattle.mailsql.proofs.bodies.old_messages.Goals as goal

pub returns-clause-ok : goal.returns-clause-ok
returns-clause-ok g c clean tables carried =
    asked_ok _ _ _ _ _ _ _ (c.list.ensures.ok clean)
    (λ all rows shown e. e ∙ old_messages_shows (state g.S.Store c.args.conn.now) (state g.S.Store c.list.new.conn) rows carried (tables (shown_open _ _ _ _ rows shown)) shown)

pub returns-clause-same : goal.returns-clause-same
returns-clause-same g c clean tables carried =
    asked_same_of (schema_of true) _ _ _ _ _ old_messages_asks (λ db. refl) (state g.S.Store c.args.conn.now) (state g.S.Store c.list.new.conn) _
    (λ up. ours_carried _ carried (tables up)) _ _ (c.list.ensures.ok clean)

pub returns-clause-err : goal.returns-clause-err
returns-clause-err g c clean tables carried =
    asked_undone_of (schema_of true) _ _ _ _ _ old_messages_asks (λ db. refl) (state g.S.Store c.args.conn.now) (state g.S.Store c.list.new.conn) _
    (λ up. ours_carried _ carried (tables up)) _ _ (c.list.ensures.err clean)

pub returns-clause-cause : goal.returns-clause-cause
returns-clause-cause g c clean tables carried =
    asked_fails_of (schema_of true) _ _ _ _ _ old_messages_asks (λ db. refl) (state g.S.Store c.args.conn.now) (state g.S.Store c.list.new.conn) _
    (λ up. ours_carried _ carried (tables up)) _ _ (λ up. bodies_keyed _ carried (tables up))
    (λ up r has. (bodies_held _ carried (tables up) (c.list.ensures.live up).0 r has).0) (c.list.ensures.err clean)

pub returns-clause-survives : goal.returns-clause-survives
returns-clause-survives g c = never_in true _ _ (state g.S.Store c.args.conn.now) (state g.S.Store c.list.new.conn) old_messages_asks.plain (c.list.ensures.survives)
