use Rattle.std.proofs.Common.{◌∷◌, ◌∙◌, to_z-of_z, true, refl}
use Rattle.sqlite.specs.Held.{state}
use Rattle.sqlite_value.specs.Order.{column}
use Rattle.mailsql.specs.Tables.{schema_of}
use Rattle.mailsql.specs.Rows.{rows_in, body_of, is_body}
use Rattle.mailsql.proofs.StateLemmas.{never_in}
use Rattle.mailsql.proofs.BodyLemmas.{find_body_asks, find_body_shows, ours_carried, bodies_keyed, bodies_held}
use Rattle.mailsql.proofs.ErrorLemmas.{asked_ok, asked_same_of, asked_undone_of, asked_fails_of}
use Rattle.mailsql.proofs.OrderLemmas.{first_is}
use Rattle.mailsql.proofs.QueryLemmas.{shown_open}
use Rattle.mailsql.proofs.bodies.find_body.Goals as goal

pub returns-clause-ok : goal.returns-clause-ok
returns-clause-ok g c clean tables carried =
    asked_ok _ _ _ _ _ _ _ (simp (to_z-of_z, c.ranges.key) at (c.first.ensures.ok clean))
    (λ all rows shown e. e ∙ first_is (λ r. body_of (column r 0 ∷ r)) (is_body c.args.key) rows
    (rows_in (state g.S.Store c.args.conn.now).now.trees).bodies
    (find_body_shows (state g.S.Store c.args.conn.now) (state g.S.Store c.first.new.conn) c.args.key rows carried (tables (shown_open _ _ _ _ rows shown)) shown))

pub returns-clause-same : goal.returns-clause-same
returns-clause-same g c clean tables carried =
    asked_same_of (schema_of true) _ _ _ _ _ find_body_asks (λ db. refl) (state g.S.Store c.args.conn.now) (state g.S.Store c.first.new.conn) _
    (λ up. ours_carried _ carried (tables up)) _ _ (simp (to_z-of_z, c.ranges.key) at (c.first.ensures.ok clean))

pub returns-clause-err : goal.returns-clause-err
returns-clause-err g c clean tables carried =
    asked_undone_of (schema_of true) _ _ _ _ _ find_body_asks (λ db. refl) (state g.S.Store c.args.conn.now) (state g.S.Store c.first.new.conn) _
    (λ up. ours_carried _ carried (tables up)) _ _ (simp (to_z-of_z, c.ranges.key) at (c.first.ensures.err clean))

pub returns-clause-cause : goal.returns-clause-cause
returns-clause-cause g c clean tables carried =
    asked_fails_of (schema_of true) _ _ _ _ _ find_body_asks (λ db. refl) (state g.S.Store c.args.conn.now) (state g.S.Store c.first.new.conn) _
    (λ up. ours_carried _ carried (tables up)) _ _ (λ up. bodies_keyed _ carried (tables up))
    (λ up r has. bodies_held _ carried (tables up) (c.first.ensures.live up).0 r has) (simp (to_z-of_z, c.ranges.key) at (c.first.ensures.err clean))

pub returns-clause-survives : goal.returns-clause-survives
returns-clause-survives g c = never_in true _ _ (state g.S.Store c.args.conn.now) (state g.S.Store c.first.new.conn) find_body_asks.plain (simp (to_z-of_z, c.ranges.key) at (c.first.ensures.survives))
