use Rattle.std.proofs.Common.{to_z-of_z}
use Rattle.sqlite.specs.Held.{state}
use Rattle.sqlite.proofs.StateLemmas.{survives_weaker}
use Rattle.mailsql.proofs.ResultLemmas.{on_ok_then, if_err}
use Rattle.mailsql.proofs.SheetRunLemmas.{all_changed, some_of_rest, fails_from_first}
use Rattle.mailsql.proofs.sheets.add_sheets.Goals as goal

pub returns-clause-ok : goal.returns-clause-ok
returns-clause-ok g c clean ready =
    on_ok_then c.add_rest.result (all_changed c.args.mail c.args.text.now (state g.S.Store c.args.conn.now) (state g.S.Store c.add_rest.new.conn))
    (simp (to_z-of_z, c.ranges.mail) at (c.add_rest.ensures.ok clean ready))

pub returns-clause-err : goal.returns-clause-err
returns-clause-err g c = c.add_rest.ensures.err

pub returns-clause-cause : goal.returns-clause-cause
returns-clause-cause g c clean ready =
    if_err c.add_rest.result _ _ (fails_from_first c.args.mail c.args.text.now g.S.Store c.args.conn.now c.add_rest.new.conn)
    (simp (to_z-of_z, c.ranges.mail) at (c.add_rest.ensures.cause clean ready))

pub returns-clause-survives : goal.returns-clause-survives
returns-clause-survives g c =
    survives_weaker _ _ _ _ (λ _ db may. some_of_rest c.args.mail c.args.text.now (state g.S.Store c.args.conn.now) db may)
    (simp (to_z-of_z, c.ranges.mail) at c.add_rest.ensures.survives)
