use Rattle.std.proofs.Common.{refl, ◌∙◌, to_z-of_z}
use Rattle.sqlite.specs.Held.{state}
use Rattle.mailsql.proofs.StateLemmas.{never}
use Rattle.mailsql.proofs.SheetLemmas.{sheets_between_asks, sheets_between_shows}
use Rattle.mailsql.proofs.ErrorLemmas.{asked_ok, asked_same, asked_undone, asked_fails}
use Rattle.mailsql.proofs.HeldLemmas.{sheets_held}
use Rattle.mailsql.proofs.sheets.sheets_between.Goals as goal

pub returns-clause-ok : goal.returns-clause-ok
returns-clause-ok g c clean tables =
    asked_ok _ _ _ _ _ _ _ (simp (to_z-of_z, c.ranges.mail, c.ranges.from, c.ranges.end) at (c.list.ensures.ok clean))
    (λ all rows shown e. e ∙ sheets_between_shows (state g.S.Store c.args.conn.now) (state g.S.Store c.list.new.conn) c.args.mail c.args.from c.args.end rows tables shown c.list.ensures.live)

pub returns-clause-same : goal.returns-clause-same
returns-clause-same g c clean tables =
    asked_same _ _ _ _ _ sheets_between_asks (λ _ db. refl) (state g.S.Store c.args.conn.now) (state g.S.Store c.list.new.conn) _ tables _ _
    (simp (to_z-of_z, c.ranges.mail, c.ranges.from, c.ranges.end) at (c.list.ensures.ok clean))

pub returns-clause-err : goal.returns-clause-err
returns-clause-err g c clean tables =
    asked_undone _ _ _ _ _ sheets_between_asks (λ _ db. refl) (state g.S.Store c.args.conn.now) (state g.S.Store c.list.new.conn) _ tables _ _
    (simp (to_z-of_z, c.ranges.mail, c.ranges.from, c.ranges.end) at (c.list.ensures.err clean))

pub returns-clause-cause : goal.returns-clause-cause
returns-clause-cause g c clean tables =
    asked_fails _ _ _ _ _ sheets_between_asks (λ _ db. refl) (state g.S.Store c.args.conn.now)
    (state g.S.Store c.list.new.conn) _ tables _ _ c.list.ensures.live (λ kept. kept.1.1.1.1.1.1.1.1.1.0) (λ kept sound. sheets_held _ kept.0 sound)
    (simp (to_z-of_z, c.ranges.mail, c.ranges.from, c.ranges.end) at (c.list.ensures.err clean))

pub returns-clause-survives : goal.returns-clause-survives
returns-clause-survives g c = never _ _ (state g.S.Store c.args.conn.now) (state g.S.Store c.list.new.conn) (λ b. (sheets_between_asks b).plain) c.list.ensures.survives
