use Rattle.std.proofs.Common.{refl, ◌∙◌, to_z-of_z}
use Rattle.sqlite.specs.Held.{state}
use Rattle.mailsql.specs.Rows.{is_sheet}
use Rattle.mailsql.proofs.StateLemmas.{never}
use Rattle.mailsql.proofs.OrderLemmas.{first_is}
use Rattle.mailsql.proofs.SheetLemmas.{find_sheet_asks, find_sheet_shows}
use Rattle.mailsql.proofs.ErrorLemmas.{asked_ok, asked_same, asked_undone, asked_fails}
use Rattle.mailsql.proofs.HeldLemmas.{sheets_held}
use Rattle.mailsql.proofs.sheets.find_sheet.Goals as goal

pub returns-clause-ok : goal.returns-clause-ok
returns-clause-ok g c clean tables =
    asked_ok _ _ _ _ _ _ _ (simp (to_z-of_z, c.ranges.mail, c.ranges.place) at (c.first.ensures.ok clean))
    (λ found rows shown e. e ∙ first_is _ (is_sheet c.args.mail c.args.place) rows _
    (find_sheet_shows (state g.S.Store c.args.conn.now) (state g.S.Store c.first.new.conn) c.args.mail c.args.place rows tables shown c.first.ensures.live))

pub returns-clause-same : goal.returns-clause-same
returns-clause-same g c clean tables =
    asked_same _ _ _ _ _ find_sheet_asks (λ _ db. refl) (state g.S.Store c.args.conn.now) (state g.S.Store c.first.new.conn) _ tables _ _
    (simp (to_z-of_z, c.ranges.mail, c.ranges.place) at (c.first.ensures.ok clean))

pub returns-clause-err : goal.returns-clause-err
returns-clause-err g c clean tables =
    asked_undone _ _ _ _ _ find_sheet_asks (λ _ db. refl) (state g.S.Store c.args.conn.now) (state g.S.Store c.first.new.conn) _ tables _ _
    (simp (to_z-of_z, c.ranges.mail, c.ranges.place) at (c.first.ensures.err clean))

pub returns-clause-cause : goal.returns-clause-cause
returns-clause-cause g c clean tables =
    asked_fails _ _ _ _ _ find_sheet_asks (λ _ db. refl) (state g.S.Store c.args.conn.now)
    (state g.S.Store c.first.new.conn) _ tables _ _ c.first.ensures.live (λ kept. kept.1.1.1.1.1.1.1.1.1.0) (λ kept sound. sheets_held _ kept.0 sound)
    (simp (to_z-of_z, c.ranges.mail, c.ranges.place) at (c.first.ensures.err clean))

pub returns-clause-survives : goal.returns-clause-survives
returns-clause-survives g c = never _ _ (state g.S.Store c.args.conn.now) (state g.S.Store c.first.new.conn) (λ b. (find_sheet_asks b).plain) c.first.ensures.survives
