use Rattle.sqlite.specs.Held.{state}
use Rattle.mailsql.proofs.SheetRunLemmas.{HasAdded}
use Rattle.mailsql.proofs.sheets.add_rest.Given as goal

abbrev pub invariant-loop-place : goal.invariant-loop-place
invariant-loop-place g l = HasAdded l.fn.mail l.fn.text l.fn.from l.place (state g.S.Store l.fn.conn) (state g.S.Store l.conn)
