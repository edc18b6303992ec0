use Rattle.std.proofs.Common.{◌≡◌, Option, Some, None, not, sym, subst, rules}
use Rattle.std.specs.Prelude.{is_some}
use Rattle.sqlite.specs.Held.{state}
use Rattle.mailsql.specs.Columns.{Rows}
use Rattle.mailsql.specs.Rows.{rows_in}
use Rattle.sqlvault.specs.declared.part.Part.{Part}
use Rattle.sqlvault.specs.Keeps.{Keeps}
use Rattle.sqlvault.specs.Judged.{IsJudged}
use Rattle.sqlvault.specs.Parts.{Finds}
use Rattle.sqlvault.proofs.FrameLemmas.{passed}
use Rattle.sqlvault.proofs.AskLemmas.{asks_ok, asks_err}
use Rattle.sqlvault.proofs.part.are_rows_sound.Goals as goal

found : (rows : Rows) (unsound : Option Part) → IsJudged rows unsound → Finds (Keeps rows) (not (is_some unsound))
found rows None judged = judged
found rows (Some part) judged = judged.0

pub returns-clause-judged : goal.returns-clause-judged
returns-clause-judged g c clean h meta_rows =
    let rows = rows_in (state g.S.Store c.args.conn.now).now.trees in
    let is : c.is_none.result ≡ not (is_some c.in_ok-unsound.unsound) = search rules in
    subst (Finds (Keeps rows)) (sym is)
    (found rows c.in_ok-unsound.unsound (c.in_ok-unsound.ensures.judged clean h meta_rows))

pub returns-clause-asks : goal.returns-clause-asks
returns-clause-asks g c = asks_ok c.in_ok-unsound.ensures.asks

pub returns-in_err-unsound-clause-asks : goal.returns-in_err-unsound-clause-asks
returns-in_err-unsound-clause-asks g c = rw (passed c.from_residual.ensures.1) (asks_err c.in_err-unsound.ensures.asks)
