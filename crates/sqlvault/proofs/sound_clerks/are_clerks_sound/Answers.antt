use Rattle.std.proofs.Common.{ap, ◌∙◌}
use Rattle.sqlite.specs.Held.{state}
use Rattle.mailsql.specs.Rows.{rows_in}
use Rattle.sqlvault.specs.RowForms.{are_clerk_rows}
use Rattle.sqlvault.proofs.FrameLemmas.{passed}
use Rattle.sqlvault.proofs.RowFormLemmas.{clerks_judged}
use Rattle.sqlvault.proofs.AskLemmas.{answered, unanswered}
use Rattle.sqlvault.proofs.sound_clerks.are_clerks_sound.Goals as goal

pub returns-clause-judged : goal.returns-clause-judged
returns-clause-judged g c clean tables keys =
    let s0 = state g.S.Store c.args.conn.now in
    clerks_judged (rows_in s0.now.trees) keys c.are_clerks.result (c.are_clerks.ensures ∙ ap are_clerk_rows (c.as_slice.ensures.value ∙ c.in_ok-rows.ensures.ok clean tables))

pub returns-clause-asks : goal.returns-clause-asks
returns-clause-asks g c =
    answered g.S.Store c.args.conn.now c.all_clerks.new.conn c.in_ok-rows.ensures.same c.all_clerks.ensures.survives

pub returns-in_err-rows-clause-asks : goal.returns-in_err-rows-clause-asks
returns-in_err-rows-clause-asks g c = rw (passed c.from_residual.ensures.1) (unanswered g.S.Store c.args.conn.now c.all_clerks.new.conn c.in_err-rows.ensures.err
    c.all_clerks.ensures.survives)
