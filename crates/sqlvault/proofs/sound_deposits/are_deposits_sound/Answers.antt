use Rattle.std.proofs.Common.{◌∙◌, ap, arith, List}
use Rattle.sqlite.specs.Held.{state}
use Rattle.sqlite.specs.State.{HasCleanDisk}
use Rattle.sqlite.specs.declared.error.Error.{Error}
use Rattle.mailsql.specs.declared.rows.Count.{Count}
use Rattle.mailsql.specs.declared.rows.Deposit.{Deposit}
use Rattle.mailsql.specs.Columns.{Rows}
use Rattle.mailsql.specs.Rows.{rows_in}
use Rattle.sqlvault.specs.Numbers.{are_sound_rows}
use Rattle.sqlvault.proofs.FrameLemmas.{passed}
use Rattle.sqlvault.proofs.AskedLemmas.{judged}
use Rattle.sqlvault.proofs.AdoptLemmas.{tables_on, rows_on}
use Rattle.sqlvault.proofs.AskLemmas.{answered, unanswered, asks_then, asks_passed}
use Rattle.sqlvault.proofs.sound_deposits.are_deposits_sound.Goals as goal

pub returns-clause-judged : goal.returns-clause-judged
returns-clause-judged g c clean2 tables apart =
    let s0 = state g.S.Store c.args.conn.now in
    let s1 = state g.S.Store c.all_deposits.new.conn in
    let clean1 : HasCleanDisk s1 = omega (arith, c.all_counts.ensures.survives.clean) in
    let same1 = c.in_ok-rows.ensures.same clean1 tables in
    let rows = c.as_slice.ensures.value ∙ c.in_ok-rows.ensures.ok clean1 tables in
    let counts = c.as_slice-2.ensures.value ∙ c.in_ok-counts.ensures.ok clean2 (tables_on s0 s1 same1 tables) ∙ ap (λ (r : Rows). r.counts) (rows_on s0 s1 same1) in
    judged (rows_in s0.now.trees) c.in_ok-are_sound.field-0 apart (c.in_ok-are_sound.ensures
    ∙ ap (λ (l : List Deposit). are_sound_rows l c.as_slice-2.result.now) rows ∙ ap (λ (l : List Count). are_sound_rows (rows_in s0.now.trees).deposits l) counts)

pub returns-in_err-rows-clause-asks : goal.returns-in_err-rows-clause-asks
returns-in_err-rows-clause-asks g c = rw (passed c.from_residual.ensures.1) (unanswered g.S.Store c.args.conn.now c.all_deposits.new.conn c.in_err-rows.ensures.err
    c.all_deposits.ensures.survives)

pub returns-in_err-counts-clause-asks : goal.returns-in_err-counts-clause-asks
returns-in_err-counts-clause-asks g c = rw (passed c.from_residual-in_err-counts.ensures.1)
    (let rows = answered {A = Unit {0}} {E = Error} {x = tt} g.S.Store c.args.conn.now c.all_deposits.new.conn c.in_ok-rows.ensures.same c.all_deposits.ensures.survives in
    asks_then rows (unanswered g.S.Store c.all_deposits.new.conn c.all_counts.new.conn
    c.in_err-counts.ensures.err c.all_counts.ensures.survives))

pub returns-clause-asks : goal.returns-clause-asks
returns-clause-asks g c =
    let rows = answered {A = Unit {0}} {E = Error} {x = tt} g.S.Store c.args.conn.now c.all_deposits.new.conn c.in_ok-rows.ensures.same c.all_deposits.ensures.survives in
    asks_then rows (answered g.S.Store c.all_deposits.new.conn c.all_counts.new.conn
    c.in_ok-counts.ensures.same c.all_counts.ensures.survives)

pub returns-in_err-are_sound-clause-asks : goal.returns-in_err-are_sound-clause-asks
returns-in_err-are_sound-clause-asks g c =
    let rows = answered {A = Unit {0}} {E = Error} {x = tt} g.S.Store c.args.conn.now
    c.all_deposits.new.conn c.in_ok-rows.ensures.same c.all_deposits.ensures.survives in
    let counts = answered {A = Unit {0}} {E = Error} {x = tt} g.S.Store c.all_deposits.new.conn c.all_counts.new.conn
    c.in_ok-counts.ensures.same c.all_counts.ensures.survives in
    asks_passed c.from_residual-in_err-are_sound.result _ c.from_residual-in_err-are_sound.ensures.1 (asks_then rows counts)
