use Rattle.std.proofs.Common.{◌<ℤ◌, arith, rules}
use Rattle.std.proofs.lemmas.Int.{ints, to_z-of_z}
use Rattle.sqlite.specs.Held.{state}
use Rattle.mailsql.specs.Rows.{rows_in}
use Rattle.sqlvault.proofs.FrameLemmas.{passed}
use Rattle.sqlvault.proofs.StoredLemmas.{count_told, not_counted, none_told, not_numbered}
use Rattle.sqlvault.proofs.AskLemmas.{read, unread}
use Rattle.sqlvault.proofs.sound_messages.is_numbered.Goals as goal

pub returns-then-row-count-clause-judged : goal.returns-then-row-count-clause-judged
returns-then-row-count-clause-judged g c deposits clean h d =
    let s0 = state g.S.Store c.args.conn.now in
    let above : c.in-Some.count.k <ℤ c.args.row.now.k = first_of (omega (arith, ints), grind (arith, ints, to_z-of_z), search (ints, rules)) in
    let told = count_told (rows_in s0.now.trees) deposits c.args.row.now c.as_slice.result.now c.as_slice-2.result.now c.in-Some.count
    c.in_ok-count.count d c.as_slice.ensures c.as_slice-2.ensures (c.in_ok-count.ensures.ok clean h) c.in-Some.is in
    λ k n. not_counted deposits c.args.row.now c.in-Some.count.k k told above n

pub returns-in_default-clause-judged : goal.returns-in_default-clause-judged
returns-in_default-clause-judged g c deposits clean h d =
    let told = none_told (rows_in (state g.S.Store c.args.conn.now).now.trees) deposits c.args.row.now c.as_slice.result.now c.as_slice-2.result.now
    c.in_ok-count.count d c.as_slice.ensures c.as_slice-2.ensures
    (c.in_ok-count.ensures.ok clean h) c.in_default.is in
    λ k n. not_numbered deposits c.args.row.now k told n

pub returns-then-row-lt1-clause-reads : goal.returns-then-row-lt1-clause-reads
returns-then-row-lt1-clause-reads g c = read g.S.Store c.args.conn.now c.find_count.new.conn c.in_ok-count.ensures.same c.find_count.ensures.survives

pub returns-then-row-count-clause-reads : goal.returns-then-row-count-clause-reads
returns-then-row-count-clause-reads g c = read g.S.Store c.args.conn.now c.find_count.new.conn c.in_ok-count.ensures.same c.find_count.ensures.survives

pub returns-clause-reads : goal.returns-clause-reads
returns-clause-reads g c =
    read g.S.Store c.args.conn.now c.find_count.new.conn c.in_ok-count.ensures.same c.find_count.ensures.survives

pub returns-in_default-clause-reads : goal.returns-in_default-clause-reads
returns-in_default-clause-reads g c =
    read g.S.Store c.args.conn.now c.find_count.new.conn c.in_ok-count.ensures.same c.find_count.ensures.survives

pub returns-in_err-count-clause-reads : goal.returns-in_err-count-clause-reads
returns-in_err-count-clause-reads g c = rw (passed c.from_residual.ensures.1) (unread g.S.Store c.args.conn.now c.find_count.new.conn c.in_err-count.ensures.err
    c.find_count.ensures.survives)
