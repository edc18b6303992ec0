use Rattle.std.proofs.Common.{◌<◌, ◌≤◌, length, arith, rules}
use Rattle.sqlite.specs.Held.{state}
use Rattle.mailsql.specs.Rows.{rows_in}
use Rattle.sqlvault.specs.Parts.{Finds}
use Rattle.sqlvault.specs.Stored.{IsStored, HasMessage}
use Rattle.sqlvault.proofs.FrameLemmas.{passed}
use Rattle.sqlvault.proofs.EachLemmas.{next_passes, one_fails, each_passes}
use Rattle.sqlvault.proofs.BehindLemmas.{told_behind}
use Rattle.sqlvault.proofs.AskLemmas.{reads_none, reads_ok, reads_then}
use Rattle.sqlvault.proofs.sound_messages.are_all_sound.Goals as goal

pub loop-row-init : goal.loop-row-init
loop-row-init g c = (reads_none g.S.Store c.args.conn.now, λ deposits clean h d. search rules)

pub loop-row-preserved : goal.loop-row-preserved
loop-row-preserved g c = (
  reads_ok (reads_then c.loop-row.invariant.0 c.in_ok-sound.ensures.reads),
  λ deposits clean h d.
      let s0 = state g.S.Store c.args.conn.now in
      let s1 = state g.S.Store c.loop-row.conn in
      let clean1 = c.is_message_sound.ensures.reads.clean clean in
      let was = c.loop-row.invariant.0.goes clean1 h in
      let lt : c.loop-row.row-index < length c.args.rows.now = omega (arith, c.loop-row-test.true) in
      let some = told_behind (λ r b. Finds (IsStored r deposits c.row-item.result) b) s0 s1 deposits c.if-not-sound.false was h d (c.in_ok-sound.ensures.judged deposits clean) in
      next_passes (HasMessage (rows_in s0.now.trees) deposits) c.args.rows.now c.loop-row.row-index c.row-item.result lt c.row-item.is (c.loop-row.invariant.1 deposits clean1 h d) some,
)

pub returns-then-not-sound-clause-judged : goal.returns-then-not-sound-clause-judged
returns-then-not-sound-clause-judged g c deposits clean h d =
    let s0 = state g.S.Store c.args.conn.now in
    let was = c.loop-row.invariant.0.goes (c.is_message_sound.ensures.reads.clean clean) h in
    let lt : c.loop-row.row-index < length c.args.rows.now = omega (arith, c.loop-row-test.true) in
    let none = told_behind (λ r b. Finds (IsStored r deposits c.row-item.result) b) s0
    (state g.S.Store c.loop-row.conn) deposits c.if-not-sound.true was h d (c.in_ok-sound.ensures.judged deposits clean) in
    one_fails (HasMessage (rows_in s0.now.trees) deposits) c.args.rows.now c.loop-row.row-index c.row-item.result lt c.row-item.is (λ m. none m.0 m.1)

pub returns-clause-judged : goal.returns-clause-judged
returns-clause-judged g c deposits clean h d =
    let all : length c.args.rows.now ≤ c.loop-row.row-index = omega (arith, c.loop-row-test.false) in
    each_passes (HasMessage (rows_in (state g.S.Store c.args.conn.now).now.trees) deposits) c.args.rows.now c.loop-row.row-index all (c.loop-row.invariant.1 deposits clean h d)

pub returns-then-not-sound-clause-reads : goal.returns-then-not-sound-clause-reads
returns-then-not-sound-clause-reads g c = reads_ok (reads_then c.loop-row.invariant.0 c.in_ok-sound.ensures.reads)

pub returns-in_err-sound-clause-reads : goal.returns-in_err-sound-clause-reads
returns-in_err-sound-clause-reads g c = rw (passed c.from_residual.ensures.1) (reads_then c.loop-row.invariant.0 c.in_err-sound.ensures.reads)

pub returns-clause-reads : goal.returns-clause-reads
returns-clause-reads g c = reads_ok c.loop-row.invariant.0
