use Rattle.std.proofs.Common.{Some, ◌<◌, ◌≤◌, ◌-◌, ◌^◌, length, arith, subst, rules}
use Rattle.sqlite.specs.Held.{state}
use Rattle.mailsql.specs.Rows.{rows_in}
use Rattle.sqlvault.specs.Stored.{Counts, IsSoundIn, sheets_under}
use Rattle.sqlvault.proofs.FrameLemmas.{passed}
use Rattle.sqlvault.proofs.EachLemmas.{next_passes, one_fails, each_passes, sum_next, sum_whole}
use Rattle.sqlvault.proofs.BehindLemmas.{told_behind}
use Rattle.sqlvault.proofs.AskLemmas.{reads_none, reads_ok, reads_then}
use Rattle.sqlvault.proofs.sound_messages.judge_maildrops.Goals as goal

pub loop-name-init : goal.loop-name-init
loop-name-init g c = (reads_none g.S.Store c.args.conn.now, λ deposits clean h d. search rules)

pub loop-name-preserved : goal.loop-name-preserved
loop-name-preserved g c = (
  reads_ok (reads_then c.loop-name.invariant.0 c.in_ok-more.ensures.reads),
  λ deposits clean h d.
      let s0 = state g.S.Store c.args.conn.now in
      let s1 = state g.S.Store c.loop-name.conn in
      let clean1 = c.judge_maildrop.ensures.reads.clean clean in
      let was = c.loop-name.invariant.0.goes clean1 h in
      let lt : c.loop-name.name-index < length c.args.names.now = omega (arith, c.loop-name-test.true) in
      let some = told_behind (λ r. Counts (IsSoundIn r deposits c.as_slice.result.now) (sheets_under r c.as_slice.result.now)) s0 s1 deposits c.in-Some.is was h d
      (c.in_ok-more.ensures.judged deposits clean) in
      let some2 = subst (λ n. Counts (IsSoundIn (rows_in s0.now.trees) deposits n) (sheets_under (rows_in s0.now.trees) n) (Some c.in-Some.more)) c.as_slice.ensures some in
      let before = c.loop-name.invariant.1 deposits clean1 h d in (
        next_passes (IsSoundIn (rows_in s0.now.trees) deposits) c.args.names.now c.loop-name.name-index c.name-item.result lt c.name-item.is before.0 some2.0,
        sum_next (sheets_under (rows_in s0.now.trees)) c.args.names.now c.loop-name.name-index c.name-item.result c.loop-name.sheets c.in-Some.more c.saturating_add-sheets.result
            (2 ^ 64 - 1) lt c.name-item.is before.1 some2.1 c.saturating_add-sheets.ensures,
      ),
)

pub returns-in_default-clause-judged : goal.returns-in_default-clause-judged
returns-in_default-clause-judged g c deposits clean h d =
    let s0 = state g.S.Store c.args.conn.now in
    let was = c.loop-name.invariant.0.goes (c.judge_maildrop.ensures.reads.clean clean) h in
    let lt : c.loop-name.name-index < length c.args.names.now = omega (arith, c.loop-name-test.true) in
    let none = told_behind (λ r. Counts (IsSoundIn r deposits c.as_slice.result.now) (sheets_under r c.as_slice.result.now)) s0
    (state g.S.Store c.loop-name.conn) deposits c.in_default.is was h d
    (c.in_ok-more.ensures.judged deposits clean) in
    one_fails (IsSoundIn (rows_in s0.now.trees) deposits) c.args.names.now c.loop-name.name-index c.name-item.result lt c.name-item.is
    (subst (λ n. IsSoundIn (rows_in s0.now.trees) deposits n → ⊥) c.as_slice.ensures none)

pub returns-clause-judged : goal.returns-clause-judged
returns-clause-judged g c deposits clean h d =
    let s0 = state g.S.Store c.args.conn.now in
    let all : length c.args.names.now ≤ c.loop-name.name-index = omega (arith, c.loop-name-test.false) in
    let was = c.loop-name.invariant.1 deposits clean h d in (
      each_passes (IsSoundIn (rows_in s0.now.trees) deposits) c.args.names.now c.loop-name.name-index all was.0,
      sum_whole (sheets_under (rows_in s0.now.trees)) c.args.names.now c.loop-name.name-index (2 ^ 64 - 1) c.loop-name.sheets all was.1,
    )

pub returns-in_default-clause-reads : goal.returns-in_default-clause-reads
returns-in_default-clause-reads g c = reads_ok (reads_then c.loop-name.invariant.0 c.in_ok-more.ensures.reads)

pub returns-in_err-more-clause-reads : goal.returns-in_err-more-clause-reads
returns-in_err-more-clause-reads g c = rw (passed c.from_residual.ensures.1) (reads_then c.loop-name.invariant.0 c.in_err-more.ensures.reads)

pub returns-clause-reads : goal.returns-clause-reads
returns-clause-reads g c = reads_ok c.loop-name.invariant.0
