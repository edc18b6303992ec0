use Rattle.std.proofs.Common.{◌≤◌, ◌^◌, ◌-◌, length, min, rules, ap, subst, ◌∙◌}
use Rattle.std.specs.Prelude.{All, sum_by}
use Rattle.sqlite.specs.Held.{state}
use Rattle.mailsql.specs.Rows.{rows_in}
use Rattle.sqlvault.specs.Stored.{Tells, HasMessage, sheets_in}
use Rattle.sqlvault.proofs.FrameLemmas.{passed}
use Rattle.sqlvault.proofs.EachLemmas.{maildrop_sound, maildrop_unsound}
use Rattle.sqlvault.proofs.StayLemmas.{stays_unchanged}
use Rattle.sqlvault.proofs.BehindLemmas.{told_behind}
use Rattle.sqlvault.proofs.AskLemmas.{read, unread, reads_ok, reads_err, reads_then}
use Rattle.sqlvault.proofs.sound_messages.judge_maildrop.Goals as goal

pub returns-clause-judged : goal.returns-clause-judged
returns-clause-judged g c deposits clean h d =
    let s0 = state g.S.Store c.args.conn.now in
    let s1 = state g.S.Store c.heads.new.conn in
    let clean1 = c.are_all_sound.ensures.reads.clean clean in
    let stays = stays_unchanged s0 s1 (c.in_ok-rows.ensures.same clean1 h) in
    let items = c.in_ok-rows.ensures.ok clean1 h in
    let all = told_behind (λ r b. Tells (All (HasMessage r deposits) c.as_slice.result.now) b) s0 s1 deposits c.if-not-sound.false stays h d (c.in_ok-sound.ensures.judged deposits clean) in
    let few : length c.in_ok-rows.rows.items ≤ 10000 = search rules in (
      maildrop_sound (rows_in s0.now.trees) deposits c.args.name.now c.in_ok-rows.rows.items items few (subst (All (HasMessage (rows_in s0.now.trees) deposits)) c.as_slice.ensures.value all),
      c.count_sheets.ensures ∙ ap (λ l. min (sum_by sheets_in l) (2 ^ 64 - 1)) (c.as_slice-2.ensures.value ∙ items),
    )

pub returns-then-not-sound-clause-judged : goal.returns-then-not-sound-clause-judged
returns-then-not-sound-clause-judged g c deposits clean h d =
    let s0 = state g.S.Store c.args.conn.now in
    let s1 = state g.S.Store c.heads.new.conn in
    let clean1 = c.are_all_sound.ensures.reads.clean clean in
    let stays = stays_unchanged s0 s1 (c.in_ok-rows.ensures.same clean1 h) in
    let none = told_behind (λ r b. Tells (All (HasMessage r deposits) c.as_slice.result.now) b) s0 s1 deposits c.if-not-sound.true stays h d (c.in_ok-sound.ensures.judged deposits clean) in
    maildrop_unsound (rows_in s0.now.trees) deposits c.args.name.now c.as_slice.result.now (c.as_slice.ensures.value ∙ (c.in_ok-rows.ensures.ok clean1 h)) none

pub returns-in_err-rows-clause-reads : goal.returns-in_err-rows-clause-reads
returns-in_err-rows-clause-reads g c = rw (passed c.from_residual.ensures.1)
    (unread g.S.Store c.args.conn.now c.heads.new.conn c.in_err-rows.ensures.err c.heads.ensures.survives)

pub returns-then-len-gt-MAX_MESSAGES-clause-reads : goal.returns-then-len-gt-MAX_MESSAGES-clause-reads
returns-then-len-gt-MAX_MESSAGES-clause-reads g c =
    read g.S.Store c.args.conn.now c.heads.new.conn c.in_ok-rows.ensures.same
    c.heads.ensures.survives

pub returns-clause-reads : goal.returns-clause-reads
returns-clause-reads g c =
    let rows = read {A = Unit {0}} {x = tt} g.S.Store c.args.conn.now c.heads.new.conn c.in_ok-rows.ensures.same c.heads.ensures.survives in
    reads_ok (reads_then rows c.in_ok-sound.ensures.reads)

pub returns-then-not-sound-clause-reads : goal.returns-then-not-sound-clause-reads
returns-then-not-sound-clause-reads g c =
    let rows = read {A = Unit {0}} {x = tt} g.S.Store c.args.conn.now c.heads.new.conn c.in_ok-rows.ensures.same c.heads.ensures.survives in
    reads_ok (reads_then rows c.in_ok-sound.ensures.reads)

pub returns-in_err-sound-clause-reads : goal.returns-in_err-sound-clause-reads
returns-in_err-sound-clause-reads g c = rw (passed c.from_residual-in_err-sound.ensures.1)
    (let rows = read {A = Unit {0}} {x = tt} g.S.Store c.args.conn.now c.heads.new.conn
    c.in_ok-rows.ensures.same c.heads.ensures.survives in
    reads_err (reads_then rows c.in_err-sound.ensures.reads))
