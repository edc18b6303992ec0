use Rattle.sqlite.specs.declared.error.Error.{Error}
use Rattle.std.proofs.Common.{ℕ, List, Option, Some, None, min, length, ap, subst, ◌∙◌}
use Rattle.std.specs.Prelude.{All, sum_by}
use Rattle.sqlite.specs.Held.{state}
use Rattle.sqlite.specs.State.{HasCleanDisk}
use Rattle.mailsql.specs.Columns.{Rows}
use Rattle.mailsql.specs.Rows.{rows_in}
use Rattle.sqlvault.specs.Stored.{Counts, IsSoundIn, sheets_under}
use Rattle.sqlvault.proofs.FrameLemmas.{passed}
use Rattle.sqlvault.proofs.JudgeLemmas.{judged_count, all_sound_in}
use Rattle.sqlvault.proofs.StayLemmas.{stays_unchanged, stays_more, tables_stay, rows_stay, clean_before}
use Rattle.sqlvault.proofs.BehindLemmas.{told_behind}
use Rattle.sqlvault.proofs.AskLemmas.{answered, unanswered, asks_reads, asks_ok, asks_err, asks_then}
use Rattle.sqlvault.proofs.sound_messages.are_messages_sound.Goals as goal

pub returns-in_default-clause-judged : goal.returns-in_default-clause-judged
returns-in_default-clause-judged g c deposits clean h apart dropped d =
    let s0 = state g.S.Store c.args.conn.now in
    let s1 = state g.S.Store c.all_maildrops.new.conn in
    let clean1 = c.judge_maildrops.ensures.reads.clean clean in
    let rows = rows_in s0.now.trees in
    let C : Rows → List (List ℕ) → Option ℕ → Type 0 = λ r names o. Counts (All (IsSoundIn r deposits) names) (sum_by (sheets_under r) names) o in
    let told = told_behind (λ r. C r c.as_slice.result.now) s0 s1 deposits c.in_default.is
    (stays_unchanged s0 s1 (c.in_ok-names.ensures.same clean1 h)) h d (c.in_ok-sheets.ensures.judged deposits clean) in
    let judged = subst (λ n. C rows n None) (c.as_slice.ensures.value ∙ c.in_ok-names.ensures.ok clean1 h) told in
    λ ms are. judged (all_sound_in rows deposits apart dropped ms are)

pub returns-clause-judged : goal.returns-clause-judged
returns-clause-judged g c deposits clean h apart dropped d =
    let s0 = state g.S.Store c.args.conn.now in
    let s1 = state g.S.Store c.all_maildrops.new.conn in
    let s2 = state g.S.Store c.judge_maildrops.new.conn in
    let s3 = state g.S.Store c.sheet_count.new.conn in
    let clean2 : HasCleanDisk s2 = clean_before s2 s3 c.sheet_count.ensures.survives.clean clean in
    let clean1 = c.judge_maildrops.ensures.reads.clean clean2 in
    let stays = stays_unchanged s0 s1 (c.in_ok-names.ensures.same clean1 h) in
    let tables = tables_stay s0 s1 stays h in
    let stays2 = stays_more s0 s1 s2 stays (c.in_ok-sheets.ensures.reads.goes clean2 tables) in
    let C : Rows → List (List ℕ) → Option ℕ → Type 0 = λ r names o. Counts (All (IsSoundIn r deposits) names) (sum_by (sheets_under r) names) o in
    let told = told_behind (λ r. C r c.as_slice.result.now) s0 s1 deposits c.in-Some.is stays h d (c.in_ok-sheets.ensures.judged deposits clean2) in
    let judged = subst (λ n. C (rows_in s0.now.trees) n (Some c.in-Some.sheets)) (c.as_slice.ensures.value ∙ c.in_ok-names.ensures.ok clean1 h) told in
    let count = c.in_ok-count.ensures.ok clean (tables_stay s0 s2 stays2 h) ∙ ap (λ (r : Rows). min (length r.sheets) 9223372036854775807) (rows_stay s0 s2 stays2) in
    judged_count (rows_in s0.now.trees) deposits apart dropped c.in_ok-count.count c.in-Some.sheets judged.0 count judged.1

pub returns-in_err-names-clause-asks : goal.returns-in_err-names-clause-asks
returns-in_err-names-clause-asks g c = rw (passed c.from_residual.ensures.1) (unanswered g.S.Store c.args.conn.now c.all_maildrops.new.conn c.in_err-names.ensures.err
    c.all_maildrops.ensures.survives)

pub returns-in_default-clause-asks : goal.returns-in_default-clause-asks
returns-in_default-clause-asks g c =
    let names = answered {A = Unit {0}} {E = Error} {x = tt} g.S.Store c.args.conn.now c.all_maildrops.new.conn c.in_ok-names.ensures.same c.all_maildrops.ensures.survives in
    asks_ok (asks_reads names c.in_ok-sheets.ensures.reads)

pub returns-in_err-sheets-clause-asks : goal.returns-in_err-sheets-clause-asks
returns-in_err-sheets-clause-asks g c = rw (passed c.from_residual-in_err-sheets.ensures.1)
    (let names = answered {A = Unit {0}} {E = Error} {x = tt} g.S.Store c.args.conn.now c.all_maildrops.new.conn c.in_ok-names.ensures.same c.all_maildrops.ensures.survives in
    asks_err (asks_reads names c.in_err-sheets.ensures.reads))

pub returns-clause-asks : goal.returns-clause-asks
returns-clause-asks g c =
    let names = answered {A = Unit {0}} {E = Error} {x = tt} g.S.Store c.args.conn.now c.all_maildrops.new.conn c.in_ok-names.ensures.same c.all_maildrops.ensures.survives in
    asks_then (asks_reads names c.in_ok-sheets.ensures.reads)
    (answered g.S.Store c.judge_maildrops.new.conn c.sheet_count.new.conn
    c.in_ok-count.ensures.same c.sheet_count.ensures.survives)

pub returns-in_err-count-clause-asks : goal.returns-in_err-count-clause-asks
returns-in_err-count-clause-asks g c = rw (passed c.from_residual-in_err-count.ensures.1)
    (let names = answered {A = Unit {0}} {E = Error} {x = tt} g.S.Store c.args.conn.now
    c.all_maildrops.new.conn c.in_ok-names.ensures.same c.all_maildrops.ensures.survives in
    asks_then (asks_reads names c.in_ok-sheets.ensures.reads)
    (unanswered g.S.Store c.judge_maildrops.new.conn c.sheet_count.new.conn
    c.in_err-count.ensures.err c.sheet_count.ensures.survives))
