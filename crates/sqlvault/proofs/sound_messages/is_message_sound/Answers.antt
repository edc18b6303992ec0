use Rattle.std.proofs.Common.{ℕ, pos, Ok, ◌≤ℤ◌, Vec, Global, nat_abs, arith, rules, subst, SFits}
use Rattle.std.proofs.Common.{w64, to_z, of_z}
use Rattle.std.proofs.Math.Facts as back
use Rattle.std.proofs.lemmas.Int.{ints, to_z-of_z}
use Rattle.sqlite.specs.Held.{state}
use Rattle.mailsql.specs.Rows.{rows_in}
use Rattle.sqlvault.specs.Parts.{Finds}
use Rattle.sqlvault.specs.Stored.{IsNumber}
use Rattle.sqlvault.proofs.FrameLemmas.{passed}
use Rattle.sqlvault.proofs.StayLemmas.{tables_stay, rows_stay}
use Rattle.sqlvault.proofs.AskLemmas.{reads_ok, reads_err, reads_then}
use Rattle.sqlvault.proofs.StoredLemmas.{number_stored, kept_judged, text_read, octets_back}
use Rattle.sqlvault.proofs.sound_messages.is_message_sound.Goals as goal

pub returns-then-not-numbered-clause-judged : goal.returns-then-not-numbered-clause-judged
returns-then-not-numbered-clause-judged g c deposits clean h d =
    let none = subst (Finds (IsNumber deposits c.args.row.now)) c.if-not-numbered.true (c.in_ok-numbered.ensures.judged deposits clean h d) in
    λ x s. none x.message.k (number_stored (rows_in (state g.S.Store c.args.conn.now).now.trees) deposits c.args.row.now x d s)

pub returns-in-Some-clause-judged : goal.returns-in-Some-clause-judged
returns-in-Some-clause-judged g c deposits clean h d =
    let s0 = state g.S.Store c.args.conn.now in
    let s1 = state g.S.Store c.is_numbered.new.conn in
    let clean1 = c.find_text.ensures.reads.clean clean in
    let stays = c.in_ok-numbered.ensures.reads.goes clean1 h in
    let number = subst (Finds (IsNumber deposits c.args.row.now)) c.if-not-numbered.false (c.in_ok-numbered.ensures.judged deposits clean1 h d) in
    let judged = c.in_ok-text.ensures.judged clean (tables_stay s0 s1 stays h) in
    let f : SFits w64 c.args.row.now.key = search rules in
    let f2 : SFits w64 c.args.row.now.octets = search rules in
    let low : pos 0 ≤ℤ c.args.row.now.octets = first_of (omega (arith, ints), grind (arith, ints, to_z-of_z), search (ints, rules)) in
    let n = nat_abs (to_z w64 (of_z w64 c.args.row.now.octets)) in
    let stay = rows_stay s0 s1 stays in
    let text = text_read (λ (v : Vec ℕ Global). v.items) (rows_in s0.now.trees) (rows_in s1.now.trees) c.args.row.now.key
    (to_z w64 (of_z w64 c.args.row.now.key)) n c.in_ok-text.field-0 c.in-Some.text stay (back.to_z-of_z f) c.in-Some.is judged in
    kept_judged (rows_in s0.now.trees) deposits c.args.row.now n c.in-Some.text.items
    c.deref.result.now (Ok c.is_kept.result) c.is_kept.ensures c.deref.ensures.value text
    (octets_back c.args.row.now.octets (to_z w64 (of_z w64 c.args.row.now.octets)) (back.to_z-of_z f2) low) f d number

pub returns-then-not-numbered-clause-reads : goal.returns-then-not-numbered-clause-reads
returns-then-not-numbered-clause-reads g c = reads_ok c.in_ok-numbered.ensures.reads

pub returns-in_err-numbered-clause-reads : goal.returns-in_err-numbered-clause-reads
returns-in_err-numbered-clause-reads g c = rw (passed c.from_residual.ensures.1) (c.in_err-numbered.ensures.reads)

pub returns-then-row-lt0-clause-reads : goal.returns-then-row-lt0-clause-reads
returns-then-row-lt0-clause-reads g c = reads_ok c.in_ok-numbered.ensures.reads

pub returns-then-row-clause-reads : goal.returns-then-row-clause-reads
returns-then-row-clause-reads g c = reads_ok c.in_ok-numbered.ensures.reads

pub returns-in-None-clause-reads : goal.returns-in-None-clause-reads
returns-in-None-clause-reads g c = reads_ok (reads_then c.in_ok-numbered.ensures.reads c.in_ok-text.ensures.reads)

pub returns-in-Some-clause-reads : goal.returns-in-Some-clause-reads
returns-in-Some-clause-reads g c = reads_ok (reads_then c.in_ok-numbered.ensures.reads c.in_ok-text.ensures.reads)

pub returns-in_err-text-clause-reads : goal.returns-in_err-text-clause-reads
returns-in_err-text-clause-reads g c = rw (passed c.from_residual-in_err-text.ensures.1)
    (reads_err (reads_then c.in_ok-numbered.ensures.reads c.in_err-text.ensures.reads))
