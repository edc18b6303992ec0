use Rattle.std.proofs.Common.{◌≡◌, ◌++◌, rules, ap, ◌∙◌, SFits, w64, to_z, of_z, to_z-of_z}
use Rattle.sqlite.specs.Held.{state}
use Rattle.mailsql.specs.Rows.{rows_in}
use Rattle.sqlvault.proofs.FrameLemmas.{passed}
use Rattle.sqlvault.proofs.PieceLemmas.{text_lacks, text_more}
use Rattle.sqlvault.proofs.StayLemmas.{tables_stay, rows_stay}
use Rattle.sqlvault.proofs.AskLemmas.{reads_none, reads_ok, reads_err, reads_then, reads_passed}
use Rattle.sqlvault.proofs.sound_messages.find_text.Goals as goal

pub loop-place-init : goal.loop-place-init
loop-place-init g c = (reads_none g.S.Store c.args.conn.now, λ clean h. search rules)

pub loop-place-preserved : goal.loop-place-preserved
loop-place-preserved g c = (
  reads_ok (reads_then c.loop-place.invariant.0 c.in_ok-sheet.ensures.reads),
  λ clean h.
      let s0 = state g.S.Store c.args.conn.now in
      let s1 = state g.S.Store c.loop-place.conn in
      let clean1 = c.find_piece.ensures.reads.clean clean in
      let was = c.loop-place.invariant.0.goes clean1 h in
      let mail : to_z w64 (of_z w64 c.args.mail) ≡ to_z w64 (of_z w64 c.args.mail) = λ i. to_z w64 (of_z w64 c.args.mail) in
      let judged = c.in_ok-sheet.ensures.judged clean (tables_stay s0 s1 was h) in
      text_more (rows_in s0.now.trees) (rows_in s1.now.trees) (to_z w64 (of_z w64 c.args.mail))
      (to_z w64 (of_z w64 c.args.mail)) c.args.octets c.loop-place.place c.min-size.result c.div_ceil-place-end.result c.in_ok-sheet.field-0 c.in-Some.sheet
      c.loop-place.text.items c.extend_from_slice.new.self.items
      (rows_stay s0 s1 was) mail c.in-Some.is c.div_ceil-place-end.ensures c.loop-place-test.true c.min-size.ensures judged
      (c.loop-place.invariant.1 clean1 h) (c.in_ok-extend_from_slice.ensures.items ∙ ap (λ l. c.loop-place.text.items ++ l) c.as_slice.ensures),
)

pub returns-in_default-clause-judged : goal.returns-in_default-clause-judged
returns-in_default-clause-judged g c clean h =
    let s0 = state g.S.Store c.args.conn.now in
    let s1 = state g.S.Store c.loop-place.conn in
    let was = c.loop-place.invariant.0.goes (c.find_piece.ensures.reads.clean clean) h in
    let mail : to_z w64 (of_z w64 c.args.mail) ≡ c.args.mail = (let f : SFits w64 c.args.mail = search rules in to_z-of_z f) in
    let judged = c.in_ok-sheet.ensures.judged clean (tables_stay s0 s1 was h) in
    text_lacks (rows_in s0.now.trees) (rows_in s1.now.trees) c.args.mail
    (to_z w64 (of_z w64 c.args.mail)) c.args.octets c.loop-place.place c.min-size.result c.div_ceil-place-end.result c.in_ok-sheet.field-0
    (rows_stay s0 s1 was) mail c.in_default.is c.div_ceil-place-end.ensures c.loop-place-test.true c.min-size.ensures judged

pub returns-in_default-clause-reads : goal.returns-in_default-clause-reads
returns-in_default-clause-reads g c = reads_ok (reads_then c.loop-place.invariant.0 c.in_ok-sheet.ensures.reads)

pub returns-in_err-sheet-clause-reads : goal.returns-in_err-sheet-clause-reads
returns-in_err-sheet-clause-reads g c = rw (passed c.from_residual-in_err-sheet.ensures.1) (reads_err (reads_then c.loop-place.invariant.0 c.in_err-sheet.ensures.reads))

pub returns-in_err-extend_from_slice-clause-reads : goal.returns-in_err-extend_from_slice-clause-reads
returns-in_err-extend_from_slice-clause-reads g c =
    let read = reads_then c.loop-place.invariant.0 c.in_ok-sheet.ensures.reads in
    reads_passed c.from_residual-in_err-extend_from_slice.result _
    c.from_residual-in_err-extend_from_slice.ensures.1 read

pub returns-clause-reads : goal.returns-clause-reads
returns-clause-reads g c = reads_ok c.loop-place.invariant.0
