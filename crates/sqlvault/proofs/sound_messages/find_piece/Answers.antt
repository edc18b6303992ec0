use Rattle.std.proofs.Common.{◌≡◌, pos, length, sym, ap, ◌∙◌, rules, SFits, w64, to_z, of_z, to_z-of_z}
use Rattle.sqlite.specs.Held.{state}
use Rattle.mailsql.specs.Rows.{rows_in}
use Rattle.sqlvault.proofs.FrameLemmas.{passed}
use Rattle.sqlvault.proofs.PieceLemmas.{piece_found}
use Rattle.sqlvault.proofs.AskLemmas.{read, unread}
use Rattle.sqlvault.proofs.sound_messages.find_piece.Goals as goal

pub returns-then-as_slice-size-clause-judged : goal.returns-then-as_slice-size-clause-judged
returns-then-as_slice-size-clause-judged g c clean h =
    let s0 = state g.S.Store c.args.conn.now in
    let e = c.in_ok-sheet.ensures.ok clean h in
    let mail : to_z w64 (of_z w64 c.args.mail) ≡ c.args.mail = (let f : SFits w64 c.args.mail = search rules in to_z-of_z f) in
    let fits : SFits w64 c.from.result = search rules in
    let place : to_z w64 (of_z w64 c.from.result) ≡ pos c.args.place = to_z-of_z fits ∙ c.from.ensures in
    piece_found (rows_in s0.now.trees) c.args.mail c.args.place c.args.size c.in-Some.sheet (sym c.in-Some.is ∙ rw (mail, place) at e)
    (ap length (sym c.as_slice.ensures) ∙ c.if-as_slice-size.true)

pub returns-then-as_slice-size-clause-reads : goal.returns-then-as_slice-size-clause-reads
returns-then-as_slice-size-clause-reads g c = read g.S.Store c.args.conn.now c.find_sheet.new.conn c.in_ok-sheet.ensures.same c.find_sheet.ensures.survives

pub returns-else-as_slice-size-clause-reads : goal.returns-else-as_slice-size-clause-reads
returns-else-as_slice-size-clause-reads g c =
    read g.S.Store c.args.conn.now c.find_sheet.new.conn c.in_ok-sheet.ensures.same c.find_sheet.ensures.survives

pub returns-in_default-clause-reads : goal.returns-in_default-clause-reads
returns-in_default-clause-reads g c =
    read g.S.Store c.args.conn.now c.find_sheet.new.conn c.in_ok-sheet.ensures.same c.find_sheet.ensures.survives

pub returns-in_err-sheet-clause-reads : goal.returns-in_err-sheet-clause-reads
returns-in_err-sheet-clause-reads g c = rw (passed c.from_residual.ensures.1) (unread g.S.Store c.args.conn.now c.find_sheet.new.conn c.in_err-sheet.ensures.err
    c.find_sheet.ensures.survives)
