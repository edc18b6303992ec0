use Rattle.std.proofs.Common.{◌≡◌, ◌++◌, ◌+◌, ◌-◌, length, take, drop, min, Some, None, pos, sym, ap, ◌∙◌, arith, w64, to_z}
use Rattle.std.proofs.lemmas.Int.{to_z_pos}
use Rattle.std.proofs.lemmas.List.{length-drop, take_rest}
use Rattle.std.specs.Prelude.{option_copied}
use Rattle.sqlvault.specs.Pages.{octets_from}
use Rattle.sqlvault.proofs.CopyLemmas.{copied_more, copied_all, one_sheet, no_sheets}
use Rattle.mailtext.proofs.StreamLemmas.{length-written_end}
use Rattle.sqlvault.proofs.pages.copy_sheets.Goals as goal

pub loop-place-preserved : goal.loop-place-preserved
loop-place-preserved c =
    let l = c.loop-place in
    let sheets = c.args.sheets.now in
    let octets = c.as_slice-octets.result.now in
    let behind = octets_from (c.args.end - (l.place + 1)) sheets (l.place + 1) in
    let p = c.copy_from-put in
    let at : to_z w64 l.place ≡ pos l.place = to_z_pos w64 l.place (omega (arith, c.requires, c.loop-place-test.true)) in
    let found = sym (ap option_copied c.in-Some.is) ∙ rw at at c.sheet_at.ensures in
    let parts : octets_from (c.args.end - l.place) sheets l.place ≡ octets ++ behind =
    one_sheet sheets l.place c.args.end (Some c.in-Some.sheet.now) c.loop-place-test.true found ∙ ap (λ o. o ++ behind) (sym c.as_slice-octets.ensures) in
    let before = ap (λ r. take l.put l.buffer ++ take (length l.buffer - l.put) (drop l.left r)) (sym parts) ∙ l.invariant.copied in
    let whole = drop c.args.skip (octets_from (c.args.end - c.args.first) sheets c.args.first) in
    let size = length-written_end l.put l.buffer p.new.buffer l.invariant.room p.auto.buffer in
    let left : length (take (length l.buffer - l.put) (drop l.put l.buffer)) ≡ length l.buffer - l.put = ap length (take_rest l.buffer l.put) ∙ length-drop l.put l.buffer in
    record {
      room = omega (arith, size, left, p.auto.buffer, p.ensures.count, l.invariant.room);
      size = size ∙ l.invariant.size;
      copied = rw c.saturating_sub-left.ensures (copied_more l.buffer p.new.buffer octets behind whole l.put l.left p.result l.invariant.room p.auto.buffer p.ensures.count p.ensures.copied before);
    }

pub returns-clause-count : goal.returns-clause-count
returns-clause-count c =
    let l = c.loop-place in
    let run = octets_from (c.args.end - c.args.first) c.args.sheets.now c.args.first in
    let none = no_sheets c.args.sheets.now l.place c.args.end (omega (arith, c.loop-place-test.false)) in
    (copied_all l.buffer (drop c.args.skip run) (octets_from (c.args.end - l.place) c.args.sheets.now l.place) l.put l.left l.invariant.room none l.invariant.copied).0
    ∙ ap (λ n. min n (length l.buffer)) (length-drop c.args.skip run)

pub returns-clause-copied : goal.returns-clause-copied
returns-clause-copied c =
    let l = c.loop-place in
    let run = octets_from (c.args.end - c.args.first) c.args.sheets.now c.args.first in
    let none = no_sheets c.args.sheets.now l.place c.args.end (omega (arith, c.loop-place-test.false)) in
    (copied_all l.buffer (drop c.args.skip run) (octets_from (c.args.end - l.place) c.args.sheets.now l.place) l.put l.left l.invariant.room none l.invariant.copied).1

pub returns-in_default-clause-count : goal.returns-in_default-clause-count
returns-in_default-clause-count c =
    let l = c.loop-place in
    let run = octets_from (c.args.end - c.args.first) c.args.sheets.now c.args.first in
    let at : to_z w64 l.place ≡ pos l.place = to_z_pos w64 l.place (omega (arith, c.requires, c.loop-place-test.true)) in
    let found = sym (ap option_copied c.in_default.is) ∙ rw at at c.sheet_at.ensures in
    let none = one_sheet c.args.sheets.now l.place c.args.end None c.loop-place-test.true found in
    (copied_all l.buffer (drop c.args.skip run) (octets_from (c.args.end - l.place) c.args.sheets.now l.place) l.put l.left l.invariant.room none l.invariant.copied).0
    ∙ ap (λ n. min n (length l.buffer)) (length-drop c.args.skip run)

pub returns-in_default-clause-copied : goal.returns-in_default-clause-copied
returns-in_default-clause-copied c =
    let l = c.loop-place in
    let run = octets_from (c.args.end - c.args.first) c.args.sheets.now c.args.first in
    let at : to_z w64 l.place ≡ pos l.place = to_z_pos w64 l.place (omega (arith, c.requires, c.loop-place-test.true)) in
    let found = sym (ap option_copied c.in_default.is) ∙ rw at at c.sheet_at.ensures in
    let none = one_sheet c.args.sheets.now l.place c.args.end None c.loop-place-test.true found in
    (copied_all l.buffer (drop c.args.skip run) (octets_from (c.args.end - l.place) c.args.sheets.now l.place) l.put l.left l.invariant.room none l.invariant.copied).1
