use Rattle.std.proofs.Common.{Ok}
use Rattle.std.proofs.Common.{◌≡◌, ◌+◌, ◌-◌, ◌/◌, ◌<◌, ◌^◌, pos, ap, ◌∙◌, arith, rules, SFits, w64, to_z, of_z, to_z-of_z}
use Rattle.std.proofs.lemmas.Int.{to_z_pos}
use Rattle.sqlite.specs.Held.{state}
use Rattle.vault.specs.Calls.{text_under}
use Rattle.mailsql.specs.Rows.{rows_in}
use Rattle.sqlvault.specs.Keeps.{row_key}
use Rattle.sqlvault.specs.Pages.{octets_from}
use Rattle.sqlvault.proofs.FrameLemmas.{passed}
use Rattle.sqlvault.proofs.HoldsLemmas.{met}
use Rattle.sqlvault.proofs.PartRowLemmas.{sheets_of_others}
use Rattle.sqlvault.proofs.PageLemmas.{run_read, pages_at}
use Rattle.sqlvault.proofs.SeesLemmas.{sees_asked, sees_failed}
use Rattle.sqlvault.proofs.pages.page.Goals as goal

pub returns-in_err-found-clause-sees : goal.returns-in_err-found-clause-sees
returns-in_err-found-clause-sees g c = rw (passed c.from_residual.ensures.1) (sees_failed g.S.Store c.args.conn.now c.sheets_between.new.conn c.in_err-found.ensures.err
    c.sheets_between.ensures.survives (λ k. met (Ok 0) c.in_err-found.field-0.0))

pub returns-clause-sees : goal.returns-clause-sees
returns-clause-sees g c =
    sees_asked g.S.Store c.args.conn.now c.sheets_between.new.conn c.in_ok-found.ensures.same
    c.sheets_between.ensures.survives
    (λ clean tables base keeps.
    let first = c.args.from / 4096 in
    let end = first + c.sheets_for.result in
    let fits : c.args.key < 2 ^ 64 = let e = c.number.ensures in let r : c.number.result < 2 ^ 64 = search rules in omega (arith, e, r) in
    let sfits : SFits w64 c.cast_signed-mail.result = search rules in
    let mail : to_z w64 (of_z w64 c.cast_signed-mail.result) ≡ row_key c.args.key = to_z-of_z sfits ∙ c.cast_signed-mail.ensures ∙ ap (to_z w64) c.number.ensures in
    let low : first < 2 ^ 62 = omega (arith, c.ranges.from.fits) in
    let from_is : to_z w64 first ≡ pos first = to_z_pos w64 first (omega (arith, low)) in
    let end_is : to_z w64 end ≡ pos end = to_z_pos w64 end (omega (arith, low, c.sheets_for.ensures.few)) in
    let shown = rw (mail, from_is, end_is) at (c.in_ok-found.ensures.ok clean tables) in
    let rows = rows_in (state g.S.Store c.args.conn.now).now.trees in
    let run = ap (λ l. octets_from (end - first) l first) (c.as_slice.ensures.value ∙ shown) ∙ run_read c.args.key rows base fits keeps first end (omega arith) in
    pages_at (text_under c.args.key base.messages) c.args.from c.copy_sheets.result (end - first)
    (octets_from (end - first) c.as_slice.result.now first) c.copy_sheets.new.buffer (omega (arith, c.sheets_for.ensures.some)) run c.copy_sheets.ensures.count c.copy_sheets.ensures.copied)

pub returns-in_err-found-clause-beside : goal.returns-in_err-found-clause-beside
returns-in_err-found-clause-beside g c = rw (passed c.from_residual.ensures.1) (record { told = λ clean tables a k spared part. met (Ok 0) c.in_err-found.field-0.0 })

pub returns-clause-beside : goal.returns-clause-beside
returns-clause-beside g c = record {
  told = λ clean tables a base spared part.
      let key = c.args.key in
      let first = c.args.from / 4096 in
      let end = first + c.sheets_for.result in
      let fits : key < 2 ^ 64 = let e = c.number.ensures in let r : c.number.result < 2 ^ 64 = search rules in omega (arith, e, r) in
      let sfits : SFits w64 c.cast_signed-mail.result = search rules in
      let mail : to_z w64 (of_z w64 c.cast_signed-mail.result) ≡ row_key c.args.key = to_z-of_z sfits ∙ c.cast_signed-mail.ensures ∙ ap (to_z w64) c.number.ensures in
      let low : first < 2 ^ 62 = omega (arith, c.ranges.from.fits) in
      let from_is : to_z w64 first ≡ pos first = to_z_pos w64 first (omega (arith, low)) in
      let end_is : to_z w64 end ≡ pos end = to_z_pos w64 end (omega (arith, low, c.sheets_for.ensures.few)) in
      let shown = rw (mail, from_is, end_is) at (c.in_ok-found.ensures.ok clean tables)
      ∙ sheets_of_others a base _ part key fits (pos first) (pos end) spared in
      let rows = part.before in
      let run = ap (λ l. octets_from (end - first) l first) (c.as_slice.ensures.value ∙ shown) ∙ run_read key rows base fits part.keeps first end (omega arith) in
      pages_at (text_under key base.messages) c.args.from c.copy_sheets.result (end - first)
      (octets_from (end - first) c.as_slice.result.now first) c.copy_sheets.new.buffer (omega (arith, c.sheets_for.ensures.some)) run c.copy_sheets.ensures.count c.copy_sheets.ensures.copied;
}
