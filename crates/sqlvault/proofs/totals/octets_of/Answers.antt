use Rattle.std.proofs.Common.{◌≡◌, ◌<◌, ◌+◌, ◌-◌, ◌^◌, min, arith, length, take, rules, of_z, to_z-of_z, SFits, w64, ap, sym, ◌∙◌}
use Rattle.std.specs.Prelude.{sum_by}
use Rattle.mailsql.specs.declared.rows.Message.{Message}
use Rattle.sqlvault.proofs.TotalLemmas.{octets_in, octets_at, capped}
use Rattle.sqlvault.proofs.totals.octets_of.Goals as goal

pub loop-row-preserved : goal.loop-row-preserved
loop-row-preserved c ms same =
    let i = c.loop-row.row-index in
    let lt : i < length c.args.rows.now = omega (arith, c.loop-row-test.true) in
    let at = octets_at ms c.args.rows.now i c.row-item.result lt c.row-item.is same in
    let fits : SFits w64 c.row-item.result.octets = search rules in
    let added : c.cast_unsigned.result ≡ octets_in at.0 = c.cast_unsigned.ensures ∙ ap (of_z w64) (to_z-of_z fits) ∙ ap (λ (m : Message). of_z w64 m.octets) at.1 in
    capped (sum_by octets_in (take i ms)) c.loop-row.octets (octets_in at.0) c.saturating_add-octets.result (2 ^ 64 - 1) (c.loop-row.invariant ms same)
    (c.saturating_add-octets.ensures ∙ ap (λ n. min (c.loop-row.octets + n) (2 ^ 64 - 1)) added)
    ∙ ap (λ n. min n (2 ^ 64 - 1)) (sym at.2)
