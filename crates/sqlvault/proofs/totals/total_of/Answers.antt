use Rattle.std.proofs.Common.{◌≡◌, List, length, rules, ap, ◌∙◌}
use Rattle.mailsql.specs.declared.rows.Message.{Message}
use Rattle.vault.specs.Changes.{kept_in}
use Rattle.vault.proofs.ListLemmas.{length-map}
use Rattle.sqlvault.specs.Keeps.{message_row}
use Rattle.sqlvault.proofs.FrameLemmas.{passed}
use Rattle.sqlvault.proofs.TotalLemmas.{total_is}
use Rattle.sqlvault.proofs.totals.total_of.Goals as goal

pub returns-clause-total : goal.returns-clause-total
returns-clause-total g c held clean h =
    let d = c.args.name.now in
    let items = (c.in_ok-rows.ensures.told clean held h tt).1.rows_are in
    let len : c.len.result ≡ length c.in_ok-rows.rows.items = search rules in
    total_is held.messages d c.len.result c.octets_of.result
    (len ∙ ap (λ (l : List Message). length l) items ∙ length-map message_row (kept_in d held.messages))
    (c.octets_of.ensures (kept_in d held.messages) (c.as_slice.ensures.value ∙ items))

pub returns-clause-looks : goal.returns-clause-looks
returns-clause-looks g c = c.in_ok-rows.ensures.looks

pub returns-in_err-rows-clause-looks : goal.returns-in_err-rows-clause-looks
returns-in_err-rows-clause-looks g c = rw (passed c.from_residual.ensures.1) (c.in_err-rows.ensures.looks)
