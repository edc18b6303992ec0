use Rattle.std.proofs.Common.{ℤ, to_z, of_z, SFits, w64, arith, rules, ap, ◌∙◌, pos}
use Rattle.std.proofs.lemmas.Int.{to_z_pos}
use Rattle.mailsql.specs.Rows.{Rows}
use Rattle.mailsql.specs.Changes.{AddsMessage, Arrives, AddsSheets, AddsSomeSheets}
use Rattle.sqlvault.specs.Deposits.{PutsMessage, message_of}
use Rattle.sqlvault.proofs.DepositLemmas.{message_put}
use Rattle.sqlvault.proofs.FrameLemmas.{wrote, unwritten, written_in, writes_then, passed}
use Rattle.sqlvault.proofs.deposit.put_message.Goals as goal

pub returns-in_err-key : goal.returns-in_err-key
returns-in_err-key g c = rw (passed c.from_residual.ensures.1)
    (unwritten g.S.Store c.args.conn.now c.add_message.new.conn _ (Arrives c.as_bytes.result.now c.as_bytes-2.result.now (to_z w64 c.args.receipt.now.k)
    (to_z w64 c.octets-octets.result)) c.in_err-key.field-0.0
    c.in_err-key.ensures.err c.add_message.ensures.survives)

pub returns : goal.returns
returns g c =
    let d = c.as_bytes.result.now in
    let class = c.as_bytes-2.result.now in
    let bytes = c.bytes.result.now in
    let key = c.in_ok-key.key in
    let k = to_z w64 c.args.receipt.now.k in
    let octets = to_z w64 c.octets-octets.result in
    let within = c.octets-octets.ensures.kept.within in
    let fits : SFits w64 key = search rules in
    let First : ℤ → Rows → Rows → Type 0 =
    λ x. AddsMessage (record { key = x; maildrop = d; class = class; k = k; octets = octets })
    in
    let Second : Rows → Rows → Type 0 = AddsSheets (to_z w64 (of_z w64 key)) bytes in
    writes_then First Second (PutsMessage (message_of c.args.receipt.now c.args.text.now)) key
    c.add_sheets.result
    (wrote g.S.Store c.args.conn.now c.add_message.new.conn First (Arrives d class k octets) key c.in_ok-key.ensures.ok c.add_message.ensures.survives)
    (written_in g.S.Store c.add_message.new.conn c.add_sheets.new.conn Second
    (AddsSomeSheets (to_z w64 (of_z w64 key)) bytes) c.add_sheets.result c.add_sheets.ensures.ok
    c.add_sheets.ensures.err c.add_sheets.ensures.survives)
    (λ from mid to a b. message_put c.args.receipt.now c.args.text.now d class bytes key k octets
    from mid to fits c.as_bytes.ensures.value c.as_bytes-2.ensures.value
    (to_z_pos w64 c.args.receipt.now.k (omega arith))
    (to_z_pos w64 c.octets-octets.result (omega arith) ∙ ap pos c.octets-octets.ensures.value)
    c.bytes.ensures.value a b)
