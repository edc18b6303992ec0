use Rattle.sqlite.specs.declared.error.Error.{Error}
use Rattle.sqlvault.specs.Frame.{Writes}
use Rattle.sqlvault.specs.Arrivals.{AddsRow}
use Rattle.std.proofs.Common.{◌≡◌, sym, length, Result, to_z-of_z, ℕ, ℤ, to_z, of_z, SFits, w64, arith, rules, ap, ◌∙◌, pos, Ok, subst}
use Rattle.std.proofs.lemmas.Int.{to_z_pos}
use Rattle.mailsql.specs.Rows.{Rows}
use Rattle.mailsql.specs.Changes.{AddsMessage, Arrives}
use Rattle.sqlvault.proofs.ComingLemmas.{row_put, row_written}
use Rattle.sqlvault.proofs.FrameLemmas.{wrote, unwritten, passed}
use Rattle.sqlvault.proofs.coming.add_row.Goals as goal

pub returns-in_err-key : goal.returns-in_err-key
returns-in_err-key g c = rw (passed c.from_residual.ensures.1) (unwritten g.S.Store c.args.conn.now c.add_message.new.conn _
    (Arrives c.as_bytes.result.now c.as_bytes-2.result.now (to_z w64 c.args.k) (to_z w64 c.octets-octets.result)) c.in_err-key.field-0.0
    c.in_err-key.ensures.err c.add_message.ensures.survives)

pub returns : goal.returns
returns g c =
    let d = c.as_bytes.result.now in
    let class = c.as_bytes-2.result.now in
    let key = c.in_ok-key.key in
    let k = to_z w64 c.args.k in
    let octets = to_z w64 c.octets-octets.result in
    let within = c.octets-octets.ensures.kept.within in
    let fits : SFits w64 key = search rules in
    let First : ℤ → Rows → Rows → Type 0 =
    λ x. AddsMessage (record { key = x; maildrop = d; class = class; k = k; octets = octets }) in
    let is : c.cast_unsigned.result ≡ of_z w64 key = simp (to_z-of_z fits) at c.cast_unsigned.ensures in
    subst (λ (n : ℕ). let r : Result ℕ Error = Ok n in
    Writes g.S.Store c.args.conn.now c.add_message.new.conn (λ x. AddsRow x c.args.maildrop.now c.args.class.now c.args.k (length c.args.text.now)) r) (sym is)
    (row_written {store = g.S.Store} {old = c.args.conn.now} {new = c.add_message.new.conn} key (of_z w64 key)
    (wrote g.S.Store c.args.conn.now c.add_message.new.conn First (Arrives d class k octets) key c.in_ok-key.ensures.ok c.add_message.ensures.survives)
    (λ from to it. row_put c.args.maildrop.now c.args.class.now c.args.k (length c.args.text.now) key k octets d class from to fits c.as_bytes.ensures.value c.as_bytes-2.ensures.value
    (to_z_pos w64 c.args.k (omega arith)) (to_z_pos w64 c.octets-octets.result (omega arith) ∙ ap pos c.octets-octets.ensures.value) it))
