use Rattle.std.proofs.Common.{ℤ, to_z, of_z, to_z-of_z, w64, SFits, ◌≡◌, ◌∙◌, rules, subst}
use Rattle.mailsql.specs.Changes.{AddsRest, AddsSomeRest}
use Rattle.sqlvault.specs.Keeps.{row_key}
use Rattle.sqlvault.specs.Frame.{Writes}
use Rattle.sqlvault.proofs.FrameLemmas.{written_in}
use Rattle.sqlvault.proofs.coming.add_rest.Goals as goal

pub returns : goal.returns
returns g c =
    let fits : SFits w64 c.cast_signed-mail.result = search rules in
    let asked = to_z w64 (of_z w64 c.cast_signed-mail.result) in
    let is : asked ≡ row_key c.args.key = to_z-of_z fits ∙ c.cast_signed-mail.ensures in
    subst (λ (m : ℤ). Writes g.S.Store c.args.conn.now c.add_rest.new.conn
    (λ (_ : Unit {0}). AddsRest c.args.from m c.args.text.now) c.add_rest.result) is
    (written_in g.S.Store c.args.conn.now c.add_rest.new.conn (AddsRest c.args.from asked c.args.text.now)
    (AddsSomeRest c.args.from asked c.args.text.now) c.add_rest.result c.add_rest.ensures.ok
    c.add_rest.ensures.err c.add_rest.ensures.survives)
