use Rattle.std.proofs.Common.{◌≡◌, ◌∙◌, subst}
use Rattle.std.specs.Prelude.{filter}
use Rattle.mailsql.specs.Rows.{is_in}
use Rattle.sqlvault.specs.RowForms.{AreMailRows}
use Rattle.sqlvault.proofs.SeesLemmas.{sees_learnt}
use Rattle.sqlvault.proofs.HeadLemmas.{have_rows}
use Rattle.sqlvault.proofs.PartRowLemmas.{messages_of_others}
use Rattle.sqlvault.proofs.TellsLemmas.{tells_learnt}
use Rattle.sqlvault.proofs.mail.find_rows.Goals as goal

pub returns-clause-sees : goal.returns-clause-sees
returns-clause-sees g c =
    let d = c.args.maildrop.now in
    sees_learnt g.S.Store c.args.conn.now c.heads.new.conn c.heads.result (λ rows shown. shown.items ≡ filter (is_in c.as_bytes.result.now) rows.messages)
    (λ k shown. AreMailRows d k shown.items) c.heads.ensures.same c.heads.ensures.err
    c.heads.ensures.survives c.heads.ensures.ok
    (λ rows k shown keeps is. have_rows d k rows shown.items keeps
    (subst (λ n. shown.items ≡ filter (is_in n) rows.messages) c.as_bytes.ensures.value is))

pub returns-clause-beside : goal.returns-clause-beside
returns-clause-beside g c =
    tells_learnt g.S.Store c.args.conn.now c.heads.new.conn c.heads.result _
    (λ rows shown. shown.items ≡ filter (is_in c.as_bytes.result.now) rows.messages)
    (λ k shown. AreMailRows c.args.maildrop.now k shown.items) c.heads.ensures.ok
    (λ a k rows part shown spared is. have_rows c.args.maildrop.now k part.before shown.items part.keeps
    (subst (λ n. shown.items ≡ filter (is_in n) rows.messages) c.as_bytes.ensures.value is
    ∙ messages_of_others a k rows part c.args.maildrop.now spared))
