use Rattle.std.specs.Prelude.{⊤}
use Rattle.std.proofs.Common.{◌≡◌, ap, ◌∙◌}
use Rattle.vault.specs.Records.{is_one_of}
use Rattle.mailsql.specs.Rows.{has_name}
use Rattle.sqlvault.proofs.SeesLemmas.{sees_learnt}
use Rattle.sqlvault.proofs.MaildropLemmas.{there_is}
use Rattle.sqlvault.proofs.PartRowLemmas.{maildrops_of_part}
use Rattle.sqlvault.proofs.TellsLemmas.{tells_learnt}
use Rattle.sqlvault.proofs.maildrops.find_maildrop.Goals as goal

pub returns-clause-sees : goal.returns-clause-sees
returns-clause-sees g c =
    let text = c.as_bytes.result.now in
    sees_learnt g.S.Store c.args.conn.now c.has_maildrop.new.conn c.has_maildrop.result
    (λ rows there. there ≡ has_name text rows.maildrops)
    (λ k there. there ≡ is_one_of c.args.name.now k.maildrops) c.has_maildrop.ensures.same
    (λ clean _. c.has_maildrop.ensures.err clean) c.has_maildrop.ensures.survives
    c.has_maildrop.ensures.ok
    (λ rows k there keeps is. is ∙ there_is rows k text keeps ∙ ap (λ n. is_one_of n k.maildrops) c.as_bytes.ensures.value)

pub returns-clause-beside : goal.returns-clause-beside
returns-clause-beside g c =
    tells_learnt g.S.Store c.args.conn.now c.has_maildrop.new.conn c.has_maildrop.result (λ _. ⊤)
    (λ rows there. there ≡ has_name c.as_bytes.result.now rows.maildrops)
    (λ k there. there ≡ is_one_of c.args.name.now k.maildrops) c.has_maildrop.ensures.ok
    (λ a k rows part there spared is. is ∙ ap (has_name c.as_bytes.result.now) (maildrops_of_part a k rows part)
    ∙ there_is part.before k c.as_bytes.result.now part.keeps
    ∙ ap (λ n. is_one_of n k.maildrops) c.as_bytes.ensures.value)
