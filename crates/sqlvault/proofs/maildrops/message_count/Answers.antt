use Rattle.std.proofs.Common.{◌≡◌, filter, length, min, subst}
use Rattle.vault.specs.Calls.{present_in}
use Rattle.mailsql.specs.Rows.{is_in}
use Rattle.sqlvault.proofs.FrameLemmas.{learnt}
use Rattle.sqlvault.proofs.MaildropLemmas.{present_rows}
use Rattle.sqlvault.proofs.maildrops.message_count.Goals as goal

pub returns : goal.returns
returns g c =
    let text = c.as_bytes.result.now in
    learnt g.S.Store c.args.conn.now c.message_count.new.conn c.message_count.result
    (λ rows n. n ≡ min (length (filter (is_in text) rows.messages)) 9223372036854775807)
    (λ k n. n ≡ min (present_in c.args.name.now k) 9223372036854775807)
    c.message_count.ensures.same c.message_count.ensures.err c.message_count.ensures.survives
    c.message_count.ensures.ok
    (λ rows k n keeps is.
    subst (λ d. n ≡ min (present_in d k) 9223372036854775807) c.as_bytes.ensures.value
    (present_rows rows k text n 9223372036854775807 keeps is))
