use Rattle.std.proofs.Common.{◌≡◌, length, min}
use Rattle.sqlvault.proofs.FrameLemmas.{learnt}
use Rattle.sqlvault.proofs.MaildropLemmas.{count_is}
use Rattle.sqlvault.proofs.maildrops.maildrop_count.Goals as goal

pub returns : goal.returns
returns g c = learnt g.S.Store c.args.conn.now c.maildrop_count.new.conn c.maildrop_count.result
    (λ rows n. n ≡ min (length rows.maildrops) 9223372036854775807)
    (λ k n. n ≡ min (length k.maildrops) 9223372036854775807) c.maildrop_count.ensures.same
    c.maildrop_count.ensures.err c.maildrop_count.ensures.survives c.maildrop_count.ensures.ok
    (λ rows k n keeps is. count_is rows k n 9223372036854775807 keeps is)
