use Rattle.std.proofs.Common.{◌≡◌, length, min}
use Rattle.sqlvault.proofs.FrameLemmas.{learnt}
use Rattle.sqlvault.proofs.ClerkLemmas.{count_is}
use Rattle.sqlvault.proofs.clerks.clerk_count.Goals as goal

pub returns : goal.returns
returns g c = learnt g.S.Store c.args.conn.now c.clerk_count.new.conn c.clerk_count.result
    (λ rows n. n ≡ min (length rows.clerks) 9223372036854775807)
    (λ k n. n ≡ min (length k.clerks) 9223372036854775807) c.clerk_count.ensures.same
    c.clerk_count.ensures.err c.clerk_count.ensures.survives c.clerk_count.ensures.ok
    (λ rows k n keeps is. count_is rows k n 9223372036854775807 keeps is)
