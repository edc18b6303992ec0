use Rattle.std.proofs.Common.{refl, Vec, Global}
use Rattle.vault.specs.declared.answer.Head.{Head}
use Rattle.vault.specs.Calls.{heads_result, seen_as}
use Rattle.sqlvault.proofs.CallLemmas.{looks_over}
use Rattle.sqlvault.proofs.SeesLemmas.{sees_looks, sees_done}
use Rattle.sqlvault.proofs.sql_vault.SqlVaultVault.heads.Goals as goal

pub returns-clause-done : goal.returns-clause-done
returns-clause-done g c k h clean =
    sees_done (heads_result c.args.maildrop.now)
    (seen_as c.look_up_heads.result (λ (v : Vec Head Global). v.items))
    c.look_up_heads.ensures.sees k clean h

pub returns-clause-looks : goal.returns-clause-looks
returns-clause-looks g c =
    looks_over g.S.Store c.look_up_heads.result refl refl c.look_up_heads.ensures.counted
    (sees_looks c.look_up_heads.ensures.sees)
    (λ db o m. g.met.S.Store.settled c.args.self.now.conn.store db o m)
