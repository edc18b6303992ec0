use Rattle.std.proofs.Common.{refl}
use Rattle.sqlvault.proofs.CallLemmas.{looks_over}
use Rattle.sqlvault.proofs.SeesLemmas.{sees_looks}
use Rattle.sqlvault.proofs.sql_vault.SqlVaultVault.page.Goals as goal

pub returns-clause-done : goal.returns-clause-done
returns-clause-done g c k h clean = record {
  answer = c.look_up_page.ensures.sees.told clean h.tables k h.rows;
  held = ((sees_looks c.look_up_page.ensures.sees).rests clean k h).held;
}

pub returns-clause-looks : goal.returns-clause-looks
returns-clause-looks g c =
    looks_over g.S.Store c.look_up_page.result refl refl c.look_up_page.ensures.counted
    (sees_looks c.look_up_page.ensures.sees)
    (λ db o m. g.met.S.Store.settled c.args.self.now.conn.store db o m)
