use Rattle.std.proofs.Common.{ap}
use Rattle.std.proofs.Common.{Vec, Global}
use Rattle.vault.specs.declared.answer.ClerkKind.{ClerkKind}
use Rattle.vault.specs.Calls.{seen_as}
use Rattle.vault.specs.Clerks.{AreClerkKinds}
use Rattle.sqlvault.specs.Opened.{Opened}
use Rattle.sqlvault.proofs.StopLemmas.{done_by}
use Rattle.sqlvault.proofs.CallLemmas.{looks_call}
use Rattle.sqlvault.proofs.sql_vault.SqlVaultVault.clerks.Goals as goal

pub returns-clause-done : goal.returns-clause-done
returns-clause-done g c k h clean =
    done_by g.S.Store (λ Held a. AreClerkKinds Held k (seen_as a (λ (v : Vec ClerkKind Global). v.items)))
    c.args.self.now.conn c.self.inside.conn c.told.new.self.conn c.list_clerks-answer.new.conn k
    c.told.result _ (ap (λ (o : Opened g.row.S.Denot). o.conn) c.self.view_is)
    c.told.ensures.conn c.told.ensures.answer (c.list_clerks-answer.ensures.done k) h clean

pub returns-clause-looks : goal.returns-clause-looks
returns-clause-looks g c =
    looks_call g.S.Store c.list_clerks-answer.new.conn c.list_clerks-answer.result c.told.result
    c.self.view_is c.told.ensures.conn c.told.ensures.answer c.told.ensures.counted
    c.list_clerks-answer.ensures.looks
    (λ db o m. g.met.S.Store.settled c.args.self.now.conn.store db o m)
