use Rattle.std.proofs.Common.{ℕ, List, ap, Vec, Global}
use Rattle.vault.specs.Calls.{seen_as}
use Rattle.sqlvault.specs.Clerks.{AreClerks}
use Rattle.sqlvault.specs.Opened.{Opened}
use Rattle.sqlvault.proofs.FrameLemmas.{looks_told}
use Rattle.sqlvault.proofs.StopLemmas.{done_by}
use Rattle.sqlvault.proofs.sql_vault.SqlVault.clerk_names.Goals as goal

pub returns-clause-done : goal.returns-clause-done
returns-clause-done g c k h clean =
    done_by g.S.Store (λ Held a. AreClerks Held k (seen_as a (λ (v : Vec (List ℕ) Global). v.items)))
    c.args.self.now.conn c.self.inside.conn c.told.new.self.conn c.clerk_names-answer.new.conn k
    c.told.result _ (ap (λ (o : Opened g.row.S.Denot). o.conn) c.self.view_is)
    c.told.ensures.conn c.told.ensures.answer (c.clerk_names-answer.ensures.done k) h clean

pub returns-clause-looks : goal.returns-clause-looks
returns-clause-looks g c =
    looks_told g.S.Store c.args.self.now.conn c.self.inside.conn c.told.new.self.conn
    c.clerk_names-answer.new.conn c.clerk_names-answer.result c.told.result
    (ap (λ (o : Opened g.row.S.Denot). o.conn) c.self.view_is)
    c.told.ensures.conn c.told.ensures.answer c.clerk_names-answer.ensures.looks
