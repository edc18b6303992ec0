use Rattle.std.proofs.Common.{subst}
use Rattle.std.proofs.lemmas.List.{take-append-drop}
use Rattle.vault.specs.Calls.{AreRemoved}
use Rattle.sqlvault.specs.Refusals.{answer_of}
use Rattle.sqlvault.specs.Removals.{Removal}
use Rattle.sqlvault.specs.declared.work.Work.TheVariants as works
use Rattle.sqlvault.specs.UnderWay.{Finishes}
use Rattle.sqlvault.specs.contracts.removal.Removing.{the_view}
use Rattle.sqlvault.proofs.RemovalLemmas.{finishes_concluded}
use Rattle.sqlvault.proofs.removal.finish_removal.Goals as goal

pub returns : goal.returns
returns g c = subst (λ (r : Removal). Finishes g.S.Store c.args.conn.now c.conclude.new.conn (works.Removal r)
    (λ k Held answered. AreRemoved Held k r.maildrop r.keys answered) (answer_of c.conclude.result)) c.removing.view_is
    (finishes_concluded {store = g.S.Store} {old = c.args.conn.now} {new = c.conclude.new.conn} (the_view c.removing.inside) _
    c.remove_all-removed.result c.conclude.result
    (rw c.deref.ensures.value (take-append-drop c.removing.inside.left c.removing.inside.keys.items))
    c.remove_all-removed.ensures c.conclude.ensures)
