use Rattle.std.proofs.Common.{◌≤◌, Some, subst, arith}
use Rattle.std.specs.Bool.{⊤}
use Rattle.sqlvault.specs.Removals.{Removal, with_left}
use Rattle.sqlvault.specs.declared.work.Work.TheVariants as works
use Rattle.sqlvault.specs.UnderWay.{Prepares}
use Rattle.sqlvault.specs.contracts.removal.Removing.{the_view}
use Rattle.sqlvault.proofs.UnderWayLemmas.{prepares_undone}
use Rattle.sqlvault.proofs.RemovalLemmas.{removal_more, piece_then}
use Rattle.sqlvault.proofs.removal.remove_piece.Goals as goal

pub returns-in-Err-clause-prepares : goal.returns-in-Err-clause-prepares
returns-in-Err-clause-prepares g c =
    let it = prepares_undone (works.Removal (the_view c.removing.inside)) c.in-Err.ensures c.undo.ensures.undoes in
    rw c.removing.view_is at it

pub returns-clause-prepares : goal.returns-clause-prepares
returns-clause-prepares g c =
    let from = c.saturating_sub-from.result in
    let low : from ≤ c.removing.inside.left = omega (arith, c.saturating_sub-from.ensures) in
    subst (λ (r : Removal). Prepares g.S.Store c.args.conn.now c.remove_all.new.conn (Some (works.Removal r))
    (Some (works.Removal (with_left from (the_view c.removing.inside)))) ⊤) c.removing.view_is
    (removal_more {store = g.S.Store} {old = c.args.conn.now} {new = c.remove_all.new.conn} (the_view c.removing.inside) _ from
    (rw c.deref.ensures.value (piece_then c.removing.inside.keys.items from c.removing.inside.left low)) c.in-Ok.ensures)
