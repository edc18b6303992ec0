use Rattle.std.proofs.Common.{ℕ, Result, Ok, sym, subst, ap}
use Rattle.std.specs.Prelude.{Option}
use Rattle.creds.specs.declared.uid.Uid.{Uid}
use Rattle.sqlite.specs.declared.error.Error.{Error}
use Rattle.sqlvault.specs.declared.refusal.Refusal.{Refusal}
use Rattle.sqlvault.specs.Frame.{Writes}
use Rattle.sqlvault.specs.Arrivals.{AddsRow}
use Rattle.sqlvault.proofs.FrameLemmas.{looks_then, looks_undone, unbegun, passed}
use Rattle.sqlvault.proofs.UnderWayLemmas.{prepares_look}
use Rattle.sqlvault.proofs.ComingLemmas.{coming_begun, own_uid}
use Rattle.sqlvault.proofs.coming.start.Goals as goal

pub returns-in_err-uid-clause-prepares : goal.returns-in_err-uid-clause-prepares
returns-in_err-uid-clause-prepares g c = rw (passed c.from_residual.ensures.1) (prepares_look c.in_err-uid.ensures.looks)

pub returns-in_err-begin-clause-prepares : goal.returns-in_err-begin-clause-prepares
returns-in_err-begin-clause-prepares g c = rw (passed c.from_residual-in_err-begin.ensures.1)
    (prepares_look (looks_then c.in_ok-uid.ensures.looks (unbegun c.in_err-begin.ensures)))

pub returns-in-Err-clause-prepares : goal.returns-in-Err-clause-prepares
returns-in-Err-clause-prepares g c =
    prepares_look (looks_then c.in_ok-uid.ensures.looks (looks_undone c.in_ok-begin.ensures c.in-Err.ensures c.undo.ensures.undoes))

pub returns-in-Ok-add_row-clause-prepares : goal.returns-in-Ok-add_row-clause-prepares
returns-in-Ok-add_row-clause-prepares g c =
    coming_begun {store = g.S.Store} {old = c.args.conn.now} {mid = c.judge.new.conn} {first = c.begin.new.conn} {new = c.add_row.new.conn} _ c.in-Ok.ensures.items
    c.in_ok-uid.ensures.looks c.in_ok-begin.ensures
    (subst (λ (n : ℕ). let r : Result ℕ Error = Ok c.in-Ok-add_row.key in
    Writes g.S.Store c.begin.new.conn c.add_row.new.conn (λ key. AddsRow key c.args.maildrop.now c.args.class.now c.in-Some.uid.k n) r) (sym c.octets-octets.ensures.value) c.in-Ok-add_row.ensures)
    (λ clean k h. own_uid k c.args.maildrop.now c.args.class.now c.args.id.now c.in-Some.uid
    (c.in_ok-uid.ensures.accepted k c.in-Some.uid clean h (ap (λ (o : Option Uid). let r : Result (Option Uid) Refusal = Ok o in r) c.in-Some.is)))
