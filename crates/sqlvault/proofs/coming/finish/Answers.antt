use Rattle.std.proofs.Common.{◌/◌, length, sym, subst, Result, Ok, Err}
use Rattle.creds.specs.declared.uid.Uid.{Uid}
use Rattle.vault.specs.Calls.{IsDeposited}
use Rattle.sqlvault.specs.UnderWay.{Finishes}
use Rattle.sqlvault.specs.declared.refusal.Refusal.{Refusal}
use Rattle.sqlvault.specs.declared.work.Work.TheVariants as works
use Rattle.sqlvault.specs.Arrivals.{arrival_uid}
use Rattle.sqlvault.specs.Transactions.{Concludes}
use Rattle.sqlvault.proofs.FrameLemmas.{passed}
use Rattle.sqlvault.proofs.ComingLemmas.{coming_concluded, put_written, whole_of, deposited_as}
use Rattle.sqlvault.proofs.coming.finish.Given.{Over}
use Rattle.sqlvault.proofs.coming.finish.Goals.{After-conclude}
use Rattle.sqlvault.proofs.coming.finish.Goals as goal

-- the deposit is finished, as its transaction is concluded
finishes : (g : Over) (c : After-conclude g) (said : Result (Unit {0}) Refusal)
    → Concludes g.S.Store c.put_rest-put.new.conn c.conclude.new.conn c.put_rest-put.result said
    → Finishes g.S.Store c.args.conn.now c.conclude.new.conn (works.Deposit c.args.coming)
    (λ k Held answered. IsDeposited Held k c.args.coming.maildrop c.args.coming.class c.args.coming.id c.args.text.now answered)
    (deposited_as (arrival_uid c.args.coming) said)
finishes g c said it =
    let a = c.args.coming in
    let text = c.args.text.now in
    let r = c.into_receipt-receipt.result in
    let f = c.into_receipt-receipt.ensures in
    let whole = whole_of a text c.bytes.result.now r c.bytes.ensures.value c.bytes.ensures.kept c.requires.begins c.requires.sized
    c.sheets-from.ensures.whole f.value f.maildrop_form f.id_form f.class_form f.sized in
    coming_concluded {store = g.S.Store} {old = c.args.conn.now} {last = c.put_rest-put.new.conn} {new = c.conclude.new.conn} a text r
    c.put_rest-put.result said whole
    (put_written c.sheets-from.result (length a.put / 4096) c.key-key.result a.key c.bytes-2.result.now text r c.put_rest-put.result
    c.sheets-from.ensures.value c.key-key.ensures c.bytes-2.ensures.value c.put_rest-put.ensures)
    it

pub returns-in_err-conclude : goal.returns-in_err-conclude
returns-in_err-conclude g c = rw (passed c.from_residual.ensures.1)
    (finishes g (goal.at.returns-in_err-conclude g c).After-conclude (Err c.in_err-conclude.field-0.0) c.in_err-conclude.ensures)

pub returns : goal.returns
returns g c =
    let a = c.args.coming in
    subst (λ (u : Uid). Finishes g.S.Store c.args.conn.now c.conclude.new.conn (works.Deposit a)
    (λ k Held answered. IsDeposited Held k a.maildrop a.class a.id c.args.text.now answered) (deposited_as u (Ok c.in_ok-conclude.field-0)))
    (sym c.uid-uid.ensures)
    (finishes g (goal.at.returns g c).After-conclude (Ok c.in_ok-conclude.field-0) c.in_ok-conclude.ensures)
