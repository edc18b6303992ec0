use Rattle.std.proofs.Common.{refl, ap, Ok, Err}
use Rattle.sqlvault.specs.UnderWay.{Prepared}
use Rattle.sqlvault.proofs.FrameLemmas.{passed}
use Rattle.sqlvault.proofs.HoldsLemmas.{refusal_any}
use Rattle.sqlvault.proofs.AheadLemmas.{done_after, looks_after, looks_refused}
use Rattle.sqlvault.proofs.AheadLemmas.{looks_beside, looks_ended, told_ended}
use Rattle.vault.specs.Calls.{IsPaged}
use Rattle.sqlvault.proofs.BesideLemmas.{told_page}
use Rattle.sqlvault.proofs.ahead.AheadVault.page.Goals as goal

pub returns-clause-done : goal.returns-clause-done
returns-clause-done g c k h clean =
    done_after g.S.Store (record { vault = c.page.new.self; under_way = c.self-2.inside.work })
    (λ Held. IsPaged Held k c.args.key c.args.from c.page.new.buffer c.page.result)
    k c.self-2.view_is c.in_ok-give_up.ensures.looks c.in_ok-give_up.ensures.none refl c.page.ensures.looks.clean (c.page.ensures.done k) h clean

pub returns-clause-looks : goal.returns-clause-looks
returns-clause-looks g c =
    looks_after g.S.Store {new = record { vault = c.page.new.self; under_way = c.self-2.inside.work }}
    c.self-2.view_is c.in_ok-give_up.ensures.looks c.in_ok-give_up.ensures.none refl c.page.ensures.looks

pub returns-in_err-give_up-clause-looks : goal.returns-in_err-give_up-clause-looks
returns-in_err-give_up-clause-looks g c =
    looks_refused g.S.Store c.from_residual.ensures.1 c.in_err-give_up.ensures.answer c.in_err-give_up.ensures.looks

pub returns-in-Ok-clause-looks : goal.returns-in-Ok-clause-looks
returns-in-Ok-clause-looks g c =
    let r = c.spares.ensures c.if-spares.true in
    looks_beside g.S.Store {old = c.args.self.now} {new = record { vault = c.look_up_page.new.self; under_way = c.self.inside.work }}
    c.self.inside.vault r.0 (ap (λ (v : Prepared g.row.S.Denot). v.vault) c.self.view_is) r.1
    (λ db o m. g.met.S.Store.settled c.args.self.now.vault.conn.store db o m) (Ok c.in-Ok.count)
    (ap (λ (v : Prepared g.row.S.Denot). v.under_way) c.self.view_is) c.in-Ok.ensures.counted c.in-Ok.ensures.sees tt

pub returns-in-Err-clause-looks : goal.returns-in-Err-clause-looks
returns-in-Err-clause-looks g c =
    let r = c.spares.ensures c.if-spares.true in
    looks_ended g.S.Store {old = c.args.self.now} {mid = record { vault = c.look_up_page.new.self; under_way = c.self.inside.work }}
    {new = c.end_beside.new.self} r.0 c.in-Err.fault c.end_beside.result c.end_beside.ensures
    c.self.inside.vault (ap (λ (v : Prepared g.row.S.Denot). v.vault) c.self.view_is) r.1
    c.in-Err.ensures.counted c.in-Err.ensures.sees
    (λ db o m. g.met.S.Store.settled c.args.self.now.vault.conn.store db o m)

pub returns-in-Ok-clause-done : goal.returns-in-Ok-clause-done
returns-in-Ok-clause-done g c k h clean =
    let r = c.spares.ensures c.if-spares.true in
    record {
      answer = told_page g.S.Store {old = c.args.self.now} {new = c.look_up_page.new.self.conn} c.self.inside.vault r.0 c.args.key c.args.from
          c.look_up_page.new.buffer (Ok c.in-Ok.count) (ap (λ (v : Prepared g.row.S.Denot). v.vault) c.self.view_is) r.1 r.2
          c.in-Ok.ensures.sees c.in-Ok.ensures.beside k h clean;
      held = (returns-in-Ok-clause-looks g c).held k clean h;
    }

pub returns-in-Err-clause-done : goal.returns-in-Err-clause-done
returns-in-Err-clause-done g c k h clean =
    let r = c.spares.ensures c.if-spares.true in
    record {
      answer = told_ended (Ok 0) c.in-Err.fault c.end_beside.result c.end_beside.ensures.answer
          (told_page g.S.Store {old = c.args.self.now} {new = c.look_up_page.new.self.conn} c.self.inside.vault r.0 c.args.key c.args.from
          c.look_up_page.new.buffer (Err c.in-Err.fault) (ap (λ (v : Prepared g.row.S.Denot). v.vault) c.self.view_is) r.1 r.2
          c.in-Err.ensures.sees c.in-Err.ensures.beside k h (c.end_beside.ensures.gives_up.clean clean));
      held = (returns-in-Err-clause-looks g c).held k clean h;
    }

pub returns-in_err-give_up-clause-done : goal.returns-in_err-give_up-clause-done
returns-in_err-give_up-clause-done g c = rw (passed c.from_residual.ensures.1) (λ k h clean. record {
  answer = refusal_any _ c.in_err-give_up.field-0.0 c.in_err-give_up.ensures.answer;
  held = c.in_err-give_up.ensures.looks.held k clean h;
})
