use Rattle.std.proofs.Common.{refl, ap, Ok, Err, Vec, Global}
use Rattle.sqlvault.specs.UnderWay.{Prepared}
use Rattle.sqlvault.proofs.FrameLemmas.{passed}
use Rattle.sqlvault.proofs.AheadLemmas.{done_after, done_refused, looks_after, looks_refused}
use Rattle.sqlvault.proofs.AheadLemmas.{looks_beside, looks_ended, told_ended}
use Rattle.vault.specs.declared.answer.Head.{Head}
use Rattle.vault.specs.declared.fault.VaultFault.TheVariants.{NoMaildrop}
use Rattle.vault.specs.Calls.{AreHeads, heads_result, seen_as}
use Rattle.sqlvault.proofs.BesideLemmas.{told_heads}
use Rattle.sqlvault.proofs.ahead.AheadVault.heads.Goals as goal

pub returns-clause-done : goal.returns-clause-done
returns-clause-done g c k h clean =
    done_after g.S.Store (record { vault = c.heads.new.self; under_way = c.self-2.inside.work })
    (λ Held. AreHeads Held k c.args.maildrop.now (seen_as c.heads.result (λ (v : Vec Head Global). v.items)))
    k c.self-2.view_is c.in_ok-give_up.ensures.looks c.in_ok-give_up.ensures.none refl c.heads.ensures.looks.clean (c.heads.ensures.done k) h clean

pub returns-clause-looks : goal.returns-clause-looks
returns-clause-looks g c =
    looks_after g.S.Store {new = record { vault = c.heads.new.self; under_way = c.self-2.inside.work }}
    c.self-2.view_is c.in_ok-give_up.ensures.looks c.in_ok-give_up.ensures.none refl c.heads.ensures.looks

pub returns-in_err-give_up-clause-looks : goal.returns-in_err-give_up-clause-looks
returns-in_err-give_up-clause-looks g c =
    looks_refused g.S.Store c.from_residual.ensures.1 c.in_err-give_up.ensures.answer c.in_err-give_up.ensures.looks

pub returns-in-Ok-clause-looks : goal.returns-in-Ok-clause-looks
returns-in-Ok-clause-looks g c =
    let r = c.is_beside.ensures c.if-is_beside.true in
    looks_beside g.S.Store {old = c.args.self.now} {new = record { vault = c.look_up_heads.new.self; under_way = c.self.inside.work }}
    c.self.inside.vault r.0 (ap (λ (v : Prepared g.row.S.Denot). v.vault) c.self.view_is) r.1
    (λ db o m. g.met.S.Store.settled c.args.self.now.vault.conn.store db o m) (Ok c.in-Ok.heads)
    (ap (λ (v : Prepared g.row.S.Denot). v.under_way) c.self.view_is) c.in-Ok.ensures.counted c.in-Ok.ensures.sees tt

pub returns-in-Err-NoMaildrop-clause-looks : goal.returns-in-Err-NoMaildrop-clause-looks
returns-in-Err-NoMaildrop-clause-looks g c =
    let r = c.is_beside.ensures c.if-is_beside.true in
    looks_beside g.S.Store {old = c.args.self.now} {new = record { vault = c.look_up_heads.new.self; under_way = c.self.inside.work }}
    c.self.inside.vault r.0 (ap (λ (v : Prepared g.row.S.Denot). v.vault) c.self.view_is) r.1
    (λ db o m. g.met.S.Store.settled c.args.self.now.vault.conn.store db o m) (Err NoMaildrop)
    (ap (λ (v : Prepared g.row.S.Denot). v.under_way) c.self.view_is) (rw c.in-Err-NoMaildrop.field-0-is at c.in-Err-NoMaildrop.ensures.counted)
    (rw c.in-Err-NoMaildrop.field-0-is at c.in-Err-NoMaildrop.ensures.sees) tt

pub returns-in-Err-NoMaildrop-clause-done : goal.returns-in-Err-NoMaildrop-clause-done
returns-in-Err-NoMaildrop-clause-done g c k h clean =
    let r = c.is_beside.ensures c.if-is_beside.true in
    record {
      answer = told_heads g.S.Store {old = c.args.self.now} {new = c.look_up_heads.new.self.conn} c.self.inside.vault r.0 c.args.maildrop.now
          (Err NoMaildrop) (ap (λ (v : Prepared g.row.S.Denot). v.vault) c.self.view_is) r.1 r.2
          (rw c.in-Err-NoMaildrop.field-0-is at c.in-Err-NoMaildrop.ensures.sees) (rw c.in-Err-NoMaildrop.field-0-is at c.in-Err-NoMaildrop.ensures.beside) k h clean;
      held = (returns-in-Err-NoMaildrop-clause-looks g c).held k clean h;
    }

pub returns-in-Err-clause-looks : goal.returns-in-Err-clause-looks
returns-in-Err-clause-looks g c =
    let r = c.is_beside.ensures c.if-is_beside.true in
    looks_ended g.S.Store {old = c.args.self.now} {mid = record { vault = c.look_up_heads.new.self; under_way = c.self.inside.work }}
    {new = c.end_beside.new.self} r.0 c.in-Err.fault c.end_beside.result c.end_beside.ensures
    c.self.inside.vault (ap (λ (v : Prepared g.row.S.Denot). v.vault) c.self.view_is) r.1
    c.in-Err.ensures.counted c.in-Err.ensures.sees
    (λ db o m. g.met.S.Store.settled c.args.self.now.vault.conn.store db o m)

pub returns-in-Ok-clause-done : goal.returns-in-Ok-clause-done
returns-in-Ok-clause-done g c k h clean =
    let r = c.is_beside.ensures c.if-is_beside.true in
    record {
      answer = told_heads g.S.Store {old = c.args.self.now} {new = c.look_up_heads.new.self.conn} c.self.inside.vault r.0 c.args.maildrop.now
          (Ok c.in-Ok.heads.items) (ap (λ (v : Prepared g.row.S.Denot). v.vault) c.self.view_is) r.1 r.2
          c.in-Ok.ensures.sees c.in-Ok.ensures.beside k h clean;
      held = (returns-in-Ok-clause-looks g c).held k clean h;
    }

pub returns-in-Err-clause-done : goal.returns-in-Err-clause-done
returns-in-Err-clause-done g c k h clean =
    let r = c.is_beside.ensures c.if-is_beside.true in
    record {
      answer = told_ended (heads_result c.args.maildrop.now k) c.in-Err.fault c.end_beside.result c.end_beside.ensures.answer
          (told_heads g.S.Store {old = c.args.self.now} {new = c.look_up_heads.new.self.conn} c.self.inside.vault r.0 c.args.maildrop.now
          (Err c.in-Err.fault) (ap (λ (v : Prepared g.row.S.Denot). v.vault) c.self.view_is) r.1 r.2
          c.in-Err.ensures.sees c.in-Err.ensures.beside k h (c.end_beside.ensures.gives_up.clean clean));
      held = (returns-in-Err-clause-looks g c).held k clean h;
    }

pub returns-in_err-give_up-clause-done : goal.returns-in_err-give_up-clause-done
returns-in_err-give_up-clause-done g c =
    rw (passed c.from_residual.ensures.1) (λ k h clean. done_refused g.S.Store k _ _ refl c.in_err-give_up.ensures.answer c.in_err-give_up.ensures.looks h clean)
