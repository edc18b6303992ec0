use Rattle.std.proofs.Common.{Ok, Err, Some, None, refl}
use Rattle.sqlvault.specs.declared.work.Work.TheVariants as works
use Rattle.sqlvault.proofs.AheadLemmas.{looks_from, looks_then_in, looks_prepared, looks_refused}
use Rattle.sqlvault.proofs.ahead.AheadVault.prepare_removal.Goals as goal

pub returns-in-Some-clause-looks : goal.returns-in-Some-clause-looks
returns-in-Some-clause-looks g c =
    looks_prepared g.S.Store {old = c.args.self.now} {new = c.go_on.new.self} c.take_removal.new.self.vault
    (Some (works.Removal c.in-Some.removing)) c.go_on.new.self.under_way c.go_on.result c.in-Some.ensures.same
    c.in-Some.ensures.taken.0 refl c.go_on.ensures.counted (c.go_on.ensures.prepares c.in-Some.ensures.taken.1)
    (λ db o m. g.met.S.Store.settled c.args.self.now.vault.conn.store db o m)

pub returns-clause-looks : goal.returns-clause-looks
returns-clause-looks g c =
    looks_then_in g.S.Store
    (looks_from g.S.Store (Ok c.in_ok-give_up.field-0) c.in_default.ensures.none c.in_ok-give_up.ensures.looks)
    (looks_prepared g.S.Store {old = c.give_up.new.self} {new = c.start.new.self} c.give_up.new.self.vault
    None c.start.new.self.under_way c.start.result refl
    c.in_ok-give_up.ensures.none refl c.start.ensures.counted (c.start.ensures.prepares c.in_ok-give_up.ensures.none)
    (λ db o m. g.met.S.Store.settled c.give_up.new.self.vault.conn.store db o m))

pub returns-in_err-give_up-clause-looks : goal.returns-in_err-give_up-clause-looks
returns-in_err-give_up-clause-looks g c =
    looks_refused g.S.Store c.from_residual.ensures.1 c.in_err-give_up.ensures.answer
    (looks_from g.S.Store (Err c.in_err-give_up.field-0.0) c.in_default.ensures.none c.in_err-give_up.ensures.looks)
