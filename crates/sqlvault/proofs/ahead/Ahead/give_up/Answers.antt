use Rattle.std.proofs.Common.{Ok, Some, None, sym, ap, ◌∙◌, refl}
use Rattle.sqlvault.specs.UnderWay.{Prepared}
use Rattle.sqlvault.proofs.UnderWayLemmas.{prepares_none, prepares_given_up}
use Rattle.sqlvault.proofs.AheadLemmas.{looks_prepared, counts_none}
use Rattle.sqlvault.proofs.ahead.Ahead.give_up.Goals as goal

pub returns-in-None-clause-looks : goal.returns-in-None-clause-looks
returns-in-None-clause-looks g c =
    looks_prepared g.S.Store {old = c.args.self.now} {new = record { vault = c.self.inside.vault; under_way = c.take.new.self }}
    c.self.inside.vault None None (Ok tt) (ap (λ (v : Prepared g.row.S.Denot). v.vault) c.self.view_is)
    (sym (ap (λ (v : Prepared g.row.S.Denot). v.under_way) c.self.view_is) ∙ sym c.in-None.ensures.value)
    c.in-None.ensures.after (counts_none c.self.inside.vault.faults tt)
    (prepares_none g.S.Store c.self.inside.vault.conn None refl) (λ db o m. g.met.S.Store.settled c.args.self.now.vault.conn.store db o m)

pub returns-in-Some-clause-looks : goal.returns-in-Some-clause-looks
returns-in-Some-clause-looks g c =
    looks_prepared g.S.Store {old = c.args.self.now} {new = record { vault = c.give_up.new.self; under_way = c.take.new.self }}
    c.self.inside.vault (Some c.in-Some.gone) None c.give_up.result
    (ap (λ (v : Prepared g.row.S.Denot). v.vault) c.self.view_is)
    (sym (ap (λ (v : Prepared g.row.S.Denot). v.under_way) c.self.view_is) ∙ sym c.in-Some.ensures.value)
    c.in-Some.ensures.after c.give_up.ensures.counted
    (prepares_given_up c.in-Some.gone c.give_up.ensures.gives_up)
    (λ db o m. g.met.S.Store.settled c.args.self.now.vault.conn.store db o m)
