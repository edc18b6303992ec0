use Rattle.sqlvault.proofs.AheadLemmas.{ended_by, ended_over}
use Rattle.sqlvault.proofs.ahead.Ahead.end_beside.Goals as goal

pub returns : goal.returns
returns g c =
    ended_by g.S.Store (record { vault = c.self.inside.vault; under_way = c.self.inside.work }) (record { vault = c.give_up.new.self; under_way = c.take-gone.new.self })
    c.args.fault c.self.view_is c.take-gone.ensures.after
    c.in-Ok.ensures.gives_up c.in-Ok.ensures.counted

pub returns-in-Err : goal.returns-in-Err
returns-in-Err g c =
    ended_over g.S.Store (record { vault = c.self.inside.vault; under_way = c.self.inside.work })
    (record { vault = c.give_up.new.self; under_way = c.take-gone.new.self })
    c.args.fault c.in-Err.other c.self.view_is c.take-gone.ensures.after
    c.in-Err.ensures.gives_up c.in-Err.ensures.counted c.in-Err.ensures.answer
