use Rattle.std.proofs.Common.{sym, ◌∙◌}
use Rattle.sqlvault.proofs.AheadLemmas.{looks_from, looks_inside, none_under}
use Rattle.sqlvault.proofs.ahead.AheadVault.maintain.Goals as goal

pub returns-clause-looks : goal.returns-clause-looks
returns-clause-looks g c =
    let none = none_under (record { vault = c.self.inside.vault; under_way = c.self.inside.work })
    (sym c.is_some.ensures ∙ c.if-is_some.false) in
    looks_from g.S.Store c.maintain.result c.self.view_is (looks_inside g.S.Store
    {was = record { vault = c.self.inside.vault; under_way = c.self.inside.work }}
    {new = record { vault = c.maintain.new.self; under_way = c.self.inside.work }}
    none none c.maintain.ensures.looks)
