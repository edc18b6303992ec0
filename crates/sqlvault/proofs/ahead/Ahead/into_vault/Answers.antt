use Rattle.sqlvault.proofs.AheadLemmas.{given_back, given_back_clean, given_back_counted}
use Rattle.sqlvault.proofs.ahead.Ahead.into_vault.Goals as goal

pub returns-clause-held : goal.returns-clause-held
returns-clause-held g c =
    given_back g.S.Store c.give_up.result c.ahead.view_is c.give_up.ensures.looks c.give_up.ensures.none

pub returns-clause-clean : goal.returns-clause-clean
returns-clause-clean g c =
    given_back_clean g.S.Store c.give_up.result c.ahead.view_is c.give_up.ensures.looks

pub returns-clause-counted : goal.returns-clause-counted
returns-clause-counted g c =
    given_back_counted g.S.Store c.give_up.result c.ahead.view_is c.give_up.ensures.looks
