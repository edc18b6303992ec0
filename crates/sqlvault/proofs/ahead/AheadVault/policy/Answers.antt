use Rattle.std.proofs.Common.{refl}
use Rattle.vault.specs.Calls.{IsPolicy}
use Rattle.sqlvault.proofs.AheadLemmas.{done_after, done_refused, looks_after, looks_refused}
use Rattle.sqlvault.proofs.ahead.AheadVault.policy.Goals as goal

pub returns-clause-done : goal.returns-clause-done
returns-clause-done g c k h clean =
    done_after g.S.Store (record { vault = c.policy.new.self; under_way = c.self.inside.work })
    (λ Held. IsPolicy Held k c.policy.result)
    k c.self.view_is c.in_ok-give_up.ensures.looks c.in_ok-give_up.ensures.none refl c.policy.ensures.looks.clean (c.policy.ensures.done k) h clean

pub returns-in_err-give_up-clause-done : goal.returns-in_err-give_up-clause-done
returns-in_err-give_up-clause-done g c k h clean =
    done_refused g.S.Store k _ _ c.from_residual.ensures.1 c.in_err-give_up.ensures.answer c.in_err-give_up.ensures.looks h clean

pub returns-clause-looks : goal.returns-clause-looks
returns-clause-looks g c =
    looks_after g.S.Store {new = record { vault = c.policy.new.self; under_way = c.self.inside.work }}
    c.self.view_is c.in_ok-give_up.ensures.looks c.in_ok-give_up.ensures.none refl c.policy.ensures.looks

pub returns-in_err-give_up-clause-looks : goal.returns-in_err-give_up-clause-looks
returns-in_err-give_up-clause-looks g c =
    looks_refused g.S.Store c.from_residual.ensures.1 c.in_err-give_up.ensures.answer c.in_err-give_up.ensures.looks
