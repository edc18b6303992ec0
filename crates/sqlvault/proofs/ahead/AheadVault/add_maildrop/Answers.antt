use Rattle.std.proofs.Common.{refl}
use Rattle.vault.specs.Calls.{IsMaildropAdded}
use Rattle.sqlvault.proofs.AheadLemmas.{done_after, done_refused, commits_after, commits_refused}
use Rattle.sqlvault.proofs.ahead.AheadVault.add_maildrop.Goals as goal

pub returns-clause-done : goal.returns-clause-done
returns-clause-done g c k h clean =
    done_after g.S.Store (record { vault = c.add_maildrop.new.self; under_way = c.self.inside.work })
    (λ Held. IsMaildropAdded Held k c.args.maildrop.now c.add_maildrop.result)
    k c.self.view_is c.in_ok-give_up.ensures.looks c.in_ok-give_up.ensures.none refl c.add_maildrop.ensures.commits.clean (c.add_maildrop.ensures.done k) h clean

pub returns-in_err-give_up-clause-done : goal.returns-in_err-give_up-clause-done
returns-in_err-give_up-clause-done g c k h clean =
    done_refused g.S.Store k _ _ c.from_residual.ensures.1 c.in_err-give_up.ensures.answer c.in_err-give_up.ensures.looks h clean

pub returns-clause-commits : goal.returns-clause-commits
returns-clause-commits g c =
    commits_after g.S.Store {new = record { vault = c.add_maildrop.new.self; under_way = c.self.inside.work }}
    _ c.self.view_is c.in_ok-give_up.ensures.looks c.in_ok-give_up.ensures.none c.add_maildrop.ensures.commits

pub returns-in_err-give_up-clause-commits : goal.returns-in_err-give_up-clause-commits
returns-in_err-give_up-clause-commits g c =
    commits_refused g.S.Store _ c.from_residual.ensures.1 c.in_err-give_up.ensures.answer c.in_err-give_up.ensures.looks
