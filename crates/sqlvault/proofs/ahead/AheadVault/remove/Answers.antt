use Rattle.std.proofs.Common.{Ok, Err, ap, ◌∙◌, refl}
use Rattle.vault.specs.Calls.{AreRemoved}
use Rattle.sqlvault.specs.UnderWay.{Prepared}
use Rattle.sqlvault.proofs.AheadLemmas.{looks_from, done_after, done_refused, commits_after, commits_refused}
use Rattle.sqlvault.proofs.AheadLemmas.{finish_done, finish_commits, of_these}
use Rattle.sqlvault.proofs.ahead.AheadVault.remove.Goals as goal

pub returns-in-Some-clause-done : goal.returns-in-Some-clause-done
returns-in-Some-clause-done g c =
    finish_done g.S.Store c.args.self.now (record { vault = c.finish_removal.new.self; under_way = c.self.inside.work })
    c.self.inside.vault c.in-Some.removing c.args.maildrop.now c.args.keys.now c.finish_removal.result
    (ap (λ (v : Prepared g.row.S.Denot). v.vault) c.self.view_is ∙ c.in-Some.ensures.same) c.in-Some.ensures.taken.0
    (ap (λ (v : Prepared g.row.S.Denot). v.under_way) c.self.view_is ∙ c.in-Some.ensures.taken.1)
    (of_these g.S.Store c.in-Some.removing c.args.maildrop.now c.args.keys.now c.finish_removal.result c.in-Some.ensures.taken.2 c.in-Some.ensures.taken.3 c.finish_removal.ensures.finishes)

pub returns-in-Some-clause-commits : goal.returns-in-Some-clause-commits
returns-in-Some-clause-commits g c =
    finish_commits g.S.Store {old = c.args.self.now} {new = record { vault = c.finish_removal.new.self; under_way = c.self.inside.work }}
    c.self.inside.vault c.in-Some.removing c.args.maildrop.now c.args.keys.now c.finish_removal.result
    (ap (λ (v : Prepared g.row.S.Denot). v.vault) c.self.view_is ∙ c.in-Some.ensures.same) c.in-Some.ensures.taken.0
    c.finish_removal.ensures.counted
    (of_these g.S.Store c.in-Some.removing c.args.maildrop.now c.args.keys.now c.finish_removal.result
    c.in-Some.ensures.taken.2 c.in-Some.ensures.taken.3 c.finish_removal.ensures.finishes)

pub returns-clause-done : goal.returns-clause-done
returns-clause-done g c k h clean =
    done_after g.S.Store (record { vault = c.remove.new.self; under_way = c.self-2.inside.work })
    (λ Held. AreRemoved Held k c.args.maildrop.now c.args.keys.now c.remove.result)
    k c.self-2.view_is (looks_from g.S.Store (Ok c.in_ok-give_up.field-0) c.in_default.ensures.none c.in_ok-give_up.ensures.looks)
    c.in_ok-give_up.ensures.none refl c.remove.ensures.commits.clean (c.remove.ensures.done k) h clean

pub returns-clause-commits : goal.returns-clause-commits
returns-clause-commits g c =
    commits_after g.S.Store {new = record { vault = c.remove.new.self; under_way = c.self-2.inside.work }}
    _ c.self-2.view_is (looks_from g.S.Store (Ok c.in_ok-give_up.field-0) c.in_default.ensures.none c.in_ok-give_up.ensures.looks)
    c.in_ok-give_up.ensures.none c.remove.ensures.commits

pub returns-in_err-give_up-clause-done : goal.returns-in_err-give_up-clause-done
returns-in_err-give_up-clause-done g c k h clean =
    done_refused g.S.Store k _ _ c.from_residual.ensures.1 c.in_err-give_up.ensures.answer
    (looks_from g.S.Store (Err c.in_err-give_up.field-0.0) c.in_default.ensures.none c.in_err-give_up.ensures.looks) h clean

pub returns-in_err-give_up-clause-commits : goal.returns-in_err-give_up-clause-commits
returns-in_err-give_up-clause-commits g c =
    commits_refused g.S.Store _ c.from_residual.ensures.1 c.in_err-give_up.ensures.answer
    (looks_from g.S.Store (Err c.in_err-give_up.field-0.0) c.in_default.ensures.none c.in_err-give_up.ensures.looks)
