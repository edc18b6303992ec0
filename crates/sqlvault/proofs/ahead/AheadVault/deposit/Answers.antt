use Rattle.std.proofs.Common.{Ok, Err, ap, ◌∙◌, refl}
use Rattle.vault.specs.Calls.{IsDeposited}
use Rattle.sqlvault.specs.UnderWay.{Prepared}
use Rattle.sqlvault.proofs.FrameLemmas.{passed}
use Rattle.sqlvault.proofs.HoldsLemmas.{refusal_any}
use Rattle.sqlvault.proofs.AheadLemmas.{looks_from, done_after, commits_after, commits_refused}
use Rattle.sqlvault.proofs.ComingCallLemmas.{of_names, deposit_finished, deposit_commits}
use Rattle.sqlvault.proofs.ahead.AheadVault.deposit.Goals as goal

pub returns-in-Some-clause-done : goal.returns-in-Some-clause-done
returns-in-Some-clause-done g c =
    deposit_finished g.S.Store c.args.self.now (record { vault = c.finish_deposit.new.self; under_way = c.self.inside.work })
    c.self.inside.vault c.in-Some.coming c.args.maildrop.now c.args.class.now c.args.id.now c.args.text.now c.finish_deposit.result
    (ap (λ (v : Prepared g.row.S.Denot). v.vault) c.self.view_is ∙ c.in-Some.ensures.same) c.in-Some.ensures.taken.0
    (ap (λ (v : Prepared g.row.S.Denot). v.under_way) c.self.view_is ∙ c.in-Some.ensures.taken.1)
    (of_names g.S.Store c.in-Some.coming c.args.maildrop.now c.args.class.now c.args.id.now c.args.text.now c.finish_deposit.result
    c.in-Some.ensures.taken.2 c.in-Some.ensures.taken.3 c.in-Some.ensures.taken.4 c.finish_deposit.ensures.finishes)

pub returns-in-Some-clause-commits : goal.returns-in-Some-clause-commits
returns-in-Some-clause-commits g c =
    deposit_commits g.S.Store {old = c.args.self.now} {new = record { vault = c.finish_deposit.new.self; under_way = c.self.inside.work }}
    c.self.inside.vault c.in-Some.coming c.args.maildrop.now c.args.class.now c.args.id.now c.args.text.now c.finish_deposit.result
    (ap (λ (v : Prepared g.row.S.Denot). v.vault) c.self.view_is ∙ c.in-Some.ensures.same) c.in-Some.ensures.taken.0
    c.finish_deposit.ensures.counted (of_names g.S.Store c.in-Some.coming c.args.maildrop.now c.args.class.now c.args.id.now c.args.text.now c.finish_deposit.result
    c.in-Some.ensures.taken.2 c.in-Some.ensures.taken.3 c.in-Some.ensures.taken.4 c.finish_deposit.ensures.finishes)

pub returns-clause-done : goal.returns-clause-done
returns-clause-done g c k h clean =
    done_after g.S.Store (record { vault = c.deposit.new.self; under_way = c.self-2.inside.work })
    (λ Held. IsDeposited Held k c.args.maildrop.now c.args.class.now c.args.id.now c.args.text.now c.deposit.result)
    k c.self-2.view_is (looks_from g.S.Store (Ok c.in_ok-give_up.field-0) c.in_default.ensures.none c.in_ok-give_up.ensures.looks)
    c.in_ok-give_up.ensures.none refl c.deposit.ensures.commits.clean (c.deposit.ensures.done k) h clean

pub returns-clause-commits : goal.returns-clause-commits
returns-clause-commits g c =
    commits_after g.S.Store {new = record { vault = c.deposit.new.self; under_way = c.self-2.inside.work }}
    _ c.self-2.view_is (looks_from g.S.Store (Ok c.in_ok-give_up.field-0) c.in_default.ensures.none c.in_ok-give_up.ensures.looks)
    c.in_ok-give_up.ensures.none c.deposit.ensures.commits

pub returns-in_err-give_up-clause-done : goal.returns-in_err-give_up-clause-done
returns-in_err-give_up-clause-done g c = rw (passed c.from_residual.ensures.1)
    (λ k h clean. let it = looks_from g.S.Store (Err c.in_err-give_up.field-0.0) c.in_default.ensures.none c.in_err-give_up.ensures.looks in record {
      answer = refusal_any _ c.in_err-give_up.field-0.0 c.in_err-give_up.ensures.answer;
      held = it.held k clean h;
    })

pub returns-in_err-give_up-clause-commits : goal.returns-in_err-give_up-clause-commits
returns-in_err-give_up-clause-commits g c =
    commits_refused g.S.Store _ c.from_residual.ensures.1 c.in_err-give_up.ensures.answer
    (looks_from g.S.Store (Err c.in_err-give_up.field-0.0) c.in_default.ensures.none c.in_err-give_up.ensures.looks)
