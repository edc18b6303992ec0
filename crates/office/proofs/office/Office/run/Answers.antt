use Rattle.std.proofs.Common.{arith, refl, sym, take, take_all, subst, get_or}
use Rattle.std.proofs.lemmas.Grind.{common_steps}
use Rattle.std.proofs.lemmas.List.{take_more}
use Rattle.office.specs.Events.{Trace}
use Rattle.office.specs.Stands.{StandsFor, vault_of}
use Rattle.office.specs.Runs.{Follows, Ran, followed}
use Rattle.office.proofs.Running.{ran_more}
use Rattle.office.proofs.Memory.{steps_have_memory}
use Rattle.office.proofs.SentExactly.{taken_is_sent}
use Rattle.office.proofs.Stopping.{settled_leaves}
use Rattle.office.proofs.office.Office.run.Goals as goal

pub loop-done-init : goal.loop-done-init
loop-done-init g c = record {
  ran = λ T st clean. rw c.new-steps.ensures.items record {
    follows = record { each = tt; stands = st };
    admitted = λ a. a;
    causes = refl;
    up = λ up all. up;
    stop = λ up. settled_leaves T st.keeps (λ d. g.met.V.Vault.settled _ d clean up);
  };
  counted = omega arith;
  clean = λ clean. clean;
}

pub loop-done-preserved : goal.loop-done-preserved
loop-done-preserved g c =
    let es = c.args.events.now in
    let i = c.loop-done.done in
    let ss = c.loop-done.steps.items in
    let event = c.index-events-done.result in
    record {
      ran = λ T st clean.
          let before = c.loop-done.invariant.ran T st (c.enter.ensures.clean clean) in
          rw (take_more es i event c.loop-done-test.true)
          (ran_more g.V.Vault c.args.self.now c.loop-done.self c.enter.new.self (take i es) ss c.enter.new.steps.items
          (get_or es i event) T before
          (rw (sym c.index-events-done.is) (c.in-Ok.ensures.ok (followed T (take i es) ss) before.follows.stands clean)) c.enter.ensures.counted);
      counted = omega (arith, c.loop-done.invariant.counted, c.enter.ensures.counted);
      clean = λ clean. c.loop-done.invariant.clean (c.enter.ensures.clean clean);
    }

pub returns : goal.returns
returns g c =
    let ran : (T : Trace) → StandsFor g.V.Vault.holds c.args.self.now T → g.V.Vault.is_clean (vault_of c.loop-done.self)
    → Ran g.V.Vault.holds g.V.Vault.faults g.V.Vault.is_up g.V.Vault.may_leave c.args.events.now c.loop-done.steps.items T c.args.self.now c.loop-done.self =
    λ T st clean. subst (λ es. Ran g.V.Vault.holds g.V.Vault.faults g.V.Vault.is_up g.V.Vault.may_leave es c.loop-done.steps.items T c.args.self.now c.loop-done.self)
    (take_all c.loop-done.done c.args.events.now c.loop-done-test.false) (c.loop-done.invariant.ran T st clean) in
    record {
      ok = λ T st clean. rw c.new.ensures (ran T st clean).follows;
      err_before_the_end = tt;
      err = tt;
      cause = λ T st clean. rw c.new.ensures (ran T st clean).causes;
      up = λ T st clean up. rw c.new.ensures ((ran T st clean).up up);
      stop = λ T st clean up. rw c.new.ensures ((ran T st clean).stop up);
      admitted = λ T st clean a. rw c.new.ensures ((ran T st clean).admitted a);
      sent = λ T st clean a d. rw c.new.ensures (taken_is_sent _ ((ran T st clean).admitted a) d);
      memory = λ T st clean. rw c.new.ensures (steps_have_memory g.V.Vault.holds T _ _ (ran T st clean).follows.each);
      err_ran = tt;
      counted = c.loop-done.invariant.counted;
      clean = c.loop-done.invariant.clean;
    }

pub returns-in-Err-clause-err : goal.returns-in-Err-clause-err
returns-in-Err-clause-err g c = (
  c.loop-done.steps.items,
  λ T st clean.
      subst (λ o. Follows g.V.Vault.holds (take c.loop-done.done c.args.events.now) c.loop-done.steps.items T o) (sym c.in-Err.ensures.err)
      (c.loop-done.invariant.ran T st (c.enter.ensures.clean clean)).follows,
)

pub returns-in-Err-clause-err_ran : goal.returns-in-Err-clause-err_ran
returns-in-Err-clause-err_ran g c = (
  c.loop-done.steps.items,
  λ T st clean.
      subst
      (λ o. Ran g.V.Vault.holds g.V.Vault.faults g.V.Vault.is_up g.V.Vault.may_leave (take c.loop-done.done c.args.events.now) c.loop-done.steps.items T c.args.self.now o)
      (sym c.in-Err.ensures.err) (c.loop-done.invariant.ran T st (c.enter.ensures.clean clean)),
)

pub returns-in-Err-clause-err_before_the_end : goal.returns-in-Err-clause-err_before_the_end
returns-in-Err-clause-err_before_the_end c = grind (arith, common_steps)
