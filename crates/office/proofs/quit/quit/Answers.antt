use Rattle.office.proofs.quit.quit.Goals as goal

pub returns-clause-done : goal.returns-clause-done
returns-clause-done g c = λ d kept held clean lies. c.in_ok-outcome.ensures.done c.args.policy.now d kept c.in_ok-plan.ensures held clean lies
