use Rattle.office.specs.Seen.{outcome_seen}
use Rattle.office.proofs.Lending.{admitted, sent_so}
use Rattle.office.proofs.Memory.{has_memory}
use Rattle.office.proofs.office.Office.step_with_account.Goals as goal

pub returns : goal.returns
returns g c =
    let does = c.handle.ensures in
    let o = c.args.self.now in
    let w = outcome_seen c.handle.result.outcome in
    record {
      stands = λ T st clean. (does.after.each T st clean).stands;
      outcome = λ T st clean. (does.after.each T st clean).outcome;
      cause = λ T st clean. (does.after.each T st clean).cause;
      counted = does.after.counted;
      clean = does.after.clean;
      up = λ T st clean. (does.after.each T st clean).up;
      stop = λ T st clean. (does.after.each T st clean).stop;
      admitted = λ T st clean. admitted o T _ w st (does.after.each T st clean).outcome;
      sent = λ T st clean. sent_so o T _ w st (does.after.each T st clean).outcome;
      unasked = does.unasked;
      unasked_line = does.unasked_line;
      succeeds = does.succeeds;
      memory = λ T st clean. has_memory T _ _ w (does.after.each T st clean).outcome;
      account = does.account;
    }
