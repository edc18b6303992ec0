use Rattle.std.proofs.Common.{◌≡◌, is_ok, sym, rules, true}
use Rattle.office.proofs.office.Office.enter.Goals as goal

pub returns-clause-ok : goal.returns-clause-ok
returns-clause-ok g c = λ T st clean.
    let room : is_ok c.push.result ≡ true = c.push.ensures.succeeds (search rules) in
    let items = c.push.ensures.items in
    let does = c.step-outcome.ensures in
    record {
      step = c.new.result;
      entered = rw (sym c.in_ok-reserve.ensures.items) (rw room at items);
      octets = rw c.new.ensures (c.in_ok-octets.ensures T c.step-outcome.result st (does.outcome T st clean));
      done = rw c.new.ensures (record { stands = does.stands T st clean; outcome = does.outcome T st clean; cause = does.cause T st clean; up = does.up T st clean; stop = does.stop T st clean });
    }
