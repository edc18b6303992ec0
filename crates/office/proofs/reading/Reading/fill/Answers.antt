-- Each page is a look more.
use Rattle.std.proofs.Common.{rules}
use Rattle.vault.proofs.CallLemmas.{looks_none, looks_less, looks_then}
use Rattle.office.specs.Stopping.{WasPut}
use Rattle.office.proofs.Frames.{not_ok}
use Rattle.office.proofs.reading.Reading.fill.Goals as goal

pub loop-self-init : goal.loop-self-init
loop-self-init g c = record {
  put = search rules;
  left = search rules;
  key = search rules;
  octets = search rules;
  looks = looks_none g.V.Vault c.args.vault.now (g.met.V.Vault.settled c.args.vault.now);
  room = search rules;
}

pub loop-self-preserved : goal.loop-self-preserved
loop-self-preserved g c = record {
  put = search rules;
  left = search rules;
  key = search rules;
  octets = search rules;
  looks = looks_then c.loop-self.invariant.looks
      ((rw c.in-More.is at c.in_ok-put_page.ensures.puts).looks);
  room = search rules;
}

pub returns-in_err-put_page-clause-puts : goal.returns-in_err-put_page-clause-puts
returns-in_err-put_page-clause-puts g c = record {
  key = search rules;
  octets = search rules;
  put = search rules;
  cause = search rules;
  looks = looks_less (not_ok c.from_residual.result _ WasPut c.from_residual.ensures.1)
      (looks_then c.loop-self.invariant.looks c.in_err-put_page.ensures.puts.looks);
}

pub returns-in-Last-clause-puts : goal.returns-in-Last-clause-puts
returns-in-Last-clause-puts g c = record {
  key = search rules;
  octets = search rules;
  put = search rules;
  cause = search rules;
  looks = looks_then c.loop-self.invariant.looks (rw c.in-Last.is at c.in_ok-put_page.ensures.puts).looks;
}

pub returns-in-Refused-clause-puts : goal.returns-in-Refused-clause-puts
returns-in-Refused-clause-puts g c = record {
  key = search rules;
  octets = search rules;
  put = search rules;
  cause = search rules;
  looks = looks_then c.loop-self.invariant.looks (rw c.in-Refused.is at c.in_ok-put_page.ensures.puts).looks;
}

pub returns-clause-puts : goal.returns-clause-puts
returns-clause-puts g c = record {
  key = search rules;
  octets = search rules;
  put = search rules;
  cause = search rules;
  looks = c.loop-self.invariant.looks;
}
