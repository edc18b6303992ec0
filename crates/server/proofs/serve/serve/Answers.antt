use Rattle.std.proofs.Common.{[]}
use Rattle.serving.proofs.Going.{unserved}
use Rattle.server.specs.Served.{WasRefused, WasUnsaid, WasEnded}
use Rattle.server.proofs.serve.serve.Goals as goal

pub returns-in-Err-clause-served : goal.returns-in-Err-clause-served
returns-in-Err-clause-served g c = λ T s clean. record {
  given = [];
  served = unserved g.V.Vault.holds g.V.Vault.faults T c.args.office s;
  did = rw c.tell_refused-status.ensures WasRefused;
}

pub returns-in-Err-said-clause-served : goal.returns-in-Err-said-clause-served
returns-in-Err-said-clause-served g c = λ T s clean. record {
  given = [];
  served = unserved g.V.Vault.holds g.V.Vault.faults T c.args.office s;
  did = WasUnsaid c.in-Err-said.fault c.in-Err-said.ensures;
}

pub returns-clause-served : goal.returns-clause-served
returns-clause-served g c = λ T s clean.
    (let w = c.serve_links-served.ensures.served c.in-Ok.ensures T s clean in record {
      given = w.given;
      served = w.served;
      did = WasEnded c.in-Ok.listening.0 c.serve_links-served.result.0 c.status_of-status.result _ w.given c.in-Ok.ensures w.did c.status_of-status.ensures;
    })
