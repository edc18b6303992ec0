use Rattle.std.proofs.Common.{sym}
use Rattle.server.proofs.serve.serve_turns.Goals as goal

pub returns-clause-served : goal.returns-clause-served
returns-clause-served g c = λ T s clean.
    (let w = c.serve_until-served.ensures.served T s clean in
    record {
      given = w.given;
      served = w.served;
      did = record {
        spool = c.new-spool.result;
        listener = c.new.result;
        untouched = rw (c.new-spool.ensures.spool, c.new-3.ensures.spool) (sym c.new-files.ensures.fresh);
        unheard = sym c.new.ensures.fresh;
        wire_then = c.serve_until-served.new.server.wire;
        spool_then = c.serve_until-served.new.spool;
        listener_then = c.serve_until-served.new.server.listener;
        served = w.did;
      };
    })
