use Rattle.server.specs.Served.{OverSockets, BehindProxy}
use Rattle.server.proofs.serve.serve_links.Goals as goal

pub returns-then-options-clause-served : goal.returns-then-options-clause-served
returns-then-options-clause-served g c = λ unasked T s clean.
    (let w = c.serve_turns.ensures.served T s clean in record {
      given = w.given;
      served = w.served;
      did = BehindProxy c.new-wire.result c.if-options.true (c.new-wire.ensures.asked unasked) w.did;
    })

pub returns-clause-served : goal.returns-clause-served
returns-clause-served g c = λ unasked T s clean.
    (let w = c.serve_turns-2.ensures.served T s clean in record { given = w.given; served = w.served; did = OverSockets c.if-options.false w.did })
