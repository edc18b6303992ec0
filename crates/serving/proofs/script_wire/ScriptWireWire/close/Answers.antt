use Rattle.std.proofs.Common.{sym, subst}
use Rattle.serving.specs.Wires.{Told, at_port, has_closed}
use Rattle.serving.specs.Scripts.{TellsOf}
use Rattle.serving.proofs.script_wire.ScriptWireWire.close.Goals as goal

pub returns-in-Pop-clause-told : goal.returns-in-Pop-clause-told
returns-in-Pop-clause-told c = λ t h.
    (let links = c.close.new.self in
    let requests = c.args.self.now.requests in
    let change : Told → Told = λ of. has_closed of c.args.link.number in
    subst (λ p. TellsOf links.accepted.items links.strayed (at_port p change t).pop × TellsOf requests.accepted.items requests.strayed (at_port p change t).admin) (sym c.in-Pop.is)
    (c.close.ensures t.pop h.0, h.1))

pub returns-in-Admin-clause-told : goal.returns-in-Admin-clause-told
returns-in-Admin-clause-told c = λ t h.
    (let links = c.args.self.now.clients in
    let requests = c.close-in-Admin.new.self in
    let change : Told → Told = λ of. has_closed of c.args.link.number in
    subst (λ p. TellsOf links.accepted.items links.strayed (at_port p change t).pop × TellsOf requests.accepted.items requests.strayed (at_port p change t).admin) (sym c.in-Admin.is)
    (h.0, c.close-in-Admin.ensures t.admin h.1))
