use Rattle.std.proofs.Common.{sym, subst}
use Rattle.serving.specs.Wires.{IsAccepted}
use Rattle.serving.specs.Scripts.{TellsOf}
use Rattle.serving.proofs.Scripting.{accepts_pop, accepts_admin}
use Rattle.serving.proofs.script_wire.ScriptWireWire.accept.Goals as goal

pub returns-in-Pop-clause-told : goal.returns-in-Pop-clause-told
returns-in-Pop-clause-told c = λ t h.
    (let links = c.accept.new.self in
    let requests = c.args.self.now.requests in
    subst (λ p. IsAccepted (λ u. TellsOf links.accepted.items links.strayed u.pop × TellsOf requests.accepted.items requests.strayed u.admin) p t c.accept.result) (sym c.in-Pop.is)
    (accepts_pop (TellsOf links.accepted.items links.strayed) (TellsOf requests.accepted.items requests.strayed) t c.accept.result (c.accept.ensures t.pop h.0) h.1))

pub returns-in-Admin-clause-told : goal.returns-in-Admin-clause-told
returns-in-Admin-clause-told c = λ t h.
    (let links = c.args.self.now.clients in
    let requests = c.accept-in-Admin.new.self in
    subst (λ p. IsAccepted (λ u. TellsOf links.accepted.items links.strayed u.pop × TellsOf requests.accepted.items requests.strayed u.admin) p t c.accept-in-Admin.result) (sym c.in-Admin.is)
    (accepts_admin (TellsOf links.accepted.items links.strayed) (TellsOf requests.accepted.items requests.strayed) t c.accept-in-Admin.result h.0 (c.accept-in-Admin.ensures t.admin h.1)))
