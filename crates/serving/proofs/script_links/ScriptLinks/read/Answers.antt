use Rattle.std.proofs.Common.{◌<◌, length, refl, subst}
use Rattle.serving.specs.Wires.{counted}
use Rattle.serving.proofs.Scripting.{read_told}
use Rattle.serving.proofs.script_links.ScriptLinks.read.Goals as goal

pub returns-clause-told : goal.returns-clause-told
returns-clause-told c = λ t h.
    (let place = c.in-Some.place in
    let within = subst (λ xs. place < length xs) c.as_slice.ensures.value c.in-Some.ensures.0 in
    read_told c.args.self.now.accepted.items c.args.self.now.accepted.items c.args.self.now.strayed c.args.self.now.strayed t place c.args.link.number c.index.result.now c.index_mut.result.now
    c.read_at.new.link c.read_at.result (counted c.read_at.result c.read_at.new.buffer)
    refl refl within c.in-Some.ensures.1 c.index.ensures c.index_mut.ensures.value c.read_at.ensures.read c.read_at.ensures.written c.read_at.ensures.over h)
