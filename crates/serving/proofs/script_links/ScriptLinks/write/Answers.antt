use Rattle.std.proofs.Common.{◌<◌, length, refl, subst}
use Rattle.serving.specs.Wires.{counted}
use Rattle.serving.proofs.Scripting.{write_told}
use Rattle.serving.proofs.script_links.ScriptLinks.write.Goals as goal

pub returns-clause-told : goal.returns-clause-told
returns-clause-told c = λ t h.
    (let place = c.in-Some.place in
    let within = subst (λ xs. place < length xs) c.as_slice.ensures.value c.in-Some.ensures.0 in
    write_told c.args.self.now.accepted.items c.args.self.now.accepted.items c.args.self.now.strayed c.args.self.now.strayed t place c.args.link.number c.index.result.now c.index_mut.result.now
    c.write_at.new.link c.write_at.result (counted c.write_at.result c.args.octets.now)
    refl refl within c.in-Some.ensures.1 c.index.ensures c.index_mut.ensures.value c.write_at.ensures.read c.write_at.ensures.written c.write_at.ensures.over h)
