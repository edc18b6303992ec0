use Rattle.std.proofs.Common.{[], ◌∷◌, ◌++◌, ◌∙◌, ap, sym}
use Rattle.serving.specs.Calls.{Accepted}
use Rattle.serving.proofs.Noting.{tells_accept}
use Rattle.serving.proofs.noted_wire.NotedWireWire.accept.Goals as goal

pub returns-clause-told : goal.returns-clause-told
returns-clause-told g c = λ t h.
    (let more = c.note.ensures ∙ ap (λ n. n.calls ++ Accepted c.args.port c.accept_next-link.result ∷ []) c.accept_next-link.ensures.notes in
    tells_accept c.args.self.now.counts c.accept_next-link.new.self.counts _ _ c.args.port c.accept_next-link.result t c.accept_next-link.ensures.counts c.accept_next-link.ensures.next more h)

pub returns-clause-called : goal.returns-clause-called
returns-clause-called g c = λ a h.
    (let more = c.note.ensures ∙ ap (λ n. n.calls ++ Accepted c.args.port c.accept_next-link.result ∷ []) c.accept_next-link.ensures.notes in
    ap (λ xs. xs ++ Accepted c.args.port c.accept_next-link.result ∷ []) h ∙ sym more)
