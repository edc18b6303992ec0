use Rattle.std.proofs.Common.{[], ◌∷◌, ◌++◌, ◌∙◌, ap, sym}
use Rattle.serving.specs.Spools.{Next}
use Rattle.serving.proofs.Noting.{files_on}
use Rattle.serving.proofs.noted_spool.NotedSpoolSpool.next_name.Goals as goal

pub returns-clause-told : goal.returns-clause-told
returns-clause-told g c = λ a h.
    files_on _ _ (Next c.args.last.now c.next_name-next.result) a (c.note.ensures ∙ ap (λ x. c.args.self.now.notes.calls ++ x ∷ []) c.asked_next.ensures) h

pub returns-clause-called : goal.returns-clause-called
returns-clause-called g c = λ a h.
    ap (λ xs. xs ++ Next c.args.last.now c.next_name-next.result ∷ []) h ∙ sym (c.note.ensures ∙ ap (λ x. c.args.self.now.notes.calls ++ x ∷ []) c.asked_next.ensures)
