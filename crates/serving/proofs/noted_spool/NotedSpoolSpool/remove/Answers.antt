use Rattle.serving.proofs.Noting.{files_removed}
use Rattle.serving.proofs.noted_spool.NotedSpoolSpool.remove.Goals as goal

pub returns-clause-told : goal.returns-clause-told
returns-clause-told g c = λ a h. files_removed c.args.name.now _ _ c.remove-is_done.result a c.note.ensures h
