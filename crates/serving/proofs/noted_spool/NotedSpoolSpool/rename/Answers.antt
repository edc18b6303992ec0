use Rattle.serving.proofs.Noting.{files_renamed}
use Rattle.serving.proofs.noted_spool.NotedSpoolSpool.rename.Goals as goal

pub returns-clause-told : goal.returns-clause-told
returns-clause-told g c = λ a h. files_renamed c.args.name.now _ _ c.rename-is_done.result a c.note.ensures h
