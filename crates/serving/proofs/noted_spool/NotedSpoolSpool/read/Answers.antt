use Rattle.serving.proofs.Noting.{files_read}
use Rattle.serving.proofs.noted_spool.NotedSpoolSpool.read.Goals as goal

pub returns-clause-told : goal.returns-clause-told
returns-clause-told g c = λ a h. files_read (λ text. text.items) c.args.name.now _ _ c.read-text.result a c.note_text.ensures h
