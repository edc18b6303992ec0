use Rattle.std.proofs.Common.{ap, ◌∙◌, is_some}
use Rattle.mailsql.specs.Names.{is_taken}
use Rattle.mailsql.proofs.SchemaLemmas.{ours_taken, old_taken, meta_taken}
use Rattle.mailsql.proofs.schema.is_taken.Goals as goal

pub returns-clause-ours : goal.returns-clause-ours
returns-clause-ours g c ours = c.is_some.ensures ∙ ap is_some c.taken_name.ensures ∙ ap is_taken ours ∙ ours_taken _

pub returns-clause-old : goal.returns-clause-old
returns-clause-old g c is = c.is_some.ensures ∙ ap is_some c.taken_name.ensures ∙ ap is_taken is ∙ old_taken _

pub returns-clause-marked : goal.returns-clause-marked
returns-clause-marked g c it = c.is_some.ensures ∙ ap is_some c.taken_name.ensures ∙ meta_taken _ it.others it.first
