use Rattle.std.proofs.Common.{ap, ◌∙◌}
use Rattle.sqlite_schema.specs.declared.schema.Schema.{Schema}
use Rattle.mailsql.specs.Names.{has_meta_rows}
use Rattle.mailsql.proofs.SchemaLemmas.{old_marked, first_marked}
use Rattle.mailsql.proofs.schema.has_meta_rows.Goals as goal

pub returns-clause-old : goal.returns-clause-old
returns-clause-old g c is = c.has_meta.ensures ∙ ap has_meta_rows c.as_slice.ensures ∙ ap (λ (s : Schema). has_meta_rows s.tables) (c.schema.ensures.value ∙ is) ∙ old_marked _

pub returns-clause-marked : goal.returns-clause-marked
returns-clause-marked g c it = c.has_meta.ensures ∙ ap has_meta_rows c.as_slice.ensures ∙ ap (λ (s : Schema). has_meta_rows s.tables) c.schema.ensures.value ∙ first_marked _ it.others it.first
