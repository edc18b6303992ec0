use Rattle.std.proofs.Common.{ap, ◌∙◌}
use Rattle.sqlite_schema.specs.declared.schema.Schema.{Schema}
use Rattle.mailsql.specs.Names.{has_columns}
use Rattle.mailsql.proofs.SchemaLemmas.{ours_columns, old_lacks}
use Rattle.mailsql.proofs.schema.has_columns.Goals as goal

pub returns-clause-ours : goal.returns-clause-ours
returns-clause-ours g c ours = c.has_our_columns.ensures ∙ ap has_columns c.as_slice.ensures ∙ ap (λ (s : Schema). has_columns s.tables) (c.schema.ensures.value ∙ ours) ∙ ours_columns _

pub returns-clause-old : goal.returns-clause-old
returns-clause-old g c is = c.has_our_columns.ensures ∙ ap has_columns c.as_slice.ensures ∙ ap (λ (s : Schema). has_columns s.tables) (c.schema.ensures.value ∙ is) ∙ old_lacks _
