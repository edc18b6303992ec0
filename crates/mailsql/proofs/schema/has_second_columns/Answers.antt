use Rattle.std.proofs.Common.{ap, ◌∙◌}
use Rattle.sqlite_schema.specs.declared.schema.Schema.{Schema}
use Rattle.mailsql.specs.Names.{has_second_columns}
use Rattle.mailsql.proofs.SchemaLemmas.{second_columns, not_second}
use Rattle.mailsql.proofs.schema.has_second_columns.Goals as goal

pub returns-clause-second : goal.returns-clause-second
returns-clause-second g c is = c.has_mail_columns.ensures ∙ ap has_second_columns c.as_slice.ensures ∙ ap (λ (s : Schema). has_second_columns s.tables) (c.schema.ensures.value ∙ is) ∙ second_columns

pub returns-clause-first : goal.returns-clause-first
returns-clause-first g c is = c.has_mail_columns.ensures ∙ ap has_second_columns c.as_slice.ensures ∙ ap (λ (s : Schema). has_second_columns s.tables) (c.schema.ensures.value ∙ is) ∙ not_second
