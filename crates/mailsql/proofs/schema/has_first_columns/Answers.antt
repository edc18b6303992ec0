use Rattle.std.proofs.Common.{ap, ◌∙◌}
use Rattle.sqlite_schema.specs.declared.schema.Schema.{Schema}
use Rattle.mailsql.specs.Names.{has_first_columns}
use Rattle.mailsql.proofs.SchemaLemmas.{first_columns, not_first}
use Rattle.mailsql.proofs.schema.has_first_columns.Goals as goal

pub returns-clause-first : goal.returns-clause-first
returns-clause-first g c is = c.has_messages_columns.ensures ∙ ap has_first_columns c.as_slice.ensures ∙ ap (λ (s : Schema). has_first_columns s.tables) (c.schema.ensures.value ∙ is) ∙ first_columns

pub returns-clause-second : goal.returns-clause-second
returns-clause-second g c is = c.has_messages_columns.ensures ∙ ap has_first_columns c.as_slice.ensures ∙ ap (λ (s : Schema). has_first_columns s.tables) (c.schema.ensures.value ∙ is) ∙ not_first
