use Rattle.std.proofs.Common.{◌∙◌, ap}
use Rattle.std.specs.Prelude.{option_and_then}
use Rattle.sqlite_schema.specs.declared.schema.Index.{Index}
use Rattle.mailsql.specs.Names.{our_table}
use Rattle.mailsql.proofs.schema.taken_by_index.Goals as goal

pub returns-in-Some : goal.returns-in-Some
returns-in-Some c =
    c.our_table.ensures ∙ ap our_table c.as_slice.ensures
    ∙ ap (option_and_then (λ (it : Index). our_table it.name)) c.in-Some.ensures
