-- The versions of the layout before the newest one.
use Rattle.std.specs.Prelude.{Bool, true, false}
use Rattle.mailsql.specs.declared.tables.OlderVersion.{OlderVersion}
use Rattle.mailsql.specs.declared.tables.OlderVersion.TheVariants.{First, Second}

-- it is version 1
abbrev pub is_first : OlderVersion → Bool
is_first First = true
is_first Second = false
