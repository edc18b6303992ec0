-- What a check and an export compare the texts of a store's messages with.
use Rattle.std.specs.Prelude.{Bool, true, false, List, Option, Some, None}
use Rattle.vault.specs.declared.record.Receipt.{Receipt}
use Rattle.vault.specs.Changes.{Contents}

-- the deposits of the store; `None` if texts aren't compared
abbrev pub held_against : (compared : Bool) → Contents → Option (List Receipt)
held_against true c = Some c.deposits
held_against false c = None
