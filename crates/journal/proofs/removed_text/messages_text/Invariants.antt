use Rattle.std.proofs.Common.{◌≡◌, take, drop}
use Rattle.std.specs.Prelude.{string_bytes}
use Rattle.journal.specs.Lines.{messages_text}
use Rattle.journal.proofs.removed_text.messages_text.Given as goal

abbrev pub invariant-loop-n : goal.invariant-loop-n
invariant-loop-n l = string_bytes l.text ≡ messages_text (take l.n (drop l.from l.removed))
