-- How the faults of a text are written.
use Rattle.std.specs.Prelude.{ℕ, List, codes}
use Rattle.mailtext.specs.declared.kept.TextFault.{TextFault}
use Rattle.mailtext.specs.declared.kept.TextFault.TheVariants.{Empty, TooLarge, NoMemory}

-- a fault in words
abbrev pub fault_text : TextFault → List ℕ
fault_text Empty = codes "empty text"
fault_text TooLarge = codes "too large"
fault_text NoMemory = codes "out of memory"
