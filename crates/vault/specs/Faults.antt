-- How the faults of a vault are written.
use Rattle.std.specs.Prelude.{ℕ, List, codes}
use Rattle.vault.specs.declared.fault.VaultFault.{VaultFault}
use Rattle.vault.specs.declared.fault.VaultFault.TheVariants.{NoMaildrop, Conflict, Full, Store, NoMemory, NotEmpty, NotOurs, OldVersion, NoClerk}

-- a fault in words
abbrev pub fault_text : VaultFault → List ℕ
fault_text NoMaildrop = codes "no such maildrop"
fault_text Conflict = codes "conflict"
fault_text Full = codes "full"
fault_text Store = codes "store failed"
fault_text NoMemory = codes "out of memory"
fault_text NotEmpty = codes "not empty"
fault_text NotOurs = codes "not ours"
fault_text OldVersion = codes "old version"
fault_text NoClerk = codes "no such clerk"
