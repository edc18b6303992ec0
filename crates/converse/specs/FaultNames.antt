-- The names of the faults of a store and of a conversation, as their variants are spelled.
use Rattle.std.specs.Prelude.{ℕ, List, codes}
use Rattle.vault.specs.declared.fault.VaultFault.{VaultFault}
use Rattle.vault.specs.declared.fault.VaultFault.TheVariants.{NoMaildrop, Conflict, Full, Store, NoMemory, NotEmpty, NotOurs, OldVersion, NoClerk}
use Rattle.converse.specs.declared.talk.TalkFault.{TalkFault}
use Rattle.converse.specs.declared.talk.TalkFault.TheVariants as talk

-- the name of a store's fault
abbrev pub store_fault_name : VaultFault → List ℕ
store_fault_name NoMaildrop = codes "NoMaildrop"
store_fault_name Conflict = codes "Conflict"
store_fault_name Full = codes "Full"
store_fault_name Store = codes "Store"
store_fault_name NoMemory = codes "NoMemory"
store_fault_name NotEmpty = codes "NotEmpty"
store_fault_name NotOurs = codes "NotOurs"
store_fault_name OldVersion = codes "OldVersion"
store_fault_name NoClerk = codes "NoClerk"

-- the name of a conversation's fault
abbrev pub talk_fault_name : TalkFault → List ℕ
talk_fault_name talk.Read = codes "Read"
talk_fault_name talk.Write = codes "Write"
talk_fault_name talk.TooManyConnections = codes "TooManyConnections"
talk_fault_name talk.NoMemory = codes "NoMemory"
talk_fault_name talk.Endless = codes "Endless"
