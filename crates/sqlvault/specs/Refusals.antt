-- What a call answers if a statement was refused, and how refusals are counted.
use Rattle.std.specs.Prelude.{◌+◌, ℕ, Bool, true, false, Result, Ok, Err, min, if◌then◌else◌}
use Rattle.sqlite.specs.declared.error.Error.{Error}
use Rattle.sqlite.specs.declared.error.Error.TheVariants.{SqliteFailure}
use Rattle.sqlite.specs.declared.error.ErrorCode.TheVariants.{OutOfMemory, NotADatabase}
use Rattle.vault.specs.declared.fault.VaultFault.{VaultFault}
use Rattle.vault.specs.declared.fault.VaultFault.TheVariants as fault
use Rattle.vault.specs.Calls.{greatest_count}
use Rattle.sqlvault.specs.declared.refusal.Refusal.{Refusal}
use Rattle.sqlvault.specs.declared.refusal.Refusal.TheVariants.{Answered, Met}

-- the error is that memory ran out
abbrev pub is_memory : Error → Bool
is_memory (SqliteFailure OutOfMemory) = true
is_memory _ = false

-- a statement's error as the vault's fault
abbrev pub fault_of : Error → VaultFault
fault_of e = if is_memory e then fault.NoMemory else fault.Store

-- why a file isn't opened, as the vault's fault
abbrev pub open_fault : Error → VaultFault
open_fault (SqliteFailure OutOfMemory) = fault.NoMemory
open_fault (SqliteFailure NotADatabase) = fault.NotOurs
open_fault _ = fault.Store

-- a refusal as the vault's fault
abbrev pub told : Refusal → VaultFault
told (Answered f) = f
told (Met e) = fault_of e

-- an answer as the vault gives it
abbrev pub answer_of : {A : Type 0} → Result A Refusal → Result A VaultFault
answer_of (Ok x) = Ok x
answer_of (Err r) = Err (told r)

-- what a statement answered, as a call's answer
abbrev pub as_met : {A : Type 0} → Result A Error → Result A Refusal
as_met (Ok x) = Ok x
as_met (Err e) = Err (Met e)

-- the fault is `Store`
abbrev pub is_store : VaultFault → Bool
is_store fault.Store = true
is_store _ = false

-- the count of faults after this one: one more, but never above the greatest, if it is `Store`
abbrev pub counted_by : VaultFault → ℕ → ℕ
counted_by f n = if is_store f then min (n + 1) greatest_count else n

-- the count of faults after a call that was answered so
abbrev pub count_after : {A : Type 0} → Result A VaultFault → ℕ → ℕ
count_after (Ok x) n = n
count_after (Err f) n = counted_by f n
