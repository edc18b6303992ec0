-- How refusals are counted.
use Rattle.std.proofs.Common.{◌≡◌, Result, Ok, Err, ap}
use Rattle.vault.specs.declared.fault.VaultFault.{VaultFault}
use Rattle.vault.specs.declared.fault.VaultFault.TheVariants as fault

-- the fault of a refused call
abbrev pub fault_in : {A : Type 0} → Result A VaultFault → VaultFault
fault_in (Ok x) = fault.NoMemory
fault_in (Err f) = f

pub same_fault : {A : Type 0} (f e : VaultFault) → (let r : Result A VaultFault = Err f in let s : Result A VaultFault = Err e in r ≡ s) → f ≡ e
same_fault {A} f e is = ap (λ (r : Result A VaultFault). fault_in r) is
