-- Vaults that refuse one of their calls, for tests.
use Rattle.std.specs.Prelude.{◌≡◌, ◌==◌, ◌+◌, ◌-◌, ℕ, Bool, true, false, Result, Err, if◌then◌else◌, min}
use Rattle.vault.specs.declared.fault.VaultFault.{VaultFault}
use Rattle.vault.specs.declared.fault.VaultFault.TheVariants as fault
use Rattle.vault.specs.Calls.{CountsFaults, greatest_count}

-- a vault, how many calls are to come through the refused one (0: none will be), and how many were
-- refused
pub record Refusals (V : Type 0) : Type 0 where
  pub vault : V
  pub to_come : ℕ
  pub refusals : ℕ

-- of the vault inside
abbrev pub over : {V : Type 0} {W : Type 1} → (V → W) → Refusals V → W
over of r = of r.vault

-- before the first call; call number n, counted from 1, is to be refused
abbrev pub refusing_call : {V : Type 0} → V → ℕ → Refusals V
refusing_call vault n = record { vault = vault; to_come = n; refusals = 0 }

-- the next call is the refused one
abbrev pub is_next : (to_come : ℕ) → Bool
is_next to_come = to_come == 1

-- one refusal more; the count stops at the greatest
abbrev pub one_more : ℕ → ℕ
one_more refusals = min (refusals + 1) greatest_count

-- the faults of the vault inside and the refusals; the count stops at the greatest
abbrev pub faults_of : {V : Type 0} → (V → ℕ) → Refusals V → ℕ
faults_of faults r = min (faults r.vault + r.refusals) greatest_count

-- Each call counts. The refused one is answered `Store`, and the vault inside stays as it is; any
-- other is answered by the vault inside.
pub record IsInTurn {V A : Type 0} (faults : V → ℕ) (before after : Refusals V) (answered : Result A VaultFault) : Type 0 where
  pub to_come : after.to_come ≡ before.to_come - 1
  pub refusals : after.refusals ≡ (if is_next before.to_come then one_more before.refusals else before.refusals)
  pub refused : is_next before.to_come ≡ true → answered ≡ Err fault.Store
  pub unchanged : is_next before.to_come ≡ true → after.vault ≡ before.vault
  pub passed_on : is_next before.to_come ≡ false → CountsFaults (faults before.vault) (faults after.vault) answered
