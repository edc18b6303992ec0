-- What contracts see of a store over tables.
use Rattle.std.specs.Prelude.{ℕ, Result, Ok, Err, refl}
use Rattle.std.specs.Coded.{Coded, code_by, coded×, coded_ℕ}
use Rattle.sqlite.specs.Held.{Held, held_code}
use Rattle.vault.specs.declared.fault.VaultFault.{VaultFault}

-- its connection, and how many calls answered `Store`
pub record Opened (S : Type 0) : Type 0 where
  pub conn : Held S
  pub faults : ℕ

-- how a store over tables is coded: as the pair of its connection and its count
abbrev pub opened_code : {S : Type 0} → Coded S → Coded (Opened S)
opened_code {S} store = code_by (Held S × ℕ) (coded× (held_code store) coded_ℕ) (λ o. (o.conn, o.faults)) (λ p. record { conn = p.0; faults = p.1 }) (λ _. refl)

-- the connection after adopting it: that of the store, or the one given back
abbrev pub conn_of : {S : Type 0} → Result (Opened S) (VaultFault × Held S) → Held S
conn_of (Ok vault) = vault.conn
conn_of (Err refused) = refused.1

-- the answer without the connection
abbrev pub judged_in : {A B : Type 0} → Result A (VaultFault × B) → Result A VaultFault
judged_in (Ok it) = Ok it
judged_in (Err refused) = Err refused.0
