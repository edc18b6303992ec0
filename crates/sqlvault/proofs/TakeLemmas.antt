-- What a connection that was just opened, and then adopted or let go, comes to.
use Rattle.std.proofs.Common.{◌≡◌, ◌⊎◌, inl, inr, false, IsTrue, Result, Ok, Err}
use Rattle.std.specs.Prelude.{IfOk, IfErr}
use Rattle.sqlite_disk.specs.declared.Disk.{Ghosts}
use Rattle.sqlite_wal.specs.Recovery.{Image}
use Rattle.sqlite_trees.specs.declared.memory.MemStore.{MemStore}
use Rattle.sqlite_store.specs.declared.store.FileStore.{FileStore}
use Rattle.sqlite.specs.Held.{Held, state}
use Rattle.sqlite.specs.Files.{file_state, IsOpened}
use Rattle.sqlite.specs.Start.{FindsIn}
use Rattle.sqlite.specs.State.{HasCleanDisk}
use Rattle.sqlite.specs.Steps.{over_memory}
use Rattle.sqlite.proofs.Callers.{memory_is_clean}
use Rattle.vault.specs.declared.fault.VaultFault.{VaultFault}
use Rattle.vault.specs.declared.fault.VaultFault.TheVariants.{Store, NoMemory}
use Rattle.vault.specs.Plain.{no_contents}
use Rattle.sqlvault.specs.Adopts.{IsBlank, IsKnown, IsAdopted, IsRefused, LeavesEmptyToo, RefusesOlder, IsOfUnknownVersion, RefusesVersion, OpensIn}
use Rattle.sqlvault.specs.Carries.{HasOlder, IsCarried, LeavesEither}
use Rattle.sqlvault.specs.Opened.{Opened}
use Rattle.sqlvault.specs.Stands.{Holds}
use Rattle.sqlvault.proofs.AdoptLemmas.{refused_blank}

-- ---- a file

pub opens_in : {D : Type 0} {g : Ghosts D} (image : Image) (first : Held (FileStore D g)) (r : Result (Opened (FileStore D g)) VaultFault)
    → (HasCleanDisk (file_state first) → IsOpened first) → (HasCleanDisk (file_state first) → FindsIn image (file_state first))
    → IfOk r (λ vault. HasCleanDisk (file_state vault.conn) → HasCleanDisk (file_state first) × (IsKnown (file_state first) → IsAdopted (file_state first) (file_state vault.conn)))
    → IfOk r (λ vault. HasCleanDisk (file_state vault.conn) → IsKnown (file_state first) → IsTrue (file_state first).is_open → LeavesEmptyToo (file_state first) (file_state vault.conn))
    → IfOk r (λ vault. HasCleanDisk (file_state vault.conn) → HasOlder (file_state first) → (file_state first).in_transaction ≡ false
    → IsCarried (file_state first) (file_state vault.conn) × LeavesEither (file_state first) (file_state vault.conn))
    → IfErr r (λ fault. (last : Held (FileStore D g))
    × (HasCleanDisk (file_state last)
    → HasCleanDisk (file_state first) × (IsKnown (file_state first) → IsRefused (file_state first) fault)
    × ((file_state first).in_transaction ≡ false → RefusesOlder (file_state first) (file_state last) fault)
    × (IsOfUnknownVersion (file_state first) → RefusesVersion (file_state first) (file_state last) fault)))
    → IfOk r (λ vault. HasCleanDisk (file_state vault.conn) → IsOfUnknownVersion (file_state first) → ⊥)
    → OpensIn image r
opens_in image first (Ok vault) opened found adopted stop carried refused known = λ clean.
    let a = adopted clean in
    let out = (opened a.0).0.autocommit in
    record {
      first = first;
      opened = opened a.0;
      found = found a.0;
      adopted = a.1;
      stop = λ known. stop clean known (opened a.0).0.is_open;
      carried = λ older. (carried clean older out).0;
      carried_stop = λ older. (carried clean older out).1;
      known_version = known clean;
    }
opens_in image first (Err fault) opened found adopted stop carried refused known = inr (
  first,
  refused.0,
  λ clean. let a = refused.1 clean in ((opened a.0, found a.0), a.1, a.2 (opened a.0).0.autocommit, a.3),
)

-- ---- memory

pub memory_taken : (first : Held MemStore) (r : Result (Opened MemStore) VaultFault) → IsBlank (state over_memory first)
    → IfOk r (λ vault. HasCleanDisk (state over_memory vault.conn)
    → HasCleanDisk (state over_memory first) × (IsKnown (state over_memory first) → IsAdopted (state over_memory first) (state over_memory vault.conn)))
    → IfOk r (λ vault. IsTrue (state over_memory vault.conn).is_open × Holds (state over_memory vault.conn) no_contents)
memory_taken first (Ok vault) blank adopted = let a = (adopted (memory_is_clean vault.conn)).1 (inl blank) in (a.is_open, a.blank blank)
memory_taken first (Err fault) blank adopted = tt

pub memory_refused : (first : Held MemStore) (r : Result (Opened MemStore) VaultFault) → IsBlank (state over_memory first) → (state over_memory first).in_transaction ≡ false
    → IfErr r (λ fault. (last : Held MemStore)
    × (HasCleanDisk (state over_memory last)
    → HasCleanDisk (state over_memory first) × (IsKnown (state over_memory first) → IsRefused (state over_memory first) fault)
    × ((state over_memory first).in_transaction ≡ false → RefusesOlder (state over_memory first) (state over_memory last) fault)
    × (IsOfUnknownVersion (state over_memory first) → RefusesVersion (state over_memory first) (state over_memory last) fault)))
    → IfErr r (λ fault. (fault ≡ Store) ⊎ (fault ≡ NoMemory))
memory_refused first (Ok vault) blank out refused = tt
memory_refused first (Err fault) blank out refused = refused_blank (state over_memory first) fault blank out ((refused.1 (memory_is_clean refused.0)).1 (inl blank))
