-- A connection that found, after a stop, the database of a store as it was, and what adopting it comes to.
use Rattle.std.proofs.Common.{◌≡◌, ◌⊎◌, inl, inr, IsTrue, sym, ap, subst, ◌∙◌, false, Result, Ok, Err}
use Rattle.std.specs.Prelude.{IfOk, IfErr}
use Rattle.sqlite_trees.specs.declared.store.Store.{Ghosts}
use Rattle.sqlite.specs.Effect.{Database}
use Rattle.sqlite.specs.Held.{Held, state}
use Rattle.sqlite.specs.State.{State, HasCleanDisk, Opens, IsLive}
use Rattle.vault.specs.declared.fault.VaultFault.{VaultFault}
use Rattle.vault.specs.declared.fault.VaultFault.TheVariants as fault
use Rattle.vault.specs.Changes.{Contents}
use Rattle.mailsql.specs.Rows.{rows_in, IsKept, IsOld}
use Rattle.sqlvault.specs.Keeps.{Keeps}
use Rattle.sqlvault.specs.Adopts.{Adopts, IsKnown, Stores}
use Rattle.jobs.specs.Stopped.{FindsWhole, StopsCarrying}
use Rattle.sqlvault.specs.Again.{FindsLeft}
use Rattle.sqlvault.specs.Carries.{HasOlder, CarriesOver, KeepsOlder, IsStoreOf, brought_in}
use Rattle.sqlvault.specs.Opened.{Opened, conn_of, judged_in}
use Rattle.sqlvault.specs.Stands.{Holds}
use Rattle.sqlvault.specs.Stops.{LeavesLast}
use Rattle.sqlvault.proofs.AgainLemmas.{same_told, refused_between}
use Rattle.jobs.proofs.RestLemmas.{database_once}

-- ---- between two calls

-- what is found then is the last commit, with its tables
finds_left : (stopped first : State) (c : Contents) → LeavesLast stopped → IsLive stopped → IsLive first → FindsWhole stopped first → IsTrue stopped.is_open → Holds stopped c → FindsLeft stopped first
finds_left stopped first c law live_then live f up h =
    let trees : first.committed.trees ≡ stopped.committed.trees = law first.committed.trees up f.left in
    let same = database_once first.committed stopped.committed (live f.opened.is_open).1 (live_then up).1 trees in
    record { opened = f.opened; tables = subst IsKept (sym (f.opened.clean ∙ same ∙ h.settled up)) (h.tables up); left = f.left }

module _ {S : Type 0} (g : Ghosts S) (stopped : State) (first : Held S) (r : Result (Opened S) (VaultFault × Held S)) where
  abbrev IsTold : Type 0
  IsTold = HasCleanDisk (state g (conn_of r)) → IsKnown (state g first) → Adopts (state g first) (state g (conn_of r)) (judged_in r)

  pub same_whole : LeavesLast stopped → IsLive stopped → IsLive (state g first) → IsTold
      → IfOk r (λ vault. (c : Contents) → HasCleanDisk (state g vault.conn) → FindsWhole stopped (state g first) → IsTrue stopped.is_open → Holds stopped c → Holds (state g vault.conn) c)
  same_whole law live_then live told = go r told
    where
      go : (r : Result (Opened S) (VaultFault × Held S)) → (HasCleanDisk (state g (conn_of r)) → IsKnown (state g first) → Adopts (state g first) (state g (conn_of r)) (judged_in r))
          → IfOk r (λ vault. (c : Contents) → HasCleanDisk (state g vault.conn) → FindsWhole stopped (state g first) → IsTrue stopped.is_open → Holds stopped c → Holds (state g vault.conn) c)
      go (Ok vault) told = λ c clean f up h. same_told g stopped first (Ok vault) law told c clean (finds_left stopped (state g first) c law live_then live f up h) up h
      go (Err refused) told = tt

  pub refused_whole : LeavesLast stopped → IsLive stopped → IsLive (state g first) → IsTold
      → IfErr r (λ refused. (c : Contents) → HasCleanDisk (state g refused.1) → FindsWhole stopped (state g first) → IsTrue stopped.is_open
      → Holds stopped c → (refused.0 ≡ fault.Store) ⊎ (refused.0 ≡ fault.NoMemory))
  refused_whole law live_then live told = go r told
    where
      go : (r : Result (Opened S) (VaultFault × Held S)) → (HasCleanDisk (state g (conn_of r)) → IsKnown (state g first) → Adopts (state g first) (state g (conn_of r)) (judged_in r))
          → IfErr r (λ refused. (c : Contents) → HasCleanDisk (state g refused.1) → FindsWhole stopped (state g first) → IsTrue stopped.is_open
          → Holds stopped c → (refused.0 ≡ fault.Store) ⊎ (refused.0 ≡ fault.NoMemory))
      go (Ok vault) told = tt
      go (Err refused) told = λ c clean f up h. refused_between g stopped first (Err refused) law told c clean (finds_left stopped (state g first) c law live_then live f up h) up h

-- ---- in a carrying over

-- the new store was left: its rows are these contents
found_new : (first : State) (old : State) (c : Contents) → Opens first → IsLive first → IsStoreOf (brought_in old.now.trees) first.committed.trees → KeepsOlder old c → Stores first c
found_new first old c opened live left k =
    let same = database_once first.committed left.found (live opened.is_open).1 left.listed (sym left.trees) in
    let now : first.now ≡ left.found = opened.clean ∙ same in
    let rows : rows_in first.now.trees ≡ brought_in old.now.trees = ap (λ (d : Database). rows_in d.trees) opened.clean ∙ left.rows_are in
    (subst IsKept (sym now) left.kept, subst (λ rows. Keeps rows c) (sym rows) k)

-- the old store was left
found_old : (first : State) (old stopped : State) → LeavesLast old → Opens first → IsLive first → StopsCarrying old stopped → old.may_leave first.committed.trees → first.now ≡ old.now
found_old first old stopped law opened live s may =
    opened.clean ∙ database_once first.committed old.committed (live opened.is_open).1 s.listed (law first.committed.trees s.was_open may) ∙ sym (s.older.settled s.was_open)

pub same_carried : {S T : Type 0} (gs : Ghosts S) (g : Ghosts T) (stopped : State) (first : Held T) (r : Result (Opened T) (VaultFault × Held T))
    → ((old : Held S) → LeavesLast (state gs old)) → IsLive (state g first)
    → (HasCleanDisk (state g (conn_of r)) → IsKnown (state g first) → Adopts (state g first) (state g (conn_of r)) (judged_in r))
    → (HasCleanDisk (state g (conn_of r)) → HasOlder (state g first) → (state g first).in_transaction ≡ false → CarriesOver (state g first) (state g (conn_of r)) (judged_in r))
    → IfOk r (λ vault. (old : Held S) (c : Contents) → HasCleanDisk (state g vault.conn) → StopsCarrying (state gs old) stopped
    → FindsWhole stopped (state g first) → KeepsOlder (state gs old) c → Holds (state g vault.conn) c)
same_carried gs g stopped first (Err refused) law live adopts carries = tt
same_carried gs g stopped first (Ok vault) law live adopts carries = λ old c clean s f k.
    let was = state gs old in
    let now = state g first in
    elim (s.left now.committed.trees f.left) [
      | inl may ↦
          let same : now.now ≡ was.now = found_old now was stopped (law old) f.opened live s may in
          let it = carries clean (subst IsOld (sym same) s.older.old) f.opened.autocommit in
          it.kept c (subst (λ (d : Database). Keeps (brought_in d.trees) c) (sym same) k)
      | inr new ↦
          let stores = found_new now was c f.opened live new.0 k in
          (adopts clean (inr stores.0)).kept c stores
    ]
