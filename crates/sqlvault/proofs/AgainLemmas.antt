-- A connection that found what a stop might leave, and was then adopted or refused.
use Rattle.std.proofs.Common.{◌≡◌, ◌⊎◌, inl, inr, IsTrue, refl, sym, ap, subst, ◌∙◌}
use Rattle.std.specs.Prelude.{codes, find, Some, Result, Ok, Err, IfOk, IfErr}
use Rattle.sqlite_trees.specs.declared.store.Store.{Ghosts}
use Rattle.sqlite.specs.Held.{Held, state}
use Rattle.sqlite.specs.Effect.{Database}
use Rattle.sqlite.specs.State.{State, HasCleanDisk}
use Rattle.vault.specs.declared.fault.VaultFault.{VaultFault}
use Rattle.vault.specs.declared.fault.VaultFault.TheVariants as fault
use Rattle.vault.specs.Changes.{Contents}
use Rattle.mailsql.specs.declared.rows.MetaRow.{MetaRow}
use Rattle.mailsql.specs.Rows.{Rows, rows_in, is_meta_row}
use Rattle.sqlvault.specs.Keeps.{Keeps, our_meta_row}
use Rattle.sqlvault.specs.Adopts.{IsAdopted, IsRefused, IsKnown, Adopts, IsOfAnotherVersion}
use Rattle.sqlvault.specs.Opened.{Opened, conn_of, judged_in}
use Rattle.sqlvault.specs.Stands.{Holds}
use Rattle.sqlvault.specs.Stops.{LeavesLast, leaves_last}
use Rattle.sqlvault.specs.Again.{FindsLeft, HoldsLeft, RulesOut}
use Rattle.sqlvault.proofs.AgreeLemmas.{may_hold}

-- what it sees is what the stop left
seen_as_left : (stopped first : State) (c : Contents) → FindsLeft stopped first → Keeps (rows_in first.committed.trees) c → Keeps (rows_in first.now.trees) c
seen_as_left stopped first c f k = subst (λ (d : Database). Keeps (rows_in d.trees) c) (sym f.opened.clean) k

left_as_seen : (stopped first : State) (c : Contents) → FindsLeft stopped first → Keeps (rows_in first.now.trees) c → Keeps (rows_in first.committed.trees) c
left_as_seen stopped first c f k = subst (λ (d : Database). Keeps (rows_in d.trees) c) f.opened.clean k

pub holds_left : (stopped first now : State) → FindsLeft stopped first → IsAdopted first now → HoldsLeft stopped now
holds_left stopped first now f a =
    let held = a.held f.tables in
    (held.0, may_hold stopped first.committed.trees held.0 f.left (left_as_seen stopped first held.0 f held.1), a.kept held.0 (f.tables, held.1))

-- between two calls that is what was held
pub holds_same : (stopped first now : State) (c : Contents) → LeavesLast stopped → FindsLeft stopped first → IsAdopted first now → IsTrue stopped.is_open → Holds stopped c → Holds now c
holds_same stopped first now c law f a up h = a.kept c (f.tables, seen_as_left stopped first c f (leaves_last stopped c law up h first.committed.trees f.left))

-- rows under another version row are no contents
marked_otherwise : (rows : Rows) (c : Contents) → IsOfAnotherVersion rows → Keeps rows c → ⊥
marked_otherwise rows c (meta_row, found, other) k =
    let same : Some our_meta_row ≡ Some meta_row = sym (ap (find (is_meta_row (codes "popbox"))) k.meta_row) ∙ found in
    let e : our_meta_row ≡ meta_row = cc in
    other (sym (ap (λ (m : MetaRow). m.value) e))

-- if no contents have the rows, any might be left
none_kept : (stopped first : State) → FindsLeft stopped first → RulesOut stopped → ((c : Contents) → Keeps (rows_in first.now.trees) c → ⊥) → ⊥
none_kept stopped first f out none = out.1 (first.committed.trees, f.left, λ c k. absurd (none c (seen_as_left stopped first c f k)))

refused_again : (stopped first : State) (it : VaultFault) → FindsLeft stopped first → (((c : Contents) → Keeps (rows_in first.now.trees) c → ⊥) → ⊥)
    → IsRefused first it → (it ≡ fault.Store) ⊎ (it ≡ fault.NoMemory)
refused_again stopped first fault.Store f some r = inl refl
refused_again stopped first fault.NoMemory f some r = inr refl
refused_again stopped first fault.NotOurs f some r = absurd (some (λ c k. (r.outside f.opened.autocommit).1 c (f.tables, k)))
refused_again stopped first fault.OldVersion f some r = absurd (some (λ c k. marked_otherwise (rows_in first.now.trees) c (r.2 f.tables) k))
refused_again stopped first fault.NoMaildrop f some r = absurd r
refused_again stopped first fault.Conflict f some r = absurd r
refused_again stopped first fault.Full f some r = absurd r
refused_again stopped first fault.NotEmpty f some r = absurd r
refused_again stopped first fault.NoClerk f some r = absurd r

-- ---- what adopting it answers

-- what `adopt` says of it
abbrev pub IsTold : {S : Type 0} → Ghosts S → Held S → Result (Opened S) (VaultFault × Held S) → Type 0
IsTold g first r = HasCleanDisk (state g (conn_of r)) → IsKnown (state g first) → Adopts (state g first) (state g (conn_of r)) (judged_in r)

pub left_told : {S : Type 0} (g : Ghosts S) (stopped : State) (first : Held S) (r : Result (Opened S) (VaultFault × Held S)) → IsTold g first r
    → IfOk r (λ vault. HasCleanDisk (state g vault.conn) → FindsLeft stopped (state g first) → HoldsLeft stopped (state g vault.conn))
left_told g stopped first (Ok vault) adopts = λ clean f. holds_left stopped (state g first) (state g vault.conn) f (adopts clean (inr f.tables))
left_told g stopped first (Err refused) adopts = tt

pub same_told : {S : Type 0} (g : Ghosts S) (stopped : State) (first : Held S) (r : Result (Opened S) (VaultFault × Held S)) → LeavesLast stopped → IsTold g first r
    → IfOk r (λ vault. (c : Contents) → HasCleanDisk (state g vault.conn) → FindsLeft stopped (state g first) → IsTrue stopped.is_open → Holds stopped c → Holds (state g vault.conn) c)
same_told g stopped first (Ok vault) law adopts = λ c clean f up h. holds_same stopped (state g first) (state g vault.conn) c law f (adopts clean (inr f.tables)) up h
same_told g stopped first (Err refused) law adopts = tt

pub refused_told : {S : Type 0} (g : Ghosts S) (stopped : State) (first : Held S) (r : Result (Opened S) (VaultFault × Held S)) → IsTold g first r
    → IfErr r (λ refused. HasCleanDisk (state g refused.1) → FindsLeft stopped (state g first) → RulesOut stopped → (refused.0 ≡ fault.Store) ⊎ (refused.0 ≡ fault.NoMemory))
refused_told g stopped first (Ok vault) adopts = tt
refused_told g stopped first (Err refused) adopts = λ clean f out. refused_again stopped (state g first) refused.0 f (none_kept stopped (state g first) f out) (adopts clean (inr f.tables))

pub refused_between : {S : Type 0} (g : Ghosts S) (stopped : State) (first : Held S) (r : Result (Opened S) (VaultFault × Held S)) → LeavesLast stopped → IsTold g first r
    → IfErr r (λ refused. (c : Contents) → HasCleanDisk (state g refused.1) → FindsLeft stopped (state g first) → IsTrue stopped.is_open
    → Holds stopped c → (refused.0 ≡ fault.Store) ⊎ (refused.0 ≡ fault.NoMemory))
refused_between g stopped first (Ok vault) law adopts = tt
refused_between g stopped first (Err refused) law adopts = λ c clean f up h. refused_again stopped (state g first) refused.0 f
    (λ none. none c (seen_as_left stopped (state g first) c f (leaves_last stopped c law up h (state g first).committed.trees f.left))) (adopts clean (inr f.tables))
