-- What a stop leaves after a call.
use Rattle.std.proofs.Common.{◌≡◌, ◌⊎◌, inl, inr, ℕ, List, Bool, true, false, cond, Result, Ok, Err, sym, ap, subst, true≢false}
use Rattle.std.specs.Prelude.{is_ok}
use Rattle.sqlite_trees.specs.declared.store.Store.{Ghosts}
use Rattle.sqlite.specs.Held.{Held as Conn, state}
use Rattle.sqlite.specs.declared.error.Error.{Error}
use Rattle.sqlite.specs.State.{State, HasCleanDisk}
use Rattle.vault.specs.declared.answer.Deposited.{Deposited}
use Rattle.vault.specs.declared.answer.Deposited.TheVariants as stored
use Rattle.vault.specs.declared.fault.VaultFault.{VaultFault}
use Rattle.vault.specs.declared.fault.VaultFault.TheVariants as fault
use Rattle.vault.specs.Changes.{Contents}
use Rattle.vault.specs.Calls.{IsDone, IsDeposited, IsRefusal}
use Rattle.vault.specs.Stops.{SaySame, IsOwn}
use Rattle.mailsql.specs.Rows.{rows_in}
use Rattle.sqlvault.specs.Keeps.{Keeps}
use Rattle.sqlvault.specs.Stands.{Holds}
use Rattle.sqlvault.specs.Refusals.{is_memory, fault_of}
use Rattle.sqlvault.specs.Stops.{MayHold, LeavesHeld, LeavesOr}

-- ---- what comes of a call

-- what comes of a call may be said in other words
pub or_said : (After Said : (Contents → Type 0) → Type 0) (s : State) (c : Contents) → ((Held : Contents → Type 0) → After Held → Said Held) → LeavesOr s c After → LeavesOr s c Said
or_said After Said s c say left db may = elim (left db may) [ inl was ↦ inl was | inr made ↦ inr (say (Keeps (rows_in db)) made) ]

-- a statement's error is no answer of the call's own
pub not_own : (A : Type 0) (e : Error) → (let r : Result A VaultFault = Err (fault_of e) in IsOwn r) → ⊥
not_own A e = at (is_memory e)
  where
    at : (b : Bool) → (let r : Result A VaultFault = Err (cond b fault.NoMemory fault.Store) in IsOwn r) → ⊥
    at true own = own
    at false own = own

-- the refusals of every call are none of a call's own
pub refusal_not_own : (A : Type 0) (e : VaultFault)
    → (let r : Result (Unit {0}) VaultFault = Ok tt in IsRefusal r e)
    → (let r : Result A VaultFault = Err e in IsOwn r) → ⊥
refusal_not_own A fault.Store is own = own
refusal_not_own A fault.NoMemory is own = own
refusal_not_own A fault.NoMaildrop is own = absurd (true≢false (ap is_ok is))
refusal_not_own A fault.Conflict is own = absurd (true≢false (ap is_ok is))
refusal_not_own A fault.Full is own = absurd (true≢false (ap is_ok is))
refusal_not_own A fault.NotEmpty is own = absurd (true≢false (ap is_ok is))
refusal_not_own A fault.NotOurs is own = absurd (true≢false (ap is_ok is))
refusal_not_own A fault.OldVersion is own = absurd (true≢false (ap is_ok is))
refusal_not_own A fault.NoClerk is own = absurd (true≢false (ap is_ok is))

-- ---- a call

pub left_as : (s : State) (c left : Contents) → LeavesHeld s c → MayHold s left → SaySame left c
left_as s c left leaves may = may.2 c (leaves may.0 may.1)

-- a call that changes records
pub left_done : {A : Type 0} (expected : Result A VaultFault) (s : State) (c after left : Contents) → LeavesOr s c (λ Held. (x : A) × IsDone Held c after expected (Ok x)) → MayHold s left
    → SaySame left c ⊎ ((x : A) × IsDone (SaySame left) c after expected (Ok x))
left_done expected s c after left leaves may = elim (leaves may.0 may.1) [
  | inl was ↦ inl (may.2 c was)
  | inr made ↦ inr (made.0, record { answer = made.1.answer; held = may.2 after made.1.held })
]

-- a deposit
pub left_deposited : (s : State) (c left : Contents) (d class id text : List ℕ) → LeavesOr s c (λ Held. (x : Deposited) × IsDeposited Held c d class id text (Ok x)) → MayHold s left
    → SaySame left c ⊎ ((x : Deposited) × IsDeposited (SaySame left) c d class id text (Ok x))
left_deposited s c left d class id text leaves may = elim (leaves may.0 may.1) [
  | inl was ↦ inl (may.2 c was)
  | inr made ↦ inr (made.0, at made.0 made.1)
]
  where
    at : (x : Deposited) → IsDeposited (Keeps (rows_in may.0)) c d class id text (Ok x) → IsDeposited (SaySame left) c d class id text (Ok x)
    at (stored.New uid) k = record { answer = k.answer; held = (k.held.0, may.2 _ k.held.1) }
    at (stored.Known uid) k = record { answer = k.answer; held = may.2 c k.held }

-- ---- a call of a vault, over the connection inside it

pub done_told : {A S : Type 0} (g : Ghosts S) (expected : Result A VaultFault) (old was new now : Conn S) (c after : Contents) (r said : Result A VaultFault) → was ≡ old → new ≡ now → r ≡ said
    → (HasCleanDisk (state g now) → Holds (state g was) c → IsDone (Holds (state g now)) c after expected said) → Holds (state g old) c
    → HasCleanDisk (state g new) → IsDone (Holds (state g new)) c after expected r
done_told {A} {S} g expected old was new now c after r said e f same done h clean =
    let it = done (subst (λ (x : Conn S). HasCleanDisk (state g x)) f clean) (subst (λ (x : Conn S). Holds (state g x) c) (sym e) h) in
    subst (λ (a : Result A VaultFault). IsDone (Holds (state g new)) c after expected a) (sym same) (subst (λ (x : Conn S). IsDone (Holds (state g x)) c after expected said) (sym f) it)

-- a call whose relation is this one
pub done_by : {A S : Type 0} (g : Ghosts S) (Done : (Contents → Type 0) → Result A VaultFault → Type 0) (old was new now : Conn S) (c : Contents) (r said : Result A VaultFault)
    → was ≡ old → new ≡ now → r ≡ said
    → (HasCleanDisk (state g now) → Holds (state g was) c → Done (Holds (state g now)) said) → Holds (state g old) c → HasCleanDisk (state g new) → Done (Holds (state g new)) r
done_by {A} {S} g Done old was new now c r said e f same done h clean =
    let it = done (subst (λ (x : Conn S). HasCleanDisk (state g x)) f clean) (subst (λ (x : Conn S). Holds (state g x) c) (sym e) h) in
    subst (λ (a : Result A VaultFault). Done (Holds (state g new)) a) (sym same) (subst (λ (x : Conn S). Done (Holds (state g x)) said) (sym f) it)
