-- What each statement outside a transaction leaves of what is held, and how a refusal is answered.
use Rattle.std.proofs.Common.{◌≡◌, inl, inr, Bool, true, false, cond, IsTrue, Result, Ok, Err, refl, sym, ap, subst, ◌∙◌, true≢false}
use Rattle.std.specs.Prelude.{OnOk, is_ok}
use Rattle.sqlite.specs.Effect.{Database}
use Rattle.sqlite.specs.declared.error.Error.{Error}
use Rattle.sqlite.specs.State.{State, IsUnchanged, IsRolledBack}
use Rattle.vault.specs.declared.fault.VaultFault.{VaultFault}
use Rattle.vault.specs.declared.fault.VaultFault.TheVariants as fault
use Rattle.vault.specs.Changes.{Contents, AreSound}
use Rattle.vault.specs.Calls.{IsAnswer, IsDone, IsRefusal}
use Rattle.mailsql.specs.Rows.{Rows, rows_in, IsKept, Changes, IsUndone}
use Rattle.sqlvault.specs.Keeps.{Keeps}
use Rattle.sqlvault.specs.Stands.{Holds}
use Rattle.sqlvault.specs.Refusals.{is_memory, fault_of}

-- the rows that a query saw
pub seen : (old new : State) (c : Contents) → IsUnchanged old new → Holds old c → Keeps (rows_in old.now.trees) c
seen old new c same h = h.rows same.0.was_open

pub holds_unchanged : (old new : State) (c : Contents) → IsUnchanged old new → Holds old c → Holds new c
holds_unchanged old new c same h = record {
  autocommit = same.0.mode ∙ h.autocommit;
  tables = λ _. subst IsKept (sym same.0.now_is) (h.tables same.0.was_open);
  settled = λ _. same.0.committed_is ∙ h.settled same.0.was_open ∙ sym same.0.now_is;
  rows = λ _. subst (λ (d : Database). Keeps (rows_in d.trees) c) (sym same.0.now_is) (h.rows same.0.was_open);
  sound = h.sound;
}

-- outside a transaction, over a database that is committed
pub holds_at : (d : Database) (s : State) (c : Contents) → s.in_transaction ≡ false → (IsTrue s.is_open → (s.now ≡ d) × (s.committed ≡ d))
    → (IsTrue s.is_open → IsKept d × Keeps (rows_in d.trees) c) → AreSound c → Holds s c
holds_at d s c out at kept sound = record {
  autocommit = out;
  tables = λ o. subst IsKept (sym (at o).0) (kept o).0;
  settled = λ o. (at o).1 ∙ sym (at o).0;
  rows = λ o. subst (λ (x : Database). Keeps (rows_in x.trees) c) (sym (at o).0) (kept o).1;
  sound = sound;
}

holds_rolled_back : (old new : State) (c : Contents) → IsRolledBack old new → Holds old c → Holds new c
holds_rolled_back old new c back h = holds_at old.now new c back.autocommit
    (λ o. let e = h.settled (back.was_open o) in ((back.undone o).0 ∙ e, (back.undone o).1 ∙ e))
    (λ o. (h.tables (back.was_open o), h.rows (back.was_open o))) h.sound

pub holds_undone : (old new : State) (c : Contents) → IsUndone old new → Holds old c → Holds new c
holds_undone old new c (inl same) h = holds_unchanged old new c same h
holds_undone old new c (inr back) h = holds_rolled_back old new c back h

-- a change outside a transaction is committed
pub holds_changed : (Change : Rows → Rows → Type 0) (old new : State) (c after : Contents) → Changes Change old new
    → ((from to : Rows) → Change from to → Keeps from c → Keeps to after) → Holds old c → Holds new after
holds_changed Change old new c after it keeps h = record {
  autocommit = it.shown.mode ∙ h.autocommit;
  tables = λ _. it.kept;
  settled = λ _. it.shown.committed_is ∙ ap (λ b. cond b old.committed new.now) h.autocommit;
  rows = λ _. keeps (rows_in old.now.trees) (rows_in new.now.trees) it.change (h.rows it.shown.was_open);
  sound = (keeps (rows_in old.now.trees) (rows_in new.now.trees) it.change (h.rows it.shown.was_open)).sound;
}

-- ---- refusals

-- a statement's error may stand in place of any answer
pub met : {A : Type 0} (expected : Result A VaultFault) (e : Error) → IsRefusal expected (fault_of e)
met {A} expected e = go (is_memory e)
  where
    go : (b : Bool) → IsRefusal expected (cond b fault.NoMemory fault.Store)
    go true = tt
    go false = tt

-- so a call is done that met an error and changed nothing
pub refused : {A : Type 0} (Held : Contents → Type 0) (before after : Contents) (expected : Result A VaultFault) (e : Error) → Held before → IsDone Held before after expected (Err (fault_of e))
refused Held before after expected e h = record { answer = met expected e; held = h }

-- the refusals of every call
pub refusal_any : {A : Type 0} (expected : Result A VaultFault) (e : VaultFault)
    → (let r : Result (Unit {0}) VaultFault = Ok tt in IsRefusal r e) → IsRefusal expected e
refusal_any expected fault.Store is = tt
refusal_any expected fault.NoMemory is = tt
refusal_any expected fault.NoMaildrop is = absurd (true≢false (ap is_ok is))
refusal_any expected fault.Conflict is = absurd (true≢false (ap is_ok is))
refusal_any expected fault.Full is = absurd (true≢false (ap is_ok is))
refusal_any expected fault.NotEmpty is = absurd (true≢false (ap is_ok is))
refusal_any expected fault.NotOurs is = absurd (true≢false (ap is_ok is))
refusal_any expected fault.OldVersion is = absurd (true≢false (ap is_ok is))
refusal_any expected fault.NoClerk is = absurd (true≢false (ap is_ok is))

-- ---- the expected answer

same_refusal : (A : Type 0) (e : VaultFault) → (let r : Result A VaultFault = Err e in IsRefusal r e)
same_refusal A fault.Store = tt
same_refusal A fault.NoMemory = tt
same_refusal A e = refl

pub same_answer : {A : Type 0} (r : Result A VaultFault) → IsAnswer r r
same_answer {A} (Ok x) = refl
same_answer {A} (Err e) = same_refusal A e

-- an answer that is the expected one
pub same_so : {A : Type 0} (expected answered : Result A VaultFault) → expected ≡ answered → IsAnswer expected answered
same_so {A} expected answered is = subst (λ (r : Result A VaultFault). IsAnswer r answered) (sym is) (same_answer answered)

-- ---- a result that is passed on

pub any_ok : {A : Type 0} (P : Type 0) (r : Result A Error) → P → OnOk r P
any_ok P (Ok x) p = p
any_ok P (Err e) p = tt
