-- Queries, also inside a transaction (`Sees` of specs/Frame): of one statement, of two parts, and as
-- looks at what is held.
use Rattle.std.specs.Prelude.{◌≡◌, IsTrue, ⊤, OnOk, OnErr, IfOk}
use Rattle.std.proofs.Common.{inl, Result, Ok, Err, subst, sym}
use Rattle.sqlite_trees.specs.declared.store.Store.{Ghosts}
use Rattle.sqlite.specs.Held.{Held, state}
use Rattle.sqlite.specs.Effect.{Database}
use Rattle.sqlite.specs.declared.error.Error.{Error}
use Rattle.sqlite.specs.State.{State, HasCleanDisk, IsUnchanged, Survives}
use Rattle.vault.specs.declared.fault.VaultFault.{VaultFault}
use Rattle.vault.specs.Changes.{Contents, AreSound}
use Rattle.vault.specs.Calls.{IsAnswer, IsDone}
use Rattle.vault.specs.Stops.{IsOwn}
use Rattle.mailsql.specs.Rows.{Rows, IsOurs, HasTables, IsKept, IsUndone, rows_in}
use Rattle.sqlvault.specs.Keeps.{Keeps}
use Rattle.sqlvault.specs.Stands.{Holds}
use Rattle.sqlvault.specs.declared.refusal.Refusal.{Refusal}
use Rattle.sqlvault.specs.declared.refusal.Refusal.TheVariants.{Answered, Met}
use Rattle.sqlvault.specs.Refusals.{answer_of}
use Rattle.sqlvault.specs.Frame.{IsOk, IsMet, Looks, Learns, Sees}
use Rattle.sqlvault.proofs.AdoptLemmas.{unchanged_on, undone_on, tables_on}
use Rattle.sqlvault.proofs.HoldsLemmas.{holds_undone}
use Rattle.sqlvault.proofs.StayLemmas.{clean_before, asked}
use Rattle.sqlvault.proofs.StopLemmas.{not_own}

-- ---- one query

-- that was answered, whatever is then answered of it
pub sees_asked : {S : Type 0} {Own : Type 0} (store : Ghosts S) (old new : Held S)
    {Told : Contents → Type 0}
    → (HasCleanDisk (state store new) → HasTables (state store old)
    → IsUnchanged (state store old) (state store new))
    → Survives (state store old) (state store new) (λ _. IsOurs (state store old).now → ⊥)
    → (HasCleanDisk (state store new) → HasTables (state store old) → (c : Contents)
    → Keeps (rows_in (state store old).now.trees) c → Told c)
    → Sees store old new Own Told
sees_asked store old new same s told = record {
  clean = clean_before (state store old) (state store new) s.clean;
  same = λ clean tables _. same clean tables;
  undone = λ clean tables. inl (same clean tables);
  told = λ clean tables c keeps. told clean tables c (keeps (same clean tables).0.was_open);
  stop = λ clean ready. asked (state store old) (state store new) clean s ready;
}

-- that met an error
pub sees_failed : {S : Type 0} (store : Ghosts S) (old new : Held S) {Told : Contents → Type 0}
    → (HasCleanDisk (state store new) → HasTables (state store old)
    → IsUndone (state store old) (state store new))
    → Survives (state store old) (state store new) (λ _. IsOurs (state store old).now → ⊥)
    → ((c : Contents) → Told c) → Sees store old new ⊥ Told
sees_failed store old new undone s told = record {
  clean = clean_before (state store old) (state store new) s.clean;
  same = λ clean tables own. absurd own;
  undone = undone;
  told = λ clean tables c keeps. told c;
  stop = λ clean ready. asked (state store old) (state store new) clean s ready;
}

-- one that tells of contents what it tells of the rows
pub sees_learnt : {S A : Type 0} (store : Ghosts S) (old new : Held S) (r : Result A Error)
    (Seen : Rows → A → Type 0) (Told : Contents → A → Type 0)
    → (HasCleanDisk (state store new) → HasTables (state store old)
    → OnOk r (IsUnchanged (state store old) (state store new)))
    → (HasCleanDisk (state store new) → HasTables (state store old)
    → OnErr r (IsUndone (state store old) (state store new)))
    → Survives (state store old) (state store new) (λ _. IsOurs (state store old).now → ⊥)
    → (HasCleanDisk (state store new) → HasTables (state store old)
    → IfOk r (Seen (rows_in (state store old).now.trees)))
    → ((rows : Rows) (c : Contents) (x : A) → Keeps rows c → Seen rows x → Told c x)
    → Sees store old new (IsOk r) (λ c. IfOk r (Told c))
sees_learnt store old new (Ok x) Seen Told same err s seen tell =
    sees_asked store old new same s
    (λ clean tables c keeps. tell (rows_in (state store old).now.trees) c x keeps (seen clean tables))
sees_learnt store old new (Err e) Seen Told same err s seen tell =
    sees_failed store old new err s (λ c. tt)

-- ---- two parts, of which the first has its answer

-- contents for which the rows stand after the first
stand_on : (old mid : State) (c : Contents) → IsUnchanged old mid
    → (IsTrue old.is_open → Keeps (rows_in old.now.trees) c)
    → IsTrue mid.is_open → Keeps (rows_in mid.now.trees) c
stand_on old mid c same keeps up =
    subst (λ (d : Database). Keeps (rows_in d.trees) c) (sym same.0.now_is) (keeps same.0.was_open)

pub sees_then : {S : Type 0} {Own : Type 0} {store : Ghosts S} {old mid new : Held S}
    {Told More : Contents → Type 0} → Sees store old mid ⊤ Told → Sees store mid new Own More
    → Sees store old new Own (λ c. Told c × More c)
sees_then {store = store} {old = old} {mid = mid} {new = new} a b = record {
  clean = λ clean. a.clean (b.clean clean);
  same = λ clean tables own.
      let first = a.same (b.clean clean) tables tt in
      unchanged_on (state store old) (state store mid) (state store new) first
      (b.same clean (tables_on (state store old) (state store mid) first tables) own);
  undone = λ clean tables.
      let first = a.same (b.clean clean) tables tt in
      undone_on (state store old) (state store mid) (state store new) first
      (b.undone clean (tables_on (state store old) (state store mid) first tables));
  told = λ clean tables c keeps.
      let first = a.same (b.clean clean) tables tt in (
        a.told (b.clean clean) tables c keeps,
        b.told clean (tables_on (state store old) (state store mid) first tables) c
            (stand_on (state store old) (state store mid) c first keeps),
      );
  stop = λ clean ready db may.
      let before = b.clean clean in
      let first = a.same before (λ _. ready.1) tt in
      a.stop before ready db
      (b.stop clean (first.0.is_open, subst IsKept (sym first.0.now_is) ready.1) db may);
}

-- what was seen, in other words
pub sees_said : {S : Type 0} {Own : Type 0} {store : Ghosts S} {old new : Held S}
    {Told Said : Contents → Type 0} → Sees store old new ⊤ Told
    → ((c : Contents) → AreSound c → Told c → Said c) → Sees store old new Own Said
sees_said a say = record {
  clean = a.clean;
  same = λ clean tables own. a.same clean tables tt;
  undone = a.undone;
  told = λ clean tables c keeps. say c (keeps (a.same clean tables tt).0.was_open).sound
      (a.told clean tables c keeps);
  stop = a.stop;
}

-- an answer that is own for less
pub sees_own : {S : Type 0} {Own Less : Type 0} {store : Ghosts S} {old new : Held S}
    {Told Said : Contents → Type 0} → (Less → Own) → ((c : Contents) → Told c → Said c)
    → Sees store old new Own Told → Sees store old new Less Said
sees_own less say a = record {
  clean = a.clean;
  same = λ clean tables own. a.same clean tables (less own);
  undone = a.undone;
  told = λ clean tables c keeps. say c (a.told clean tables c keeps);
  stop = a.stop;
}

-- ---- of what is held

-- such queries only look
pub sees_looks : {S : Type 0} {Own : Type 0} {store : Ghosts S} {old new : Held S}
    {Told : Contents → Type 0} → Sees store old new Own Told → Looks store old new Own
sees_looks {store = store} {old = old} {new = new} a = record {
  clean = a.clean;
  rests = λ clean c h. record {
    held = holds_undone (state store old) (state store new) c (a.undone clean h.tables) h;
    up = λ up own. (a.same clean h.tables own).0.is_open;
    stop = λ up left db may. left db (a.stop clean (up, h.tables up) db may);
  };
}

-- and say it of what is held
pub learns : {S : Type 0} {Own : Type 0} {store : Ghosts S} {old new : Held S}
    {Told : Contents → Type 0} → Sees store old new Own Told → Learns store old new Own Told
learns a = record {
  sees = a;
  looks = sees_looks a;
  told = λ clean c h own. ((a.same clean h.tables own).0.is_open, a.told clean h.tables c h.rows);
}

-- a call that is answered so, and looks
done_as : {A : Type 0} (Held : Contents → Type 0) (c : Contents) (expected answered : Result A VaultFault)
    → IsAnswer expected answered → Held c → IsDone Held c c expected answered
done_as Held c expected (Ok x) is h = record { answer = is; held = h }
done_as Held c expected (Err e) is h = record { answer = is; held = h }

pub sees_done : {S A : Type 0} {Own : Type 0} {store : Ghosts S} {old new : Held S}
    (expected : Contents → Result A VaultFault) (answered : Result A VaultFault)
    → Sees store old new Own (λ c. IsAnswer (expected c) answered) → (c : Contents)
    → HasCleanDisk (state store new) → Holds (state store old) c
    → IsDone (Holds (state store new)) c c (expected c) answered
sees_done {store = store} {old = old} {new = new} expected answered a c clean h =
    done_as (Holds (state store new)) c (expected c) answered (a.told clean h.tables c h.rows)
    (holds_undone (state store old) (state store new) c (a.undone clean h.tables) h)

-- ---- a call of a vault

-- what is own of an answer was met by no error
pub own_met : {A : Type 0} (r : Result A Refusal) → IsOwn (answer_of r) → IsMet r
own_met (Ok x) own = tt
own_met (Err (Answered f)) own = tt
own_met {A} (Err (Met e)) own = absurd (not_own A e own)

-- the same queries over another connection that is as this one, as a vault answers them
pub sees_told : {S A : Type 0} (store : Ghosts S)
    (Told : Contents → Result A VaultFault → Type 0) (old was new now : Held S)
    (r : Result A Refusal) (said : Result A VaultFault)
    → was ≡ old → new ≡ now → said ≡ answer_of r
    → Sees store was now (IsMet r) (λ c. Told c (answer_of r))
    → Sees store old new (IsOwn said) (λ c. Told c said)
sees_told {S} {A} store Told old was new now r said e f same a =
    subst (λ (x : Held S). Sees store x new (IsOwn said) (λ c. Told c said)) e
    (subst (λ (x : Held S). Sees store was x (IsOwn said) (λ c. Told c said)) (sym f)
    (subst (λ (x : Result A VaultFault). Sees store was now (IsOwn x) (λ c. Told c x)) (sym same)
    (sees_own (own_met r) (λ c told. told) a)))
