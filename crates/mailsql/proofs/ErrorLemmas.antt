-- What the error of a read tells.
use Rattle.std.proofs.Common.{◌≡◌, ◌<◌, IsTrue, Bool, inl, inr, ℕ, pos, length, List, [], ◌∷◌, Ok, Err, Result, sym, subst}
use Rattle.std.specs.Prelude.{IfOk, IfErr, OnOk, OnErr}
use Rattle.std.specs.List.{AllByRecursion}
use Rattle.sqlite_value.specs.declared.value.Value.TheVariants.{Int}
use Rattle.sqlite_value.specs.Order.{Row, column}
use Rattle.sqlite_trees.specs.Tree.{Trees}
use Rattle.sqlite_sql.specs.Term.{Term, eval_all}
use Rattle.sqlite_sql.specs.Program.{overlay}
use Rattle.sqlite_rules.specs.Lists.{Has}
use Rattle.sqlite.specs.Effect.{IsDatabase}
use Rattle.sqlite.specs.declared.error.Error.{Error}
use Rattle.sqlite.specs.State.{State, IsLive, Shown, QueriesRow, IsUnchanged}
use Rattle.mailsql.specs.Tables.{schema_of}
use Rattle.mailsql.specs.Rows.{is_carried, AreKeyed, IsKept, HasTables, IsUndone}
use Rattle.mailsql.specs.Errors.{IsWantOfMemory, FailsToRead, FailsToReadAs, FailsToCountAs}
use Rattle.mailsql.proofs.ResultLemmas.{if_err}
use Rattle.mailsql.proofs.StateLemmas.{query_undone}
use Rattle.mailsql.proofs.ReadLemmas.{Asks, same_of, each_of}
use Rattle.mailsql.proofs.QueryLemmas.{shown_open}
use Rattle.sqlite_schema.specs.declared.schema.Schema.{Schema}

-- the rows that were shown hold what a record is made of, so only memory can be wanting for it
pub fails_to_read : {X : Type 0} (Holds : Row → Type 0) (text : List ℕ) (params : Row) (old new : State) (lent rows : List Row) (lend : lent ≡ rows)
    → Shown text params old new rows → AllByRecursion Holds rows → (r : Result X Error)
    → (AllByRecursion Holds lent → IfErr r IsWantOfMemory) → IfErr r (FailsToRead text params old new)
fails_to_read Holds text params old new lent rows lend shown held r wants = if_err r _ _ (λ e want. inr (want, rows, shown)) (wants (subst (AllByRecursion Holds) (sym lend) held))

-- what was read of the rows that were shown
pub reads : {X : Type 0} (text : List ℕ) (params : Row) (old new : State) (lent rows : List Row) (lend : lent ≡ rows) → Shown text params old new rows
    → (r : Result X Error) (Reads : X → List Row → Type 0) → IfOk r (λ x. Reads x lent)
    → IfOk r (λ x. (rows : List Row) × Shown text params old new rows × Reads x rows)
reads text params old new lent rows lend shown (Ok x) Reads h = (rows, shown, subst (Reads x) lend h)
reads text params old new lent rows lend shown (Err e) Reads h = tt

-- and what that is
pub asked_ok : {X : Type 0} (text : List ℕ) (params : Row) (old new : State) (r : Result X Error) (Reads : X → List Row → Type 0) (Is : X → Type 0)
    → IfOk r (λ x. (rows : List Row) × Shown text params old new rows × Reads x rows)
    → ((x : X) (rows : List Row) → Shown text params old new rows → Reads x rows → Is x) → IfOk r Is
asked_ok text params old new (Ok x) Reads Is it so = so x it.0 it.1 it.2
asked_ok text params old new (Err e) Reads Is it so = tt

module _ (schema : Schema) (sql : List ℕ) (t : ℕ) (terms project : List Term) (names : List (List ℕ)) (asks : Asks schema sql t terms project names)
    (placed : (db : Trees) → overlay db [] t ≡ db t) (old new : State) (params : Row)
    (ours : IsTrue old.is_open → old.now.schema ≡ schema) where
  -- a query of one table changes nothing
  pub asked_same_of : {X : Type 0} (r : Result X Error) (Reads : X → List Row → Type 0) → IfOk r (λ x. (rows : List Row) × Shown sql params old new rows × Reads x rows) → OnOk r (IsUnchanged old new)
  asked_same_of (Ok x) Reads it = same_of schema sql t terms project names asks placed old new params it.0 (ours (shown_open sql params old new it.0 it.1)) it.1
  asked_same_of (Err e) Reads it = tt

  pub asked_undone_of : {X : Type 0} (r : Result X Error) (Holds : Row → Type 0) → IfErr r (FailsToReadAs Holds sql params old new) → OnErr r (IsUndone old new)
  asked_undone_of (Ok x) Holds h = tt
  asked_undone_of (Err e) Holds (inl fails) = query_undone old new sql params e fails
  asked_undone_of (Err e) Holds (inr it) = inl (same_of schema sql t terms project names asks placed old new params it.0 (ours (shown_open sql params old new it.0 it.1)) it.1)

  -- its rows hold what a record is made of, so only memory can be wanting for it
  pub asked_fails_of : {X : Type 0} (r : Result X Error) (Holds : Row → Type 0) → (IsTrue old.is_open → AreKeyed (old.now.trees t))
      → (IsTrue old.is_open → (row : Row) → Has (old.now.trees t) row → Holds (eval_all project (params ∷ row ∷ [])))
      → IfErr r (FailsToReadAs Holds sql params old new) → IfErr r (FailsToRead sql params old new)
  asked_fails_of (Ok x) Holds keyed held h = tt
  asked_fails_of (Err e) Holds keyed held (inl fails) = inl fails
  asked_fails_of (Err e) Holds keyed held (inr it) =
      let up = shown_open sql params old new it.0 it.1 in
      inr (it.2 (each_of schema sql t terms project names asks placed old new params it.0 (ours up) it.1 Holds (keyed up) (held up)), it.0, it.1)

module _ (sql : List ℕ) (at : (carried : Bool) → ℕ) (terms project : List Term) (names : List (List ℕ))
    (asks : (c : Bool) → Asks (schema_of c) sql (at c) terms project names) (placed : (c : Bool) (db : Trees) → overlay db [] (at c) ≡ db (at c))
    (old new : State) (params : Row) (tables : HasTables old) where
  abbrev c : Bool
  c = is_carried old.now.trees

  pub asked_same : {X : Type 0} (r : Result X Error) (Reads : X → List Row → Type 0) → IfOk r (λ x. (rows : List Row) × Shown sql params old new rows × Reads x rows) → OnOk r (IsUnchanged old new)
  asked_same = asked_same_of (schema_of c) sql (at c) terms project names (asks c) (placed c) old new params (λ up. (tables up).0)

  pub asked_undone : {X : Type 0} (r : Result X Error) (Holds : Row → Type 0) → IfErr r (FailsToReadAs Holds sql params old new) → OnErr r (IsUndone old new)
  asked_undone = asked_undone_of (schema_of c) sql (at c) terms project names (asks c) (placed c) old new params (λ up. (tables up).0)

  pub asked_fails : {X : Type 0} (r : Result X Error) (Holds : Row → Type 0) → IsLive old → (IsKept old.now → AreKeyed (old.now.trees (at c)))
      → (IsKept old.now → IsDatabase old.now → (row : Row) → Has (old.now.trees (at c)) row → Holds (eval_all project (params ∷ row ∷ [])))
      → IfErr r (FailsToReadAs Holds sql params old new) → IfErr r (FailsToRead sql params old new)
  asked_fails r Holds live keyed held =
      asked_fails_of (schema_of c) sql (at c) terms project names (asks c) (placed c) old new params (λ up. (tables up).0) r Holds (λ up. keyed (tables up)) (λ up. held (tables up) (live up).0)

-- of a table without types, only if the rows hold what a record is made of
pub fails_to_read_as : {X : Type 0} (Holds : Row → Type 0) (text : List ℕ) (params : Row) (old new : State) (lent rows : List Row) (lend : lent ≡ rows)
    → Shown text params old new rows → (r : Result X Error)
    → (AllByRecursion Holds lent → IfErr r IsWantOfMemory) → IfErr r (FailsToReadAs Holds text params old new)
fails_to_read_as Holds text params old new lent rows lend shown r wants = given r (λ held. wants (subst (AllByRecursion Holds) (sym lend) held))
  where
    given : {X : Type 0} (r : Result X Error) → (AllByRecursion Holds rows → IfErr r IsWantOfMemory) → IfErr r (FailsToReadAs Holds text params old new)
    given (Ok x) want = tt
    given (Err e) want = inr (rows, shown, want)

pub counts : (text : List ℕ) (params : Row) (old new : State) (row : Row) → QueriesRow text params old new (Ok row) → (r : Result ℕ Error)
    → IfOk r (λ n. (0 < length row) × (column row 0 ≡ Int (pos n)))
    → IfOk r (λ n. (row : Row) × QueriesRow text params old new (Ok row) × (0 < length row) × (column row 0 ≡ Int (pos n)))
counts text params old new row shown (Ok n) h = (row, shown, h.0, h.1)
counts text params old new row shown (Err e) h = tt

-- of a count, only if the row holds a number
pub fails_to_count_as : (text : List ℕ) (params : Row) (old new : State) (row : Row) → QueriesRow text params old new (Ok row) → (r : Result ℕ Error)
    → ((n : ℕ) → column row 0 ≡ Int (pos n) → IfErr r IsWantOfMemory)
    → IfErr r (FailsToCountAs text params old new)
fails_to_count_as text params old new row shown (Ok x) wants = tt
fails_to_count_as text params old new row shown (Err e) wants = inr (row, shown, wants)
