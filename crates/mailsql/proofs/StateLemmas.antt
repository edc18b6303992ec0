-- From what a connection's call says to what the rows become.
use Rattle.std.proofs.Common.{◌≡◌, inl, inr, ℕ, List, append-nil, Bool, true, false, Option, Some, None, Ok, Err, refl, sym, ap, subst, subst₂, ◌∙◌, arith}
use Rattle.std.specs.Prelude.{MatchBool}
use Rattle.sqlite_value.specs.Order.{Row}
use Rattle.sqlite_trees.specs.Tree.{Trees}
use Rattle.sqlite_schema.specs.declared.command.Command.{Command}
use Rattle.sqlite_schema.specs.declared.command.Command.TheVariants.{Commit, Release}
use Rattle.sqlite_schema.specs.declared.command.Returning.{Returning}
use Rattle.sqlite_resolve.specs.declared.compiled.Compiled.{Compiled}
use Rattle.sqlite.specs.declared.error.Error.{Error}
use Rattle.sqlite.specs.Effect.{Database, IsDatabase}
use Rattle.sqlite.specs.Does.{Tally, Does}
use Rattle.sqlite.specs.Listing.{understood}
use Rattle.sqlite.specs.State.{State, IsLive, mode_of, Runs, Writes, Executes, ExecutesIn, RunsCommand, CommitsBy, MayCommit, Fails, IsNotRun, IsUnchanged, FailsToQuery}
use Rattle.sqlite.specs.State.{FailsToShow, Survives, CommitsShowing}
use Rattle.sqlite.proofs.StateLemmas.{survives_weaker}
use Rattle.sqlite.proofs.Callers.{IsPlain, command_of, statement_of, runs_as, never_commits}
use Rattle.mailsql.specs.Tables.{schema_of, old_schema}
use Rattle.mailsql.specs.Rows.{Rows, is_carried, rows_in, IsOldSchema, IsOurs, IsKept, IsReady, MayLeave, Changes, IsUndone}

failed_undone : (old new : State) (too_big : Type 0) (e : Error) → Fails old new too_big e → IsUndone old new
failed_undone old new too_big e h = inr h.3

pub not_run_undone : (old new : State) (sql : List ℕ) (params : Row) (e : Error) → IsNotRun old new sql params e → IsUndone old new
unfolding IsNotRun
not_run_undone old new sql params e (inl refused) = inl refused.1
not_run_undone old new sql params e (inr failed) = failed_undone old new _ e failed

command_undone : (old new : State) (sql : List ℕ) (c : Compiled) (params : Row) (e : Error) → RunsCommand old new sql c params (Err e) → IsUndone old new
command_undone old new sql c params e (inl refused) = inl refused.1
command_undone old new sql c params e (inr failed) = failed_undone old new _ e failed

alone_undone : (b : Bool) (old new : State) (sql : List ℕ) (c : Compiled) (params : Row) (e : Error) (R : Type 0)
    → MatchBool b (R × IsUnchanged old new) (RunsCommand old new sql c params (Err e)) → IsUndone old new
alone_undone true old new sql c params e R h = inl h.1
alone_undone false old new sql c params e R h = command_undone old new sql c params e h

-- whatever the statement is, an error undid it
pub error_undone : (old new : State) (sql : List ℕ) (params : Row) (e : Error) → Executes sql params old new (Err e) → IsUndone old new
unfolding ExecutesIn
error_undone old new sql params e (inl none) = not_run_undone old new sql params e none
error_undone old new sql params e (inr ran) = alone_undone _ old new sql ran.0 _ e _ ran.2

to_show_undone : (old new : State) (sql : List ℕ) (c : Compiled) (params : Row) (e : Error) (what : Option Returning) → FailsToShow old new sql c params e what → IsUndone old new
to_show_undone old new sql c params e None h = inl h.3
to_show_undone old new sql c params e (Some what) h = command_undone old new sql c params e h

pub query_undone : (old new : State) (sql : List ℕ) (params : Row) (e : Error) → FailsToQuery sql params old new e → IsUndone old new
unfolding FailsToQuery
query_undone old new sql params e (inl none) = not_run_undone old new sql params e none
query_undone old new sql params e (inr ran) = to_show_undone old new sql ran.0 _ e _ ran.2

-- ---- over a store in one order of the tables

module _ (carried : Bool) (sql : List ℕ) (params : Row) (command : Command) (is : command_of (understood (schema_of carried) sql) ≡ command) (plain : IsPlain (understood (schema_of carried) sql))
    (no_commit : command ≡ Commit → ⊥) (no_release : (name : List ℕ) → command ≡ Release name → ⊥)
    (runs : (old new : State) (text : List ℕ) (count : ℕ) → Runs old new None command text params count → Writes old new None command text params count)
    (Change : Rows → Rows → Type 0)
    (does : (limit : Option ℕ) (s : State) (text : List ℕ) (tally : Tally) (after : Database) → is_carried s.now.trees ≡ carried → IsKept s.now
    → IsDatabase s.now → Does limit (mode_of s) params s.now text None command (Ok (tally, after)) → Change (rows_in s.now.trees) (rows_in after.trees) × IsKept after) where
  ours_is : (s : State) → is_carried s.now.trees ≡ carried → IsOurs s.now → s.now.schema ≡ schema_of carried
  ours_is s e ours = ours ∙ ap schema_of e

  pub changes_in : (old new : State) (count : ℕ) → is_carried old.now.trees ≡ carried → IsReady old → IsLive old → Executes sql params old new (Ok count) → Changes Change old new
  changes_in old new count e ready live h =
      let w = runs old new _ count (runs_as sql params old new (schema_of carried) (ours_is old e ready.1.0) command is plain count h) in
      let made = does old.step_limit old _ w.tally new.now e ready.1 (live ready.0).0 w.changed in
      record { change = made.0; kept = made.1; shown = w.shown }

  commits_as : (old : State) (db : Trees) → is_carried old.now.trees ≡ carried → IsOurs old.now → CommitsBy sql params old db
      → MayCommit old None command (statement_of sql (understood (schema_of carried) sql)) params db
  unfolding CommitsBy
  commits_as old db e ours h =
      let known = sym h.1.is ∙ ap (λ s. understood s sql) (ours_is old e ours) in
      let bare = subst IsPlain (sym known) plain in
      subst₂ (λ k t. MayCommit old None k t params db) (ap command_of known ∙ is) (ap (statement_of sql) known) (rw (bare.0, bare.1, append-nil params) at h.2)

  -- a stop during the call may also leave the change, outside a transaction
  pub commits_in : (old : State) (db : Trees) → is_carried old.now.trees ≡ carried → IsLive old → CommitsBy sql params old db → MayLeave Change old db
  commits_in old db e live h ready = go (commits_as old db e ready.1.0 h)
    where
      go : MayCommit old None command (statement_of sql (understood (schema_of carried) sql)) params db → (old.in_transaction ≡ false) × Change (rows_in old.now.trees) (rows_in db)
      go (inl (inl is', same)) = absurd (no_commit is')
      go (inl (inr named, same)) = absurd (no_release named.0 named.2)
      go (inr w) = (w.0, subst (λ (t : Trees). Change (rows_in old.now.trees) (rows_in t)) (sym w.5) (does old.step_limit old _ w.1 w.2 e ready.1 (live ready.0).0 w.3).0)

-- ---- in either

module _ (sql : List ℕ) (params : Row) (command : (carried : Bool) → Command)
    (is : (c : Bool) → command_of (understood (schema_of c) sql) ≡ command c) (plain : (c : Bool) → IsPlain (understood (schema_of c) sql))
    (no_commit : (c : Bool) → command c ≡ Commit → ⊥) (no_release : (c : Bool) (name : List ℕ) → command c ≡ Release name → ⊥)
    (runs : (c : Bool) (old new : State) (text : List ℕ) (count : ℕ) → Runs old new None (command c) text params count → Writes old new None (command c) text params count)
    (Change : Rows → Rows → Type 0)
    (does : (limit : Option ℕ) (s : State) (text : List ℕ) (tally : Tally) (after : Database) → IsKept s.now → IsDatabase s.now
    → Does limit (mode_of s) params s.now text None (command (is_carried s.now.trees)) (Ok (tally, after)) → Change (rows_in s.now.trees) (rows_in after.trees) × IsKept after) where
  does_in : (carried : Bool) (limit : Option ℕ) (s : State) (text : List ℕ) (tally : Tally) (after : Database) → is_carried s.now.trees ≡ carried
      → IsKept s.now → IsDatabase s.now → Does limit (mode_of s) params s.now text None (command carried) (Ok (tally, after))
      → Change (rows_in s.now.trees) (rows_in after.trees) × IsKept after
  does_in carried limit s text tally after e kept sound h =
      does limit s text tally after kept sound (subst (λ c. Does limit (mode_of s) params s.now text None (command c) (Ok (tally, after))) (sym e) h)

  pub changes : (old new : State) (count : ℕ) → IsReady old → IsLive old → Executes sql params old new (Ok count) → Changes Change old new
  changes old new count = let c = is_carried old.now.trees in changes_in c sql params (command c) (is c) (plain c) (no_commit c) (no_release c) (runs c) Change (does_in c) old new count refl

  pub commits : (old : State) (db : Trees) → IsLive old → CommitsBy sql params old db → MayLeave Change old db
  commits old db = let c = is_carried old.now.trees in commits_in c sql params (command c) (is c) (plain c) (no_commit c) (no_release c) (runs c) Change (does_in c) old db refl

-- nor over an older store
pub never_old : (sql : List ℕ) (params : Row) (old new : State) → ((c : Bool) → IsPlain (understood (old_schema c) sql))
    → Survives old new (CommitsShowing sql params old) → Survives old new (λ _. IsOldSchema old.now → ⊥)
never_old sql params old new plain =
    survives_weaker old new _ _ (λ _ db may ours. never_commits sql params old db (subst (λ s. IsPlain (understood s sql)) (sym ours) (plain (is_carried old.now.trees))) may)

-- a query over a store in one order of the tables commits nothing
pub never_in : (carried : Bool) (sql : List ℕ) (params : Row) (old new : State) → IsPlain (understood (schema_of carried) sql)
    → Survives old new (CommitsShowing sql params old) → Survives old new (λ _. is_carried old.now.trees ≡ carried → ¬ IsOurs old.now)
never_in carried sql params old new plain =
    survives_weaker old new _ _ (λ _ db may is ours. never_commits sql params old db (subst (λ s. IsPlain (understood s sql)) (sym (ours ∙ ap schema_of is)) plain) may)

-- a query that is no write with RETURNING commits nothing
pub never : (sql : List ℕ) (params : Row) (old new : State) → ((c : Bool) → IsPlain (understood (schema_of c) sql))
    → Survives old new (CommitsShowing sql params old) → Survives old new (λ _. ¬ IsOurs old.now)
never sql params old new plain =
    survives_weaker old new _ _ (λ _ db may ours. never_commits sql params old db (subst (λ s. IsPlain (understood s sql)) (sym ours) (plain (is_carried old.now.trees))) may)

-- nothing happened yet
pub survives_nothing : (s : State) (P : Trees → Type 0) → Survives s s P
survives_nothing s P = record { clean = omega arith; shield = λ h. h; counts = omega arith; limit = refl; closes = λ _ h. inl h; crash = λ _ db may. inl may }
