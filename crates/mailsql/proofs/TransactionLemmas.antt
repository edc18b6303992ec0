-- BEGIN, COMMIT and ROLLBACK mean the same under every schema.
use Rattle.std.proofs.Common.{◌≡◌, inl, inr, ℕ, List, [], append-nil, Bool, true, false, None, Ok, Err, Result, IsTrue, refl, sym, ap, subst, subst₂, ◌∙◌}
use Rattle.sqlite_tied.specs.Compute.{everything}
use Rattle.sqlite_value.specs.Order.{Row}
use Rattle.sqlite_trees.specs.Tree.{Trees}
use Rattle.sqlite_schema.specs.declared.schema.Schema.{Schema}
use Rattle.sqlite_schema.specs.declared.command.Command.{Command}
use Rattle.sqlite_schema.specs.declared.command.Command.TheVariants.{Begin, Commit, Rollback}
use Rattle.sqlite.specs.Listing.{understood}
use Rattle.std.proofs.Common.{length, true≢false, arith}
use Rattle.std.specs.Prelude.{MatchBool, IsSome, OnOk, IfErr}
use Rattle.sqlite_resolve.specs.declared.compiled.Compiled.{Compiled}
use Rattle.sqlite_resolve.specs.declared.error.CompileError.{CompileError}
use Rattle.sqlite.specs.Calls.{IsWrite}
use Rattle.sqlite.specs.declared.error.Error.{Error}
use Rattle.sqlite.specs.State.{ExecutesIn, IsNotRun, IsNoStatement, RunsCommand, shows_rows}
use Rattle.sqlite.specs.State.{State, Executes, CommitsBy, MayCommit, Shows, KeepsCounts, IsRolledBack}
use Rattle.sqlite.proofs.Callers.{IsPlain, command_of, statement_of, runs_as}
use Rattle.mailsql.specs.Statements.{begin_text, commit_text, rollback_text}

begin_is : (schema : Schema) → command_of (understood schema begin_text) ≡ Begin
unfolding understood everything
begin_is schema = refl

commit_is : (schema : Schema) → command_of (understood schema commit_text) ≡ Commit
unfolding understood everything
commit_is schema = refl

rollback_is : (schema : Schema) → command_of (understood schema rollback_text) ≡ Rollback
unfolding understood everything
rollback_is schema = refl

begin_plain : (schema : Schema) → IsPlain (understood schema begin_text)
unfolding understood everything
begin_plain schema = (refl, refl)

commit_plain : (schema : Schema) → IsPlain (understood schema commit_text)
unfolding understood everything
commit_plain schema = (refl, refl)

rollback_plain : (schema : Schema) → IsPlain (understood schema rollback_text)
unfolding understood everything
rollback_plain schema = (refl, refl)

module _ (old new : State) (count : ℕ) where
  pub begins : Executes begin_text [] old new (Ok count) → (old.in_transaction ≡ false) × Shows old new old.now old.committed true × KeepsCounts old new × (count ≡ 0) × (new.marks ≡ old.marks)
  begins h = runs_as begin_text [] old new old.now.schema refl Begin (begin_is old.now.schema) (begin_plain old.now.schema) count h

  pub commits : Executes commit_text [] old new (Ok count) → IsTrue old.in_transaction × Shows old new old.now old.now false × KeepsCounts old new × (count ≡ 0) × (new.marks ≡ [])
  commits h = runs_as commit_text [] old new old.now.schema refl Commit (commit_is old.now.schema) (commit_plain old.now.schema) count h

  pub rolls_back : Executes rollback_text [] old new (Ok count) → IsTrue old.in_transaction × IsRolledBack old new × (count ≡ 0)
  rolls_back h = runs_as rollback_text [] old new old.now.schema refl Rollback (rollback_is old.now.schema) (rollback_plain old.now.schema) count h

pub begun : {X : Type 0} (old new : State) (r : Result X Error) → OnOk r ((count : ℕ) × Executes begin_text [] old new (Ok count))
    → OnOk r ((old.in_transaction ≡ false) × Shows old new old.now old.committed true)
begun old new (Ok x) ran = let it = begins old new ran.0 ran.1 in (it.0, it.1)
begun old new (Err e) ran = tt

pub committed : {X : Type 0} (old new : State) (r : Result X Error) → OnOk r ((count : ℕ) × Executes commit_text [] old new (Ok count))
    → OnOk r (IsTrue old.in_transaction × Shows old new old.now old.now false)
committed old new (Ok x) ran = let it = commits old new ran.0 ran.1 in (it.0, it.1)
committed old new (Err e) ran = tt

pub commits_as : (params : Row) (sql : List ℕ) (command : Command) (old : State) (db : Trees) → command_of (understood old.now.schema sql) ≡ command
    → IsPlain (understood old.now.schema sql) → CommitsBy sql params old db
    → MayCommit old None command (statement_of sql (understood old.now.schema sql)) params db
unfolding CommitsBy
commits_as params sql command old db is plain h =
    let known = sym h.1.is in
    let bare = subst IsPlain (sym known) plain in
    subst₂ (λ k t. MayCommit old None k t params db) (ap command_of known ∙ is) (ap (statement_of sql) known) (rw (bare.0, bare.1, append-nil params) at h.2)

-- a stop during COMMIT leaves the transaction's rows, or what was there
pub commit_commits : (old : State) (db : Trees) → CommitsBy commit_text [] old db → db ≡ old.now.trees
commit_commits old db h = go (commits_as [] commit_text Commit old db (commit_is old.now.schema) (commit_plain old.now.schema) h)
  where
    go : MayCommit old None Commit (statement_of commit_text (understood old.now.schema commit_text)) [] db → db ≡ old.now.trees
    go (inl done) = done.1
    go (inr w) = absurd (let e = w.3 in cc)

pub begin_commits : (old : State) (db : Trees) → ¬ CommitsBy begin_text [] old db
begin_commits old db h = go (commits_as [] begin_text Begin old db (begin_is old.now.schema) (begin_plain old.now.schema) h)
  where
    go : MayCommit old None Begin (statement_of begin_text (understood old.now.schema begin_text)) [] db → ⊥
    go (inl (inl is, same)) = cc
    go (inl (inr named, same)) = let e = named.2 in cc
    go (inr w) = let e = w.3 in cc

-- ---- ROLLBACK is never refused inside a transaction

tail_of : Result Compiled CompileError → ℕ
tail_of (Ok c) = c.tail
tail_of (Err e) = 0

names_of : Result Compiled CompileError → ℕ
names_of (Ok c) = length c.names
names_of (Err e) = 0

is_ok : Result Compiled CompileError → Bool
is_ok (Ok c) = true
is_ok (Err e) = false

rollback_shape : (schema : Schema) → (tail_of (understood schema rollback_text) ≡ 8) × (names_of (understood schema rollback_text) ≡ 0) × (is_ok (understood schema rollback_text) ≡ true)
unfolding understood everything tail_of names_of is_ok
rollback_shape schema = (refl, refl, refl)

no_such : (schema : Schema) (s : State) (e : Error) → s.now.schema ≡ schema → IsNoStatement s rollback_text [] e → ⊥
unfolding tail_of names_of is_ok
no_such schema s e has (inl bad) = let h = rollback_shape s.now.schema in absurd (true≢false (sym h.2 ∙ ap is_ok bad.1))
no_such schema s e has (inr (c, is, inl more)) = let h = rollback_shape s.now.schema in let t : c.tail ≡ 8 = ap tail_of (sym is) ∙ h.0 in more.0 (omega (arith, t))
no_such schema s e has (inr (c, is, inr (inl given))) = let h = rollback_shape s.now.schema in let n : length c.names ≡ 0 = ap names_of (sym is) ∙ h.1 in given.0 (sym n)
no_such schema s e has (inr (c, is, inr (inr timed))) = timed.0 (subst IsPlain is (rollback_plain s.now.schema)).1

command_fails : (old new : State) (c : Compiled) (params : Row) (e : Error) → c.command ≡ Rollback → c.returning ≡ None → IsTrue old.in_transaction
    → RunsCommand old new rollback_text c params (Err e) → IsRolledBack old new
command_fails old new c params e is none inside (inr failed) = failed.3
command_fails old new c params e is none inside (inl (inl (inl (code, inl begins)), same)) = absurd (let x = sym is ∙ begins.0 in cc)
command_fails old new c params e is none inside (inl (inl (inl (code, inr ends)), same)) = absurd (true≢false (sym inside ∙ ends.1))
command_fails old new c params e is none inside (inl (inl (inr (code, name, inl named, free)), same)) = absurd (let x = sym is ∙ named in cc)
command_fails old new c params e is none inside (inl (inl (inr (code, name, inr named, free)), same)) = absurd (let x = sym is ∙ named in cc)
command_fails old new c params e is none inside (inl (inr (inl writes, does), same)) = absurd (subst IsWrite is writes)
command_fails old new c params e is none inside (inl (inr (inr shows, does), same)) = absurd (true≢false (sym (subst IsSome none shows)))

shows_none : (c : Compiled) → c.command ≡ Rollback → c.returning ≡ None → shows_rows false c ≡ false
shows_none c is none = rw (is, none)

alone_fails : (b : Bool) (old new : State) (c : Compiled) (params : Row) (e : Error) (R : Type 0) → b ≡ false → c.command ≡ Rollback → c.returning ≡ None → IsTrue old.in_transaction
    → MatchBool b R (RunsCommand old new rollback_text c params (Err e)) → IsRolledBack old new
alone_fails true old new c params e R off is none inside h = absurd (true≢false off)
alone_fails false old new c params e R off is none inside h = command_fails old new c params e is none inside h

pub rollback_fails : (old new : State) (e : Error) → IsTrue old.in_transaction → Executes rollback_text [] old new (Err e) → IsRolledBack old new
unfolding ExecutesIn IsNotRun
rollback_fails old new e inside (inl (inl none)) = absurd (no_such old.now.schema old e refl none.0)
rollback_fails old new e inside (inl (inr failed)) = failed.3
rollback_fails old new e inside (inr ran) =
    let is = ap command_of (sym ran.1.is) ∙ rollback_is old.now.schema in
    let none = (subst IsPlain ran.1.is (rollback_plain old.now.schema)).0 in
    alone_fails _ old new ran.0 _ e _ (shows_none ran.0 is none) is none inside ran.2

-- so whatever it answers, the transaction is rolled back
pub rollback_undoes : {X : Type 0} (old new : State) (r : Result X Error) → IsTrue old.in_transaction
    → OnOk r ((count : ℕ) × Executes rollback_text [] old new (Ok count)) → IfErr r (λ e. Executes rollback_text [] old new (Err e))
    → IsRolledBack old new
rollback_undoes old new (Ok x) inside ran fails = (rolls_back old new ran.0 ran.1).1
rollback_undoes old new (Err e) inside ran fails = rollback_fails old new e inside fails

pub rollback_commits : (old : State) (db : Trees) → ¬ CommitsBy rollback_text [] old db
rollback_commits old db h = go (commits_as [] rollback_text Rollback old db (rollback_is old.now.schema) (rollback_plain old.now.schema) h)
  where
    go : MayCommit old None Rollback (statement_of rollback_text (understood old.now.schema rollback_text)) [] db → ⊥
    go (inl (inl is, same)) = cc
    go (inl (inr named, same)) = let e = named.2 in cc
    go (inr w) = let e = w.3 in cc
