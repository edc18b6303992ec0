-- The words of specs/Frame: of a statement, of two parts, and of a call whole.
use Rattle.std.specs.Prelude.{◌≡◌, ◌⊎◌, IsTrue, ⊤, OnOk, OnErr, IfOk, IfErr, IsErrAnd}
use Rattle.std.proofs.Common.{inl, inr, Result, Ok, Err, refl, subst, sym, ap, ◌∙◌}
use Rattle.sqlite_trees.specs.Tree.{Trees}
use Rattle.sqlite_trees.specs.declared.store.Store.{Ghosts}
use Rattle.sqlite.specs.Held.{Held, state}
use Rattle.sqlite.specs.declared.error.Error.{Error}
use Rattle.sqlite.specs.State.{State, HasCleanDisk, IsUnchanged, Survives}
use Rattle.vault.specs.declared.fault.VaultFault.{VaultFault}
use Rattle.vault.specs.Changes.{Contents}
use Rattle.vault.specs.Calls.{IsDone, IsAnswer}
use Rattle.vault.specs.Stops.{IsOwn}
use Rattle.mailsql.specs.Rows.{Rows, IsOurs, IsReady, HasTables, MayLeave, Changes, IsUndone}
use Rattle.mailsql.specs.Rows.{IsHalted, rows_in}
use Rattle.sqlvault.specs.declared.refusal.Refusal.{Refusal}
use Rattle.sqlvault.specs.Refusals.{answer_of, as_met, fault_of, told}
use Rattle.sqlvault.specs.Keeps.{Keeps}
use Rattle.sqlvault.specs.Stands.{Holds, Leaves, Within, IsEnded}
use Rattle.sqlvault.specs.Adopts.{IsAdoptFault}
use Rattle.sqlvault.specs.Transactions.{Begins, Undoes, Ends, Concludes}
use Rattle.sqlvault.specs.Stops.{LeavesHeld, LeavesOr}
use Rattle.sqlvault.specs.Frame.{IsOk, IsMet, MadeOr, Rests, Looks, Learns, Turns, Acts, Writes}
use Rattle.sqlvault.proofs.AdoptLemmas.{kinds_met}
use Rattle.sqlvault.proofs.HoldsLemmas.{holds_unchanged, holds_undone, holds_changed, refused, met}
use Rattle.sqlvault.proofs.SeesLemmas.{own_met, learns, sees_learnt, sees_then}
use Rattle.sqlvault.proofs.StayLemmas.{clean_before}
use Rattle.sqlvault.proofs.StopLemmas.{not_own, or_said}
use Rattle.sqlvault.proofs.WithinLemmas.{begun, leaves_on, makes, makes_after, step_ok, step_err}
use Rattle.sqlvault.proofs.WithinLemmas.{part_err, ready, makes_none, committed, gone_held}
use Rattle.sqlvault.proofs.WithinLemmas.{goes_still}

-- the connection was clean before a statement
pub was_clean : {S : Type 0} (store : Ghosts S) (old new : Held S) {P : Trees → Type 0}
    → Survives (state store old) (state store new) P → HasCleanDisk (state store new)
    → HasCleanDisk (state store old)
was_clean store old new s = clean_before (state store old) (state store new) s.clean

-- ---- a part that only looks

-- a query that was answered, whatever is then answered of it
pub asked : {S : Type 0} {Own : Type 0} (store : Ghosts S) (old new : Held S)
    → (HasCleanDisk (state store new) → HasTables (state store old)
    → IsUnchanged (state store old) (state store new))
    → Survives (state store old) (state store new) (λ _. IsOurs (state store old).now → ⊥)
    → Looks store old new Own
asked store old new same s = record {
  clean = was_clean store old new s;
  rests = λ clean c h. record {
    held = holds_unchanged (state store old) (state store new) c (same clean h.tables) h;
    up = λ _ _. (same clean h.tables).0.is_open;
    stop = λ up left db may. elim (s.crash clean db may)
        [ inl was ↦ left db was | inr none ↦ absurd (none (h.tables up).0) ];
  };
}

-- a query that met an error
pub failed : {S : Type 0} (store : Ghosts S) (old new : Held S)
    → (HasCleanDisk (state store new) → HasTables (state store old)
    → IsUndone (state store old) (state store new))
    → Survives (state store old) (state store new) (λ _. IsOurs (state store old).now → ⊥)
    → Looks store old new ⊥
failed store old new undone s = record {
  clean = was_clean store old new s;
  rests = λ clean c h. record {
    held = holds_undone (state store old) (state store new) c (undone clean h.tables) h;
    up = λ _ none. absurd none;
    stop = λ up left db may. elim (s.crash clean db may)
        [ inl was ↦ left db was | inr none ↦ absurd (none (h.tables up).0) ];
  };
}

-- an error is not done
pub not_ok : {A E : Type 0} (r : Result A E) (P : E → Type 0) → IsErrAnd r P → IsOk r → ⊥
not_ok (Ok x) P failed own = absurd failed
not_ok (Err e) P failed own = own

-- what the exit of a `?` answers
pub passed : {A E : Type 0} {e : E} {r : Result A E} → IsErrAnd r (λ y. y ≡ e) → r ≡ Err e
passed {r = Ok x} failed = absurd failed
passed {A} {E} {r = Err y} failed = ap (λ (x : E). let r : Result A E = Err x in r) failed

-- two parts, of which the first has its answer
pub looks_then : {S : Type 0} {Own : Type 0} {store : Ghosts S} {old mid new : Held S}
    → Looks store old mid ⊤ → Looks store mid new Own → Looks store old new Own
looks_then a b = record {
  clean = λ clean. a.clean (b.clean clean);
  rests = λ clean c h.
      let first = a.rests (b.clean clean) c h in
      let second = b.rests clean c first.held in
      record {
        held = second.held;
        up = λ up own. second.up (first.up up tt) own;
        stop = λ up left. second.stop (first.up up tt) (first.stop up left);
      };
}

-- no query yet: a loop begins so
pub looks_self : {S : Type 0} {Own : Type 0} (store : Ghosts S) (conn : Held S)
    → Looks store conn conn Own
looks_self store conn = record {
  clean = λ clean. clean;
  rests = λ clean c h. record { held = h; up = λ up _. up; stop = λ _ left. left };
}

-- an answer that is own for less
pub looks_own : {S : Type 0} {Own Less : Type 0} {store : Ghosts S} {old new : Held S}
    → (Less → Own) → Looks store old new Own → Looks store old new Less
looks_own less a = record {
  clean = a.clean;
  rests = λ clean c h. let it = a.rests clean c h in
      record { held = it.held; up = λ up own. it.up up (less own); stop = it.stop };
}

-- a query that tells of what was held what it tells of the rows
pub learnt : {S A : Type 0} (store : Ghosts S) (old new : Held S) (r : Result A Error)
    (Seen : Rows → A → Type 0) (Told : Contents → A → Type 0)
    → (HasCleanDisk (state store new) → HasTables (state store old)
    → OnOk r (IsUnchanged (state store old) (state store new)))
    → (HasCleanDisk (state store new) → HasTables (state store old)
    → OnErr r (IsUndone (state store old) (state store new)))
    → Survives (state store old) (state store new) (λ _. IsOurs (state store old).now → ⊥)
    → (HasCleanDisk (state store new) → HasTables (state store old)
    → IfOk r (Seen (rows_in (state store old).now.trees)))
    → ((rows : Rows) (c : Contents) (x : A) → Keeps rows c → Seen rows x → Told c x)
    → Learns store old new (IsOk r) (λ c. IfOk r (Told c))
learnt store old new r Seen Told same err s seen tell =
    learns (sees_learnt store old new r Seen Told same err s seen tell)

-- two such parts, of which the first has its answer
pub learns_then : {S : Type 0} {Own : Type 0} {store : Ghosts S} {old mid new : Held S}
    {Told More : Contents → Type 0} → Learns store old mid ⊤ Told → Learns store mid new Own More
    → Learns store old new Own (λ c. Told c × More c)
learns_then a b = learns (sees_then a.sees b.sees)

-- ---- a call

-- one that changed nothing
pub looks_whole : {S A : Type 0} {Own : Type 0} {store : Ghosts S} {old new : Held S}
    (Done : Contents → (Contents → Type 0) → Result A VaultFault → Type 0)
    (answered : Result A VaultFault)
    → Looks store old new Own → (IsOwn answered → Own)
    → (HasCleanDisk (state store new) → (c : Contents) → Holds (state store old) c
    → Holds (state store new) c → Done c (Holds (state store new)) answered)
    → Acts store old new Done answered
looks_whole Done answered a own done = record {
  clean = a.clean;
  turns = λ clean c h. let it = a.rests clean c h in record {
    done = done clean c h it.held;
    up = λ up is. it.up up (own is);
    stop = λ up left db may. inl (it.stop up left db may);
  };
}

-- one that learnt its answer
pub learns_whole : {S A : Type 0} {store : Ghosts S} {old new : Held S} {Told : Contents → Type 0}
    (Done : Contents → (Contents → Type 0) → Result A VaultFault → Type 0)
    (answered : Result A VaultFault) → Learns store old new ⊤ Told
    → ((c : Contents) → Told c → Holds (state store new) c → Done c (Holds (state store new)) answered)
    → Acts store old new Done answered
learns_whole Done answered l done = looks_whole Done answered l.looks (λ _. tt)
    (λ clean c h held. done c (l.told clean c h tt).1 held)

-- the same call over another connection that is as this one, as a vault answers it
pub acts_told : {S A : Type 0} (store : Ghosts S)
    (Done : Contents → (Contents → Type 0) → Result A VaultFault → Type 0)
    (old was new now : Held S) (r said : Result A VaultFault)
    → was ≡ old → new ≡ now → r ≡ said → Acts store was now Done said → Acts store old new Done r
acts_told {S} {A} store Done old was new now r said e f same a =
    subst (λ (x : Held S). Acts store x new Done r) e
    (subst (λ (x : Held S). Acts store was x Done r) (sym f)
    (subst (λ (x : Result A VaultFault). Acts store was now Done x) (sym same) a))

pub looks_told : {S A : Type 0} (store : Ghosts S) (old was new now : Held S) (r : Result A Refusal)
    (said : Result A VaultFault)
    → was ≡ old → new ≡ now → said ≡ answer_of r → Looks store was now (IsMet r)
    → Looks store old new (IsOwn said)
looks_told {S} {A} store old was new now r said e f same a =
    subst (λ (x : Held S). Looks store x new (IsOwn said)) e
    (subst (λ (x : Held S). Looks store was x (IsOwn said)) (sym f)
    (subst (λ (x : Result A VaultFault). Looks store was now (IsOwn x)) (sym same)
    (looks_own (own_met r) a)))

-- a look, then a change, whose outcome is as well said so
pub rests_turns : {S : Type 0} {Own Less : Type 0} {store : Ghosts S} {old mid new : Held S}
    {Done Made : (Contents → Type 0) → Type 0} (Said Told : (Contents → Type 0) → Type 0)
    (c : Contents)
    → Rests store old mid ⊤ c → Turns store mid new Own Done Made c
    → ((Held : Contents → Type 0) → Done Held → Said Held)
    → ((Held : Contents → Type 0) → Made Held → Told Held) → (Less → Own)
    → Turns store old new Less Said Told c
rests_turns {store = store} {new = new} {Made = Made} Said Told c first second say tell less =
    record {
      done = say (Holds (state store new)) second.done;
      up = λ up own. second.up (first.up up tt) (less own);
      stop = λ up left. or_said Made Told (state store new) c tell
          (second.stop (first.up up tt) (first.stop up left));
    }

-- a change, whose outcome is as well said so
pub turns_said : {S : Type 0} {Own : Type 0} {store : Ghosts S} {old new : Held S}
    {Done Made : (Contents → Type 0) → Type 0} (Said Told : (Contents → Type 0) → Type 0)
    (c : Contents) → Turns store old new Own Done Made c
    → ((Held : Contents → Type 0) → Done Held → Said Held)
    → ((Held : Contents → Type 0) → Made Held → Told Held)
    → Turns store old new Own Said Told c
turns_said {store = store} {new = new} {Made = Made} Said Told c it say tell = record {
  done = say (Holds (state store new)) it.done;
  up = it.up;
  stop = λ up left. or_said Made Told (state store new) c tell (it.stop up left);
}

-- a call that looked, and then changed records once or not at all
pub looks_turns : {S A : Type 0} {Own : Type 0} {store : Ghosts S} {old mid new : Held S}
    (Done : Contents → (Contents → Type 0) → Result A VaultFault → Type 0)
    (answered : Result A VaultFault)
    → Looks store old mid ⊤ → (HasCleanDisk (state store new) → HasCleanDisk (state store mid))
    → (IsOwn answered → Own)
    → (HasCleanDisk (state store new) → (c : Contents) → Holds (state store old) c
    → Holds (state store mid) c
    → Turns store mid new Own (λ Held. Done c Held answered)
    (λ Held. (x : A) × Done c Held (Ok x)) c)
    → Acts store old new Done answered
looks_turns Done answered look was own turn = record {
  clean = λ clean. look.clean (was clean);
  turns = λ clean c h.
      let first = look.rests (was clean) c h in
      let second = turn clean c h first.held in
      record {
        done = second.done;
        up = λ up is. second.up (first.up up tt) (own is);
        stop = λ up left. second.stop (first.up up tt) (first.stop up left);
      };
}

-- a call that met an error, and changed nothing
pub met_whole : {S A : Type 0} {store : Ghosts S} {old new : Held S} (after : Contents → Contents)
    (expected : Contents → Result A VaultFault) (e : Error) → Looks store old new ⊥
    → Acts store old new (λ c Held answered. IsDone Held c (after c) (expected c) answered)
    (Err (fault_of e))
met_whole {S} {A} {store = store} {new = new} after expected e look =
    looks_whole (λ c Held answered. IsDone Held c (after c) (expected c) answered)
    (Err (fault_of e)) look (not_own A e)
    (λ clean c h held. refused (Holds (state store new)) c (after c) (expected c) e held)

-- ---- a statement outside a transaction, after queries

-- what is known before it: the connection is open, the call is answered so, and the change keeps
-- the rows those of the contents after it
abbrev pub MayChange : {S A : Type 0} (store : Ghosts S) (mid : Held S)
    (Change : Rows → Rows → Type 0) (c after : Contents) (expected : Result A VaultFault) (x : A)
    → Type 0
MayChange store mid Change c after expected x =
    IsTrue (state store mid).is_open × (expected ≡ Ok x)
    × ((from to : Rows) → Change from to → Keeps from c → Keeps to after)

-- if it was made or not, a stop leaves the one or the other
changed_stops : {S A : Type 0} (store : Ghosts S) (mid new : Held S)
    (Change : Rows → Rows → Type 0) (c after : Contents) (expected : Result A VaultFault) (x : A)
    → Survives (state store mid) (state store new) (MayLeave Change (state store mid))
    → MayChange store mid Change c after expected x
    → HasCleanDisk (state store new) → Holds (state store mid) c
    → IsTrue (state store mid).is_open → LeavesHeld (state store mid) c
    → LeavesOr (state store new) c (λ Held. (y : A) × IsDone Held c after expected (Ok y))
changed_stops store mid new Change c after expected x s may clean h up left db is =
    elim (s.crash clean db is) [
      | inl was ↦ inl (left db was)
      | inr made ↦ inr (
        x,
        record {
          answer = may.1;
          held = may.2 (rows_in (state store mid).now.trees) (rows_in db)
              (made (up, h.tables up)).1 (h.rows up);
        },
      )
    ]

-- it was done
pub done_once : {S A : Type 0} {store : Ghosts S} {old mid new : Held S}
    (Change : Rows → Rows → Type 0) (after : Contents → Contents)
    (expected : Contents → Result A VaultFault) (x : A)
    → Looks store old mid ⊤
    → (HasCleanDisk (state store new) → IsReady (state store mid)
    → Changes Change (state store mid) (state store new))
    → Survives (state store mid) (state store new) (MayLeave Change (state store mid))
    → (HasCleanDisk (state store mid) → (c : Contents) → Holds (state store old) c
    → MayChange store mid Change c (after c) (expected c) x)
    → Acts store old new (λ c Held answered. IsDone Held c (after c) (expected c) answered) (Ok x)
done_once {S} {A} {store = store} {old = old} {mid = mid} {new = new} Change after expected x look
    ok s may =
    looks_turns {Own = ⊤} (λ c Held answered. IsDone Held c (after c) (expected c) answered) (Ok x)
    look (was_clean store mid new s) (λ _. tt)
    (λ clean c h held.
    let it = may (was_clean store mid new s clean) c h in
    let change = ok clean (it.0, held.tables it.0) in
    record {
      done = record {
        answer = it.1;
        held = holds_changed Change (state store mid) (state store new) c (after c) change it.2 held;
      };
      up = λ _ _. change.shown.is_open;
      stop = changed_stops store mid new Change c (after c) (expected c) x s it clean held;
    })

-- it met an error
pub met_once : {S A : Type 0} {store : Ghosts S} {old mid new : Held S}
    (Change : Rows → Rows → Type 0) (after : Contents → Contents)
    (expected : Contents → Result A VaultFault) (x : A) (e : Error)
    → Looks store old mid ⊤
    → (HasCleanDisk (state store new) → IsUndone (state store mid) (state store new))
    → Survives (state store mid) (state store new) (MayLeave Change (state store mid))
    → (HasCleanDisk (state store mid) → (c : Contents) → Holds (state store old) c
    → MayChange store mid Change c (after c) (expected c) x)
    → Acts store old new (λ c Held answered. IsDone Held c (after c) (expected c) answered)
    (Err (fault_of e))
met_once {S} {A} {store = store} {old = old} {mid = mid} {new = new} Change after expected x e look
    err s may =
    looks_turns {Own = ⊥} (λ c Held answered. IsDone Held c (after c) (expected c) answered)
    (Err (fault_of e)) look (was_clean store mid new s) (not_own A e)
    (λ clean c h held.
    let it = may (was_clean store mid new s clean) c h in
    record {
      done = refused (Holds (state store new)) c (after c) (expected c) e
          (holds_undone (state store mid) (state store new) c (err clean) held);
      up = λ _ none. absurd none;
      stop = changed_stops store mid new Change c (after c) (expected c) x s it clean held;
    })

-- what is known of it comes of what was learnt
may_change : {S A : Type 0} {store : Ghosts S} {old mid : Held S} {Told : Contents → Type 0}
    (Change : Rows → Rows → Type 0) (after : Contents → Contents)
    (expected : Contents → Result A VaultFault) (x : A) → Learns store old mid ⊤ Told
    → ((c : Contents) → Told c → (expected c ≡ Ok x)
    × ((from to : Rows) → Change from to → Keeps from c → Keeps to (after c)))
    → HasCleanDisk (state store mid) → (c : Contents) → Holds (state store old) c
    → MayChange store mid Change c (after c) (expected c) x
may_change Change after expected x l may clean c h =
    let told = l.told clean c h tt in
    let it = may c told.1 in
    (told.0, it.0, it.1)

pub learns_done : {S A : Type 0} {store : Ghosts S} {old mid new : Held S}
    {Told : Contents → Type 0} (Change : Rows → Rows → Type 0) (after : Contents → Contents)
    (expected : Contents → Result A VaultFault) (x : A) → Learns store old mid ⊤ Told
    → Survives (state store mid) (state store new) (MayLeave Change (state store mid))
    → ((c : Contents) → Told c → (expected c ≡ Ok x)
    × ((from to : Rows) → Change from to → Keeps from c → Keeps to (after c)))
    → (HasCleanDisk (state store new) → IsReady (state store mid)
    → Changes Change (state store mid) (state store new))
    → Acts store old new (λ c Held answered. IsDone Held c (after c) (expected c) answered) (Ok x)
learns_done Change after expected x l s may ok = done_once Change after expected x l.looks ok s
    (may_change Change after expected x l may)

pub learns_met : {S A : Type 0} {store : Ghosts S} {old mid new : Held S}
    {Told : Contents → Type 0} (Change : Rows → Rows → Type 0) (after : Contents → Contents)
    (expected : Contents → Result A VaultFault) (x : A) → Learns store old mid ⊤ Told
    → Survives (state store mid) (state store new) (MayLeave Change (state store mid))
    → ((c : Contents) → Told c → (expected c ≡ Ok x)
    × ((from to : Rows) → Change from to → Keeps from c → Keeps to (after c))) → (e : Error)
    → (HasCleanDisk (state store new) → IsUndone (state store mid) (state store new))
    → Acts store old new (λ c Held answered. IsDone Held c (after c) (expected c) answered)
    (Err (fault_of e))
learns_met Change after expected x l s may e err = met_once Change after expected x e l.looks err s
    (may_change Change after expected x l may)

-- ---- a part of a transaction

-- one statement that was done
pub wrote : {S A : Type 0} (store : Ghosts S) (old new : Held S) (Change : A → Rows → Rows → Type 0)
    (Other : Rows → Rows → Type 0) (x : A)
    → (HasCleanDisk (state store new) → IsReady (state store old)
    → Changes (Change x) (state store old) (state store new))
    → Survives (state store old) (state store new) (MayLeave Other (state store old))
    → Writes store old new Change (Ok x)
wrote store old new Change Other x ok s = record {
  clean = was_clean store old new s;
  made = λ clean base rows w. step_ok (Change x) Other (state store old) (state store new) base rows
      clean (ok clean) s w;
}

-- one that met an error
pub unwritten : {S A : Type 0} (store : Ghosts S) (old new : Held S)
    (Change : A → Rows → Rows → Type 0) (Other : Rows → Rows → Type 0) (e : Error)
    → (HasCleanDisk (state store new) → IsUndone (state store old) (state store new))
    → Survives (state store old) (state store new) (MayLeave Other (state store old))
    → Writes store old new Change (Err e)
unwritten store old new Change Other e err s = record {
  clean = was_clean store old new s;
  made = λ clean base rows w. step_err Other (state store old) (state store new) base rows clean
      (err clean) s w;
}

-- several that met an error
pub halted_in : {S A : Type 0} (store : Ghosts S) (old new : Held S)
    (Change : A → Rows → Rows → Type 0) (Other : Rows → Rows → Type 0) (e : Error)
    → (HasCleanDisk (state store new) → IsReady (state store old)
    → IsTrue (state store old).in_transaction → IsHalted (state store old) (state store new))
    → Survives (state store old) (state store new) (MayLeave Other (state store old))
    → Writes store old new Change (Err e)
halted_in store old new Change Other e err s = record {
  clean = was_clean store old new s;
  made = λ clean base rows w. part_err Other (state store old) (state store new) base rows clean
      (err clean (ready (state store old) base rows w) w.inside) s w;
}

-- one statement, whatever it is answered
pub written : {S : Type 0} (store : Ghosts S) (old new : Held S) (Change : Rows → Rows → Type 0)
    (r : Result (Unit {0}) Error)
    → (HasCleanDisk (state store new) → IsReady (state store old)
    → OnOk r (Changes Change (state store old) (state store new)))
    → (HasCleanDisk (state store new) → OnErr r (IsUndone (state store old) (state store new)))
    → Survives (state store old) (state store new) (MayLeave Change (state store old))
    → Writes store old new (λ _. Change) r
written store old new Change r ok err s = record {
  clean = was_clean store old new s;
  made = λ clean. makes Change Change (state store old) (state store new) r clean (ok clean)
      (err clean) s (λ from to same. same);
}

-- one statement, whose change is as well said so
pub written_as : {S : Type 0} (store : Ghosts S) (old new : Held S)
    (Change Said : Rows → Rows → Type 0) (r : Result (Unit {0}) Error)
    → (HasCleanDisk (state store new) → IsReady (state store old)
    → OnOk r (Changes Change (state store old) (state store new)))
    → (HasCleanDisk (state store new) → OnErr r (IsUndone (state store old) (state store new)))
    → Survives (state store old) (state store new) (MayLeave Change (state store old))
    → ((from to : Rows) → Change from to → Said from to)
    → Writes store old new (λ _. Said) r
written_as store old new Change Said r ok err s say = record {
  clean = was_clean store old new s;
  made = λ clean. makes Change Said (state store old) (state store new) r clean (ok clean)
      (err clean) s say;
}

-- several statements, whatever they are answered
pub written_in : {S : Type 0} (store : Ghosts S) (old new : Held S)
    (Change Other : Rows → Rows → Type 0) (r : Result (Unit {0}) Error)
    → (HasCleanDisk (state store new) → IsReady (state store old)
    → OnOk r (Changes Change (state store old) (state store new)))
    → (HasCleanDisk (state store new) → IsReady (state store old)
    → IsTrue (state store old).in_transaction
    → OnErr r (IsHalted (state store old) (state store new)))
    → Survives (state store old) (state store new) (MayLeave Other (state store old))
    → Writes store old new (λ _. Change) r
written_in store old new Change Other (Ok x) ok err s =
    wrote store old new (λ _. Change) Other x ok s
written_in store old new Change Other (Err e) ok err s =
    halted_in store old new (λ _. Change) Other e err s

-- no statement yet: a loop begins so
pub writes_none : {S : Type 0} (store : Ghosts S) (conn : Held S) (Change : Rows → Rows → Type 0)
    → ((rows : Rows) → Change rows rows)
    → (let r : Result (Unit {0}) Error = Ok tt in Writes store conn conn (λ _. Change) r)
writes_none store conn Change none = record {
  clean = λ clean. clean;
  made = λ clean base rows w. (rows, none rows, w);
}

-- an error that came before the first statement
pub writes_nothing : {S A : Type 0} (store : Ghosts S) (conn : Held S)
    (Change : A → Rows → Rows → Type 0) (r : Result A Error) (P : Error → Type 0) → IsErrAnd r P
    → Writes store conn conn Change r
writes_nothing store conn Change r P failed = record {
  clean = λ clean. clean;
  made = λ clean. makes_none Change (state store conn) r P failed;
}

-- an error is one in place of any change
pub writes_failed : {S A B : Type 0} {store : Ghosts S} {old new : Held S}
    {Change : A → Rows → Rows → Type 0} {Said : B → Rows → Rows → Type 0} {e : Error}
    → Writes store old new Change (Err e) → Writes store old new Said (Err e)
writes_failed it = record { clean = it.clean; made = λ clean. it.made clean }

-- what is known of it if it is done, as a part of the change
pub writes_given : {S Given : Type 0} {store : Ghosts S} {old new : Held S}
    {Change : Rows → Rows → Type 0} (w : Result (Unit {0}) Error) → OnOk w Given
    → Writes store old new (λ _. Change) w → Writes store old new (λ _ from to. Given × Change from to) w
writes_given (Ok x) given it = record {
  clean = it.clean;
  made = λ clean base rows within. let m = it.made clean base rows within in (m.0, (given, m.1), m.2);
}
writes_given (Err e) given it = writes_failed it

-- two parts, of which the first is done
pub writes_then : {S A : Type 0} {store : Ghosts S} {old mid new : Held S}
    (First : A → Rows → Rows → Type 0) (Second Both : Rows → Rows → Type 0) (x : A)
    (r : Result (Unit {0}) Error)
    → Writes store old mid First (Ok x) → Writes store mid new (λ _. Second) r
    → ((from between to : Rows) → First x from between → Second between to → Both from to)
    → Writes store old new (λ _. Both) r
writes_then {store = store} {old = old} {mid = mid} {new = new} First Second Both x r a b both =
    record {
      clean = λ clean. a.clean (b.clean clean);
      made = λ clean. makes_after (First x) Second Both (state store old) (state store mid)
          (state store new) r (a.made (b.clean clean)) (b.made clean) both;
    }

-- the second met an error
pub writes_halted : {S A B : Type 0} {store : Ghosts S} {old mid new : Held S}
    {Second : B → Rows → Rows → Type 0} {e : Error} (First : A → Rows → Rows → Type 0) (x : A)
    → Writes store old mid First (Ok x) → Writes store mid new Second (Err e)
    → Writes store old new Second (Err e)
writes_halted First x a b = record {
  clean = λ clean. a.clean (b.clean clean);
  made = λ clean base rows w. let mid = a.made (b.clean clean) base rows w in
      b.made clean base mid.0 mid.2;
}

-- ---- a transaction

-- the connection was clean before its beginning, and before it was undone
pub begins_clean : {S : Type 0} {store : Ghosts S} {old new : Held S}
    {r : Result (Unit {0}) Error} → Begins store old new r → HasCleanDisk (state store new)
    → HasCleanDisk (state store old)
begins_clean {store = store} {old = old} {new = new} it clean =
    was_clean store old new it.survives clean

pub undoes_clean : {S : Type 0} {store : Ghosts S} {old new : Held S} → Undoes store old new
    → HasCleanDisk (state store new) → HasCleanDisk (state store old)
undoes_clean {store = store} {old = old} {new = new} it clean =
    was_clean store old new it.survives clean

-- that wasn't begun
pub unbegun : {S : Type 0} {store : Ghosts S} {old new : Held S} {e : Error}
    → Begins store old new (Err e) → Looks store old new ⊥
unbegun {store = store} {old = old} {new = new} begins = record {
  clean = was_clean store old new begins.survives;
  rests = λ clean c h. record {
    held = holds_undone (state store old) (state store new) c (begins.err clean) h;
    up = λ _ none. absurd none;
    stop = λ up left. leaves_on
        (λ rows. Keeps rows c) (state store old) (state store new) clean begins.survives left;
  };
}

-- nothing came of it
pub rest : {S : Type 0} {store : Ghosts S} {old new : Held S} {Made : (Contents → Type 0) → Type 0}
    {c : Contents} → Rests store old new ⊥ c → Turns store old new ⊥ (λ Held. Held c) Made c
rest it = record {
  done = it.held;
  up = it.up;
  stop = λ up left db may. inl (it.stop up left db may);
}

-- a part met an error, and the transaction was undone: nothing is changed
pub looks_undone : {S A : Type 0} {store : Ghosts S} {old first last new : Held S}
    {Change : A → Rows → Rows → Type 0} {x : Unit {0}} {e : Error}
    → Begins store old first (Ok x) → Writes store first last Change (Err e)
    → Undoes store last new → Looks store old new ⊥
looks_undone {store = store} {old = old} {first = first} {last = last} {new = new} begins part
    back = record {
      clean = λ clean. begins_clean begins (part.clean (undoes_clean back clean));
      rests = λ clean c h.
          let clean2 = undoes_clean back clean in
          let clean1 = part.clean clean2 in
          let b = begun (state store old) (state store first) c clean1 begins.law
          (begins.ok clean1).1 begins.survives h in
          let halted = part.made clean2 c b.0 b.2 in
          record {
            held = back.holds c clean halted.0;
            up = λ _ none. absurd none;
            stop = λ _ _. leaves_on (λ rows. Keeps rows c) (state store last) (state store new)
                clean back.survives halted.1;
          };
    }

-- the end of one that shows the rows of these contents: it was committed, or an error came
ends_held : {S : Type 0} {store : Ghosts S} {last new : Held S} (r : Result (Unit {0}) Error)
    → Ends store last new r → (base after : Contents) (rows : Rows) → HasCleanDisk (state store new)
    → Within (state store last) base rows → Keeps rows after
    → IsEnded base after (state store new) r
ends_held {store = store} {last = last} {new = new} (Ok x) ends base after rows clean w keeps =
    committed (state store last) (state store new) base after rows (ends.ok clean) w keeps
ends_held {store = store} {last = last} {new = new} (Err e) ends base after rows clean w keeps =
    gone_held (state store last) (state store new) base rows
    (ends.err last clean (goes_still (state store last) base rows w)) w

-- a stop in it leaves the one or the other
ends_leaves : {S : Type 0} {store : Ghosts S} {last new : Held S} {r : Result (Unit {0}) Error}
    → Ends store last new r → (base after : Contents) (rows : Rows) → HasCleanDisk (state store new)
    → Within (state store last) base rows → Keeps rows after
    → Leaves (state store new) (λ left. Keeps left base ⊎ Keeps left after)
ends_leaves ends base after rows clean w keeps db may = elim (ends.stop clean db may) [
  | inl was ↦ inl (w.stop db was)
  | inr made ↦ inr (subst (λ r. Keeps r after) (sym (ap rows_in made ∙ w.rows_are)) keeps)
]

ends_up : {S : Type 0} {store : Ghosts S} {last new : Held S} (r : Result (Unit {0}) Error)
    → Ends store last new r → HasCleanDisk (state store new) → IsOk r
    → IsTrue (state store new).is_open
ends_up (Ok x) ends clean own = (ends.ok clean).is_open
ends_up (Err e) ends clean own = absurd own

made_or : (Made : (Contents → Type 0) → Type 0) (s : State) (c after : Contents)
    (r : Result (Unit {0}) Error) → ((Held : Contents → Type 0) → Held after → Made Held)
    → IsEnded c after s r → MadeOr r Made c (Holds s)
made_or Made s c after (Ok x) say held = say (Holds s) held
made_or Made s c after (Err e) say held = held

-- ---- a transaction that is concluded, whatever was written

-- what is so however its last statement was answered
pub of_ended : {S : Type 0} {store : Ghosts S} {last new : Held S}
    (P : Result (Unit {0}) Refusal → Type 0) (w : Result (Unit {0}) Error)
    (r : Result (Unit {0}) Refusal) → Concludes store last new w r
    → ((ended : Result (Unit {0}) Error) → P (as_met ended)) → P r
of_ended P (Ok x) r it all = subst P (sym it.ends.1) (all it.ends.0)
of_ended P (Err e) r it all = subst P (sym it.undoes.1) (all (Err it.undoes.0))

pub concluded_answer : {S : Type 0} {store : Ghosts S} {last new : Held S}
    (w : Result (Unit {0}) Error) (r : Result (Unit {0}) Refusal) → Concludes store last new w r
    → IsAnswer (Ok tt) (answer_of r)
concluded_answer w r it = of_ended (λ a. IsAnswer (Ok tt) (answer_of a)) w r it at
  where
    at : (ended : Result (Unit {0}) Error) → IsAnswer (Ok tt) (answer_of (as_met ended))
    at (Ok x) = refl
    at (Err e) = met (Ok tt) e

pub concluded_kinds : {S : Type 0} {store : Ghosts S} {last new : Held S}
    (w : Result (Unit {0}) Error) (r : Result (Unit {0}) Refusal) → Concludes store last new w r
    → IfErr r (λ refusal. IsAdoptFault (told refusal))
concluded_kinds w r it = of_ended (λ a. IfErr a (λ refusal. IsAdoptFault (told refusal))) w r it at
  where
    at : (ended : Result (Unit {0}) Error) → IfErr (as_met ended) (λ refusal. IsAdoptFault (told refusal))
    at (Ok x) = tt
    at (Err e) = kinds_met e

-- what its part made of the contents, inside it, is committed, or nothing is
turns_met : {S : Type 0} {store : Ghosts S} {old new : Held S}
    {Made : (Contents → Type 0) → Type 0} (r : Result (Unit {0}) Error) (c : Contents)
    → Turns store old new (IsOk r) (MadeOr r Made c) Made c
    → Turns store old new (IsOk (as_met r)) (MadeOr (as_met r) Made c) Made c
turns_met (Ok x) c it = it
turns_met (Err e) c it = it

pub concluded_in : {S : Type 0} {store : Ghosts S} {old first last new : Held S}
    {Change : Rows → Rows → Type 0} (Made : (Contents → Type 0) → Type 0)
    (w : Result (Unit {0}) Error) (r : Result (Unit {0}) Refusal) (c : Contents) (rows : Rows)
    → Within (state store first) c rows → Writes store first last (λ _. Change) w
    → ((to : Rows) → Change rows to → (after : Contents) × Keeps to after
    × ((Held : Contents → Type 0) → Held after → Made Held))
    → Concludes store last new w r → HasCleanDisk (state store new)
    → Turns store old new (IsOk r) (MadeOr r Made c) Made c
concluded_in {store = store} {old = old} {new = new} Made (Ok x) r c rows within part keeps it clean =
    let made = part.made (it.clean clean) c rows within in
    let k = keeps made.0 made.1 in
    subst (λ (a : Result (Unit {0}) Refusal). Turns store old new (IsOk a) (MadeOr a Made c) Made c)
    (sym it.ends.1) (turns_met it.ends.0 c (record {
      done = made_or Made (state store new) c k.0 it.ends.0 k.2
          (ends_held it.ends.0 it.ends.2 c k.0 made.0 clean made.2 k.1);
      up = λ _ own. ends_up it.ends.0 it.ends.2 clean own;
      stop = λ _ _. or_said (λ Held. Held k.0) Made (state store new) c k.2
          (ends_leaves it.ends.2 c k.0 made.0 clean made.2 k.1);
    }))
concluded_in {store = store} {old = old} {last = last} {new = new} Made (Err e) r c rows within part
    keeps it clean =
    let halted = part.made (it.clean clean) c rows within in
    let back = it.undoes.2 in
    subst (λ (a : Result (Unit {0}) Refusal). Turns store old new (IsOk a) (MadeOr a Made c) Made c)
    (sym it.undoes.1) (record {
      done = back.holds c clean halted.0;
      up = λ _ none. absurd none;
      stop = λ _ _ db may. inl (leaves_on (λ rows. Keeps rows c) (state store last) (state store new)
          clean back.survives halted.1 db may);
    })

-- over these contents
pub concluded_turns : {S : Type 0} {store : Ghosts S} {old first last new : Held S}
    {Change : Rows → Rows → Type 0} {u : Unit {0}} (Made : (Contents → Type 0) → Type 0)
    (w : Result (Unit {0}) Error) (r : Result (Unit {0}) Refusal) (c : Contents)
    → Begins store old first (Ok u) → Writes store first last (λ _. Change) w
    → ((from to : Rows) → Keeps from c → Change from to → (after : Contents) × Keeps to after
    × ((Held : Contents → Type 0) → Held after → Made Held))
    → Concludes store last new w r → HasCleanDisk (state store new) → Holds (state store old) c
    → Turns store old new (IsOk r) (MadeOr r Made c) Made c
concluded_turns {store = store} {old = old} {first = first} Made w r c begins part keeps it clean h =
    let clean1 = part.clean (it.clean clean) in
    let b = begun (state store old) (state store first) c clean1 begins.law (begins.ok clean1).1
    begins.survives h in
    concluded_in Made w r c b.0 b.2 part (λ to change. keeps b.0 to b.1 change) it clean

-- as what a call does
pub turns_done : {S : Type 0} {store : Ghosts S} {old last new : Held S} (c after : Contents)
    (w : Result (Unit {0}) Error) (r : Result (Unit {0}) Refusal) → Concludes store last new w r
    → Turns store old new (IsOk r) (MadeOr r (λ Held. Held after) c) (λ Held. Held after) c
    → Turns store old new (IsOwn (answer_of r)) (λ Held. IsDone Held c after (Ok tt) (answer_of r))
    (λ Held. (y : Unit {0}) × IsDone Held c after (Ok tt) (Ok y)) c
turns_done {store = store} {new = new} c after w r it turns = record {
  done = of_ended (λ a. MadeOr a (λ Held. Held after) c (Holds (state store new))
      → IsDone (Holds (state store new)) c after (Ok tt) (answer_of a)) w r it done turns.done;
  up = λ up own. turns.up up (of_ended (λ a. IsOwn (answer_of a) → IsOk a) w r it own_ok own);
  stop = λ up left. or_said (λ Held. Held after)
      (λ Held. (y : Unit {0}) × IsDone Held c after (Ok tt) (Ok y)) (state store new) c
      (λ Held held. (tt, record { answer = refl; held = held })) (turns.stop up left);
}
  where
    done : (ended : Result (Unit {0}) Error)
        → MadeOr (as_met ended) (λ Held. Held after) c (Holds (state store new))
        → IsDone (Holds (state store new)) c after (Ok tt) (answer_of (as_met ended))
    done (Ok x) held = record { answer = refl; held = held }
    done (Err e) held = refused (Holds (state store new)) c after (Ok tt) e held

    own_ok : (ended : Result (Unit {0}) Error) → IsOwn (answer_of (as_met ended)) → IsOk (as_met ended)
    own_ok (Ok x) own = tt
    own_ok (Err e) own = absurd (not_own (Unit {0}) e own)

-- a call that is one transaction, of which one part made the change
pub concluded_whole : {S : Type 0} {store : Ghosts S} {old first last new : Held S}
    {Change : Rows → Rows → Type 0} {u : Unit {0}} (after : Contents → Contents)
    (w : Result (Unit {0}) Error) (r : Result (Unit {0}) Refusal)
    → Begins store old first (Ok u) → Writes store first last (λ _. Change) w
    → ((c : Contents) (from to : Rows) → Keeps from c → Change from to → Keeps to (after c))
    → Concludes store last new w r
    → Acts store old new (λ c Held answered. IsDone Held c (after c) (Ok tt) answered) (answer_of r)
concluded_whole after w r begins part keeps it = record {
  clean = λ clean. begins_clean begins (part.clean (it.clean clean));
  turns = λ clean c h. turns_done c (after c) w r it (concluded_turns (λ Held. Held (after c)) w r c
      begins part (λ from to kept change. (after c, keeps c from to kept change, λ Held held. held))
      it clean h);
}

-- one that keeps the rows those of the contents only looks
pub concluded_looks : {S : Type 0} {store : Ghosts S} {old first last new : Held S}
    {Change : Rows → Rows → Type 0} {u : Unit {0}} (w : Result (Unit {0}) Error)
    (r : Result (Unit {0}) Refusal)
    → Begins store old first (Ok u) → Writes store first last (λ _. Change) w
    → ((c : Contents) (from to : Rows) → Keeps from c → Change from to → Keeps to c)
    → Concludes store last new w r → Looks store old new (IsMet r)
concluded_looks {store = store} {new = new} w r begins part keeps it = record {
  clean = λ clean. begins_clean begins (part.clean (it.clean clean));
  rests = λ clean c h.
      let turns = concluded_turns (λ Held. Held c) w r c begins part
      (λ from to kept change. (c, keeps c from to kept change, λ Held held. held)) it clean h in
      record {
        held = of_ended (λ a. MadeOr a (λ Held. Held c) c (Holds (state store new))
            → Holds (state store new) c) w r it (held c) turns.done;
        up = λ up own. turns.up up (of_ended (λ a. IsMet a → IsOk a) w r it met_ok own);
        stop = λ up left db may. elim (turns.stop up left db may) [ inl was ↦ was | inr made ↦ made ];
      };
}
  where
    held : (c : Contents) (ended : Result (Unit {0}) Error)
        → MadeOr (as_met ended) (λ Held. Held c) c (Holds (state store new)) → Holds (state store new) c
    held c (Ok x) it = it
    held c (Err e) it = it

    met_ok : (ended : Result (Unit {0}) Error) → IsMet (as_met ended) → IsOk (as_met ended)
    met_ok (Ok x) own = tt
    met_ok (Err e) own = own
