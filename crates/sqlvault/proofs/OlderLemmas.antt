-- The words of specs/Older: queries of an older store, and the transaction that carries it over.
use Rattle.std.proofs.Common.{◌≡◌, ◌⊎◌, inl, Bool, true, false, [], ◌∷◌, sym, ap, subst, ◌∙◌}
use Rattle.std.specs.Prelude.{Result, Ok, Err, OnOk, OnErr}
use Rattle.sqlite_trees.specs.Tree.{Trees}
use Rattle.sqlite_trees.specs.declared.store.Store.{Ghosts}
use Rattle.sqlite.specs.Held.{Held, state}
use Rattle.sqlite.specs.declared.error.Error.{Error}
use Rattle.sqlite.specs.Effect.{Database, IsDatabase}
use Rattle.sqlite.specs.State.{State, HasCleanDisk, Survives, Shows, IsUnchanged}
use Rattle.vault.specs.Changes.{Contents}
use Rattle.mailsql.specs.Changes.{PutsMetaRow}
use Rattle.mailsql.specs.Rows.{Rows, IsOldSchema, HasOldTables, IsKept, IsUndone, IsHalted, IsGone}
use Rattle.mailsql.specs.Rows.{GoesOn, Changes, MayLeave, CompletesTables, completed, rows_in}
use Rattle.mailsql.proofs.ResultLemmas.{on_ok_then, on_err_then}
use Rattle.sqlvault.specs.declared.refusal.Refusal.{Refusal}
use Rattle.sqlvault.specs.declared.refusal.Refusal.TheVariants.{Met}
use Rattle.sqlvault.specs.Carries.{IsOlder, IsOfRows, KeepsOlder, CarriesOver}
use Rattle.sqlvault.specs.Carries.{brought_in, old_meta_row}
use Rattle.sqlvault.specs.Adopts.{StaysAs}
use Rattle.sqlvault.specs.Keeps.{Keeps, our_meta_row}
use Rattle.sqlvault.specs.Moves.{MovesOld, DoesPart, HaltsPart, Part, Builds}
use Rattle.sqlvault.specs.Older.{IsBegunOlder, Brings, AsksOlder, CarriesOlder}
use Rattle.sqlvault.specs.Parts.{Finds}
use Rattle.sqlvault.specs.Refusals.{answer_of, told}
use Rattle.sqlvault.specs.Stands.{LeavesNoMore}
use Rattle.sqlvault.specs.Transactions.{Begins, Undoes}
use Rattle.sqlvault.proofs.AdoptLemmas.{unchanged_on, undone_on, rows_on, stays_gone}
use Rattle.sqlvault.proofs.CarryLemmas.{asked_old, old_on, more_then, nothing_more, looked_on}
use Rattle.sqlvault.proofs.CarryLemmas.{begun_on, order_on, marked_on, brought_on, brought_is}
use Rattle.sqlvault.proofs.CarryLemmas.{our_meta_rows, carried_at, left_at, either}
use Rattle.sqlvault.proofs.CarryLemmas.{either_on, met_uncarried, rows_uncarried, carried_on}
use Rattle.sqlvault.proofs.CarryLemmas.{uncarried_from, stays_result}
use Rattle.sqlvault.proofs.FrameLemmas.{was_clean, undoes_clean}
use Rattle.sqlvault.proofs.MoveLemmas.{then_part, part_then, parts_of, halts_behind, inside_on}

-- ---- queries

on_ok : {A E : Type 0} {P : Type 0} (r : Result A E) → P → OnOk r P
on_ok (Ok x) p = p
on_ok (Err e) p = tt

on_err : {A E : Type 0} {P : Type 0} (r : Result A E) → P → OnErr r P
on_err (Ok x) p = tt
on_err (Err e) p = p

-- one that was answered, whatever is then answered of it
pub looked_older : {S A E : Type 0} (store : Ghosts S) (old new : Held S) (r : Result A E)
    → (HasCleanDisk (state store new) → HasOldTables (state store old)
    → IsUnchanged (state store old) (state store new))
    → Survives (state store old) (state store new) (λ _. IsOldSchema (state store old).now → ⊥)
    → AsksOlder store old new r
looked_older store old new r same s = record {
  clean = was_clean store old new s;
  same = λ clean tables. on_ok r (same clean tables);
  err = λ clean tables. on_err r (inl (same clean tables));
  stop = λ clean is. asked_old (state store old) (state store new) is.0 clean s;
}

-- one after another, which was answered
pub older_then : {S A E : Type 0} (store : Ghosts S) (old mid new : Held S) (r : Result A E)
    → (HasCleanDisk (state store mid) → HasOldTables (state store old)
    → IsUnchanged (state store old) (state store mid))
    → Survives (state store old) (state store mid) (λ _. IsOldSchema (state store old).now → ⊥)
    → AsksOlder store mid new r → AsksOlder store old new r
older_then store old mid new r same s b =
    let s0 = state store old in
    let s1 = state store mid in
    let s2 = state store new in
    record {
      clean = λ clean. was_clean store old mid s (b.clean clean);
      same = λ clean tables.
          let u : IsUnchanged s0 s1 = same (b.clean clean) tables in
          on_ok_then r {Q = IsUnchanged s0 s2} (unchanged_on s0 s1 s2 u)
          (b.same clean (old_on s0 s1 u tables));
      err = λ clean tables.
          let u : IsUnchanged s0 s1 = same (b.clean clean) tables in
          on_err_then r {Q = IsUndone s0 s2} (undone_on s0 s1 s2 u)
          (b.err clean (old_on s0 s1 u tables));
      stop = λ clean is.
          let u : IsUnchanged s0 s1 = same (b.clean clean) (λ _. is) in
          more_then s0 s1 s2 (asked_old s0 s1 is.0 (b.clean clean) s)
          (b.stop clean (old_on s0 s1 u (λ _. is) u.0.is_open));
    }

-- ---- the rows brought to our version

-- the tables are made that weren't there, and the messages moved
pub record Moved (carried : Bool) (old new : Rows) : Type 0 where
  pub made : Rows
  pub rows : made ≡ completed carried old
  pub moves : MovesOld carried made new

module _ (carried : Bool) (s0 s1 : State) (begun : IsBegunOlder carried s0)
    (made : CompletesTables s0 s1) (stop : LeavesNoMore s0 s1) where
  abbrev Completes : Rows → Rows → Type 0
  Completes old new = new ≡ completed carried old

  pub completed_rows : Completes (rows_in s0.now.trees) (rows_in s1.now.trees)
  completed_rows = made.rows ∙ ap (λ b. completed b (rows_in s0.now.trees)) begun.order

  completes : DoesPart Completes s0 s1
  completes =
      record { on = made.on; tables = made.kept; change = completed_rows; stop = stop }

  pub moved_then : (s2 : State) → DoesPart (MovesOld carried) s1 s2
      → DoesPart (Moved carried) s0 s2
  moved_then s2 moves = part_then Completes (MovesOld carried) (Moved carried) s0 s1 s2
      (λ from mid to is m. record { made = mid; rows = is; moves = m }) completes moves

  pub moved_halts : (s2 : State) → HaltsPart s1 s2 → HaltsPart s0 s2
  moved_halts s2 halts = halts_behind Completes s0 s1 s2 completes halts

-- so that the version row is still the old one
abbrev pub MovedFrom : (carried : Bool) → Rows → Rows → Type 0
MovedFrom carried old new = (old.meta_rows ≡ old_meta_row carried ∷ []) × Moved carried old new

-- and our version row put in place of the old one
pub brought_then : (carried : Bool) (Other : Rows → Rows → Type 0) (s0 s1 s2 : State)
    (r : Result (Unit {0}) Error) → IsBegunOlder carried s0 → DoesPart (Moved carried) s0 s1
    → HasCleanDisk s2 → OnOk r (Changes (PutsMetaRow our_meta_row) s1 s2) → OnErr r (IsHalted s1 s2)
    → Survives s1 s2 (MayLeave Other s1) → Part (Brings carried) s0 s2 r
brought_then carried Other s0 s1 s2 r begun moved clean ok err s =
    let first : DoesPart (MovedFrom carried) s0 s1 = record {
      on = moved.on;
      tables = moved.tables;
      change = (begun.meta_row, moved.change);
      stop = moved.stop;
    } in
    then_part (MovedFrom carried) (PutsMetaRow our_meta_row) (Brings carried) s0 s1 s2 r
    (λ from mid to m put. brought_is carried from m.1.made mid to m.1.rows m.1.moves m.0 put) first
    (parts_of (PutsMetaRow our_meta_row) Other s1 s2 r clean (inside_on (Moved carried) s0 s1 moved) ok
    err s)

-- ---- the transaction

-- it was begun
pub record Begun (carried : Bool) (s0 s1 : State) : Type 0 where
  pub older : IsOlder carried s0
  pub shows : Shows s0 s1 s0.now s0.committed true
  pub stop : LeavesNoMore s0 s1

-- the rows are brought to our version in it
pub record Midway (carried : Bool) (s0 s1 s2 : State) : Type 0 where
  pub begun : Begun carried s0 s1
  pub on : GoesOn s1 s2
  pub kept : IsKept s2.now
  pub rows : rows_in s2.now.trees ≡ brought_in s0.now.trees
  pub stop : LeavesNoMore s0 s2

begun_so : (carried : Bool) (s0 s1 : State) → Shows s0 s1 s0.now s0.committed true
    → HasCleanDisk s1 → Survives s0 s1 (λ _. ⊥) → IsOlder carried s0 → Begun carried s0 s1
begun_so carried s0 s1 shows clean s older =
    record { older = older; shows = shows; stop = nothing_more s0 s1 clean s }

-- an error came before the first change
pub unmoved : (s0 s1 : State) (e : Error) → StaysAs s0 s1 → LeavesNoMore s0 s1
    → CarriesOlder s0 s1 (Err (Met e))
unmoved s0 s1 e stays stop =
    record { carried = met_uncarried s0 e; stays = stays; stop = either s0 s1 stop }

module _ (carried : Bool) (s0 s1 : State) (b : Begun carried s0 s1) where
  pub begun_older : IsBegunOlder carried s1
  begun_older = record {
    begun = begun_on carried s0 s1 b.older b.shows;
    order = order_on carried s0 s1 b.older b.shows;
    meta_row = marked_on carried s0 s1 b.older b.shows;
  }

  pub gone_stays : (s2 : State) → IsGone s1 s2 → StaysAs s0 s2
  gone_stays s2 gone = stays_gone s0 s1 s2 b.older.autocommit b.older.settled b.shows gone

  -- an error came, and it was undone
  pub undone_older : (s2 s3 : State) (e : Error) → LeavesNoMore s0 s2 → IsGone s1 s3
      → HasCleanDisk s3 → Survives s2 s3 (λ _. ⊥) → CarriesOlder s0 s3 (Err (Met e))
  undone_older s2 s3 e stop gone clean s = unmoved s0 s3 e (gone_stays s3 gone)
      (more_then s0 s2 s3 stop (nothing_more s2 s3 clean s))

  pub midway : (s2 : State) → DoesPart (Brings carried) s1 s2 → Midway carried s0 s1 s2
  midway s2 d = record {
    begun = b;
    on = d.on;
    kept = d.tables;
    rows = brought_on carried s0 s1 b.older b.shows s2 d.change;
    stop = more_then s0 s1 s2 b.stop d.stop;
  }

module _ (carried : Bool) (s0 s1 s2 : State) (m : Midway carried s0 s1 s2) where
  pub midway_meta_rows : (rows_in s2.now.trees).meta_rows ≡ our_meta_row ∷ []
  midway_meta_rows = our_meta_rows s0.now.trees (rows_in s2.now.trees) m.rows

  -- its rows are looked at
  pub midway_on : (s3 : State) → IsUnchanged s2 s3 → LeavesNoMore s2 s3 → Midway carried s0 s1 s3
  midway_on s3 same stop = record {
    begun = m.begun;
    on = looked_on s1 s2 s3 m.on same;
    kept = subst (λ (d : Database). IsKept d) (sym same.0.now_is) m.kept;
    rows = rows_on s2 s3 same ∙ m.rows;
    stop = more_then s0 s2 s3 m.stop stop;
  }

  -- they are contents
  pub midway_keeps : (b : Bool) → b ≡ true → Finds (Keeps (rows_in s2.now.trees)) b
      → (c : Contents) × KeepsOlder s0 c
  midway_keeps b is found =
      let f = subst (Finds (Keeps (rows_in s2.now.trees))) is found in
      (f.0, subst (λ r. Keeps r f.0) m.rows f.1)

  -- they are none, and it was rolled back
  pub unsound_older : (b : Bool) (s3 s4 : State) (refusal : Refusal) → b ≡ false
      → Finds (Keeps (rows_in s2.now.trees)) b → LeavesNoMore s2 s3 → IsGone s1 s4
      → IsOfRows (told refusal) → HasCleanDisk s4 → Survives s3 s4 (λ _. ⊥)
      → CarriesOlder s0 s4 (Err refusal)
  unsound_older b s3 s4 refusal is found stop gone kinds clean s = record {
    carried = rows_uncarried carried s0 (told refusal) m.begun.older kinds
        (λ k keeps. subst (Finds (Keeps (rows_in s2.now.trees))) is found k
        (subst (λ r. Keeps r k) (sym m.rows) keeps));
    stays = gone_stays carried s0 s1 m.begun s4 gone;
    stop = either s0 s4 (more_then s0 s3 s4 (more_then s0 s2 s3 m.stop stop)
        (nothing_more s3 s4 clean s));
  }

  module _ (listed : IsDatabase s2.now) (held : (c : Contents) × KeepsOlder s0 c) where
    -- it was committed
    pub committed_older : (s3 : State) → Shows s2 s3 s2.now s2.now false
        → ((db : Trees) → s3.may_leave db → s2.may_leave db ⊎ (db ≡ s2.now.trees))
        → CarriesOlder s0 s3 (Ok tt)
    committed_older s3 shows stop = record {
      carried = carried_at carried s0 s2 s3 m.begun.older m.kept m.rows shows
          (held.0, subst (λ r. Keeps r held.0) (sym m.rows) held.1);
      stays = tt;
      stop = left_at s0 s2 s3 listed m.kept m.rows held m.stop stop;
    }

    -- the commit met an error, and it was undone
    pub uncommitted_older : (s3 : State) (e : Error) → IsGone s1 s3
        → ((db : Trees) → s3.may_leave db → s2.may_leave db ⊎ (db ≡ s2.now.trees))
        → CarriesOlder s0 s3 (Err (Met e))
    uncommitted_older s3 e gone stop = record {
      carried = met_uncarried s0 e;
      stays = gone_stays carried s0 s1 m.begun s3 gone;
      stop = left_at s0 s2 s3 listed m.kept m.rows held m.stop stop;
    }

-- ---- over a connection

module _ {S : Type 0} {store : Ghosts S} {first mid : Held S} {x : Unit {0}} (carried : Bool)
    (begins : Begins store first mid (Ok x)) (older : IsOlder carried (state store first)) where
  pub begun_at : HasCleanDisk (state store mid)
      → Begun carried (state store first) (state store mid)
  begun_at clean = begun_so carried (state store first) (state store mid) (begins.ok clean).1 clean
      begins.survives older

  -- a part met an error, and it was undone
  pub halted_at : {e : Error} {last new : Held S} (said : Error)
      → (let r : Result (Unit {0}) Error = Err e in
      Builds store mid last (IsBegunOlder carried) (Brings carried) r)
      → Undoes store last new → HasCleanDisk (state store new)
      → CarriesOlder (state store first) (state store new) (Err (Met said))
  halted_at {last = last} {new = new} said part back clean =
      let s0 = state store first in
      let s1 = state store mid in
      let s2 = state store last in
      let clean2 = undoes_clean back clean in
      let b = begun_at (part.clean clean2) in
      let halts = part.part clean2 (begun_older carried s0 s1 b) in
      undone_older carried s0 s1 b s2 (state store new) said (more_then s0 s1 s2 b.stop halts.stop)
      (back.gone mid clean halts.halted) clean back.survives

  -- the rows were brought to our version
  pub brought_at : {y : Unit {0}} {last : Held S}
      → (let r : Result (Unit {0}) Error = Ok y in
      Builds store mid last (IsBegunOlder carried) (Brings carried) r)
      → HasCleanDisk (state store last)
      → Midway carried (state store first) (state store mid) (state store last)
  brought_at {last = last} part clean =
      let b = begun_at (part.clean clean) in
      midway carried (state store first) (state store mid) b (state store last)
      (part.part clean (begun_older carried (state store first) (state store mid) b))

-- ---- after queries that changed nothing

pub carries_behind : (s0 s1 s2 : State) (r : Result (Unit {0}) Refusal) → IsUnchanged s0 s1
    → LeavesNoMore s0 s1 → CarriesOlder s1 s2 r → CarriesOlder s0 s2 r
carries_behind s0 s1 s2 r same stop it = record {
  carried = over r it.carried;
  stays = stays_result s0 s1 s2 r same it.stays;
  stop = either_on s0 s1 s2 same stop it.stop;
}
  where
    over : (r : Result (Unit {0}) Refusal) → CarriesOver s1 s2 (answer_of r)
        → CarriesOver s0 s2 (answer_of r)
    over (Ok x) is = carried_on s0 s1 s2 same is
    over (Err refusal) is = uncarried_from s0 s1 (told refusal) same is
