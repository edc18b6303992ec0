-- Statements of one transaction that carries a store over, and what is left if one is refused.
use Rattle.std.proofs.Common.{◌≡◌, ◌⊎◌, inl, inr, IsTrue, Bool, true, false, cond, not, [], ◌∷◌, ◌++◌, map, filter, refl, sym, ap, subst, ◌∙◌, true≢false}
use Rattle.std.specs.Prelude.{codes, flat_map, find, Some, pos, Result, Ok, Err, OnErr}
use Rattle.sqlite_trees.specs.Tree.{Trees}
use Rattle.sqlite.specs.declared.error.Error.{Error}
use Rattle.sqlite.specs.Effect.{Database, IsDatabase}
use Rattle.sqlite.specs.State.{State, HasCleanDisk, Survives, Shows, IsUnchanged}
use Rattle.vault.specs.declared.fault.VaultFault.TheVariants as fault
use Rattle.vault.specs.Changes.{Contents}
use Rattle.mailsql.specs.Changes.{PutsMetaRow}
use Rattle.mailsql.specs.Uses.{marked}
use Rattle.mailsql.specs.Rows.{Rows, IsOld, IsOldSchema, HasOldTables, rows_in, is_carried, completed, is_meta_row, IsKept, IsReady, IsBegunOn, IsHalted, GoesOn, Changes, MayLeave}
use Rattle.sqlvault.specs.Keeps.{Keeps, our_meta_row, version}
use Rattle.sqlvault.specs.Carries.{HasOlder, IsOfNoVersion, JudgesOlder, IsOfRows, IsOlder, IsCarried, IsUncarried, KeepsOlder, IsStoreOf, LeavesEither, brought, brought_in, old_meta_row}
use Rattle.sqlvault.specs.Moves.{MovesOld, body_head, body_sheets}
use Rattle.sqlvault.specs.Refusals.{is_memory, fault_of}
use Rattle.sqlvault.specs.Adopts.{StaysAs, IsAdoptFault, IsBlank, LeavesEmptyToo}
use Rattle.sqlvault.specs.declared.refusal.Refusal.{Refusal}
use Rattle.mailsql.specs.declared.rows.MetaRow.{MetaRow}
use Rattle.vault.specs.declared.fault.VaultFault.{VaultFault}
use Rattle.sqlvault.specs.Stands.{LeavesNoMore}

-- ---- one statement after another

pub goes_then : (a b c : State) → GoesOn a b → GoesOn b c → GoesOn a c
goes_then a b c p q = record { was_open = p.was_open; is_open = q.is_open; now_is = refl; committed_is = q.committed_is ∙ p.committed_is; mode = q.mode }

pub halted_then : (a b c : State) → GoesOn a b → IsHalted b c → IsHalted a c
halted_then a b c p (inl on) = inl (goes_then a b c p on)
halted_then a b c p (inr gone) = inr (record {
  was_open = λ up. p.was_open;
  undone = λ up. let it = gone.undone up in (it.0 ∙ p.committed_is, it.1 ∙ p.committed_is);
  autocommit = gone.autocommit;
})

-- a change inside the transaction
pub changed_on : (Change : Rows → Rows → Type 0) (a b : State) → a.in_transaction ≡ true → Changes Change a b → GoesOn a b
changed_on Change a b inside c = record {
  was_open = c.shown.was_open;
  is_open = c.shown.is_open;
  now_is = refl;
  committed_is = c.shown.committed_is ∙ ap (λ i. cond i a.committed b.now) inside;
  mode = c.shown.mode ∙ inside;
}

-- a query inside it
pub looked_on : (a b c : State) → GoesOn a b → IsUnchanged b c → GoesOn a c
looked_on a b c p same = record { was_open = p.was_open; is_open = same.0.is_open; now_is = refl; committed_is = same.0.committed_is ∙ p.committed_is; mode = same.0.mode ∙ p.mode }

-- inside it a stop leaves no more
pub no_more_in : (P : Rows → Rows → Type 0) (a b : State) → a.in_transaction ≡ true → IsReady a → HasCleanDisk b → Survives a b (MayLeave P a) → LeavesNoMore a b
no_more_in P a b inside ready clean s db may = elim (s.crash clean db may) [ inl was ↦ was | inr more ↦ absurd (true≢false (sym inside ∙ (more ready).0)) ]

pub completes_no_more : (carried : Bool) (a b : State) → IsBegunOn a → is_carried a.now.trees ≡ carried → HasCleanDisk b
    → Survives a b (λ _. IsBegunOn a → is_carried a.now.trees ≡ carried → ⊥) → LeavesNoMore a b
completes_no_more carried a b begun un clean s db may = elim (s.crash clean db may) [ inl was ↦ was | inr none ↦ absurd (none begun un) ]

pub nothing_more : (a b : State) → HasCleanDisk b → Survives a b (λ _. ⊥) → LeavesNoMore a b
nothing_more a b clean s db may = elim (s.crash clean db may) [ inl was ↦ was | inr none ↦ absurd none ]

pub more_then : (a b c : State) → LeavesNoMore a b → LeavesNoMore b c → LeavesNoMore a c
more_then a b c p q db may = p db (q db may)

-- ---- the rows

meta_rows_put : (carried : Bool) (old : Rows) → old.meta_rows ≡ old_meta_row carried ∷ [] → filter (λ m. not (is_meta_row (codes "popbox") m)) old.meta_rows ++ our_meta_row ∷ [] ≡ our_meta_row ∷ []
meta_rows_put carried old is = ap (λ ms. filter (λ m. not (is_meta_row (codes "popbox") m)) ms ++ our_meta_row ∷ []) is

marked_so : (carried : Bool) (old moved new : Rows) → moved.meta_rows ≡ old.meta_rows → old.meta_rows ≡ old_meta_row carried ∷ []
    → PutsMetaRow our_meta_row moved new → new ≡ record moved { meta_rows = our_meta_row ∷ [] }
marked_so carried old moved new same is put = put ∙ ap (λ ms. let w : Rows = record moved { meta_rows = ms } in w) (meta_rows_put carried moved (same ∙ is))

pub brought_is : (carried : Bool) (old made moved new : Rows) → made ≡ completed carried old → MovesOld carried made moved
    → old.meta_rows ≡ old_meta_row carried ∷ [] → PutsMetaRow our_meta_row moved new → new ≡ brought carried old
brought_is false old made moved new is moves meta_row put =
    marked_so false old moved new (ap (λ (r : Rows). r.meta_rows) (moves ∙ is)) meta_row put
    ∙ ap (λ (r : Rows). let w : Rows = record r { meta_rows = our_meta_row ∷ [] } in w) (moves ∙ is)
brought_is true old made moved new is moves meta_row put =
    let all : moved ≡ record (completed true old) { messages = map body_head old.bodies; sheets = flat_map body_sheets old.bodies; bodies = [] } =
    moves ∙ ap (λ (r : Rows). let w : Rows = record r { messages = r.messages ++ map body_head r.bodies; sheets = r.sheets ++ flat_map body_sheets r.bodies; bodies = [] } in w) is in
    marked_so true old moved new (ap (λ (r : Rows). r.meta_rows) all) meta_row put ∙ ap (λ (r : Rows). let w : Rows = record r { meta_rows = our_meta_row ∷ [] } in w) all

-- ---- the transaction

module _ (carried : Bool) (s0 s1 : State) (older : IsOlder carried s0) (shows : Shows s0 s1 s0.now s0.committed true) where
  pub begun_on : IsBegunOn s1
  begun_on = record { is_open = shows.is_open; inside = shows.mode; old = subst (λ (d : Database). IsOld d) (sym shows.now_is) older.old }

  pub order_on : is_carried s1.now.trees ≡ carried
  order_on = ap (λ (d : Database). is_carried d.trees) shows.now_is ∙ older.order

  pub marked_on : (rows_in s1.now.trees).meta_rows ≡ old_meta_row carried ∷ []
  marked_on = ap (λ (d : Database). (rows_in d.trees).meta_rows) shows.now_is ∙ older.meta_row

  -- the rows are those that were brought over
  pub brought_on : (s2 : State) → rows_in s2.now.trees ≡ brought carried (rows_in s1.now.trees) → rows_in s2.now.trees ≡ brought_in s0.now.trees
  brought_on s2 is = is ∙ ap (λ (d : Database). brought carried (rows_in d.trees)) shows.now_is ∙ ap (λ c. brought c (rows_in s0.now.trees)) (sym older.order)

-- the version row is ours then
pub our_meta_rows : (db : Trees) (rows : Rows) → rows ≡ brought_in db → rows.meta_rows ≡ our_meta_row ∷ []
our_meta_rows db rows is = go (is_carried db) (rows_in db) is
  where
    go : (c : Bool) (old : Rows) → rows ≡ brought c old → rows.meta_rows ≡ our_meta_row ∷ []
    go true old e = ap (λ (r : Rows). r.meta_rows) e
    go false old e = ap (λ (r : Rows). r.meta_rows) e

-- the version row is that of the tables' version
pub own_meta_row : (carried : Bool) (s : State) → IsOlder carried s → (rows_in s.now.trees).meta_rows ≡ old_meta_row (is_carried s.now.trees) ∷ []
own_meta_row carried s older = older.meta_row ∙ ap (λ c. old_meta_row c ∷ []) (sym older.order)

-- it is committed
pub carried_at : (carried : Bool) (s0 s3 s4 : State) → IsOlder carried s0 → IsKept s3.now → rows_in s3.now.trees ≡ brought_in s0.now.trees
    → Shows s3 s4 s3.now s3.now false → (c : Contents) × Keeps (rows_in s3.now.trees) c → IsCarried s0 s4
carried_at carried s0 s3 s4 older kept is shows found = record {
  is_open = shows.is_open;
  meta_row = own_meta_row carried s0 older;
  held = (found.0, subst (λ r. Keeps r found.0) is found.1);
  kept = λ c k. record {
    autocommit = shows.mode;
    tables = λ _. subst IsKept (sym shows.now_is) kept;
    settled = λ _. shows.committed_is ∙ sym shows.now_is;
    rows = λ _. subst (λ (d : Database). Keeps (rows_in d.trees) c) (sym shows.now_is) (subst (λ r. Keeps r c) (sym is) k);
    sound = k.sound;
  };
}

-- what is committed is a whole store
pub left_here : (d : Database) (rows : Rows) (db : Trees) → db ≡ d.trees → IsDatabase d → IsKept d → rows_in d.trees ≡ rows → IsStoreOf rows db
left_here d rows db here listed kept is = record { found = d; trees = sym here; listed = listed; kept = kept; rows_are = ap rows_in here ∙ is }

-- a stop in the commit
pub left_at : (s0 s3 s4 : State) → IsDatabase s3.now → IsKept s3.now → rows_in s3.now.trees ≡ brought_in s0.now.trees → (c : Contents) × KeepsOlder s0 c → LeavesNoMore s0 s3
    → ((db : Trees) → s4.may_leave db → s3.may_leave db ⊎ (db ≡ s3.now.trees)) → LeavesEither s0 s4
left_at s0 s3 s4 listed kept is held first stop db may = elim (stop db may) [ inl was ↦ inl (first db was) | inr here ↦ inr (left_here s3.now (brought_in s0.now.trees) db here listed kept is, held) ]

-- so is a new store
pub made_at : (s0 s2 s3 : State) → IsBlank s0 → IsDatabase s2.now → IsKept s2.now → rows_in s2.now.trees ≡ marked version → LeavesNoMore s0 s2
    → ((db : Trees) → s3.may_leave db → s2.may_leave db ⊎ (db ≡ s2.now.trees)) → LeavesEmptyToo s0 s3
made_at s0 s2 s3 blank listed kept is first stop db may = elim (stop db may) [ inl was ↦ inl (first db was) | inr here ↦ inr (blank, left_here s2.now (marked version) db here listed kept is) ]

pub either : (a b : State) → LeavesNoMore a b → LeavesEither a b
either a b none db may = inl (none db may)

-- ---- why it is not carried over

pub met_uncarried : (s : State) (e : Error) → IsUncarried s (fault_of e)
met_uncarried s e = at (is_memory e)
  where
    at : (b : Bool) → IsUncarried s (cond b fault.NoMemory fault.Store)
    at true = tt
    at false = tt

pub met_of_rows : (e : Error) → IsOfRows (fault_of e)
met_of_rows e = at (is_memory e)
  where
    at : (b : Bool) → IsOfRows (cond b fault.NoMemory fault.Store)
    at true = tt
    at false = tt

-- the version row of an older version is of a version
pub of_version : (carried : Bool) (rows : Rows) → rows.meta_rows ≡ old_meta_row carried ∷ [] → IsOfNoVersion rows → ⊥
of_version carried rows is none =
    let found : Some (old_meta_row carried) ≡ Some none.0 = sym (ap (find (is_meta_row (codes "popbox"))) is) ∙ none.1 in
    let e : old_meta_row carried ≡ none.0 = cc in
    none.2 carried (sym (ap (λ (m : MetaRow). m.value) e))

-- the rows are no records
pub rows_uncarried : (carried : Bool) (s : State) (f : VaultFault) → IsOlder carried s → IsOfRows f → ((c : Contents) → KeepsOlder s c → ⊥) → IsUncarried s f
rows_uncarried carried s fault.Store older is none = tt
rows_uncarried carried s fault.NoMemory older is none = tt
rows_uncarried carried s fault.NotOurs older is none = (of_version carried (rows_in s.now.trees) older.meta_row, λ meta_row. none)
rows_uncarried carried s fault.OldVersion older is none = absurd is
rows_uncarried carried s fault.NoMaildrop older is none = absurd is
rows_uncarried carried s fault.Conflict older is none = absurd is
rows_uncarried carried s fault.Full older is none = absurd is
rows_uncarried carried s fault.NotEmpty older is none = absurd is
rows_uncarried carried s fault.NoClerk older is none = absurd is

pub rows_adopt : (f : VaultFault) → IsOfRows f → IsAdoptFault f
rows_adopt fault.Store is = tt
rows_adopt fault.NoMemory is = tt
rows_adopt fault.NotOurs is = tt
rows_adopt fault.OldVersion is = absurd is
rows_adopt fault.NoMaildrop is = absurd is
rows_adopt fault.Conflict is = absurd is
rows_adopt fault.Full is = absurd is
rows_adopt fault.NotEmpty is = absurd is
rows_adopt fault.NoClerk is = absurd is

-- the rows of `meta` don't fit
pub judged_uncarried : (s : State) (f : VaultFault) → JudgesOlder (rows_in s.now.trees) f → IsUncarried s f
judged_uncarried s fault.Store is = tt
judged_uncarried s fault.NoMemory is = tt
judged_uncarried s fault.NotOurs is = (is.0, λ meta_row c k. is.1 (is_carried s.now.trees) meta_row)
judged_uncarried s fault.OldVersion is = is
judged_uncarried s fault.NoMaildrop is = absurd is
judged_uncarried s fault.Conflict is = absurd is
judged_uncarried s fault.Full is = absurd is
judged_uncarried s fault.NotEmpty is = absurd is
judged_uncarried s fault.NoClerk is = absurd is

-- the tables are those of the other older version
pub order_uncarried : (carried : Bool) (s : State) → (rows_in s.now.trees).meta_rows ≡ old_meta_row carried ∷ [] → (is_carried s.now.trees ≡ carried → ⊥) → IsUncarried s fault.NotOurs
order_uncarried carried s is other = (of_version carried (rows_in s.now.trees) is, λ meta_row c k. other (one_version (is_carried s.now.trees) carried (sym meta_row ∙ is)))
  where
    one_version : (a b : Bool) → old_meta_row a ∷ [] ≡ old_meta_row b ∷ [] → a ≡ b
    one_version true true e = refl
    one_version false false e = refl
    one_version true false e = let m : old_meta_row true ≡ old_meta_row false = cc in let v : pos 1 ≡ pos 2 = ap (λ (x : MetaRow). x.value) m in cc
    one_version false true e = let m : old_meta_row false ≡ old_meta_row true = cc in let v : pos 2 ≡ pos 1 = ap (λ (x : MetaRow). x.value) m in cc

-- ---- after queries that changed nothing

pub older_on : (carried : Bool) (s0 s1 : State) → IsUnchanged s0 s1 → HasOlder s0 → is_carried s1.now.trees ≡ carried → s0.in_transaction ≡ false
    → (IsTrue s0.is_open → s0.now ≡ s0.committed) → (rows_in s0.now.trees).meta_rows ≡ old_meta_row carried ∷ [] → IsOlder carried s1
older_on carried s0 s1 same older order out settled meta_row = record {
  old = subst (λ (d : Database). IsOld d) (sym same.0.now_is) older;
  order = order;
  meta_row = ap (λ (d : Database). (rows_in d.trees).meta_rows) same.0.now_is ∙ meta_row;
  autocommit = same.0.mode ∙ out;
  settled = λ up. same.0.now_is ∙ settled same.0.was_open ∙ sym same.0.committed_is;
}

pub carried_on : (s0 s1 s2 : State) → IsUnchanged s0 s1 → IsCarried s1 s2 → IsCarried s0 s2
carried_on s0 s1 s2 same it =
    let rows = ap (λ (d : Database). brought_in d.trees) same.0.now_is in
    record {
      is_open = it.is_open;
      meta_row = subst (λ (d : Database). (rows_in d.trees).meta_rows ≡ old_meta_row (is_carried d.trees) ∷ []) same.0.now_is it.meta_row;
      held = (it.held.0, subst (λ r. Keeps r it.held.0) rows it.held.1);
      kept = λ c k. it.kept c (subst (λ r. Keeps r c) (sym rows) k);
    }

pub uncarried_from : (s0 s1 : State) (f : VaultFault) → IsUnchanged s0 s1 → IsUncarried s1 f → IsUncarried s0 f
uncarried_from s0 s1 fault.Store same is = tt
uncarried_from s0 s1 fault.NoMemory same is = tt
uncarried_from s0 s1 fault.NotOurs same is = subst
    (λ (d : Database). (IsOfNoVersion (rows_in d.trees) → ⊥)
    × ((rows_in d.trees).meta_rows ≡ old_meta_row (is_carried d.trees) ∷ [] → (c : Contents) → Keeps (brought_in d.trees) c → ⊥)) same.0.now_is is
uncarried_from s0 s1 fault.OldVersion same is = subst (λ (d : Database). IsOfNoVersion (rows_in d.trees)) same.0.now_is is
uncarried_from s0 s1 fault.NoMaildrop same is = absurd is
uncarried_from s0 s1 fault.Conflict same is = absurd is
uncarried_from s0 s1 fault.Full same is = absurd is
uncarried_from s0 s1 fault.NotEmpty same is = absurd is
uncarried_from s0 s1 fault.NoClerk same is = absurd is

pub stays_on : (s0 s1 s2 : State) → IsUnchanged s0 s1 → StaysAs s1 s2 → StaysAs s0 s2
stays_on s0 s1 s2 same stays up =
    let it = stays up in
    (same.0.was_open, (it.1.0 ∙ same.0.now_is, it.1.1 ∙ same.0.committed_is), it.2 ∙ same.0.mode)

pub either_on : (s0 s1 s2 : State) → IsUnchanged s0 s1 → LeavesNoMore s0 s1 → LeavesEither s1 s2 → LeavesEither s0 s2
either_on s0 s1 s2 same first then db may = elim
    (then db may) [ inl was ↦ inl (first db was) | inr now ↦ inr (subst (λ (d : Database). IsStoreOf (brought_in d.trees) db × ((c : Contents) × Keeps (brought_in d.trees) c)) same.0.now_is now) ]

-- a query of an older store commits nothing
pub asked_old : (a b : State) → IsOldSchema a.now → HasCleanDisk b → Survives a b (λ _. IsOldSchema a.now → ⊥) → LeavesNoMore a b
asked_old a b old clean s db may = elim (s.crash clean db may) [ inl was ↦ was | inr none ↦ absurd (none old) ]

-- an older store still
pub old_on : (s0 s1 : State) → IsUnchanged s0 s1 → HasOldTables s0 → HasOldTables s1
old_on s0 s1 same h = λ _. subst (λ (d : Database). IsOld d) (sym same.0.now_is) (h same.0.was_open)

-- what came of it, with the answer
pub stays_result : (s0 s1 s2 : State) (r : Result (Unit {0}) Refusal) → IsUnchanged s0 s1 → OnErr r (StaysAs s1 s2) → OnErr r (StaysAs s0 s2)
stays_result s0 s1 s2 (Ok x) same stays = tt
stays_result s0 s1 s2 (Err refusal) same stays = stays_on s0 s1 s2 same stays
