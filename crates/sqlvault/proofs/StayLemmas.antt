-- Where a connection stands after several queries.
use Rattle.std.proofs.Common.{◌≡◌, ◌⊎◌, inl, inr, refl, sym, ap, subst, ◌∙◌, ◌≤◌, arith}
use Rattle.sqlite_trees.specs.View.{doubt}
use Rattle.sqlite.specs.Effect.{Database}
use Rattle.sqlite.specs.State.{State, HasCleanDisk, IsUnchanged, IsRolledBack, Survives}
use Rattle.mailsql.specs.Rows.{rows_in, IsOurs, IsKept, IsReady, HasTables, IsUndone}
use Rattle.sqlvault.specs.Stands.{LeavesNoMore}
use Rattle.sqlvault.specs.Stored.{Stays}

-- after one that changed nothing
pub stays_unchanged : (old new : State) → IsUnchanged old new → Stays old new
stays_unchanged old new same = record {
  now_is = same.0.now_is;
  committed_is = same.0.committed_is;
  mode = same.0.mode;
  was_open = λ _. same.0.was_open;
  stays_open = λ _. same.0.is_open;
  counts = same.1;
  marks = same.2;
}

pub stays_self : (s : State) → Stays s s
stays_self s = record {
  now_is = refl;
  committed_is = refl;
  mode = refl;
  was_open = λ o. o;
  stays_open = λ o. o;
  counts = record { changes = refl; last_rowid = refl };
  marks = refl;
}

pub stays_more : (old mid new : State) → Stays old mid → Stays mid new → Stays old new
stays_more old mid new a b = record {
  now_is = b.now_is ∙ a.now_is;
  committed_is = b.committed_is ∙ a.committed_is;
  mode = b.mode ∙ a.mode;
  was_open = λ o. a.was_open (b.was_open o);
  stays_open = λ o. b.stays_open (a.stays_open o);
  counts = record { changes = b.counts.changes ∙ a.counts.changes; last_rowid = b.counts.last_rowid ∙ a.counts.last_rowid };
  marks = b.marks ∙ a.marks;
}

-- after an error
pub stays_or_back : (old new : State) → IsUndone old new → Stays old new ⊎ IsRolledBack old new
stays_or_back old new (inl same) = inl (stays_unchanged old new same)
stays_or_back old new (inr back) = inr back

pub or_back_after : (old mid new : State) → Stays old mid → Stays mid new ⊎ IsRolledBack mid new → Stays old new ⊎ IsRolledBack old new
or_back_after old mid new a (inl b) = inl (stays_more old mid new a b)
or_back_after old mid new a (inr back) = inr (record {
  was_open = λ o. a.was_open (back.was_open o);
  undone = λ o. ((back.undone o).0 ∙ a.committed_is, (back.undone o).1 ∙ a.committed_is);
  autocommit = back.autocommit;
  unmarked = back.unmarked;
  counts = record { changes = back.counts.changes ∙ a.counts.changes; last_rowid = back.counts.last_rowid ∙ a.counts.last_rowid };
})

pub tables_stay : (old new : State) → Stays old new → HasTables old → HasTables new
tables_stay old new a h = λ o. subst IsKept (sym a.now_is) (h (a.was_open o))

pub rows_stay : (old new : State) → Stays old new → rows_in new.now.trees ≡ rows_in old.now.trees
rows_stay old new a = ap (λ (d : Database). rows_in d.trees) a.now_is

-- the disk was clean before
pub clean_before : (old new : State) → doubt old.is_clean ≤ doubt new.is_clean → HasCleanDisk new → HasCleanDisk old
clean_before old new more clean = omega (arith, more, clean)

-- ---- what a stop leaves

pub tables_of : (s : State) → IsReady s → HasTables s
tables_of s ready = λ _. ready.1

-- a query commits nothing
pub asked : (old new : State) → HasCleanDisk new → Survives old new (λ _. IsOurs old.now → ⊥) → IsReady old → LeavesNoMore old new
asked old new clean s ready db may = elim (s.crash clean db may) [ inl was ↦ was | inr none ↦ absurd (none ready.1.0) ]

pub leaves_on : (old mid new : State) → Stays old mid → IsReady old → LeavesNoMore old mid → (IsReady mid → LeavesNoMore mid new) → LeavesNoMore old new
leaves_on old mid new a ready first then db may = first db (then (a.stays_open ready.0, subst IsKept (sym a.now_is) ready.1) db may)

-- ---- tests after a query that changed nothing

pub unchanged_stays : (old mid new : State) → IsUnchanged old mid → Stays mid new → IsUnchanged old new
unchanged_stays old mid new a b = (
  record {
    was_open = a.0.was_open;
    is_open = b.stays_open a.0.is_open;
    now_is = b.now_is ∙ a.0.now_is;
    committed_is = b.committed_is ∙ a.0.committed_is;
    mode = b.mode ∙ a.0.mode;
  },
  record { changes = b.counts.changes ∙ a.1.changes; last_rowid = b.counts.last_rowid ∙ a.1.last_rowid },
  b.marks ∙ a.2,
)

pub undone_stays : (old mid new : State) → IsUnchanged old mid → Stays mid new ⊎ IsRolledBack mid new → IsUndone old new
undone_stays old mid new a (inl b) = inl (unchanged_stays old mid new a b)
undone_stays old mid new a (inr back) = inr (record {
  was_open = λ _. a.0.was_open;
  undone = λ up. ((back.undone up).0 ∙ a.0.committed_is, (back.undone up).1 ∙ a.0.committed_is);
  autocommit = back.autocommit;
  unmarked = back.unmarked;
  counts = record { changes = back.counts.changes ∙ a.1.changes; last_rowid = back.counts.last_rowid ∙ a.1.last_rowid };
})
