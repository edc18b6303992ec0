-- The steps of a transaction.
use Rattle.std.proofs.Common.{◌≡◌, inl, inr, true, false, cond, IsTrue, refl, sym, ap, subst, ◌∙◌, true≢false, Bool, not}
use Rattle.sqlite_trees.specs.Tree.{Trees}
use Rattle.sqlite.specs.Effect.{Database}
use Rattle.sqlite.specs.State.{State, HasCleanDisk, Shows, IsRolledBack, Survives}
use Rattle.vault.specs.Changes.{Contents}
use Rattle.mailsql.specs.Rows.{Rows, rows_in, IsKept, IsReady, MayLeave, Changes, IsUndone, IsHalted, IsGone, GoesOn}
use Rattle.sqlvault.specs.Keeps.{Keeps}
use Rattle.sqlvault.specs.Stands.{Holds, Leaves, Within, Under, Halted, Makes}
use Rattle.sqlvault.specs.Stops.{LeavesLast}
use Rattle.sqlvault.proofs.HoldsLemmas.{holds_at}
use Rattle.std.specs.Prelude.{OnOk, OnErr, IsErrAnd}
use Rattle.std.proofs.Common.{Result, Ok, Err}
use Rattle.sqlite.specs.declared.error.Error.{Error}

-- ---- a statement

-- a statement of a transaction commits nothing
stops : (Change : Rows → Rows → Type 0) (old new : State) (base : Contents) (rows : Rows) → HasCleanDisk new → Survives old new (MayLeave Change old)
    → Within old base rows → Leaves new (λ left. Keeps left base)
stops Change old new base rows clean s w db may = elim (s.crash clean db may) [
  | inl was ↦ w.stop db was
  | inr made ↦ absurd (true≢false (sym w.inside ∙ (made (w.is_open, w.tables)).0))
]

pub step_ok : (Change Other : Rows → Rows → Type 0) (old new : State) (base : Contents) (rows : Rows) → HasCleanDisk new → (IsReady old → Changes Change old new)
    → Survives old new (MayLeave Other old) → Within old base rows → (after : Rows) × Change rows after × Within new base after
step_ok Change Other old new base rows clean does s w =
    let it = does (w.is_open, w.tables) in
    let same : new.committed ≡ old.committed = it.shown.committed_is ∙ ap (λ b. cond b old.committed new.now) w.inside in (
      rows_in new.now.trees,
      subst (λ r. Change r (rows_in new.now.trees)) w.rows_are it.change,
      record {
        inside = it.shown.mode ∙ w.inside;
        is_open = it.shown.is_open;
        tables = it.kept;
        under = subst IsKept (sym same) w.under;
        base_is = subst (λ (d : Database). Keeps (rows_in d.trees) base) (sym same) w.base_is;
        rows_are = refl;
        stop = stops Other old new base rows clean s w;
      },
    )

pub rolled_back : (old new : State) (base : Contents) (rows : Rows) → IsRolledBack old new → Within old base rows → Holds new base
rolled_back old new base rows back w = holds_at old.committed new base back.autocommit back.undone (λ _. (w.under, w.base_is)) w.base_is.sound

-- the transaction is gone
pub gone_held : (old new : State) (base : Contents) (rows : Rows) → IsGone old new → Within old base rows → Holds new base
gone_held old new base rows gone w = holds_at old.committed new base gone.autocommit gone.undone (λ _. (w.under, w.base_is)) w.base_is.sound

-- after an error of a part of several statements
pub halted : (old new : State) (base : Contents) (rows : Rows) → IsHalted old new → Within old base rows → Halted new base
halted old new base rows (inl on) w = inl (record {
  inside = on.mode;
  under = subst IsKept (sym on.committed_is) w.under;
  base_is = subst (λ (d : Database). Keeps (rows_in d.trees) base) (sym on.committed_is) w.base_is;
})
halted old new base rows (inr gone) w = inr (gone_held old new base rows gone w)

-- after an error of one statement
pub undone : (old new : State) (base : Contents) (rows : Rows) → IsUndone old new → Within old base rows → Halted new base
undone old new base rows (inl same) w = inl (record {
  inside = same.0.mode ∙ w.inside;
  under = subst IsKept (sym same.0.committed_is) w.under;
  base_is = subst (λ (d : Database). Keeps (rows_in d.trees) base) (sym same.0.committed_is) w.base_is;
})
undone old new base rows (inr back) w = inr (rolled_back old new base rows back w)

pub step_err : (Other : Rows → Rows → Type 0) (old new : State) (base : Contents) (rows : Rows) → HasCleanDisk new → IsUndone old new → Survives old new (MayLeave Other old)
    → Within old base rows → Halted new base × Leaves new (λ left. Keeps left base)
step_err Other old new base rows clean was_undone s w = (undone old new base rows was_undone w, stops Other old new base rows clean s w)

pub part_err : (Other : Rows → Rows → Type 0) (old new : State) (base : Contents) (rows : Rows) → HasCleanDisk new → IsHalted old new → Survives old new (MayLeave Other old)
    → Within old base rows → Halted new base × Leaves new (λ left. Keeps left base)
part_err Other old new base rows clean was_halted s w = (halted old new base rows was_halted w, stops Other old new base rows clean s w)

pub ready : (s : State) (base : Contents) (rows : Rows) → Within s base rows → IsReady s
ready s base rows w = (w.is_open, w.tables)

-- a part of one statement, whose change is as well said so
pub makes : (Change Said : Rows → Rows → Type 0) (old new : State) (r : Result (Unit {0}) Error) → HasCleanDisk new → (IsReady old → OnOk r (Changes Change old new)) → OnErr r (IsUndone old new)
    → Survives old new (MayLeave Change old) → ((from to : Rows) → Change from to → Said from to) → Makes (λ _. Said) old new r
makes Change Said old new (Ok x) clean does was s say = λ base rows w.
    let a = step_ok Change Change old new base rows clean does s w in
    (a.0, say rows a.0 a.1, a.2)
makes Change Said old new (Err e) clean does was s say = λ base rows w. step_err Change old new base rows clean was s w

-- a part that failed before it did anything
pub makes_none : {A : Type 0} (Change : A → Rows → Rows → Type 0) (s : State) (r : Result A Error) (P : Error → Type 0) → IsErrAnd r P → Makes Change s s r
makes_none Change s (Ok x) P failed = absurd failed
makes_none Change s (Err e) P failed = λ base rows w. (inl (record { inside = w.inside; under = w.under; base_is = w.base_is }), w.stop)

-- a part after a step that was done
pub makes_after : (First Second Both : Rows → Rows → Type 0) (s0 s1 s2 : State) (r : Result (Unit {0}) Error)
    → ((base : Contents) (rows : Rows) → Within s0 base rows → (mid : Rows) × First rows mid × Within s1 base mid) → Makes (λ _. Second) s1 s2 r
    → ((from mid to : Rows) → First from mid → Second mid to → Both from to) → Makes (λ _. Both) s0 s2 r
makes_after First Second Both s0 s1 s2 (Ok x) first second both = λ base rows w.
    let a = first base rows w in
    let b = second base a.0 a.2 in
    (b.0, both rows a.0 b.0 a.1 b.1, b.2)
makes_after First Second Both s0 s1 s2 (Err e) first second both = λ base rows w.
    let a = first base rows w in
    second base a.0 a.2

-- ---- its beginning and its end

pub begun : (old new : State) (base : Contents) → HasCleanDisk new → LeavesLast old → Shows old new old.now old.committed true → Survives old new (λ _. ⊥) → Holds old base
    → (rows : Rows) × Keeps rows base × Within new base rows
begun old new base clean law shows s h =
    let up = shows.was_open in
    let same : new.committed ≡ old.now = shows.committed_is ∙ h.settled up in (
      rows_in new.now.trees,
      subst (λ (d : Database). Keeps (rows_in d.trees) base) (sym shows.now_is) (h.rows up),
      record {
        inside = shows.mode;
        is_open = shows.is_open;
        tables = subst IsKept (sym shows.now_is) (h.tables up);
        under = subst IsKept (sym same) (h.tables up);
        base_is = subst (λ (d : Database). Keeps (rows_in d.trees) base) (sym same) (h.rows up);
        rows_are = refl;
        stop = λ db may. elim (s.crash clean db may) [
          | inl was ↦ subst (λ (t : Trees). Keeps (rows_in t) base) (sym (law db up was ∙ ap (λ (d : Database). d.trees) (h.settled up))) (h.rows up)
          | inr none ↦ absurd none
        ];
      },
    )

pub committed : (old new : State) (base after : Contents) (rows : Rows) → Shows old new old.now old.now false → Within old base rows → Keeps rows after → Holds new after
committed old new base after rows shows w keeps = record {
  autocommit = shows.mode;
  tables = λ _. subst IsKept (sym shows.now_is) w.tables;
  settled = λ _. shows.committed_is ∙ sym shows.now_is;
  rows = λ _. subst (λ r. Keeps r after) (sym (ap (λ (d : Database). rows_in d.trees) shows.now_is ∙ w.rows_are)) keeps;
  sound = keeps.sound;
}

-- the transaction is still under way
pub goes_still : (s : State) (base : Contents) (rows : Rows) → Within s base rows → GoesOn s s
goes_still s base rows w = record { was_open = w.is_open; is_open = w.is_open; now_is = refl; committed_is = refl; mode = w.inside }

pub undone_holds : (old new : State) (base : Contents) → IsRolledBack old new → Under old base → Holds new base
undone_holds old new base back u = holds_at old.committed new base back.autocommit back.undone (λ _. (u.under, u.base_is)) u.base_is.sound

pub autocommit_holds : (s : State) (base : Contents) → s.in_transaction ≡ false → Halted s base → Holds s base
autocommit_holds s base out (inl u) = absurd (true≢false (sym u.inside ∙ out))
autocommit_holds s base out (inr h) = h

pub inside_under : (s : State) (base : Contents) → IsTrue s.in_transaction → Halted s base → Under s base
inside_under s base inside (inl u) = u
inside_under s base inside (inr h) = absurd (true≢false (sym inside ∙ h.autocommit))

pub leaves_on : (P : Rows → Type 0) (old new : State) → HasCleanDisk new → Survives old new (λ _. ⊥) → Leaves old P → Leaves new P
leaves_on P old new clean s was db may = elim (s.crash clean db may) [ inl before ↦ was db before | inr none ↦ absurd none ]

-- ---- the end of a transaction after an error

pub inside_of : (inside : Bool) → false ≡ not inside → inside ≡ true
inside_of true e = refl
inside_of false e = absurd (true≢false (sym e))

pub gone_outside : (first s : State) → s.in_transaction ≡ false → IsHalted first s → IsGone first s
gone_outside first s out (inl on) = absurd (true≢false (sym on.mode ∙ out))
gone_outside first s out (inr gone) = gone

pub gone_back : (first mid new : State) → IsRolledBack mid new → mid.in_transaction ≡ true → IsHalted first mid → IsGone first new
gone_back first mid new back inside (inl on) = record {
  was_open = λ _. on.was_open;
  undone = λ up. ((back.undone up).0 ∙ on.committed_is, (back.undone up).1 ∙ on.committed_is);
  autocommit = back.autocommit;
}
gone_back first mid new back inside (inr gone) = absurd (true≢false (sym inside ∙ gone.autocommit))
