-- The steps of work in parts, whatever the work is: what is under way rests on an open transaction.
use Rattle.std.specs.Prelude.{◌≡◌, ⊤, Option, Some, None}
use Rattle.std.proofs.Common.{inl, Result, Ok, Err, refl, subst, sym, ap, ◌∙◌}
use Rattle.sqlite_trees.specs.declared.store.Store.{Ghosts}
use Rattle.sqlite.specs.Held.{Held, state}
use Rattle.sqlite.specs.declared.error.Error.{Error}
use Rattle.sqlite.specs.Effect.{Database}
use Rattle.sqlite.specs.State.{State, HasCleanDisk, IsUnchanged}
use Rattle.vault.specs.declared.fault.VaultFault.{VaultFault}
use Rattle.vault.specs.Stops.{IsOwn}
use Rattle.vault.specs.Changes.{Contents}
use Rattle.mailsql.specs.Rows.{Rows, rows_in, IsKept}
use Rattle.sqlvault.specs.Keeps.{Keeps}
use Rattle.sqlvault.specs.declared.refusal.Refusal.{Refusal}
use Rattle.sqlvault.specs.Refusals.{answer_of}
use Rattle.sqlvault.specs.Stands.{Leaves, Within, Halted}
use Rattle.sqlvault.specs.Transactions.{Begins, Undoes, Concludes}
use Rattle.sqlvault.specs.Frame.{IsMet, Looks, Sees, Writes}
use Rattle.sqlvault.specs.declared.work.Work.{Work}
use Rattle.sqlvault.specs.UnderWay.{Shows, HoldsUnder, Prepares, Finishes, GivesUp, under_way}
use Rattle.sqlvault.proofs.HoldsLemmas.{holds_undone}
use Rattle.sqlvault.proofs.WithinLemmas.{begun, leaves_on, undone}
use Rattle.sqlvault.proofs.FrameLemmas.{was_clean, writes_none, concluded_looks, looks_self}
use Rattle.sqlvault.proofs.SeesLemmas.{own_met}

-- ---- its beginning

-- if the rows of any contents are what is shown first
pub prepares_begun : {S : Type 0} {Own : Type 0} {store : Ghosts S} {old new : Held S}
    {x : Unit {0}} (work : Work) → ((c : Contents) (rows : Rows) → Keeps rows c → Shows work c rows)
    → Begins store old new (Ok x) → Prepares store old new None (Some work) Own
prepares_begun {store = store} {old = old} {new = new} work shows begins = record {
  clean = was_clean store old new begins.survives;
  held = λ clean c h.
      let b = begun (state store old) (state store new) c clean begins.law (begins.ok clean).1
      begins.survives h in
      record { rows = b.0; within = b.2; shown = shows c b.0 b.1 };
  up = λ clean c h up own. (begins.ok clean).1.is_open;
  stop = λ clean c h up left. leaves_on
      (λ rows. Keeps rows c) (state store old) (state store new) clean begins.survives left;
}

-- a part that only looks, before the work or after it
pub prepares_look : {S : Type 0} {Own : Type 0} {store : Ghosts S} {old new : Held S}
    → Looks store old new Own → Prepares store old new None None Own
prepares_look look = record {
  clean = look.clean;
  held = λ clean c h. (look.rests clean c h).held;
  up = λ clean c h up own. (look.rests clean c h).up up own;
  stop = λ clean c h up left. (look.rests clean c h).stop up left;
}

-- an answer that is own for less
pub prepares_own : {S : Type 0} {Own Less : Type 0} {store : Ghosts S} {old new : Held S}
    {before after : Option Work} → (Less → Own) → Prepares store old new before after Own
    → Prepares store old new before after Less
prepares_own less a = record {
  clean = a.clean;
  held = a.held;
  up = λ clean c h up own. a.up clean c h up (less own);
  stop = a.stop;
}

-- ---- a piece

-- of a piece it is enough what it makes of the rows that are shown
pub prepares_more : {S A : Type 0} {Own : Type 0} {store : Ghosts S} {old new : Held S}
    {Change : A → Rows → Rows → Type 0} {x : A} (before after : Work)
    → ((c : Contents) (from to : Rows) → Shows before c from → Change x from to → Shows after c to)
    → Writes store old new Change (Ok x)
    → Prepares store old new (Some before) (Some after) Own
prepares_more before after shows part = record {
  clean = part.clean;
  held = λ clean c h.
      let made = part.made clean c h.rows h.within in
      record { rows = made.0; within = made.2; shown = shows c h.rows made.0 h.shown made.1 };
  up = λ clean c h up own. (part.made clean c h.rows h.within).2.is_open;
  stop = λ clean c h up left. (part.made clean c h.rows h.within).2.stop;
}

-- it met an error, and the transaction was undone
pub prepares_undone : {S A : Type 0} {store : Ghosts S} {old last new : Held S}
    {Change : A → Rows → Rows → Type 0} {e : Error} (work : Work)
    → Writes store old last Change (Err e) → Undoes store last new
    → Prepares store old new (Some work) None ⊥
prepares_undone {store = store} {last = last} {new = new} work part back = record {
  clean = λ clean. part.clean (was_clean store last new back.survives clean);
  held = λ clean c h.
      let halted = part.made (was_clean store last new back.survives clean) c h.rows h.within in
      back.holds c clean halted.0;
  up = λ clean c h up own. absurd own;
  stop = λ clean c h up left.
      let halted = part.made (was_clean store last new back.survives clean) c h.rows h.within in
      leaves_on (λ rows. Keeps rows c) (state store last) (state store new) clean back.survives
      halted.1;
}

-- ---- it is given up

-- then no transaction could be begun
pub gives_up_unbegun : {S : Type 0} {store : Ghosts S} {old mid new : Held S} {e : Error}
    → Undoes store old mid → Begins store mid new (Err e) → GivesUp store old new ⊥
gives_up_unbegun {store = store} {old = old} {mid = mid} {new = new} back begins = record {
  clean = λ clean. was_clean store old mid back.survives
      (was_clean store mid new begins.survives clean);
  held = λ clean c h.
      let before = was_clean store mid new begins.survives clean in
      holds_undone (state store mid) (state store new) c (begins.err clean) (back.holds c before h);
  up = λ clean c h own. absurd own;
  stop = λ clean c h left.
      let before = was_clean store mid new begins.survives clean in
      leaves_on (λ rows. Keeps rows c) (state store mid) (state store new) clean begins.survives
      (leaves_on (λ rows. Keeps rows c) (state store old) (state store mid) before back.survives left);
}

-- or one was, and nothing was committed
pub gives_up_closed : {S : Type 0} {store : Ghosts S} {old mid last new : Held S} {x : Unit {0}}
    (r : Result (Unit {0}) Refusal) → Undoes store old mid → Begins store mid last (Ok x)
    → (let none : Result (Unit {0}) Error = Ok tt in Concludes store last new none r)
    → GivesUp store old new (IsMet r)
gives_up_closed {store = store} {old = old} {mid = mid} {last = last} {new = new} r back begins it =
    let look : Looks store mid new (IsMet r) = concluded_looks (Ok tt) r begins
    (writes_none store last (λ from to. to ≡ from) (λ rows. refl))
    (λ c from to keeps same. subst (λ rows. Keeps rows c) (sym same) keeps) it in
    record {
      clean = λ clean. was_clean store old mid back.survives (look.clean clean);
      held = λ clean c h. (look.rests clean c (back.holds c (look.clean clean) h)).held;
      up = λ clean c h own.
          (look.rests clean c (back.holds c (look.clean clean) h)).up
          (begins.ok (it.clean clean)).1.was_open own;
      stop = λ clean c h left.
          (look.rests clean c (back.holds c (look.clean clean) h)).stop
          (begins.ok (it.clean clean)).1.was_open
          (leaves_on (λ rows. Keeps rows c) (state store old) (state store mid) (look.clean clean)
          back.survives left);
    }

-- an answer that is own for less
pub gives_up_own : {S : Type 0} {Own Less : Type 0} {store : Ghosts S} {old new : Held S}
    → (Less → Own) → GivesUp store old new Own → GivesUp store old new Less
gives_up_own less a = record {
  clean = a.clean;
  held = a.held;
  up = λ clean c h own. a.up clean c h (less own);
  stop = a.stop;
}

-- work under way is a transaction that can be given up
halted_under : (s : State) (work : Work) (c : Contents) → HoldsUnder s work c → Halted s c
halted_under s work c h = inl (record {
  inside = h.within.inside;
  under = h.within.under;
  base_is = h.within.base_is;
})

pub prepares_given_up : {S : Type 0} {Own : Type 0} {store : Ghosts S} {old new : Held S}
    (work : Work) → GivesUp store old new Own → Prepares store old new (Some work) None Own
prepares_given_up {store = store} {old = old} work it = record {
  clean = it.clean;
  held = λ clean c h. it.held clean c (halted_under (state store old) work c h);
  up = λ clean c h up own. it.up clean c (halted_under (state store old) work c h) own;
  stop = λ clean c h up left. it.stop clean c (halted_under (state store old) work c h) left;
}

-- ---- queries inside its transaction

-- the transaction as they left it
within_on : (old new : State) (c : Contents) (rows : Rows) → IsUnchanged old new
    → Leaves new (λ left. Keeps left c) → Within old c rows → Within new c rows
within_on old new c rows same stop w = record {
  inside = same.0.mode ∙ w.inside;
  is_open = same.0.is_open;
  tables = subst IsKept (sym same.0.now_is) w.tables;
  under = subst IsKept (sym same.0.committed_is) w.under;
  base_is = subst (λ (d : Database). Keeps (rows_in d.trees) c) (sym same.0.committed_is) w.base_is;
  rows_are = ap (λ (d : Database). rows_in d.trees) same.0.now_is ∙ w.rows_are;
  stop = stop;
}

-- what a stop then leaves
seen_leaves : {S : Type 0} {Own : Type 0} {store : Ghosts S} {old new : Held S}
    {Told : Contents → Type 0} (c : Contents) (rows : Rows) → Sees store old new Own Told
    → HasCleanDisk (state store new) → Within (state store old) c rows
    → Leaves (state store new) (λ left. Keeps left c)
seen_leaves c rows a clean w db may = w.stop db (a.stop clean (w.is_open, w.tables) db may)

-- the work goes on after their answer
pub prepares_seen : {S : Type 0} {Own Less : Type 0} {store : Ghosts S} {old new : Held S}
    {Told : Contents → Type 0} (work : Work) → Sees store old new Own Told → Own
    → Prepares store old new (Some work) (Some work) Less
prepares_seen {store = store} {old = old} {new = new} work a own = record {
  clean = a.clean;
  held = λ clean c h. record {
    rows = h.rows;
    within = within_on (state store old) (state store new) c h.rows
        (a.same clean (λ _. h.within.tables) own) (seen_leaves c h.rows a clean h.within) h.within;
    shown = h.shown;
  };
  up = λ clean c h up less. (a.same clean (λ _. h.within.tables) own).0.is_open;
  stop = λ clean c h up left. seen_leaves c h.rows a clean h.within;
}

-- after a fault it is given up
pub prepares_unseen : {S : Type 0} {Own Less : Type 0} {store : Ghosts S} {old mid new : Held S}
    {Told : Contents → Type 0} (work : Work) → Sees store old mid Own Told
    → GivesUp store mid new Less → Prepares store old new (Some work) None Less
prepares_unseen {store = store} {old = old} {mid = mid} work a it =
    let halted : HasCleanDisk (state store mid) → (c : Contents) → HoldsUnder (state store old) work c
    → Halted (state store mid) c =
    λ clean c h. undone (state store old) (state store mid) c h.rows
    (a.undone clean (λ _. h.within.tables)) h.within in
    record {
      clean = λ clean. a.clean (it.clean clean);
      held = λ clean c h. it.held clean c (halted (it.clean clean) c h);
      up = λ clean c h up own. it.up clean c (halted (it.clean clean) c h) own;
      stop = λ clean c h up left. it.stop clean c (halted (it.clean clean) c h)
          (seen_leaves c h.rows a (it.clean clean) h.within);
    }

-- what they say is said of contents for which the rows that are shown stand
pub told_under_way : {S : Type 0} {Own : Type 0} {store : Ghosts S} {old new : Held S}
    {Told : Contents → Type 0} (work : Work) (c shown : Contents)
    → ((rows : Rows) → Shows work c rows → Keeps rows shown) → Sees store old new Own Told
    → HasCleanDisk (state store new) → HoldsUnder (state store old) work c → Told shown
told_under_way work c shown shows a clean h = a.told clean (λ _. h.within.tables) shown
    (λ _. subst (λ rows. Keeps rows shown) (sym h.within.rows_are) (shows h.rows h.shown))

-- ---- what a step is told

-- the same step over another connection that is as this one, as a vault answers it
pub prepares_told : {S A : Type 0} (store : Ghosts S) (old was new now : Held S)
    (before after : Option Work) (r : Result A Refusal) (said : Result A VaultFault)
    → was ≡ old → new ≡ now → said ≡ answer_of r → Prepares store was now before after (IsMet r)
    → Prepares store old new before after (IsOwn said)
prepares_told {S} {A} store old was new now before after r said e f same a =
    subst (λ (x : Held S). Prepares store x new before after (IsOwn said)) e
    (subst (λ (x : Held S). Prepares store was x before after (IsOwn said)) (sym f)
    (subst (λ (x : Result A VaultFault). Prepares store was now before after (IsOwn x)) (sym same)
    (prepares_own (own_met r) a)))

pub gives_up_told : {S A : Type 0} (store : Ghosts S) (old was new now : Held S)
    (r : Result A Refusal) (said : Result A VaultFault)
    → was ≡ old → new ≡ now → said ≡ answer_of r → GivesUp store was now (IsMet r)
    → GivesUp store old new (IsOwn said)
gives_up_told {S} {A} store old was new now r said e f same a =
    subst (λ (x : Held S). GivesUp store x new (IsOwn said)) e
    (subst (λ (x : Held S). GivesUp store was x (IsOwn said)) (sym f)
    (subst (λ (x : Result A VaultFault). GivesUp store was now (IsOwn x)) (sym same)
    (gives_up_own (own_met r) a)))

-- the work that is under way after a step, as the step's answer is told
pub told_under : {A : Type 0} (r : Result A Refusal) (said : Result A VaultFault) (work : Work)
    → said ≡ answer_of r → under_way r work ≡ under_way said work
told_under {A} r said work same =
    at r ∙ sym (ap (λ (x : Result A VaultFault). under_way x work) same)
  where
    at : (r : Result A Refusal) → under_way r work ≡ under_way (answer_of r) work
    at (Ok x) = refl
    at (Err e) = refl

pub finishes_told : {S A : Type 0} (store : Ghosts S) (old was new now : Held S) (work : Work)
    (Done : Contents → (Contents → Type 0) → Result A VaultFault → Type 0)
    (r said : Result A VaultFault)
    → was ≡ old → new ≡ now → r ≡ said → Finishes store was now work Done said
    → Finishes store old new work Done r
finishes_told {S} {A} store old was new now work Done r said e f same a =
    subst (λ (x : Held S). Finishes store x new work Done r) e
    (subst (λ (x : Held S). Finishes store was x work Done r) (sym f)
    (subst (λ (x : Result A VaultFault). Finishes store was now work Done x) (sym same) a))

-- ---- two steps

-- two steps, of which the first is done
pub prepares_then : {S : Type 0} {Own : Type 0} {store : Ghosts S} {old mid new : Held S}
    {before between after : Option Work} → Prepares store old mid before between ⊤
    → Prepares store mid new between after Own → Prepares store old new before after Own
prepares_then a b = record {
  clean = λ clean. a.clean (b.clean clean);
  held = λ clean c h. b.held clean c (a.held (b.clean clean) c h);
  up = λ clean c h up own. b.up clean c (a.held (b.clean clean) c h)
      (a.up (b.clean clean) c h up tt) own;
  stop = λ clean c h up left. b.stop clean c (a.held (b.clean clean) c h)
      (a.up (b.clean clean) c h up tt) (a.stop (b.clean clean) c h up left);
}

-- no step, where none is under way
pub prepares_none : {S : Type 0} {Own : Type 0} (store : Ghosts S) (conn : Held S)
    (under : Option Work) → under ≡ None → Prepares store conn conn None under Own
prepares_none {Own = Own} store conn under none =
    subst (λ (u : Option Work). Prepares store conn conn None u Own) (sym none)
    (prepares_look (looks_self store conn))
