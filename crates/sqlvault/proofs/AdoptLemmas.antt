-- Queries one after the other, and what a store that is made and a store that is judged come to.
use Rattle.std.proofs.Common.{◌≡◌, ◌⊎◌, inl, inr, Bool, true, false, IsTrue, Result, Ok, Err, refl, sym, ap, subst, ◌∙◌, true≢false}
use Rattle.mailsql.specs.Tables.{no_schema}
use Rattle.sqlite.specs.declared.error.Error.{Error}
use Rattle.sqlite.specs.Effect.{Database}
use Rattle.sqlite.specs.State.{State, Shows, IsUnchanged}
use Rattle.mailsql.specs.Rows.{rows_in, IsOurs, IsKept, HasTables, IsUndone, IsGone}
use Rattle.std.proofs.Common.{cond, not}
use Rattle.vault.specs.declared.fault.VaultFault.{VaultFault}
use Rattle.vault.specs.declared.fault.VaultFault.TheVariants as fault
use Rattle.mailsql.specs.Names.{is_taken, has_meta_rows}
use Rattle.mailsql.specs.Rows.{IsReady}
use Rattle.mailsql.proofs.ResultLemmas.{on_err_then}
use Rattle.std.specs.Prelude.{OnErr}
use Rattle.sqlvault.specs.declared.refusal.Refusal.{Refusal}
use Rattle.sqlvault.specs.declared.refusal.Refusal.TheVariants.{Answered}
use Rattle.sqlvault.specs.Adopts.{StaysAs, IsBlank, IsKnown, IsRefused, IsAdoptFault}
use Rattle.sqlvault.specs.Adopts.{Adopts, IsForeign, Settles}
use Rattle.sqlvault.specs.Refusals.{is_memory, fault_of, answer_of, told}
use Rattle.sqlvault.specs.Stands.{LeavesNoMore}

-- ---- queries

pub tables_on : (old new : State) → IsUnchanged old new → HasTables old → HasTables new
tables_on old new same h = λ _. subst IsKept (sym same.0.now_is) (h same.0.was_open)

pub rows_on : (old new : State) → IsUnchanged old new → rows_in new.now.trees ≡ rows_in old.now.trees
rows_on old new same = ap (λ (d : Database). rows_in d.trees) same.0.now_is

pub unchanged_on : (s0 s1 s2 : State) → IsUnchanged s0 s1 → IsUnchanged s1 s2 → IsUnchanged s0 s2
unchanged_on s0 s1 s2 a b = (
  record {
    was_open = a.0.was_open;
    is_open = b.0.is_open;
    now_is = b.0.now_is ∙ a.0.now_is;
    committed_is = b.0.committed_is ∙ a.0.committed_is;
    mode = b.0.mode ∙ a.0.mode;
  },
  record { changes = b.1.changes ∙ a.1.changes; last_rowid = b.1.last_rowid ∙ a.1.last_rowid },
  b.2 ∙ a.2,
)

pub undone_on : (s0 s1 s2 : State) → IsUnchanged s0 s1 → IsUndone s1 s2 → IsUndone s0 s2
undone_on s0 s1 s2 a (inl same) = inl (unchanged_on s0 s1 s2 a same)
undone_on s0 s1 s2 a (inr back) = inr (record {
  was_open = λ _. a.0.was_open;
  undone = λ up. ((back.undone up).0 ∙ a.0.committed_is, (back.undone up).1 ∙ a.0.committed_is);
  autocommit = back.autocommit;
  unmarked = back.unmarked;
  counts = record { changes = back.counts.changes ∙ a.1.changes; last_rowid = back.counts.last_rowid ∙ a.1.last_rowid };
})

-- ---- what stands after a refusal

-- outside a transaction what is seen is committed
abbrev pub IsSettled : State → Type 0
IsSettled s = IsTrue s.is_open → s.now ≡ s.committed

pub stays_undone : (old new : State) → old.in_transaction ≡ false → IsSettled old → IsUndone old new → StaysAs old new
stays_undone old new out settled (inl same) = λ up. (same.0.was_open, (same.0.now_is, same.0.committed_is), same.0.mode)
stays_undone old new out settled (inr back) = λ up.
    let was = back.was_open up in
    (was, ((back.undone up).0 ∙ sym (settled was), (back.undone up).1), back.autocommit ∙ sym out)

-- a transaction that was begun and is gone
pub stays_gone : (old begun new : State) → old.in_transaction ≡ false → IsSettled old → Shows old begun old.now old.committed true → IsGone begun new → StaysAs old new
stays_gone old begun new out settled shows gone = λ up.
    let was = shows.was_open in
    (was, ((gone.undone up).0 ∙ shows.committed_is ∙ sym (settled was), (gone.undone up).1 ∙ shows.committed_is), gone.autocommit ∙ sym out)

-- ---- a connection outside a transaction

pub outside : (inside : Bool) → true ≡ not inside → inside ≡ false
outside true e = e
outside false e = refl

-- ---- a store without a table

pub refused_blank : (s : State) (it : VaultFault) → IsBlank s → s.in_transaction ≡ false → IsRefused s it → (it ≡ fault.Store) ⊎ (it ≡ fault.NoMemory)
refused_blank s fault.Store blank out r = inl refl
refused_blank s fault.NoMemory blank out r = inr refl
refused_blank s fault.NotOurs blank out r = absurd ((r.outside out).0 blank)
refused_blank s fault.OldVersion blank out r = absurd (r.1 blank)
refused_blank s fault.NoMaildrop blank out r = absurd r
refused_blank s fault.Conflict blank out r = absurd r
refused_blank s fault.Full blank out r = absurd r
refused_blank s fault.NotEmpty blank out r = absurd r
refused_blank s fault.NoClerk blank out r = absurd r

-- ---- a statement's error

pub kinds_met : (e : Error) → IsAdoptFault (fault_of e)
kinds_met e = at (is_memory e)
  where
    at : (b : Bool) → IsAdoptFault (cond b fault.NoMemory fault.Store)
    at true = tt
    at false = tt

pub refused_met : (s : State) (e : Error) → IsRefused s (fault_of e)
refused_met s e = at (is_memory e)
  where
    at : (b : Bool) → IsRefused s (cond b fault.NoMemory fault.Store)
    at true = tt
    at false = tt

-- ---- a store that is known

-- a store with some of our names, but not all our tables, is not known
pub unknown : (s : State) (taken columns : Bool) → (s.now.schema ≡ no_schema → taken ≡ false) → (IsOurs s.now → columns ≡ true) → taken ≡ true → columns ≡ false → IsKnown s → ⊥
unknown s taken columns none ours is lacks (inl blank) = true≢false (sym is ∙ none blank.0)
unknown s taken columns none ours is lacks (inr kept) = true≢false (sym (ours kept.0) ∙ lacks)

pub blank_of : (s : State) (taken : Bool) → (IsOurs s.now → taken ≡ true) → taken ≡ false → IsKnown s → IsBlank s
blank_of s taken ours is (inl blank) = blank
blank_of s taken ours is (inr kept) = absurd (true≢false (sym (ours kept.0) ∙ is))

pub kept_of : (s : State) (taken : Bool) → (s.now.schema ≡ no_schema → taken ≡ false) → taken ≡ true → IsKnown s → IsKept s.now
kept_of s taken none is (inl blank) = absurd (true≢false (sym is ∙ none blank.0))
kept_of s taken none is (inr kept) = kept

-- ---- a store that isn't ours

pub own_untaken : (s : State) → s.in_transaction ≡ false → is_taken s.now.schema ≡ false → IsForeign s → ⊥
own_untaken s out none (inl inside) = true≢false (sym inside ∙ out)
own_untaken s out none (inr it) = true≢false (sym it.1 ∙ none)

pub own_marked : (s : State) → s.in_transaction ≡ false → has_meta_rows s.now.schema.tables ≡ true → IsForeign s → ⊥
own_marked s out meta_rows (inl inside) = true≢false (sym inside ∙ out)
own_marked s out meta_rows (inr it) = true≢false (sym meta_rows ∙ it.2)

-- it is given back
pub given_back : {A C : Type 0} {now conn : C} (refusal : Refusal) (f : VaultFault)
    → (let r : Result (Unit {0}) Refusal = Err refusal in r ≡ Err (Answered fault.NotOurs)) → f ≡ told refusal → now ≡ conn
    → (let r : Result A (VaultFault × C) = Err (f, now) in r ≡ Err (fault.NotOurs, conn))
given_back refusal f e is same =
    let answered : refusal ≡ Answered fault.NotOurs = cc in
    rw (is, answered, same) refl

pub not_given : {u : Unit {0}} → (let r : Result (Unit {0}) Refusal = Ok u in r ≡ Err (Answered fault.NotOurs)) → ⊥
not_given e = cc

-- in a transaction it stays as it is
pub left_inside : (s : State) → s.in_transaction ≡ true → Settles s s (Err (Answered fault.NotOurs))
left_inside s inside = record {
  adopts = record {
    outside = λ out. absurd (true≢false (sym inside ∙ out));
    version = λ out. absurd (true≢false (sym inside ∙ out));
  };
  stays = λ up. (up, (refl, refl), refl);
  stop = λ up db may. inl may;
}

-- what was judged
pub settled_so : (s0 s1 : State) (r : Result (Unit {0}) Refusal) → s0.in_transaction ≡ false → IsSettled s0 → IsKept s0.now → Adopts s0 s1 (answer_of r) → OnErr r (IsUndone s0 s1)
    → (IsReady s0 → LeavesNoMore s0 s1) → Settles s0 s1 r
settled_so s0 s1 r out settled kept adopts err stop = record {
  adopts = adopts;
  stays = on_err_then r {Q = StaysAs s0 s1} (stays_undone s0 s1 out settled) err;
  stop = λ up db may. inl (stop (up, kept) db may);
}
