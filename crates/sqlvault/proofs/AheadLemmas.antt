-- The calls of a vault that does removals in parts, by those of the vault inside.
use Rattle.std.proofs.Common.{◌≡◌, ◌⊎◌, ◌≤◌, inl, inr, ℕ, List, true, refl, sym, ap, subst, ◌∙◌, arith, true≢false}
use Rattle.std.proofs.Common.{Result, Ok, Err, Some, None}
use Rattle.std.specs.Prelude.{Option, IsTrue, IsErrAnd, is_ok, is_some, false}
use Rattle.std.proofs.lemmas.Bool.Decides.{nat_tests}
use Rattle.sqlite_trees.specs.declared.store.Store.{Ghosts}
use Rattle.sqlite.specs.Held.{Held, state}
use Rattle.sqlite.specs.State.{State, HasCleanDisk}
use Rattle.vault.specs.declared.fault.VaultFault.{VaultFault}
use Rattle.vault.specs.declared.fault.VaultFault.TheVariants as fault
use Rattle.vault.specs.Changes.{Contents, without_keys, with_messages}
use Rattle.vault.specs.Calls.{CountsFaults, IsRefusal, IsDone, AreRemoved, has_grown}
use Rattle.vault.specs.Stops.{IsOwn}
use Rattle.vault.specs.Call.{Looks, Commits}
use Rattle.vault.proofs.CallLemmas.{grown_before}
use Rattle.sqlvault.specs.Opened.{Opened}
use Rattle.sqlvault.specs.Stands.{Holds}
use Rattle.sqlvault.specs.Stops.{MayHold, LeavesHeld, LeavesLast, leaves_last}
use Rattle.sqlvault.specs.Removals.{Removal, removed_so_far}
use Rattle.sqlvault.specs.declared.work.Work.{Work}
use Rattle.sqlvault.specs.declared.work.Work.TheVariants as works
use Rattle.sqlvault.specs.UnderWay.{Prepared, Prepares, Finishes, HoldsBeside, HoldsUnder}
use Rattle.sqlvault.specs.UnderWay.{holds_in, clean_in, up_in, leave_in, faults_in}
use Rattle.sqlvault.specs.UnderWay.{EndsBeside, GivesUp}
use Rattle.sqlvault.specs.Frame.{Sees}
use Rattle.sqlvault.proofs.HoldsLemmas.{refusal_any}
use Rattle.sqlvault.proofs.SmallLemmas.{none_of}
use Rattle.sqlvault.proofs.FrameLemmas.{passed}
use Rattle.sqlvault.proofs.StopLemmas.{left_as, left_done, refusal_not_own}
use Rattle.sqlvault.proofs.UnderWayLemmas.{prepares_own, prepares_seen, prepares_unseen}
use Rattle.sqlvault.proofs.UnderWayLemmas.{told_under_way, gives_up_own}

-- a call of such a vault that only looks, and one that changes records once
abbrev pub LooksIn : {S A : Type 0} → Ghosts S → (old new : Prepared S) → Result A VaultFault
    → Type 0
LooksIn store old new answered = Looks (holds_in store) faults_in (clean_in store) (up_in store)
    (leave_in store) old new answered

abbrev pub CommitsIn : {S A : Type 0} → Ghosts S → (old new : Prepared S)
    → (Contents → (Contents → Type 0) → Result A VaultFault → Type 0) → Result A VaultFault
    → Type 0
CommitsIn store old new Done answered = Commits (holds_in store) faults_in (clean_in store)
    (up_in store) (leave_in store) old new Done answered

-- such calls of the vault inside
abbrev pub LooksInside : {S A : Type 0} → Ghosts S → (old new : Opened S) → Result A VaultFault
    → Type 0
LooksInside {S} store old new answered = Looks (λ (v : Opened S). Holds (state store v.conn))
    (λ (v : Opened S). v.faults) (λ (v : Opened S). HasCleanDisk (state store v.conn))
    (λ (v : Opened S). IsTrue (state store v.conn).is_open)
    (λ (v : Opened S). MayHold (state store v.conn)) old new answered

abbrev pub CommitsInside : {S A : Type 0} → Ghosts S → (old new : Opened S)
    → (Contents → (Contents → Type 0) → Result A VaultFault → Type 0) → Result A VaultFault
    → Type 0
CommitsInside {S} store old new Done answered = Commits
    (λ (v : Opened S). Holds (state store v.conn))
    (λ (v : Opened S). v.faults) (λ (v : Opened S). HasCleanDisk (state store v.conn))
    (λ (v : Opened S). IsTrue (state store v.conn).is_open)
    (λ (v : Opened S). MayHold (state store v.conn)) old new Done answered

-- ---- what is held where no work is under way

held_none : {S : Type 0} (store : Ghosts S) (v : Prepared S) (c : Contents)
    → v.under_way ≡ None → holds_in store v c → Holds (state store v.vault.conn) c
held_none store v c none h =
    subst (λ u. HoldsBeside (state store v.vault.conn) u c) none h

held_in_none : {S : Type 0} (store : Ghosts S) (v : Prepared S) (c : Contents)
    → v.under_way ≡ None → Holds (state store v.vault.conn) c → holds_in store v c
held_in_none store v c none h =
    subst (λ u. HoldsBeside (state store v.vault.conn) u c) (sym none) h

-- a stop leaves just what is held, also if work is under way
leaves_beside : (s : State) (under : Option Work) (c : Contents) → LeavesLast s
    → IsTrue s.is_open → HoldsBeside s under c → LeavesHeld s c
leaves_beside s None c law up h = leaves_last s c law up h
leaves_beside s (Some work) c law up h = h.within.stop

-- ---- one call, which gave the work up before

-- a step of the work
pub looks_prepared : {S A : Type 0} (store : Ghosts S) {old new : Prepared S} (was : Opened S)
    (before after : Option Work) (answered : Result A VaultFault)
    → was ≡ old.vault → old.under_way ≡ before → new.under_way ≡ after
    → CountsFaults was.faults new.vault.faults answered
    → Prepares store was.conn new.vault.conn before after (IsOwn answered)
    → LeavesLast (state store old.vault.conn)
    → LooksIn store old new answered
looks_prepared {S} {A} store {old = old} {new = new} was before after answered e f g counted it law =
    let at : Prepares store old.vault.conn new.vault.conn before after (IsOwn answered) =
    subst (λ (v : Opened S). Prepares store v.conn new.vault.conn before after (IsOwn answered)) e it in
    let under : (c : Contents) → holds_in store old c → HoldsBeside (state store old.vault.conn) before c =
    λ c h. subst (λ u. HoldsBeside (state store old.vault.conn) u c) f h in
    record {
      counted = subst (λ (v : Opened S). CountsFaults v.faults new.vault.faults answered) e counted;
      clean = λ clean. at.clean clean;
      held = λ c clean h. subst (λ u. HoldsBeside (state store new.vault.conn) u c) (sym g)
          (at.held clean c (under c h));
      up = λ c clean h up own. at.up clean c (under c h) up own;
      stop = λ c clean up h left may. left_as (state store new.vault.conn) c left
          (at.stop clean c (under c h) up
          (leaves_beside (state store old.vault.conn) old.under_way c law up h)) may;
    }

-- two, of which the first is done
pub looks_then_in : {S A : Type 0} (store : Ghosts S) {old mid new : Prepared S} {u : Unit {0}}
    {answered : Result A VaultFault}
    → (let r : Result (Unit {0}) VaultFault = Ok u in LooksIn store old mid r)
    → LooksIn store mid new answered → LooksIn store old new answered
looks_then_in store {old = old} {mid = mid} {new = new} a b = record {
  counted = record {
    kept = omega (arith, a.counted.kept, b.counted.kept);
    cause = λ is. grown_before old.vault.faults mid.vault.faults new.vault.faults a.counted.kept
        (b.counted.cause is);
  };
  clean = λ clean. a.clean (b.clean clean);
  held = λ c clean h. b.held c clean (a.held c (b.clean clean) h);
  up = λ c clean h up own. b.up c clean (a.held c (b.clean clean) h)
      (a.up c (b.clean clean) h up tt) own;
  stop = λ c clean up h. b.stop c clean (a.up c (b.clean clean) h up tt)
      (a.held c (b.clean clean) h);
}

-- a call of the vault inside that only looks
pub looks_inside : {S A : Type 0} (store : Ghosts S) {was new : Prepared S}
    {answered : Result A VaultFault} → was.under_way ≡ None → new.under_way ≡ None
    → LooksInside store was.vault new.vault answered → LooksIn store was new answered
looks_inside store {was = was} {new = new} none still b = record {
  counted = b.counted;
  clean = b.clean;
  held = λ c clean h. held_in_none store new c still
      (b.held c clean (held_none store was c none h));
  up = λ c clean h up own. b.up c clean (held_none store was c none h) up own;
  stop = λ c clean up h. b.stop c clean up (held_none store was c none h);
}

pub looks_after : {S A : Type 0} (store : Ghosts S) {old mid was new : Prepared S} {u : Unit {0}}
    {answered : Result A VaultFault} → was ≡ mid
    → (let r : Result (Unit {0}) VaultFault = Ok u in LooksIn store old mid r)
    → mid.under_way ≡ None → new.under_way ≡ was.under_way
    → LooksInside store was.vault new.vault answered → LooksIn store old new answered
looks_after {S} store {old = old} {was = was} {u = u} e a none same b =
    let none2 : was.under_way ≡ None = ap (λ (v : Prepared S). v.under_way) e ∙ none in
    looks_then_in store (subst (λ (v : Prepared S).
    let r : Result (Unit {0}) VaultFault = Ok u in LooksIn store old v r) (sym e) a)
    (looks_inside store none2 (same ∙ none2) b)

-- one that changes records once
pub commits_after : {S A : Type 0} (store : Ghosts S) {old mid was new : Prepared S} {u : Unit {0}}
    {answered : Result A VaultFault}
    (Done : Contents → (Contents → Type 0) → Result A VaultFault → Type 0) → was ≡ mid
    → (let r : Result (Unit {0}) VaultFault = Ok u in LooksIn store old mid r)
    → mid.under_way ≡ None
    → CommitsInside store was.vault new.vault Done answered
    → CommitsIn store old new Done answered
commits_after {S} store {old = old} {was = was} {new = new} {u = u} Done e first none b =
    let none2 : was.under_way ≡ None = ap (λ (v : Prepared S). v.under_way) e ∙ none in
    let a = subst (λ (v : Prepared S). let r : Result (Unit {0}) VaultFault = Ok u in
    LooksIn store old v r) (sym e) first in
    record {
      counted = record {
        kept = omega (arith, a.counted.kept, b.counted.kept);
        cause = λ is. grown_before old.vault.faults was.vault.faults new.vault.faults
            a.counted.kept (b.counted.cause is);
      };
      clean = λ clean. a.clean (b.clean clean);
      up = λ c clean h up own. b.up c clean (held_none store was c none2 (a.held c (b.clean clean) h))
          (a.up c (b.clean clean) h up tt) own;
      stop = λ c clean up h. b.stop c clean (a.up c (b.clean clean) h up tt)
          (held_none store was c none2 (a.held c (b.clean clean) h));
    }

-- what it answers and leaves
pub done_after : {S : Type 0} (store : Ghosts S) {old mid was : Prepared S} (new : Prepared S)
    {u : Unit {0}} (Done : (Contents → Type 0) → Type 0) (c : Contents) → was ≡ mid
    → (let r : Result (Unit {0}) VaultFault = Ok u in LooksIn store old mid r)
    → mid.under_way ≡ None → new.under_way ≡ was.under_way
    → (HasCleanDisk (state store new.vault.conn) → HasCleanDisk (state store was.vault.conn))
    → (Holds (state store was.vault.conn) c → HasCleanDisk (state store new.vault.conn)
    → Done (Holds (state store new.vault.conn)))
    → holds_in store old c → clean_in store new → Done (holds_in store new)
done_after {S} store {old = old} {was = was} new {u = u} Done c e first none same before done h
    clean =
    let none2 : was.under_way ≡ None = ap (λ (v : Prepared S). v.under_way) e ∙ none in
    let a = subst (λ (v : Prepared S). let r : Result (Unit {0}) VaultFault = Ok u in
    LooksIn store old v r) (sym e) first in
    subst (λ (under : Option Work). Done (λ k. HoldsBeside (state store new.vault.conn) under k))
    (sym (same ∙ none2))
    (done (held_none store was c none2 (a.held c (before clean) h)) clean)

-- ---- the work couldn't be given up

abbrev as_unit : {A : Type 0} → Result A VaultFault → Result (Unit {0}) VaultFault
as_unit (Ok x) = Ok tt
as_unit (Err e) = Err e

pub looks_refused : {S A : Type 0} (store : Ghosts S) {old new : Prepared S} {e : VaultFault}
    {answered : Result A VaultFault} → IsErrAnd answered (λ y. y ≡ e)
    → (let r : Result (Unit {0}) VaultFault = Ok tt in IsRefusal r e)
    → (let r : Result (Unit {0}) VaultFault = Err e in LooksIn store old new r)
    → LooksIn store old new answered
looks_refused {A = A} store {old = old} {new = new} {e = e} failed is it =
    subst (λ (a : Result A VaultFault). LooksIn store old new a) (sym (passed failed)) (record {
      counted = record { kept = it.counted.kept; cause = λ so. it.counted.cause (ap as_unit so) };
      clean = it.clean;
      held = it.held;
      up = λ c clean h up own. absurd (refusal_not_own A e is own);
      stop = it.stop;
    })

pub commits_refused : {S A : Type 0} (store : Ghosts S) {old new : Prepared S} {e : VaultFault}
    {answered : Result A VaultFault}
    (Done : Contents → (Contents → Type 0) → Result A VaultFault → Type 0)
    → IsErrAnd answered (λ y. y ≡ e)
    → (let r : Result (Unit {0}) VaultFault = Ok tt in IsRefusal r e)
    → (let r : Result (Unit {0}) VaultFault = Err e in LooksIn store old new r)
    → CommitsIn store old new Done answered
commits_refused {A = A} store {old = old} {new = new} {e = e} Done failed is it =
    subst (λ (a : Result A VaultFault). CommitsIn store old new Done a) (sym (passed failed)) (record {
      counted = record { kept = it.counted.kept; cause = λ so. it.counted.cause (ap as_unit so) };
      clean = it.clean;
      up = λ c clean h up own. absurd (refusal_not_own A e is own);
      stop = λ c clean up h left may. inl (it.stop c clean up h left may);
    })

pub done_refused : {S A : Type 0} (store : Ghosts S) {old new : Prepared S} {e : VaultFault}
    {answered : Result A VaultFault} (c after : Contents) (expected : Result A VaultFault)
    → IsErrAnd answered (λ y. y ≡ e)
    → (let r : Result (Unit {0}) VaultFault = Ok tt in IsRefusal r e)
    → (let r : Result (Unit {0}) VaultFault = Err e in LooksIn store old new r)
    → holds_in store old c → clean_in store new
    → IsDone (holds_in store new) c after expected answered
done_refused {A = A} store {new = new} {e = e} c after expected failed is it h clean =
    subst (λ (a : Result A VaultFault). IsDone (holds_in store new) c after expected a)
    (sym (passed failed)) (record { answer = refusal_any expected e is; held = it.held c clean h })

-- ---- the removal that is under way is finished

-- what it is of
pub of_these : {S : Type 0} (store : Ghosts S) {old new : Held S} (it : Removal)
    (d keys : List ℕ) (r : Result (Unit {0}) VaultFault) → it.maildrop ≡ d → it.keys ≡ keys
    → Finishes store old new (works.Removal it) (λ c Held a. AreRemoved Held c it.maildrop it.keys a) r
    → Finishes store old new (works.Removal it) (λ c Held a. AreRemoved Held c d keys a) r
of_these store {old = old} {new = new} it d keys r e f a =
    subst (λ ks. Finishes store old new (works.Removal it) (λ c Held x. AreRemoved Held c d ks x) r) f
    (subst (λ n. Finishes store old new (works.Removal it) (λ c Held x. AreRemoved Held c n it.keys x) r) e a)

pub finish_done : {S : Type 0} (store : Ghosts S) (old new : Prepared S) (was : Opened S)
    (it : Removal) (d keys : List ℕ) (r : Result (Unit {0}) VaultFault)
    → was ≡ old.vault → old.under_way ≡ Some (works.Removal it) → new.under_way ≡ None
    → Finishes store was.conn new.vault.conn (works.Removal it) (λ c Held a. AreRemoved Held c d keys a) r
    → (c : Contents) → holds_in store old c → clean_in store new
    → AreRemoved (holds_in store new) c d keys r
finish_done {S} store old new was it d keys r e f g a c h clean =
    let at = subst (λ (v : Opened S). Finishes store v.conn new.vault.conn (works.Removal it)
    (λ k Held x. AreRemoved Held k d keys x) r) e a in
    let under : HoldsUnder (state store old.vault.conn) (works.Removal it) c =
    subst (λ u. HoldsBeside (state store old.vault.conn) u c) f h in
    subst (λ (u : Option Work). AreRemoved (λ k. HoldsBeside (state store new.vault.conn) u k) c d
    keys r) (sym g) (at.turns clean c under).done

pub finish_commits : {S : Type 0} (store : Ghosts S) {old new : Prepared S} (was : Opened S)
    (it : Removal) (d keys : List ℕ) (r : Result (Unit {0}) VaultFault)
    → was ≡ old.vault → old.under_way ≡ Some (works.Removal it)
    → CountsFaults was.faults new.vault.faults r
    → Finishes store was.conn new.vault.conn (works.Removal it) (λ c Held a. AreRemoved Held c d keys a) r
    → CommitsIn store old new (λ c Held a. AreRemoved Held c d keys a) r
finish_commits {S} store {old = old} {new = new} was it d keys r e f counted a =
    let at = subst (λ (v : Opened S). Finishes store v.conn new.vault.conn (works.Removal it)
    (λ k Held x. AreRemoved Held k d keys x) r) e a in
    let under : (c : Contents) → holds_in store old c → HoldsUnder (state store old.vault.conn) (works.Removal it) c =
    λ c h. subst (λ u. HoldsBeside (state store old.vault.conn) u c) f h in
    record {
      counted = subst (λ (v : Opened S). CountsFaults v.faults new.vault.faults r) e counted;
      clean = λ clean. at.clean clean;
      up = λ c clean h up own. (at.turns clean c (under c h)).up up own;
      stop = λ c clean up h left may. left_done (Ok tt) (state store new.vault.conn) c
          (with_messages (without_keys d keys c.messages) c) left
          ((at.turns clean c (under c h)).stop up (under c h).within.stop) may;
    }

-- ---- steps of the work, as calls

-- a step that answered a fault, which has another type
pub prepares_refused : {S : Type 0} (A : Type 0) {store : Ghosts S} {old new : Held S}
    {before after : Option Work} (e : VaultFault)
    → (let r : Result (Unit {0}) VaultFault = Ok tt in IsRefusal r e)
    → (let r : Result (Unit {0}) VaultFault = Err e in Prepares store old new before after (IsOwn r))
    → (let r : Result A VaultFault = Err e in Prepares store old new before after (IsOwn r))
prepares_refused A e is it =
    prepares_own (λ own. absurd (refusal_not_own A e is own)) it

-- faults are counted by a step that is none
pub counts_none : {A : Type 0} (n : ℕ) (x : A)
    → (let r : Result A VaultFault = Ok x in CountsFaults n n r)
counts_none n x = record { kept = omega arith; cause = λ is. absurd (true≢false (ap is_ok is)) }

-- by a fault, which has another type
pub counts_as : {A : Type 0} (a n : ℕ) (e : VaultFault)
    → (let r : Result (Unit {0}) VaultFault = Err e in CountsFaults a n r)
    → (let r : Result A VaultFault = Err e in CountsFaults a n r)
counts_as a n e it = record { kept = it.kept; cause = λ so. it.cause (ap as_unit so) }

-- a step over a vault that is as this one
pub step_told : {S : Type 0} {Own : Type 0} (store : Ghosts S) {old was : Prepared S} {new : Held S}
    {before after : Option Work} (said : Option Work) → was ≡ old → said ≡ after
    → Prepares store was.vault.conn new before after Own
    → Prepares store old.vault.conn new before said Own
step_told {S} {Own} store {old = old} {was = was} {new = new} {before = before} {after = after} said e
    f it =
    subst (λ (u : Option Work). Prepares store old.vault.conn new before u Own) (sym f)
    (subst (λ (v : Prepared S). Prepares store v.vault.conn new before after Own) e it)

pub counts_told : {S A : Type 0} {old was : Prepared S} (n : ℕ) (r : Result A VaultFault) → was ≡ old
    → CountsFaults was.vault.faults n r → CountsFaults old.vault.faults n r
counts_told {S} n r e it = subst (λ (v : Prepared S). CountsFaults v.vault.faults n r) e it

-- nothing is under way in a vault that is as this one
pub none_told : {S : Type 0} {old was : Prepared S} → was ≡ old → old.under_way ≡ None
    → was.under_way ≡ None
none_told {S} e none = ap (λ (v : Prepared S). v.under_way) e ∙ none

-- a call over a vault that is as this one
pub looks_from : {S A : Type 0} (store : Ghosts S) {old was new : Prepared S}
    (r : Result A VaultFault) → was ≡ old → LooksIn store was new r → LooksIn store old new r
looks_from {S} store {new = new} r e it = subst (λ (v : Prepared S). LooksIn store v new r) e it

-- ---- the vault inside, given back once the work was given up

module _ {S : Type 0} (store : Ghosts S) {old mid was : Prepared S} (r : Result (Unit {0}) VaultFault)
    (e : was ≡ mid) (gave_up : LooksIn store old mid r) where
  back : LooksIn store old was r
  back = subst (λ (v : Prepared S). LooksIn store old v r) (sym e) gave_up

  -- it holds what was held
  pub given_back : mid.under_way ≡ None → (c : Contents) → holds_in store old c
      → HasCleanDisk (state store was.vault.conn) → Holds (state store was.vault.conn) c
  given_back none c h clean =
      held_none store was c (none_told e none) (back.held c clean h)

  pub given_back_clean : HasCleanDisk (state store was.vault.conn) → clean_in store old
  given_back_clean clean = back.clean clean

  pub given_back_counted : faults_in old ≤ was.vault.faults
  given_back_counted = back.counted.kept

-- ---- a call beside the work

module _ {S A : Type 0} {Own : Type 0} {Told : Contents → Type 0} (store : Ghosts S)
    {old new : Prepared S} (was : Opened S) (work : Work) (e : was ≡ old.vault)
    (f : old.under_way ≡ Some work) (law : LeavesLast (state store old.vault.conn)) where
  -- its queries were answered, and the work goes on
  pub looks_beside : (answered : Result A VaultFault) → new.under_way ≡ old.under_way
      → CountsFaults was.faults new.vault.faults answered
      → Sees store was.conn new.vault.conn Own Told → Own → LooksIn store old new answered
  looks_beside answered same counted sees own =
      looks_prepared store was (Some work) (Some work) answered e f (same ∙ f) counted
      (prepares_seen work sees own) law

-- what they say of the contents without what is removed so far
pub told_beside : {S : Type 0} {Own : Type 0} {Told : Contents → Type 0} (store : Ghosts S)
    {old : Prepared S} {new : Held S} (was : Opened S) (r : Removal) → was ≡ old.vault
    → old.under_way ≡ Some (works.Removal r) → Sees store was.conn new Own Told → (c : Contents)
    → holds_in store old c → HasCleanDisk (state store new) → Told (removed_so_far r c)
told_beside {S} {Own} {Told} store {old = old} {new = new} was r e f sees c h clean =
    told_under_way (works.Removal r) c (removed_so_far r c) (λ rows shown. shown)
    (subst (λ (v : Opened S). Sees store v.conn new Own Told) e sees) clean
    (subst (λ u. HoldsBeside (state store old.vault.conn) u c) f h)

-- ---- its queries met a fault, and the work was given up

abbrev fault_or : {A : Type 0} → VaultFault → Result A VaultFault → VaultFault
fault_or f (Ok x) = f
fault_or f (Err e) = e

-- the same of a call whose answer has another type
own_of : (A B : Type 0) (e : VaultFault) → (let r : Result A VaultFault = Err e in IsOwn r)
    → (let r : Result B VaultFault = Err e in IsOwn r)
own_of A B fault.Store own = own
own_of A B fault.NoMemory own = own
own_of A B fault.NoMaildrop own = tt
own_of A B fault.Conflict own = tt
own_of A B fault.Full own = tt
own_of A B fault.NotEmpty own = tt
own_of A B fault.NotOurs own = tt
own_of A B fault.OldVersion own = tt
own_of A B fault.NoClerk own = tt

pub counts_of : {A B : Type 0} (a n : ℕ) (e : VaultFault)
    → (let r : Result A VaultFault = Err e in CountsFaults a n r)
    → (let r : Result B VaultFault = Err e in CountsFaults a n r)
counts_of {A} a n e it = record {
  kept = it.kept;
  cause = λ so. it.cause (ap (λ (x : VaultFault). let r : Result A VaultFault = Err x in r)
      (ap (fault_or e) so));
}

module _ {S A : Type 0} {Own : Type 0} {Told : Contents → Type 0} (store : Ghosts S)
    {old mid new : Prepared S} (work : Work) (failed answered : VaultFault)
    (ends : EndsBeside store mid new failed answered) where
  pub looks_ended : (before : Opened S) → before ≡ old.vault → old.under_way ≡ Some work
      → (let said : Result A VaultFault = Err failed in
      CountsFaults before.faults mid.vault.faults said)
      → Sees store before.conn mid.vault.conn Own Told
      → LeavesLast (state store old.vault.conn)
      → (let said : Result A VaultFault = Err answered in LooksIn store old new said)
  looks_ended before same under counted sees law =
      looks_prepared store before (Some work) None (Err answered) same under ends.none
      (counts_of before.faults new.vault.faults answered
      (ends.counted before.faults (counts_of before.faults mid.vault.faults failed counted)))
      (prepares_own (own_of A (Unit {0}) answered) (prepares_unseen work sees ends.gives_up)) law

-- the fault is the one expected, or a refusal
pub told_ended : {A : Type 0} (expected : Result A VaultFault) (failed answered : VaultFault)
    → (answered ≡ failed) ⊎ (let r : Result (Unit {0}) VaultFault = Ok tt in IsRefusal r answered)
    → IsRefusal expected failed → IsRefusal expected answered
told_ended expected failed answered (inl same) is =
    subst (λ (x : VaultFault). IsRefusal expected x) (sym same) is
told_ended expected failed answered (inr refusal) is = refusal_any expected answered refusal

-- how many faults are then counted
grown_more : (a m n : ℕ) → m ≤ n → has_grown a m ≡ true → has_grown a n ≡ true
grown_more a m n more grown = grind (arith, nat_tests)

pub counts_after : {A : Type 0} (m n : ℕ) (e : VaultFault) {u : Unit {0}}
    → (let r : Result (Unit {0}) VaultFault = Ok u in CountsFaults m n r) → (a : ℕ)
    → (let r : Result A VaultFault = Err e in CountsFaults a m r)
    → (let r : Result A VaultFault = Err e in CountsFaults a n r)
counts_after m n e more a it = record {
  kept = omega (arith, it.kept, more.kept);
  cause = λ so. grown_more a m n more.kept (it.cause so);
}

pub counts_both : (m n : ℕ) (e : VaultFault)
    → (let r : Result (Unit {0}) VaultFault = Err e in CountsFaults m n r) → (a : ℕ)
    → a ≤ m → (let r : Result (Unit {0}) VaultFault = Err e in CountsFaults a n r)
counts_both m n e it a before = record {
  kept = omega (arith, before, it.kept);
  cause = λ so. grown_before a m n before (it.cause so);
}

-- the vault is so after giving the removal up was done
pub ended_by : {S : Type 0} (store : Ghosts S) {old : Prepared S} (was new : Prepared S)
    (failed : VaultFault) {u : Unit {0}} → was ≡ old → new.under_way ≡ None
    → (let r : Result (Unit {0}) VaultFault = Ok u in
    GivesUp store was.vault.conn new.vault.conn (IsOwn r))
    → (let r : Result (Unit {0}) VaultFault = Ok u in
    CountsFaults was.vault.faults new.vault.faults r)
    → EndsBeside store old new failed failed
ended_by {S} store was new failed e none gives counted =
    subst (λ (v : Prepared S). EndsBeside store v new failed failed) e (record {
      gives_up = gives_up_own (λ _. tt) gives;
      none = none;
      counted = λ n it. counts_after was.vault.faults new.vault.faults failed counted n it;
      answer = inl refl;
    })

-- or met a fault
pub ended_over : {S : Type 0} (store : Ghosts S) {old : Prepared S} (was new : Prepared S)
    (failed other : VaultFault) → was ≡ old → new.under_way ≡ None
    → (let r : Result (Unit {0}) VaultFault = Err other in
    GivesUp store was.vault.conn new.vault.conn (IsOwn r))
    → (let r : Result (Unit {0}) VaultFault = Err other in
    CountsFaults was.vault.faults new.vault.faults r)
    → (let r : Result (Unit {0}) VaultFault = Ok tt in IsRefusal r other)
    → EndsBeside store old new failed other
ended_over {S} store was new failed other e none gives counted refusal =
    subst (λ (v : Prepared S). EndsBeside store v new failed other) e (record {
      gives_up = gives;
      none = none;
      counted = λ n it. counts_both was.vault.faults new.vault.faults other counted n it.kept;
      answer = inr refusal;
    })

-- ---- whether work is under way

pub none_under : {S : Type 0} (v : Prepared S) → is_some v.under_way ≡ false → v.under_way ≡ None
none_under v none = none_of v.under_way none
