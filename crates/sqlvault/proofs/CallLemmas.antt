-- What a call of the vault keeps and does, by what its part over the connection did.
use Rattle.std.proofs.Common.{◌≡◌, ◌⊎◌, IsTrue, Result, Ok, refl, sym, ap, arith, subst, true≢false}
use Rattle.std.specs.Prelude.{is_ok}
use Rattle.sqlite_trees.specs.declared.store.Store.{Ghosts}
use Rattle.sqlite.specs.Held.{Held, state}
use Rattle.sqlite.specs.State.{HasCleanDisk}
use Rattle.vault.specs.declared.fault.VaultFault.{VaultFault}
use Rattle.vault.specs.Changes.{Contents}
use Rattle.vault.specs.Calls.{CountsFaults}
use Rattle.vault.specs.Stops.{SaySame, IsOwn}
use Rattle.vault.specs.Call.{Looks as LooksOver, Commits as CommitsOver}
use Rattle.sqlvault.specs.declared.refusal.Refusal.{Refusal}
use Rattle.sqlvault.specs.Refusals.{answer_of}
use Rattle.sqlvault.specs.Opened.{Opened}
use Rattle.sqlvault.specs.Stands.{Holds}
use Rattle.sqlvault.specs.Stops.{MayHold, LeavesLast, LeavesOr, leaves_last}
use Rattle.sqlvault.specs.Frame.{IsMet, Looks, Acts}
use Rattle.sqlvault.proofs.FrameLemmas.{looks_self, looks_told, acts_told}
use Rattle.sqlvault.proofs.StopLemmas.{left_as}

-- a call that only looks, by what it does to the connection
pub looks_over : {S A : Type 0} (store : Ghosts S) {old was new after : Opened S}
    (said : Result A VaultFault)
    → was ≡ old → after ≡ new → CountsFaults was.faults new.faults said
    → Looks store was.conn new.conn (IsOwn said) → LeavesLast (state store old.conn)
    → LooksOver (λ (v : Opened S). Holds (state store v.conn)) (λ (v : Opened S). v.faults)
    (λ (v : Opened S). HasCleanDisk (state store v.conn))
    (λ (v : Opened S). IsTrue (state store v.conn).is_open)
    (λ (v : Opened S). MayHold (state store v.conn)) old after said
looks_over {S} store {old = old} {was = was} {new = new} {after = after} said e f counted looks law =
    let told = subst (λ (o : Opened S). CountsFaults o.faults after.faults said) e
    (subst (λ (n : Opened S). CountsFaults was.faults n.faults said) (sym f) counted) in
    let at = subst (λ (o : Opened S). Looks store o.conn after.conn (IsOwn said)) e
    (subst (λ (n : Opened S). Looks store was.conn n.conn (IsOwn said)) (sym f) looks) in
    record {
      counted = told;
      clean = λ clean. at.clean clean;
      held = λ c clean h. (at.rests clean c h).held;
      up = λ c clean h up own. (at.rests clean c h).up up own;
      stop = λ c clean up h left may. left_as (state store after.conn) c left
          ((at.rests clean c h).stop up (leaves_last (state store old.conn) c law up h)) may;
    }

-- one that had nothing to do
pub looks_idle : {S A : Type 0} (store : Ghosts S) {old was : Opened S} (x : A)
    → was ≡ old → LeavesLast (state store old.conn) → (let said : Result A VaultFault = Ok x in
    LooksOver (λ (v : Opened S). Holds (state store v.conn)) (λ (v : Opened S). v.faults)
    (λ (v : Opened S). HasCleanDisk (state store v.conn))
    (λ (v : Opened S). IsTrue (state store v.conn).is_open)
    (λ (v : Opened S). MayHold (state store v.conn)) old was said)
looks_idle store {was = was} x e law = looks_over store (Ok x) e refl
    (record { kept = omega arith; cause = λ is. absurd (true≢false (ap is_ok is)) })
    (looks_self store was.conn) law

-- one whose answer is told
pub looks_call : {S A : Type 0} (store : Ghosts S) {old was new : Opened S} (now : Held S)
    (r : Result A Refusal) (said : Result A VaultFault)
    → was ≡ old → new.conn ≡ now → said ≡ answer_of r → CountsFaults was.faults new.faults said
    → Looks store was.conn now (IsMet r) → LeavesLast (state store old.conn)
    → LooksOver (λ (v : Opened S). Holds (state store v.conn)) (λ (v : Opened S). v.faults)
    (λ (v : Opened S). HasCleanDisk (state store v.conn))
    (λ (v : Opened S). IsTrue (state store v.conn).is_open)
    (λ (v : Opened S). MayHold (state store v.conn)) old new said
looks_call store {was = was} {new = new} now r said e f same counted looks law =
    looks_over store said e refl counted
    (looks_told store was.conn was.conn new.conn now r said refl f same looks) law

-- a call that changes records once
pub commits_call : {S A : Type 0} (store : Ghosts S) {old was new : Opened S} (now : Held S)
    (Done : Contents → (Contents → Type 0) → Result A VaultFault → Type 0)
    (r said : Result A VaultFault)
    → was ≡ old → new.conn ≡ now → r ≡ said → CountsFaults was.faults new.faults r
    → Acts store was.conn now Done said → LeavesLast (state store old.conn)
    → ((c left : Contents)
    → LeavesOr (state store new.conn) c (λ Held. (x : A) × Done c Held (Ok x))
    → MayHold (state store new.conn) left
    → SaySame left c ⊎ ((x : A) × Done c (SaySame left) (Ok x)))
    → CommitsOver (λ (v : Opened S). Holds (state store v.conn)) (λ (v : Opened S). v.faults)
    (λ (v : Opened S). HasCleanDisk (state store v.conn))
    (λ (v : Opened S). IsTrue (state store v.conn).is_open)
    (λ (v : Opened S). MayHold (state store v.conn)) old new Done r
commits_call {S} store {old = old} {was = was} {new = new} now Done r said e f same counted acts law
    left_by =
    let at = acts_told store Done old.conn was.conn new.conn now r said
    (ap (λ (o : Opened S). o.conn) e) f same acts in
    record {
      counted = subst (λ (o : Opened S). CountsFaults o.faults new.faults r) e counted;
      clean = λ clean. at.clean clean;
      up = λ c clean h up own. (at.turns clean c h).up up own;
      stop = λ c clean up h left may. left_by c left
          ((at.turns clean c h).stop up (leaves_last (state store old.conn) c law up h)) may;
    }

-- and what it does
pub acts_done : {S A : Type 0} (store : Ghosts S) {old was : Opened S} (new : Opened S)
    (now : Held S)
    (Done : Contents → (Contents → Type 0) → Result A VaultFault → Type 0)
    (r said : Result A VaultFault)
    → was ≡ old → new.conn ≡ now → r ≡ said → Acts store was.conn now Done said → (c : Contents)
    → Holds (state store old.conn) c → HasCleanDisk (state store new.conn)
    → Done c (Holds (state store new.conn)) r
acts_done {S} store {old = old} {was = was} new now Done r said e f same acts c h clean =
    ((acts_told store Done old.conn was.conn new.conn now r said
    (ap (λ (o : Opened S). o.conn) e) f same acts).turns clean c h).done
