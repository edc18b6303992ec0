-- A deposit in parts as calls of the vault around the tables.
use Rattle.std.specs.Prelude.{◌≡◌, ℕ, List, Option, Some, None}
use Rattle.std.proofs.Common.{Result, subst, sym}
use Rattle.sqlite_trees.specs.declared.store.Store.{Ghosts}
use Rattle.sqlite.specs.Held.{Held, state}
use Rattle.vault.specs.declared.answer.Deposited.{Deposited}
use Rattle.vault.specs.declared.fault.VaultFault.{VaultFault}
use Rattle.vault.specs.Changes.{Contents}
use Rattle.vault.specs.Calls.{CountsFaults, IsDeposited}
use Rattle.sqlvault.specs.Opened.{Opened}
use Rattle.sqlvault.specs.Arrivals.{Arrival}
use Rattle.sqlvault.specs.UnderWay.{Prepared, Finishes, HoldsUnder, HoldsBeside, holds_in, clean_in}
use Rattle.sqlvault.specs.declared.work.Work.{Work}
use Rattle.sqlvault.specs.declared.work.Work.TheVariants as works
use Rattle.sqlvault.proofs.StopLemmas.{left_deposited}
use Rattle.sqlvault.proofs.AheadLemmas.{CommitsIn}

-- a deposit that was finished, of these names
pub of_names : {S : Type 0} (store : Ghosts S) {old new : Held S} (it : Arrival) (d class id text : List ℕ) (r : Result Deposited VaultFault)
    → it.maildrop ≡ d → it.class ≡ class → it.id ≡ id
    → Finishes store old new (works.Deposit it) (λ c Held a. IsDeposited Held c it.maildrop it.class it.id text a) r
    → Finishes store old new (works.Deposit it) (λ c Held a. IsDeposited Held c d class id text a) r
of_names store {old = old} {new = new} it d class id text r e f g a =
    subst (λ i. Finishes store old new (works.Deposit it) (λ c Held x. IsDeposited Held c d class i text x) r) g
    (subst (λ n. Finishes store old new (works.Deposit it) (λ c Held x. IsDeposited Held c d n it.id text x) r) f
    (subst (λ n. Finishes store old new (works.Deposit it) (λ c Held x. IsDeposited Held c n it.class it.id text x) r) e a))

pub deposit_finished : {S : Type 0} (store : Ghosts S) (old new : Prepared S) (was : Opened S)
    (it : Arrival) (d class id text : List ℕ) (r : Result Deposited VaultFault)
    → was ≡ old.vault → old.under_way ≡ Some (works.Deposit it) → new.under_way ≡ None
    → Finishes store was.conn new.vault.conn (works.Deposit it) (λ c Held a. IsDeposited Held c d class id text a) r
    → (c : Contents) → holds_in store old c → clean_in store new
    → IsDeposited (holds_in store new) c d class id text r
deposit_finished {S} store old new was it d class id text r e f g a c h clean =
    let at = subst (λ (v : Opened S). Finishes store v.conn new.vault.conn (works.Deposit it)
    (λ k Held x. IsDeposited Held k d class id text x) r) e a in
    let under : HoldsUnder (state store old.vault.conn) (works.Deposit it) c =
    subst (λ u. HoldsBeside (state store old.vault.conn) u c) f h in
    subst (λ (u : Option Work). IsDeposited (λ k. HoldsBeside (state store new.vault.conn) u k) c d class id text r) (sym g) (at.turns clean c under).done

pub deposit_commits : {S : Type 0} (store : Ghosts S) {old new : Prepared S} (was : Opened S)
    (it : Arrival) (d class id text : List ℕ) (r : Result Deposited VaultFault)
    → was ≡ old.vault → old.under_way ≡ Some (works.Deposit it)
    → CountsFaults was.faults new.vault.faults r
    → Finishes store was.conn new.vault.conn (works.Deposit it) (λ c Held a. IsDeposited Held c d class id text a) r
    → CommitsIn store old new (λ c Held a. IsDeposited Held c d class id text a) r
deposit_commits {S} store {old = old} {new = new} was it d class id text r e f counted a =
    let at = subst (λ (v : Opened S). Finishes store v.conn new.vault.conn (works.Deposit it)
    (λ k Held x. IsDeposited Held k d class id text x) r) e a in
    let under : (c : Contents) → holds_in store old c → HoldsUnder (state store old.vault.conn) (works.Deposit it) c =
    λ c h. subst (λ u. HoldsBeside (state store old.vault.conn) u c) f h in
    record {
      counted = subst (λ (v : Opened S). CountsFaults v.faults new.vault.faults r) e counted;
      clean = λ clean. at.clean clean;
      up = λ c clean h up own. (at.turns clean c (under c h)).up up own;
      stop = λ c clean up h left may. left_deposited (state store new.vault.conn) c left d class id text
          ((at.turns clean c (under c h)).stop up (under c h).within.stop) may;
    }
