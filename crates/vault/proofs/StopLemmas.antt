-- What a stop leaves of a store in memory: what it holds.
use Rattle.std.proofs.Common.{◌≡◌, ◌⊎◌, inl, inr, ℕ, List, Result, Ok, Err, sym, ◌∙◌}
use Rattle.vault.specs.declared.answer.Deposited.{Deposited}
use Rattle.vault.specs.declared.answer.Deposited.TheVariants as stored
use Rattle.vault.specs.declared.fault.VaultFault.{VaultFault}
use Rattle.vault.specs.Changes.{Contents}
use Rattle.vault.specs.Calls.{CountsFaults, IsDone, IsDeposited}
use Rattle.vault.specs.Plain.{HoldsKept, LooksKept, CommitsKept}
use Rattle.vault.specs.Stops.{SaySame, says_same}

pub left_held : (v c left : Contents) → left ≡ v → HoldsKept v c → SaySame left c
left_held v c left is h = says_same left c (is ∙ sym h.same)

-- a call that changed records, or was refused
pub left_done : {A : Type 0} (expected : Result A VaultFault) (v c after left : Contents) (r : Result A VaultFault) → left ≡ v → IsDone (HoldsKept v) c after expected r
    → SaySame left c ⊎ ((x : A) × IsDone (SaySame left) c after expected (Ok x))
left_done expected v c after left (Ok x) is d = inr (x, record { answer = d.answer; held = left_held v after left is d.held })
left_done expected v c after left (Err e) is d = inl (left_held v c left is d.held)

-- a deposit
pub left_deposited : (v c left : Contents) (d class id text : List ℕ) (r : Result Deposited VaultFault) → left ≡ v → IsDeposited (HoldsKept v) c d class id text r
    → SaySame left c ⊎ ((x : Deposited) × IsDeposited (SaySame left) c d class id text (Ok x))
left_deposited v c left d class id text (Ok (stored.New uid)) is k = inr (stored.New uid, record { answer = k.answer; held = (k.held.0, left_held v _ left is k.held.1) })
left_deposited v c left d class id text (Ok (stored.Known uid)) is k = inl (left_held v c left is k.held)
left_deposited v c left d class id text (Err e) is k = inl (left_held v c left is k.held)

-- ---- a call of a store in memory, in one word

-- one that only looks
pub looks_kept : {A : Type 0} (old : Contents) (answered : Result A VaultFault)
    → CountsFaults 0 0 answered → LooksKept old old answered
looks_kept old answered counted = record {
  counted = counted;
  clean = λ _. tt;
  held = λ c clean held. held;
  up = λ c clean held up own. tt;
  stop = λ c clean up held left may. left_held old c left may held;
}

-- one that changes records
pub commits_kept : {A : Type 0} (after : Contents → Contents)
    (expected : Contents → Result A VaultFault) (old new : Contents) (answered : Result A VaultFault)
    → CountsFaults 0 0 answered
    → ((c : Contents) → HoldsKept old c → (Unit {0})
    → IsDone (HoldsKept new) c (after c) (expected c) answered)
    → CommitsKept old new (λ c Held said. IsDone Held c (after c) (expected c) said) answered
commits_kept after expected old new answered counted done = record {
  counted = counted;
  clean = λ _. tt;
  up = λ c clean held up own. tt;
  stop = λ c clean up held left may.
      left_done (expected c) new c (after c) left answered may (done c held tt);
}

-- a deposit
pub commits_deposited : (old new : Contents) (d class id text : List ℕ)
    (answered : Result Deposited VaultFault) → CountsFaults 0 0 answered
    → ((c : Contents) → HoldsKept old c → (Unit {0})
    → IsDeposited (HoldsKept new) c d class id text answered)
    → CommitsKept old new (λ c Held said. IsDeposited Held c d class id text said) answered
commits_deposited old new d class id text answered counted done = record {
  counted = counted;
  clean = λ _. tt;
  up = λ c clean held up own. tt;
  stop = λ c clean up held left may.
      left_deposited new c left d class id text answered may (done c held tt);
}
