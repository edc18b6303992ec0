-- The words for what a part of a line keeps of the store: from one to the other.
use Rattle.std.proofs.Common.{◌⊎◌, inl, Result, Ok, Err}
use Rattle.std.specs.Result.{IsErrAnd, IsOkAnd}
use Rattle.vault.specs.declared.fault.VaultFault.{VaultFault}
use Rattle.vault.specs.declared.vault.Vault.{Ghosts}
use Rattle.vault.specs.Changes.{Contents}
use Rattle.vault.specs.Stops.{SaySame, IsOwn}
use Rattle.vault.specs.Call.{Commits}
use Rattle.vault.specs.Parts.{OnlyLooks}
use Rattle.office.specs.Stopping.{ActsOnce}

-- an error is no answer
pub not_ok : {A E : Type 0} (r : Result A E) (P : E → Type 0) (Q : A → Type 0) → IsErrAnd r P
    → IsOkAnd r Q → ⊥
not_ok (Ok x) P Q err ok = err
not_ok (Err e) P Q err ok = ok

-- a part that only looked changed nothing, whatever it might have made
pub acts_looking : {V Own : Type 0} {vault : Ghosts V} {old new : V} (after : Contents → Contents)
    → OnlyLooks vault old new Own → ActsOnce vault old new Own after
acts_looking after it = record {
  counted = it.counted;
  clean = it.clean;
  up = it.up;
  stop = λ c held clean up. record { says = λ left may. inl (it.stop c held clean up left may) };
}

-- one call that changes records once, if what it makes of them is `after`
pub acts_once : {V A Own : Type 0} (vault : Ghosts V) {old new : V}
    {Done : Contents → (Contents → Type 0) → Result A VaultFault → Type 0}
    {answered : Result A VaultFault} (after : Contents → Contents)
    → Commits vault.holds vault.faults vault.is_clean vault.is_up vault.may_leave old new Done
    answered → (Own → IsOwn answered)
    → ((left c : Contents) → SaySame left c ⊎ ((x : A) × Done c (SaySame left) (Ok x))
    → SaySame left c ⊎ SaySame left (after c))
    → ActsOnce vault old new Own after
acts_once vault after it own made = record {
  counted = it.counted.kept;
  clean = it.clean;
  up = λ c held clean up is. it.up c clean held up (own is);
  stop = λ c held clean up. record {
    says = λ left may. made left c (it.stop c clean up held left may);
  };
}
