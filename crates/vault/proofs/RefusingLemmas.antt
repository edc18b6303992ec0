-- A call that only looks, through a vault that refuses one of its calls.
use Rattle.std.proofs.Common.{◌≡◌, Result, subst}
use Rattle.vault.specs.declared.fault.VaultFault.{VaultFault}
use Rattle.vault.specs.declared.vault.Vault.{Ghosts}
use Rattle.vault.specs.Calls.{CountsFaults}
use Rattle.vault.specs.Stops.{IsOwn}
use Rattle.vault.specs.Call.{Looks}
use Rattle.vault.specs.Parts.{OnlyLooks}
use Rattle.vault.specs.Refusals.{Refusals, over, faults_of}

pub looks_through : {V A : Type 0} (vault : Ghosts V) (old was new : Refusals V)
    (answered : Result A VaultFault) → was ≡ old
    → OnlyLooks vault was.vault new.vault (IsOwn answered)
    → CountsFaults (faults_of vault.faults old) (faults_of vault.faults new) answered
    → Looks (over vault.holds) (faults_of vault.faults) (over vault.is_clean) (over vault.is_up)
    (over vault.may_leave) old new answered
looks_through {V} vault old was new answered e it counted =
    let at = subst (λ (r : Refusals V). OnlyLooks vault r.vault new.vault (IsOwn answered)) e it in
    record {
      counted = counted;
      clean = at.clean;
      held = λ c clean held. at.held c held clean;
      up = λ c clean held up own. at.up c held clean up own;
      stop = λ c clean up held. at.stop c held clean up;
    }
