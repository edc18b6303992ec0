-- Looks at a vault, one after another.
use Rattle.std.proofs.Common.{◌≡◌, Bool, true, false, List, [], Result, Ok, Err, ap, sym}
use Rattle.std.proofs.Common.{true≢false, refl, subst}
use Rattle.std.specs.Prelude.{⊤, Option, None, is_ok, if◌then◌else◌}
use Rattle.std.specs.Result.{IsErrAnd}
use Rattle.vault.specs.declared.answer.Head.{Head}
use Rattle.vault.specs.declared.fault.VaultFault.{VaultFault}
use Rattle.vault.specs.Changes.{Contents}
use Rattle.vault.specs.Calls.{IsDone}
use Rattle.vault.specs.Call.{Looks}
use Rattle.vault.specs.Parts.{OnlyLooks}
use Rattle.vault.specs.declared.vault.Vault.{Ghosts}
use Rattle.recent.specs.declared.totals.KeptTotal.{KeptTotal}
use Rattle.recent.specs.Recalling.{Recalling, KeptHeads, HoldsFitting, Fits, TotalsFit, RowsFit}

-- a loop over a vault only looked at it, and rows that fit still do
pub record CountsSoFar {V : Type 0} (vault : Ghosts V) (before now : V)
    (rows counted : List KeptTotal) : Type 0 where
  pub looks : OnlyLooks vault before now ⊤
  pub fits : (c : Contents) → vault.holds before c → vault.is_clean now → RowsFit rows c
      → RowsFit counted c

-- what a call that changes nothing leaves, whatever its answer
pub held_in : {A : Type 0} (Holds : Contents → Type 0) (c : Contents) (r : Result A VaultFault) → Holds (if is_ok r then c else c) → Holds c
held_in Holds c (Ok x) h = h
held_in Holds c (Err e) h = h

pub held_done : {A : Type 0} {Holds : Contents → Type 0} {c : Contents}
    {expected answered : Result A VaultFault} → IsDone Holds c c expected answered → Holds c
held_done {Holds = Holds} {c = c} {answered = answered} it = held_in Holds c answered it.held

abbrev heads_or_none : Result (List Head) VaultFault → List Head
heads_or_none (Ok hs) = hs
heads_or_none (Err e) = []

-- heads that are answered are those of the contents
pub heads_answered : (b : Bool) (hs xs : List Head) (e : VaultFault) → ◌≡◌ {A = Result (List Head) VaultFault} (if b then Ok hs else Err e) (Ok xs) → xs ≡ hs
heads_answered true hs xs e h = sym (ap heads_or_none h)
heads_answered false hs xs e h = absurd (true≢false (sym (ap is_ok h)))

-- a fault that was handed on
pub passed_on : (r : Result (Unit {0}) VaultFault) (e : VaultFault) → IsErrAnd r (λ y. y ≡ e) → r ≡ Err e
passed_on (Ok x) e h = absurd h
passed_on (Err y) e h = cc

-- a call that only looks at the vault inside, if what is kept then fits
pub looks_inside : {V A : Type 0} (vault : Ghosts V) (old was new : Recalling V)
    (answered : Result A VaultFault) → was ≡ old
    → Looks vault.holds vault.faults vault.is_clean vault.is_up vault.may_leave was.vault new.vault
    answered
    → ((c : Contents) → vault.is_clean new.vault
    → HoldsFitting (vault.holds old.vault) old.kept old.totals c
    → HoldsFitting (vault.holds new.vault) new.kept new.totals c)
    → Looks (λ (r : Recalling V). HoldsFitting (vault.holds r.vault) r.kept r.totals)
    (λ (r : Recalling V). vault.faults r.vault) (λ (r : Recalling V). vault.is_clean r.vault)
    (λ (r : Recalling V). vault.is_up r.vault) (λ (r : Recalling V). vault.may_leave r.vault) old new
    answered
looks_inside {V} {A} vault old was new answered e it fits =
    let at = subst (λ (r : Recalling V). Looks vault.holds vault.faults vault.is_clean vault.is_up
    vault.may_leave r.vault new.vault answered) e it in
    record {
      counted = at.counted;
      clean = at.clean;
      held = fits;
      up = λ c clean held. at.up c clean held.inside;
      stop = λ c clean up held. at.stop c clean up held.inside;
    }

-- what is kept still fits, as it is or, after a fault, forgotten
fitting_still : {A : Type 0} {Holds Left : Contents → Type 0} {c : Contents}
    {kept left_kept : List KeptHeads} {totals left_totals : Option (List KeptTotal)}
    (r : Result A VaultFault)
    → left_kept ≡ (if is_ok r then kept else []) → left_totals ≡ (if is_ok r then totals else None)
    → Left c → HoldsFitting Holds kept totals c → HoldsFitting Left left_kept left_totals c
fitting_still {c = c} (Ok x) k t left held = record {
  inside = left;
  fits = subst (λ ks. Fits ks c) (sym k) held.fits;
  sums = subst (λ ts. TotalsFit ts c) (sym t) held.sums;
}
fitting_still {c = c} (Err e) k t left held = record {
  inside = left;
  fits = subst (λ ks. Fits ks c) (sym k) tt;
  sums = subst (λ ts. TotalsFit ts c) (sym t) tt;
}

-- a call that only looks at the vault inside, after which a fault forgets what is kept
pub looks_after : {V A : Type 0} (vault : Ghosts V) (old was new : Recalling V)
    (answered : Result A VaultFault) → was ≡ old
    → Looks vault.holds vault.faults vault.is_clean vault.is_up vault.may_leave was.vault new.vault
    answered
    → new.kept ≡ (if is_ok answered then was.kept else [])
    → new.totals ≡ (if is_ok answered then was.totals else None)
    → Looks (λ (r : Recalling V). HoldsFitting (vault.holds r.vault) r.kept r.totals)
    (λ (r : Recalling V). vault.faults r.vault) (λ (r : Recalling V). vault.is_clean r.vault)
    (λ (r : Recalling V). vault.is_up r.vault) (λ (r : Recalling V). vault.may_leave r.vault) old new
    answered
looks_after {V} {A} vault old was new answered e it kept totals =
    subst (λ (o : Recalling V).
    Looks (λ (r : Recalling V). HoldsFitting (vault.holds r.vault) r.kept r.totals)
    (λ (r : Recalling V). vault.faults r.vault) (λ (r : Recalling V). vault.is_clean r.vault)
    (λ (r : Recalling V). vault.is_up r.vault) (λ (r : Recalling V). vault.may_leave r.vault) o new
    answered) e
    (looks_inside vault was was new answered refl it
    (λ c clean held. fitting_still answered kept totals (it.held c clean held.inside) held))
