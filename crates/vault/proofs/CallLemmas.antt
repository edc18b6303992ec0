-- The words of specs/Call and specs/Parts: of one part, and of two parts one after the other.
use Rattle.std.proofs.Common.{◌≡◌, ◌≤◌, ℕ, true, Result, Ok, Err, ap, true≢false, arith}
use Rattle.std.proofs.lemmas.Bool.Decides.{nat_tests}
use Rattle.std.specs.Prelude.{⊤, is_ok}
use Rattle.vault.specs.declared.fault.VaultFault.{VaultFault}
use Rattle.vault.specs.declared.fault.VaultFault.TheVariants as fault
use Rattle.vault.specs.declared.vault.Vault.{Ghosts}
use Rattle.vault.specs.Changes.{Contents}
use Rattle.vault.specs.Calls.{has_grown}
use Rattle.vault.specs.Stops.{SaySame, IsOwn}
use Rattle.vault.specs.Call.{Looks}
use Rattle.vault.specs.Parts.{OnlyLooks}

-- the law of every vault: between two calls a stop leaves what is held
abbrev pub Settles : {V : Type 0} → Ghosts V → V → Type 0
Settles vault v = (c : Contents) → vault.is_clean v → vault.is_up v → vault.holds v c
    → (left : Contents) → vault.may_leave v left → SaySame left c

-- no call yet: a loop begins so
pub looks_none : {V : Type 0} {Own : Type 0} (vault : Ghosts V) (v : V) → Settles vault v
    → OnlyLooks vault v v Own
looks_none vault v settled = record {
  counted = omega arith;
  clean = λ clean. clean;
  held = λ c held clean. held;
  up = λ c held clean up own. up;
  stop = λ c held clean up. settled c clean up held;
}

-- one call
pub looks_once : {V A Own : Type 0} (vault : Ghosts V) {old new : V}
    {answered : Result A VaultFault}
    → Looks vault.holds vault.faults vault.is_clean vault.is_up vault.may_leave old new answered
    → (Own → IsOwn answered) → OnlyLooks vault old new Own
looks_once vault it own = record {
  counted = it.counted.kept;
  clean = it.clean;
  held = λ c held clean. it.held c clean held;
  up = λ c held clean up is. it.up c clean held up (own is);
  stop = λ c held clean up. it.stop c clean up held;
}

-- a part that ended as it should in fewer cases
pub looks_less : {V Own Less : Type 0} {vault : Ghosts V} {old new : V} → (Less → Own)
    → OnlyLooks vault old new Own → OnlyLooks vault old new Less
looks_less less it = record {
  counted = it.counted;
  clean = it.clean;
  held = it.held;
  up = λ c held clean up is. it.up c held clean up (less is);
  stop = it.stop;
}

-- two parts, of which the first ended as it should
pub looks_then : {V Own : Type 0} {vault : Ghosts V} {old mid new : V}
    → OnlyLooks vault old mid ⊤ → OnlyLooks vault mid new Own → OnlyLooks vault old new Own
looks_then a b = record {
  counted = omega (arith, a.counted, b.counted);
  clean = λ clean. a.clean (b.clean clean);
  held = λ c held clean. b.held c (a.held c held (b.clean clean)) clean;
  up = λ c held clean up own.
      let was = b.clean clean in
      b.up c (a.held c held was) clean (a.up c held was up tt) own;
  stop = λ c held clean up.
      let was = b.clean clean in
      b.stop c (a.held c held was) clean (a.up c held was up tt);
}

-- a count that grew from a later number grew from an earlier one
pub grown_before : (a b n : ℕ) → a ≤ b → has_grown b n ≡ true → has_grown a n ≡ true
grown_before a b n h g = grind (arith, nat_tests)

-- a part that ended as it should, and then one that answers as a call does
pub looks_last : {V A : Type 0} (vault : Ghosts V) {old mid new : V}
    {answered : Result A VaultFault}
    → OnlyLooks vault old mid ⊤
    → Looks vault.holds vault.faults vault.is_clean vault.is_up vault.may_leave mid new answered
    → Looks vault.holds vault.faults vault.is_clean vault.is_up vault.may_leave old new answered
looks_last vault {old = old} {mid = mid} {new = new} a b = record {
  counted = record {
    kept = omega (arith, a.counted, b.counted.kept);
    cause = λ is. grown_before
        (vault.faults old) (vault.faults mid) (vault.faults new) a.counted (b.counted.cause is);
  };
  clean = λ clean. a.clean (b.clean clean);
  held = λ c clean held. b.held c clean (a.held c held (b.clean clean));
  up = λ c clean held up own.
      let was = b.clean clean in
      b.up c clean (a.held c held was) (a.up c held was up tt) own;
  stop = λ c clean up held.
      let was = b.clean clean in
      b.stop c clean (a.up c held was up tt) (a.held c held was);
}

-- ---- an answer

-- no call, and an answer that tells of no fault
pub looks_self : {V A : Type 0} (vault : Ghosts V) (v : V) (x : A) → Settles vault v
    → (let r : Result A VaultFault = Ok x in
    Looks vault.holds vault.faults vault.is_clean vault.is_up vault.may_leave v v r)
looks_self vault v x settled = record {
  counted = record { kept = omega arith; cause = λ is. absurd (true≢false (ap is_ok is)) };
  clean = λ clean. clean;
  held = λ c clean held. held;
  up = λ c clean held up own. up;
  stop = λ c clean up held. settled c clean up held;
}

-- an answer of another type, which tells of a fault of the store only if that one did
pub looks_as : {V A B : Type 0} (vault : Ghosts V) {old new : V} {was : Result A VaultFault}
    (answered : Result B VaultFault)
    → Looks vault.holds vault.faults vault.is_clean vault.is_up vault.may_leave old new was
    → (answered ≡ Err fault.Store → was ≡ Err fault.Store) → (IsOwn answered → IsOwn was)
    → Looks vault.holds vault.faults vault.is_clean vault.is_up vault.may_leave old new answered
looks_as vault answered it cause own = record {
  counted = record { kept = it.counted.kept; cause = λ is. it.counted.cause (cause is) };
  clean = it.clean;
  held = it.held;
  up = λ c clean held up is. it.up c clean held up (own is);
  stop = it.stop;
}

abbrev fault_in : {A : Type 0} → Result A VaultFault → VaultFault
fault_in (Ok x) = fault.NoMemory
fault_in (Err e) = e

own_as : (A B : Type 0) (e : VaultFault) → (let r : Result B VaultFault = Err e in IsOwn r)
    → (let r : Result A VaultFault = Err e in IsOwn r)
own_as A B fault.Store own = own
own_as A B fault.NoMemory own = own
own_as A B fault.NoMaildrop own = tt
own_as A B fault.Conflict own = tt
own_as A B fault.Full own = tt
own_as A B fault.NotEmpty own = tt
own_as A B fault.NotOurs own = tt
own_as A B fault.OldVersion own = tt
own_as A B fault.NoClerk own = tt

-- another value
pub looks_ok : {V A B : Type 0} (vault : Ghosts V) {old new : V} (x : A) (y : B)
    → (let r : Result A VaultFault = Ok x in
    Looks vault.holds vault.faults vault.is_clean vault.is_up vault.may_leave old new r)
    → (let r : Result B VaultFault = Ok y in
    Looks vault.holds vault.faults vault.is_clean vault.is_up vault.may_leave old new r)
looks_ok vault x y it =
    looks_as vault (Ok y) it (λ is. absurd (true≢false (ap is_ok is))) (λ own. own)

-- the same fault
pub looks_err : {V A B : Type 0} (vault : Ghosts V) {old new : V} (e : VaultFault)
    → (let r : Result A VaultFault = Err e in
    Looks vault.holds vault.faults vault.is_clean vault.is_up vault.may_leave old new r)
    → (let r : Result B VaultFault = Err e in
    Looks vault.holds vault.faults vault.is_clean vault.is_up vault.may_leave old new r)
looks_err {V} {A} {B} vault e it =
    looks_as vault (Err e) it (λ is. ap Err (ap fault_in is)) (λ own. own_as A B e own)
