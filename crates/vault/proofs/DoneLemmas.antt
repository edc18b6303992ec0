-- What a call of a store in memory promises, from its answer and the lists that it leaves.
use Rattle.std.proofs.Common.{◌≡◌, Bool, true, false, Result, refl, sym, ◌∙◌, subst}
use Rattle.std.specs.Prelude.{is_ok, if◌then◌else◌}
use Rattle.vault.specs.declared.fault.VaultFault.{VaultFault}
use Rattle.vault.specs.Changes.{Contents, AreSound}
use Rattle.vault.specs.Calls.{IsAnswer, IsDone}
use Rattle.vault.specs.Plain.{HoldsKept, have_old_keys}

-- sound contents, each key of which was given by an earlier deposit
pub record IsKept (c : Contents) : Type 0 where
  pub sound : AreSound c
  pub keys : have_old_keys c ≡ true

held_after : (after c next : Contents) (ok : Bool) → IsKept c → next ≡ (if ok then after else c) → (ok ≡ true → IsKept c → IsKept after) → HoldsKept next (if ok then after else c)
held_after after c next true h e f = let k = f refl h in record { same = sym e; sound = k.sound; keys = k.keys }
held_after after c next false h e f = record { same = sym e; sound = h.sound; keys = h.keys }

-- a call that changes the contents k by `after`, if it is not refused, and answers as expected of them
pub done : {A : Type 0} (after : Contents → Contents) (expected : Contents → Result A VaultFault) (k v c next : Contents) (r : Result A VaultFault)
    → k ≡ v → HoldsKept v c → IsAnswer (expected k) r → next ≡ (if is_ok r then after k else k) → (is_ok r ≡ true → IsKept k → IsKept (after k))
    → IsDone (HoldsKept next) c (after c) (expected c) r
done {A} after expected k v c next r e h a n f =
    let same : c ≡ k = h.same ∙ sym e in
    subst (λ (x : Contents). IsAnswer (expected x) r → next ≡ (if is_ok r then after x else x) → (is_ok r ≡ true → IsKept x → IsKept (after x))
    → IsDone (HoldsKept next) c (after c) (expected c) r) same
    (λ a n f. record { answer = a; held = held_after (after c) c next (is_ok r) (record { sound = h.sound; keys = h.keys }) n f })
    a n f

-- a call that only looks
pub looked : {A : Type 0} (expected : Contents → Result A VaultFault) (k v c : Contents) (r : Result A VaultFault)
    → k ≡ v → HoldsKept v c → (IsKept k → IsAnswer (expected k) r) → IsDone (HoldsKept v) c c (expected c) r
looked expected k v c r e h a =
    let same : k ≡ c = e ∙ sym h.same in
    let kept : IsKept c = record { sound = h.sound; keys = h.keys } in
    record { answer = subst (λ (x : Contents). IsKept x → IsAnswer (expected x) r) same a kept; held = one (is_ok r) c v h }
  where
    one : (b : Bool) (x v : Contents) → HoldsKept v x → HoldsKept v (if b then x else x)
    one true x v h = h
    one false x v h = h
