-- Facts under an Ok or an Err.
use Rattle.std.proofs.Common.{◌≡◌, Ok, Err, Result, sym, subst}
use Rattle.std.specs.Prelude.{IfOk, IfErr, IsErrAnd, OnOk, OnErr}

module _ {X E : Type 0} where
  pub on_ok : (r : Result X E) (P : Type 0) → P → OnOk r P
  on_ok (Ok x) P p = p
  on_ok (Err e) P p = tt

  pub on_err : (r : Result X E) (P : Type 0) → P → OnErr r P
  on_err (Ok x) P p = tt
  on_err (Err e) P p = p

  pub if_ok : (r : Result X E) (P Q : X → Type 0) → ((x : X) → P x → Q x) → IfOk r P → IfOk r Q
  if_ok (Ok x) P Q f p = f x p
  if_ok (Err e) P Q f p = tt

  pub on_ok_then : (r : Result X E) {P Q : Type 0} → (P → Q) → OnOk r P → OnOk r Q
  on_ok_then (Ok x) f p = f p
  on_ok_then (Err e) f p = tt

  pub on_err_then : (r : Result X E) {P Q : Type 0} → (P → Q) → OnErr r P → OnErr r Q
  on_err_then (Ok x) f p = tt
  on_err_then (Err e) f p = f p

  pub if_err : (r : Result X E) (P Q : E → Type 0) → ((e : E) → P e → Q e) → IfErr r P → IfErr r Q
  if_err (Ok x) P Q f p = tt
  if_err (Err e) P Q f p = f e p

  -- an error that `?` passed on is told
  pub if_passed_on : (r : Result X E) (e : E) (P : E → Type 0) → IsErrAnd r (λ y. y ≡ e) → P e → IfErr r P
  if_passed_on (Ok x) e P h p = tt
  if_passed_on (Err y) e P h p = subst P (sym h) p
