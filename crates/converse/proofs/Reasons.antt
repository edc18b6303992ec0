-- Why a script isn't begun, and that this is told.
use Rattle.std.proofs.Common.{◌≡◌, ◌⊎◌, inl, inr, refl, ℕ, List, Option, Result, Ok, true, false, sym, ◌∙◌, subst, IfSome, IsErr, IsOk}
use Rattle.std.proofs.lemmas.Bool.{false≢true}
use Rattle.creds.specs.Names.{is_host}
use Rattle.converse.specs.Causes.{IsWhyNot, Tells}
use Rattle.converse.specs.Printed.{PrintsPart}
use Rattle.converse.specs.Script.{ScriptLine, script_of}
use Rattle.converse.specs.Told.{fault_line}
use Rattle.converse.specs.declared.fault.Fault.{Fault}
use Rattle.converse.specs.declared.fault.Fault.TheVariants.{BadHost}
use Rattle.converse.proofs.Playing.{of_known}

read_well : (r : Result (List ScriptLine) ℕ) (lines : List ScriptLine) → r ≡ Ok lines → IsOk r
read_well r lines e = subst IsOk (sym e) refl

not_read : (r : Result (List ScriptLine) ℕ) (lines : List ScriptLine) → r ≡ Ok lines → ¬ IsErr r
not_read r lines e ill = let none = subst IsErr e ill in cc

module _ (known : Option (List ℕ)) (host : List ℕ) (before after : Option (List ℕ)) where
  abbrev IsTold : Type 0
  IsTold = IfSome known (λ text. IsErr (script_of text) ⊎ (is_host host ≡ false) → Tells before after (IsWhyNot text host))

  -- the script wasn't read
  pub unread_told : (fault : Fault) → IfSome known (λ text. (host : List ℕ) → IsWhyNot text host fault) → PrintsPart before after (fault_line fault) → IsTold
  unread_told fault why told = of_known known (λ text. (host : List ℕ) → IsWhyNot text host fault)
      (λ text. IsErr (script_of text) ⊎ (is_host host ≡ false) → Tells before after (IsWhyNot text host)) (λ text is premise. (fault, is host, told)) why

  -- it was read
  pub host_told : (lines : List ScriptLine) (fault : Fault) → (is_host host ≡ false → fault ≡ BadHost) → IfSome known (λ text. script_of text ≡ Ok lines) → PrintsPart before after (fault_line fault)
      → IsTold
  host_told lines fault bad read told = of_known known (λ text. script_of text ≡ Ok lines)
      (λ text. IsErr (script_of text) ⊎ (is_host host ≡ false) → Tells before after (IsWhyNot text host))
      (λ text is premise. elim premise [
        | inl ill ↦ absurd (not_read (script_of text) lines is ill)
        | inr none ↦ (BadHost, (read_well (script_of text) lines is, none), subst (λ (f : Fault). PrintsPart before after (fault_line f)) (bad none) told)
      ])
      read

  -- and the host is one
  pub none_told : (lines : List ScriptLine) → is_host host ≡ true → IfSome known (λ text. script_of text ≡ Ok lines) → IsTold
  none_told lines good read = of_known known (λ text. script_of text ≡ Ok lines)
      (λ text. IsErr (script_of text) ⊎ (is_host host ≡ false) → Tells before after (IsWhyNot text host))
      (λ text is premise. elim premise [
        | inl ill ↦ absurd (not_read (script_of text) lines is ill)
        | inr none ↦ absurd (false≢true (sym none ∙ good))
      ])
      read
