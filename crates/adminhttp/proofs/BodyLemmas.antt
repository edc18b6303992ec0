-- The policy that a body spells.
use Rattle.std.proofs.Common.{◌≡◌, ◌≢◌, ℕ, Bool, true, false, List, Result, Ok, Err, refl, sym, ap, ◌∙◌}
use Rattle.std.proofs.lemmas.Str.{is_utf8-from_IsUtf8, IsUtf8-from_is_utf8}
use Rattle.std.specs.Str.{IsUtf8, is_utf8}
use Rattle.policy.specs.Policy.{Policy}
use Rattle.policy.specs.PolicyText.{rules_of}
use Rattle.policy.specs.declared.fault.PolicyFault.{PolicyFault}
use Rattle.policy.specs.declared.fault.PolicyFault.TheVariants.{NotToml, NoMemory}
use Rattle.adminhttp.specs.Bodies.{policy_of, or_fault, no_command_of}
use Rattle.adminhttp.specs.declared.no_command.NoCommand.TheVariants.{BadPolicy}
use Rattle.adminhttp.specs.declared.no_command.NoCommand.TheVariants as stop

pub not_text : (body : List ℕ) → ¬ IsUtf8 body → policy_of body ≡ Err (BadPolicy NotToml)
unfolding policy_of
not_text body none = by (is_utf8 body) refl
  where
    by : (b : Bool) → is_utf8 body ≡ b → policy_of body ≡ Err (BadPolicy NotToml)
    by true e = absurd (none (IsUtf8-from_is_utf8 body e))
    by false e = rw e refl

text_of : (body text : List ℕ) (read : Result Policy PolicyFault) → text ≡ body → IsUtf8 body → rules_of text ≡ read → policy_of body ≡ or_fault read
unfolding policy_of
text_of body text read same utf8 is =
    let here : rules_of body ≡ read = ap rules_of (sym same) ∙ is in
    rw (is_utf8-from_IsUtf8 body utf8, here) refl

pub policy_read : (body text : List ℕ) (policy : Policy) → text ≡ body → IsUtf8 body → rules_of text ≡ Ok policy → policy_of body ≡ Ok policy
policy_read body text policy same utf8 is = text_of body text (Ok policy) same utf8 is

told : (fault : PolicyFault) → no_command_of fault ≢ stop.NoMemory → (fault ≢ NoMemory) × (no_command_of fault ≡ BadPolicy fault)
told NoMemory h = absurd (h refl)
told _ h = (λ e. cc e, refl)

pub policy_fault : (body text : List ℕ) (fault : PolicyFault) → text ≡ body → IsUtf8 body → (fault ≢ NoMemory → rules_of text ≡ Err fault)
    → no_command_of fault ≢ stop.NoMemory → policy_of body ≡ Err (no_command_of fault)
policy_fault body text fault same utf8 is h =
    let t = told fault h in
    text_of body text (Err fault) same utf8 (is t.0) ∙ ap Err (sym t.1)
