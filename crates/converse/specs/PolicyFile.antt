-- The policy that a file's octets spell in TOML 1.0 and UTF-8, or their first fault.
use Rattle.std.specs.Prelude.{◌≡◌, ℕ, ◌⊎◌, List, Ok, Err, length}
use Rattle.std.specs.Str.{IsUtf8}
use Rattle.policy.specs.Policy.{Policy}
use Rattle.policy.specs.PolicyText.{rules_of}
use Rattle.policy.specs.WrittenText.{policy_text}
use Rattle.policy.specs.declared.fault.PolicyFault.{PolicyFault}
use Rattle.policy.specs.declared.fault.PolicyFault.TheVariants.{NotToml}
use Rattle.converse.specs.Streams.{Writing, Writes, WritesPart}
use Rattle.converse.specs.Told.{count_line}

-- the octets are the text of this policy
abbrev pub IsPolicyText : List ℕ → Policy → Type 0
IsPolicyText octets policy = IsUtf8 octets × (rules_of octets ≡ Ok policy)

-- this is the first fault of the octets; octets that aren't UTF-8 are no TOML
abbrev pub IsFaultOf : List ℕ → PolicyFault → Type 0
IsFaultOf octets fault = (IsUtf8 octets → rules_of octets ≡ Err fault) × (¬ IsUtf8 octets → fault ≡ NotToml)

-- this is the first fault of two texts: of the first or, if that is a policy's, of the second
abbrev pub IsFaultOfEither : (first second : List ℕ) → PolicyFault → Type 0
IsFaultOfEither first second fault =
    IsFaultOf first fault ⊎ ((policy : Policy) × IsPolicyText first policy × IsFaultOf second fault)

-- the octets are the text of no policy
abbrev pub IsNoPolicyText : List ℕ → Type 0
IsNoPolicyText octets = (policy : Policy) → ¬ IsPolicyText octets policy

-- the octets are a policy's text, and the count of that policy's rules is written
abbrev pub TellsCount : (octets : List ℕ) → (before now : Writing) → Type 0
TellsCount octets before now =
    (policy : Policy) × IsPolicyText octets policy
    × Writes before now (count_line (length policy.rules))

-- or a part of that line
abbrev pub TellsCountPart : (octets : List ℕ) → (before now : Writing) → Type 0
TellsCountPart octets before now =
    (policy : Policy) × IsPolicyText octets policy
    × WritesPart before now (count_line (length policy.rules))

-- the octets are a policy's text, and the policy is written in its own form
abbrev pub TellsWritten : (octets : List ℕ) → (before now : Writing) → Type 0
TellsWritten octets before now =
    (policy : Policy) × IsPolicyText octets policy × Writes before now (policy_text policy)

-- or a part of that
abbrev pub TellsWrittenPart : (octets : List ℕ) → (before now : Writing) → Type 0
TellsWrittenPart octets before now =
    (policy : Policy) × IsPolicyText octets policy × WritesPart before now (policy_text policy)
