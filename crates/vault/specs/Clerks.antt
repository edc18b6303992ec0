-- The list of a store's clerks: each with the kind of the credential, and nothing else of it.
use Rattle.std.specs.Prelude.{ℕ, List, map, filter_map, Option, Result, Ok}
use Rattle.std.specs.Option.{option_map}
use Rattle.creds.specs.Names.{by_name}
use Rattle.creds.specs.declared.credential.Credential.{Credential}
use Rattle.creds.specs.declared.credential.Credential.TheVariants as kept
use Rattle.vault.specs.declared.answer.ClerkKind.{ClerkKind}
use Rattle.vault.specs.declared.answer.CredentialKind.{CredentialKind}
use Rattle.vault.specs.declared.answer.CredentialKind.TheVariants.{Apop, Pass}
use Rattle.vault.specs.declared.fault.VaultFault.{VaultFault}
use Rattle.vault.specs.declared.record.Clerk.{Clerk}
use Rattle.vault.specs.Records.{credential_in}
use Rattle.vault.specs.Changes.{Contents}
use Rattle.vault.specs.Calls.{IsDone}

-- the kind of a credential
abbrev pub kind_of : Credential → CredentialKind
kind_of (kept.Apop secret) = Apop
kind_of (kept.Pass digest) = Pass

-- the clerk of this name with the kind of the credential, if there is one
abbrev pub kind_under : List Clerk → (name : List ℕ) → Option ClerkKind
kind_under clerks name =
    option_map (λ given. record { clerk = name; kind = kind_of given }) (credential_in name clerks)

-- every clerk with the kind of the credential, sorted by name
abbrev pub clerk_kinds : List Clerk → List ClerkKind
clerk_kinds clerks = filter_map (kind_under clerks) (by_name (map (λ (x : Clerk). x.name) clerks))

-- every clerk is answered, and nothing is changed
abbrev pub AreClerkKinds : (Contents → Type 0) → Contents → Result (List ClerkKind) VaultFault
    → Type 0
AreClerkKinds Holds c answered = IsDone Holds c c (Ok (clerk_kinds c.clerks)) answered
