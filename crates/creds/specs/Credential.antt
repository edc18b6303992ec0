-- How a clerk shows who it is: by APOP, or by USER and PASS (RFC 1939, 7).
use Rattle.std.specs.Prelude.{ℕ, Bool, false, List, Option, Some, None}
use Rattle.std.specs.Str.{bytes_eq}
use Rattle.creds.specs.Digests.{apop_digest, pass_digest}
use Rattle.creds.specs.declared.credential.Credential.{Credential}
use Rattle.creds.specs.declared.credential.Credential.TheVariants as kept
use Rattle.creds.specs.declared.credential.Proof.{Proof}
use Rattle.creds.specs.declared.credential.Proof.TheVariants as given

-- what a clerk shows: a digest of 16 octets, or a password
pub data Shown : Type 0 where
  ByApop : List ℕ → Shown
  ByPass : List ℕ → Shown

-- what a proof shows
abbrev pub shown : Proof → Shown
shown (given.Apop digest) = ByApop digest
shown (given.Pass password) = ByPass password.now

-- the credential and what is shown are of one kind, with equal digests
abbrev pub admits : Credential → (name stamp : List ℕ) → Shown → Bool
admits (kept.Apop secret) name stamp (ByApop digest) = bytes_eq (apop_digest stamp secret) digest
admits (kept.Pass digest) name stamp (ByPass password) = bytes_eq (pass_digest name password) digest
admits _ name stamp _ = false

-- a clerk that isn't known is never admitted
abbrev pub is_admitted : Option Credential → (name stamp : List ℕ) → Shown → Bool
is_admitted None name stamp proof = false
is_admitted (Some credential) name stamp proof = admits credential name stamp proof
