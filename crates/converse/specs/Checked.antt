-- What a check prints of a store.
use Rattle.std.specs.Prelude.{◌≡◌, ℕ, ◌-◌, ◌^◌, min, true, List, [], ◌∷◌, ◌++◌, length, sum_by}
use Rattle.std.specs.Prelude.{Option, None, Some, is_some, codes}
use Rattle.std.specs.Fmt.{decimal}
use Rattle.std.specs.List.{All, flat_map}
use Rattle.creds.specs.declared.credential.Credential.{Credential}
use Rattle.creds.specs.declared.credential.Credential.TheVariants.{Apop, Pass}
use Rattle.vault.specs.declared.answer.Total.{Total}
use Rattle.vault.specs.declared.record.Clerk.{Clerk}
use Rattle.vault.specs.declared.record.Keyed.{Keyed}
use Rattle.vault.specs.declared.record.Receipt.{Receipt}
use Rattle.vault.specs.Records.{credential_in}
use Rattle.vault.specs.Changes.{Contents, records_of, totals}
use Rattle.converse.specs.declared.check_store.StoreFile.{StoreFile}
use Rattle.converse.specs.Texts.{differing, differs_line}

-- the kind of a clerk's credential
abbrev pub kind_text : Credential → List ℕ
kind_text (Apop secret) = codes "apop"
kind_text (Pass digest) = codes "pass"

-- that of a clerk who is there
abbrev pub kind_in : Option Credential → List ℕ
kind_in None = []
kind_in (Some credential) = kind_text credential

-- these are names of clerks
abbrev pub AreKnown : (names : List (List ℕ)) → Contents → Type 0
AreKnown names c = All (λ name. is_some (credential_in name c.clerks) ≡ true) names

-- of the file: the version of its tables and how many octets it has with its log
abbrev pub file_lines : StoreFile → List ℕ
file_lines f = codes "version " ++ decimal f.version ++ codes "\nsize " ++ decimal f.octets ++ codes "\n"

-- of a maildrop: its name, its messages and their octets
abbrev pub maildrop_line : Total → List ℕ
maildrop_line t = codes "maildrop " ++ t.maildrop ++ codes " " ++ decimal t.messages ++ codes " " ++ decimal t.octets ++ codes "\n"

-- of a clerk: the name and the kind of credential
abbrev pub clerk_line : List Clerk → (name : List ℕ) → List ℕ
clerk_line clerks name = codes "clerk " ++ name ++ codes " " ++ kind_in (credential_in name clerks) ++ codes "\n"

-- as far as it can be counted
abbrev pub counted : ℕ → ℕ
counted n = min n (2 ^ 64 - 1)

-- of all: how many maildrops and messages there are
abbrev pub counts_front : (maildrops messages : ℕ) → List ℕ
counts_front maildrops messages = codes "ok, " ++ decimal maildrops ++ codes " maildrops, " ++ decimal messages ++ codes " messages, "

-- and how many octets, clerks and rules
abbrev pub counts_rest : (octets clerks rules : ℕ) → List ℕ
counts_rest octets clerks rules = decimal octets ++ codes " octets, " ++ decimal clerks ++ codes " clerks, " ++ decimal rules ++ codes " rules\n"

-- the line of both
abbrev pub counts_line : (maildrops messages octets clerks rules : ℕ) → List ℕ
counts_line maildrops messages octets clerks rules = counts_front maildrops messages ++ counts_rest octets clerks rules

-- of these maildrops
abbrev pub last_line : List Total → (clerks rules : ℕ) → List ℕ
last_line ts clerks rules =
    counts_line (length ts) (counted (sum_by (λ (t : Total). t.messages) ts)) (counted (sum_by (λ (t : Total). t.octets) ts)) clerks rules

-- at the end: the last line or, if messages differ, a line for each of them
abbrev pub end_text : (differing : List Keyed) → List Total → (clerks rules : ℕ) → List ℕ
end_text [] ts clerks rules = last_line ts clerks rules
end_text (x ∷ xs) ts clerks rules = flat_map differs_line (x ∷ xs)

-- of a store in this file, whose clerks have these names: maildrops by name, clerks in this order
abbrev pub store_text : StoreFile → Contents → (names : List (List ℕ))
    → (against : Option (List Receipt)) → List ℕ
store_text f c names rs =
    file_lines f ++ flat_map maildrop_line (totals (records_of c)) ++ flat_map (clerk_line c.clerks) names
    ++ end_text (differing rs c) (totals (records_of c)) (length names) (length c.policy.rules)
