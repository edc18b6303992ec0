-- What the list of a store's clerks says.
use Rattle.std.specs.Prelude.{ℕ, List, map, Result, Ok}
use Rattle.creds.specs.Names.{by_name}
use Rattle.creds.specs.declared.credential.Credential.{Credential}
use Rattle.vault.specs.declared.fault.VaultFault.{VaultFault}
use Rattle.vault.specs.declared.record.Clerk.{Clerk}
use Rattle.vault.specs.Changes.{Contents}
use Rattle.vault.specs.Calls.{IsDone}
use Rattle.mailsql.specs.declared.rows.Clerk as rows
use Rattle.sqlvault.specs.Keeps.{clerk_row}

-- the name in a clerk's row
abbrev pub row_name : rows.Clerk → List ℕ
row_name row = row.name

-- the row of a clerk with this credential
abbrev pub row_of : (name : List ℕ) → Credential → rows.Clerk
row_of name given = clerk_row (record { name = name; credential = given })

-- the clerks' names, in the order of their octets
abbrev pub clerk_names : List Clerk → List (List ℕ)
clerk_names clerks = by_name (map (λ (x : Clerk). x.name) clerks)

-- the names of all clerks are answered, in order, and nothing is changed
abbrev pub AreClerks : (Contents → Type 0) → Contents → Result (List (List ℕ)) VaultFault → Type 0
AreClerks Holds c answered = IsDone Holds c c (Ok (clerk_names c.clerks)) answered
