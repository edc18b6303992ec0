-- Clerks of the same names with the same credentials are listed alike.
use Rattle.std.proofs.Common.{◌≡◌, ℕ, List, ap, ◌∙◌}
use Rattle.std.specs.Prelude.{map, filter_map, Option}
use Rattle.std.specs.Option.{option_map}
use Rattle.creds.specs.Names.{by_name}
use Rattle.creds.specs.declared.credential.Credential.{Credential}
use Rattle.vault.specs.declared.answer.ClerkKind.{ClerkKind}
use Rattle.vault.specs.declared.record.Clerk.{Clerk}
use Rattle.vault.specs.Records.{credential_in}
use Rattle.vault.specs.Clerks.{kind_of, kind_under, clerk_kinds}

abbrev names_of : List Clerk → List (List ℕ)
names_of cs = map (λ (x : Clerk). x.name) cs

pub kinds_alike : (xs ys : List Clerk) → by_name (names_of xs) ≡ by_name (names_of ys)
    → ((name : List ℕ) → credential_in name xs ≡ credential_in name ys) → clerk_kinds xs ≡ clerk_kinds ys
kinds_alike xs ys names found =
    let under : kind_under xs ≡ kind_under ys =
    (λ i name. option_map (λ (given : Credential). (let k : ClerkKind = record { clerk = name; kind = kind_of given } in k)) (found name i)) in
    ap (λ (f : List ℕ → Option ClerkKind). filter_map f (by_name (names_of xs))) under
    ∙ ap (filter_map (kind_under ys)) names
