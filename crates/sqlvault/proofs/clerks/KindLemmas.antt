-- The clerks that are read of the rows are those of the contents, in whatever order.
use Rattle.std.proofs.Common.{◌≡◌, ℕ, ◌+◌, ◌<◌, Bool, true, List, [], ◌∷◌, ◌++◌, length, map, take, get_or, Some, refl, sym, ap, subst, ◌∙◌}
use Rattle.std.specs.Prelude.{Option}
use Rattle.std.specs.Option.{option_map}
use Rattle.std.specs.List.{list_all}
use Rattle.std.specs.List.Sorted.{IsPermutation}
use Rattle.std.specs.Str.{bytes_eq}
use Rattle.std.proofs.lemmas.Bool.{and_parts}
use Rattle.std.proofs.lemmas.List.{take_more, get_or-map}
use Rattle.std.proofs.lemmas.List.Sorted.{IsPermutation-map}
use Rattle.sqlite_trees.proofs.ListLemmas.{pull_back}
use Rattle.creds.specs.Names.{is_name, name_of}
use Rattle.creds.specs.declared.credential.Credential.{Credential}
use Rattle.creds.specs.declared.credential.Credential.TheVariants as kept
use Rattle.policy.specs.Policy.{are_distinct}
use Rattle.vault.specs.declared.answer.ClerkKind.{ClerkKind}
use Rattle.vault.specs.declared.record.Clerk as vault
use Rattle.vault.specs.Records.{credential_in, is_sound_clerk, is_sound_credential}
use Rattle.vault.specs.Changes.{Contents}
use Rattle.vault.specs.Clerks.{clerk_kinds}
use Rattle.vault.proofs.ListLemmas.{bytes_same, bytes_are, length-map}
use Rattle.vault.proofs.KindLemmas.{kinds_alike}
use Rattle.mailsql.specs.declared.rows.Clerk.{Clerk}
use Rattle.mailsql.specs.Columns.{Rows}
use Rattle.sqlvault.specs.Keeps.{Keeps, clerk_row}
use Rattle.sqlvault.proofs.AgreeLemmas.{by_name_permuted}
use Rattle.sqlvault.proofs.PermutationLemmas.{all_permuted, find_apart}
use Rattle.sqlvault.proofs.SmallLemmas.{all_at}

-- ---- clerks in another order are listed alike

abbrev same_name : vault.Clerk → vault.Clerk → Bool
same_name x y = bytes_eq x.name y.name

same_key : (name : List ℕ) (x y : vault.Clerk) → bytes_eq x.name name ≡ true → bytes_eq y.name name ≡ true
    → same_name x y ≡ true
same_key name x y e f = rw (bytes_are x.name name e, bytes_are y.name name f) (bytes_same name)

found_alike : (name : List ℕ) (xs ys : List vault.Clerk) → are_distinct same_name xs ≡ true
    → IsPermutation xs ys → credential_in name xs ≡ credential_in name ys
found_alike name xs ys apart h =
    ap (λ (o : Option vault.Clerk). option_map (λ (x : vault.Clerk). x.credential) o)
    (find_apart same_name (λ (x : vault.Clerk). bytes_eq x.name name) xs ys (same_key name) apart h)

listed_alike : (xs ys : List vault.Clerk) → are_distinct same_name xs ≡ true → IsPermutation xs ys
    → clerk_kinds xs ≡ clerk_kinds ys
listed_alike xs ys apart h =
    kinds_alike xs ys
    (by_name_permuted (map (λ (x : vault.Clerk). x.name) xs) (map (λ (x : vault.Clerk). x.name) ys)
    (IsPermutation-map (λ (x : vault.Clerk). x.name) xs ys h))
    (λ name. found_alike name xs ys apart h)

-- ---- so what is read of the rows is listed as the contents are

pub kinds_listed : (rows : Rows) (c : Contents) (read : List Clerk) (kinds : List ClerkKind)
    → Keeps rows c → read ≡ rows.clerks
    → ((cs : List vault.Clerk) → read ≡ map clerk_row cs → list_all is_sound_clerk cs ≡ true
    → kinds ≡ clerk_kinds cs)
    → kinds ≡ clerk_kinds c.clerks
kinds_listed rows c read kinds k is listed =
    let back = pull_back clerk_row (map clerk_row c.clerks) rows.clerks k.clerks c.clerks refl in
    listed back.0 (is ∙ back.2)
    (sym (all_permuted is_sound_clerk c.clerks back.0 back.1) ∙ k.sound.records.clerks)
    ∙ sym (listed_alike c.clerks back.0 k.sound.records.clerks_apart back.1)

-- ---- one row

formed : (c : vault.Clerk) → is_sound_clerk c ≡ true → (is_name c.name ≡ true) × (is_sound_credential c.credential ≡ true)
formed c h = and_parts (is_name c.name) (is_sound_credential c.credential) h

pub named : (row : Clerk) (c : vault.Clerk) → row ≡ clerk_row c → is_sound_clerk c ≡ true → name_of row.name ≡ Some c.name
named row c is h = let form = (formed c h).0 in ap (λ (r : Clerk). name_of r.name) is ∙ rw form refl

-- what is read of a clerk's row is the clerk
pub clerk_is : (c : vault.Clerk) (name : List ℕ) (credential : Credential) → Some name ≡ Some c.name → Some credential ≡ Some c.credential
    → (let x : vault.Clerk = record { name = name; credential = credential } in Some x ≡ Some c)
clerk_is c name credential m k =
    let a : name ≡ c.name = cc in
    let b : credential ≡ c.credential = cc in
    λ i. Some (let x : vault.Clerk = record { name = a i; credential = b i } in x)

pub some_clerk : vault.Clerk
some_clerk = record { name = []; credential = kept.Pass [] }

-- one clerk more is read
pub clerks_more : (rows : List Clerk) (cs clerks grown : List vault.Clerk) (i : ℕ) (row : Clerk) (some : vault.Clerk) → i < length rows → row ≡ get_or rows i row
    → rows ≡ map clerk_row cs → list_all is_sound_clerk cs ≡ true → clerks ≡ take i cs
    → ((c : vault.Clerk) → row ≡ clerk_row c → is_sound_clerk c ≡ true → grown ≡ clerks ++ c ∷ []) → grown ≡ take (i + 1) cs
clerks_more rows cs clerks grown i row some lt is same all before pushed =
    let lt2 : i < length cs = subst (λ n. i < n) (ap (λ (l : List Clerk). length l) same ∙ length-map clerk_row cs) lt in
    let at : row ≡ clerk_row (get_or cs i some) = is ∙ ap (λ l. get_or l i row) same ∙ get_or-map clerk_row cs i some row lt2 in
    pushed (get_or cs i some) at (all_at is_sound_clerk cs i some lt2 all)
    ∙ ap (λ l. l ++ get_or cs i some ∷ []) before ∙ sym (take_more cs i some lt2)
