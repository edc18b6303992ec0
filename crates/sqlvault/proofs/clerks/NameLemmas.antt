-- The names in the clerks' rows are those of the clerks.
use Rattle.std.proofs.Common.{◌≡◌, ℕ, ◌<◌, true, List, [], ◌∷◌, length, map, get_or, refl, sym, ap, subst, ◌∙◌}
use Rattle.std.specs.List.{list_all}
use Rattle.std.proofs.lemmas.Bool.{and_parts}
use Rattle.std.proofs.lemmas.List.{get_or-map}
use Rattle.std.proofs.lemmas.List.Sorted.{IsPermutation-map}
use Rattle.creds.specs.Names.{is_name, by_name}
use Rattle.vault.specs.declared.record.Clerk as vault
use Rattle.vault.specs.Records.{is_sound_clerk, is_sound_credential}
use Rattle.vault.specs.Changes.{Contents}
use Rattle.vault.proofs.ListLemmas.{length-map}
use Rattle.mailsql.specs.declared.rows.Clerk.{Clerk}
use Rattle.mailsql.specs.Columns.{Rows}
use Rattle.sqlvault.specs.Clerks.{row_name, clerk_names}
use Rattle.sqlvault.specs.Keeps.{Keeps, clerk_row}
use Rattle.sqlvault.proofs.AgreeLemmas.{names_are, names_told}
use Rattle.sqlvault.proofs.PermutationLemmas.{all_permuted}
use Rattle.sqlvault.proofs.SmallLemmas.{both_hold}

each_named : (cs : List vault.Clerk) → list_all is_sound_clerk cs ≡ true
    → list_all is_name (map (λ (c : vault.Clerk). c.name) cs) ≡ true
each_named [] all = refl
each_named (x ∷ xs) all =
    let p = and_parts (is_sound_clerk x) (list_all is_sound_clerk xs) all in
    both_hold (is_name x.name) (list_all is_name (map (λ (c : vault.Clerk). c.name) xs))
    (and_parts (is_name x.name) (is_sound_credential x.credential) p.0).0 (each_named xs p.1)

-- each has its form
names_sound : (rows : Rows) (c : Contents) → Keeps rows c
    → list_all is_name (map row_name rows.clerks) ≡ true
names_sound rows c k =
    sym (all_permuted is_name (map row_name (map clerk_row c.clerks)) (map row_name rows.clerks)
    (IsPermutation-map row_name (map clerk_row c.clerks) rows.clerks k.clerks))
    ∙ ap (list_all is_name) (sym (names_are c.clerks)) ∙ each_named c.clerks k.sound.records.clerks

-- so what is read of them and sorted are the clerks' names in order
pub names_listed : (rows : Rows) (c : Contents) (read : List Clerk) (names : List (List ℕ))
    → Keeps rows c → read ≡ rows.clerks
    → (list_all is_name (map row_name read) ≡ true → names ≡ by_name (map row_name read))
    → names ≡ clerk_names c.clerks
names_listed rows c read names k is sorted =
    sorted (ap (λ l. list_all is_name (map row_name l)) is ∙ names_sound rows c k)
    ∙ ap (λ l. by_name (map row_name l)) is ∙ sym (names_told rows c k)

-- a name stands in its row's place
pub named_at : (rows : List Clerk) (i : ℕ) (row : Clerk) → i < length rows → row ≡ get_or rows i row
    → (i < length (map row_name rows)) × (row.name ≡ get_or (map row_name rows) i row.name)
named_at rows i row lt is = (
  subst (λ n. i < n) (sym (length-map row_name rows)) lt,
  ap row_name is ∙ sym (get_or-map row_name rows i row row.name lt),
)
