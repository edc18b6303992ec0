-- Why a store refuses what a check asks of it: what it told is there, so no later call says that it isn't.
use Rattle.std.proofs.Common.{◌≡◌, ◌≤◌, ℕ, Bool, true, false, ◌||◌, List, [], ◌∷◌, map, refl, subst, sym, true≢false, cond, Option, Some}
use Rattle.std.proofs.lemmas.Bool.{or_left, or_right}
use Rattle.std.specs.Prelude.{is_some, if◌then◌else◌}
use Rattle.std.specs.List.{All, list_any, find}
use Rattle.std.specs.Option.{option_map}
use Rattle.std.specs.Str.{bytes_eq}
use Rattle.creds.specs.Names.{by_name, put_by_name, comes_before}
use Rattle.vault.specs.declared.answer.Total.{Total}
use Rattle.vault.specs.declared.fault.VaultFault.{VaultFault}
use Rattle.vault.specs.declared.fault.VaultFault.TheVariants as vault
use Rattle.vault.specs.declared.record.Clerk.{Clerk}
use Rattle.vault.proofs.ListLemmas.{bytes_same}
use Rattle.vault.specs.Calls.{has_grown}
use Rattle.vault.specs.Changes.{Contents, records_of, totals, total_in}
use Rattle.vault.specs.Records.{credential_in, in_maildrop, is_one_of}
use Rattle.converse.specs.Causes.{IsRefused, IsRefusedOf}
use Rattle.converse.proofs.Clauses.{grown_since}
use Rattle.converse.proofs.Exporting.{Each, all_each}

-- ---- each name, in another order

put_either : (P : List ℕ → Type 0) (b : Bool) (x y : List ℕ) (ys zs : List (List ℕ)) → P x → P y → Each P ys → Each P zs → Each P (if b then y ∷ zs else x ∷ y ∷ ys)
put_either P true x y ys zs p q e f = (q, f)
put_either P false x y ys zs p q e f = (p, (q, e))

each_put : (P : List ℕ → Type 0) (x : List ℕ) (ys : List (List ℕ)) → P x → Each P ys → Each P (put_by_name x ys)
each_put P x [] p e = (p, tt)
each_put P x (y ∷ ys) p e = put_either P (comes_before y x) x y ys (put_by_name x ys) p e.0 e.1 (each_put P x ys p e.1)

each_by_name : (P : List ℕ → Type 0) (xs : List (List ℕ)) → Each P xs → Each P (by_name xs)
each_by_name P [] e = tt
each_by_name P (x ∷ xs) e = each_put P x (by_name xs) e.0 (each_by_name P xs e.1)

-- ---- the maildrops of which totals were told are there

-- what lies among the last of some names lies among them
abbrev Among : (all xs : List (List ℕ)) → Type 0
Among all xs = (n : List ℕ) → is_one_of n xs ≡ true → is_one_of n all ≡ true

each_there : (all xs : List (List ℕ)) → Among all xs → Each (λ n. is_one_of n all ≡ true) xs
each_there all [] w = tt
each_there all (x ∷ xs) w = (
  w x (or_left (bytes_eq x x) (is_one_of x xs) (bytes_same x)),
  each_there all xs (λ n e. w n (or_right (bytes_eq x n) (is_one_of n xs) e)),
)

abbrev IsThere : Contents → Total → Type 0
IsThere c t = is_one_of t.maildrop c.maildrops ≡ true

each_total : (c : Contents) (ns : List (List ℕ)) → Each (λ n. is_one_of n c.maildrops ≡ true) ns
    → Each (IsThere c) (map (λ d. total_in d (in_maildrop d (records_of c).messages)) ns)
each_total c [] e = tt
each_total c (n ∷ ns) e = (e.0, each_total c ns e.1)

pub totals_there : (c : Contents) (ts : List Total) → ts ≡ totals (records_of c) → All (λ (t : Total). is_one_of t.maildrop c.maildrops ≡ true) ts
totals_there c ts same = subst (λ (xs : List Total). All (λ (t : Total). is_one_of t.maildrop c.maildrops ≡ true) xs) (sym same)
    (all_each (IsThere c) (totals (records_of c))
    (each_total c (by_name c.maildrops) (each_by_name (λ n. is_one_of n c.maildrops ≡ true) c.maildrops (each_there c.maildrops c.maildrops (λ n e. e)))))

-- ---- the clerks whose names were told are there

some_if : (b : Bool) (x : Clerk) (o : Option Clerk) (any : Bool) → (b || any) ≡ true → (any ≡ true → is_some (option_map (λ (y : Clerk). y.credential) o) ≡ true)
    → is_some (option_map (λ (y : Clerk). y.credential) (cond b (Some x) o)) ≡ true
some_if true x o any e f = refl
some_if false x o any e f = f e

some_known : (n : List ℕ) (cs : List Clerk) → list_any (λ x. bytes_eq x.name n) cs ≡ true → is_some (credential_in n cs) ≡ true
some_known n [] e = absurd (true≢false (sym e))
some_known n (x ∷ xs) e = some_if (bytes_eq x.name n) x (find (λ x. bytes_eq x.name n) xs) (list_any (λ x. bytes_eq x.name n) xs) e (some_known n xs)

abbrev IsKnown : List Clerk → List ℕ → Type 0
IsKnown all n = is_some (credential_in n all) ≡ true

each_known : (all xs : List Clerk) → ((n : List ℕ) → list_any (λ (x : Clerk). bytes_eq x.name n) xs ≡ true → list_any (λ (x : Clerk). bytes_eq x.name n) all ≡ true)
    → Each (IsKnown all) (map (λ (x : Clerk). x.name) xs)
each_known all [] w = tt
each_known all (x ∷ xs) w = (
  some_known x.name all (w x.name (or_left (bytes_eq x.name x.name) (list_any (λ (y : Clerk). bytes_eq y.name x.name) xs) (bytes_same x.name))),
  each_known all xs (λ n e. w n (or_right (bytes_eq x.name n) (list_any (λ (y : Clerk). bytes_eq y.name n) xs) e)),
)

pub clerks_known : (cs : List Clerk) → All (λ n. is_some (credential_in n cs) ≡ true) (by_name (map (λ (x : Clerk). x.name) cs))
clerks_known cs = all_each (IsKnown cs) (by_name (map (λ (x : Clerk). x.name) cs))
    (each_by_name (IsKnown cs) (map (λ (x : Clerk). x.name) cs) (each_known cs cs (λ n e. e)))

-- ---- a refusal

-- what is refused as to what is there, is so whoever is known
pub refused_known : (known : Type 0) (counted : Bool) (e : VaultFault) → IsRefused true counted e → IsRefusedOf known counted e
refused_known known counted vault.NoMaildrop h = h
refused_known known counted vault.Conflict h = h
refused_known known counted vault.Full h = h
refused_known known counted vault.Store h = h
refused_known known counted vault.NoMemory h = h
refused_known known counted vault.NotEmpty h = h
refused_known known counted vault.NotOurs h = h
refused_known known counted vault.OldVersion h = h
refused_known known counted vault.NoClerk h = absurd h

-- and so where one who isn't known is among others, and since an earlier count
pub refused_of_since : (K L : Type 0) → (L → K) → (first before now : ℕ) → first ≤ before → (e : VaultFault)
    → IsRefusedOf K (has_grown before now) e → IsRefusedOf L (has_grown first now) e
refused_of_since K L w first before now l vault.NoMaildrop h = h
refused_of_since K L w first before now l vault.Conflict h = h
refused_of_since K L w first before now l vault.Full h = h
refused_of_since K L w first before now l vault.Store h = grown_since first before now l h
refused_of_since K L w first before now l vault.NoMemory h = h
refused_of_since K L w first before now l vault.NotEmpty h = h
refused_of_since K L w first before now l vault.NotOurs h = h
refused_of_since K L w first before now l vault.OldVersion h = h
refused_of_since K L w first before now l vault.NoClerk h = λ k. h (w k)

-- and of those who are known there is none who isn't
pub refused_all : (known : Type 0) → known → (first before now : ℕ) → first ≤ before → (e : VaultFault)
    → IsRefusedOf known (has_grown before now) e → IsRefused true (has_grown first now) e
refused_all known k first before now l vault.NoMaildrop h = h
refused_all known k first before now l vault.Conflict h = h
refused_all known k first before now l vault.Full h = h
refused_all known k first before now l vault.Store h = grown_since first before now l h
refused_all known k first before now l vault.NoMemory h = h
refused_all known k first before now l vault.NotEmpty h = h
refused_all known k first before now l vault.NotOurs h = h
refused_all known k first before now l vault.OldVersion h = h
refused_all known k first before now l vault.NoClerk h = absurd (h k)
