-- Contents stay sound as clerks come and go.
use Rattle.std.proofs.Common.{◌≡◌, ℕ, ◌+◌, ◌<◌, ◌≤◌, List, [], ◌∷◌, ◌++◌, length, take, drop, set, get_or, suc, zero, refl, sym, ◌∙◌, ap, subst, add-one, arith}
use Rattle.std.specs.Prelude.{map, is_ok, is_some, Bool, true, false, not, ◌&&◌, Result, if◌then◌else◌}
use Rattle.std.specs.List.{list_all}
use Rattle.std.specs.Str.{bytes_eq}
use Rattle.std.proofs.Common.{⊎_elim, length-append}
use Rattle.std.proofs.lemmas.Bool.{cases_Bool, and_parts}
use Rattle.std.proofs.lemmas.List.Folds.{list_all-map}
use Rattle.creds.specs.Names.{is_name}
use Rattle.creds.specs.declared.credential.Credential.{Credential}
use Rattle.policy.specs.Policy.{are_distinct}
use Rattle.vault.specs.declared.fault.VaultFault.{VaultFault}
use Rattle.vault.specs.declared.record.Clerk.{Clerk}
use Rattle.vault.specs.Records.{credential_in, is_sound_clerk, is_sound_credential, most_clerks}
use Rattle.vault.specs.Changes.{Contents, AreSound, with_credential, with_clerk, without_clerk, with_clerks, put_clerk_answer}
use Rattle.vault.specs.Calls.{IsAnswer, put_result}
use Rattle.vault.proofs.ListLemmas.{all_last, all_weaker, all_filter, distinct_last, distinct_filter, distinct-map, distinct_alike, filter_fits, length-map, any_in, found_none}
use Rattle.vault.proofs.MaildropLemmas.{had_room}
use Rattle.vault.proofs.DoneLemmas.{IsKept}

-- a function applied to the elements one after another
pub replaced : {A : Type 0} (f : A → A) (xs : List A) (i : ℕ) (d : A) → i < length xs
    → set (map f (take i xs) ++ drop i xs) i (f (get_or (map f (take i xs) ++ drop i xs) i d)) ≡ map f (take (suc i) xs) ++ drop (suc i) xs
replaced f [] i d h = absurd (omega arith)
replaced f (x ∷ xs) zero d h = refl
replaced f (x ∷ xs) (suc i) d h = ap (λ ys. f x ∷ ys) (replaced f xs i d (omega arith))

pub replaced_at : {A : Type 0} (f : A → A) (xs ys : List A) (i : ℕ) (d y : A) → i < length xs → ys ≡ map f (take i xs) ++ drop i xs → y ≡ f (get_or ys i d)
    → set ys i y ≡ map f (take (i + 1) xs) ++ drop (i + 1) xs
replaced_at f xs ys i d y h e q =
    let r : set ys i (f (get_or ys i d)) ≡ map f (take (suc i) xs) ++ drop (suc i) xs =
    subst (λ zs. set zs i (f (get_or zs i d)) ≡ map f (take (suc i) xs) ++ drop (suc i) xs) (sym e) (replaced f xs i d h) in
    rw (q, add-one) r

-- the clerks alone are changed
pub left_clerks : (ok : Bool) (clerks after : List Clerk) (k : Contents) → clerks ≡ (if ok then after else k.clerks)
    → with_clerks clerks k ≡ (if ok then with_clerks after k else k)
left_clerks true clerks after k e = ap (λ (x : List Clerk). with_clerks x k) e
left_clerks false clerks after k e = ap (λ (x : List Clerk). with_clerks x k) e

sound_with_clerks : (c : Contents) (clerks : List Clerk) → AreSound c → list_all is_sound_clerk clerks ≡ true
    → are_distinct (λ (x y : Clerk). bytes_eq x.name y.name) clerks ≡ true → length clerks ≤ most_clerks → AreSound (with_clerks clerks c)
sound_with_clerks c clerks s a d f =
    let b = s.records in
    record {
      records = record {
        clerks = a;
        clerks_apart = d;
        clerks_fit = f;
        maildrops = b.maildrops;
        maildrops_apart = b.maildrops_apart;
        maildrops_fit = b.maildrops_fit;
        messages = b.messages;
        messages_apart = b.messages_apart;
        messages_fit = b.messages_fit;
        deposits = b.deposits;
        ids_apart = b.ids_apart;
        uids_apart = b.uids_apart;
        policy = b.policy;
      };
      keys = s.keys;
    }

-- a clerk with another credential has the same name
same_name : (name : List ℕ) (given : Credential) (x : Clerk) → (with_credential name given x).name ≡ x.name
same_name name given x = at (bytes_eq x.name name)
  where
    at : (b : Bool) → (if b then (let y : Clerk = record { name = x.name; credential = given } in y) else x).name ≡ x.name
    at true = refl
    at false = refl

sound_given : (name : List ℕ) (given : Credential) (x : Clerk) → is_sound_credential given ≡ true → is_sound_clerk x ≡ true → is_sound_clerk (with_credential name given x) ≡ true
sound_given name given x g h = at (bytes_eq x.name name)
  where
    both : (a b : Bool) → a ≡ true → b ≡ true → (a && b) ≡ true
    both a b e f = rw (e, f) refl

    at : (b : Bool) → is_sound_clerk (if b then record { name = x.name; credential = given } else x) ≡ true
    at true = both (is_name x.name) (is_sound_credential given) (and_parts (is_name x.name) (is_sound_credential x.credential) h).0 g
    at false = h

replaced_sound : (c : Contents) (name : List ℕ) (given : Credential) → AreSound c → is_sound_credential given ≡ true
    → AreSound (with_clerks (map (with_credential name given) c.clerks) c)
replaced_sound c name given s g =
    let b = s.records in
    sound_with_clerks c (map (with_credential name given) c.clerks) s
    (list_all-map is_sound_clerk (with_credential name given) c.clerks
    ∙ all_weaker is_sound_clerk (λ x. is_sound_clerk (with_credential name given x)) c.clerks (λ x i h. sound_given name given x g h) b.clerks)
    (distinct-map (with_credential name given) (λ (x y : Clerk). bytes_eq x.name y.name) c.clerks
    ∙ distinct_alike (λ (x y : Clerk). bytes_eq (with_credential name given x).name (with_credential name given y).name) (λ (x y : Clerk). bytes_eq x.name y.name)
    (λ x y. let e = same_name name given x in let f = same_name name given y in cc) c.clerks
    ∙ b.clerks_apart)
    (rw length-map b.clerks_fit)

added_sound : (c : Contents) (name : List ℕ) (given : Credential) → AreSound c → is_name name ≡ true → is_sound_credential given ≡ true
    → is_some (credential_in name c.clerks) ≡ false → length c.clerks < most_clerks → AreSound (with_clerks (c.clerks ++ record { name = name; credential = given } ∷ []) c)
added_sound c name given s form g new room =
    let b = s.records in
    let n : Clerk = record { name = name; credential = given } in
    sound_with_clerks c (c.clerks ++ n ∷ []) s
    (all_last is_sound_clerk c.clerks n b.clerks (both (is_name name) (is_sound_credential given) form g))
    (distinct_last (λ (x y : Clerk). bytes_eq x.name y.name) c.clerks n b.clerks_apart
    (λ x i. any_in (λ (y : Clerk). bytes_eq y.name name) c.clerks x (sym (found_none (λ (x : Clerk). x.credential) (λ (y : Clerk). bytes_eq y.name name) c.clerks) ∙ new) i))
    (simp length-append (omega arith))
  where
    both : (a b : Bool) → a ≡ true → b ≡ true → (a && b) ≡ true
    both a b e f = rw (e, f) refl

pub sound_with_clerk : (name : List ℕ) (given : Credential) (c : Contents) (r : Result Bool VaultFault) → AreSound c → is_name name ≡ true → is_sound_credential given ≡ true
    → IsAnswer (put_result (put_clerk_answer name c.clerks)) r → is_ok r ≡ true → AreSound (with_clerks (with_clerk name given c.clerks) c)
sound_with_clerk name given c r s form g a ok = ⊎_elim
    (λ (e : is_some (credential_in name c.clerks) ≡ true). rw e (replaced_sound c name given s g))
    (λ (e : is_some (credential_in name c.clerks) ≡ false). rw e (added_sound c name given s form g e (had_room (is_some (credential_in name c.clerks)) (length c.clerks) most_clerks r e a ok)))
    (cases_Bool (is_some (credential_in name c.clerks)))

pub kept_with_clerk : (name : List ℕ) (given : Credential) (c : Contents) (r : Result Bool VaultFault) → IsKept c → is_name name ≡ true → is_sound_credential given ≡ true
    → IsAnswer (put_result (put_clerk_answer name c.clerks)) r → is_ok r ≡ true → IsKept (with_clerks (with_clerk name given c.clerks) c)
kept_with_clerk name given c r h form g a ok = record { sound = sound_with_clerk name given c r h.sound form g a ok; keys = h.keys }

pub sound_without_clerk : (name : List ℕ) (c : Contents) → AreSound c → AreSound (with_clerks (without_clerk name c.clerks) c)
sound_without_clerk name c s =
    let b = s.records in
    let others : Clerk → Bool = λ x. not (bytes_eq x.name name) in
    sound_with_clerks c (without_clerk name c.clerks) s (all_filter is_sound_clerk others c.clerks b.clerks)
    (distinct_filter (λ (x y : Clerk). bytes_eq x.name y.name) others c.clerks b.clerks_apart)
    (omega (arith, filter_fits others c.clerks, b.clerks_fit))

pub kept_without_clerk : (name : List ℕ) (c : Contents) → IsKept c → IsKept (with_clerks (without_clerk name c.clerks) c)
kept_without_clerk name c h = record { sound = sound_without_clerk name c h.sound; keys = h.keys }
