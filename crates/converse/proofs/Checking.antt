-- What is printed of a store, part by part.
use Rattle.std.proofs.Common.{◌≡◌, ◌<◌, ◌+◌, ℕ, List, [], ◌∷◌, ◌++◌, length, take, get_or, subst, sym, ◌∙◌, ap, append_assoc, append-nil, Option, Some, Result, Ok, Err, ◌≤◌, arith}
use Rattle.std.proofs.KnownBytes.{Appends-trans}
use Rattle.std.proofs.lemmas.List.{take_more, length-append}
use Rattle.std.proofs.lemmas.List.Concat.{flat_map-append}
use Rattle.std.specs.Prelude.{sum_by}
use Rattle.std.specs.List.{flat_map}
use Rattle.std.specs.Io.KnownBytes.{Appends}
use Rattle.policy.specs.Policy.{Policy}
use Rattle.vault.specs.declared.answer.Total.{Total}
use Rattle.vault.specs.declared.fault.VaultFault.{VaultFault}
use Rattle.vault.specs.declared.record.Keyed.{Keyed}
use Rattle.vault.specs.declared.record.Receipt.{Receipt}
use Rattle.vault.specs.Calls.{IsDone}
use Rattle.vault.specs.Changes.{Contents, records_of, totals}
use Rattle.converse.specs.declared.check_store.StoreFile.{StoreFile}
use Rattle.converse.specs.Checked.{counted, counts_line, last_line, file_lines, maildrop_line, clerk_line, end_text, store_text}
use Rattle.converse.specs.Texts.{differing, differing_in, differs_line}
use Rattle.converse.proofs.Sifting.{all_lines, none_told, some_told, end_differs, end_whole}

-- the lines of the first ones, and that of the next one
pub told_more : {A : Type 0} (f : A → List ℕ) (xs : List A) (i : ℕ) (x : A) (a b d : Option (List ℕ)) → i < length xs → x ≡ get_or xs i x
    → Appends a b (flat_map f (take i xs)) → Appends b d (f x) → Appends a d (flat_map f (take (i + 1) xs))
told_more {A} f xs i x a b d l is p q =
    let more : take (i + 1) xs ≡ take i xs ++ x ∷ [] = take_more xs i x l ∙ ap (λ (y : A). take i xs ++ y ∷ []) (sym is) in
    let joined : flat_map f (take i xs ++ x ∷ []) ≡ flat_map f (take i xs) ++ f x =
    flat_map-append f (take i xs) (x ∷ []) ∙ ap (λ (ys : List ℕ). flat_map f (take i xs) ++ ys) (append-nil (f x)) in
    subst (λ (ys : List ℕ). Appends a d ys) (sym (ap (λ (ys : List A). flat_map f ys) more ∙ joined)) (Appends-trans a b d (flat_map f (take i xs)) (f x) p q)

-- the last line by what was counted
pub last_told : (ts : List Total) (clerks rules m o : ℕ) (a b : Option (List ℕ)) → m ≡ counted (sum_by (λ (t : Total). t.messages) ts)
    → o ≡ counted (sum_by (λ (t : Total). t.octets) ts) → Appends a b (counts_line (length ts) m o clerks rules) → Appends a b (last_line ts clerks rules)
last_told ts clerks rules m o a b e f p =
    subst (λ (n : ℕ). Appends a b (counts_line (length ts) (counted (sum_by (λ (t : Total). t.messages) ts)) n clerks rules)) f
    (subst (λ (n : ℕ). Appends a b (counts_line (length ts) n o clerks rules)) e p)

abbrev totals_or_none : Result (List Total) VaultFault → List Total
totals_or_none (Ok ts) = ts
totals_or_none (Err e) = []

-- what a vault answered is what is held
pub totals_answered : (ts xs : List Total) → ◌≡◌ {A = Result (List Total) VaultFault} (Ok ts) (Ok xs) → xs ≡ ts
totals_answered ts xs e = sym (ap totals_or_none e)

abbrev count_or_none : Result Policy VaultFault → ℕ
count_or_none (Ok p) = length p.rules
count_or_none (Err e) = 0

pub rules_answered : (p q : Policy) → ◌≡◌ {A = Result Policy VaultFault} (Ok p) (Ok q) → length q.rules ≡ length p.rules
rules_answered p q e = sym (ap count_or_none e)

-- ---- the calls of a check, one after the other

-- The store was asked of its maildrops and its policy, and printed these clerks: what is known of whatever it held at first, if it is clean now.
pub record HasAsked {V : Type 0} (Holds : V → Contents → Type 0) (IsClean : V → Type 0) (first now : V) (names : List (List ℕ)) (ts : List Total) (p : Policy) (x y : List ℕ) : Type 0 where
  pub held : (c : Contents) → Holds first c → IsClean now → Holds now c
  pub totals_are : (c : Contents) → Holds first c → IsClean now → ts ≡ totals (records_of c)
  pub rules_are : (c : Contents) → Holds first c → IsClean now → length p.rules ≡ length c.policy.rules
  pub clerks_are : (c : Contents) → Holds first c → IsClean now → y ≡ x ++ flat_map (clerk_line c.clerks) names

pub has_asked : {V : Type 0} (Holds : V → Contents → Type 0) (IsClean : V → Type 0) {first second third now : V} {names : List (List ℕ)} {ts : List Total} {p : Policy} {x y : List ℕ}
    → (IsClean second → IsClean first) → ((c : Contents) → Holds first c → IsClean second → IsDone (Holds second) c c (Ok (totals (records_of c))) (Ok ts))
    → (IsClean third → IsClean second) → ((c : Contents) → Holds second c → IsClean third → IsDone (Holds third) c c (Ok c.policy) (Ok p))
    → (IsClean now → IsClean third) → ((c : Contents) → Holds third c → IsClean now → Holds now c)
    → ((c : Contents) → Holds third c → IsClean now → y ≡ x ++ flat_map (clerk_line c.clerks) names) → HasAsked Holds IsClean first now names ts p x y
has_asked Holds IsClean {first} {second} {third} {now} {ts = ts} {p = p} back totals_done back2 policy_done back3 held clerks =
    let one = λ (c : Contents) (h : Holds first c) (k : IsClean now). totals_done c h (back2 (back3 k)) in
    let two = λ (c : Contents) (h : Holds first c) (k : IsClean now). policy_done c (one c h k).held (back3 k) in
    record {
      held = λ c h k. held c (two c h k).held k;
      totals_are = λ c h k. totals_answered _ ts (one c h k).answer;
      rules_are = λ c h k. rules_answered _ p (two c h k).answer;
      clerks_are = λ c h k. clerks c (two c h k).held k;
    }

-- what was put into an empty text is what is lent of it
pub lent_of_each : {V : Type 0} (Holds : V → Contents → Type 0) (IsClean : V → Type 0) {first now : V} (text : Contents → List ℕ) {lent items before : List ℕ}
    → ((c : Contents) → Holds first c → IsClean now → items ≡ before ++ text c) → lent ≡ items → before ≡ [] → (c : Contents) → Holds first c → IsClean now → lent ≡ text c
lent_of_each Holds IsClean text put is none c held clean = is ∙ put c held clean ∙ ap (λ (xs : List ℕ). xs ++ text c) none

-- ---- all of it

-- up to the clerks
known_told : (f : StoreFile) (c : Contents) (names : List (List ℕ)) (ts : List Total) (a b d : Option (List ℕ)) → ts ≡ totals (records_of c)
    → Appends a b (file_lines f ++ flat_map maildrop_line ts) → Appends b d (flat_map (clerk_line c.clerks) names)
    → Appends a d (file_lines f ++ flat_map maildrop_line (totals (records_of c)) ++ flat_map (clerk_line c.clerks) names)
known_told f c names ts a b d same p q =
    let front = subst (λ (xs : List Total). Appends a b (file_lines f ++ flat_map maildrop_line xs)) same p in
    Appends-trans a b d (file_lines f ++ flat_map maildrop_line (totals (records_of c))) (flat_map (clerk_line c.clerks) names) front q

-- how much longer a text grew
grew_by : (x y lines : List ℕ) → y ≡ x ++ lines → length y ≡ length x + length lines
grew_by x y lines e = ap (λ (l : List ℕ). length l) e ∙ length-append x lines

abbrev Lines : Option (List Receipt) → Contents → List Total → List ℕ
Lines rs c ts = flat_map (λ (s : Total). flat_map differs_line (differing_in rs s.maildrop c)) ts

-- it grew where messages differ, and else didn't
pub does_differ : (rs : Option (List Receipt)) (c : Contents) (us : List Total) (x y : List ℕ) → us ≡ totals (records_of c) → y ≡ x ++ Lines rs c us
    → length x < length y → differing rs c ≡ [] → ⊥
does_differ rs c us x y same told long =
    let g = grew_by x y (Lines rs c us) told in
    let n : length (Lines rs c us) ≡ length (flat_map differs_line (differing rs c)) = ap (λ (l : List ℕ). length l) (all_lines rs c us same) in
    some_told (differing rs c) (omega (arith, g, n, long))

pub differs_not : (rs : Option (List Receipt)) (c : Contents) (us : List Total) (x y : List ℕ) → us ≡ totals (records_of c) → y ≡ x ++ Lines rs c us
    → length y ≤ length x → differing rs c ≡ []
differs_not rs c us x y same told short =
    let g = grew_by x y (Lines rs c us) told in
    let n : length (Lines rs c us) ≡ length (flat_map differs_line (differing rs c)) = ap (λ (l : List ℕ). length l) (all_lines rs c us same) in
    none_told (differing rs c) (omega (arith, g, n, short))

-- where messages differ
pub store_differs : (f : StoreFile) (c : Contents) (names : List (List ℕ)) (rs : Option (List Receipt)) (ts us : List Total) (a b x y : List ℕ)
    → ts ≡ totals (records_of c) → us ≡ totals (records_of c) → b ≡ a ++ (file_lines f ++ flat_map maildrop_line ts)
    → x ≡ b ++ flat_map (clerk_line c.clerks) names → y ≡ x ++ Lines rs c us → length x < length y → y ≡ a ++ store_text f c names rs
store_differs f c names rs ts us a b x y same other p q told long =
    let all = totals (records_of c) in
    let K = file_lines f ++ flat_map maildrop_line all ++ flat_map (clerk_line c.clerks) names in
    let known = known_told f c names ts (Some a) (Some b) (Some x) same p q in
    let end = end_differs (differing rs c) all (length names) (length c.policy.rules) (does_differ rs c us x y other told long) in
    told ∙ ap (λ (l : List ℕ). l ++ Lines rs c us) known ∙ ap (λ (l : List ℕ). (a ++ K) ++ l) (all_lines rs c us other ∙ sym end)
    ∙ append_assoc a K (end_text (differing rs c) all (length names) (length c.policy.rules))

-- where none does
pub store_whole : (f : StoreFile) (c : Contents) (names : List (List ℕ)) (rs : Option (List Receipt)) (ts us vs : List Total) (rules : ℕ) (a b x y z : List ℕ)
    → ts ≡ totals (records_of c) → us ≡ totals (records_of c) → vs ≡ totals (records_of c) → rules ≡ length c.policy.rules
    → b ≡ a ++ (file_lines f ++ flat_map maildrop_line ts) → x ≡ b ++ flat_map (clerk_line c.clerks) names
    → y ≡ x ++ Lines rs c us → length y ≤ length x → z ≡ y ++ last_line vs (length names) rules → z ≡ a ++ store_text f c names rs
store_whole f c names rs ts us vs rules a b x y z same other third count p q told short last =
    let all = totals (records_of c) in
    let K = file_lines f ++ flat_map maildrop_line all ++ flat_map (clerk_line c.clerks) names in
    let known = known_told f c names ts (Some a) (Some b) (Some x) same p q in
    let none = differs_not rs c us x y other told short in
    let lines : Lines rs c us ≡ [] = all_lines rs c us other ∙ ap (λ (xs : List Keyed). flat_map differs_line xs) none in
    let still : y ≡ x = told ∙ ap (λ (l : List ℕ). x ++ l) lines ∙ append-nil x in
    let end = end_whole (differing rs c) all (length names) (length c.policy.rules) none in
    last ∙ ap (λ (l : List ℕ). l ++ last_line vs (length names) rules) (still ∙ known)
    ∙ ap (λ (l : List ℕ). (a ++ K) ++ l) (ap (λ (l : List Total). last_line l (length names) rules) third ∙ ap (λ (n : ℕ). last_line all (length names) n) count ∙ sym end)
    ∙ append_assoc a K (end_text (differing rs c) all (length names) (length c.policy.rules))
