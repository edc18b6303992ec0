-- Marks that answer alike, number by number.
use Rattle.std.specs.Prelude.{◌≡◌, ℕ, ◌+◌, ◌≤◌, Bool, true, false, not, List, [], ◌∷◌, filter, map, cond, sum_by}
use Rattle.std.proofs.Common.{refl, ap, ◌∙◌, arith}
use Rattle.std.specs.List.{find}
use Rattle.std.proofs.lemmas.List.Sums.{sum_by-cons}
use Rattle.std.specs.Option.{option_map}
use Rattle.creds.specs.declared.login_name.LoginName.{LoginName}
use Rattle.policy.specs.Policy.{Policy}
use Rattle.session.specs.View.{numbered_from, is_marked, unmarked, marked, to_remove, denying, may_remove, removal}

-- two tests of numbers that agree from a number on filter the rows numbered from there alike
pub filter-numbered_from : {A : Type 0} (p q : ℕ → Bool) (n : ℕ) (xs : List A) → ((m : ℕ) → n ≤ m → p m ≡ q m) →
    filter (λ (row : ℕ × A). p row.0) (numbered_from n xs) ≡ filter (λ (row : ℕ × A). q row.0) (numbered_from n xs)
filter-numbered_from p q n [] alike = refl
filter-numbered_from {A} p q n (x ∷ xs) alike =
    let row : ℕ × A = (n, x) in
    let before : List (ℕ × A) = filter (λ (r : ℕ × A). p r.0) (numbered_from (n + 1) xs) in
    let rest : before ≡ filter (λ (r : ℕ × A). q r.0) (numbered_from (n + 1) xs) = filter-numbered_from p q (n + 1) xs (λ m le. alike m (omega arith)) in
    ap (λ (b : Bool). cond b (row ∷ before) before) (alike n (omega arith)) ∙ ap (λ (fs : List (ℕ × A)). cond (q n) (row ∷ fs) fs) rest

module _ {A : Type 0} (marks others : List ℕ) (alike : (n : ℕ) → is_marked marks n ≡ is_marked others n) (view : List A) where
  pub unmarked-alike : unmarked marks view ≡ unmarked others view
  unmarked-alike = filter-numbered_from (λ n. not (is_marked marks n)) (λ n. not (is_marked others n)) 1 view (λ m le. ap not (alike m))

  pub marked-alike : marked marks view ≡ marked others view
  marked-alike = filter-numbered_from (is_marked marks) (is_marked others) 1 view (λ m le. alike m)

module _ {A : Type 0} (class_of : A → List ℕ) (policy : Policy) (name : LoginName)
    (marks others : List ℕ) (alike : (n : ℕ) → is_marked marks n ≡ is_marked others n) (view : List A) where
  pub to_remove-alike : to_remove class_of policy name marks view ≡ to_remove class_of policy name others view
  to_remove-alike =
      ap (λ (rows : List (ℕ × A)). filter (λ (row : A). may_remove policy name (class_of row)) (map (λ (row : ℕ × A). row.1) rows))
      (marked-alike marks others alike view)

  pub denying-alike : denying class_of policy name marks view ≡ denying class_of policy name others view
  denying-alike =
      ap (λ (rows : List (ℕ × A)). option_map (λ (row : ℕ × A). (removal policy name (class_of row.1)).rule) (find (λ (row : ℕ × A). not (may_remove policy name (class_of row.1))) rows))
      (marked-alike marks others alike view)

-- a part of the rows has no more octets than all of them
part_at : (part some all : ℕ) → some ≤ all → (b : Bool) (kept : ℕ) → kept ≡ cond b (part + some) some → kept ≤ part + all
part_at part some all le true kept e = omega arith
part_at part some all le false kept e = omega arith

sum_by-cond : {A : Type 0} (f : A → ℕ) (x : A) (xs : List A) (b : Bool) → sum_by f (cond b (x ∷ xs) xs) ≡ cond b (f x + sum_by f xs) (sum_by f xs)
sum_by-cond f x xs true = sum_by-cons f x xs
sum_by-cond f x xs false = refl

pub sum_by-filter-le : {A : Type 0} (p : A → Bool) (f : A → ℕ) (xs : List A) → sum_by f (filter p xs) ≤ sum_by f xs
sum_by-filter-le p f [] = omega arith
sum_by-filter-le p f (x ∷ xs) =
    rw (sum_by-cons f x xs)
    (part_at (f x) (sum_by f (filter p xs)) (sum_by f xs) (sum_by-filter-le p f xs) (p x) (sum_by f (filter p (x ∷ xs))) (sum_by-cond f x (filter p xs) (p x)))
