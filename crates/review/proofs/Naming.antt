-- Names that are put together in parts, and which names these are.
use Rattle.std.proofs.lemmas.List.Folds.{list_any-append}
use Rattle.std.proofs.lemmas.Map.Text.{is_eq-slice_cmp}
use Rattle.std.proofs.lemmas.Slice.Eq.{bytes_eq-Decides}
use Rattle.std.proofs.lemmas.Grind.{flat_map-append}
use Rattle.std.proofs.lemmas.List.{take_more}
use Rattle.std.proofs.Common.{◌≡◌, ◌<◌, ◌+◌, length, take, get_or, append-nil, ℕ, Bool, true, false, ◌||◌, List, [], ◌∷◌, ◌++◌, map, refl, sym, ap, ◌∙◌}
use Rattle.std.specs.BTreeSet.{insert_key}
use Rattle.std.specs.Cmp.Lexicographic.{slice_cmp}
use Rattle.std.specs.List.{flat_map, list_any}
use Rattle.std.specs.Ordering.{is_eq, nat_cmp, match_ordering}
use Rattle.std.specs.Str.{bytes_eq}
use Rattle.std.specs.declared.cmp.Ordering.{Ordering}
use Rattle.std.specs.declared.cmp.Ordering.TheVariants.{Less, Equal, Greater}
use Rattle.policy.specs.declared.rule.Clerks.{Clerks}
use Rattle.policy.specs.declared.rule.Clerks.TheVariants as clerks
use Rattle.policy.specs.declared.rule.Pattern.{Pattern}
use Rattle.policy.specs.declared.rule.Pattern.TheVariants.{Any, Is}
use Rattle.policy.specs.declared.rule.Rule.{Rule}
use Rattle.policy.specs.Policy.{Group, Policy, has_member}
use Rattle.review.specs.declared.label.Label.TheVariants.{Named, Others}
use Rattle.review.specs.Names.{NamesAreTold, classes_in, clerk_of, clerks_in, is_of, labels, maildrops_in, name_in, put_names}
use Rattle.review.specs.Questions.{clerks_name, names_class, names_clerk, names_maildrop, pattern_names}

pub put_names-append : (names xs ys : List (List ℕ)) → put_names names (xs ++ ys) ≡ put_names (put_names names xs) ys
put_names-append names [] ys = refl
put_names-append names (x ∷ xs) ys = put_names-append (insert_key (slice_cmp nat_cmp) names x) xs ys

-- one more name, or one more part
pub put_more : (names more : List (List ℕ)) (i : ℕ) (d : List ℕ) → i < length more
    → put_names names (take (i + 1) more) ≡ insert_key (slice_cmp nat_cmp) (put_names names (take i more)) (get_or more i d)
put_more names more i d h = ap (put_names names) (take_more more i d h) ∙ put_names-append names (take i more) (get_or more i d ∷ [])

pub put_part : {X : Type 0} (f : X → List (List ℕ)) (names : List (List ℕ)) (xs : List X) (i : ℕ) (d : X) → i < length xs
    → put_names names (flat_map f (take (i + 1) xs)) ≡ put_names (put_names names (flat_map f (take i xs))) (f (get_or xs i d))
put_part {X} f names xs i d h =
    ap (λ (ys : List X). put_names names (flat_map f ys)) (take_more xs i d h)
    ∙ ap (put_names names) (flat_map-append f (take i xs) (get_or xs i d ∷ []) ∙ ap (λ (ys : List (List ℕ)). flat_map f (take i xs) ++ ys) (append-nil (f (get_or xs i d))))
    ∙ put_names-append names (flat_map f (take i xs)) (f (get_or xs i d))

-- a loop's step
pub name_more : (init keys after more : List (List ℕ)) (i : ℕ) (x : List ℕ) → i < length more → x ≡ get_or more i x → keys ≡ put_names init (take i more)
    → after ≡ insert_key (slice_cmp nat_cmp) keys x → after ≡ put_names init (take (i + 1) more)
name_more init keys after more i x h own before put =
    put ∙ ap (λ (ks : List (List ℕ)). insert_key (slice_cmp nat_cmp) ks x) before
    ∙ ap (insert_key (slice_cmp nat_cmp) (put_names init (take i more))) own ∙ sym (put_more init more i x h)

pub part_more : {X : Type 0} (f : X → List (List ℕ)) (init keys after : List (List ℕ)) (xs : List X) (i : ℕ) (x : X) → i < length xs → x ≡ get_or xs i x
    → keys ≡ put_names init (flat_map f (take i xs)) → after ≡ put_names keys (f x) → after ≡ put_names init (flat_map f (take (i + 1) xs))
part_more {X} f init keys after xs i x h own before put =
    put ∙ ap (λ (ks : List (List ℕ)). put_names ks (f x)) before
    ∙ ap (λ (y : X). put_names (put_names init (flat_map f (take i xs))) (f y)) own ∙ sym (put_part f init xs i x h)

-- two parts
pub both_parts : (init mid xs ys : List (List ℕ)) → mid ≡ put_names init xs → put_names mid ys ≡ put_names init (xs ++ ys)
both_parts init mid xs ys e = ap (λ (ks : List (List ℕ)). put_names ks ys) e ∙ sym (put_names-append init xs ys)

-- the name is among these
abbrev has : (name : List ℕ) → List (List ℕ) → Bool
has name names = list_any (λ x. bytes_eq x name) names

-- ---- which names

same : (a b : List ℕ) → slice_cmp nat_cmp a b ≡ Equal → bytes_eq a b ≡ true
same a b e = sym (is_eq-slice_cmp a b) ∙ ap is_eq e

-- a name that is put in is there, and no other is there more
put_one : (name x : List ℕ) (names : List (List ℕ)) → has name (insert_key (slice_cmp nat_cmp) names x) ≡ (bytes_eq x name || has name names)
put_one name x [] = refl
put_one name x (y ∷ names) = at (slice_cmp nat_cmp x y) refl (put_one name x names)
  where
    later : (a b c : Bool) → (b || (a || c)) ≡ (a || (b || c))
    later true true c = refl
    later true false c = refl
    later false true c = refl
    later false false c = refl

    twice : (a c : Bool) → (a || c) ≡ (a || (a || c))
    twice true c = refl
    twice false c = refl

    at : (o : Ordering) → slice_cmp nat_cmp x y ≡ o → has name (insert_key (slice_cmp nat_cmp) names x) ≡ (bytes_eq x name || has name names)
        → has name (match_ordering o (x ∷ y ∷ names) (y ∷ names) (y ∷ insert_key (slice_cmp nat_cmp) names x)) ≡ (bytes_eq x name || (bytes_eq y name || has name names))
    at Less e h = refl
    at Equal e h =
        let is : x ≡ y = (bytes_eq-Decides x y).0 (same x y e) in
        ap (λ (z : List ℕ). bytes_eq y name || has name names) is ∙ twice (bytes_eq y name) (has name names) ∙ ap (λ (z : List ℕ). bytes_eq z name || (bytes_eq y name || has name names)) (sym is)
    at Greater e h = ap (λ (b : Bool). bytes_eq y name || b) h ∙ later (bytes_eq x name) (bytes_eq y name) (has name names)

put_all : (name : List ℕ) (names more : List (List ℕ)) → has name (put_names names more) ≡ (has name more || has name names)
put_all name names [] = refl
put_all name names (x ∷ more) =
    put_all name (insert_key (slice_cmp nat_cmp) names x) more ∙ ap (λ (b : Bool). has name more || b) (put_one name x names)
    ∙ at (has name more) (bytes_eq x name) (has name names)
  where
    at : (a b c : Bool) → (a || (b || c)) ≡ ((b || a) || c)
    at true true c = refl
    at true false c = refl
    at false true c = refl
    at false false c = refl

named_labels : (name : List ℕ) (names : List (List ℕ)) → list_any (is_of name) (map Named names ++ Others ∷ []) ≡ has name names
named_labels name [] = refl
named_labels name (x ∷ names) = ap (λ (b : Bool). bytes_eq x name || b) (named_labels name names)

none_more : (a : Bool) → (a || false) ≡ a
none_more true = refl
none_more false = refl

in_labels : (name : List ℕ) (xs ys : List (List ℕ)) → list_any (is_of name) (labels (xs ++ ys)) ≡ (has name xs || has name ys)
in_labels name xs ys =
    named_labels name (put_names [] (xs ++ ys)) ∙ put_all name [] (xs ++ ys) ∙ none_more (has name (xs ++ ys)) ∙ list_any-append (λ x. bytes_eq x name) xs ys

has_flat : {X : Type 0} (name : List ℕ) (f : X → List (List ℕ)) (xs : List X) → has name (flat_map f xs) ≡ list_any (λ x. has name (f x)) xs
has_flat name f [] = refl
has_flat name f (x ∷ xs) = list_any-append (λ y. bytes_eq y name) (f x) (flat_map f xs) ∙ ap (λ (b : Bool). has name (f x) || b) (has_flat name f xs)

any_same : {X : Type 0} (p q : X → Bool) (xs : List X) → ((x : X) → p x ≡ q x) → list_any p xs ≡ list_any q xs
any_same p q [] e = refl
any_same p q (x ∷ xs) e = rw (e x, any_same p q xs e) refl

clerk_is : (name : List ℕ) (w : Clerks) → has name (clerk_of w) ≡ clerks_name w name
clerk_is name clerks.Any = refl
clerk_is name (clerks.Is wanted) = none_more (bytes_eq wanted name)
clerk_is name (clerks.MembersOf wanted) = refl

name_is : (name : List ℕ) (w : Pattern) → has name (name_in w) ≡ pattern_names w name
name_is name Any = refl
name_is name (Is wanted) = none_more (bytes_eq wanted name)

clerks_are : (p : Policy) (name : List ℕ) → has name (clerks_in p) ≡ names_clerk p name
clerks_are p name =
    list_any-append (λ x. bytes_eq x name) (flat_map (λ r. clerk_of r.clerk) p.rules) (flat_map (λ g. g.members) p.groups)
    ∙ rw (has_flat name (λ (r : Rule). clerk_of r.clerk) p.rules, has_flat name (λ (g : Group). g.members) p.groups)
    (ap (λ (b : Bool). b || list_any (λ g. has_member g name) p.groups) (any_same _ _ p.rules (λ (r : Rule). clerk_is name r.clerk)))

maildrops_are : (p : Policy) (name : List ℕ) → has name (maildrops_in p) ≡ names_maildrop p name
maildrops_are p name = has_flat name (λ (r : Rule). name_in r.maildrop) p.rules ∙ any_same _ _ p.rules (λ (r : Rule). name_is name r.maildrop)

classes_are : (p : Policy) (name : List ℕ) → has name (classes_in p) ≡ names_class p name
classes_are p name = has_flat name (λ (r : Rule). name_in r.class) p.rules ∙ any_same _ _ p.rules (λ (r : Rule). name_is name r.class)

in_three : (name : List ℕ) (xs ys zs : List (List ℕ)) → list_any (is_of name) (labels (xs ++ ys ++ zs)) ≡ (has name xs || has name ys || has name zs)
in_three name xs ys zs = in_labels name (xs ++ ys) zs ∙ ap (λ (b : Bool). b || has name zs) (list_any-append (λ x. bytes_eq x name) xs ys)

pub told : NamesAreTold
told = record {
  clerks = λ old new kept name. in_three name (clerks_in old) (clerks_in new) kept.clerks ∙ rw (clerks_are old name, clerks_are new name) refl;
  maildrops = λ old new kept name. in_three name (maildrops_in old) (maildrops_in new) kept.maildrops ∙ rw (maildrops_are old name, maildrops_are new name) refl;
  classes = λ old new name. in_labels name (classes_in old) (classes_in new) ∙ rw (classes_are old name, classes_are new name) refl;
}
