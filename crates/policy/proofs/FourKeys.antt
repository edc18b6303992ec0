-- The keys that a rule about a clerk and a maildrop may have: without a group both names, one of them with `*`, and `*` twice;
-- with a group the maildrop's name, and `*`.
use Rattle.std.proofs.Common.{◌≡◌, ℕ, ◌+◌, Bool, true, false, ◌&&◌, ◌||◌, List, [], ◌∷◌, length, min, refl, sym, ap, ◌∙◌, arith, ◌<◌, ◌++◌, cond, take, get_or}
use Rattle.std.specs.Prelude.{filter}
use Rattle.std.specs.List.{list_any}
use Rattle.std.proofs.lemmas.List.{take_more}
use Rattle.std.proofs.lemmas.List.Folds.{list_any-append}
use Rattle.std.specs.Str.{bytes_eq}
use Rattle.policy.specs.declared.key.Key.{Key}
use Rattle.policy.specs.declared.rule.Action.{Action}
use Rattle.policy.specs.declared.rule.Clerks.{Clerks}
use Rattle.policy.specs.declared.rule.Clerks.TheVariants as clerks
use Rattle.policy.specs.declared.rule.Pattern.{Pattern}
use Rattle.policy.specs.declared.rule.Pattern.TheVariants.{Any, Is}
use Rattle.policy.specs.declared.rule.Rule.{Rule}
use Rattle.policy.specs.Policy.{Group, fits, fits_clerk, has_member, is_member, lists, fits_class, matches}
use Rattle.policy.specs.Index.{same_clerks, same_pattern, has_key, place_from}
use Rattle.policy.specs.Lane.{is_about_action, is_about_group, is_about_groups, is_about_one, names_one}
use Rattle.policy.proofs.Walking.{place_from-or, place_from-congr}

key : Clerks → Pattern → Key
key clerk maildrop = record { clerk = clerk; maildrop = maildrop }

-- the rule has one of the four
has_one : (c d : List ℕ) → Rule → Bool
has_one c d r = ((has_key (key (clerks.Is c) (Is d)) r || has_key (key (clerks.Is c) Any) r) || has_key (key clerks.Any (Is d)) r) || has_key (key clerks.Any Any) r

-- ---- of one rule

has_one-is : (c d : List ℕ) (r : Rule) → has_one c d r ≡ is_about_one c d r
unfolding has_one key
has_one-is c d r = at r.clerk r.maildrop
  where
    named : (a b : Bool) → (((a && b || a && false) || false && b) || false && false) ≡ (a && b)
    named true true = refl
    named true false = refl
    named false b = refl

    first : (a : Bool) → (((a && false || a && true) || false && false) || false && true) ≡ (a && true)
    first true = refl
    first false = refl

    last : (b : Bool) → (((false && b || false && false) || true && b) || true && false) ≡ (true && b)
    last true = refl
    last false = refl

    none : (b : Bool) → (((false && b || false && false) || false && b) || false && false) ≡ (false && b)
    none b = refl

    at : (p : Clerks) (m : Pattern)
        → (((same_clerks p (clerks.Is c) && same_pattern m (Is d) || same_clerks p (clerks.Is c) && same_pattern m Any) || same_clerks p clerks.Any
        && same_pattern m (Is d)) || same_clerks p clerks.Any && same_pattern m Any)
        ≡ (names_one p c && fits m d)
    at clerks.Any Any = refl
    at clerks.Any (Is v) = last (bytes_eq v d)
    at (clerks.Is w) Any = first (bytes_eq w c)
    at (clerks.Is w) (Is v) = named (bytes_eq w c) (bytes_eq v d)
    at (clerks.MembersOf w) Any = refl
    at (clerks.MembersOf w) (Is v) = refl

-- ---- of all

-- one of four tests, and q
spread : (a b c d q : Bool) → ((((a && q) || (b && q)) || (c && q)) || (d && q)) ≡ ((((a || b) || c) || d) && q)
spread true b c d true = refl
spread false true c d true = refl
spread false false true d true = refl
spread false false false true true = refl
spread false false false false true = refl
spread true true true true false = refl
spread true true true false false = refl
spread true true false true false = refl
spread true true false false false = refl
spread true false true true false = refl
spread true false true false false = refl
spread true false false true false = refl
spread true false false false false = refl
spread false true true true false = refl
spread false true true false false = refl
spread false true false true false = refl
spread false true false false false = refl
spread false false true true false = refl
spread false false true false false = refl
spread false false false d false = at d
  where
    at : (b : Bool) → ((((false && false) || (false && false)) || (false && false)) || (b && false)) ≡ (b && false)
    at true = refl
    at false = refl

of_one : (c d class : List ℕ) (action : Action) (r : Rule)
    → ((((has_key (key (clerks.Is c) (Is d)) r && is_about_action action class r) || (has_key (key (clerks.Is c) Any) r && is_about_action action class r))
    || (has_key (key clerks.Any (Is d)) r && is_about_action action class r)) || (has_key (key clerks.Any Any) r && is_about_action action class r))
    ≡ (is_about_one c d r && is_about_action action class r)
unfolding has_one
of_one c d class action r =
    spread (has_key (key (clerks.Is c) (Is d)) r) (has_key (key (clerks.Is c) Any) r) (has_key (key clerks.Any (Is d)) r) (has_key (key clerks.Any Any) r) (is_about_action action class r)
    ∙ ap (λ (b : Bool). b && is_about_action action class r) (has_one-is c d r)

-- the first of them is the first of the four first ones
pub first_of_four : (c d class : List ℕ) (action : Action) (rules : List Rule)
    → min (min (min (place_from (λ r. has_key (record { clerk = clerks.Is c; maildrop = Is d }) r && is_about_action action class r) 0 rules)
    (place_from (λ r. has_key (record { clerk = clerks.Is c; maildrop = Any }) r && is_about_action action class r) 0 rules))
    (place_from (λ r. has_key (record { clerk = clerks.Any; maildrop = Is d }) r && is_about_action action class r) 0 rules))
    (place_from (λ r. has_key (record { clerk = clerks.Any; maildrop = Any }) r && is_about_action action class r) 0 rules)
    ≡ place_from (λ r. is_about_one c d r && is_about_action action class r) 0 rules
unfolding key
first_of_four c d class action rules =
    let q = is_about_action action class in
    let p1 : Rule → Bool = λ r. has_key (key (clerks.Is c) (Is d)) r && q r in
    let p2 : Rule → Bool = λ r. has_key (key (clerks.Is c) Any) r && q r in
    let p3 : Rule → Bool = λ r. has_key (key clerks.Any (Is d)) r && q r in
    let p4 : Rule → Bool = λ r. has_key (key clerks.Any Any) r && q r in
    let three = place_from p3 0 rules in
    let four = place_from p4 0 rules in
    ap (λ (n : ℕ). min (min n three) four) (sym (place_from-or p1 p2 0 rules))
    ∙ ap (λ (n : ℕ). min n four) (sym (place_from-or (λ r. p1 r || p2 r) p3 0 rules))
    ∙ sym (place_from-or (λ r. (p1 r || p2 r) || p3 r) p4 0 rules)
    ∙ place_from-congr (λ r. ((p1 r || p2 r) || p3 r) || p4 r) (λ r. is_about_one c d r && q r) (of_one c d class action) 0 rules

-- ---- a group

of_group : (g d : List ℕ) (q : Rule → Bool) (r : Rule)
    → ((has_key (key (clerks.MembersOf g) (Is d)) r && q r) || (has_key (key (clerks.MembersOf g) Any) r && q r)) ≡ (is_about_group g d r && q r)
unfolding key
of_group g d q r = at r.maildrop
  where
    named : (a b c : Bool) → (((a && b) && c) || ((a && false) && c)) ≡ ((a && b) && c)
    named true true true = refl
    named true true false = refl
    named true false c = refl
    named false b c = refl

    all : (a c : Bool) → (((a && false) && c) || ((a && true) && c)) ≡ ((a && true) && c)
    all true c = refl
    all false c = refl

    at : (m : Pattern)
        → (((same_clerks r.clerk (clerks.MembersOf g) && same_pattern m (Is d)) && q r) || ((same_clerks r.clerk (clerks.MembersOf g) && same_pattern m Any) && q r))
        ≡ ((same_clerks r.clerk (clerks.MembersOf g) && fits m d) && q r)
    at Any = all (same_clerks r.clerk (clerks.MembersOf g)) (q r)
    at (Is v) = named (same_clerks r.clerk (clerks.MembersOf g)) (bytes_eq v d) (q r)

-- the first rule about a group is the first of two first ones
pub first_of_two : (g d : List ℕ) (q : Rule → Bool) (rules : List Rule)
    → min (place_from (λ r. has_key (record { clerk = clerks.MembersOf g; maildrop = Is d }) r && q r) 0 rules)
    (place_from (λ r. has_key (record { clerk = clerks.MembersOf g; maildrop = Any }) r && q r) 0 rules)
    ≡ place_from (λ r. is_about_group g d r && q r) 0 rules
unfolding key
first_of_two g d q rules =
    let p1 : Rule → Bool = λ r. has_key (key (clerks.MembersOf g) (Is d)) r && q r in
    let p2 : Rule → Bool = λ r. has_key (key (clerks.MembersOf g) Any) r && q r in
    sym (place_from-or p1 p2 0 rules) ∙ place_from-congr (λ r. p1 r || p2 r) (λ r. is_about_group g d r && q r) (of_group g d q) 0 rules

-- ---- the clerk's groups

none_passes : (n : ℕ) (rules : List Rule) → place_from (λ r. false) n rules ≡ n + length rules
none_passes n [] = omega arith
none_passes n (r ∷ rules) = none_passes (n + 1) rules ∙ omega arith

-- a rule about one of these groups
about_any : (d : List ℕ) → List Group → Rule → Bool
about_any d own r = list_any (λ g. is_about_group g.name d r) own

-- no group
pub own-none : (own : List Group) (d : List ℕ) (q : Rule → Bool) (rules : List Rule) → length rules ≡ place_from (λ r. list_any (λ (g : Group). is_about_group g.name d r) (take 0 own) && q r) 0 rules
own-none own d q rules = sym (none_passes 0 rules ∙ omega arith)

-- one group more
pub own-more : (own : List Group) (i : ℕ) (g : Group) (d : List ℕ) (q : Rule → Bool) (rules : List Rule) → i < length own
    → place_from (λ r. list_any (λ (h : Group). is_about_group h.name d r) (take (i + 1) own) && q r) 0 rules
    ≡ min (place_from (λ r. list_any (λ (h : Group). is_about_group h.name d r) (take i own) && q r) 0 rules) (place_from (λ r. is_about_group (get_or own i g).name d r && q r) 0 rules)
unfolding about_any
own-more own i g d q rules lt =
    let x = get_or own i g in
    let before = take i own in
    let p1 : Rule → Bool = λ r. about_any d before r && q r in
    let p2 : Rule → Bool = λ r. is_about_group x.name d r && q r in
    rw (take_more own i g lt) (place_from-congr (λ r. about_any d (before ++ x ∷ []) r && q r) (λ r. p1 r || p2 r) each 0 rules ∙ place_from-or p1 p2 0 rules)
  where
    at : (a b e : Bool) → ((a || (b || false)) && e) ≡ ((a && e) || (b && e))
    at true true true = refl
    at true true false = refl
    at true false true = refl
    at true false false = refl
    at false true true = refl
    at false true false = refl
    at false false e = refl

    each : (r : Rule) → (about_any d (take i own ++ get_or own i g ∷ []) r && q r) ≡ ((about_any d (take i own) r && q r) || (is_about_group (get_or own i g).name d r && q r))
    each r =
        ap (λ (b : Bool). b && q r) (list_any-append (λ (h : Group). is_about_group h.name d r) (take i own) (get_or own i g ∷ []))
        ∙ at (about_any d (take i own) r) (is_about_group (get_or own i g).name d r) (q r)

-- of all groups those of the clerk's
about_own : (groups : List Group) (c d : List ℕ) (r : Rule) → list_any (λ (g : Group). is_about_group g.name d r) (filter (λ (g : Group). has_member g c) groups) ≡ is_about_groups groups c d r
about_own [] c d r = refl
about_own (g ∷ groups) c d r = at (has_member g c) (about_own groups c d r)
  where
    at : (b : Bool) → list_any (λ (h : Group). is_about_group h.name d r) (filter (λ (h : Group). has_member h c) groups) ≡ is_about_groups groups c d r
        → list_any (λ (h : Group). is_about_group h.name d r) (cond b (g ∷ filter (λ (h : Group). has_member h c) groups) (filter (λ (h : Group). has_member h c) groups))
        ≡ ((b && is_about_group g.name d r) || is_about_groups groups c d r)
    at true e = ap (λ (x : Bool). is_about_group g.name d r || x) e
    at false e = e

-- the first rule about one of the clerk's groups
pub own-all : (groups : List Group) (c d : List ℕ) (q : Rule → Bool) (rules : List Rule)
    → place_from (λ r. list_any (λ (g : Group). is_about_group g.name d r) (filter (λ (g : Group). has_member g c) groups) && q r) 0 rules
    ≡ place_from (λ r. is_about_groups groups c d r && q r) 0 rules
own-all groups c d q rules =
    place_from-congr (λ r. list_any (λ (g : Group). is_about_group g.name d r) (filter (λ (g : Group). has_member g c) groups) && q r) (λ r. is_about_groups groups c d r && q r)
    (λ r. ap (λ (b : Bool). b && q r) (about_own groups c d r)) 0 rules

-- ---- all

-- of rules that name no group
no_group : (groups : List Group) (h : Group → Bool) → list_any (λ g. h g && false) groups ≡ false
no_group [] h = refl
no_group (g ∷ groups) h = at (h g) ∙ no_group groups h
  where
    at : {b : Bool} (a : Bool) → ((a && false) || b) ≡ b
    at true = refl
    at false = refl

-- of rules that name one
its_group : (groups : List Group) (h b : Group → Bool) (f : Bool) → list_any (λ g. h g && (b g && f)) groups ≡ (list_any (λ g. b g && h g) groups && f)
its_group [] h b f = refl
its_group (g ∷ groups) h b f = ap (λ (x : Bool). (h g && (b g && f)) || x) (its_group groups h b f) ∙ at (h g) (b g) f (list_any (λ x. b x && h x) groups)
  where
    at : (a c e l : Bool) → ((a && (c && e)) || (l && e)) ≡ (((c && a) || l) && e)
    at true true true l = refl
    at true true false true = refl
    at true true false false = refl
    at true false e l = refl
    at false true e l = refl
    at false false e l = refl

of_all : (groups : List Group) (c d class : List ℕ) (action : Action) (r : Rule)
    → ((is_about_one c d r && is_about_action action class r) || (is_about_groups groups c d r && is_about_action action class r)) ≡ matches groups c d class action r
of_all groups c d class action r = at r.clerk
  where
    one : (l n f s : Bool) → (((n && f) && (l && s)) || (false && (l && s))) ≡ (l && n && f && s)
    one true true true true = refl
    one true true true false = refl
    one true true false s = refl
    one true false f s = refl
    one false true true s = refl
    one false true false s = refl
    one false false f s = refl

    by_group : (l n f s : Bool) → (((false && f) && (l && s)) || ((n && f) && (l && s))) ≡ (l && n && f && s)
    by_group true true true s = refl
    by_group true true false s = refl
    by_group true false f s = refl
    by_group false true true s = refl
    by_group false true false s = refl
    by_group false false f s = refl

    at : (p : Clerks)
        → (((names_one p c && fits r.maildrop d) && (lists r.actions action && fits_class action r.class class))
        || (list_any (λ g. has_member g c && (same_clerks p (clerks.MembersOf g.name) && fits r.maildrop d)) groups && (lists r.actions action && fits_class action r.class class)))
        ≡ (lists r.actions action && fits_clerk groups p c && fits r.maildrop d && fits_class action r.class class)
    at clerks.Any =
        ap (λ (b : Bool). ((true && fits r.maildrop d) && (lists r.actions action && fits_class action r.class class)) || (b && (lists r.actions action && fits_class action r.class class)))
        (no_group groups (λ g. has_member g c))
        ∙ one (lists r.actions action) true (fits r.maildrop d) (fits_class action r.class class)
    at (clerks.Is w) =
        ap (λ (b : Bool). ((bytes_eq w c && fits r.maildrop d) && (lists r.actions action && fits_class action r.class class)) || (b && (lists r.actions action && fits_class action r.class class)))
        (no_group groups (λ g. has_member g c))
        ∙ one (lists r.actions action) (bytes_eq w c) (fits r.maildrop d) (fits_class action r.class class)
    at (clerks.MembersOf w) =
        ap (λ (b : Bool). ((false && fits r.maildrop d) && (lists r.actions action && fits_class action r.class class)) || (b && (lists r.actions action && fits_class action r.class class)))
        (its_group groups (λ g. has_member g c) (λ g. bytes_eq w g.name) (fits r.maildrop d))
        ∙ by_group (lists r.actions action) (is_member groups w c) (fits r.maildrop d) (fits_class action r.class class)

-- the first that matches is the first of those that name no group, or of those that name a group of the clerk's
pub first_of_all : (groups : List Group) (c d class : List ℕ) (action : Action) (rules : List Rule)
    → min (place_from (λ r. is_about_one c d r && is_about_action action class r) 0 rules) (place_from (λ r. is_about_groups groups c d r && is_about_action action class r) 0 rules)
    ≡ place_from (matches groups c d class action) 0 rules
first_of_all groups c d class action rules =
    let q = is_about_action action class in
    let p1 : Rule → Bool = λ r. is_about_one c d r && q r in
    let p2 : Rule → Bool = λ r. is_about_groups groups c d r && q r in
    sym (place_from-or p1 p2 0 rules) ∙ place_from-congr (λ r. p1 r || p2 r) (matches groups c d class action) (of_all groups c d class action) 0 rules
