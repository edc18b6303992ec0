-- A policy that was read is sound.
use Rattle.std.proofs.Common.{◌≡◌, ℕ, Bool, true, false, not, ◌&&◌, ◌||◌, List, [], ◌∷◌, ◌++◌, length, take, drop, Option, Some, None, codes, refl}
use Rattle.std.specs.Prelude.{option_and_then, option_map, nat_le, if◌then◌else◌}
use Rattle.std.specs.List.{list_any, list_all}
use Rattle.std.specs.Str.{bytes_eq}
use Rattle.std.proofs.lemmas.Bool.{and_parts, or_parts, or_left, or_right, not-true}
use Rattle.std.proofs.lemmas.List.Folds.{list_all-append, list_any-append}
use Rattle.toml.specs.Data.{Data, Items, no_items, item, as_str, as_array}
use Rattle.creds.specs.Names.{is_name, name_of, text_if}
use Rattle.policy.specs.declared.rule.Actions.{Actions}
use Rattle.policy.specs.declared.rule.Action.{Action}
use Rattle.policy.specs.declared.rule.Action.TheVariants.{Open, Read, Remove}
use Rattle.policy.specs.declared.rule.Clerks.{Clerks}
use Rattle.policy.specs.declared.rule.Clerks.TheVariants as clerks
use Rattle.policy.specs.declared.rule.Pattern.{Pattern}
use Rattle.policy.specs.declared.rule.Pattern.TheVariants.{Any, Is}
use Rattle.policy.specs.declared.rule.Rule.{Rule}
use Rattle.policy.specs.declared.read.Subject.{Subject}
use Rattle.policy.specs.Policy.{Group, default_rule, are_clerks, are_distinct, are_sound_groups, has_group, is_sound_group}
use Rattle.policy.specs.Policy.{most_groups, same_group, same_name, is_any, is_pattern, lists_any, is_sound_rule, are_sound_rules, most_rules}
use Rattle.policy.specs.PolicyText.{clerks_named, clerks_of, name_at, is_sound_subject, has_name, rule_name_of, named, pattern_of, action_of, with_action, with_item, with_items}
use Rattle.policy.specs.PolicyText.{no_actions, actions_of_items, actions_of}

-- a chain of two that ends in a value
and_then-some : {A B : Type 0} (f : A → Option B) (o : Option A) (b : B) → option_and_then f o ≡ Some b → (a : A) × (o ≡ Some a) × (f a ≡ Some b)
and_then-some f (Some a) b h = (a, refl, h)
and_then-some f None b h = absurd (cc)

-- ---- the parts of a rule

-- a text that is a name is one
text_if-some : (b : Bool) (s name : List ℕ) → text_if b s ≡ Some name → (b ≡ true) × (s ≡ name)
text_if-some true s name h = (refl, cc)
text_if-some false s name h = absurd (cc)

name_of-some : (s name : List ℕ) → name_of s ≡ Some name → is_name name ≡ true
name_of-some s name h = let p = text_if-some (is_name s) s name h in rw p.1 at p.0

unless-some : (b : Bool) (o : Option (List ℕ)) (name : List ℕ) → (if b then None else o) ≡ Some name → (b ≡ false) × (o ≡ Some name)
unless-some true o name h = absurd (cc)
unless-some false o name h = (refl, h)

-- a rule's name is a name, and not `default`
pub rule_name_of-some : (d : Data) (name : List ℕ) → rule_name_of d ≡ Some name → (is_name name ≡ true) × (bytes_eq name default_rule ≡ false)
rule_name_of-some d name h =
    let p = and_then-some (λ (s : List ℕ). if bytes_eq s default_rule then None else name_of s) (as_str d) name h in
    let q = unless-some (bytes_eq p.0 default_rule) (name_of p.0) name p.2 in
    let t = text_if-some (is_name p.0) p.0 name q.1 in
    (name_of-some p.0 name q.1, rw t.1 at q.0)

-- a pattern is `*` or a name
named-some : (o : Option (List ℕ)) (p : Pattern) → ((name : List ℕ) → o ≡ Some name → is_name name ≡ true) → named o ≡ Some p → is_pattern p ≡ true
named-some (Some name) p f h = let e : Is name ≡ p = cc in rw (← e) (f name refl)
named-some None p f h = absurd (cc)

pattern-some : (any : Bool) (s : List ℕ) (p : Pattern) → (if any then Some Any else named (name_of s)) ≡ Some p → is_pattern p ≡ true
pattern-some true s p h = let e : Any ≡ p = cc in rw (← e) refl
pattern-some false s p h = named-some (name_of s) p (name_of-some s) h

pub pattern_of-some : (d : Data) (p : Pattern) → pattern_of d ≡ Some p → is_pattern p ≡ true
pattern_of-some d p h =
    let q = and_then-some (λ (s : List ℕ). if bytes_eq s (codes "*") then Some Any else named (name_of s)) (as_str d) p h in
    pattern-some (bytes_eq q.0 (codes "*")) q.0 p q.2

-- clerks are `*`, or a name, or a group's
option_map-some : (f : List ℕ → Clerks) (o : Option (List ℕ)) (p : Clerks) → ((name : List ℕ) → o ≡ Some name → are_clerks (f name) ≡ true) → option_map f o ≡ Some p → are_clerks p ≡ true
option_map-some f (Some name) p g h = let e : f name ≡ p = cc in rw (← e) (g name refl)
option_map-some f None p g h = absurd (cc)

clerks-some : (any of : Bool) (s t : List ℕ) (p : Clerks)
    → (if any then Some clerks.Any else if of then option_map clerks.MembersOf (name_of t) else option_map clerks.Is (name_of s)) ≡ Some p → are_clerks p ≡ true
clerks-some true of s t p h = let e : clerks.Any ≡ p = cc in rw (← e) refl
clerks-some false true s t p h = option_map-some clerks.MembersOf (name_of t) p (name_of-some t) h
clerks-some false false s t p h = option_map-some clerks.Is (name_of s) p (name_of-some s) h

pub clerks_of-some : (d : Data) (p : Clerks) → clerks_of d ≡ Some p → are_clerks p ≡ true
clerks_of-some d p h =
    let q = and_then-some clerks_named (as_str d) p h in
    clerks-some (bytes_eq q.0 (codes "*")) (bytes_eq (take 1 q.0) (codes "@")) q.0 (drop 1 q.0) p q.2

-- a name of an item
pub name_at-some : (d : Data) (name : List ℕ) → name_at d ≡ Some name → is_name name ≡ true
name_at-some d name h = let p = and_then-some name_of (as_str d) name h in name_of-some p.0 name p.2

-- one more action is listed
added : (there : Bool) (larger more : Actions) → lists_any larger ≡ true → (if there then None else Some larger) ≡ Some more → lists_any more ≡ true
added true larger more l h = absurd (cc)
added false larger more l h = let e : larger ≡ more = cc in rw (← e) l

with_action-some : (listed more : Actions) (a : Action) → with_action listed a ≡ Some more → lists_any more ≡ true
with_action-some listed more Open h = added listed.open (record listed { «open» = true }) more refl h
with_action-some listed more Read h = added listed.read (record listed { read = true }) more (or_left (listed.open || true) listed.remove (or_right listed.open true refl)) h
with_action-some listed more Remove h = added listed.remove (record listed { remove = true }) more (or_right (listed.open || listed.read) true refl) h

with_item-some : (listed more : Actions) (d : Data) → with_item listed d ≡ Some more → lists_any more ≡ true
with_item-some listed more d h =
    let p = and_then-some (λ (s : List ℕ). option_and_then (with_action listed) (action_of s)) (as_str d) more h in
    let q = and_then-some (with_action listed) (action_of p.0) more p.2 in
    with_action-some listed more q.0 q.2

with_items-some : (listed more : Actions) (ds : Items) → lists_any listed ≡ true → with_items listed ds ≡ Some more → lists_any more ≡ true
unfolding with_items
with_items-some listed more no_items l h = let e : listed ≡ more = cc in rw (← e) l
with_items-some listed more (item d ds) l h =
    let p = and_then-some (λ (b : Actions). with_items b ds) (with_item listed d) more h in
    with_items-some p.0 more ds (with_item-some listed p.0 d p.1) p.2

actions_of_items-listed : (ds : Items) (more : Actions) → actions_of_items ds ≡ Some more → lists_any more ≡ true
unfolding with_items
actions_of_items-listed no_items more h = absurd (cc)
actions_of_items-listed (item d ds) more h =
    let p = and_then-some (λ (b : Actions). with_items b ds) (with_item no_actions d) more h in
    with_items-some p.0 more ds (with_item-some no_actions p.0 d p.1) p.2

pub actions_of-some : (d : Data) (more : Actions) → actions_of d ≡ Some more → lists_any more ≡ true
actions_of-some d more h =
    let p = and_then-some actions_of_items (as_array d) more h in actions_of_items-listed p.0 more p.2

-- ---- rules after rules

-- one of another name
list_any-push : {A : Type 0} (p : A → Bool) (xs : List A) (x : A) → list_any p xs ≡ false → p x ≡ false → list_any p (xs ++ x ∷ []) ≡ false
list_any-push p xs x n d = rw (list_any-append p xs (x ∷ []), n, d) refl

-- one more rule, whose name is no other's
pub are_distinct-push : (rules : List Rule) (r : Rule) → are_distinct same_name rules ≡ true → has_name rules r.name ≡ false → are_distinct same_name (rules ++ r ∷ []) ≡ true
are_distinct-push [] r h n = refl
are_distinct-push (q ∷ rules) r h n =
    let named = or_parts (bytes_eq q.name r.name) (has_name rules r.name) n in
    let apart = and_parts (not (list_any (same_name q) rules)) (are_distinct same_name rules) h in
    let own = not-true (list_any (same_name q) rules) apart.0 in
    let e1 = list_any-push (same_name q) rules r own named.0 in
    let e2 = are_distinct-push rules r apart.1 named.1 in
    rw (e1, e2) refl

-- one more group, whose name is no other's
pub are_distinct-group : (groups : List Group) (g : Group) → are_distinct same_group groups ≡ true → has_group groups g.name ≡ false → are_distinct same_group (groups ++ g ∷ []) ≡ true
are_distinct-group [] g h n = refl
are_distinct-group (q ∷ groups) g h n =
    let named = or_parts (bytes_eq q.name g.name) (has_group groups g.name) n in
    let apart = and_parts (not (list_any (same_group q) groups)) (are_distinct same_group groups) h in
    let own = not-true (list_any (same_group q) groups) apart.0 in
    let e1 = list_any-push (same_group q) groups g own named.0 in
    let e2 = are_distinct-group groups g apart.1 named.1 in
    rw (e1, e2) refl

-- one more that passes the test
pub list_all-push : {A : Type 0} (p : A → Bool) (xs : List A) (x : A) → list_all p xs ≡ true → p x ≡ true → list_all p (xs ++ x ∷ []) ≡ true
list_all-push p xs x h s = rw (list_all-append p xs (x ∷ []), h, s) refl

-- sound groups of their own names, and not too many
pub are_sound_groups-by : (groups : List Group) → list_all is_sound_group groups ≡ true → are_distinct same_group groups ≡ true
    → nat_le (length groups) most_groups ≡ true → are_sound_groups groups ≡ true
are_sound_groups-by groups s d f = rw (s, d, f) refl

-- sound rules of their own names, and not too many
pub are_sound-by : (rules : List Rule) → list_all is_sound_rule rules ≡ true → are_distinct same_name rules ≡ true → nat_le (length rules) most_rules ≡ true → are_sound_rules rules ≡ true
are_sound-by rules s d f = rw (s, d, f) refl

-- the parts of a sound subject
pub is_sound_subject-by : (s : Subject) → is_name s.name ≡ true → bytes_eq s.name default_rule ≡ false → are_clerks s.clerk ≡ true → is_pattern s.maildrop ≡ true → is_pattern s.class ≡ true
    → is_sound_subject s ≡ true
is_sound_subject-by s a b c d e = rw (a, b, c, d, e) refl

-- five tests together, with two more
five-first : (a b c d e f g : Bool) → (a && b && c && d && e) ≡ true → f ≡ true → g ≡ true → (a && b && c && d && e && f && g) ≡ true
five-first true true true true true f g h p q = rw (p, q) refl
five-first true true true true false f g h p q = absurd (cc)
five-first true true true false e f g h p q = absurd (cc)
five-first true true false d e f g h p q = absurd (cc)
five-first true false c d e f g h p q = absurd (cc)
five-first false b c d e f g h p q = absurd (cc)

-- a sound rule, from its subject and what it decides
pub is_sound_rule-by : (s : Subject) (r : Rule) → r.name ≡ s.name → r.clerk ≡ s.clerk → r.maildrop ≡ s.maildrop → r.class ≡ s.class → is_sound_subject s ≡ true → lists_any r.actions ≡ true
    → (not r.actions.open || is_any s.class) ≡ true → is_sound_rule r ≡ true
is_sound_rule-by s r n k m c sound f g =
    rw (n, k, m, c) (five-first (is_name s.name) (not (bytes_eq s.name default_rule)) (are_clerks s.clerk) (is_pattern s.maildrop)
    (is_pattern s.class) (lists_any r.actions) (not r.actions.open || is_any s.class) sound f g)
