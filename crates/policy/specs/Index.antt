-- Where the rules of each key stand: the key's first rule, and for each rule the next of its key.
use Rattle.std.specs.Prelude.{◌≡◌, ℕ, ◌+◌, ◌<◌, ◌≤◌, Bool, true, false, ◌&&◌, cond, List, [], ◌∷◌, length, drop, slice_index, slice_index_or, unwrap_or}
use Rattle.std.specs.Str.{bytes_eq}
use Rattle.std.specs.BTreeMap.{BTreeMap, get}
use Rattle.std.specs.declared.cmp.Ordering.{Ordering}
use Rattle.policy.specs.declared.index.Index.{Index}
use Rattle.policy.specs.declared.key.Key.{Key}
use Rattle.policy.specs.contracts.key.KeyOrd.TheImpl as key_ord
use Rattle.policy.specs.declared.rule.Clerks.{Clerks}
use Rattle.policy.specs.declared.rule.Clerks.TheVariants as clerks
use Rattle.policy.specs.declared.rule.Pattern.{Pattern}
use Rattle.policy.specs.declared.rule.Pattern.TheVariants.{Any, Is}
use Rattle.policy.specs.declared.rule.Rule.{Rule}

-- both are `*`, or both are the same name
abbrev pub same_pattern : Pattern → Pattern → Bool
same_pattern Any Any = true
same_pattern Any (Is b) = false
same_pattern (Is a) Any = false
same_pattern (Is a) (Is b) = bytes_eq a b

-- both are `*`, or both the same name, or both the group of the same name
abbrev pub same_clerks : Clerks → Clerks → Bool
same_clerks clerks.Any clerks.Any = true
same_clerks clerks.Any (clerks.Is b) = false
same_clerks clerks.Any (clerks.MembersOf b) = false
same_clerks (clerks.Is a) clerks.Any = false
same_clerks (clerks.Is a) (clerks.Is b) = bytes_eq a b
same_clerks (clerks.Is a) (clerks.MembersOf b) = false
same_clerks (clerks.MembersOf a) clerks.Any = false
same_clerks (clerks.MembersOf a) (clerks.Is b) = false
same_clerks (clerks.MembersOf a) (clerks.MembersOf b) = bytes_eq a b

-- the clerks and the maildrop that a rule names
abbrev pub key_of : Rule → Key
key_of r = record { clerk = r.clerk; maildrop = r.maildrop }

-- the rule names the key's clerks and maildrop
abbrev pub has_key : Key → Rule → Bool
has_key k r = same_clerks r.clerk k.clerk && same_pattern r.maildrop k.maildrop

-- the place of the first rule that passes the test, counted from n; the place after the last rule
-- if none does
abbrev pub place_from : (Rule → Bool) → ℕ → List Rule → ℕ
place_from p n [] = n
place_from p n (r ∷ rs) = cond (p r) n (place_from p (n + 1) rs)

-- the order of keys: `*`, then names, then groups, both in the order of their octets
abbrev pub key_cmp : Key → Key → Ordering
key_cmp = (key_ord.ghosts).cmp

-- the place that the map has for a key, or `none`
abbrev pub first_place : BTreeMap Key ℕ → Key → (none : ℕ) → ℕ
first_place first k none = unwrap_or (get key_cmp first k) none

-- of the rules from place `from` on: each key's first place, and each rule's next place of its key
pub record ListsFrom (from : ℕ) (rules : List Rule) (first : BTreeMap Key ℕ) (next : List ℕ) : Type 0 where
  pub firsts : (k : Key) → first_place first k (length rules) ≡ place_from (has_key k) from (drop from rules)
  pub nexts : (n : ℕ) (r : Rule) → from ≤ n → n < length rules
      → slice_index next n ≡ place_from (has_key (key_of (slice_index_or rules n r))) (n + 1) (drop (n + 1) rules)
  pub one_each : length next ≡ length rules

-- the index lists the places of all rules
abbrev pub IsIndexOf : List Rule → Index → Type 0
IsIndexOf rules i = ListsFrom 0 rules i.first i.next.items
