-- What a policy speaks of that a store doesn't have: clerks, maildrops, and members of groups.
use Rattle.std.specs.Prelude.{ℕ, Bool, ◌&&◌, not, List, [], ◌++◌, codes}
use Rattle.std.specs.List.{flat_map, list_any}
use Rattle.std.specs.Str.{bytes_eq}
use Rattle.policy.specs.declared.rule.Clerks.{Clerks}
use Rattle.policy.specs.declared.rule.Clerks.TheVariants as clerks
use Rattle.policy.specs.declared.rule.Pattern.{Pattern}
use Rattle.policy.specs.declared.rule.Pattern.TheVariants.{Any, Is}
use Rattle.policy.specs.declared.rule.Rule.{Rule}
use Rattle.policy.specs.Policy.{Group, Policy}
use Rattle.review.specs.Covers.{rule_words}
use Rattle.review.specs.Differences.{text_if}
use Rattle.review.specs.Names.{Kept, is_one_of}
use Rattle.review.specs.Places.{text_by_rule}

-- one of them is one of the clerks
abbrev pub has_one_of : (clerks members : List (List ℕ)) → Bool
has_one_of clerks members = list_any (λ m. is_one_of m clerks) members

-- a member of the group of that name is one of the store's clerks
abbrev pub has_kept : (clerks : List (List ℕ)) → List Group → (name : List ℕ) → Bool
has_kept clerks groups name = list_any (λ g. bytes_eq name g.name && has_one_of clerks g.members) groups

-- ---- the text

-- that something of this name isn't in the store
unfoldable pub missing_words : (what name : List ℕ) → List ℕ
missing_words what name = codes ": no " ++ what ++ codes " " ++ name ++ codes " in the store\n"

-- that the rule at a place speaks of it
unfoldable pub rule_note : List Rule → (n : ℕ) → (what name : List ℕ) → List ℕ
rule_note rules n what name = codes "note: " ++ rule_words rules n ++ missing_words what name

-- that it is a member of a group
unfoldable pub group_note : (group member : List ℕ) → List ℕ
group_note group member = codes "note: group " ++ group ++ missing_words (codes "clerk") member

-- of a rule that names a clerk, or a group of whom no member is a clerk
abbrev pub clerk_note : Policy → Kept → (n : ℕ) → Clerks → List ℕ
clerk_note p kept n clerks.Any = []
clerk_note p kept n (clerks.Is name) =
    text_if (not (is_one_of name kept.clerks)) (rule_note p.rules n (codes "clerk") name)
clerk_note p kept n (clerks.MembersOf name) =
    text_if (not (has_kept kept.clerks p.groups name)) (rule_note p.rules n (codes "clerk of group") name)

-- of a rule that names a maildrop
abbrev pub maildrop_note : Policy → Kept → (n : ℕ) → Pattern → List ℕ
maildrop_note p kept n Any = []
maildrop_note p kept n (Is name) =
    text_if (not (is_one_of name kept.maildrops)) (rule_note p.rules n (codes "maildrop") name)

-- of a rule and its place
abbrev pub notes_of_rule : Policy → Kept → (n : ℕ) → Rule → List ℕ
notes_of_rule p kept n r = clerk_note p kept n r.clerk ++ maildrop_note p kept n r.maildrop

-- of a group's members
abbrev pub member_note : (clerks : List (List ℕ)) → (group member : List ℕ) → List ℕ
member_note clerks group member = text_if (not (is_one_of member clerks)) (group_note group member)

-- of a group
abbrev pub notes_of_group : (clerks : List (List ℕ)) → Group → List ℕ
notes_of_group clerks g = flat_map (member_note clerks g.name) g.members

-- of all rules, in order, and of all groups
abbrev pub missing_lines : Policy → Kept → List ℕ
missing_lines p kept = text_by_rule (notes_of_rule p kept) p.rules ++ flat_map (notes_of_group kept.clerks) p.groups
