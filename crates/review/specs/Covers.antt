-- Which rules never decide: those that an earlier rule covers.
use Rattle.std.specs.Fmt.{decimal}
use Rattle.std.specs.Prelude.{◌≡◌, ℕ, zero, suc, ◌+◌, Bool, true, false, ◌&&◌, ◌||◌, not, List, [], ◌++◌, length, take, codes, Option, Some, None, slice_get}
use Rattle.std.specs.List.{list_all, position, remove}
use Rattle.std.specs.Str.{bytes_eq}
use Rattle.policy.specs.declared.rule.Action.{Action}
use Rattle.policy.specs.declared.rule.Actions.{Actions}
use Rattle.policy.specs.declared.rule.Clerks.{Clerks}
use Rattle.policy.specs.declared.rule.Clerks.TheVariants as clerks
use Rattle.policy.specs.declared.rule.Pattern.{Pattern}
use Rattle.policy.specs.declared.rule.Pattern.TheVariants.{Any, Is}
use Rattle.policy.specs.declared.rule.Rule.{Rule}
use Rattle.policy.specs.Policy.{Group, Policy, decide, fits, fits_clerk, is_any}

-- the wide pattern fits every name that the narrow one fits: `*` alone does so for `*`
abbrev pub covers_pattern : (wide narrow : Pattern) → Bool
covers_pattern wide Any = is_any wide
covers_pattern wide (Is name) = fits wide name

-- the clerks are `*`
abbrev pub is_everyone : Clerks → Bool
is_everyone clerks.Any = true
is_everyone (clerks.Is name) = false
is_everyone (clerks.MembersOf name) = false

-- the wide clerks have among them each member of the group of that name
abbrev pub covers_members : List Group → (wide : Clerks) (name : List ℕ) → Bool
covers_members groups wide name = list_all (λ g. not (bytes_eq name g.name) || list_all (fits_clerk groups wide) g.members) groups

-- the wide clerks have among them each of the narrow ones: `*` alone does so for `*`
abbrev pub covers_clerks : List Group → (wide narrow : Clerks) → Bool
covers_clerks groups wide clerks.Any = is_everyone wide
covers_clerks groups wide (clerks.Is name) = fits_clerk groups wide name
covers_clerks groups wide (clerks.MembersOf name) = covers_members groups wide name

-- the wide actions list each of the narrow ones
abbrev pub covers_actions : (wide narrow : Actions) → Bool
covers_actions wide narrow = (not narrow.open || wide.open) && (not narrow.read || wide.read) && (not narrow.remove || wide.remove)

-- the wide rule matches whatever the narrow one matches
abbrev pub covers : List Group → (wide narrow : Rule) → Bool
covers groups wide narrow =
    covers_actions wide.actions narrow.actions && covers_pattern wide.maildrop narrow.maildrop && covers_pattern wide.class narrow.class
    && covers_clerks groups wide.clerk narrow.clerk

-- of a rule after others the first of these that covers it
abbrev pub cover_among : List Group → (before : List Rule) → Option Rule → Option ℕ
cover_among groups before None = None
cover_among groups before (Some narrow) = position (λ wide. covers groups wide narrow) before

-- the place of the first rule that covers the rule at place n and stands before it
abbrev pub first_cover : Policy → ℕ → Option ℕ
first_cover p n = cover_among p.groups (take n p.rules) (slice_get p.rules n)

-- the policy without its rule at place n
abbrev pub without : ℕ → Policy → Policy
without n p = record { groups = p.groups; rules = remove p.rules n }

-- the rule at place n never decides: without it every decision is the same
abbrev pub NeverDecides : Policy → ℕ → Type 0
NeverDecides p n = (clerk maildrop class : List ℕ) (action : Action) → decide (without n p) clerk maildrop class action ≡ decide p clerk maildrop class action

-- ---- the text

-- the name of the rule at a place
abbrev pub name_of_rule : Option Rule → List ℕ
name_of_rule None = []
name_of_rule (Some r) = r.name

-- a rule's number, counted from 1, and its name
unfoldable pub rule_words : List Rule → ℕ → List ℕ
rule_words rules n = codes "rule " ++ decimal (n + 1) ++ codes " " ++ name_of_rule (slice_get rules n)

-- the line of the rule at a place, if one covers it
unfoldable pub cover_line : List Rule → (n : ℕ) → Option ℕ → List ℕ
cover_line rules n None = []
cover_line rules n (Some by) = rule_words rules n ++ codes " never decides: " ++ rule_words rules by ++ codes " matches first\n"

-- the lines of the first n rules
abbrev pub cover_lines : Policy → (n : ℕ) → List ℕ
cover_lines p zero = []
cover_lines p (suc n) = cover_lines p n ++ cover_line p.rules n (first_cover p n)

-- a line for each rule that never decides, since an earlier one covers it
abbrev pub covered_text : Policy → List ℕ
covered_text p = cover_lines p (length p.rules)
