-- What is written: the text of a fault, and the text of a policy, which is TOML 1.0.
use Rattle.std.specs.Prelude.{ℕ, Bool, true, false, List, [], ◌∷◌, ◌++◌, map, codes, Option, Some, None}
use Rattle.std.specs.Fmt.{decimal}
use Rattle.policy.specs.Policy.{Group, Policy}
use Rattle.policy.specs.declared.fault.PolicyFault.{PolicyFault}
use Rattle.policy.specs.declared.fault.PolicyFault.TheVariants.{NotToml, GroupKeys, GroupName, GroupDouble, GroupMembers, MissingKey, UnknownKey, BadName, UnknownGroup, DoubleName, BadEffect, BadActions, OpenWithClass, TooMany, TooManyGroups, NoMemory}
use Rattle.policy.specs.declared.rule.Actions.{Actions}
use Rattle.policy.specs.declared.rule.Clerks.{Clerks}
use Rattle.policy.specs.declared.rule.Clerks.TheVariants as clerks
use Rattle.policy.specs.declared.rule.Effect.{Effect}
use Rattle.policy.specs.declared.rule.Effect.TheVariants.{Allow, Deny}
use Rattle.policy.specs.declared.rule.Pattern.{Pattern}
use Rattle.policy.specs.declared.rule.Pattern.TheVariants.{Any, Is}
use Rattle.policy.specs.declared.rule.Rule.{Rule}

-- ---- the text of a fault

-- the fault's name
abbrev pub fault_name : PolicyFault → List ℕ
fault_name NotToml = codes "NotToml"
fault_name (GroupKeys n) = codes "GroupKeys"
fault_name (GroupName n) = codes "GroupName"
fault_name (GroupDouble n) = codes "GroupDouble"
fault_name (GroupMembers n) = codes "GroupMembers"
fault_name (MissingKey n) = codes "MissingKey"
fault_name (UnknownKey n) = codes "UnknownKey"
fault_name (BadName n) = codes "BadName"
fault_name (UnknownGroup n) = codes "UnknownGroup"
fault_name (DoubleName n) = codes "DoubleName"
fault_name (BadEffect n) = codes "BadEffect"
fault_name (BadActions n) = codes "BadActions"
fault_name (OpenWithClass n) = codes "OpenWithClass"
fault_name TooMany = codes "TooMany"
fault_name TooManyGroups = codes "TooManyGroups"
fault_name NoMemory = codes "NoMemory"

-- the number of the rule that has the fault; 0 for an unknown top key
abbrev pub fault_number : PolicyFault → Option ℕ
fault_number NotToml = None
fault_number (GroupKeys n) = None
fault_number (GroupName n) = None
fault_number (GroupDouble n) = None
fault_number (GroupMembers n) = None
fault_number (MissingKey n) = Some n
fault_number (UnknownKey n) = Some n
fault_number (BadName n) = Some n
fault_number (UnknownGroup n) = Some n
fault_number (DoubleName n) = Some n
fault_number (BadEffect n) = Some n
fault_number (BadActions n) = Some n
fault_number (OpenWithClass n) = Some n
fault_number TooMany = None
fault_number TooManyGroups = None
fault_number NoMemory = None

-- the number of the group that has the fault
abbrev pub group_number : PolicyFault → Option ℕ
group_number NotToml = None
group_number (GroupKeys n) = Some n
group_number (GroupName n) = Some n
group_number (GroupDouble n) = Some n
group_number (GroupMembers n) = Some n
group_number (MissingKey n) = None
group_number (UnknownKey n) = None
group_number (BadName n) = None
group_number (UnknownGroup n) = None
group_number (DoubleName n) = None
group_number (BadEffect n) = None
group_number (BadActions n) = None
group_number (OpenWithClass n) = None
group_number TooMany = None
group_number TooManyGroups = None
group_number NoMemory = None

-- a name, with a word and a number in front if there is a number
abbrev pub numbered : (word : List ℕ) → Option ℕ → List ℕ → List ℕ
numbered word None name = name
numbered word (Some n) name = word ++ decimal n ++ codes ": " ++ name

-- the fault's name, with its group's or its rule's number in front if it has one
abbrev pub fault_text : PolicyFault → List ℕ
fault_text f = numbered (codes "group ") (group_number f) (numbered (codes "rule ") (fault_number f) (fault_name f))

-- ---- the written text

-- a text in quotes; names and words need no escapes
abbrev pub quoted : List ℕ → List ℕ
quoted text = codes "\"" ++ text ++ codes "\""

-- `*`, or the name
abbrev pub pattern_text : Pattern → List ℕ
pattern_text Any = codes "*"
pattern_text (Is name) = name

-- `*`, the clerk's name, or `@` and the group's
abbrev pub clerks_text : Clerks → List ℕ
clerks_text clerks.Any = codes "*"
clerks_text (clerks.Is name) = name
clerks_text (clerks.MembersOf name) = codes "@" ++ name

-- the word of an effect
abbrev pub effect_text : Effect → List ℕ
effect_text Allow = codes "allow"
effect_text Deny = codes "deny"

-- the word, if the test holds
abbrev pub word_if : Bool → List ℕ → List (List ℕ)
word_if true word = word ∷ []
word_if false word = []

-- the actions that a rule lists, always in this order
abbrev pub action_words : Actions → List (List ℕ)
action_words listed = word_if listed.open (codes "open") ++ word_if listed.read (codes "read") ++ word_if listed.remove (codes "remove")

-- the texts, with one more between each two
abbrev pub joined : (between : List ℕ) → List (List ℕ) → List ℕ
joined between [] = []
joined between (text ∷ []) = text
joined between (text ∷ following ∷ texts) = text ++ between ++ joined between (following ∷ texts)

-- the array of the words, with a comma and a space between each two
abbrev pub array_text : List (List ℕ) → List ℕ
array_text words = codes "[" ++ joined (codes ", ") (map quoted words) ++ codes "]"

-- the line of a key and its value
unfoldable pub setting : List ℕ → List ℕ → List ℕ
setting key value = key ++ codes " = " ++ value ++ codes "\n"

-- a group: the line of its table, then its two settings
unfoldable pub group_text : Group → List ℕ
group_text g = codes "[[group]]\n" ++ setting (codes "name") (quoted g.name) ++ setting (codes "members") (array_text g.members)

-- a rule: the line of its table, then its six settings
unfoldable pub rule_text : Rule → List ℕ
rule_text r =
    codes "[[rule]]\n" ++ setting (codes "name") (quoted r.name) ++ setting (codes "effect") (quoted (effect_text r.effect))
    ++ setting (codes "clerk") (quoted (clerks_text r.clerk)) ++ setting (codes "maildrop") (quoted (pattern_text r.maildrop))
    ++ setting (codes "class") (quoted (pattern_text r.class))
    ++ setting (codes "actions") (array_text (action_words r.actions))

-- the text of a policy: its groups, then its rules, with an empty line between each two
abbrev pub policy_text : Policy → List ℕ
policy_text p = joined (codes "\n") (map group_text p.groups ++ map rule_text p.rules)
