-- Rules of a new policy that say what a rule of the old one said under another name; rules that are gone, and new ones.
use Rattle.std.specs.Prelude.{ℕ, Bool, true, false, ◌&&◌, not, List, [], ◌++◌, codes, Option, Some, None, if◌then◌else◌}
use Rattle.std.specs.List.{list_any, position}
use Rattle.std.specs.Str.{bytes_eq}
use Rattle.policy.specs.declared.rule.Effect.{Effect}
use Rattle.policy.specs.declared.rule.Effect.TheVariants.{Allow, Deny}
use Rattle.policy.specs.declared.rule.Rule.{Rule}
use Rattle.policy.specs.Policy.{Group, Policy}
use Rattle.review.specs.Covers.{covers, rule_words}
use Rattle.review.specs.Differences.{text_if}
use Rattle.review.specs.Places.{text_by_rule}

-- a rule has the name
abbrev pub has_rule : List Rule → (name : List ℕ) → Bool
has_rule rules name = list_any (λ r. bytes_eq r.name name) rules

-- both allow, or both deny
abbrev pub same_effect : (a b : Effect) → Bool
same_effect Allow Allow = true
same_effect Allow Deny = false
same_effect Deny Allow = false
same_effect Deny Deny = true

-- the rules match the same, by these groups, and decide the same
abbrev pub says_same : List Group → (was is : Rule) → Bool
says_same groups was is = same_effect was.effect is.effect && covers groups was is && covers groups is was

-- the place of the first old rule that says the same, under a name that no new rule has
abbrev pub said_before : (old new : Policy) → Rule → Option ℕ
said_before old new is = position (λ was. says_same new.groups was is && not (has_rule new.rules was.name)) old.rules

-- of a rule whose name no old rule has, the place of the old rule that it was
abbrev pub renamed_from : (old new : Policy) → Rule → Option ℕ
renamed_from old new is = if has_rule old.rules is.name then None else said_before old new is

-- ---- the text

-- the words of both
unfoldable pub was_words : (olds news : List Rule) → (was is : ℕ) → List ℕ
was_words olds news was is = rule_words news is ++ codes " was " ++ rule_words olds was ++ codes "\n"

-- the line of the rule at a place, if it was another
abbrev pub was_line : (olds news : List Rule) → (is : ℕ) → Option ℕ → List ℕ
was_line olds news is None = []
was_line olds news is (Some was) = codes "note: " ++ was_words olds news was is

-- of a rule and its place
abbrev pub renamed_line : (old new : Policy) → (n : ℕ) → Rule → List ℕ
renamed_line old new n is = was_line old.rules new.rules n (renamed_from old new is)

-- a line for each rule that got another name
abbrev pub renamed_text : (old new : Policy) → List ℕ
renamed_text old new = text_by_rule (renamed_line old new) new.rules

-- ---- rules that are gone, and new ones

-- none of these rules has the rule's name, and none says the same under a name that its own rules don't have
abbrev pub is_unmatched : List Group → (these own : List Rule) → Rule → Bool
is_unmatched groups these own r =
    not (has_rule these r.name) && not (list_any (λ s. says_same groups s r && not (has_rule own s.name)) these)

-- that the rule at a place is so
unfoldable pub is_line : (own : List Rule) → (n : ℕ) → (how : List ℕ) → List ℕ
is_line own n how = codes "note: " ++ rule_words own n ++ codes " is " ++ how ++ codes "\n"

-- of a rule and its place
abbrev pub unmatched_line : List Group → (these own : List Rule) → (how : List ℕ) → (n : ℕ) → Rule → List ℕ
unmatched_line groups these own how n r = text_if (is_unmatched groups these own r) (is_line own n how)

-- the old rules that are gone, and the new ones
abbrev pub exchanged_text : (old new : Policy) → List ℕ
exchanged_text old new =
    text_by_rule (unmatched_line new.groups new.rules old.rules (codes "gone")) old.rules
    ++ text_by_rule (unmatched_line new.groups old.rules new.rules (codes "new")) new.rules
