-- What a review asks is what the policy decides, and what isn't named is decided alike.
use Rattle.std.proofs.lemmas.Bool.{or_parts}
use Rattle.std.proofs.Common.{◌≡◌, ℕ, Bool, true, false, ◌&&◌, ◌||◌, List, [], ◌∷◌, refl, ap, true≢false}
use Rattle.std.specs.List.{find, list_any}
use Rattle.std.specs.Str.{bytes_eq}
use Rattle.policy.specs.declared.rule.Action.TheVariants.{Open, Read, Remove}
use Rattle.policy.specs.declared.rule.Clerks.{Clerks}
use Rattle.policy.specs.declared.rule.Clerks.TheVariants as clerks
use Rattle.policy.specs.declared.rule.Pattern.{Pattern}
use Rattle.policy.specs.declared.rule.Pattern.TheVariants.{Any, Is}
use Rattle.policy.specs.declared.rule.Rule.{Rule}
use Rattle.policy.specs.Policy.{Group, Policy, decision_of, fits, fits_clerk, has_member, is_member, matches}
use Rattle.review.specs.declared.label.Label.{Label}
use Rattle.review.specs.declared.label.Label.TheVariants.{Named, Others}
use Rattle.review.specs.declared.question.Column.{Column}
use Rattle.review.specs.declared.question.Column.TheVariants as column
use Rattle.review.specs.Questions.{AsksThePolicy, OthersAreAlike, clerks_name, decide_for, fits_label, has_clerk, is_about, is_asked, names_class, names_clerk, names_maildrop, pattern_names}

-- ---- the same test

pub find_same : (p q : Rule → Bool) → ((r : Rule) → p r ≡ q r) → (xs : List Rule) → find p xs ≡ find q xs
find_same p q e [] = refl
find_same p q e (x ∷ xs) = rw (e x, find_same p q e xs) refl

-- two tests that agree but if a third passes, which it never does
find_unless : (p q named : Rule → Bool) → ((r : Rule) → named r ≡ false → p r ≡ q r) → (xs : List Rule) → list_any named xs ≡ false → find p xs ≡ find q xs
find_unless p q named e [] h = refl
find_unless p q named e (x ∷ xs) h =
    let parts = or_parts (named x) (list_any named xs) h in
    rw (e x parts.0, find_unless p q named e xs parts.1) refl

-- ---- the policy's own decisions

opens : (a b c : Bool) → (a && (b && c)) ≡ (c && a && b && true)
opens true true true = refl
opens true true false = refl
opens true false true = refl
opens true false false = refl
opens false true true = refl
opens false true false = refl
opens false false true = refl
opens false false false = refl

turned : (a b c d : Bool) → (a && (b && (c && d))) ≡ (c && a && b && d)
turned true true true d = refl
turned true true false d = refl
turned true false true d = refl
turned true false false d = refl
turned false true true d = refl
turned false true false d = refl
turned false false true d = refl
turned false false false d = refl

pub asks : AsksThePolicy
asks = record {
  opening = λ p clerk maildrop class. ap decision_of (find_same (is_asked p.groups (Named clerk) (Named maildrop) column.Open) (matches p.groups clerk maildrop class Open)
      (λ (r : Rule). opens (fits_clerk p.groups r.clerk clerk) (fits r.maildrop maildrop) r.actions.open) p.rules);
  reading = λ p clerk maildrop class. ap decision_of (find_same (is_asked p.groups (Named clerk) (Named maildrop) (column.Read (Named class))) (matches p.groups clerk maildrop class Read)
      (λ (r : Rule). turned (fits_clerk p.groups r.clerk clerk) (fits r.maildrop maildrop) r.actions.read (fits r.class class)) p.rules);
  removing = λ p clerk maildrop class. ap decision_of (find_same (is_asked p.groups (Named clerk) (Named maildrop) (column.Remove (Named class))) (matches p.groups clerk maildrop class Remove)
      (λ (r : Rule). turned (fits_clerk p.groups r.clerk clerk) (fits r.maildrop maildrop) r.actions.remove (fits r.class class)) p.rules);
}

-- ---- what isn't named

pattern_alike : (w : Pattern) (name : List ℕ) → pattern_names w name ≡ false → fits_label w (Named name) ≡ fits_label w Others
pattern_alike Any name e = refl
pattern_alike (Is wanted) name e = e

no_member : (wanted name : List ℕ) (groups : List Group) → list_any (λ g. has_member g name) groups ≡ false → is_member groups wanted name ≡ false
no_member wanted name [] e = refl
no_member wanted name (g ∷ groups) e =
    let parts = or_parts (has_member g name) (list_any (λ x. has_member x name) groups) e in
    at (bytes_eq wanted g.name) (has_member g name) parts.0 (no_member wanted name groups parts.1)
  where
    at : (b c : Bool) → c ≡ false → is_member groups wanted name ≡ false → ((b && c) || is_member groups wanted name) ≡ false
    at true true q h = absurd (true≢false q)
    at true false q h = h
    at false c q h = h

clerk_alike : (groups : List Group) (w : Clerks) (name : List ℕ) → list_any (λ g. has_member g name) groups ≡ false → clerks_name w name ≡ false
    → has_clerk groups w (Named name) ≡ has_clerk groups w Others
clerk_alike groups clerks.Any name h e = refl
clerk_alike groups (clerks.Is wanted) name h e = e
clerk_alike groups (clerks.MembersOf wanted) name h e = no_member wanted name groups h

others_clerk : (p : Policy) (name : List ℕ) (maildrop : Label) (asked : Column) → names_clerk p name ≡ false → decide_for p (Named name) maildrop asked ≡ decide_for p Others maildrop asked
others_clerk p name maildrop asked e =
    let parts = or_parts (list_any (λ r. clerks_name r.clerk name) p.rules) (list_any (λ g. has_member g name) p.groups) e in
    ap decision_of (find_unless (is_asked p.groups (Named name) maildrop asked) (is_asked p.groups Others maildrop asked) (λ r. clerks_name r.clerk name)
    (λ (r : Rule) (q : clerks_name r.clerk name ≡ false). ap (λ (b : Bool). b && (fits_label r.maildrop maildrop && is_about asked r)) (clerk_alike p.groups r.clerk name parts.1 q)) p.rules parts.0)

others_maildrop : (p : Policy) (clerk : Label) (name : List ℕ) (asked : Column) → names_maildrop p name ≡ false → decide_for p clerk (Named name) asked ≡ decide_for p clerk Others asked
others_maildrop p clerk name asked e =
    ap decision_of (find_unless (is_asked p.groups clerk (Named name) asked) (is_asked p.groups clerk Others asked) (λ r. pattern_names r.maildrop name)
    (λ (r : Rule) (q : pattern_names r.maildrop name ≡ false). ap (λ (b : Bool). has_clerk p.groups r.clerk clerk && (b && is_about asked r)) (pattern_alike r.maildrop name q)) p.rules e)

others_read : (p : Policy) (clerk maildrop : Label) (name : List ℕ) → names_class p name ≡ false
    → decide_for p clerk maildrop (column.Read (Named name)) ≡ decide_for p clerk maildrop (column.Read Others)
others_read p clerk maildrop name e =
    ap decision_of (find_unless (is_asked p.groups clerk maildrop (column.Read (Named name))) (is_asked p.groups clerk maildrop (column.Read Others)) (λ r. pattern_names r.class name)
    (λ (r : Rule) (q : pattern_names r.class name ≡ false). ap
    (λ (b : Bool). has_clerk p.groups r.clerk clerk && (fits_label r.maildrop maildrop && (r.actions.read && b))) (pattern_alike r.class name q)) p.rules e)

others_remove : (p : Policy) (clerk maildrop : Label) (name : List ℕ) → names_class p name ≡ false
    → decide_for p clerk maildrop (column.Remove (Named name)) ≡ decide_for p clerk maildrop (column.Remove Others)
others_remove p clerk maildrop name e =
    ap decision_of (find_unless (is_asked p.groups clerk maildrop (column.Remove (Named name))) (is_asked p.groups clerk maildrop (column.Remove Others)) (λ r. pattern_names r.class name)
    (λ (r : Rule) (q : pattern_names r.class name ≡ false). ap
    (λ (b : Bool). has_clerk p.groups r.clerk clerk && (fits_label r.maildrop maildrop && (r.actions.remove && b))) (pattern_alike r.class name q)) p.rules e)

pub alike : OthersAreAlike
alike = record { clerk = others_clerk; maildrop = others_maildrop; reading = others_read; removing = others_remove }
