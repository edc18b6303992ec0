-- A rule that an earlier one covers never decides.
use Rattle.std.proofs.lemmas.Bool.{and_parts}
use Rattle.std.proofs.lemmas.List.{get_or_default}
use Rattle.std.proofs.lemmas.List.Folds.{list_any-from_Any}
use Rattle.std.proofs.lemmas.List.Quantifiers.{position-Some}
use Rattle.std.proofs.lemmas.Slice.Eq.{bytes_eq-Decides}
use Rattle.std.proofs.Common.{◌≡◌, ℕ, zero, suc, Bool, true, false, not, ◌&&◌, ◌||◌, cond, List, [], ◌∷◌, take, get_or, Some, refl, sym, ap, true≢false, ◌∙◌, subst}
use Rattle.std.specs.Prelude.{slice_get}
use Rattle.std.specs.List.{list_all, list_any, find, position, remove}
use Rattle.std.specs.Str.{bytes_eq}
use Rattle.policy.specs.declared.rule.Action.{Action}
use Rattle.policy.specs.declared.rule.Action.TheVariants.{Open, Read, Remove}
use Rattle.policy.specs.declared.rule.Actions.{Actions}
use Rattle.policy.specs.declared.rule.Clerks.{Clerks}
use Rattle.policy.specs.declared.rule.Clerks.TheVariants as clerks
use Rattle.policy.specs.declared.rule.Pattern.{Pattern}
use Rattle.policy.specs.declared.rule.Pattern.TheVariants.{Any, Is}
use Rattle.policy.specs.declared.rule.Rule.{Rule}
use Rattle.policy.specs.Policy.{Group, Policy, decision_of, fits, fits_class, fits_clerk, has_member, is_any, is_member, lists, matches}
use Rattle.review.specs.Covers.{NeverDecides, covers, covers_actions, covers_clerks, covers_pattern, is_everyone}

same_names : (a b : List ℕ) → bytes_eq a b ≡ true → a ≡ b
same_names a b e = (bytes_eq-Decides a b).0 e

-- ---- what is covered is matched

implied : (b c : Bool) → (not b || c) ≡ true → b ≡ true → c ≡ true
implied true c e h = e
implied false c e h = absurd (true≢false (sym h))

actions_covered : (wide narrow : Actions) (action : Action) → covers_actions wide narrow ≡ true → lists narrow action ≡ true → lists wide action ≡ true
actions_covered wide narrow action e h =
    let all = and_parts ((not narrow.open || wide.open) && (not narrow.read || wide.read)) (not narrow.remove || wide.remove) e in
    let two = and_parts (not narrow.open || wide.open) (not narrow.read || wide.read) all.0 in
    at action two.0 two.1 all.1 h
  where
    at : (a : Action) → (not narrow.open || wide.open) ≡ true → (not narrow.read || wide.read) ≡ true → (not narrow.remove || wide.remove) ≡ true → lists narrow a ≡ true → lists wide a ≡ true
    at Open o r m h = implied narrow.open wide.open o h
    at Read o r m h = implied narrow.read wide.read r h
    at Remove o r m h = implied narrow.remove wide.remove m h

any_fits : (wide : Pattern) (name : List ℕ) → is_any wide ≡ true → fits wide name ≡ true
any_fits Any name e = refl
any_fits (Is wanted) name e = absurd (true≢false (sym e))

pattern_covered : (wide narrow : Pattern) (name : List ℕ) → covers_pattern wide narrow ≡ true → fits narrow name ≡ true → fits wide name ≡ true
pattern_covered wide Any name e h = any_fits wide name e
pattern_covered wide (Is wanted) name e h = subst (λ (n : List ℕ). fits wide n ≡ true) (same_names wanted name h) e

class_covered : (wide narrow : Pattern) (action : Action) (class : List ℕ) → covers_pattern wide narrow ≡ true → fits_class action narrow class ≡ true → fits_class action wide class ≡ true
class_covered wide narrow Open class e h = refl
class_covered wide narrow Read class e h = pattern_covered wide narrow class e h
class_covered wide narrow Remove class e h = pattern_covered wide narrow class e h

-- all pass the test, so the one of them does
of_all : (test : List ℕ → Bool) (clerk : List ℕ) (names : List (List ℕ)) → list_all test names ≡ true → list_any (λ m. bytes_eq m clerk) names ≡ true → test clerk ≡ true
of_all test clerk [] e h = absurd (true≢false (sym h))
of_all test clerk (m ∷ names) e h =
    let both = and_parts (test m) (list_all test names) e in
    at (bytes_eq m clerk) refl h both.0 (λ (later : list_any (λ n. bytes_eq n clerk) names ≡ true). of_all test clerk names both.1 later)
  where
    at : (b : Bool) → bytes_eq m clerk ≡ b → (b || list_any (λ n. bytes_eq n clerk) names) ≡ true → test m ≡ true
        → (list_any (λ n. bytes_eq n clerk) names ≡ true → test clerk ≡ true) → test clerk ≡ true
    at true same k one others = subst (λ (n : List ℕ). test n ≡ true) (same_names m clerk same) one
    at false same k one others = others k

-- each member of the groups of that name passes the test, so the clerk who is one does
of_members : (test : List ℕ → Bool) (name clerk : List ℕ) (groups : List Group) → list_all (λ g. not (bytes_eq name g.name) || list_all test g.members) groups ≡ true
    → is_member groups name clerk ≡ true → test clerk ≡ true
of_members test name clerk [] e h = absurd (true≢false (sym h))
of_members test name clerk (g ∷ groups) e h =
    let both = and_parts (not (bytes_eq name g.name) || list_all test g.members) (list_all (λ x. not (bytes_eq name x.name) || list_all test x.members) groups) e in
    at (bytes_eq name g.name && has_member g clerk) refl h both.0 (λ (later : is_member groups name clerk ≡ true). of_members test name clerk groups both.1 later)
  where
    at : (b : Bool) → (bytes_eq name g.name && has_member g clerk) ≡ b → (b || is_member groups name clerk) ≡ true → (not (bytes_eq name g.name) || list_all test g.members) ≡ true
        → (is_member groups name clerk ≡ true → test clerk ≡ true) → test clerk ≡ true
    at true is k one others =
        let parts = and_parts (bytes_eq name g.name) (has_member g clerk) is in
        of_all test clerk g.members (implied (bytes_eq name g.name) (list_all test g.members) one parts.0) parts.1
    at false is k one others = others k

everyone_fits : (groups : List Group) (wide : Clerks) (clerk : List ℕ) → is_everyone wide ≡ true → fits_clerk groups wide clerk ≡ true
everyone_fits groups clerks.Any clerk e = refl
everyone_fits groups (clerks.Is wanted) clerk e = absurd (true≢false (sym e))
everyone_fits groups (clerks.MembersOf name) clerk e = absurd (true≢false (sym e))

clerks_covered : (groups : List Group) (wide narrow : Clerks) (clerk : List ℕ) → covers_clerks groups wide narrow ≡ true → fits_clerk groups narrow clerk ≡ true → fits_clerk groups wide clerk ≡ true
clerks_covered groups wide clerks.Any clerk e h = everyone_fits groups wide clerk e
clerks_covered groups wide (clerks.Is wanted) clerk e h = subst (λ (n : List ℕ). fits_clerk groups wide n ≡ true) (same_names wanted clerk h) e
clerks_covered groups wide (clerks.MembersOf name) clerk e h = of_members (fits_clerk groups wide) name clerk groups e h

both : (a b : Bool) → a ≡ true → b ≡ true → (a && b) ≡ true
both true b e h = h
both false b e h = e

rule_covered : (groups : List Group) (wide narrow : Rule) (clerk maildrop class : List ℕ) (action : Action) → covers groups wide narrow ≡ true
    → matches groups clerk maildrop class action narrow ≡ true → matches groups clerk maildrop class action wide ≡ true
rule_covered groups wide narrow clerk maildrop class action e h =
    let actions = covers_actions wide.actions narrow.actions in
    let maildrops = covers_pattern wide.maildrop narrow.maildrop in
    let classes = covers_pattern wide.class narrow.class in
    let c1 = and_parts (actions && maildrops && classes) (covers_clerks groups wide.clerk narrow.clerk) e in
    let c2 = and_parts (actions && maildrops) classes c1.0 in
    let c3 = and_parts actions maildrops c2.0 in
    let m1 = and_parts (lists narrow.actions action && fits_clerk groups narrow.clerk clerk && fits narrow.maildrop maildrop) (fits_class action narrow.class class) h in
    let m2 = and_parts (lists narrow.actions action && fits_clerk groups narrow.clerk clerk) (fits narrow.maildrop maildrop) m1.0 in
    let m3 = and_parts (lists narrow.actions action) (fits_clerk groups narrow.clerk clerk) m2.0 in
    both _ _ (both _ _ (both _ _ (actions_covered wide.actions narrow.actions action c3.0 m3.0)
    (clerks_covered groups wide.clerk narrow.clerk clerk c1.1 m3.1))
    (pattern_covered wide.maildrop narrow.maildrop maildrop c3.1 m2.1))
    (class_covered wide.class narrow.class action class c2.1 m1.1)

-- ---- what is matched before is not missed

same_some : (a b : Rule) → Some a ≡ Some b → a ≡ b
same_some a b e = cc

-- if the element at place n passes only if an earlier one does, the first that passes is the same without it
dropped : (p : Rule → Bool) (xs : List Rule) (n : ℕ) (narrow : Rule) → slice_get xs n ≡ Some narrow → (p narrow ≡ true → list_any p (take n xs) ≡ true) → find p (remove xs n) ≡ find p xs
dropped p [] n narrow e h = absurd (cc)
dropped p (x ∷ xs) zero narrow e h = at (p x) refl
  where
    at : (b : Bool) → p x ≡ b → find p xs ≡ cond b (Some x) (find p xs)
    at true q = absurd (true≢false (sym (h (ap p (sym (same_some x narrow e)) ∙ q))))
    at false q = refl
dropped p (x ∷ xs) (suc n) narrow e h = at (p x) h (λ (k : p narrow ≡ true → list_any p (take n xs) ≡ true). dropped p xs n narrow e k)
  where
    at : (b : Bool) → (p narrow ≡ true → (b || list_any p (take n xs)) ≡ true) → ((p narrow ≡ true → list_any p (take n xs) ≡ true) → find p (remove xs n) ≡ find p xs)
        → cond b (Some x) (find p (remove xs n)) ≡ cond b (Some x) (find p xs)
    at true k more = refl
    at false k more = more k

-- ---- the rule at a place

-- the rule is covered by the one at a place before it, so it never decides
pub covered : (p : Policy) (n by : ℕ) (narrow : Rule) → slice_get p.rules n ≡ Some narrow → position (λ wide. covers p.groups wide narrow) (take n p.rules) ≡ Some by → NeverDecides p n
covered p n by narrow e found = λ clerk maildrop class action.
    let test = matches p.groups clerk maildrop class action in
    let before = take n p.rules in
    let is = position-Some (λ wide. covers p.groups wide narrow) before by narrow found in
    let wide = get_or before by narrow in
    ap decision_of (dropped test p.rules n narrow e (λ (m : test narrow ≡ true).
    list_any-from_Any test before (by, wide, is.0, get_or_default before by wide narrow is.0, rule_covered p.groups wide narrow clerk maildrop class action is.1 m)))
