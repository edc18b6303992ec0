-- A group's number of a fault is that of the first group that has one.
use Rattle.std.proofs.Common.{◌≡◌, ◌⊎◌, inl, inr, ⊎_elim, ℕ, ◌+◌, Bool, true, false, not, ◌||◌, List, [], ◌∷◌, ◌++◌, length, Option, Some, None, Result, Ok, Err, refl, sym, ◌∙◌}
use Rattle.std.proofs.Common.{ap, subst, append-nil, append_assoc, arith}
use Rattle.std.specs.Prelude.{codes, nat_le}
use Rattle.toml.specs.Data.{Data, Items, no_items, item, Members, get_member, as_table}
use Rattle.toml.specs.Parse.{parse_document}
use Rattle.policy.specs.Policy.{Group, Policy, are_known, has_group, is_any, most_groups, most_rules}
use Rattle.policy.specs.WrittenText.{group_number}
use Rattle.policy.specs.PolicyText.{◌>>=◌, value_or, demand, all_keys, is_group_key, name_at, members_of, group_of, group_at, groups_from, is_rule_key, rule_name_of, clerks_of}
use Rattle.policy.specs.PolicyText.{pattern_of, effect_of, actions_of, has_name, Settings, settings_of, subject_of, decided, rule_of, rule_at, rules_from, tables_at, is_top_key}
use Rattle.policy.specs.PolicyText.{items_len, rules_in, rules_of}
use Rattle.policy.specs.FirstFault.{first_items, item_at, IsFirstGroupFault, IsFirstGroupFaultOf, NumbersTheFirstGroup}
use Rattle.policy.specs.declared.fault.PolicyFault.{PolicyFault}
use Rattle.policy.specs.declared.fault.PolicyFault.TheVariants.{NotToml, GroupKeys, GroupName, GroupDouble, GroupMembers, MissingKey, UnknownKey, BadName, UnknownGroup, DoubleName}
use Rattle.policy.specs.declared.fault.PolicyFault.TheVariants.{BadEffect, BadActions, OpenWithClass, TooMany, TooManyGroups}
use Rattle.policy.specs.declared.read.Subject.{Subject}
use Rattle.policy.specs.declared.rule.Rule.{Rule}
use Rattle.policy.proofs.FirstFaults.{valued, demanded, bound, never}

-- ---- a group's faults have its number

-- it has the number n, or none
abbrev HasNumber : ℕ → PolicyFault → Type 0
HasNumber n f = (group_number f ≡ Some n) ⊎ (group_number f ≡ None)

group_of_number : (n : ℕ) (before : List Group) (ms : Members) (f : PolicyFault) → group_of n before ms ≡ Err f → HasNumber n f
unfolding group_of
group_of_number n before ms =
    valued (HasNumber n) (get_member (codes "name") ms) (GroupKeys n) _ (inl refl) (λ name.
    valued (HasNumber n) (get_member (codes "members") ms) (GroupKeys n) _ (inl refl) (λ members.
    demanded (HasNumber n) (all_keys is_group_key ms) (GroupKeys n) _ (inl refl) (
    valued (HasNumber n) (name_at name) (GroupName n) _ (inl refl) (λ own.
    demanded (HasNumber n) (not (has_group before own)) (GroupDouble n) _ (inl refl) (
    valued (HasNumber n) (members_of members) (GroupMembers n) _ (inl refl) (λ x f q. never (HasNumber n) _ f q))))))

group_at_number : (n : ℕ) (before : List Group) (d : Data) (f : PolicyFault) → group_at n before d ≡ Err f → HasNumber n f
group_at_number n before d = valued (HasNumber n) (as_table d) NotToml (group_of n before) (inr refl) (λ ms. group_of_number n before ms)

own_number : (n m : ℕ) (f : PolicyFault) → HasNumber n f → group_number f ≡ Some m → m ≡ n
own_number n m f h e = ⊎_elim (λ (k : group_number f ≡ Some n). cc) (λ (k : group_number f ≡ None). cc) h

-- ---- a rule's faults have no group's number

HasNone : PolicyFault → Type 0
HasNone f = group_number f ≡ None

module _ (groups : List Group) (n : ℕ) where
  settings_none : (ms : Members) (f : PolicyFault) → settings_of n ms ≡ Err f → HasNone f
  unfolding settings_of HasNone
  settings_none ms =
      valued HasNone (get_member (codes "name") ms) (MissingKey n) _ refl (λ name.
      valued HasNone (get_member (codes "effect") ms) (MissingKey n) _ refl (λ effect.
      valued HasNone (get_member (codes "clerk") ms) (MissingKey n) _ refl (λ clerk.
      valued HasNone (get_member (codes "maildrop") ms) (MissingKey n) _ refl (λ maildrop.
      valued HasNone (get_member (codes "class") ms) (MissingKey n) _ refl (λ class.
      valued HasNone (get_member (codes "actions") ms) (MissingKey n) _ refl (λ actions.
      demanded HasNone (all_keys is_rule_key ms) (UnknownKey n) _ refl (λ f q. never HasNone _ f q)))))))

  subject_none : (before : List Rule) (s : Settings) (f : PolicyFault) → subject_of groups n before s ≡ Err f → HasNone f
  unfolding subject_of HasNone
  subject_none before s =
      valued HasNone (rule_name_of s.name) (BadName n) _ refl (λ name.
      valued HasNone (clerks_of s.clerk) (BadName n) _ refl (λ clerk.
      valued HasNone (pattern_of s.maildrop) (BadName n) _ refl (λ maildrop.
      valued HasNone (pattern_of s.class) (BadName n) _ refl (λ class.
      demanded HasNone (are_known groups clerk) (UnknownGroup n) _ refl (
      demanded HasNone (not (has_name before name)) (DoubleName n) _ refl (λ f q. never HasNone _ f q))))))

  decided_none : (subject : Subject) (s : Settings) (f : PolicyFault) → decided n subject s ≡ Err f → HasNone f
  unfolding decided HasNone
  decided_none subject s =
      valued HasNone (effect_of s.effect) (BadEffect n) _ refl (λ effect.
      valued HasNone (actions_of s.actions) (BadActions n) _ refl (λ actions.
      demanded HasNone (not actions.open || is_any subject.class) (OpenWithClass n) _ refl (λ f q. never HasNone _ f q)))

  rule_of_none : (before : List Rule) (ms : Members) (f : PolicyFault) → rule_of groups n before ms ≡ Err f → HasNone f
  unfolding rule_of
  rule_of_none before ms =
      bound HasNone (settings_of n ms) _ (settings_none ms) (λ s.
      bound HasNone (subject_of groups n before s) _ (subject_none before s) (λ subject. decided_none subject s))

  rule_none : (before : List Rule) (d : Data) (f : PolicyFault) → rule_at groups n before d ≡ Err f → HasNone f
  unfolding HasNone
  rule_none before d = valued HasNone (as_table d) NotToml (rule_of groups n before) refl (λ ms. rule_of_none before ms)

rules_none : (groups : List Group) (n : ℕ) (before : List Rule) (ds : Items) (f : PolicyFault) → rules_from groups n before ds ≡ Err f → HasNone f
unfolding rules_from HasNone
rules_none groups n before no_items f h = never HasNone before f h
rules_none groups n before (item d ds) f h =
    bound HasNone (rule_at groups n before d) (λ r. rules_from groups (n + 1) (before ++ r ∷ []) ds)
    (rule_none groups n before d)
    (λ r. rules_none groups (n + 1) (before ++ r ∷ []) ds) f h

-- ---- the groups before it

-- of items that are read from number k on, after other groups
record FirstFrom (k : ℕ) (before : List Group) (ds : Items) (m : ℕ) (f : PolicyFault) : Type 0 where
  more : List Group
  number : m ≡ k + length more
  read : groups_from k before (first_items (length more) ds) ≡ Ok (before ++ more)
  group : Data
  there : item_at ds (length more) ≡ Some group
  faulty : group_at m (before ++ more) group ≡ Err f

first_step : (k : ℕ) (before : List Group) (d : Data) (ds : Items) (m : ℕ) (f : PolicyFault) (x : Result Group PolicyFault) → group_at k before d ≡ x
    → ((g : Group) → groups_from (k + 1) (before ++ g ∷ []) ds ≡ Err f → FirstFrom (k + 1) (before ++ g ∷ []) ds m f)
    → (x >>= (λ g. groups_from (k + 1) (before ++ g ∷ []) ds)) ≡ Err f → group_number f ≡ Some m → FirstFrom k before (item d ds) m f
unfolding groups_from
first_step k before d ds m f (Err e) is on h number =
    let same : e ≡ f = cc in
    let own : m ≡ k = own_number k m f (group_at_number k before d f (is ∙ ap (λ (x : PolicyFault). Err x) same)) number in
    record {
      more = [];
      number = omega (arith, own);
      read = ap (λ (xs : List Group). Ok xs) (sym (append-nil before));
      group = d;
      there = refl;
      faulty = rw (append-nil before, own) (is ∙ ap (λ (x : PolicyFault). Err x) same);
    }
first_step k before d ds m f (Ok g) is on h number =
    let w = on g h in
    let joined : (before ++ g ∷ []) ++ w.more ≡ before ++ g ∷ w.more = append_assoc before (g ∷ []) w.more in
    let count = w.number in
    record {
      more = g ∷ w.more;
      number = omega (arith, count);
      read = rw is (w.read ∙ ap (λ (xs : List Group). Ok xs) joined);
      group = w.group;
      there = w.there;
      faulty = subst (λ (xs : List Group). group_at m xs w.group ≡ Err f) joined w.faulty;
    }

first_from : (k : ℕ) (before : List Group) (ds : Items) (m : ℕ) (f : PolicyFault) → groups_from k before ds ≡ Err f → group_number f ≡ Some m → FirstFrom k before ds m f
unfolding groups_from
first_from k before no_items m f h number = cc
first_from k before (item d ds) m f h number =
    first_step k before d ds m f (group_at k before d) refl (λ g q. first_from (k + 1) (before ++ g ∷ []) ds m f q number) h number

-- ---- a text

module _ (n : ℕ) (f : PolicyFault) (number : group_number f ≡ Some n) where
  first_of : (ds : Items) → groups_from 1 [] ds ≡ Err f → IsFirstGroupFault ds n f
  first_of ds h =
      let w = first_from 1 [] ds n f h number in
      let count = w.number in
      record { before = w.more; number = omega (arith, count); read = w.read; group = w.group; there = w.there; faulty = w.faulty }

  -- what the rules are joined to
  joined_to : List Group → List Rule → Result Policy PolicyFault
  joined_to groups rules = Ok (record { groups = groups; rules = rules })

  -- a fault without a group's number isn't this one
  unnumbered : {A : Type 0} (e : PolicyFault) → group_number e ≡ None → e ≡ f → A
  unnumbered e none q = let k : group_number e ≡ Some n = ap group_number q ∙ number in absurd (let z : None ≡ Some n = sym none ∙ k in cc)

  of_rules : {A : Type 0} (groups : List Group) (rs : Items) (r : Result (List Rule) PolicyFault) → rules_from groups 1 [] rs ≡ r → (r >>= joined_to groups) ≡ Err f → A
  unfolding joined_to HasNone
  of_rules groups rs (Ok rules) is h = absurd (let z : ◌≡◌ {A = Result Policy PolicyFault} (Ok (record { groups = groups; rules = rules })) (Err f) = h in cc)
  of_rules groups rs (Err e) is h = let q : e ≡ f = cc in unnumbered e (rules_none groups 1 [] rs e is) q

  of_groups : (ds rs : Items) (x : Result (List Group) PolicyFault) → groups_from 1 [] ds ≡ x → (x >>= (λ groups. rules_from groups 1 [] rs >>= joined_to groups)) ≡ Err f → IsFirstGroupFault ds n f
  of_groups ds rs (Ok groups) is h = of_rules groups rs (rules_from groups 1 [] rs) refl h
  of_groups ds rs (Err e) is h = let q : e ≡ f = cc in first_of ds (is ∙ ap (λ (x : PolicyFault). Err x) q)

  of_tables : (ds rs : Items) (b c : Bool)
      → (demand b TooMany >>= (λ few. demand c TooManyGroups >>= (λ few_groups. groups_from 1 [] ds >>= (λ groups. rules_from groups 1 [] rs >>= joined_to groups)))) ≡ Err f
      → IsFirstGroupFault ds n f
  of_tables ds rs true true h = of_groups ds rs (groups_from 1 [] ds) refl h
  of_tables ds rs true false h = let q : TooManyGroups ≡ f = cc in unnumbered TooManyGroups refl q
  of_tables ds rs false c h = let q : TooMany ≡ f = cc in unnumbered TooMany refl q

  of_keys : (b : Bool) (r : Result Policy PolicyFault) → (demand b (UnknownKey 0) >>= (λ known. r)) ≡ Err f → r ≡ Err f
  of_keys true r h = h
  of_keys false r h = let q : UnknownKey 0 ≡ f = cc in unnumbered (UnknownKey 0) refl q

  of_members : (text : List ℕ) (ms : Members) → parse_document text ≡ Some ms → (o p : Option Items) → tables_at (get_member (codes "group") ms) ≡ o
      → (value_or o NotToml >>= (λ ds. value_or p NotToml >>= (λ rs. demand (all_keys is_top_key ms) (UnknownKey 0) >>= (λ known. demand (nat_le (items_len rs) most_rules) TooMany >>= (λ few.
      demand (nat_le (items_len ds) most_groups) TooManyGroups >>= (λ few_groups. groups_from 1 [] ds >>= (λ groups. rules_from groups 1 [] rs >>= joined_to groups))))))) ≡ Err f
      → IsFirstGroupFaultOf text n f
  of_members text ms parsed None p is h = let q : NotToml ≡ f = cc in unnumbered NotToml refl q
  of_members text ms parsed (Some ds) None is h = let q : NotToml ≡ f = cc in unnumbered NotToml refl q
  of_members text ms parsed (Some ds) (Some rs) is h =
      let found = of_tables ds rs (nat_le (items_len rs) most_rules) (nat_le (items_len ds) most_groups) (of_keys (all_keys is_top_key ms) _ h) in
      record { members = ms; parsed = parsed; group_tables = ds; groups_listed = is; first = found }

  of_document : (text : List ℕ) (o : Option Members) → parse_document text ≡ o → (value_or o NotToml >>= rules_in) ≡ Err f → IsFirstGroupFaultOf text n f
  unfolding rules_in joined_to
  of_document text None is h = let q : NotToml ≡ f = cc in unnumbered NotToml refl q
  of_document text (Some ms) is h = of_members text ms is (tables_at (get_member (codes "group") ms)) (tables_at (get_member (codes "rule") ms)) refl h

pub numbers_the_first_group : NumbersTheFirstGroup
unfolding rules_of
numbers_the_first_group text n f h number = of_document n f number text (parse_document text) refl h
