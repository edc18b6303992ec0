-- A rule's number of a fault is that of the first rule that has one.
use Rattle.std.proofs.Common.{◌≡◌, ◌⊎◌, inl, inr, ⊎_elim, ℕ, suc, ◌+◌, Bool, true, false, not, ◌||◌, List, [], ◌∷◌, ◌++◌, length, Option, Some, None, Result, Ok, Err, refl, sym}
use Rattle.std.proofs.Common.{◌∙◌, ap, subst, append-nil, append_assoc, arith}
use Rattle.std.specs.Prelude.{codes, nat_le}
use Rattle.toml.specs.Data.{Data, Items, no_items, item, Members, get_member, as_table}
use Rattle.toml.specs.Parse.{parse_document}
use Rattle.policy.specs.Policy.{Group, Policy, are_known, has_group, is_any, most_groups, most_rules}
use Rattle.policy.specs.WrittenText.{fault_number}
use Rattle.policy.specs.PolicyText.{◌>>=◌, value_or, demand, all_keys, is_group_key, name_at, members_of, group_of, group_at, groups_from, is_rule_key, rule_name_of, clerks_of}
use Rattle.policy.specs.PolicyText.{pattern_of, effect_of, actions_of, has_name, Settings, settings_of, subject_of, decided, rule_of, rule_at, rules_from, tables_at, is_top_key}
use Rattle.policy.specs.PolicyText.{items_len, rules_in, rules_of}
use Rattle.policy.specs.FirstFault.{first_items, item_at, IsFirstFault, IsFirstFaultOf, NumbersTheFirstFault}
use Rattle.policy.specs.declared.fault.PolicyFault.{PolicyFault}
use Rattle.policy.specs.declared.fault.PolicyFault.TheVariants.{NotToml, GroupKeys, GroupName, GroupDouble, GroupMembers, MissingKey, UnknownKey, BadName, UnknownGroup, DoubleName}
use Rattle.policy.specs.declared.fault.PolicyFault.TheVariants.{BadEffect, BadActions, OpenWithClass, TooMany, TooManyGroups}
use Rattle.policy.specs.declared.read.Subject.{Subject}
use Rattle.policy.specs.declared.rule.Rule.{Rule}

-- ---- a rule's faults have its number

-- it has the number n, or none
abbrev HasNumber : ℕ → PolicyFault → Type 0
HasNumber n f = (fault_number f ≡ Some n) ⊎ (fault_number f ≡ None)

told : {A : Type 0} (P : PolicyFault → Type 0) (e f : PolicyFault) → P e → ◌≡◌ {A = Result A PolicyFault} (Err e) (Err f) → P f
told P e f p h = let q : e ≡ f = cc in subst P q p

pub valued : {A B : Type 0} (P : PolicyFault → Type 0) (o : Option A) (e : PolicyFault) (g : A → Result B PolicyFault) → P e → ((x : A) (f : PolicyFault) → g x ≡ Err f → P f)
    → (f : PolicyFault) → (value_or o e >>= g) ≡ Err f → P f
valued P None e g p h f q = told P e f p q
valued P (Some x) e g p h f q = h x f q

pub demanded : {B : Type 0} (P : PolicyFault → Type 0) (b : Bool) (e : PolicyFault) (g : Unit {0} → Result B PolicyFault) → P e → ((f : PolicyFault) → g tt ≡ Err f → P f)
    → (f : PolicyFault) → (demand b e >>= g) ≡ Err f → P f
demanded P false e g p h f q = told P e f p q
demanded P true e g p h f q = h f q

pub bound : {A B : Type 0} (P : PolicyFault → Type 0) (r : Result A PolicyFault) (g : A → Result B PolicyFault)
    → ((f : PolicyFault) → r ≡ Err f → P f) → ((x : A) (f : PolicyFault) → g x ≡ Err f → P f)
    → (f : PolicyFault) → (r >>= g) ≡ Err f → P f
bound P (Err e) g p h f q = told P e f (p e refl) q
bound P (Ok x) g p h f q = h x f q

pub never : {A : Type 0} (P : PolicyFault → Type 0) (x : A) (f : PolicyFault) → ◌≡◌ {A = Result A PolicyFault} (Ok x) (Err f) → P f
never P x f q = cc

module _ (groups : List Group) (n : ℕ) where
  settings_number : (ms : Members) (f : PolicyFault) → settings_of n ms ≡ Err f → HasNumber n f
  unfolding settings_of
  settings_number ms =
      valued (HasNumber n) (get_member (codes "name") ms) (MissingKey n) _ (inl refl) (λ name.
      valued (HasNumber n) (get_member (codes "effect") ms) (MissingKey n) _ (inl refl) (λ effect.
      valued (HasNumber n) (get_member (codes "clerk") ms) (MissingKey n) _ (inl refl) (λ clerk.
      valued (HasNumber n) (get_member (codes "maildrop") ms) (MissingKey n) _ (inl refl) (λ maildrop.
      valued (HasNumber n) (get_member (codes "class") ms) (MissingKey n) _ (inl refl) (λ class.
      valued (HasNumber n) (get_member (codes "actions") ms) (MissingKey n) _ (inl refl) (λ actions.
      demanded (HasNumber n) (all_keys is_rule_key ms) (UnknownKey n) _ (inl refl) (λ f q. never (HasNumber n) _ f q)))))))

  subject_number : (before : List Rule) (s : Settings) (f : PolicyFault) → subject_of groups n before s ≡ Err f → HasNumber n f
  unfolding subject_of
  subject_number before s =
      valued (HasNumber n) (rule_name_of s.name) (BadName n) _ (inl refl) (λ name.
      valued (HasNumber n) (clerks_of s.clerk) (BadName n) _ (inl refl) (λ clerk.
      valued (HasNumber n) (pattern_of s.maildrop) (BadName n) _ (inl refl) (λ maildrop.
      valued (HasNumber n) (pattern_of s.class) (BadName n) _ (inl refl) (λ class.
      demanded (HasNumber n) (are_known groups clerk) (UnknownGroup n) _ (inl refl) (
      demanded (HasNumber n) (not (has_name before name)) (DoubleName n) _ (inl refl) (λ f q. never (HasNumber n) _ f q))))))

  decided_number : (subject : Subject) (s : Settings) (f : PolicyFault) → decided n subject s ≡ Err f → HasNumber n f
  unfolding decided
  decided_number subject s =
      valued (HasNumber n) (effect_of s.effect) (BadEffect n) _ (inl refl) (λ effect.
      valued (HasNumber n) (actions_of s.actions) (BadActions n) _ (inl refl) (λ actions.
      demanded (HasNumber n) (not actions.open || is_any subject.class) (OpenWithClass n) _ (inl refl) (λ f q. never (HasNumber n) _ f q)))

  rule_of_number : (before : List Rule) (ms : Members) (f : PolicyFault) → rule_of groups n before ms ≡ Err f → HasNumber n f
  unfolding rule_of
  rule_of_number before ms =
      bound (HasNumber n) (settings_of n ms) _ (settings_number ms) (λ s.
      bound (HasNumber n) (subject_of groups n before s) _ (subject_number before s) (λ subject. decided_number subject s))

  rule_number : (before : List Rule) (d : Data) (f : PolicyFault) → rule_at groups n before d ≡ Err f → HasNumber n f
  rule_number before d = valued (HasNumber n) (as_table d) NotToml (rule_of groups n before) (inr refl) (λ ms. rule_of_number before ms)

own_number : (n m : ℕ) (f : PolicyFault) → HasNumber n f → fault_number f ≡ Some m → m ≡ n
own_number n m f h e = ⊎_elim (λ (k : fault_number f ≡ Some n). cc) (λ (k : fault_number f ≡ None). cc) h

-- ---- a group's faults have no rule's number

HasNone : PolicyFault → Type 0
HasNone f = fault_number f ≡ None

group_of_none : (n : ℕ) (before : List Group) (ms : Members) (f : PolicyFault) → group_of n before ms ≡ Err f → HasNone f
unfolding group_of HasNone
group_of_none n before ms =
    valued HasNone (get_member (codes "name") ms) (GroupKeys n) _ refl (λ name.
    valued HasNone (get_member (codes "members") ms) (GroupKeys n) _ refl (λ members.
    demanded HasNone (all_keys is_group_key ms) (GroupKeys n) _ refl (
    valued HasNone (name_at name) (GroupName n) _ refl (λ own.
    demanded HasNone (not (has_group before own)) (GroupDouble n) _ refl (
    valued HasNone (members_of members) (GroupMembers n) _ refl (λ x f q. never HasNone _ f q))))))

groups_none : (n : ℕ) (before : List Group) (ds : Items) (f : PolicyFault) → groups_from n before ds ≡ Err f → HasNone f
unfolding groups_from HasNone
groups_none n before no_items f h = never HasNone before f h
groups_none n before (item d ds) f h =
    bound HasNone (group_at n before d) (λ g. groups_from (n + 1) (before ++ g ∷ []) ds)
    (valued HasNone (as_table d) NotToml (group_of n before) refl (λ ms. group_of_none n before ms))
    (λ g. groups_none (n + 1) (before ++ g ∷ []) ds) f h

-- ---- the rules before it

-- of items that are read from number k on, after other rules
record FirstFrom (groups : List Group) (k : ℕ) (before : List Rule) (ds : Items) (m : ℕ) (f : PolicyFault) : Type 0 where
  more : List Rule
  number : m ≡ k + length more
  read : rules_from groups k before (first_items (length more) ds) ≡ Ok (before ++ more)
  rule : Data
  there : item_at ds (length more) ≡ Some rule
  faulty : rule_at groups m (before ++ more) rule ≡ Err f

first_step : (groups : List Group) (k : ℕ) (before : List Rule) (d : Data) (ds : Items) (m : ℕ) (f : PolicyFault) (x : Result Rule PolicyFault) → rule_at groups k before d ≡ x
    → ((r : Rule) → rules_from groups (k + 1) (before ++ r ∷ []) ds ≡ Err f → FirstFrom groups (k + 1) (before ++ r ∷ []) ds m f)
    → (x >>= (λ r. rules_from groups (k + 1) (before ++ r ∷ []) ds)) ≡ Err f → fault_number f ≡ Some m → FirstFrom groups k before (item d ds) m f
unfolding rules_from
first_step groups k before d ds m f (Err g) is on h number =
    let same : g ≡ f = cc in
    let own : m ≡ k = own_number k m f (rule_number groups k before d f (is ∙ ap (λ (x : PolicyFault). Err x) same)) number in
    record {
      more = [];
      number = omega (arith, own);
      read = ap (λ (xs : List Rule). Ok xs) (sym (append-nil before));
      rule = d;
      there = refl;
      faulty = rw (append-nil before, own) (is ∙ ap (λ (x : PolicyFault). Err x) same);
    }
first_step groups k before d ds m f (Ok r) is on h number =
    let w = on r h in
    let joined : (before ++ r ∷ []) ++ w.more ≡ before ++ r ∷ w.more = append_assoc before (r ∷ []) w.more in
    let count = w.number in
    record {
      more = r ∷ w.more;
      number = omega (arith, count);
      read = rw is (w.read ∙ ap (λ (xs : List Rule). Ok xs) joined);
      rule = w.rule;
      there = w.there;
      faulty = subst (λ (xs : List Rule). rule_at groups m xs w.rule ≡ Err f) joined w.faulty;
    }

first_from : (groups : List Group) (k : ℕ) (before : List Rule) (ds : Items) (m : ℕ) (f : PolicyFault) → rules_from groups k before ds ≡ Err f
    → fault_number f ≡ Some m → FirstFrom groups k before ds m f
unfolding rules_from
first_from groups k before no_items m f h number = cc
first_from groups k before (item d ds) m f h number =
    first_step groups k before d ds m f (rule_at groups k before d) refl (λ r q. first_from groups (k + 1) (before ++ r ∷ []) ds m f q number) h number

-- ---- a text

module _ (n : ℕ) (f : PolicyFault) (number : fault_number f ≡ Some (suc n)) where
  first_of : (groups : List Group) (ds : Items) → rules_from groups 1 [] ds ≡ Err f → IsFirstFault groups ds (suc n) f
  first_of groups ds h =
      let w = first_from groups 1 [] ds (suc n) f h number in
      let count = w.number in
      record { before = w.more; number = omega (arith, count); read = w.read; rule = w.rule; there = w.there; faulty = w.faulty }

  -- what the rules are joined to
  joined_to : List Group → List Rule → Result Policy PolicyFault
  joined_to groups rules = Ok (record { groups = groups; rules = rules })

  rules_faulty : (groups : List Group) (r : Result (List Rule) PolicyFault) → (r >>= joined_to groups) ≡ Err f → r ≡ Err f
  unfolding joined_to
  rules_faulty groups (Ok rules) h = cc
  rules_faulty groups (Err e) h = let q : e ≡ f = cc in ap (λ (x : PolicyFault). Err x) q

  -- a fault without a rule's number isn't this one
  unnumbered : {A : Type 0} (e : PolicyFault) → fault_number e ≡ None → e ≡ f → A
  unnumbered e none q = let k : fault_number e ≡ Some (suc n) = ap fault_number q ∙ number in absurd (let z : None ≡ Some (suc n) = sym none ∙ k in cc)

  -- the groups are read, and the rules have the fault
  record OfGroups (ds rs : Items) : Type 0 where
    groups : List Group
    read : groups_from 1 [] ds ≡ Ok groups
    first : IsFirstFault groups rs (suc n) f

  of_groups : (ds rs : Items) (x : Result (List Group) PolicyFault) → groups_from 1 [] ds ≡ x → (x >>= (λ groups. rules_from groups 1 [] rs >>= joined_to groups)) ≡ Err f → OfGroups ds rs
  unfolding HasNone
  of_groups ds rs (Ok groups) is h = record { groups = groups; read = is; first = first_of groups rs (rules_faulty groups (rules_from groups 1 [] rs) h) }
  of_groups ds rs (Err e) is h = let q : e ≡ f = cc in unnumbered e (groups_none 1 [] ds e is) q

  of_tables : (ds rs : Items) (b c : Bool)
      → (demand b TooMany >>= (λ few. demand c TooManyGroups >>= (λ few_groups. groups_from 1 [] ds >>= (λ groups. rules_from groups 1 [] rs >>= joined_to groups)))) ≡ Err f
      → OfGroups ds rs
  of_tables ds rs true true h = of_groups ds rs (groups_from 1 [] ds) refl h
  of_tables ds rs true false h = let q : TooManyGroups ≡ f = cc in unnumbered TooManyGroups refl q
  of_tables ds rs false c h = let q : TooMany ≡ f = cc in unnumbered TooMany refl q

  of_keys : (b : Bool) (r : Result Policy PolicyFault) → (demand b (UnknownKey 0) >>= (λ known. r)) ≡ Err f → r ≡ Err f
  of_keys true r h = h
  of_keys false r h =
      let q : UnknownKey 0 ≡ f = cc in
      let k : Some 0 ≡ Some (suc n) = ap fault_number q ∙ number in
      let z : 0 ≡ suc n = cc in
      absurd (omega (arith, z))

  of_members : (text : List ℕ) (ms : Members) → parse_document text ≡ Some ms → (o p : Option Items) → tables_at (get_member (codes "group") ms) ≡ o → tables_at (get_member (codes "rule") ms) ≡ p
      → (value_or o NotToml >>= (λ ds. value_or p NotToml >>= (λ rs. demand (all_keys is_top_key ms) (UnknownKey 0) >>= (λ known. demand (nat_le (items_len rs) most_rules) TooMany >>= (λ few.
      demand (nat_le (items_len ds) most_groups) TooManyGroups >>= (λ few_groups. groups_from 1 [] ds >>= (λ groups. rules_from groups 1 [] rs >>= joined_to groups))))))) ≡ Err f
      → IsFirstFaultOf text (suc n) f
  of_members text ms parsed None p is it h = let q : NotToml ≡ f = cc in unnumbered NotToml refl q
  of_members text ms parsed (Some ds) None is it h = let q : NotToml ≡ f = cc in unnumbered NotToml refl q
  of_members text ms parsed (Some ds) (Some rs) is it h =
      let w = of_tables ds rs (nat_le (items_len rs) most_rules) (nat_le (items_len ds) most_groups) (of_keys (all_keys is_top_key ms) _ h) in
      record {
        members = ms;
        parsed = parsed;
        group_tables = ds;
        groups_listed = is;
        groups = w.groups;
        groups_read = w.read;
        rule_tables = rs;
        rules_listed = it;
        first = w.first;
      }

  of_document : (text : List ℕ) (o : Option Members) → parse_document text ≡ o → (value_or o NotToml >>= rules_in) ≡ Err f → IsFirstFaultOf text (suc n) f
  unfolding rules_in joined_to
  of_document text None is h = let q : NotToml ≡ f = cc in unnumbered NotToml refl q
  of_document text (Some ms) is h = of_members text ms is (tables_at (get_member (codes "group") ms)) (tables_at (get_member (codes "rule") ms)) refl refl h

pub numbers_the_first_fault : NumbersTheFirstFault
unfolding rules_of
numbers_the_first_fault text n f h number = of_document n f number text (parse_document text) refl h
