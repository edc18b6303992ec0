-- Places by key: how they are kept as one rule more is listed, and how they are walked.
use Rattle.std.proofs.Math.ListN.{drop_of_length-le, length-set}
use Rattle.std.proofs.Math.Nat.{le_refl}
use Rattle.std.proofs.lemmas.Bool.{cases_eq}
use Rattle.std.proofs.lemmas.List.{get_or_default}
use Rattle.std.proofs.Common.{◌≢◌, add-one, drop-cons, get_or-set_same, get_or-set_other, ⊎_elim, ◌≡◌, ℕ, ◌+◌, ◌<◌, Bool, true, false, ◌&&◌, cond, List, [], ◌∷◌, length, drop}
use Rattle.std.proofs.Common.{get_or, set, Option, Some, unwrap_or, refl, sym, ap, ◌∙◌, subst, arith}
use Rattle.std.specs.BTreeMap.{BTreeMap, get, Updates}
use Rattle.std.specs.Ordering.{nat_cmp, is_eq, ordering_then}
use Rattle.std.specs.Cmp.Lexicographic.{slice_cmp}
use Rattle.std.specs.declared.cmp.Ordering.{Ordering}
use Rattle.std.specs.declared.cmp.Ordering.TheVariants.{Less, Equal, Greater}
use Rattle.std.proofs.lemmas.Map.Text.{is_eq-slice_cmp}
use Rattle.policy.specs.declared.key.Key.{Key}
use Rattle.policy.specs.declared.rule.Clerks.{Clerks}
use Rattle.policy.specs.declared.rule.Clerks.TheVariants as clerks
use Rattle.policy.specs.declared.rule.Pattern.{Pattern}
use Rattle.policy.specs.declared.rule.Pattern.TheVariants.{Any, Is}
use Rattle.policy.specs.declared.rule.Rule.{Rule}
use Rattle.policy.specs.Index.{same_clerks, same_pattern, key_of, has_key, place_from, key_cmp, first_place, ListsFrom}

-- ---- the order of keys

pattern_cmp : Pattern → Pattern → Ordering
pattern_cmp Any Any = Equal
pattern_cmp Any (Is b) = Less
pattern_cmp (Is a) Any = Greater
pattern_cmp (Is a) (Is b) = slice_cmp nat_cmp a b

is_eq-pattern_cmp : (p q : Pattern) → is_eq (pattern_cmp p q) ≡ same_pattern p q
unfolding pattern_cmp
is_eq-pattern_cmp Any Any = refl
is_eq-pattern_cmp Any (Is b) = refl
is_eq-pattern_cmp (Is a) Any = refl
is_eq-pattern_cmp (Is a) (Is b) = is_eq-slice_cmp a b

clerks_cmp : Clerks → Clerks → Ordering
clerks_cmp clerks.Any clerks.Any = Equal
clerks_cmp clerks.Any (clerks.Is b) = Less
clerks_cmp clerks.Any (clerks.MembersOf b) = Less
clerks_cmp (clerks.Is a) clerks.Any = Greater
clerks_cmp (clerks.Is a) (clerks.Is b) = slice_cmp nat_cmp a b
clerks_cmp (clerks.Is a) (clerks.MembersOf b) = Less
clerks_cmp (clerks.MembersOf a) clerks.Any = Greater
clerks_cmp (clerks.MembersOf a) (clerks.Is b) = Greater
clerks_cmp (clerks.MembersOf a) (clerks.MembersOf b) = slice_cmp nat_cmp a b

is_eq-clerks_cmp : (p q : Clerks) → is_eq (clerks_cmp p q) ≡ same_clerks p q
unfolding clerks_cmp
is_eq-clerks_cmp clerks.Any clerks.Any = refl
is_eq-clerks_cmp clerks.Any (clerks.Is b) = refl
is_eq-clerks_cmp clerks.Any (clerks.MembersOf b) = refl
is_eq-clerks_cmp (clerks.Is a) clerks.Any = refl
is_eq-clerks_cmp (clerks.Is a) (clerks.Is b) = is_eq-slice_cmp a b
is_eq-clerks_cmp (clerks.Is a) (clerks.MembersOf b) = refl
is_eq-clerks_cmp (clerks.MembersOf a) clerks.Any = refl
is_eq-clerks_cmp (clerks.MembersOf a) (clerks.Is b) = refl
is_eq-clerks_cmp (clerks.MembersOf a) (clerks.MembersOf b) = is_eq-slice_cmp a b

is_eq-then : (o p : Ordering) → is_eq (ordering_then o p) ≡ (is_eq o && is_eq p)
is_eq-then Less p = refl
is_eq-then Equal p = refl
is_eq-then Greater p = refl

-- by the clerks, and then by the maildrop
by_parts : (c d : Clerks) (m n : Pattern) → key_cmp (record { clerk = c; maildrop = m }) (record { clerk = d; maildrop = n }) ≡ ordering_then (clerks_cmp c d) (pattern_cmp m n)
unfolding clerks_cmp pattern_cmp
by_parts clerks.Any clerks.Any Any Any = refl
by_parts clerks.Any clerks.Any Any (Is z) = refl
by_parts clerks.Any clerks.Any (Is y) Any = refl
by_parts clerks.Any clerks.Any (Is y) (Is z) = refl
by_parts clerks.Any (clerks.Is b) m n = refl
by_parts clerks.Any (clerks.MembersOf b) m n = refl
by_parts (clerks.Is a) clerks.Any m n = refl
by_parts (clerks.Is a) (clerks.Is b) Any Any = refl
by_parts (clerks.Is a) (clerks.Is b) Any (Is z) = refl
by_parts (clerks.Is a) (clerks.Is b) (Is y) Any = refl
by_parts (clerks.Is a) (clerks.Is b) (Is y) (Is z) = refl
by_parts (clerks.Is a) (clerks.MembersOf b) m n = refl
by_parts (clerks.MembersOf a) clerks.Any m n = refl
by_parts (clerks.MembersOf a) (clerks.Is b) m n = refl
by_parts (clerks.MembersOf a) (clerks.MembersOf b) Any Any = refl
by_parts (clerks.MembersOf a) (clerks.MembersOf b) Any (Is z) = refl
by_parts (clerks.MembersOf a) (clerks.MembersOf b) (Is y) Any = refl
by_parts (clerks.MembersOf a) (clerks.MembersOf b) (Is y) (Is z) = refl

-- keys tie if they are the same
is_eq-key_cmp : (k q : Key) → is_eq (key_cmp k q) ≡ (same_clerks k.clerk q.clerk && same_pattern k.maildrop q.maildrop)
is_eq-key_cmp k q =
    ap is_eq (by_parts k.clerk q.clerk k.maildrop q.maildrop)
    ∙ is_eq-then (clerks_cmp k.clerk q.clerk) (pattern_cmp k.maildrop q.maildrop)
    ∙ ap (λ (b : Bool). b && is_eq (pattern_cmp k.maildrop q.maildrop)) (is_eq-clerks_cmp k.clerk q.clerk)
    ∙ ap (λ (b : Bool). same_clerks k.clerk q.clerk && b) (is_eq-pattern_cmp k.maildrop q.maildrop)

-- ---- one rule more

unwrap-cond : (b : Bool) (i none : ℕ) (o : Option ℕ) → unwrap_or (cond b (Some i) o) none ≡ cond b i (unwrap_or o none)
unwrap-cond true i none o = refl
unwrap-cond false i none o = refl

-- no rule is listed
pub lists_none : (rules : List Rule) (first : BTreeMap Key ℕ) (next : List ℕ) → first.entries ≡ [] → length next ≡ length rules → ListsFrom (length rules) rules first next
lists_none rules first next e n = record {
  firsts = λ k. rw (e, drop_of_length-le rules (le_refl (length rules))) refl;
  nexts = λ m r a b. absurd (omega arith);
  one_each = n;
}

-- the rule before those that are listed
pub lists_more : (i : ℕ) (r : Rule) (rules : List Rule) (first more : BTreeMap Key ℕ) (next : List ℕ) → i < length rules
    → ListsFrom (i + 1) rules first next → Updates key_cmp first more (key_of (get_or rules i r)) (Some i)
    → ListsFrom i rules more (set next i (first_place first (key_of (get_or rules i r)) (length rules)))
lists_more i r rules first more next lt l u = record {
  firsts = λ k.
      let rest = drop (i + 1) rules in
      let own = get_or rules i r in
      let there : drop i rules ≡ own ∷ rest = rw (add-one, drop-cons rules i r) refl in
      let at : unwrap_or (get key_cmp more k) (length rules) ≡ cond (has_key k own) i (first_place first k (length rules)) =
      ap (λ (o : Option ℕ). unwrap_or o (length rules)) (u.0 k)
      ∙ unwrap-cond (is_eq (key_cmp (key_of own) k)) i (length rules) (get key_cmp first k)
      ∙ ap (λ (b : Bool). cond b i (first_place first k (length rules))) (is_eq-key_cmp (key_of own) k) in
      at ∙ ap (λ (n : ℕ). cond (has_key k own) i n) (l.firsts k) ∙ sym (ap (λ (rs : List Rule). place_from (has_key k) i rs) there);
  nexts = λ n s below lt2.
      ⊎_elim
      (λ (e : n ≡ i).
      let same : get_or rules n s ≡ get_or rules i r = rw e (get_or_default rules i s r lt) in
      let put : get_or (set next i (first_place first (key_of (get_or rules i r)) (length rules))) n 0 ≡ first_place first (key_of (get_or rules i r)) (length rules) =
      rw e (get_or-set_same next i (first_place first (key_of (get_or rules i r)) (length rules)) 0 (omega (arith, l.one_each))) in
      put ∙ l.firsts (key_of (get_or rules i r)) ∙ rw (same, e) refl)
      (λ (ne : n ≢ i).
      get_or-set_other next i n (first_place first (key_of (get_or rules i r)) (length rules)) 0 ne ∙ l.nexts n s (omega arith) lt2)
      (cases_eq n i);
  one_each = length-set next i (first_place first (key_of (get_or rules i r)) (length rules)) ∙ l.one_each;
}

-- the same, as a loop that goes down has it
pub lists_step : (i m : ℕ) (r : Rule) (rules : List Rule) (first more : BTreeMap Key ℕ) (next : List ℕ) (k : Key) (later : Option ℕ) (v : ℕ) → m ≡ i + 1 → i < length rules
    → k ≡ key_of r → r ≡ get_or rules i r → later ≡ get key_cmp first k → v ≡ unwrap_or later (length rules)
    → ListsFrom m rules first next → Updates key_cmp first more k (Some i) → ListsFrom i rules more (set next i v)
lists_step i m r rules first more next k later v mi lt kr ri lk vl l u =
    let at : k ≡ key_of (get_or rules i r) = kr ∙ ap key_of ri in
    let l2 = subst (λ (n : ℕ). ListsFrom n rules first next) mi l in
    let u2 = subst (λ (q : Key). Updates key_cmp first more q (Some i)) at u in
    let put : v ≡ first_place first (key_of (get_or rules i r)) (length rules) =
    vl ∙ ap (λ (o : Option ℕ). unwrap_or o (length rules)) lk ∙ ap (λ (q : Key). first_place first q (length rules)) at in
    rw put (lists_more i r rules first more next lt l2 u2)
