-- What a path names is what it names on the route that the router finds.
use Rattle.std.proofs.Common.{◌≡◌, ◌⊎◌, ℕ, ◌+◌, ◌<◌, List, [], ◌∷◌, ◌++◌, codes, length, get_or, drop, take, Option, Some, None, option_map, Bool, true, false, cond}
use Rattle.std.proofs.Common.{◌==◌, inl, inr, refl, sym, ap, subst, ◌∙◌, arith, nat_eq, lit<}
use Rattle.std.proofs.lemmas.Bool.Decides.{nat_tests}
use Rattle.std.proofs.lemmas.Bool.{ltb-true}
use Rattle.std.proofs.lemmas.List.{drop_more, take-append-drop}
use Rattle.std.proofs.lemmas.List.Sums.{passes_at_first}
use Rattle.std.proofs.lemmas.Slice.Eq.{bytes_eq-Decides}
use Rattle.std.specs.List.{starts_with, position_or_len, before_first}
use Rattle.std.specs.Prelude.{nat_lt}
use Rattle.std.specs.Str.{bytes_eq}
use Rattle.std.specs.Str.Parse.{digits_value}
use Rattle.creds.specs.Names.{is_name, name_of}
use Rattle.policy.specs.PolicyText.{action_of}
use Rattle.policy.specs.declared.rule.Action.{Action}
use Rattle.policy.specs.declared.rule.Action.TheVariants.{Open, Read, Remove}
use Rattle.matchit.specs.Rows.{RowsOf}
use Rattle.matchit.specs.Route.{scan}
use Rattle.matchit.specs.Seek.{first, seek, step, slash}
use Rattle.matchit.proofs.OnLiterals.{matchit_on_literals}
use Rattle.adminhttp.specs.declared.route.Route.{Route}
use Rattle.adminhttp.specs.declared.route.Route.TheVariants as route
use Rattle.adminhttp.specs.declared.target.Target.{Target}
use Rattle.adminhttp.specs.declared.target.Target.TheVariants.{Maildrops, Maildrop, Clerks, Clerk, Policy, Groups, Sessions, Session, Explain}
use Rattle.adminhttp.specs.Rows.{route_rows, value_of}
use Rattle.office.specs.Numbers.{is_number, number_of}
use Rattle.adminhttp.specs.Targets.{◌>>=◌, is_slash, first_part, behind, alone, explained, target_on, found_on, first_of, target_among, routes, target_of}
use Rattle.adminhttp.proofs.RouteLemmas.{IsPart, last_part, four_parts, name_part, number_part}

-- ---- what a path has that names something

bind_is : {A B : Type 0} (o : Option A) (f : A → Option B) (y : B) → (o >>= f) ≡ Some y → (x : A) × (o ≡ Some x) × (f x ≡ Some y)
bind_is (Some x) f y h = (x, refl, h)
bind_is None f y h = absurd (cc h)

map_is : {A B : Type 0} (f : A → B) (o : Option A) (y : B) → option_map f o ≡ Some y → (x : A) × (o ≡ Some x)
map_is f (Some x) y h = (x, refl)
map_is f None y h = absurd (cc h)

alone_is : (path word : List ℕ) (target found : Target) → alone word target path ≡ Some found → path ≡ word
alone_is path word target found h = by (bytes_eq path word) refl h
  where
    by : (b : Bool) → bytes_eq path word ≡ b → cond b (Some target) None ≡ Some found → path ≡ word
    by true e h = (bytes_eq-Decides path word).0 e
    by false e h = absurd (cc h)

behind_is : (word path rest : List ℕ) → behind word path ≡ Some rest → path ≡ word ++ rest
behind_is word path rest h = by (starts_with nat_eq path word) refl h
  where
    by : (b : Bool) → starts_with nat_eq path word ≡ b → cond b (Some (drop (length word) path)) None ≡ Some rest → path ≡ word ++ rest
    by true e h =
        let front : word ≡ take (length word) path = (bytes_eq-Decides word (take (length word) path)).0 e in
        let back : drop (length word) path ≡ rest = cc h in
        sym (take-append-drop (length word) path) ∙ ap (λ (xs : List ℕ). xs ++ drop (length word) path) (sym front) ∙ ap (λ (xs : List ℕ). word ++ xs) back
    by false e h = absurd (cc h)

name_is : (part name : List ℕ) → name_of part ≡ Some name → IsPart part
name_is part name h = by (is_name part) refl h
  where
    by : (b : Bool) → is_name part ≡ b → cond b (Some part) None ≡ Some name → IsPart part
    by true e h = name_part part e
    by false e h = absurd (cc h)

number_is : (part : List ℕ) (n : ℕ) → number_of part ≡ Some n → IsPart part
number_is part n h = by (is_number part) refl h
  where
    by : (b : Bool) → is_number part ≡ b → cond b (Some (digits_value 10 part)) None ≡ Some n → IsPart part
    by true e h = number_part part e
    by false e h = absurd (cc h)

-- a part that is this word
word_part : (part word : List ℕ) → bytes_eq part word ≡ true → IsPart word → IsPart part
word_part part word e h = subst IsPart (sym ((bytes_eq-Decides part word).0 e)) h

action_is : (part : List ℕ) (action : Action) → action_of part ≡ Some action → IsPart part
action_is part action h = by (bytes_eq part (codes "open")) refl (bytes_eq part (codes "read")) refl (bytes_eq part (codes "remove")) refl h
  where
    by : (u : Bool) → bytes_eq part (codes "open") ≡ u → (v : Bool) → bytes_eq part (codes "read") ≡ v
        → (w : Bool) → bytes_eq part (codes "remove") ≡ w
        → cond u (Some Open) (cond v (Some Read) (cond w (Some Remove) None)) ≡ Some action → IsPart part
    by true e v f w g h = word_part part (codes "open") e (record { octets = refl; some = lit< tt })
    by false e true f w g h = word_part part (codes "read") f (record { octets = refl; some = lit< tt })
    by false e false f true g h = word_part part (codes "remove") g (record { octets = refl; some = lit< tt })
    by false e false f false g h = absurd (cc h)

first_part_is : (text : List ℕ) (r : List ℕ × List ℕ) → first_part text ≡ Some r → text ≡ r.0 ++ slash ∷ r.1
first_part_is text r h = by (nat_lt (position_or_len is_slash text) (length text)) refl h
  where
    at : ℕ
    at = position_or_len is_slash text

    by : (b : Bool) → nat_lt (position_or_len is_slash text) (length text) ≡ b
        → option_map (λ at. (before_first is_slash text, drop (at + 1) text)) (cond b (Some (position_or_len is_slash text)) None) ≡ Some r
        → text ≡ r.0 ++ slash ∷ r.1
    by true e h =
        let within : position_or_len is_slash text < length text = ltb-true _ _ e in
        let there : (get_or text (position_or_len is_slash text) 0 == 47) ≡ true = passes_at_first is_slash text 0 within in
        let is : get_or text (position_or_len is_slash text) 0 ≡ 47 = grind (arith, nat_tests) in
        let shown = drop_more text (position_or_len is_slash text) 0 within in
        let back = rw is at shown in
        let r_is : (take (position_or_len is_slash text) text, drop (position_or_len is_slash text + 1) text) ≡ r = cc h in
        let whole : text ≡ take (position_or_len is_slash text) text ++ slash ∷ drop (position_or_len is_slash text + 1) text
        = sym (take-append-drop (position_or_len is_slash text) text) ∙ ap (λ (xs : List ℕ). take (position_or_len is_slash text) text ++ xs) back in
        whole ∙ ap (λ (q : List ℕ × List ℕ). q.0 ++ slash ∷ q.1) r_is
    by false e h = absurd (cc h)

-- the parts of `explain`
record HasFour (text : List ℕ) : Type 0 where
  a : List ℕ
  b : List ℕ
  c : List ℕ
  d : List ℕ
  is : text ≡ a ++ slash ∷ (b ++ slash ∷ (c ++ slash ∷ d))
  first : IsPart a
  second : IsPart b
  third : IsPart c
  fourth : IsPart d

explained_is : (text : List ℕ) (found : Target) → explained text ≡ Some found → HasFour text
explained_is text found h =
    let one = bind_is (first_part text) _ found h in
    let two = bind_is (first_part one.0.1) _ found one.2 in
    let three = bind_is (first_part two.0.1) _ found two.2 in
    let a = bind_is (name_of one.0.0) _ found three.2 in
    let b = bind_is (name_of two.0.0) _ found a.2 in
    let c = bind_is (name_of three.0.0) _ found b.2 in
    let d = bind_is (action_of three.0.1) _ found c.2 in
    record {
      a = one.0.0;
      b = two.0.0;
      c = three.0.0;
      d = three.0.1;
      is = first_part_is text one.0 one.1
          ∙ ap (λ (xs : List ℕ). one.0.0 ++ slash ∷ xs) (first_part_is one.0.1 two.0 two.1
          ∙ ap (λ (xs : List ℕ). two.0.0 ++ slash ∷ xs) (first_part_is two.0.1 three.0 three.1));
      first = name_is one.0.0 a.0 a.1;
      second = name_is two.0.0 b.0 b.1;
      third = name_is three.0.0 c.0 c.1;
      fourth = action_is three.0.1 d.0 d.1;
    }

-- ---- the router finds the route

module _ {K : Type 0} where
  -- the rows that go on with a word, without it
  abbrev stepped : List ℕ → RowsOf K → RowsOf K
  stepped [] rows = rows
  stepped (b ∷ word) rows = stepped word (step b rows)

  hit : (b : ℕ) (rows : RowsOf K) (path : List ℕ) (key : K) → first (step b rows) path ≡ Some key → first rows (b ∷ path) ≡ Some key
  unfolding seek
  hit b rows path key h = rw h refl

  hits : (word : List ℕ) (rows : RowsOf K) (path : List ℕ) (key : K) → first (stepped word rows) path ≡ Some key → first rows (word ++ path) ≡ Some key
  hits [] rows path key h = h
  hits (b ∷ word) rows path key h = hit b rows (word ++ path) key (hits word (step b rows) path key h)

abbrev found_by : List ℕ → Option Route
found_by path = option_map value_of (first route_rows path)

on_maildrops : found_by (codes "/maildrops") ≡ Some route.Maildrops
unfolding matchit_on_literals
on_maildrops = refl

on_clerks : found_by (codes "/clerks") ≡ Some route.Clerks
unfolding matchit_on_literals
on_clerks = refl

on_policy : found_by (codes "/policy") ≡ Some route.Policy
unfolding matchit_on_literals
on_policy = refl

on_groups : found_by (codes "/groups") ≡ Some route.Groups
unfolding matchit_on_literals
on_groups = refl

on_sessions : found_by (codes "/sessions") ≡ Some route.Sessions
unfolding matchit_on_literals
on_sessions = refl

on_maildrop : (part : List ℕ) → IsPart part → found_by (codes "/maildrops/" ++ part) ≡ Some route.Maildrop
unfolding scan
on_maildrop part h = ap (option_map value_of) (hits (codes "/maildrops/") route_rows part _ (last_part _ part h))

on_clerk : (part : List ℕ) → IsPart part → found_by (codes "/clerks/" ++ part) ≡ Some route.Clerk
unfolding scan
on_clerk part h = ap (option_map value_of) (hits (codes "/clerks/") route_rows part _ (last_part _ part h))

on_session : (part : List ℕ) → IsPart part → found_by (codes "/sessions/" ++ part) ≡ Some route.Session
unfolding scan
on_session part h = ap (option_map value_of) (hits (codes "/sessions/") route_rows part _ (last_part _ part h))

on_explain : (text : List ℕ) → HasFour text → found_by (codes "/explain/" ++ text) ≡ Some route.Explain
unfolding scan
on_explain text h =
    ap (λ (xs : List ℕ). found_by (codes "/explain/" ++ xs)) h.is
    ∙ ap (option_map value_of) (hits (codes "/explain/") route_rows (h.a ++ slash ∷ (h.b ++ slash ∷ (h.c ++ slash ∷ h.d))) _
    (four_parts _ h.a h.b h.c h.d h.first h.second h.third h.fourth))

-- if a path begins with a word, and what follows names something, the route of that word is found
begun : (word path : List ℕ) (f : List ℕ → Option Target) (found : Target) (r : Route)
    → ((rest : List ℕ) → f rest ≡ Some found → found_by (word ++ rest) ≡ Some r)
    → (behind word path >>= f) ≡ Some found → found_by path ≡ Some r
begun word path f found r on h =
    let split = bind_is (behind word path) f found h in
    ap found_by (behind_is word path split.0 split.1) ∙ on split.0 split.2

route_found : (r : Route) (path : List ℕ) (found : Target) → target_on r path ≡ Some found → found_by path ≡ Some r
route_found route.Maildrops path found h = ap found_by (alone_is path (codes "/maildrops") Maildrops found h) ∙ on_maildrops
route_found route.Maildrop path found h =
    begun (codes "/maildrops/") path (λ part. option_map Maildrop (name_of part)) found route.Maildrop
    (λ rest is. let name = map_is Maildrop (name_of rest) found is in on_maildrop rest (name_is rest name.0 name.1)) h
route_found route.Clerks path found h = ap found_by (alone_is path (codes "/clerks") Clerks found h) ∙ on_clerks
route_found route.Clerk path found h =
    begun (codes "/clerks/") path (λ part. option_map Clerk (name_of part)) found route.Clerk
    (λ rest is. let name = map_is Clerk (name_of rest) found is in on_clerk rest (name_is rest name.0 name.1)) h
route_found route.Policy path found h = ap found_by (alone_is path (codes "/policy") Policy found h) ∙ on_policy
route_found route.Groups path found h = ap found_by (alone_is path (codes "/groups") Groups found h) ∙ on_groups
route_found route.Sessions path found h = ap found_by (alone_is path (codes "/sessions") Sessions found h) ∙ on_sessions
route_found route.Session path found h =
    begun (codes "/sessions/") path (λ part. option_map Session (number_of part)) found route.Session
    (λ rest is. let n = map_is Session (number_of rest) found is in on_session rest (number_is rest n.0 n.1)) h
route_found route.Explain path found h =
    begun (codes "/explain/") path explained found route.Explain (λ rest is. on_explain rest (explained_is rest found is)) h

-- ---- what a path names

-- a route of the list on which the path names what it names
record NamedOn (rs : List Route) (path : List ℕ) : Type 0 where
  on : Route
  found : Target
  there : target_on on path ≡ Some found
  first_one : target_among rs path ≡ Some found

named_or_not : (rs : List Route) (path : List ℕ) → (target_among rs path ≡ None) ⊎ NamedOn rs path
named_or_not [] path = inl refl
named_or_not (r ∷ more) path = by (target_on r path) refl (named_or_not more path)
  where
    by : (o : Option Target) → target_on r path ≡ o → (target_among more path ≡ None) ⊎ NamedOn more path
        → (target_among (r ∷ more) path ≡ None) ⊎ NamedOn (r ∷ more) path
    by (Some found) e h = inr (record { on = r; found = found; there = e; first_one = rw e refl })
    by None e (inl none) = inl (rw e none)
    by None e (inr n) = inr (record { on = n.on; found = n.found; there = n.there; first_one = rw e n.first_one })

neither : (a b : Option Target) → first_of a b ≡ None → (a ≡ None) × (b ≡ None)
neither None b h = (refl, h)
neither (Some found) b h = absurd (cc h)

none_on : (r : Route) (path : List ℕ) → target_among routes path ≡ None → target_on r path ≡ None
none_on r path h =
    let one = neither _ _ h in
    let two = neither _ _ one.1 in
    let three = neither _ _ two.1 in
    let four = neither _ _ three.1 in
    let five = neither _ _ four.1 in
    let six = neither _ _ five.1 in
    let seven = neither _ _ six.1 in
    let eight = neither _ _ seven.1 in
    let nine = neither _ _ eight.1 in
    elim r as (λ r. target_on r path ≡ None) [
      | route.Maildrops ↦ one.0
      | route.Maildrop ↦ two.0
      | route.Clerks ↦ three.0
      | route.Clerk ↦ four.0
      | route.Policy ↦ five.0
      | route.Groups ↦ six.0
      | route.Sessions ↦ seven.0
      | route.Session ↦ eight.0
      | route.Explain ↦ nine.0
    ]

found_none : (o : Option Route) (path : List ℕ) → target_among routes path ≡ None → found_on o path ≡ None
found_none None path h = refl
found_none (Some r) path h = none_on r path h

named : (path : List ℕ) → target_among routes path ≡ found_on (found_by path) path
named path = by (named_or_not routes path)
  where
    by : (target_among routes path ≡ None) ⊎ NamedOn routes path → target_among routes path ≡ found_on (found_by path) path
    by (inl none) = none ∙ sym (found_none (found_by path) path none)
    by (inr n) =
        n.first_one ∙ sym n.there ∙ ap (λ (o : Option Route). found_on o path) (sym (route_found n.on path n.found n.there))

pub found_target : (path target : List ℕ) (taken : Option Route) (read : Option Target) → path ≡ target
    → taken ≡ option_map value_of (first route_rows path) → read ≡ found_on taken target → target_of target ≡ read
unfolding target_of
found_target path target taken read same is reads =
    named target
    ∙ ap (λ (p : List ℕ). found_on (found_by p) target) (sym same)
    ∙ ap (λ (o : Option Route). found_on o target) (sym is)
    ∙ sym reads
