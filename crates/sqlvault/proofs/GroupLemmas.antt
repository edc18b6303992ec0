-- Groups as rows.
use Rattle.std.proofs.Common.{◌≡◌, ℕ, zero, suc, ◌+◌, ◌<◌, ◌≤◌, ℤ, pos, negsuc, Bool, true, false, cond, List, [], ◌∷◌, ◌++◌, length, map, take, get_or, refl, sym, ap, ◌∙◌, arith}
use Rattle.std.proofs.Common.{inl, inr, append_assoc, append-nil, SFits, w64, to_z, of_z, to_z-of_z}
use Rattle.std.specs.Prelude.{Some, None, filter, ◌+ℤ◌, fold}
use Rattle.std.specs.List.{list_all}
use Rattle.std.proofs.lemmas.List.{map-append}
use Rattle.creds.specs.Names.{is_name, name_of}
use Rattle.policy.specs.Policy.{Group}
use Rattle.vault.proofs.ListLemmas.{In, all_in, filter_in, map_in}
use Rattle.mailsql.specs.declared.rows.Group as row
use Rattle.mailsql.specs.declared.rows.Member.{Member}
use Rattle.mailsql.specs.Columns.{Rows}
use Rattle.mailsql.specs.Rows.{same_int, is_member_of}
use Rattle.mailsql.specs.Changes as changes
use Rattle.mailsql.proofs.EqualLemmas.{same_itself}
use Rattle.sqlvault.specs.Keeps.{member_names, group_in}
use Rattle.sqlvault.specs.Parts.{is_named_group}
use Rattle.sqlvault.specs.Rules.{member_rows, group_row, group_rows, all_member_rows, AddsMembers, AddsGroup, AddsGroups, SetsGroups}
use Rattle.sqlvault.proofs.SmallLemmas.{never_true, take_next, int_same}

-- ---- lists

pub filter-append : {A : Type 0} (p : A → Bool) (xs ys : List A) → filter p (xs ++ ys) ≡ filter p xs ++ filter p ys
filter-append p [] ys = refl
filter-append {A} p (x ∷ xs) ys = go (p x) (filter p (xs ++ ys)) (filter p xs) (filter p ys) (filter-append p xs ys)
  where
    go : (b : Bool) (u v w : List A) → u ≡ v ++ w → cond b (x ∷ u) u ≡ cond b (x ∷ v) v ++ w
    go true u v w e = ap (λ l. x ∷ l) e
    go false u v w e = e

-- ---- the rows that are written are the groups

differ : (p q : ℕ) → (q ≡ p → ⊥) → same_int (pos q) (pos p) ≡ false
differ p q apart = never_true (same_int (pos q) (pos p)) (λ e. absurd (apart (ap number (int_same (pos q) (pos p) e))))
  where
    number : ℤ → ℕ
    number (pos n) = n
    number (negsuc n) = 0

own : (group : ℤ) (n : ℕ) (names : List (List ℕ)) → filter (is_member_of group) (member_rows group n names) ≡ member_rows group n names
own group n [] = refl
own group n (x ∷ xs) = ap (λ b. let m : Member = record { group = group; place = pos n; clerk = x } in
    cond b (m ∷ filter (is_member_of group) (member_rows group (n + 1) xs)) (filter (is_member_of group) (member_rows group (n + 1) xs))) (same_itself group)
    ∙ ap (λ l. let m : Member = record { group = group; place = pos n; clerk = x } in m ∷ l) (own group (n + 1) xs)

other : (group : ℤ) (of : ℤ) (n : ℕ) (names : List (List ℕ)) → same_int of group ≡ false → filter (is_member_of group) (member_rows of n names) ≡ []
other group of n [] e = refl
other group of n (x ∷ xs) e = ap
    (λ b. let m : Member = record { group = of; place = pos n; clerk = x } in
    cond b (m ∷ filter (is_member_of group) (member_rows of (n + 1) xs)) (filter (is_member_of group) (member_rows of (n + 1) xs))) e
    ∙ other group of (n + 1) xs e

later : (p q : ℕ) (gs : List Group) → p < q → filter (is_member_of (pos p)) (all_member_rows q gs) ≡ []
later p q [] lt = refl
later p q (g ∷ gs) lt =
    filter-append (is_member_of (pos p)) (member_rows (pos q) 1 g.members) (all_member_rows (q + 1) gs)
    ∙ ap (λ l. l ++ filter (is_member_of (pos p)) (all_member_rows (q + 1) gs)) (other (pos p) (pos q) 1 g.members (differ p q (λ e. omega (arith, lt, e))))
    ∙ later p (q + 1) gs (omega (arith, lt))

clerks_of : (group : ℤ) (n : ℕ) (names : List (List ℕ)) → map (λ (m : Member). m.clerk) (member_rows group n names) ≡ names
clerks_of group n [] = refl
clerks_of group n (x ∷ xs) = ap (λ l. x ∷ l) (clerks_of group (n + 1) xs)

behind : (q : ℕ) (g : Group) (gs : List Group) (before : List Member) → filter (is_member_of (pos q)) before ≡ []
    → filter (is_member_of (pos q)) (before ++ (member_rows (pos q) 1 g.members ++ all_member_rows (q + 1) gs)) ≡ member_rows (pos q) 1 g.members
behind q g gs before none =
    let p = is_member_of (pos q) in
    let mine = member_rows (pos q) 1 g.members in
    let rest = all_member_rows (q + 1) gs in
    filter-append p before (mine ++ rest) ∙ ap (λ l. l ++ filter p (mine ++ rest)) none ∙ filter-append p mine rest
    ∙ ap (λ l. l ++ filter p rest) (own (pos q) 1 g.members) ∙ ap (λ l. mine ++ l) (later q (q + 1) gs (omega arith)) ∙ append-nil mine

told : (q : ℕ) (gs : List Group) (before : List Member) → ((p : ℕ) → q ≤ p → filter (is_member_of (pos p)) before ≡ []) → map (group_in (before ++ all_member_rows q gs)) (group_rows q gs) ≡ gs
told q [] before none = refl
told q (g ∷ gs) before none =
    let mine = member_rows (pos q) 1 g.members in
    let names = ap (map (λ (m : Member). m.clerk)) (behind q g gs before (none q (omega arith))) ∙ clerks_of (pos q) 1 g.members in
    let head : group_in (before ++ (mine ++ all_member_rows (q + 1) gs)) (group_row (pos q) g) ≡ g = λ i. let made : Group = record { name = g.name; members = names i } in made in
    let rest = ap (λ l. map (group_in l) (group_rows (q + 1) gs)) (sym (append_assoc before mine (all_member_rows (q + 1) gs)))
    ∙ told (q + 1) gs (before ++ mine)
    (λ p low. filter-append (is_member_of (pos p)) before mine ∙ ap (λ l. l ++ filter (is_member_of (pos p)) mine) (none p (omega (arith, low)))
    ∙ other (pos p) (pos q) 1 g.members (differ p q (λ e. omega (arith, low, e)))) in
    λ i. head i ∷ rest i

pub groups_told : (gs : List Group) → map (group_in (all_member_rows 1 gs)) (group_rows 1 gs) ≡ gs
groups_told gs = told 1 gs [] (λ p low. refl)

-- ---- places

pub place_next : (place : ℤ) (i : ℕ) → place ≡ pos i → i < 1000 → to_z w64 (of_z w64 (place +ℤ pos 1)) ≡ pos (i + 1)
place_next place i e low = ap (λ z. to_z w64 (of_z w64 (z +ℤ pos 1))) e ∙ to_z-of_z (let f : SFits w64 (pos (i + 1)) = record { sfits = omega (arith, low) } in f)

length_taken : {A : Type 0} (xs : List A) (i : ℕ) → i ≤ length xs → length (take i xs) ≡ i
length_taken xs zero low = refl
length_taken [] (suc i) low = absurd (omega (arith, low))
length_taken (x ∷ xs) (suc i) low = ap suc (length_taken xs i (omega (arith, low)))

pub place_at : {A : Type 0} (xs : List A) (i : ℕ) → i < length xs → pos (i + 1) ≡ pos (1 + length (take i xs))
place_at xs i lt = let e = length_taken xs i (omega (arith, lt)) in ap pos (omega (arith, e))

-- ---- members that come

members_more : (group : ℤ) (n : ℕ) (xs : List (List ℕ)) (x : List ℕ)
    → member_rows group n (xs ++ x ∷ []) ≡ member_rows group n xs ++ record { group = group; place = pos (n + length xs); clerk = x } ∷ []
members_more group n [] x = ap (λ m. record { group = group; place = pos m; clerk = x } ∷ []) (let e : n ≡ n + 0 = omega arith in e)
members_more group n (y ∷ ys) x =
    ap (λ l. let m : Member = record { group = group; place = pos n; clerk = y } in m ∷ l)
    (members_more group (n + 1) ys x
    ∙ ap (λ m. member_rows group (n + 1) ys ++ record { group = group; place = pos m; clerk = x } ∷ []) (let e : (n + 1) + length ys ≡ n + suc (length ys) = omega arith in e))

pub no_members : (group : ℤ) (rows : Rows) → AddsMembers group [] rows rows
no_members group rows = ap (λ (l : List Member). let x : Rows = record rows { members = l } in x) (sym (append-nil rows.members))

pub member_more : (group : ℤ) (xs : List (List ℕ)) (x : List ℕ) (place : ℤ) (old mid new : Rows) → place ≡ pos (1 + length xs) → AddsMembers group xs old mid
    → changes.AddsMember (record { group = group; place = place; clerk = x }) mid new → AddsMembers group (xs ++ x ∷ []) old new
member_more group xs x place old mid new at a b =
    b ∙ ap (λ (r : Rows). let y : Rows = record r { members = r.members ++ record { group = group; place = place; clerk = x } ∷ [] } in y) a
    ∙ ap (λ (l : List Member). let y : Rows = record old { members = l } in y)
    (append_assoc old.members (member_rows group 1 xs) (record { group = group; place = place; clerk = x } ∷ [])
    ∙ ap (λ l. old.members ++ l) (ap (λ (p : ℤ). member_rows group 1 xs ++ record { group = group; place = p; clerk = x } ∷ []) at ∙ sym (members_more group 1 xs x)))

-- ---- groups that come

next_of : (place : ℕ) (last : ℤ) (gs : List Group) → last ≡ pos place → fold (λ _ (g : row.Group). g.place +ℤ pos 1) last (group_rows place gs) ≡ pos (place + length gs)
next_of place last [] e = e ∙ ap pos (let h : place ≡ place + 0 = omega arith in h)
next_of place last (g ∷ gs) e = next_of (place + 1) (pos place +ℤ pos 1) gs refl ∙ ap pos (let h : (place + 1) + length gs ≡ place + suc (length gs) = omega arith in h)

next_is : (gs : List Group) → changes.next_group (group_rows 1 gs) ≡ pos (1 + length gs)
next_is gs = next_of 1 (pos 1) gs refl

groups_more : (n : ℕ) (gs : List Group) (g : Group) → group_rows n (gs ++ g ∷ []) ≡ group_rows n gs ++ group_row (pos (n + length gs)) g ∷ []
groups_more n [] g = ap (λ m. group_row (pos m) g ∷ []) (let e : n ≡ n + 0 = omega arith in e)
groups_more n (h ∷ hs) g = ap (λ l. group_row (pos n) h ∷ l)
    (groups_more (n + 1) hs g ∙ ap (λ m. group_rows (n + 1) hs ++ group_row (pos m) g ∷ []) (let e : (n + 1) + length hs ≡ n + suc (length hs) = omega arith in e))

all_more : (n : ℕ) (gs : List Group) (g : Group) → all_member_rows n (gs ++ g ∷ []) ≡ all_member_rows n gs ++ member_rows (pos (n + length gs)) 1 g.members
all_more n [] g = append-nil (member_rows (pos n) 1 g.members) ∙ ap (λ m. member_rows (pos m) 1 g.members) (let e : n ≡ n + 0 = omega arith in e)
all_more n (h ∷ hs) g =
    ap (λ l. member_rows (pos n) 1 h.members ++ l)
    (all_more (n + 1) hs g ∙ ap (λ m. all_member_rows (n + 1) hs ++ member_rows (pos m) 1 g.members) (let e : (n + 1) + length hs ≡ n + suc (length hs) = omega arith in e))
    ∙ sym (append_assoc (member_rows (pos n) 1 h.members) (all_member_rows (n + 1) hs) (member_rows (pos (n + suc (length hs))) 1 g.members))

-- a group and its members
pub group_added : (place : ℤ) (g : Group) (old mid new : Rows) → changes.AddsGroup g.name old mid → AddsMembers place g.members mid new → AddsGroup place g old new
group_added place g old mid new a b next =
    b ∙ ap (λ (r : Rows). let y : Rows = record r { members = r.members ++ member_rows place 1 g.members } in y) a
    ∙ ap (λ (p : ℤ). let y : Rows = record old { groups = old.groups ++ group_row p g ∷ []; members = old.members ++ member_rows place 1 g.members } in y) next

pub no_group : (rows : Rows) → AddsGroups [] rows rows
no_group rows none = λ i. let y : Rows = record rows { groups = none i; members = sym (append-nil rows.members) i } in y

pub group_more : (gs : List Group) (g : Group) (place : ℤ) (old mid new : Rows) → place ≡ pos (1 + length gs) → AddsGroups gs old mid → AddsGroup place g mid new → AddsGroups (gs ++ g ∷ []) old new
group_more gs g place old mid new at a b none =
    let was = a none in
    let next : changes.next_group mid.groups ≡ place = ap (λ (r : Rows). changes.next_group r.groups) was ∙ next_is gs ∙ sym at in
    b next ∙ ap (λ (r : Rows). let y : Rows = record r { groups = r.groups ++ group_row place g ∷ []; members = r.members ++ member_rows place 1 g.members } in y) was
    ∙ ap (λ (p : ℤ). let y : Rows = record old { groups = group_rows 1 gs ++ group_row p g ∷ []; members = (old.members ++ all_member_rows 1 gs) ++ member_rows p 1 g.members } in y) at
    ∙ (λ i. let y : Rows = record old {
      groups = sym
          (groups_more 1 gs g) i;
      members = (append_assoc old.members (all_member_rows 1 gs) (member_rows (pos (1 + length gs)) 1 g.members) ∙ ap (λ l. old.members ++ l) (sym (all_more 1 gs g))) i;
    } in y)

pub groups_set : (gs : List Group) (old mid new : Rows) → changes.ClearsGroups old mid → AddsGroups gs mid new → SetsGroups gs old new
groups_set gs old mid new cleared a =
    a (ap (λ (r : Rows). r.groups) cleared) ∙ ap (λ (r : Rows). let y : Rows = record r { groups = group_rows 1 gs; members = r.members ++ all_member_rows 1 gs } in y) cleared

-- ---- reading

taken : (group : ℤ) (rows : List Member) (i : ℕ) (row : Member) → i < length rows → row ≡ get_or rows i row
    → member_names group (take (i + 1) rows) ≡ member_names group (take i rows) ++ member_names group (row ∷ [])
taken group rows i row lt is =
    ap (member_names group) (take_next rows i row lt is) ∙ ap (map (λ (m : Member). m.clerk)) (filter-append (is_member_of group) (take i rows) (row ∷ []))
    ∙ map-append (λ (m : Member). m.clerk) (filter (is_member_of group) (take i rows)) (filter (is_member_of group) (row ∷ []))

pub name_taken : (group : ℤ) (rows : List Member) (i : ℕ) (row : Member) → i < length rows → row ≡ get_or rows i row → same_int row.group group ≡ true
    → member_names group (take (i + 1) rows) ≡ member_names group (take i rows) ++ row.clerk ∷ []
name_taken group rows i row lt is e = taken group rows i row lt is ∙ ap (λ b. member_names group (take i rows) ++ map (λ (m : Member). m.clerk) (cond b (row ∷ []) [])) e

pub name_passed : (group : ℤ) (rows : List Member) (i : ℕ) (row : Member) → i < length rows → row ≡ get_or rows i row → same_int row.group group ≡ false
    → member_names group (take (i + 1) rows) ≡ member_names group (take i rows)
name_passed group rows i row lt is e = taken group rows i row lt is
    ∙ ap (λ b. member_names group (take i rows) ++ map (λ (m : Member). m.clerk) (cond b (row ∷ []) [])) e ∙ append-nil (member_names group (take i rows))

-- an element at a place is in the list
at_in : {A : Type 0} (xs : List A) (i : ℕ) (x d : A) → i < length xs → x ≡ get_or xs i d → In x xs
at_in [] i x d lt is = absurd (omega (arith, lt))
at_in (y ∷ ys) zero x d lt is = inl is
at_in (y ∷ ys) (suc i) x d lt is = inr (at_in ys i x d (omega (arith, lt)) is)

pub name_at : (group : ℤ) (rows : List Member) (i : ℕ) (row : Member) → i < length rows → row ≡ get_or rows i row → same_int row.group group ≡ true
    → list_all is_name (member_names group rows) ≡ true → is_name row.clerk ≡ true
name_at group rows i row lt is e all =
    all_in is_name (member_names group rows) row.clerk all
    (map_in (λ (m : Member). m.clerk) (filter (is_member_of group) rows) row (filter_in (is_member_of group) rows row (at_in rows i row row lt is) e))

pub group_at : (members : List Member) (rows : List row.Group) (i : ℕ) (r : row.Group) → i < length rows → r ≡ get_or rows i r → list_all is_named_group (map (group_in members) rows) ≡ true
    → is_named_group (group_in members r) ≡ true
group_at members rows i r lt is all = all_in is_named_group (map (group_in members) rows) (group_in members r) all (map_in (group_in members) rows r (at_in rows i r r lt is))

-- ---- names that were read

-- a text that was read as a name has its form
pub name_form : (text name : List ℕ) → name_of text ≡ Some name → is_name name ≡ true
name_form text name e = at (is_name text) refl e
  where
    at : (b : Bool) → is_name text ≡ b → cond b (Some text) None ≡ Some name → is_name name ≡ true
    at true f e = let is : text ≡ name = cc in ap is_name (sym is) ∙ f
    at false f e = absurd (cc)
