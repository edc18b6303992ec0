-- No question is asked twice: the labels differ, so do the columns, and so do the questions over them.
use Rattle.std.proofs.lemmas.List.Kept.{AllPairs-cons}
use Rattle.std.proofs.Common.{◌≡◌, ◌≢◌, ℕ, Bool, true, false, not, ◌&&◌, List, [], ◌∷◌, ◌++◌, map, Option, Some, None, refl, sym, ap, ◌∙◌, true≢false, cond, zero, suc, arith}
use Rattle.std.specs.Prelude.{⊤}
use Rattle.std.specs.BTreeSet.{insert_key}
use Rattle.std.specs.Cmp.Lexicographic.{nat_list_cmp_total, slice_cmp}
use Rattle.std.specs.List.{All, AllPairs, filter, flat_map}
use Rattle.std.specs.Ordering.{nat_cmp, match_ordering, ordering_reverse}
use Rattle.std.specs.declared.cmp.Ordering.{Ordering}
use Rattle.std.specs.declared.cmp.Ordering.TheVariants.{Less, Equal, Greater}
use Rattle.policy.specs.Policy.{Policy}
use Rattle.review.specs.declared.choice.Choice.{Choice}
use Rattle.review.specs.declared.label.Label.{Label}
use Rattle.review.specs.declared.label.Label.TheVariants.{Named, Others}
use Rattle.review.specs.declared.question.Column.{Column}
use Rattle.review.specs.declared.question.Column.TheVariants as column
use Rattle.review.specs.declared.question.Question.{Question}
use Rattle.review.specs.Differences.{answer, becomes, differences, questions}
use Rattle.review.specs.Names.{Kept, classes_in, clerks_in, labels, maildrops_in, put_names}
use Rattle.review.specs.Questions.{columns}
use Rattle.review.specs.Review.{ToldOnce, asked_of, chosen, classes_of, clerks_of, maildrops_of}

-- ---- lists whose elements differ

abbrev Each : {X : Type 0} → (X → Type 0) → List X → Type 0
Each P [] = ⊤
Each P (x ∷ xs) = P x × Each P xs

abbrev Apart : {X : Type 0} → List X → Type 0
Apart [] = ⊤
Apart (x ∷ xs) = Each (λ y. x ≢ y) xs × Apart xs

each_all : {X : Type 0} (P : X → Type 0) (xs : List X) → Each P xs → All P xs
each_all P [] h k d within = absurd (omega arith)
each_all P (x ∷ xs) h zero d within = h.0
each_all P (x ∷ xs) h (suc k) d within = each_all P xs h.1 k d (omega arith)

apart_pairs : {X : Type 0} (xs : List X) → Apart xs → AllPairs (λ x y. x ≢ y) xs
apart_pairs [] h = λ i j d below within. absurd (omega arith)
apart_pairs (x ∷ xs) h = AllPairs-cons (λ a b. a ≢ b) x xs (each_all (λ y. x ≢ y) xs h.0) (apart_pairs xs h.1)

each_always : {X : Type 0} (P : X → Type 0) → ((x : X) → P x) → (xs : List X) → Each P xs
each_always P h [] = tt
each_always P h (x ∷ xs) = (h x, each_always P h xs)

each_more : {X : Type 0} (P Q : X → Type 0) → ((x : X) → P x → Q x) → (xs : List X) → Each P xs → Each Q xs
each_more P Q h [] e = tt
each_more P Q h (x ∷ xs) e = (h x e.0, each_more P Q h xs e.1)

each_append : {X : Type 0} (P : X → Type 0) (xs ys : List X) → Each P xs → Each P ys → Each P (xs ++ ys)
each_append P [] ys h k = k
each_append P (x ∷ xs) ys h k = (h.0, each_append P xs ys h.1 k)

each_map : {X Y : Type 0} (P : Y → Type 0) (f : X → Y) (xs : List X) → Each (λ x. P (f x)) xs → Each P (map f xs)
each_map P f [] h = tt
each_map P f (x ∷ xs) h = (h.0, each_map P f xs h.1)

each_flat : {X Y : Type 0} (P : Y → Type 0) (f : X → List Y) (xs : List X) → Each (λ x. Each P (f x)) xs → Each P (flat_map f xs)
each_flat P f [] h = tt
each_flat P f (x ∷ xs) h = each_append P (f x) (flat_map f xs) h.0 (each_flat P f xs h.1)

apart_append : {X : Type 0} (xs ys : List X) → Apart xs → Apart ys → Each (λ x. Each (λ y. x ≢ y) ys) xs → Apart (xs ++ ys)
apart_append [] ys a b c = b
apart_append (x ∷ xs) ys a b c = (each_append (λ y. x ≢ y) xs ys a.0 c.0, apart_append xs ys a.1 b c.1)

apart_map : {X Y : Type 0} (f : X → Y) → ((a b : X) → f a ≡ f b → a ≡ b) → (xs : List X) → Apart xs → Apart (map f xs)
apart_map f back [] a = tt
apart_map f back (x ∷ xs) a =
    (each_map (λ y. f x ≢ y) f xs (each_more (λ y. x ≢ y) (λ y. f x ≢ f y) (λ y apart e. apart (back x y e)) xs a.0), apart_map f back xs a.1)

-- each element tells of which part it is, so that parts of different elements differ
apart_flat : {X Y : Type 0} (f : X → List Y) (key : Y → X) → ((x : X) → Each (λ y. key y ≡ x) (f x)) → ((x : X) → Apart (f x))
    → (xs : List X) → Apart xs → Apart (flat_map f xs)
apart_flat f key own parts [] a = tt
apart_flat {X} {Y} f key own parts (x ∷ xs) a =
    apart_append (f x) (flat_map f xs) (parts x) (apart_flat f key own parts xs a.1)
    (each_more (λ y. key y ≡ x) (λ y. Each (λ z. y ≢ z) (flat_map f xs)) differs (f x) (own x))
  where
    differs : (y : Y) → key y ≡ x → Each (λ z. y ≢ z) (flat_map f xs)
    differs y is = each_flat (λ z. y ≢ z) f xs (each_more (λ w. x ≢ w) (λ w. Each (λ z. y ≢ z) (f w))
        (λ w apart. each_more (λ z. key z ≡ w) (λ z. y ≢ z) (λ z of e. apart (sym is ∙ ap key e ∙ of)) (f w) (own w)) xs a.0)

-- ---- filters

each_filter : {X : Type 0} (P : X → Type 0) (t : X → Bool) (xs : List X) → Each P xs → Each P (filter t xs)
each_filter P t [] h = tt
each_filter {X} P t (x ∷ xs) h = at (t x) (each_filter P t xs h.1)
  where
    at : (b : Bool) → Each P (filter t xs) → Each P (cond b (x ∷ filter t xs) (filter t xs))
    at true later = (h.0, later)
    at false later = later

each_passes : {X : Type 0} (t : X → Bool) (xs : List X) → Each (λ x. t x ≡ true) (filter t xs)
each_passes t [] = tt
each_passes {X} t (x ∷ xs) = at (t x) refl (each_passes t xs)
  where
    at : (b : Bool) → t x ≡ b → Each (λ y. t y ≡ true) (filter t xs) → Each (λ y. t y ≡ true) (cond b (x ∷ filter t xs) (filter t xs))
    at true e later = (e, later)
    at false e later = later

apart_filter : {X : Type 0} (t : X → Bool) (xs : List X) → Apart xs → Apart (filter t xs)
apart_filter t [] a = tt
apart_filter {X} t (x ∷ xs) a = at (t x) (apart_filter t xs a.1)
  where
    at : (b : Bool) → Apart (filter t xs) → Apart (cond b (x ∷ filter t xs) (filter t xs))
    at true later = (each_filter (λ y. x ≢ y) t xs a.0, later)
    at false later = later

-- ---- names in their order

abbrev compared : (a b : List ℕ) → Ordering
compared a b = slice_cmp nat_cmp a b

abbrev Rises : List (List ℕ) → Type 0
Rises [] = ⊤
Rises (x ∷ xs) = Each (λ y. compared x y ≡ Less) xs × Rises xs

abbrev is_less : Ordering → Bool
is_less Less = true
is_less Equal = false
is_less Greater = false

each_put : (P : List ℕ → Type 0) (k : List ℕ) (ks : List (List ℕ)) → Each P ks → P k → Each P (insert_key (slice_cmp nat_cmp) ks k)
each_put P k [] h own = (own, tt)
each_put P k (y ∷ ks) h own = at (compared k y) (each_put P k ks h.1 own)
  where
    at : (o : Ordering) → Each P (insert_key (slice_cmp nat_cmp) ks k) → Each P (match_ordering o (k ∷ y ∷ ks) (y ∷ ks) (y ∷ insert_key (slice_cmp nat_cmp) ks k))
    at Less later = (own, h)
    at Equal later = h
    at Greater later = (h.0, later)

rises_put : (k : List ℕ) (ks : List (List ℕ)) → Rises ks → Rises (insert_key (slice_cmp nat_cmp) ks k)
rises_put k [] h = (tt, tt)
rises_put k (y ∷ ks) h = at (compared k y) refl (rises_put k ks h.1)
  where
    at : (o : Ordering) → compared k y ≡ o → Rises (insert_key (slice_cmp nat_cmp) ks k)
        → Rises (match_ordering o (k ∷ y ∷ ks) (y ∷ ks) (y ∷ insert_key (slice_cmp nat_cmp) ks k))
    at Less e later =
        ((e, each_more (λ z. compared y z ≡ Less) (λ z. compared k z ≡ Less) (λ z below. nat_list_cmp_total.trans k y z e below) ks h.0), h)
    at Equal e later = h
    at Greater e later =
        let below : compared y k ≡ Less = nat_list_cmp_total.antisymm y k ∙ ap ordering_reverse e in
        (each_put (λ z. compared y z ≡ Less) k ks h.0 below, later)

rises_all : (names more : List (List ℕ)) → Rises names → Rises (put_names names more)
rises_all names [] h = h
rises_all names (x ∷ more) h = rises_all (insert_key (slice_cmp nat_cmp) names x) more (rises_put x names h)

none_below : (x : List ℕ) → compared x x ≢ Less
none_below x e = true≢false (ap is_less (sym e ∙ nat_list_cmp_total.antisymm x x ∙ ap ordering_reverse e))

rises_apart : (names : List (List ℕ)) → Rises names → Apart names
rises_apart [] h = tt
rises_apart (x ∷ names) h =
    (each_more (λ y. compared x y ≡ Less) (λ y. x ≢ y) (λ y below e. none_below x (ap (compared x) e ∙ below)) names h.0, rises_apart names h.1)

-- ---- labels and columns

abbrev is_named : Label → Bool
is_named (Named name) = true
is_named Others = false

abbrev name_back : (default : List ℕ) → Label → List ℕ
name_back default (Named name) = name
name_back default Others = default

labels_apart : (names : List (List ℕ)) → Apart (labels names)
labels_apart names =
    let all = put_names [] names in
    apart_append (map Named all) (Others ∷ []) (apart_map Named (λ a b e. ap (name_back a) e) all (rises_apart all (rises_all [] names tt))) (tt, tt)
    (each_map (λ (x : Label). Each (λ y. x ≢ y) (Others ∷ [])) Named all
    (each_always (λ (name : List ℕ). Each (λ y. Named name ≢ y) (Others ∷ [])) (λ name. (λ e. true≢false (ap is_named e), tt)) all))

chosen_apart : (one : Option (List ℕ)) (all : List Label) → Apart all → Apart (chosen one all)
chosen_apart None all a = a
chosen_apart (Some name) all a = (tt, tt)

abbrev is_open : Column → Bool
is_open column.Open = true
is_open (column.Read class) = false
is_open (column.Remove class) = false

abbrev is_read : Column → Bool
is_read column.Open = false
is_read (column.Read class) = true
is_read (column.Remove class) = false

abbrev class_in : Column → Label
class_in column.Open = Others
class_in (column.Read class) = class
class_in (column.Remove class) = class

abbrev both_of : (class : Label) → List Column
both_of class = column.Read class ∷ column.Remove class ∷ []

columns_apart : (classes : List Label) → Apart classes → Apart (columns classes)
columns_apart classes a = (
  each_flat (λ y. column.Open ≢ y) both_of classes
      (each_always (λ class. Each (λ y. column.Open ≢ y) (both_of class)) (λ class. (λ e. true≢false (ap is_open e), (λ e. true≢false (ap is_open e), tt))) classes),
  apart_flat both_of class_in (λ class. (refl, (refl, tt))) (λ class. ((λ e. true≢false (ap is_read e), tt), (tt, tt))) classes a,
)

-- ---- questions

abbrev asked_at : List Column → (clerk maildrop : Label) → List Question
asked_at asked clerk maildrop = map (λ a. record { clerk = clerk; maildrop = maildrop; asked = a }) asked

abbrev asked_by : List Label → List Column → (clerk : Label) → List Question
asked_by maildrops asked clerk = flat_map (asked_at asked clerk) maildrops

at_apart : (asked : List Column) (clerk maildrop : Label) → Apart asked → Apart (asked_at asked clerk maildrop)
at_apart asked clerk maildrop a =
    apart_map (λ x. record { clerk = clerk; maildrop = maildrop; asked = x }) (λ x y e. ap (λ (q : Question). q.asked) e) asked a

at_maildrop : (asked : List Column) (clerk maildrop : Label) → Each (λ q. q.maildrop ≡ maildrop) (asked_at asked clerk maildrop)
at_maildrop asked clerk maildrop =
    each_map (λ (q : Question). q.maildrop ≡ maildrop) (λ x. record { clerk = clerk; maildrop = maildrop; asked = x }) asked
    (each_always (λ (x : Column). maildrop ≡ maildrop) (λ x. refl) asked)

at_clerk : (asked : List Column) (clerk maildrop : Label) → Each (λ q. q.clerk ≡ clerk) (asked_at asked clerk maildrop)
at_clerk asked clerk maildrop =
    each_map (λ (q : Question). q.clerk ≡ clerk) (λ x. record { clerk = clerk; maildrop = maildrop; asked = x }) asked
    (each_always (λ (x : Column). clerk ≡ clerk) (λ x. refl) asked)

by_clerk : (maildrops : List Label) (asked : List Column) (clerk : Label) → Each (λ q. q.clerk ≡ clerk) (asked_by maildrops asked clerk)
by_clerk maildrops asked clerk =
    each_flat (λ (q : Question). q.clerk ≡ clerk) (asked_at asked clerk) maildrops
    (each_always (λ maildrop. Each (λ (q : Question). q.clerk ≡ clerk) (asked_at asked clerk maildrop)) (λ maildrop. at_clerk asked clerk maildrop) maildrops)

by_apart : (maildrops : List Label) (asked : List Column) (clerk : Label) → Apart maildrops → Apart asked → Apart (asked_by maildrops asked clerk)
by_apart maildrops asked clerk m a =
    apart_flat (asked_at asked clerk) (λ q. q.maildrop) (λ maildrop. at_maildrop asked clerk maildrop) (λ maildrop. at_apart asked clerk maildrop a) maildrops m

questions_apart : (clerks maildrops : List Label) (asked : List Column) → Apart clerks → Apart maildrops → Apart asked
    → Apart (questions clerks maildrops asked)
questions_apart clerks maildrops asked c m a =
    apart_flat (asked_by maildrops asked) (λ q. q.clerk) (λ clerk. by_clerk maildrops asked clerk) (λ clerk. by_apart maildrops asked clerk m a) clerks c

asked_apart : (choice : Choice) (old new : Policy) (kept : Kept) → Apart (asked_of choice old new kept)
asked_apart choice old new kept =
    let clerks = clerks_in old ++ clerks_in new ++ kept.clerks in
    let maildrops = maildrops_in old ++ maildrops_in new ++ kept.maildrops in
    questions_apart (clerks_of choice old new kept) (maildrops_of choice old new kept) (columns (classes_of old new))
    (chosen_apart choice.clerk (labels clerks) (labels_apart clerks)) (chosen_apart choice.maildrop (labels maildrops) (labels_apart maildrops))
    (columns_apart (classes_of old new) (labels_apart (classes_in old ++ classes_in new)))

-- ---- differences

-- what becomes allowed doesn't become denied
not_both : (was is : Bool) → (not was && is) ≡ true → (was && not is) ≢ true
not_both true is e h = true≢false (sym e)
not_both false is e h = true≢false (sym h)

differences_apart : (old new : Policy) (qs : List Question) → Apart qs → Apart (differences old new qs)
differences_apart old new qs a =
    let gained = λ (q : Question). becomes true (answer old q) (answer new q) in
    let lost = λ (q : Question). becomes false (answer old q) (answer new q) in
    apart_append (filter gained qs) (filter lost qs) (apart_filter gained qs a) (apart_filter lost qs a)
    (each_more (λ q. gained q ≡ true) (λ q. Each (λ r. q ≢ r) (filter lost qs))
    (λ q now. each_more (λ r. lost r ≡ true) (λ r. q ≢ r)
    (λ r then e. not_both ((answer old r).allowed) ((answer new r).allowed) (ap gained (sym e) ∙ now) then) (filter lost qs) (each_passes lost qs))
    (filter gained qs) (each_passes gained qs))

pub once : ToldOnce
once = record {
  asked = λ choice old new kept. apart_pairs (asked_of choice old new kept) (asked_apart choice old new kept);
  told = λ choice old new kept. apart_pairs (differences old new (asked_of choice old new kept))
      (differences_apart old new (asked_of choice old new kept) (asked_apart choice old new kept));
}
