-- Sheets as the octets of a text.
use Rattle.std.proofs.Common.{◌≡◌, ◌⊎◌, inl, inr, ℕ, zero, suc, ◌+◌, ◌*◌, ◌-◌, ◌/◌, ◌%◌, ◌<◌, ◌≤◌, ◌^◌, min, ℤ, pos, negsuc, Bool, true, false, not, List, [], ◌∷◌, length, take}
use Rattle.std.proofs.Common.{drop, map, filter, Option, Some, None, is_lt, is_ge, int_cmp, refl, sym, ap, subst, ◌∙◌, arith, ⊎_elim, true≢false, length-take, length-drop}
use Rattle.std.proofs.lemmas.List.{take-take, drop-drop, drop-take}
use Rattle.std.specs.Prelude.{◌&&◌, ◌||◌, ◌==◌, nat_lt, flat_map, unwrap_or, is_some}
use Rattle.std.specs.Option.{option_map}
use Rattle.std.specs.List.{find, list_any, range_with_len, AllByRecursion}
use Rattle.std.proofs.lemmas.Bool.Decides.{nat_tests}
use Rattle.std.proofs.lemmas.Int.{ints}
use Rattle.std.proofs.lemmas.Bool.{cases_Bool, cases_lt, and_parts}
use Rattle.std.proofs.lemmas.Grind.{div_ceil_times}
use Rattle.std.proofs.lemmas.List.Concat.{flat_map-cons}
use Rattle.std.proofs.lemmas.List.Folds.{list_any-append}
use Rattle.std.proofs.lemmas.List.Sorted.{list_any-IsPermutation}
use Rattle.sqlite_trees.proofs.ListLemmas.{all-permutation, all-flat_map}
use Rattle.sqlite_keyed.proofs.SliceLemmas.{any_is_found}
use Rattle.policy.specs.Policy.{are_distinct}
use Rattle.vault.specs.declared.record.Keyed.{Keyed}
use Rattle.vault.specs.Changes.{Contents, IsPage}
use Rattle.vault.specs.Calls.{text_under}
use Rattle.vault.proofs.ListLemmas.{In, all_in, find-filter}
use Rattle.mailsql.specs.declared.rows.Sheet.{Sheet}
use Rattle.mailsql.specs.Columns.{Rows}
use Rattle.mailsql.specs.Rows.{is_sheet, is_sheet_between, same_int}
use Rattle.mailsql.specs.Sheets.{sheet_count, sheets_of, sheet_at, octets_at, IsCut}
use Rattle.mailsql.proofs.CutLemmas.{sheets_are_the_text}
use Rattle.sqlvault.specs.Keeps.{Keeps, row_key, message_sheets}
use Rattle.sqlvault.specs.Pages.{is_at, octets_from}
use Rattle.sqlvault.proofs.CopyLemmas.{IsPart, parts_are}
use Rattle.sqlvault.proofs.RemoveLemmas.{num_same, num_itself, key_told, only_one}
use Rattle.sqlvault.proofs.SmallLemmas.{int_same, nat_lt-true}

-- ---- the message under a key

find_it : (ms : List Keyed) (x : Keyed) (key : ℕ) → are_distinct (λ (a b : Keyed). a.key == b.key) ms ≡ true → In x ms → x.key ≡ key → find (λ (y : Keyed). y.key == key) ms ≡ Some x
find_it [] x key apart i is = absurd i
find_it (m ∷ ms) x key apart i is =
    let r = and_parts (not (list_any (λ (b : Keyed). m.key == b.key) ms)) (are_distinct (λ (a b : Keyed). a.key == b.key) ms) apart in
    ⊎_elim
    (λ (t : (m.key == key) ≡ true). rw t (ap Some (only_one (m ∷ ms) m x apart (inl refl) i (num_same m.key key t ∙ sym is))))
    (λ (f : (m.key == key) ≡ false). rw f (⊎_elim
    (λ (e : x ≡ m). absurd (true≢false (sym (num_itself key) ∙ ap (λ n. n == key) (sym is ∙ ap (λ (y : Keyed). y.key) e) ∙ f)))
    (λ k. find_it ms x key r.1 k is) i))
    (cases_Bool (m.key == key))

pub text_is : (ms : List Keyed) (x : Keyed) (key : ℕ) → are_distinct (λ (a b : Keyed). a.key == b.key) ms ≡ true → In x ms → x.key ≡ key → text_under key ms ≡ x.message.text
text_is ms x key apart i is = ap (λ o. unwrap_or (option_map (λ (y : Keyed). y.message.text) o) []) (find_it ms x key apart i is)

-- a text that isn't empty is that of a message
has_message : (ms : List Keyed) (key : ℕ) → 0 < length (text_under key ms) → (x : Keyed) × In x ms × (x.key ≡ key) × (text_under key ms ≡ x.message.text)
has_message [] key some = absurd (omega (arith, some))
has_message (m ∷ ms) key some = ⊎_elim
    (λ (t : (m.key == key) ≡ true). (m, inl refl, num_same m.key key t, rw t refl))
    (λ (f : (m.key == key) ≡ false). let r = has_message ms key (rw f at some) in (r.0, inr r.1, r.2, rw f r.3))
    (cases_Bool (m.key == key))

-- ---- what is found

found_in : {X : Type 0} (P : X → Type 0) (p : X → Bool) (xs : List X) (x : X) → AllByRecursion P xs → Some x ≡ find p xs → P x × (p x ≡ true)
found_in P p [] x all e = absurd (true≢false (ap is_some e))
found_in P p (y ∷ ys) x all e = ⊎_elim
    (λ (t : p y ≡ true). let same : x ≡ y = ap (λ o. unwrap_or o x) (rw t at e) in (subst P (sym same) all.0, ap p same ∙ t))
    (λ (f : p y ≡ false). found_in P p ys x all.1 (rw f at e))
    (cases_Bool (p y))

all_here : {X : Type 0} (P : X → Type 0) (xs : List X) → ((x : X) → In x xs → P x) → AllByRecursion P xs
all_here P [] h = tt
all_here P (x ∷ xs) h = (h x (inl refl), all_here P xs (λ y i. h y (inr i)))

all_ranged : {X : Type 0} (P : X → Type 0) (f : ℕ → X) (a n : ℕ) → ((k : ℕ) → P (f k)) → AllByRecursion P (map f (range_with_len a n))
all_ranged P f a zero h = tt
all_ranged P f a (suc n) h = (h a, all_ranged P f (a + 1) n h)

any_joined : {X Y : Type 0} (f : X → List Y) (p : Y → Bool) (xs : List X) (x : X) → In x xs → list_any p (f x) ≡ true → list_any p (flat_map f xs) ≡ true
any_joined f p [] x i h = absurd i
any_joined f p (y ∷ ys) x i h = rw (flat_map-cons f y ys, list_any-append p (f y) (flat_map f ys))
    (⊎_elim (λ (e : x ≡ y). rw (sym (ap f e), h) refl) (λ k. rw (any_joined f p ys x k h) (last_true (list_any p (f y)))) i)
  where
    last_true : (b : Bool) → (b || true) ≡ true
    last_true true = refl
    last_true false = refl

-- ---- the sheet of a text at a place

-- how far the sheets of a text reach
ends : (text : List ℕ) → (length text ≤ sheet_count text * 4096) × (sheet_count text * 4096 < length text + 4096)
ends text = div_ceil_times (length text) 4096 (omega arith)

module _ (key place : ℕ) (rows : Rows) (c : Contents) (fits : key < 2 ^ 64) (keeps : Keeps rows c) where
  low_keys : (x : Keyed) → In x c.messages → x.key < 2 ^ 64
  low_keys x i = nat_lt-true x.key (2 ^ 64) (all_in (λ (y : Keyed). nat_lt y.key (2 ^ 64)) c.messages x keeps.keys i)

  sheet_there : (x : Keyed) (n : ℕ) → In x c.messages → is_sheet (row_key key) (pos place) (sheet_at (row_key x.key) x.message.text n) ≡ true
      → octets_at x.message.text n ≡ octets_at (text_under key c.messages) place
  sheet_there x n i is =
      let both = and_parts (same_int (row_key x.key) (row_key key)) (same_int (pos n) (pos place)) is in
      let same : x.key ≡ key = sym (num_same key x.key (sym (key_told x.key key (low_keys x i) fits) ∙ both.0)) in
      let at : n ≡ place = ap number (int_same (pos n) (pos place) both.1) in
      rw (at, text_is c.messages x key keeps.sound.keys i same) refl
    where
      number : ℤ → ℕ
      number z = elim z [ pos m ↦ m | negsuc m ↦ m ]

  pub sheet_read : (s : Sheet) → Some s ≡ find (is_sheet (row_key key) (pos place)) rows.sheets → s.octets ≡ octets_at (text_under key c.messages) place
  sheet_read s found =
      let p = is_sheet (row_key key) (pos place) in
      let there : Sheet → Type 0 = λ t. p t ≡ true → t.octets ≡ octets_at (text_under key c.messages) place in
      let all : AllByRecursion there (flat_map message_sheets c.messages) = all-flat_map there message_sheets c.messages
      (all_here (λ x. AllByRecursion there (message_sheets x)) c.messages
      (λ x i. all_ranged there (sheet_at (row_key x.key) x.message.text) 0 (sheet_count x.message.text) (λ n. sheet_there x n i))) in
      let r = found_in there p rows.sheets s (all-permutation there (flat_map message_sheets c.messages) rows.sheets keeps.sheets all) found in
      r.0 r.1

  pub no_sheet : None ≡ find (is_sheet (row_key key) (pos place)) rows.sheets → sheet_count (text_under key c.messages) ≤ place
  no_sheet none = go (cases_lt place (sheet_count (text_under key c.messages)))
    where
      clash : place < sheet_count (text_under key c.messages) → ⊥
      clash there =
          let p = is_sheet (row_key key) (pos place) in
          let some : 0 < length (text_under key c.messages) = omega (arith, there, ends (text_under key c.messages)) in
          let x = has_message c.messages key some in
          let cut : IsCut (row_key key) (text_under key c.messages) = sheets_are_the_text (row_key key) (text_under key c.messages) in
          let one : list_any p (sheets_of (row_key key) (text_under key c.messages)) ≡ true = any_is_found p (sheets_of (row_key key) (text_under key c.messages))
          ∙ ap is_some (cut.are_found place there) in
          let here : list_any p (message_sheets x.0) ≡ true = rw (x.2, sym x.3) one in
          true≢false (sym (any_joined message_sheets p c.messages x.0 x.1 here)
          ∙ list_any-IsPermutation p (flat_map message_sheets c.messages) rows.sheets keeps.sheets ∙ any_is_found p rows.sheets ∙ ap is_some (sym none))

      go : (place < sheet_count (text_under key c.messages)) ⊎ (sheet_count (text_under key c.messages) ≤ place) → sheet_count (text_under key c.messages) ≤ place
      go (inl there) = absurd (clash there)
      go (inr beyond) = beyond

-- ---- the sheets of consecutive places

narrow : (m x b : Bool) → (b ≡ true → x ≡ true) → ((m && x) && b) ≡ (m && b)
narrow true x true h = rw (h refl) refl
narrow true true false h = refl
narrow true false false h = refl
narrow false x b h = refl

inside : (first place end : ℕ) → first ≤ place → place < end → (is_ge (int_cmp (pos place) (pos first)) && is_lt (int_cmp (pos place) (pos end))) ≡ true
inside first place end above below = grind (arith, ints, nat_tests)

-- a sheet between two places that is at one of them is the message's at that place
at_place : (mail : ℤ) (first place end : ℕ) → first ≤ place → place < end → (s : Sheet) → (is_sheet_between mail (pos first) (pos end) s && is_at (pos place) s) ≡ is_sheet mail (pos place) s
at_place mail first place end above below s =
    narrow (same_int s.mail mail) (is_ge (int_cmp s.place (pos first)) && is_lt (int_cmp s.place (pos end))) (same_int s.place (pos place))
    (λ t. subst (λ z. (is_ge (int_cmp z (pos first)) && is_lt (int_cmp z (pos end))) ≡ true) (sym (int_same s.place (pos place) t)) (inside first place end above below))

found_at : (mail : ℤ) (first place end : ℕ) (sheets : List Sheet) → first ≤ place → place < end
    → find (is_at (pos place)) (filter (is_sheet_between mail (pos first) (pos end)) sheets) ≡ find (is_sheet mail (pos place)) sheets
found_at mail first place end sheets above below =
    find-filter (is_sheet_between mail (pos first) (pos end)) (is_at (pos place)) sheets ∙ (λ i. find (λ s. at_place mail first place end above below s i) sheets)

module _ (key : ℕ) (rows : Rows) (c : Contents) (fits : key < 2 ^ 64) (keeps : Keeps rows c) where
  part_at : (place : ℕ) (o : Option Sheet) → o ≡ find (is_sheet (row_key key) (pos place)) rows.sheets → IsPart 4096 (text_under key c.messages) place o
  part_at place (Some s) found = sheet_read key place rows c fits keeps s found
  part_at place None none =
      let beyond = no_sheet key place rows c fits keeps none in
      omega (arith, ends (text_under key c.messages), beyond)

  pub run_read : (first end : ℕ) → first ≤ end
      → octets_from (end - first) (filter (is_sheet_between (row_key key) (pos first) (pos end)) rows.sheets) first ≡ take ((end - first) * 4096) (drop (first * 4096) (text_under key c.messages))
  run_read first end le =
      let found = filter (is_sheet_between (row_key key) (pos first) (pos end)) rows.sheets in
      parts_are 4096 first end (text_under key c.messages) found
      (λ place above below. part_at place (find (is_at (pos place)) found) (found_at (row_key key) first place end rows.sheets above below)) (end - first) first (omega arith) (omega (arith, le))

-- ---- the page

-- so many octets of a sheet, from a place in it on, are a page of the text
pub page_of : (text : List ℕ) (from start rest size n : ℕ) (octets buffer : List ℕ) → start + rest ≡ from → rest < size → octets ≡ take size (drop start text)
    → n ≡ min (length octets - rest) (length buffer) → take n buffer ≡ take n (drop rest octets) → (n ≤ length buffer) × IsPage text from (length buffer) (take n buffer)
page_of text from start rest size n octets buffer at inside octets_are count copied =
    let sum : rest + (size - rest) ≡ size = omega arith in
    let long : length octets ≡ min size (length text - start) = ap length octets_are ∙ length-take size (drop start text) ∙ ap (min size) (length-drop start text) in
    let left : drop rest octets ≡ take (size - rest) (drop from text) =
    ap (drop rest) (octets_are ∙ ap (λ k. take k (drop start text)) (sym sum)) ∙ drop-take rest (size - rest) (drop start text)
    ∙ ap (take (size - rest)) (drop-drop rest start text ∙ ap (λ k. drop k text) at) in
    let few : n ≤ size - rest = omega (arith, count, long) in
    let fits : n ≤ length buffer = omega (arith, count) in
    let read : length (take n buffer) ≡ n = length-take n buffer ∙ (let e : min n (length buffer) ≡ n = omega (arith, fits) in e) in (
      fits,
      record {
        next = rw read (copied ∙ ap (take n) left ∙ take-take n (size - rest) (drop from text) few);
        fits = rw read fits;
        goes_on = λ more room. omega (arith, more, room, read, count, long, at, inside);
      },
    )

pub pages_at : (text : List ℕ) (from n m : ℕ) (run buffer : List ℕ) → 0 < m → run ≡ take (m * 4096) (drop (from / 4096 * 4096) text)
    → n ≡ min (length run - from % 4096) (length buffer) → take n buffer ≡ take n (drop (from % 4096) run) → (n ≤ length buffer) × IsPage text from (length buffer) (take n buffer)
pages_at text from n m run buffer some = page_of text from (from / 4096 * 4096) (from % 4096) (m * 4096) n run buffer (omega arith) (omega (arith, some))
