-- The sheets of a text.
use Rattle.std.proofs.Common.{◌≡◌, ◌⊎◌, inl, inr, ℕ, zero, suc, ◌+◌, ◌*◌, ◌-◌, ◌/◌, ◌%◌, ◌<◌, ◌≤◌, min, ℤ, pos, ◌<ℤ◌, List, [], ◌∷◌, ◌++◌, length, map, take, drop, Some, Bool, true, false}
use Rattle.std.proofs.Common.{cond, refl, sym, ap, ap₂, ◌∙◌, arith, append_assoc, append-nil, length-take, length-drop, take_all, is_eq}
use Rattle.std.specs.Prelude.{◌&&◌}
use Rattle.std.proofs.lemmas.Int.{ints}
use Rattle.std.specs.declared.cmp.Ordering.TheVariants.{Less}
use Rattle.std.specs.Cmp.{int_cmp_is}
use Rattle.std.specs.List.{range_with_len, find}
use Rattle.std.proofs.Math.Seq.{take-add}
use Rattle.std.proofs.Math.Nat.{eq-or-lt_of_le}
use Rattle.std.proofs.lemmas.Bool.{cases_lt}
use Rattle.std.proofs.lemmas.List.FromFn.{map-range_with_len_more}
use Rattle.std.proofs.lemmas.Grind.{div_ceil_times}
use Rattle.mailsql.specs.Rows.{Sheet, is_sheet, same_int}
use Rattle.std.proofs.lemmas.List.{drop-take, take-take}
use Rattle.mailsql.specs.Sheets.{sheet_count, octets_at, sheet_at, first_sheets, sheets_from, sheets_of, joined, IsCut, SheetsAreTheText}
use Rattle.mailsql.proofs.EqualLemmas.{same_itself}

-- ---- the first sheets

-- one more of those from a place on
pub one_more_from : (mail : ℤ) (text : List ℕ) (from n place : ℕ) → from + n ≡ place → sheets_from from (n + 1) mail text ≡ sheets_from from n mail text ++ sheet_at mail text place ∷ []
one_more_from mail text from n place at = map-range_with_len_more (sheet_at mail text) from n place at

first_more : (mail : ℤ) (text : List ℕ) (n : ℕ) → first_sheets (n + 1) mail text ≡ first_sheets n mail text ++ sheet_at mail text n ∷ []
first_more mail text n = one_more_from mail text 0 n n (omega arith)

-- ---- joined

joined-append : (xs ys : List Sheet) → joined (xs ++ ys) ≡ joined xs ++ joined ys
joined-append [] ys = refl
joined-append (x ∷ xs) ys = ap (λ l. x.octets ++ l) (joined-append xs ys) ∙ sym (append_assoc x.octets (joined xs) (joined ys))

first_joined : (mail : ℤ) (text : List ℕ) (n : ℕ) → joined (first_sheets n mail text) ≡ take (n * 4096) text
first_joined mail text zero = refl
first_joined mail text (suc n) =
    let next : suc n ≡ n + 1 = omega arith in
    let end : n * 4096 + 4096 ≡ suc n * 4096 = omega arith in
    ap (λ k. joined (first_sheets k mail text)) next ∙ ap joined (first_more mail text n)
    ∙ joined-append (first_sheets n mail text) (sheet_at mail text n ∷ []) ∙ ap₂ (λ (a b : List ℕ). a ++ b) (first_joined mail text n) (append-nil (octets_at text n))
    ∙ sym (take-add (n * 4096) 4096 text) ∙ ap (λ k. take k text) end

-- ---- sizes

ends : (text : List ℕ) → (length text ≤ sheet_count text * 4096) × (sheet_count text * 4096 < length text + 4096)
ends text = div_ceil_times (length text) 4096 (omega arith)

size_at : (text : List ℕ) (place : ℕ) → length (octets_at text place) ≡ min 4096 (length text - place * 4096)
size_at text place = length-take 4096 (drop (place * 4096) text) ∙ ap (min 4096) (length-drop (place * 4096) text)

whole_at : (text : List ℕ) (place count : ℕ) → count * 4096 < length text + 4096 → place + 1 < count → length (octets_at text place) ≡ 4096
whole_at text place count end low = omega (arith, size_at text place)

sized_at : (text : List ℕ) (place count : ℕ) → count * 4096 < length text + 4096 → place < count → (0 < length (octets_at text place)) × (length (octets_at text place) ≤ 4096)
sized_at text place count end low = (omega (arith, size_at text place), omega (arith, size_at text place))

-- a range that ends with the text has what the next so many octets have
pub cut_short : (text : List ℕ) (start size end : ℕ) → end ≡ min (length text) (start + size) → take (end - start) (drop start text) ≡ take size (drop start text)
cut_short text start size end is = go (cases_lt (start + size) (length text))
  where
    go : (start + size < length text) ⊎ (length text ≤ start + size) → take (end - start) (drop start text) ≡ take size (drop start text)
    go (inl more) = let e : end - start ≡ size = omega arith in ap (λ k. take k (drop start text)) e
    go (inr last) = take_all (end - start) (drop start text) (omega (arith, length-drop start text)) ∙ sym (take_all size (drop start text) (omega (arith, length-drop start text)))

-- ---- places

apart : (a b : ℕ) → a < b → same_int (pos a) (pos b) ≡ false
apart a b low =
    let below : pos a <ℤ pos b = omega (arith, ints) in
    ap is_eq (sym (int_cmp_is (pos a) (pos b) Less below))

module _ {X : Type 0} (f : ℕ → X) (p : X → Bool) (place : ℕ) (here : p (f place) ≡ true) (before : (k : ℕ) → k < place → p (f k) ≡ false) where
  pub find_at : (a n : ℕ) → a ≤ place → place < a + n → find p (map f (range_with_len a n)) ≡ Some (f place)
  find_at a zero low high = absurd (omega arith)
  find_at a (suc n) low high = go (eq-or-lt_of_le low) (λ less. find_at (a + 1) n (omega arith) (omega arith))
    where
      go : (a ≡ place) ⊎ (a < place) → (a < place → find p (map f (range_with_len (a + 1) n)) ≡ Some (f place))
          → cond (p (f a)) (Some (f a)) (find p (map f (range_with_len (a + 1) n))) ≡ Some (f place)
      go (inl same) more = rw same (rw here refl)
      go (inr less) more = rw (before a less) (more less)

-- ---- all of it

cut : (mail : ℤ) (text : List ℕ) → IsCut mail text
cut mail text =
    let n = sheet_count text in
    let e = ends text in
    record {
      text_is = first_joined mail text n ∙ take_all (n * 4096) text e.0;
      are_whole = λ place low. whole_at text place n e.1 low;
      are_sized = λ place low. sized_at text place n e.1 low;
      are_found = λ place low. find_at (sheet_at mail text) (is_sheet mail (pos place)) place (ap₂ ◌&&◌ (same_itself mail) (same_itself (pos place)))
          (λ k less. ap₂ ◌&&◌ (same_itself mail) (apart k place less)) 0 n (omega arith) (omega arith);
    }

pub sheets_are_the_text : SheetsAreTheText
sheets_are_the_text = cut

-- ---- a text that begins with another, whose sheets are all whole

-- the first sheets, and those that follow them
first_then : (mail : ℤ) (text : List ℕ) (m n : ℕ) → first_sheets m mail text ++ sheets_from m n mail text ≡ first_sheets (m + n) mail text
first_then mail text m zero =
    let none : m + 0 ≡ m = omega arith in
    append-nil (first_sheets m mail text) ∙ ap (λ k. first_sheets k mail text) (sym none)
first_then mail text m (suc n) =
    let one : suc n ≡ n + 1 = omega arith in
    let end : m + n + 1 ≡ m + suc n = omega arith in
    ap (λ k. first_sheets m mail text ++ sheets_from m k mail text) one
    ∙ ap (λ l. first_sheets m mail text ++ l) (one_more_from mail text m n (m + n) refl)
    ∙ sym (append_assoc (first_sheets m mail text) (sheets_from m n mail text) (sheet_at mail text (m + n) ∷ []))
    ∙ ap (λ l. l ++ sheet_at mail text (m + n) ∷ []) (first_then mail text m n)
    ∙ sym (first_more mail text (m + n)) ∙ ap (λ k. first_sheets k mail text) end

module _ (mail : ℤ) (put text : List ℕ) (m : ℕ) (long : length put ≡ m * 4096) (begins : take (length put) text ≡ put) where
  same_octets : (place : ℕ) → place < m → octets_at put place ≡ octets_at text place
  same_octets place low =
      let size : length put ≡ place * 4096 + (m * 4096 - place * 4096) = omega (arith, long) in
      ap (λ l. octets_at l place) (sym begins) ∙ ap (λ k. octets_at (take k text) place) size
      ∙ ap (take 4096) (drop-take (place * 4096) (m * 4096 - place * 4096) text)
      ∙ take-take 4096 (m * 4096 - place * 4096) (drop (place * 4096) text) (omega arith)

  same_first : (n : ℕ) → n ≤ m → first_sheets n mail put ≡ first_sheets n mail text
  same_first zero low = refl
  same_first (suc n) low =
      let one : suc n ≡ n + 1 = omega arith in
      ap (λ k. first_sheets k mail put) one ∙ first_more mail put n
      ∙ ap₂ (λ (a b : List Sheet). a ++ b) (same_first n (omega (arith, low)))
      (ap (λ (l : List ℕ). let s : Sheet = record { mail = mail; place = pos n; octets = l } in s ∷ []) (same_octets n (omega (arith, low))))
      ∙ sym (first_more mail text n) ∙ ap (λ k. first_sheets k mail text) (sym one)

  -- its sheets are those of the text that it begins with, and the rest
  rest_of : sheets_of mail put ++ sheets_from m (sheet_count text - m) mail text ≡ sheets_of mail text
  rest_of =
      let count : sheet_count put ≡ m = omega (arith, ends put, long) in
      let fits : length put ≤ length text = omega (arith, sym (length-take (length put) text) ∙ ap length begins) in
      let all : m + (sheet_count text - m) ≡ sheet_count text = omega (arith, ends text, long) in
      ap (λ k. first_sheets k mail put ++ sheets_from m (sheet_count text - m) mail text) count
      ∙ ap (λ l. l ++ sheets_from m (sheet_count text - m) mail text) (same_first m (omega arith))
      ∙ first_then mail text m (sheet_count text - m) ∙ ap (λ k. first_sheets k mail text) all

-- the same, if the number of its sheets is read off its length
pub rest_of_text : (mail : ℤ) (put text : List ℕ) → length put % 4096 ≡ 0 → take (length put) text ≡ put
    → sheets_of mail put ++ sheets_from (length put / 4096) (sheet_count text - length put / 4096) mail text ≡ sheets_of mail text
rest_of_text mail put text whole begins =
    let long : length put ≡ length put / 4096 * 4096 = omega (arith, whole) in
    rest_of mail put text (length put / 4096) long begins
