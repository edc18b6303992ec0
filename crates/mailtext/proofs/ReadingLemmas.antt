-- What a client reads of stuffed lines.
use Rattle.std.proofs.Common.{◌≡◌, ℕ, ◌+◌, ◌-◌, ◌<◌, ◌≤◌, List, [], ◌∷◌, ◌++◌, true, false, map, length, take, drop, get_or, refl, sym, ◌∙◌, ap, arith, append_assoc, append-nil}
use Rattle.std.proofs.Common.{add_assoc, subst, eqb, ⊎_elim, Option, Some, None}
use Rattle.std.proofs.lemmas.List.{length-append, map-append, take_at, drop_more, drop-drop, take-append-drop, length-take, length-drop}
use Rattle.std.proofs.lemmas.Bool.{cases_Bool, and_right}
use Rattle.std.specs.Prelude.{codes}
use Rattle.std.specs.Str.{bytes_eq}
use Rattle.mailtext.specs.Text.{line_end, lines_of, kept_form, stuffed, stuffed_lines, dot_line, without_return, without_dot, pieces, onto_read, read_lines, with_ends, unstuffed}
use Rattle.mailtext.proofs.LineLemmas.{Unbroken, Unbroken-push, AreLines, AreLines-lines_of, lines_of-piece, without_return-push}

-- ---- pieces

-- a piece that LF ends
pub pieces-piece : (p rest : List ℕ) → Unbroken p → pieces (p ++ 10 ∷ rest) ≡ p ∷ pieces rest
pieces-piece [] rest h = refl
pieces-piece (b ∷ bs) rest h = rw (h.0, pieces-piece bs rest h.1) refl

-- a piece that has no end
pub pieces-unended : (p : List ℕ) → Unbroken p → pieces p ≡ []
pieces-unended [] h = refl
pieces-unended (b ∷ bs) h = rw (h.0, pieces-unended bs h.1) refl

-- three octets or more are no dot, with or without a CR
pub is_dot_long : (p : List ℕ) → 3 ≤ length p → bytes_eq (without_return p) (codes ".") ≡ false
is_dot_long [] h = absurd (omega arith)
is_dot_long (a ∷ []) h = absurd (omega arith)
is_dot_long (a ∷ b ∷ []) h = absurd (omega arith)
is_dot_long (a ∷ b ∷ c ∷ p) h = and_right (eqb a 46) false refl

-- ---- a reader that has come past some lines

-- lines, and the octets that were read for them, before what was read after them
abbrev joined_read : List (List ℕ) → ℕ → Option (List (List ℕ) × ℕ) → Option (List (List ℕ) × ℕ)
joined_read ls n None = None
joined_read ls n (Some (ms, m)) = Some (ls ++ ms, n + m)

joined_read-more : (ls : List (List ℕ)) (l : List ℕ) (n k : ℕ) (o : Option (List (List ℕ) × ℕ)) → joined_read ls n (onto_read l k o) ≡ joined_read (ls ++ l ∷ []) (n + k) o
joined_read-more ls l n k None = refl
joined_read-more ls l n k (Some (ms, m)) = simp (append_assoc, add_assoc)

-- no line before the rest is a dot, and the lines of what was read go before those of any rest
pub record HasRead (octets front rest : List ℕ) : Type 0 where
  pub lines : (more : List ℕ) → lines_of (front ++ more) ≡ lines_of front ++ lines_of more
  pub read : read_lines (pieces octets) ≡ joined_read (map without_dot (lines_of front)) (length front) (read_lines (pieces rest))

pub HasRead-more : (octets front p rest : List ℕ) → HasRead octets front (p ++ 10 ∷ rest) → Unbroken p → bytes_eq (without_return p) (codes ".") ≡ false
    → HasRead octets (front ++ (p ++ 10 ∷ [])) rest
HasRead-more octets front p rest h u e =
    let line = without_return p in
    let lines = lines_of front in
    let w : lines_of (front ++ (p ++ 10 ∷ [])) ≡ lines ++ line ∷ [] = h.lines (p ++ 10 ∷ []) ∙ ap (λ ls. lines ++ ls) (lines_of-piece p [] u) in
    let n : length (front ++ (p ++ 10 ∷ [])) ≡ length front + (length p + 1) = omega (arith, length-append front (p ++ 10 ∷ []), length-append p (10 ∷ [])) in
    record {
      lines = λ more.
          let joined : (front ++ (p ++ 10 ∷ [])) ++ more ≡ front ++ (p ++ 10 ∷ more) = simp append_assoc in
          ap lines_of joined ∙ (h.lines (p ++ 10 ∷ more) ∙ (ap (λ ls. lines ++ ls) (lines_of-piece p more u)
          ∙ sym (ap (λ ls. ls ++ lines_of more) w ∙ append_assoc lines (line ∷ []) (lines_of more))));
      read =
          h.read ∙ rw (pieces-piece p rest u, e, w, n, map-append without_dot lines (line ∷ []))
          (joined_read-more (map without_dot lines) (without_dot line) (length front) (length p + 1) (read_lines (pieces rest)));
    }

pub HasRead-found : (octets front p rest : List ℕ) → HasRead octets front (p ++ 10 ∷ rest) → Unbroken p → bytes_eq (without_return p) (codes ".") ≡ true
    → read_lines (pieces octets) ≡ Some (map without_dot (lines_of front), length front + (length p + 1))
HasRead-found octets front p rest h u e =
    h.read ∙ rw (pieces-piece p rest u, e, append-nil (map without_dot (lines_of front))) refl

pub HasRead-end : (octets front p : List ℕ) → HasRead octets front p → Unbroken p → read_lines (pieces octets) ≡ None
HasRead-end octets front p h u = h.read ∙ rw (pieces-unended p u) refl

-- ---- stuffed lines

without_dot-stuffed : (l : List ℕ) → without_dot (stuffed l) ≡ l
without_dot-stuffed [] = refl
without_dot-stuffed (b ∷ bs) =
    ⊎_elim (λ (e : eqb b 46 ≡ true). rw e refl) (λ (e : eqb b 46 ≡ false). rw (e, e) refl) (cases_Bool (eqb b 46))

-- a stuffed line is no dot
is_dot-stuffed : (l : List ℕ) → bytes_eq (stuffed l) (codes ".") ≡ false
is_dot-stuffed [] = refl
is_dot-stuffed (b ∷ bs) =
    ⊎_elim (λ (e : eqb b 46 ≡ true). rw e refl) (λ (e : eqb b 46 ≡ false). rw (e, e) refl) (cases_Bool (eqb b 46))

Unbroken-stuffed : (l : List ℕ) → Unbroken l → Unbroken (stuffed l)
Unbroken-stuffed [] h = tt
Unbroken-stuffed (b ∷ bs) h =
    ⊎_elim (λ (e : eqb b 46 ≡ true). rw e (refl, h)) (λ (e : eqb b 46 ≡ false). rw e h) (cases_Bool (eqb b 46))

read_lines-stuffed : (ls : List (List ℕ)) (rest : List ℕ) → AreLines ls
    → read_lines (pieces (stuffed_lines ls ++ (dot_line ++ rest))) ≡ Some (ls, length (stuffed_lines ls) + 3)
read_lines-stuffed [] rest h = refl
read_lines-stuffed (l ∷ ls) rest h =
    let behind = stuffed_lines ls ++ (dot_line ++ rest) in
    let joined : stuffed_lines (l ∷ ls) ++ (dot_line ++ rest) ≡ (stuffed l ++ 13 ∷ []) ++ 10 ∷ behind = simp append_assoc in
    let first = pieces-piece (stuffed l ++ 13 ∷ []) behind (Unbroken-push (stuffed l) 13 (Unbroken-stuffed l h.0) refl) in
    let n : length (stuffed l ++ 13 ∷ []) + 1 + (length (stuffed_lines ls) + 3) ≡ length (stuffed_lines (l ∷ ls)) + 3 =
    omega (arith, length-append (stuffed l) (13 ∷ []), length-append (stuffed l ++ line_end) (stuffed_lines ls), length-append (stuffed l) line_end) in
    ap read_lines (ap pieces joined ∙ first)
    ∙ rw (without_return-push (stuffed l), is_dot-stuffed l, without_dot-stuffed l, read_lines-stuffed ls rest h.1) (ap (λ k. Some (l ∷ ls, k)) n)

-- a client reads the lines that were stuffed, whatever follows the dot's line
pub unstuffed-stuffed : (text rest : List ℕ) → unstuffed (stuffed_lines (lines_of text) ++ dot_line ++ rest) ≡ Some (kept_form text, length (stuffed_lines (lines_of text) ++ dot_line))
unstuffed-stuffed text rest =
    let lines = lines_of text in
    let n : length (stuffed_lines lines) + 3 ≡ length (stuffed_lines lines ++ dot_line) = omega (arith, length-append (stuffed_lines lines) dot_line) in
    ap unstuffed (append_assoc (stuffed_lines lines) dot_line rest)
    ∙ (ap with_ends (read_lines-stuffed lines rest (AreLines-lines_of text)) ∙ ap (λ k. Some (kept_form text, k)) n)

-- ---- where a loop over the octets has come

at_newline : (octets : List ℕ) (start i : ℕ) → start ≤ i → i < length octets → get_or octets i 0 ≡ 10
    → drop start octets ≡ take (i - start) (drop start octets) ++ 10 ∷ drop (i + 1) octets
at_newline octets start i le lt e =
    let from_start : start + (i - start) ≡ i = omega arith in
    sym (take-append-drop (i - start) (drop start octets))
    ∙ ap (λ rest. take (i - start) (drop start octets) ++ rest) (drop-drop (i - start) start octets ∙ rw (from_start, drop_more octets i 0 lt, e) refl)

front_more : (octets : List ℕ) (start i : ℕ) → start ≤ i → i < length octets → get_or octets i 0 ≡ 10
    → take (i + 1) octets ≡ take start octets ++ (take (i - start) (drop start octets) ++ 10 ∷ [])
front_more octets start i le lt e =
    let front = take start octets in
    let p = take (i - start) (drop start octets) in
    let whole : octets ≡ (front ++ (p ++ 10 ∷ [])) ++ drop (i + 1) octets =
    sym (take-append-drop start octets) ∙ (ap (λ rest. front ++ rest) (at_newline octets start i le lt e) ∙ simp append_assoc) in
    let n : length (front ++ (p ++ 10 ∷ [])) ≡ i + 1 =
    omega (arith, length-append front (p ++ 10 ∷ []), length-append p (10 ∷ []), length-take start octets, length-take (i - start) (drop start octets), length-drop start octets) in
    ap (take (i + 1)) whole ∙ take_at (front ++ (p ++ 10 ∷ [])) (drop (i + 1) octets) (i + 1) n

pub HasRead-next : (octets : List ℕ) (start i : ℕ) → start ≤ i → i < length octets → get_or octets i 0 ≡ 10
    → HasRead octets (take start octets) (drop start octets) → Unbroken (take (i - start) (drop start octets))
    → bytes_eq (without_return (take (i - start) (drop start octets))) (codes ".") ≡ false
    → HasRead octets (take (i + 1) octets) (drop (i + 1) octets)
HasRead-next octets start i le lt newline h u e =
    let p = take (i - start) (drop start octets) in
    let here : HasRead octets (take start octets) (p ++ 10 ∷ drop (i + 1) octets) = subst (λ rest. HasRead octets (take start octets) rest) (at_newline octets start i le lt newline) h in
    rw (front_more octets start i le lt newline) (HasRead-more octets (take start octets) p (drop (i + 1) octets) here u e)

pub HasRead-dot : (octets : List ℕ) (start i : ℕ) → start ≤ i → i < length octets → get_or octets i 0 ≡ 10
    → HasRead octets (take start octets) (drop start octets) → Unbroken (take (i - start) (drop start octets))
    → bytes_eq (without_return (take (i - start) (drop start octets))) (codes ".") ≡ true
    → read_lines (pieces octets) ≡ Some (map without_dot (lines_of (take start octets)), i + 1)
HasRead-dot octets start i le lt newline h u e =
    let p = take (i - start) (drop start octets) in
    let here : HasRead octets (take start octets) (p ++ 10 ∷ drop (i + 1) octets) = subst (λ rest. HasRead octets (take start octets) rest) (at_newline octets start i le lt newline) h in
    let n : length (take start octets) + (length p + 1) ≡ i + 1 =
    omega (arith, length-take start octets, length-take (i - start) (drop start octets), length-drop start octets) in
    HasRead-found octets (take start octets) p (drop (i + 1) octets) here u e ∙ ap (λ k. Some (map without_dot (lines_of (take start octets)), k)) n
