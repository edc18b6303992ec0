-- The lines of a text written out line by line.
use Rattle.std.proofs.Common.{◌≡◌, ◌≢◌, ℕ, zero, suc, ◌+◌, ◌<◌, List, [], ◌∷◌, ◌++◌, true, false}
use Rattle.std.proofs.Common.{length, get_or, take, drop, refl, sym, ◌∙◌, ap, arith, append_assoc, subst}
use Rattle.std.proofs.Common.{eqb, eqb-true, ⊎_elim, inl, inr}
use Rattle.std.proofs.lemmas.List.{drop_more, length-append, length-take-le, take-append-drop, take_all, append_cancel_left}
use Rattle.std.proofs.lemmas.Bool.{cases_Bool}
use Rattle.std.specs.Prelude.{◌⊎◌, ◌↔◌}
use Rattle.memchr.specs.Find.{Nowhere, Passes, is_byte}
use Rattle.mailtext.specs.Text.{line_end, lines_of, ended, kept_form, without_return}
use Rattle.mailtext.specs.Written.{written}
use Rattle.mailtext.specs.declared.lines.Dots.{Dots}
use Rattle.mailtext.specs.declared.lines.Dots.TheVariants.{Kept, Doubled, Dropped}
use Rattle.mailtext.proofs.LineLemmas.{Unbroken, lines_of-piece, lines_of-unended, lines_of-some}

-- ---- the first line of a text

Unbroken-take : (n : ℕ) (text : List ℕ) → ((k : ℕ) → k < n → eqb (get_or text k 0) 10 ≡ false) → Unbroken (take n text)
Unbroken-take zero text h = tt
Unbroken-take (suc n) [] h = tt
Unbroken-take (suc n) (b ∷ bs) h = (h 0 (omega arith), Unbroken-take n bs (λ k lt. h (suc k) (omega arith)))

-- a text in which LF stands nowhere before a place
Unbroken-before : (text : List ℕ) (n : ℕ) → Nowhere (Passes (is_byte 10) text) 0 n → Unbroken (take n text)
Unbroken-before text n none = Unbroken-take n text (λ k lt.
    ⊎_elim (λ (e : eqb (get_or text k 0) 10 ≡ true). absurd (none k (omega arith) lt e))
    (λ (e : eqb (get_or text k 0) 10 ≡ false). e) (cases_Bool (eqb (get_or text k 0) 10)))

cut_at : (text : List ℕ) (n : ℕ) → n < length text → Passes (is_byte 10) text n → text ≡ take n text ++ 10 ∷ drop (n + 1) text
cut_at text n lt e =
    sym (take-append-drop n text) ∙ ap (λ ys. take n text ++ ys) (rw (drop_more text n 0 lt, eqb-true (get_or text n 0) 10 e) refl)

-- the first LF ends the first line
pub lines_of-cut : (text : List ℕ) (n : ℕ) → n < length text → Nowhere (Passes (is_byte 10) text) 0 n → Passes (is_byte 10) text n
    → lines_of text ≡ without_return (take n text) ∷ lines_of (drop (n + 1) text)
lines_of-cut text n lt none e =
    ap lines_of (cut_at text n lt e) ∙ lines_of-piece (take n text) (drop (n + 1) text) (Unbroken-before text n none)

Unbroken-whole : (text : List ℕ) → Nowhere (Passes (is_byte 10) text) 0 (length text) → Unbroken text
Unbroken-whole text none = subst Unbroken (take_all (length text) text (omega arith)) (Unbroken-before text (length text) none)

-- without LF there is no other
pub lines_of-whole : (text : List ℕ) → 0 < length text → Nowhere (Passes (is_byte 10) text) 0 (length text) → lines_of text ≡ text ∷ []
lines_of-whole text some none = lines_of-unended text (Unbroken-whole text none) some

-- ---- what is written

-- a text without an octet has none
pub written-empty : (dots : Dots) (text : List ℕ) → length text ≡ 0 → written dots text ≡ []
written-empty Kept [] h = refl
written-empty Doubled [] h = refl
written-empty Dropped [] h = refl
written-empty dots (b ∷ bs) h = absurd (omega (arith, h))

ended-nonempty : (ls : List (List ℕ)) → 0 < length ls → 0 < length (ended ls)
ended-nonempty [] h = absurd (omega arith)
ended-nonempty (l ∷ ls) h = omega (arith, length-append (l ++ line_end) (ended ls), length-append l line_end)

-- a text with an octet has one in its kept form
pub kept_form-nonempty : (text : List ℕ) → 0 < length text → 0 < length (kept_form text)
kept_form-nonempty text h = ended-nonempty (lines_of text) (lines_of-some text h)

-- ---- texts that are their own kept form

pub kept_form-empty : (text : List ℕ) → length text ≡ 0 → kept_form text ≡ text
kept_form-empty [] h = refl
kept_form-empty (b ∷ bs) h = absurd (omega (arith, h))

-- a piece has a CR at its end or hasn't
return_cases : (p : List ℕ) → (p ≡ without_return p) ⊎ (p ≡ without_return p ++ 13 ∷ [])
return_cases [] = inl refl
return_cases (b ∷ []) =
    ⊎_elim (λ (e : eqb b 13 ≡ true). inr (rw (eqb-true b 13 e) refl)) (λ (e : eqb b 13 ≡ false). inl (rw e refl)) (cases_Bool (eqb b 13))
return_cases (b ∷ c ∷ bs) =
    ⊎_elim (λ (e : c ∷ bs ≡ without_return (c ∷ bs)). inl (ap (λ l. b ∷ l) e))
    (λ (e : c ∷ bs ≡ without_return (c ∷ bs) ++ 13 ∷ []). inr (ap (λ l. b ∷ l) e)) (return_cases (c ∷ bs))

module _ (text : List ℕ) (n : ℕ) (lt : n < length text) (none : Nowhere (Passes (is_byte 10) text) 0 n) (newline : Passes (is_byte 10) text n) where
  abbrev line : List ℕ
  line = without_return (take n text)

  abbrev rest : List ℕ
  rest = drop (n + 1) text

  kept_form-cut : kept_form text ≡ (line ++ line_end) ++ kept_form rest
  kept_form-cut = ap ended (lines_of-cut text n lt none newline)

  size : length (take n text) ≡ n
  size = length-take-le n text (omega arith)

  -- a line that CRLF ends leaves the question to the rest
  ended_by_both : take n text ≡ line ++ 13 ∷ [] → text ≡ (line ++ line_end) ++ rest
  ended_by_both e = cut_at text n lt newline ∙ (ap (λ l. l ++ 10 ∷ rest) e ∙ simp append_assoc)

  pub kept_by_rest : length line ≢ n → (kept_form rest ≡ rest) ↔ (kept_form text ≡ text)
  kept_by_rest other =
      ⊎_elim (λ (e : take n text ≡ line). absurd (other (ap length (sym e) ∙ size)))
      (λ (e : take n text ≡ line ++ 13 ∷ []).
      let whole = ended_by_both e in (
        (λ h. kept_form-cut ∙ (ap (λ ys. (line ++ line_end) ++ ys) h ∙ sym whole)),
        (λ h. append_cancel_left (line ++ line_end) (kept_form rest) rest (sym kept_form-cut ∙ (h ∙ whole))),
      ))
      (return_cases (take n text))

  -- one that LF alone ends is another in the kept form
  pub kept_never : length line ≡ n → ¬ (kept_form text ≡ text)
  kept_never same kept =
      ⊎_elim (λ (e : take n text ≡ line).
      let whole : text ≡ line ++ 10 ∷ rest = cut_at text n lt newline ∙ ap (λ l. l ++ 10 ∷ rest) e in
      let both : line ++ (line_end ++ kept_form rest) ≡ line ++ 10 ∷ rest = sym (append_assoc line line_end (kept_form rest)) ∙ (sym kept_form-cut ∙ (kept ∙ whole)) in
      let first : 13 ≡ 10 = ap (λ ys. get_or ys 0 0) (append_cancel_left line (line_end ++ kept_form rest) (10 ∷ rest) both) in
      absurd (omega (arith, first)))
      (λ (e : take n text ≡ line ++ 13 ∷ []). absurd (omega (arith, same, size, ap length e, length-append line (13 ∷ []))))
      (return_cases (take n text))

-- octets without LF that end a text
pub kept_without_newline : (text : List ℕ) → Nowhere (Passes (is_byte 10) text) 0 (length text) → kept_form text ≡ text → length text ≡ 0
kept_without_newline [] none kept = refl
kept_without_newline (b ∷ bs) none kept =
    let e : ((b ∷ bs) ++ line_end) ++ [] ≡ b ∷ bs = sym (ap ended (lines_of-whole (b ∷ bs) (omega arith) none)) ∙ kept in
    absurd (omega (arith, ap length e, length-append ((b ∷ bs) ++ line_end) [], length-append (b ∷ bs) line_end))
