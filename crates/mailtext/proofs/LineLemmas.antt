-- What lines are: they have no LF, and the lines of lines that are ended are themselves.
use Rattle.std.proofs.Common.{◌≡◌, ◌<◌, ℕ, List, [], ◌∷◌, ◌++◌, Bool, true, false, ◌&&◌, refl, ◌∙◌, ap, append_assoc, length, arith, eqb, ⊎_elim}
use Rattle.std.proofs.lemmas.Bool.{cases_Bool, and_right, and_parts, false≢true}
use Rattle.std.proofs.lemmas.Grind.{flat_map-append}
use Rattle.mailtext.specs.Text.{line_end, lines_of, onto_first_line, begins_with_newline, ended, kept_form, without_return}

-- octets without LF
abbrev pub Unbroken : List ℕ → Type 0
Unbroken [] = Unit {0}
Unbroken (b ∷ bs) = (eqb b 10 ≡ false) × Unbroken bs

-- lines without LF
abbrev pub AreLines : List (List ℕ) → Type 0
AreLines [] = Unit {0}
AreLines (l ∷ ls) = Unbroken l × AreLines ls

AreLines-onto : (b : ℕ) (ls : List (List ℕ)) → eqb b 10 ≡ false → AreLines ls → AreLines (onto_first_line b ls)
AreLines-onto b [] e h = ((e, tt), tt)
AreLines-onto b (l ∷ ls) e h = ((e, h.0), h.1)

pub AreLines-lines_of : (text : List ℕ) → AreLines (lines_of text)
AreLines-lines_of [] = tt
AreLines-lines_of (b ∷ bs) =
    let h = AreLines-lines_of bs in
    ⊎_elim (λ (e : eqb b 10 ≡ true). rw e (tt, h))
    (λ (e : eqb b 10 ≡ false). ⊎_elim (λ (r : (eqb b 13 && begins_with_newline bs) ≡ true). rw (e, r) h)
    (λ (r : (eqb b 13 && begins_with_newline bs) ≡ false). rw (e, r) (AreLines-onto b (lines_of bs) e h)) (cases_Bool (eqb b 13 && begins_with_newline bs)))
    (cases_Bool (eqb b 10))

and_true : (x : Bool) → (x && true) ≡ x
and_true false = refl
and_true true = refl

-- an octet that isn't at a line's end
lines_of-other : (b : ℕ) (rest : List ℕ) → eqb b 10 ≡ false → begins_with_newline rest ≡ false → lines_of (b ∷ rest) ≡ onto_first_line b (lines_of rest)
lines_of-other b rest e n = rw (e, n, and_right (eqb b 13) false refl) refl

-- a piece that LF ends is a line, but for one CR at its end
pub lines_of-piece : (p rest : List ℕ) → Unbroken p → lines_of (p ++ 10 ∷ rest) ≡ without_return p ∷ lines_of rest
lines_of-piece [] rest h = refl
lines_of-piece (b ∷ []) rest h =
    rw (h.0, and_true (eqb b 13))
    (⊎_elim (λ (r : eqb b 13 ≡ true). rw r refl) (λ (r : eqb b 13 ≡ false). rw r refl) (cases_Bool (eqb b 13)))
lines_of-piece (b ∷ c ∷ bs) rest h =
    lines_of-other b ((c ∷ bs) ++ 10 ∷ rest) h.0 h.1.0 ∙ ap (onto_first_line b) (lines_of-piece (c ∷ bs) rest h.1)

-- octets without LF are a line
pub lines_of-unended : (l : List ℕ) → Unbroken l → 0 < length l → lines_of l ≡ l ∷ []
lines_of-unended [] h some = absurd (omega arith)
lines_of-unended (b ∷ []) h some = rw (h.0, and_right (eqb b 13) false refl) refl
lines_of-unended (b ∷ c ∷ bs) h some =
    lines_of-other b (c ∷ bs) h.0 h.1.0 ∙ ap (onto_first_line b) (lines_of-unended (c ∷ bs) h.1 (omega arith))

-- a text with an octet has a line
onto_first_line-some : (b : ℕ) (ls : List (List ℕ)) → 0 < length (onto_first_line b ls)
onto_first_line-some b [] = omega arith
onto_first_line-some b (l ∷ ls) = omega arith

begins_with_newline-some : (bs : List ℕ) → begins_with_newline bs ≡ true → 0 < length bs
begins_with_newline-some [] h = absurd (false≢true h)
begins_with_newline-some (b ∷ bs) h = omega arith

pub lines_of-some : (text : List ℕ) → 0 < length text → 0 < length (lines_of text)
lines_of-some [] h = absurd (omega arith)
lines_of-some (b ∷ bs) h =
    ⊎_elim (λ (e : eqb b 10 ≡ true). rw e (omega arith))
    (λ (e : eqb b 10 ≡ false). ⊎_elim (λ (r : (eqb b 13 && begins_with_newline bs) ≡ true).
    rw (e, r) (lines_of-some bs (begins_with_newline-some bs (and_parts (eqb b 13) (begins_with_newline bs) r).1)))
    (λ (r : (eqb b 13 && begins_with_newline bs) ≡ false). rw (e, r) (onto_first_line-some b (lines_of bs))) (cases_Bool (eqb b 13 && begins_with_newline bs)))
    (cases_Bool (eqb b 10))

pub without_return-push : (l : List ℕ) → without_return (l ++ 13 ∷ []) ≡ l
without_return-push [] = refl
without_return-push (b ∷ []) = refl
without_return-push (b ∷ c ∷ bs) = ap (λ l. b ∷ l) (without_return-push (c ∷ bs))

pub without_return-other : (l : List ℕ) (b : ℕ) → eqb b 13 ≡ false → without_return (l ++ b ∷ []) ≡ l ++ b ∷ []
without_return-other [] b e = rw e refl
without_return-other (x ∷ []) b e = rw e refl
without_return-other (x ∷ y ∷ ys) b e = ap (λ l. x ∷ l) (without_return-other (y ∷ ys) b e)

pub Unbroken-push : (l : List ℕ) (b : ℕ) → Unbroken l → eqb b 10 ≡ false → Unbroken (l ++ b ∷ [])
Unbroken-push [] b h e = (e, tt)
Unbroken-push (x ∷ xs) b h e = (h.0, Unbroken-push xs b h.1 e)

-- a line that is ended is a line
pub lines_of-line : (l rest : List ℕ) → Unbroken l → lines_of ((l ++ line_end) ++ rest) ≡ l ∷ lines_of rest
lines_of-line l rest h =
    let e : (l ++ line_end) ++ rest ≡ (l ++ 13 ∷ []) ++ 10 ∷ rest = simp append_assoc in
    rw (e, lines_of-piece (l ++ 13 ∷ []) rest (Unbroken-push l 13 h refl), without_return-push l) refl

pub lines_of-ended : (ls : List (List ℕ)) → AreLines ls → lines_of (ended ls) ≡ ls
lines_of-ended [] h = refl
lines_of-ended (l ∷ ls) h = lines_of-line l (ended ls) h.0 ∙ ap (λ rest. l ∷ rest) (lines_of-ended ls h.1)

pub lines_of-kept_form : (text : List ℕ) → lines_of (kept_form text) ≡ lines_of text
lines_of-kept_form text = lines_of-ended (lines_of text) (AreLines-lines_of text)

pub kept_form-kept_form : (text : List ℕ) → kept_form (kept_form text) ≡ kept_form text
kept_form-kept_form text = ap ended (lines_of-kept_form text)

-- ---- two texts, one after the other

lines_of-ended_more : (ls : List (List ℕ)) (more : List ℕ) → AreLines ls → lines_of (ended ls ++ more) ≡ ls ++ lines_of more
lines_of-ended_more [] more h = refl
lines_of-ended_more (l ∷ ls) more h =
    rw (append_assoc (l ++ line_end) (ended ls) more, lines_of-line l (ended ls ++ more) h.0) (ap (λ rest. l ∷ rest) (lines_of-ended_more ls more h.1))

-- two kept forms, one after the other, are one
pub kept_form-append : (text more : List ℕ) → kept_form text ≡ text → kept_form more ≡ more → kept_form (text ++ more) ≡ text ++ more
kept_form-append text more kept kept' =
    let lines : lines_of (text ++ more) ≡ lines_of text ++ lines_of more = rw kept at (lines_of-ended_more (lines_of text) more (AreLines-lines_of text)) in
    rw (lines, flat_map-append (λ l. l ++ line_end) (lines_of text) (lines_of more), kept, kept') refl
