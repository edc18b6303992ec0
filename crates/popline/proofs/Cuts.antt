-- What a cutter does to a stream.
use Rattle.std.proofs.Common.{◌≡◌, ℕ, ◌+◌, ◌<◌, ◌≤◌, List, [], ◌∷◌, ◌++◌, Bool, true, false, cond, length, take, drop, map, refl, sym, ◌∙◌, ap, ap₂, arith, append_assoc}
use Rattle.std.proofs.Common.{append-nil, add-one, ◌==◌, ⊎_elim, take_all, length-append, le-ltb}
use Rattle.std.proofs.lemmas.List.{length-take}
use Rattle.std.proofs.Math.Seq.{drop-length}
use Rattle.std.proofs.lemmas.Bool.{cases_lt}
use Rattle.popline.specs.Cutting.{cut_of, pieces, onto_first}
use Rattle.popline.specs.Cutting.{Held, begun, whole_line, coming, prefixed, before_newline, has_newline, through_newline, fed, taken, whole_lines, nothing_held, cut, CutsAnyPieces}
use Rattle.std.specs.List.{flat_map, concat}

-- octets past the first 255 make no difference
pub cut_of-take : (x y : List ℕ) → cut_of (take 255 x ++ y) ≡ cut_of (x ++ y)
cut_of-take x y = ⊎_elim
    (λ (h : length x < 256). let short : length x ≤ 255 = omega arith in rw (take_all 255 x short))
    (λ (h : 256 ≤ length x).
    let long : 255 ≤ length (x ++ y) = omega (arith, length-append x y) in
    let also : 255 ≤ length (take 255 x ++ y) = omega (arith, length-append (take 255 x) y, length-take 255 x) in
    rw (le-ltb (length (x ++ y)) 255 long, le-ltb (length (take 255 x ++ y)) 255 also))
    (cases_lt (length x) 256)

cut_of-short : (x : List ℕ) → cut_of x ≡ cut_of (take 255 x)
cut_of-short x = ap cut_of (sym (append-nil x)) ∙ (sym (cut_of-take x []) ∙ ap cut_of (append-nil (take 255 x)))

prefixed-nil : (ps : List (List ℕ)) → prefixed [] ps ≡ ps
prefixed-nil [] = refl
prefixed-nil (p ∷ ps) = refl

prefixed-onto : (s : List ℕ) (b : ℕ) (ps : List (List ℕ)) → prefixed s (onto_first b ps) ≡ prefixed (s ++ b ∷ []) ps
prefixed-onto s b [] = refl
prefixed-onto s b (p ∷ ps) = ap (λ x. x ∷ ps) (sym (append_assoc s (b ∷ []) p))

cuts-take : (s : List ℕ) (ps : List (List ℕ)) → map cut_of (prefixed s ps) ≡ map cut_of (prefixed (take 255 s) ps)
cuts-take s [] = refl
cuts-take s (p ∷ ps) = ap (λ x. x ∷ map cut_of ps) (sym (cut_of-take s p))

abbrev after : List ℕ → List ℕ → Held
after s p = record { octets = take 255 (s ++ before_newline p); whole = has_newline p }

-- the claim of `cuts-through`, at a piece of which these are the first line, whether it has a LF, and how far it goes
abbrev Through : List ℕ → List (List ℕ) → List ℕ → Bool → List ℕ → Type 0
Through s ps first whole rest =
    let w : Held = record { octets = take 255 (s ++ first); whole = whole } in
    map cut_of (prefixed s ps) ≡ whole_line w ++ coming w rest

one_more : (s : List ℕ) (b : ℕ) (bs m : List ℕ) (t : Bool)
    → Through (s ++ b ∷ []) (pieces (bs ++ m)) (before_newline bs) (has_newline bs) (drop (through_newline bs) bs ++ m)
    → Through s (cond t ([] ∷ pieces (bs ++ m)) (onto_first b (pieces (bs ++ m)))) (cond t [] (b ∷ before_newline bs)) (cond t true (has_newline bs))
    (drop (cond t 1 (through_newline bs + 1)) (b ∷ bs) ++ m)
one_more s b bs m true rest =
    ap₂ (λ x ps. x ∷ map cut_of ps) (cut_of-short (s ++ [])) (sym (prefixed-nil (pieces (bs ++ m))))
one_more s b bs m false rest = rw (prefixed-onto s b (pieces (bs ++ m)), add-one, ← append_assoc s (b ∷ []) (before_newline bs)) rest

pub cuts-through : (s p m : List ℕ) → Through s (pieces (p ++ m)) (before_newline p) (has_newline p) (drop (through_newline p) p ++ m)
cuts-through s [] m = cuts-take s (pieces m) ∙ rw (append-nil s) refl
cuts-through s (b ∷ bs) m = one_more s b bs m (b == 10) (cuts-through (s ++ b ∷ []) bs m)

-- However a stream goes on after a piece, its lines are the one that is whole after the piece and those to come.
pub coming-fed : (v w : Held) (p : List ℕ) (n : ℕ) → w ≡ fed v p → n ≡ through_newline p → (m : List ℕ) → coming v (p ++ m) ≡ whole_line w ++ coming w (drop n p ++ m)
coming-fed v w p n e f m = rw (e, f) (cuts-through (begun v) p m)

-- ---- pieces one after another

-- what a cutter takes of a piece, octet by octet
taken-cons : (b : ℕ) (bs : List ℕ) → taken (b ∷ bs) ≡ cond (b == 10) (b ∷ []) (b ∷ taken bs)
taken-cons b bs = taken-cons_by b bs (b == 10)
  where
    taken-cons_by : (b : ℕ) (bs : List ℕ) (t : Bool) → take (cond t 1 (through_newline bs + 1)) (b ∷ bs) ≡ cond t (b ∷ []) (b ∷ taken bs)
    taken-cons_by b bs true = refl
    taken-cons_by b bs false = rw add-one refl

-- the claims of `taken-whole`, at a piece whose first octet is a LF or not
before_by : (b : ℕ) (bs : List ℕ) (t : Bool) → b == 10 ≡ t → before_newline (taken bs) ≡ before_newline bs → before_newline (cond t (b ∷ []) (b ∷ taken bs)) ≡ cond t [] (b ∷ before_newline bs)
before_by b bs true e h = rw e refl
before_by b bs false e h = rw (e, h) refl

before-taken : (p : List ℕ) → before_newline (taken p) ≡ before_newline p
before-taken [] = refl
before-taken (b ∷ bs) = rw (taken-cons b bs) (before_by b bs (b == 10) refl (before-taken bs))

has_by : (b : ℕ) (bs : List ℕ) (t : Bool) → b == 10 ≡ t → has_newline (taken bs) ≡ has_newline bs → has_newline (cond t (b ∷ []) (b ∷ taken bs)) ≡ cond t true (has_newline bs)
has_by b bs true e h = rw e refl
has_by b bs false e h = rw (e, h) refl

has-taken : (p : List ℕ) → has_newline (taken p) ≡ has_newline p
has-taken [] = refl
has-taken (b ∷ bs) = rw (taken-cons b bs) (has_by b bs (b == 10) refl (has-taken bs))

through_by : (b : ℕ) (bs : List ℕ) (t : Bool) → b == 10 ≡ t → through_newline (taken bs) ≡ length (taken bs)
    → through_newline (cond t (b ∷ []) (b ∷ taken bs)) ≡ length (cond t (b ∷ []) (b ∷ taken bs))
through_by b bs true e h = rw e refl
through_by b bs false e h = rw (e, h, add-one) refl

through-taken : (p : List ℕ) → through_newline (taken p) ≡ length (taken p)
through-taken [] = refl
through-taken (b ∷ bs) = rw (taken-cons b bs) (through_by b bs (b == 10) refl (through-taken bs))

fed-taken : (v : Held) (p : List ℕ) → fed v (taken p) ≡ fed v p
fed-taken v p = rw (before-taken p, has-taken p) refl

-- a cutter that is fed these portions shows the lines of what it takes of them, and no others
coming-portions : (v : Held) (ps : List (List ℕ)) → whole_lines v ps ≡ coming v (flat_map taken ps)
coming-portions v [] = refl
coming-portions v (p ∷ ps) =
    let step = coming-fed v (fed v p) (taken p) (length (taken p)) (sym (fed-taken v p)) (sym (through-taken p)) (flat_map taken ps) in
    let rest = coming-portions (fed v p) ps in
    ap (λ x. whole_line (fed v p) ++ x) rest ∙ sym (step ∙ ap (λ x. whole_line (fed v p) ++ coming (fed v p) (x ++ flat_map taken ps)) (drop-length (taken p)))

coming-nothing : (s : List ℕ) → coming nothing_held s ≡ cut s
coming-nothing s = ap (map cut_of) (prefixed-nil (pieces s))

pub cuts_any_pieces : CutsAnyPieces
cuts_any_pieces stream portions e = coming-portions nothing_held portions ∙ (ap (coming nothing_held) e ∙ coming-nothing (concat stream))
