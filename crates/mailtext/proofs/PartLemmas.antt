-- Where the parts of lines that are ended begin and end.
use Rattle.std.proofs.Common.{◌≡◌, ◌≢◌, ℕ, zero, suc, ◌+◌, ◌-◌, ◌<◌, ◌≤◌, List, [], ◌∷◌, ◌++◌, false, cond, length, take, drop, get_or, refl, sym, ◌∙◌, ap, arith, append_assoc, ◌==◌, eqb, ne_eqb}
use Rattle.std.proofs.lemmas.List.{length-append, take_at, drop_at, drop_more, drop_all}
use Rattle.std.proofs.lemmas.List.Sums.{sum_by-cons, sum_by-append}
use Rattle.std.specs.Prelude.{if◌then◌else◌, count_by}
use Rattle.mailtext.specs.Text.{line_end, lines_of, ended, kept_form, top_part, header_len}
use Rattle.mailtext.proofs.LineLemmas.{Unbroken, AreLines, AreLines-lines_of, lines_of-ended}

-- how many octets there are through the first empty line, if its line has so many before them
abbrev pub header_from : ℕ → List ℕ → ℕ
header_from before [] = 0
header_from before (b ∷ bs) =
    if b == 10 then (if before == 1 then 1 else 1 + header_from 0 bs)
    else 1 + header_from (before + 1) bs

header_from-line : (l rest : List ℕ) (before : ℕ) → Unbroken l → 0 < before + length l
    → header_from before (l ++ (line_end ++ rest)) ≡ length l + 2 + header_from 0 rest
header_from-line [] rest before h some =
    let e : before + 1 ≢ 1 = omega arith in
    rw (ne_eqb (before + 1) 1 e) (omega arith)
header_from-line (b ∷ bs) rest before h some =
    rw (h.0, header_from-line bs rest (before + 1) h.1 (omega arith)) (omega arith)

length-ended : (l : List ℕ) (ls : List (List ℕ)) → length (ended (l ∷ ls)) ≡ length l + 2 + length (ended ls)
length-ended l ls = omega (arith, length-append (l ++ line_end) (ended ls), length-append l line_end)

header_from-ended : (ls : List (List ℕ)) → AreLines ls → header_from 0 (ended ls) ≡ header_len ls
header_from-ended [] h = refl
header_from-ended ([] ∷ ls) h = refl
header_from-ended ((b ∷ bs) ∷ ls) h =
    let joined = ap (header_from 0) (append_assoc (b ∷ bs) line_end (ended ls)) in
    let here = header_from-line (b ∷ bs) (ended ls) 0 h.0 (omega arith) in
    omega (arith, joined, here, header_from-ended ls h.1, length-ended (b ∷ bs) (top_part ls 0))

-- how many octets the first lines have
abbrev pub lines_from : ℕ → List ℕ → ℕ
lines_from n [] = 0
lines_from n (b ∷ bs) =
    if n == 0 then 0 else 1 + lines_from (if b == 10 then n - 1 else n) bs

lines_from-zero : (bs : List ℕ) → lines_from 0 bs ≡ 0
lines_from-zero [] = refl
lines_from-zero (b ∷ bs) = refl

pub some_left : (n : ℕ) → eqb (suc n) 0 ≡ false
some_left n = ne_eqb (suc n) 0 (omega arith)

pub one_less : (n : ℕ) → suc n - 1 ≡ n
one_less n = omega arith

lines_from-line : (l rest : List ℕ) (n : ℕ) → Unbroken l → lines_from (suc n) (l ++ (line_end ++ rest)) ≡ length l + 2 + lines_from n rest
lines_from-line [] rest n h = rw (some_left n, one_less n) (omega arith)
lines_from-line (b ∷ bs) rest n h = rw (some_left n, h.0, lines_from-line bs rest n h.1) (omega arith)

lines_from-ended : (n : ℕ) (ls : List (List ℕ)) → AreLines ls → lines_from n (ended ls) ≡ length (ended (take n ls))
lines_from-ended zero ls h = lines_from-zero (ended ls)
lines_from-ended (suc n) [] h = refl
lines_from-ended (suc n) (l ∷ ls) h =
    let joined = ap (lines_from (suc n)) (append_assoc l line_end (ended ls)) in
    let here = lines_from-line l (ended ls) n h.0 in
    omega (arith, joined, here, lines_from-ended n ls h.1, length-ended l (take n ls))

-- what follows the first empty line
abbrev pub body : List (List ℕ) → List (List ℕ)
body [] = []
body ([] ∷ ls) = ls
body ((b ∷ bs) ∷ ls) = body ls

AreLines-body : (ls : List (List ℕ)) → AreLines ls → AreLines (body ls)
AreLines-body [] h = tt
AreLines-body ([] ∷ ls) h = h.1
AreLines-body ((b ∷ bs) ∷ ls) h = AreLines-body ls h.1

AreLines-take : (n : ℕ) (ls : List (List ℕ)) → AreLines ls → AreLines (take n ls)
AreLines-take zero ls h = tt
AreLines-take (suc n) [] h = tt
AreLines-take (suc n) (l ∷ ls) h = (h.0, AreLines-take n ls h.1)

AreLines-top_part : (ls : List (List ℕ)) (n : ℕ) → AreLines ls → AreLines (top_part ls n)
AreLines-top_part [] n h = tt
AreLines-top_part ([] ∷ ls) n h = (tt, AreLines-take n ls h.1)
AreLines-top_part ((b ∷ bs) ∷ ls) n h = (h.0, AreLines-top_part ls n h.1)

-- the part that TOP sends is the header and the first lines of the body
ended-top_part : (ls : List (List ℕ)) (n : ℕ) → ended (top_part ls n) ≡ ended (top_part ls 0) ++ ended (take n (body ls))
ended-top_part [] zero = refl
ended-top_part [] (suc n) = refl
ended-top_part ([] ∷ ls) n = refl
ended-top_part ((b ∷ bs) ∷ ls) n = simp append_assoc (ap (λ rest. (b ∷ bs) ++ (line_end ++ rest)) (ended-top_part ls n))

ended-header : (ls : List (List ℕ)) → ended ls ≡ ended (top_part ls 0) ++ ended (body ls)
ended-header [] = refl
ended-header ([] ∷ ls) = refl
ended-header ((b ∷ bs) ∷ ls) = simp append_assoc (ap (λ rest. (b ∷ bs) ++ (line_end ++ rest)) (ended-header ls))

ended-cut : (n : ℕ) (ls : List (List ℕ)) → ended ls ≡ ended (take n ls) ++ ended (drop n ls)
ended-cut zero ls = refl
ended-cut (suc n) [] = refl
ended-cut (suc n) (l ∷ ls) = simp append_assoc (ap (λ rest. l ++ (line_end ++ rest)) (ended-cut n ls))

ended-top : (ls : List (List ℕ)) (n : ℕ) → ended ls ≡ ended (top_part ls n) ++ ended (drop n (body ls))
ended-top ls n =
    ended-header ls ∙ (ap (λ rest. ended (top_part ls 0) ++ rest) (ended-cut n (body ls))
    ∙ (sym (append_assoc (ended (top_part ls 0)) (ended (take n (body ls))) (ended (drop n (body ls))))
    ∙ ap (λ front. front ++ ended (drop n (body ls))) (sym (ended-top_part ls n))))

-- ---- of a kept form

pub header_from-kept : (octets : List ℕ) → kept_form octets ≡ octets → header_from 0 octets ≡ header_len (lines_of octets)
header_from-kept octets kept = ap (header_from 0) (sym kept) ∙ header_from-ended (lines_of octets) (AreLines-lines_of octets)

pub lines_from-kept : (octets : List ℕ) (n : ℕ) → kept_form octets ≡ octets → lines_from n octets ≡ length (ended (take n (lines_of octets)))
lines_from-kept octets n kept = ap (lines_from n) (sym kept) ∙ lines_from-ended n (lines_of octets) (AreLines-lines_of octets)

-- what lies after the header is the body, a kept form too
pub behind_header : (octets : List ℕ) (h : ℕ) → kept_form octets ≡ octets → h ≡ header_len (lines_of octets) → drop h octets ≡ ended (body (lines_of octets))
behind_header octets h kept e =
    let ls = lines_of octets in
    ap (drop h) (sym kept ∙ ended-header ls) ∙ drop_at (ended (top_part ls 0)) (ended (body ls)) h (sym e)

pub lines_behind_header : (octets : List ℕ) (h : ℕ) → kept_form octets ≡ octets → h ≡ header_len (lines_of octets) → lines_of (drop h octets) ≡ body (lines_of octets)
lines_behind_header octets h kept e =
    let ls = lines_of octets in
    ap lines_of (behind_header octets h kept e) ∙ lines_of-ended (body ls) (AreLines-body ls (AreLines-lines_of octets))

pub kept_behind_header : (octets : List ℕ) (h : ℕ) → kept_form octets ≡ octets → h ≡ header_len (lines_of octets) → kept_form (drop h octets) ≡ drop h octets
kept_behind_header octets h kept e = ap ended (lines_behind_header octets h kept e) ∙ sym (behind_header octets h kept e)

pub length-top_part : (octets : List ℕ) (n h k : ℕ) → kept_form octets ≡ octets → h ≡ header_len (lines_of octets) → k ≡ length (ended (take n (lines_of (drop h octets))))
    → h + k ≡ length (ended (top_part (lines_of octets) n))
length-top_part octets n h k kept e f =
    let ls = lines_of octets in
    let g = f ∙ ap (λ lines. length (ended (take n lines))) (lines_behind_header octets h kept e) in
    omega (arith, e, g, ap length (ended-top_part ls n), length-append (ended (top_part ls 0)) (ended (take n (body ls))))

pub take-top_part : (octets : List ℕ) (n : ℕ) → kept_form octets ≡ octets → take (length (ended (top_part (lines_of octets) n))) octets ≡ ended (top_part (lines_of octets) n)
take-top_part octets n kept =
    let ls = lines_of octets in
    let len = length (ended (top_part ls n)) in
    ap (take len) (sym kept ∙ ended-top ls n) ∙ take_at (ended (top_part ls n)) (ended (drop n (body ls))) len refl

pub lines_of-top_part : (octets : List ℕ) (n : ℕ) → lines_of (ended (top_part (lines_of octets) n)) ≡ top_part (lines_of octets) n
lines_of-top_part octets n = lines_of-ended (top_part (lines_of octets) n) (AreLines-top_part (lines_of octets) n (AreLines-lines_of octets))

-- ---- where the loops end

pub header_found : (octets : List ℕ) (i before : ℕ) → kept_form octets ≡ octets → i < length octets → get_or octets i 0 ≡ 10 → before ≡ 1
    → i + header_from before (drop i octets) ≡ header_from 0 octets → i + 1 ≡ header_len (lines_of octets)
header_found octets i before kept lt newline one h =
    let k : i + 1 ≡ header_from 0 octets = rw (drop_more octets i 0 lt, newline, one) at h in
    k ∙ header_from-kept octets kept

pub header_is_all : (octets : List ℕ) (i before : ℕ) → kept_form octets ≡ octets → length octets ≤ i
    → i + header_from before (drop i octets) ≡ header_from 0 octets → i ≡ header_len (lines_of octets)
header_is_all octets i before kept past h =
    let k : i + 0 ≡ header_from 0 octets = rw (drop_all i octets past) at h in
    omega (arith, k, header_from-kept octets kept)

pub lines_found : (octets : List ℕ) (i n : ℕ) → kept_form octets ≡ octets
    → i + lines_from 0 (drop i octets) ≡ lines_from n octets → i ≡ length (ended (take n (lines_of octets)))
lines_found octets i n kept h = omega (arith, h, lines_from-zero (drop i octets), lines_from-kept octets n kept)

pub lines_are_all : (octets : List ℕ) (i left n : ℕ) → kept_form octets ≡ octets → length octets ≤ i
    → i + lines_from left (drop i octets) ≡ lines_from n octets → i ≡ length (ended (take n (lines_of octets)))
lines_are_all octets i left n kept past h =
    let k : i + 0 ≡ lines_from n octets = rw (drop_all i octets past) at h in
    omega (arith, k, lines_from-kept octets n kept)

-- ---- how many lines there are

-- one for LF, none for another octet
abbrev one_at_newline : ℕ → ℕ
one_at_newline b = cond (b == 10) 1 0

count_by-unbroken : (l : List ℕ) → Unbroken l → count_by (λ b. b == 10) l ≡ 0
count_by-unbroken [] h = refl
count_by-unbroken (b ∷ bs) h = sum_by-cons one_at_newline b bs ∙ rw h.0 (omega (arith, count_by-unbroken bs h.1))

count_by-ended : (ls : List (List ℕ)) → AreLines ls → count_by (λ b. b == 10) (ended ls) ≡ length ls
count_by-ended [] h = refl
count_by-ended (l ∷ ls) h =
    omega (arith, sum_by-append one_at_newline (l ++ line_end) (ended ls), sum_by-append one_at_newline l line_end, count_by-unbroken l h.0, count_by-ended ls h.1)

pub count_by-newlines : (octets : List ℕ) → kept_form octets ≡ octets → count_by (λ b. b == 10) octets ≡ length (lines_of octets)
count_by-newlines octets kept = ap (count_by (λ b. b == 10)) (sym kept) ∙ count_by-ended (lines_of octets) (AreLines-lines_of octets)
