-- A text as sheets: where its octets lie in them.
use Rattle.std.proofs.Common.{◌≡◌, ℕ, zero, suc, ◌+◌, ◌*◌, ◌-◌, ◌<◌, ◌≤◌, List, [], ◌∷◌, ◌++◌, true, min, length, take, drop, get_or, refl, sym, ◌∙◌, ap, arith, append-nil}
use Rattle.std.proofs.Common.{append_assoc, eqb, eqb-true, eq-eqb, length-append}
use Rattle.std.proofs.lemmas.Bool.{and_parts}
use Rattle.std.proofs.lemmas.Bool.Decides.{nat_tests}
use Rattle.std.proofs.lemmas.List.{drop_at, drop-append-le, drop-drop, take-append-le, take-append-drop, take_rest, length-take, length-take-le}
use Rattle.std.proofs.lemmas.List.Folds.{concat-append}
use Rattle.std.specs.List.{concat}
use Rattle.vault.specs.Changes.{IsPage}
use Rattle.vault.specs.Sheets.{are_sheets}

-- a sheet of a part is a sheet of the text, if the part lies there
pub page_of_part : (text part rest : List ℕ) (from at room : ℕ) (octets : List ℕ) → drop from text ≡ drop at part ++ rest
    → (from < length text → at < length part) → IsPage part at room octets → IsPage text from room octets
page_of_part text part rest from at room octets e inside h =
    let fits : length octets ≤ length (drop at part) = omega (arith, ap length h.next, length-take (length octets) (drop at part)) in
    record {
      next = h.next ∙ sym (ap (take (length octets)) e ∙ take-append-le (length octets) (drop at part) rest fits);
      fits = h.fits;
      goes_on = λ lt some. h.goes_on (inside lt) some;
    }

-- past its end a text has no octet
pub page_past : (text : List ℕ) (from room : ℕ) → length text ≤ from → IsPage text from room []
page_past text from room past = record { next = refl; fits = omega arith; goes_on = λ lt some. absurd (omega arith) }

first_is_whole : (p q : List ℕ) (ps : List (List ℕ)) → are_sheets (p ∷ q ∷ ps) ≡ true → length p ≡ 4096
first_is_whole p q ps h = eqb-true (length p) 4096 ((and_parts (eqb (length p) 4096) (are_sheets (q ∷ ps)) h).0)

rest_are_sheets : (p q : List ℕ) (ps : List (List ℕ)) → are_sheets (p ∷ q ∷ ps) ≡ true → are_sheets (q ∷ ps) ≡ true
rest_are_sheets p q ps h = (and_parts (eqb (length p) 4096) (are_sheets (q ∷ ps)) h).1

last_fits : (p : List ℕ) → are_sheets (p ∷ []) ≡ true → length p ≤ 4096
last_fits p h = grind (arith, nat_tests)

drop_past : (p rest : List ℕ) (n : ℕ) → length p ≡ 4096 → drop (4096 + n) (p ++ rest) ≡ drop n rest
drop_past p rest n e = sym (drop-drop n 4096 (p ++ rest)) ∙ ap (drop n) (drop_at p rest 4096 e)

-- the octets from a place on are those of its sheet, and of the sheets after it
pub at_page : (ps : List (List ℕ)) (i from at : ℕ) → are_sheets ps ≡ true → i < length ps → at < 4096 → from ≡ i * 4096 + at
    → drop from (concat ps) ≡ drop at (get_or ps i []) ++ concat (drop (suc i) ps)
at_page [] i from at h lt small e = absurd (omega arith)
at_page (p ∷ []) zero from at h lt small e =
    let same : from ≡ at = omega arith in
    rw same (ap (drop at) (append-nil p) ∙ sym (append-nil (drop at p)))
at_page (p ∷ []) (suc i) from at h lt small e = absurd (omega arith)
at_page (p ∷ q ∷ ps) zero from at h lt small e =
    let same : from ≡ at = omega arith in
    let n = first_is_whole p q ps h in
    rw same (drop-append-le at p (concat (q ∷ ps)) (omega arith))
at_page (p ∷ q ∷ ps) (suc i) from at h lt small e =
    let split : from ≡ 4096 + (i * 4096 + at) = omega arith in
    rw split (drop_past p (concat (q ∷ ps)) (i * 4096 + at) (first_is_whole p q ps h)
    ∙ at_page (q ∷ ps) i (i * 4096 + at) at (rest_are_sheets p q ps h) (omega arith) small refl)

-- a place within a text lies within its sheet
pub in_page : (ps : List (List ℕ)) (i from at : ℕ) → are_sheets ps ≡ true → i < length ps → at < 4096 → from ≡ i * 4096 + at
    → from < length (concat ps) → at < length (get_or ps i [])
in_page [] i from at h lt small e inside = absurd (omega arith)
in_page (p ∷ []) zero from at h lt small e inside = omega (arith, ap length (append-nil p))
in_page (p ∷ []) (suc i) from at h lt small e inside = absurd (omega arith)
in_page (p ∷ q ∷ ps) zero from at h lt small e inside = omega (arith, first_is_whole p q ps h)
in_page (p ∷ q ∷ ps) (suc i) from at h lt small e inside =
    in_page (q ∷ ps) i (i * 4096 + at) at (rest_are_sheets p q ps h) (omega arith) small refl
    (omega (arith, length-append p (concat (q ∷ ps)), first_is_whole p q ps h))

-- a place after all sheets is past the text's end
pub past_sheets : (ps : List (List ℕ)) (i : ℕ) → are_sheets ps ≡ true → length ps ≤ i → length (concat ps) ≤ i * 4096
past_sheets [] i h le = omega arith
past_sheets (p ∷ []) zero h le = absurd (omega arith)
past_sheets (p ∷ []) (suc i) h le = omega (arith, ap length (append-nil p), last_fits p h)
past_sheets (p ∷ q ∷ ps) zero h le = absurd (omega arith)
past_sheets (p ∷ q ∷ ps) (suc i) h le =
    omega (arith, length-append p (concat (q ∷ ps)), first_is_whole p q ps h, past_sheets (q ∷ ps) i (rest_are_sheets p q ps h) (omega arith))

-- ---- one sheet more

-- all are whole
abbrev pub AreWhole : List (List ℕ) → Type 0
AreWhole [] = Unit {0}
AreWhole (p ∷ ps) = (length p ≡ 4096) × AreWhole ps

last_page : (p : List ℕ) → 0 < length p → length p ≤ 4096 → are_sheets (p ∷ []) ≡ true
last_page p some fits = grind (arith, nat_tests)

pub are_sheets-more : (ps : List (List ℕ)) (p : List ℕ) → AreWhole ps → 0 < length p → length p ≤ 4096 → are_sheets (ps ++ p ∷ []) ≡ true
are_sheets-more [] p h some fits = last_page p some fits
are_sheets-more (q ∷ []) p h some fits = rw (eq-eqb (length q) 4096 h.0) (last_page p some fits)
are_sheets-more (q ∷ r ∷ ps) p h some fits = rw (eq-eqb (length q) 4096 h.0) (are_sheets-more (r ∷ ps) p h.1 some fits)

pub AreWhole-more : (ps : List (List ℕ)) (p : List ℕ) → AreWhole ps → length p ≡ 4096 → AreWhole (ps ++ p ∷ [])
AreWhole-more [] p h e = (e, tt)
AreWhole-more (q ∷ ps) p h e = (h.0, AreWhole-more ps p h.1 e)

pub concat-more : (ps : List (List ℕ)) (p rest : List ℕ) → concat (ps ++ p ∷ []) ++ rest ≡ concat ps ++ (p ++ rest)
concat-more ps p rest = ap (λ xs. xs ++ rest) (concat-append ps (p ∷ []) ∙ ap (λ xs. concat ps ++ xs) (append-nil p)) ∙ append_assoc (concat ps) p rest

-- ---- a sheet is cut off

pub page_size : (left : List ℕ) (n : ℕ) → n ≡ min (length left) 4096 → length (take n left) ≡ n
page_size left n e = length-take-le n left (omega arith)

pub page_and_rest : (left : List ℕ) (n : ℕ) → n ≡ min (length left) 4096
    → take n left ++ take (length left - length (take n left)) (drop (length (take n left)) left) ≡ left
page_and_rest left n e = rw (page_size left n e, take_rest left n) (take-append-drop n left)

-- a sheet after which octets are left is whole
pub page_is_whole : (left : List ℕ) (n : ℕ) → n ≡ min (length left) 4096
    → 0 < length (take (length left - length (take n left)) (drop (length (take n left)) left)) → length (take n left) ≡ 4096
page_is_whole left n e some =
    let size = page_size left n e in
    let rest = ap length (page_and_rest left n e) in
    omega (arith, e, size, rest, length-append (take n left) (take (length left - length (take n left)) (drop (length (take n left)) left)))
