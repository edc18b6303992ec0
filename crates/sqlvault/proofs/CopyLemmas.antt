-- The octets of consecutive sheets, copied into the front of a buffer.
use Rattle.std.proofs.Common.{◌≡◌, ℕ, zero, suc, ◌+◌, ◌-◌, ◌*◌, ◌<◌, ◌≤◌, min, pos, List, [], ◌∷◌, ◌++◌, length, take, drop, Option, Some, None, refl, sym, ap, ap₂, ◌∙◌, arith}
use Rattle.std.proofs.Common.{append_assoc, append-nil}
use Rattle.std.specs.List.{find}
use Rattle.std.proofs.Math.Seq.{take-add}
use Rattle.std.proofs.lemmas.List.{drop_all, drop-drop, take-append-drop, take_at, take_min, take_rest, length-append, length-drop, length-take, length-take-le}
use borrow.Rule.Slice.PartMut.{put_mid}
use Rattle.mailsql.specs.declared.rows.Sheet.{Sheet}
use Rattle.sqlvault.specs.Pages.{is_at, with_behind, octets_from}
use Rattle.mailtext.proofs.StreamLemmas.{length-written_end}

-- ---- lists

drop-append : (k : ℕ) (xs ys : List ℕ) → drop k (xs ++ ys) ≡ drop k xs ++ drop (k - length xs) ys
drop-append zero xs ys = let e : 0 ≡ 0 - length xs = omega arith in ap (λ n. xs ++ drop n ys) e
drop-append (suc k) [] ys = let e : suc k ≡ suc k - 0 = omega arith in ap (λ n. drop n ys) e
drop-append (suc k) (x ∷ xs) ys =
    let e : k - length xs ≡ suc k - suc (length xs) = omega arith in drop-append k xs ys ∙ ap (λ n. drop k xs ++ drop n ys) e

take-append : (k : ℕ) (xs ys : List ℕ) → take k (xs ++ ys) ≡ take k xs ++ take (k - length xs) ys
take-append zero xs ys = let e : 0 ≡ 0 - length xs = omega arith in ap (λ n. take n ys) e
take-append (suc k) [] ys = let e : suc k ≡ suc k - 0 = omega arith in ap (λ n. take n ys) e
take-append (suc k) (x ∷ xs) ys =
    let e : k - length xs ≡ suc k - suc (length xs) = omega arith in ap (λ zs. x ∷ zs) (take-append k xs ys ∙ ap (λ n. take k xs ++ take n ys) e)

take_nil : (k : ℕ) → (let none : List ℕ = [] in take k none ≡ [])
take_nil zero = refl
take_nil (suc k) = refl

drop_nil : (k : ℕ) → (let none : List ℕ = [] in drop k none ≡ [])
drop_nil zero = refl
drop_nil (suc k) = refl

take_behind : (p ys : List ℕ) (a m : ℕ) → length p ≡ a → m ≤ length ys → take (a + m) (p ++ ys) ≡ p ++ take m ys
take_behind p ys a m e h =
    ap (take (a + m)) (ap (λ zs. p ++ zs) (sym (take-append-drop m ys)) ∙ sym (append_assoc p (take m ys) (drop m ys)))
    ∙ take_at (p ++ take m ys) (drop m ys) (a + m) (omega (arith, e, length-append p (take m ys), length-take-le m ys h))

-- ---- one sheet more

-- a buffer whose end was written
written_end : (a : ℕ) (xs ys : List ℕ) → a ≤ length xs → put_mid a (length xs - a) xs ys ≡ take a xs ++ ys
written_end a xs ys h =
    let past : length (drop a xs) ≤ length xs - a = omega (arith, length-drop a xs) in
    rw (drop_all (length xs - a) (drop a xs) past) (ap (λ zs. take a xs ++ zs) (append-nil ys))

-- what was copied of the first part, and what is still to be copied, are the front of both parts
one_more : (octets behind new : List ℕ) (skip room c : ℕ) → c ≡ min (length octets - skip) room → take c new ≡ take c (drop skip octets)
    → take c new ++ take (room - c) (drop (skip - length octets) behind) ≡ take room (drop skip (octets ++ behind))
one_more octets behind new skip room c count copied =
    let A = drop skip octets in
    let B = drop (skip - length octets) behind in
    let long : length A ≡ length octets - skip = length-drop skip octets in
    let least : c ≡ min room (length A) = omega (arith, count, long) in
    let front : take c A ≡ take room A = ap (λ n. take n A) least ∙ take_min room A in
    let rest : room - c ≡ room - length A = omega (arith, count, long) in
    ap₂ (λ xs n. xs ++ take n B) (copied ∙ front) rest ∙ sym (take-append room A B) ∙ ap (take room) (sym (drop-append skip octets behind))

pub copied_more : (b ys octets behind whole : List ℕ) (put left c : ℕ) → put ≤ length b → length ys ≡ length (take (length b - put) (drop put b))
    → c ≡ min (length octets - left) (length ys) → take c ys ≡ take c (drop left octets)
    → take put b ++ take (length b - put) (drop left (octets ++ behind)) ≡ take (length b) whole
    → take (put + c) (put_mid put (length b - put) b ys)
    ++ take (length (put_mid put (length b - put) b ys) - (put + c)) (drop (left - length octets) behind) ≡ take (length (put_mid put (length b - put) b ys)) whole
copied_more b ys octets behind whole put left c room e count copied before =
    let after = put_mid put (length b - put) b ys in
    let B = drop (left - length octets) behind in
    let long : length ys ≡ length b - put = e ∙ ap length (take_rest b put) ∙ length-drop put b in
    let fits : c ≤ length ys = omega (arith, count) in
    let same : length after ≡ length b = length-written_end put b ys room e in
    let written : take (put + c) after ≡ take put b ++ take c ys =
    ap (take (put + c)) (written_end put b ys room) ∙ take_behind (take put b) ys put c (length-take-le put b room) fits in
    let step = one_more octets behind ys left (length b - put) c (count ∙ ap (min (length octets - left)) long) copied in
    let rest : length after - (put + c) ≡ (length b - put) - c = omega (arith, same) in
    ap₂ (λ xs n. xs ++ take n B) written rest ∙ (append_assoc (take put b) (take c ys) (take ((length b - put) - c) B)
    ∙ (ap (λ zs. take put b ++ zs) step ∙ (before ∙ ap (λ n. take n whole) (sym same))))

-- nothing is left to be copied
pub copied_all : (buffer whole rest : List ℕ) (n left : ℕ) → n ≤ length buffer → rest ≡ [] → take n buffer ++ take (length buffer - n) (drop left rest) ≡ take (length buffer) whole
    → (n ≡ min (length whole) (length buffer)) × (take n buffer ≡ take n whole)
copied_all buffer whole rest n left fits none h =
    let nothing : take (length buffer - n) (drop left rest) ≡ [] = ap (λ l. take (length buffer - n) (drop left l)) none
    ∙ ap (take (length buffer - n)) (drop_nil left) ∙ take_nil (length buffer - n) in
    let read : take n buffer ≡ take (length buffer) whole = sym (append-nil (take n buffer)) ∙ ap (λ l. take n buffer ++ l) (sym nothing) ∙ h in
    let long : n ≡ min (length buffer) (length whole) = sym (length-take-le n buffer fits) ∙ ap length read ∙ length-take (length buffer) whole in
    (omega (arith, long), read ∙ sym (ap (λ k. take k whole) long ∙ take_min (length buffer) whole))

-- ---- the sheets from a place on

-- the first of them and those after it
pub one_sheet : (sheets : List Sheet) (place end : ℕ) (o : Option Sheet) → place < end → o ≡ find (is_at (pos place)) sheets
    → octets_from (end - place) sheets place ≡ with_behind o (octets_from (end - (place + 1)) sheets (place + 1))
one_sheet sheets place end o below found =
    let more : end - place ≡ suc (end - (place + 1)) = omega (arith, below) in
    ap (λ n. octets_from n sheets place) more ∙ ap (λ x. with_behind x (octets_from (end - (place + 1)) sheets (place + 1))) (sym found)

pub no_sheets : (sheets : List Sheet) (place end : ℕ) → end ≤ place → octets_from (end - place) sheets place ≡ []
no_sheets sheets place end over = let e : end - place ≡ 0 = omega (arith, over) in ap (λ n. octets_from n sheets place) e

-- what is found at a place is that part of a text, of so many octets; or the text ends before it
abbrev pub IsPart : (size : ℕ) → List ℕ → (place : ℕ) → Option Sheet → Type 0
IsPart size text place (Some s) = s.octets ≡ take size (drop (place * size) text)
IsPart size text place None = length text ≤ place * size

part_more : (size n place : ℕ) (text behind : List ℕ) (o : Option Sheet) → IsPart size text place o → behind ≡ take (n * size) (drop ((place + 1) * size) text)
    → with_behind o behind ≡ take (suc n * size) (drop (place * size) text)
part_more size n place text behind None beyond rest =
    let none : drop (place * size) text ≡ [] = drop_all (place * size) text beyond in
    sym (ap (take (suc n * size)) none ∙ take_nil (suc n * size))
part_more size n place text behind (Some s) octets rest =
    let next : place * size + size ≡ (place + 1) * size = omega arith in
    let all : size + n * size ≡ suc n * size = omega arith in
    ap₂ ◌++◌ octets (rest ∙ ap (take (n * size)) (ap (λ k. drop k text) (sym next) ∙ sym (drop-drop size (place * size) text)))
    ∙ sym (take-add size (n * size) (drop (place * size) text)) ∙ ap (λ k. take k (drop (place * size) text)) all

pub parts_are : (size first end : ℕ) (text : List ℕ) (sheets : List Sheet) → ((place : ℕ) → first ≤ place → place < end → IsPart size text place (find (is_at (pos place)) sheets))
    → (n place : ℕ) → first ≤ place → place + n ≤ end → octets_from n sheets place ≡ take (n * size) (drop (place * size) text)
parts_are size first end text sheets each zero place above within = let e : 0 ≡ zero * size = omega arith in ap (λ n. take n (drop (place * size) text)) e
parts_are size first end text sheets each (suc n) place above within =
    part_more size n place text (octets_from n sheets (place + 1)) (find (is_at (pos place)) sheets) (each place above (omega (arith, within)))
    (parts_are size first end text sheets each n (place + 1) (omega (arith, above)) (omega (arith, within)))
