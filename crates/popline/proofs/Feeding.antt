-- What a cutter holds as octets come one by one.
use Rattle.std.proofs.Common.{◌≡◌, ℕ, ◌+◌, ◌<◌, ◌≤◌, List, [], ◌∷◌, ◌++◌, Bool, true, false, length, take, drop, sym, ◌∙◌, ap, ap₂, arith, append_assoc, append-nil, eqb, get_or}
use Rattle.std.proofs.Common.{set, take_all, length-take}
use Rattle.std.proofs.lemmas.List.{drop_more, take_more_set, drop_all, take-append-le}
use Rattle.popline.specs.Cutting.{Held, begun, before_newline, has_newline, through_newline, fed}

abbrev holding : List ℕ → Bool → Held
holding octets whole = record { octets = octets; whole = whole }

take_front : (n : ℕ) (xs : List ℕ) → n ≤ 255 → take 255 (take n xs) ≡ take n xs
take_front n xs h = let e : length (take n xs) ≤ 255 = omega (arith, length-take n xs) in take_all 255 (take n xs) e

pub held_at_newline : (v : Held) (p xs : List ℕ) (i n : ℕ) → i < length p → eqb (get_or p i 0) 10 ≡ true → n ≤ 255
    → take 255 (take n xs ++ before_newline (drop i p)) ≡ take 255 (begun v ++ before_newline p) → has_newline (drop i p) ≡ has_newline p
    → holding (take n xs) true ≡ fed v p
held_at_newline v p xs i n lt e small octets whole =
    let d = drop_more p i 0 lt in
    let o : take n xs ≡ take 255 (begun v ++ before_newline p) =
    sym (take_front n xs small) ∙ (ap (take 255) (sym (append-nil (take n xs))) ∙ (rw (d, e) at octets)) in
    let w : true ≡ has_newline p = rw (d, e) at whole in
    ap₂ holding o w

pub taken_at_newline : (p : List ℕ) (i : ℕ) → i < length p → eqb (get_or p i 0) 10 ≡ true → i + through_newline (drop i p) ≡ through_newline p → i + 1 ≡ through_newline p
taken_at_newline p i lt e h = let d = drop_more p i 0 lt in rw (d, e) at h

pub held_at_end : (v : Held) (p xs : List ℕ) (i n : ℕ) → length p ≤ i → n ≤ 255
    → take 255 (take n xs ++ before_newline (drop i p)) ≡ take 255 (begun v ++ before_newline p) → has_newline (drop i p) ≡ has_newline p
    → holding (take n xs) false ≡ fed v p
held_at_end v p xs i n le small octets whole =
    let d = drop_all i p le in
    let o : take n xs ≡ take 255 (begun v ++ before_newline p) =
    sym (take_front n xs small) ∙ (ap (take 255) (sym (append-nil (take n xs))) ∙ (rw d at octets)) in
    let w : false ≡ has_newline p = rw d at whole in
    ap₂ holding o w

pub taken_more : (p : List ℕ) (i : ℕ) → i < length p → eqb (get_or p i 0) 10 ≡ false → i + through_newline (drop i p) ≡ through_newline p → i + 1 + through_newline (drop (i + 1) p) ≡ through_newline p
taken_more p i lt e h = let d = drop_more p i 0 lt in let k : i + (through_newline (drop (i + 1) p) + 1) ≡ through_newline p = rw (d, e) at h in omega arith

pub whole_more : (p : List ℕ) (i : ℕ) → i < length p → eqb (get_or p i 0) 10 ≡ false → has_newline (drop i p) ≡ has_newline p → has_newline (drop (i + 1) p) ≡ has_newline p
whole_more p i lt e h = let d = drop_more p i 0 lt in rw (d, e) at h

pub octets_more : (front p xs : List ℕ) (i n : ℕ) → i < length p → eqb (get_or p i 0) 10 ≡ false → n < length xs
    → take 255 (take n xs ++ before_newline (drop i p)) ≡ take 255 front
    → take 255 (take (n + 1) (set xs n (get_or p i 0)) ++ before_newline (drop (i + 1) p)) ≡ take 255 front
octets_more front p xs i n lt e room h =
    let d = drop_more p i 0 lt in
    let k : take 255 (take n xs ++ get_or p i 0 ∷ before_newline (drop (i + 1) p)) ≡ take 255 front = rw (d, e) at h in
    rw (take_more_set xs n (get_or p i 0) room, append_assoc (take n xs) (get_or p i 0 ∷ []) (before_newline (drop (i + 1) p))) k

pub octets_full : (front p xs : List ℕ) (i n : ℕ) → i < length p → eqb (get_or p i 0) 10 ≡ false → 255 ≤ n → n ≤ length xs
    → take 255 (take n xs ++ before_newline (drop i p)) ≡ take 255 front
    → take 255 (take n xs ++ before_newline (drop (i + 1) p)) ≡ take 255 front
octets_full front p xs i n lt e full all h =
    let long : 255 ≤ length (take n xs) = omega (arith, length-take n xs) in
    take-append-le 255 (take n xs) (before_newline (drop (i + 1) p)) long ∙ (sym (take-append-le 255 (take n xs) (before_newline (drop i p)) long) ∙ h)
