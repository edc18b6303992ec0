-- Kept heads of which some are left out, or moved, or to which some are added: they fit still, and
-- how many heads they are.
use Rattle.std.proofs.Common.{◌≡◌, ℕ, ◌+◌, ◌<◌, ◌≤◌, Bool, true, false, not, List, [], ◌∷◌, length, take, get_or, cond, suc, zero, refl, sym, ap, subst, ◌∙◌, true≢false, arith, Result, Ok}
use Rattle.std.specs.Prelude.{find, Option, Some, is_some, unwrap_or, if◌then◌else◌}
use Rattle.std.specs.List.{insert, remove}
use Rattle.std.specs.Str.{bytes_eq}
use Rattle.std.proofs.lemmas.List.Sums.{sum_by-insert, sum_by-remove}
use Rattle.std.proofs.lemmas.List.Filters.{sum_by-filter_both}
use Rattle.vault.specs.declared.answer.Head.{Head}
use Rattle.vault.specs.declared.fault.VaultFault.{VaultFault}
use Rattle.vault.specs.Changes.{Contents}
use Rattle.vault.specs.Calls.{heads_result}
use Rattle.vault.proofs.ListLemmas.{bytes_are}
use Rattle.recent.specs.Recalling.{KeptHeads, without, count, Fits}

abbrev pub FitsOne : KeptHeads → Contents → Type 0
FitsOne k c = heads_result k.maildrop c ≡ Ok k.heads

abbrev is_of : List ℕ → KeptHeads → Bool
is_of d k = bytes_eq k.maildrop d

abbrev heads_of : KeptHeads → ℕ
heads_of k = length k.heads

abbrev told : List Head → Result (List Head) VaultFault
told hs = Ok hs

-- ---- what is kept fits

pub taken_fits : (n : ℕ) (xs : List KeptHeads) (c : Contents) → Fits xs c → Fits (take n xs) c
taken_fits zero [] c h = tt
taken_fits zero (x ∷ xs) c h = tt
taken_fits (suc n) [] c h = tt
taken_fits (suc n) (x ∷ xs) c h = (h.0, taken_fits n xs c h.1)

pub fits_at : (xs : List KeptHeads) (i : ℕ) (d : KeptHeads) (c : Contents) → i < length xs → Fits xs c → FitsOne (get_or xs i d) c
fits_at [] i d c l h = absurd (omega (arith, l))
fits_at (x ∷ xs) zero d c l h = h.0
fits_at (x ∷ xs) (suc i) d c l h = fits_at xs i d c (omega (arith, l)) h.1

pub removed_fits : (xs : List KeptHeads) (i : ℕ) (c : Contents) → Fits xs c → Fits (remove xs i) c
removed_fits [] zero c h = tt
removed_fits [] (suc i) c h = tt
removed_fits (x ∷ xs) zero c h = h.1
removed_fits (x ∷ xs) (suc i) c h = (h.0, removed_fits xs i c h.1)

in_front : (x : KeptHeads) (xs : List KeptHeads) → insert xs 0 x ≡ x ∷ xs
in_front x [] = refl
in_front x (y ∷ ys) = refl

-- one more in front, or none
pub put_fits : (b : Bool) (x : KeptHeads) (xs now : List KeptHeads) (c : Contents) → now ≡ (if b then insert xs 0 x else xs)
    → FitsOne x c → Fits xs c → Fits now c
put_fits true x xs now c e one h = subst (λ (ks : List KeptHeads). Fits ks c) (sym (e ∙ in_front x xs)) (one, h)
put_fits false x xs now c e one h = subst (λ (ks : List KeptHeads). Fits ks c) (sym e) h

-- the one that was taken out fits
pub taken_out_fits : (xs : List KeptHeads) (i : ℕ) (x : KeptHeads) (c : Contents) → i < length xs → x ≡ get_or xs i x → Fits xs c → FitsOne x c
taken_out_fits xs i x c l e h = subst (λ (k : KeptHeads). FitsOne k c) (sym e) (fits_at xs i x c l h)

pub left_fits : (xs now : List KeptHeads) (i : ℕ) (c : Contents) → now ≡ remove xs i → Fits xs c → Fits now c
left_fits xs now i c e h = subst (λ (ks : List KeptHeads). Fits ks c) (sym e) (removed_fits xs i c h)

-- ---- what is found fits

found_if : (b : Bool) (d : List ℕ) (x k : KeptHeads) (o : Option KeptHeads) (c : Contents) → bytes_eq x.maildrop d ≡ b
    → cond b (Some x) o ≡ Some k → FitsOne x c → (o ≡ Some k → heads_result d c ≡ Ok k.heads) → heads_result d c ≡ Ok k.heads
found_if true d x k o c n e one rest =
    ap (λ (m : List ℕ). heads_result m c) (sym (bytes_are x.maildrop d n)) ∙ one
    ∙ ap (λ (p : Option KeptHeads). told (unwrap_or p x).heads) e
found_if false d x k o c n e one rest = rest e

pub found_fits : (d : List ℕ) (xs : List KeptHeads) (k : KeptHeads) (c : Contents) → find (is_of d) xs ≡ Some k → Fits xs c → heads_result d c ≡ Ok k.heads
found_fits d [] k c e h = absurd (true≢false (sym (ap is_some e)))
found_fits d (x ∷ xs) k c e h =
    found_if (bytes_eq x.maildrop d) d x k (find (is_of d) xs) c refl e h.0 (λ r. found_fits d xs k c r h.1)

pub copy_fits : (d : List ℕ) (xs : List KeptHeads) (k : KeptHeads) (hs : List Head) (c : Contents) → Some k ≡ find (is_of d) xs → hs ≡ k.heads
    → Fits xs c → heads_result d c ≡ Ok hs
copy_fits d xs k hs c e s h = found_fits d xs k c (sym e) h ∙ ap told (sym s)

-- ---- how many heads

pub put_count : (b : Bool) (x : KeptHeads) (xs now : List KeptHeads) → now ≡ (if b then insert xs 0 x else xs) → count now ≤ count xs + length x.heads
put_count true x xs now e = let s = ap count e ∙ sum_by-insert heads_of xs 0 x in omega (arith, s)
put_count false x xs now e = let s = ap count e in omega (arith, s)

pub moved_count : (xs mid now : List KeptHeads) (i : ℕ) (x : KeptHeads) → i < length xs → mid ≡ remove xs i → x ≡ get_or xs i x
    → count now ≤ count mid + length x.heads → count now ≤ count xs
moved_count xs mid now i x l m e le =
    let r = sum_by-remove heads_of xs i x l in
    let s = ap count m in
    let h = ap heads_of e in
    omega (arith, r, s, h, le)

pub without_count : (d : List ℕ) (xs : List KeptHeads) → count (without d xs) ≤ count xs
without_count d xs =
    let s = sum_by-filter_both (is_of d) (λ (k : KeptHeads). not (is_of d k)) (λ k. refl) heads_of xs in
    omega (arith, s)
