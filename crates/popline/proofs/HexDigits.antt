-- Hexadecimal digits of either case.
use Rattle.std.proofs.Common.{◌≡◌, ℕ, zero, suc, ◌+◌, ◌*◌, ◌/◌, ◌%◌, ◌<◌, ◌≤◌, List, [], ◌∷◌, Bool, true, false, ◌&&◌, ◌==◌, length, map, refl, sym, ◌∙◌, ap, subst, arith, ⊎_elim}
use Rattle.std.proofs.Common.{inl, inr, Option, Some, None, Result, Ok, Err, nat_lt, le-ltb, slice_index}
use Rattle.std.proofs.Math.Bool.{and-false}
use Rattle.std.proofs.lemmas.List.{length-map}
use Rattle.std.proofs.lemmas.Bool.{and_parts, cases_lt, eqb-true, lt-leb}
use Rattle.hex.specs.Hex.{IsBytes, lower_digits, encode_with, encode_lower, hex_digit_value, value_at, digit_or_error, pair_value, decode_pairs, decode_sized, ◌>>=◌}
use Rattle.hex.specs.declared.error.FromHexError.{FromHexError}
use Rattle.hex.proofs.HexLemmas.{IsDigits-lower_digits, length-encode_with, decode_of-even, decode_of-ok, decode_sized-twice, decode_sized-ok}
use Rattle.hex.proofs.Pairs.{cons_byte, decode_pairs-ok_pair}
use Rattle.popline.specs.Commands.{lowered}
use Rattle.popline.specs.Spelling.{IsDigest}

-- ---- one digit

abbrev is_same : Option ℕ → Option ℕ → Bool
is_same None None = true
is_same (Some v) (Some w) = v == w
is_same _ _ = false

-- a digit's value is below 16, and there its table has the digit in small letters
abbrev is_written : Option ℕ → ℕ → Bool
is_written None c = true
is_written (Some v) c = nat_lt v 16 && slice_index lower_digits v == lowered c

-- the test of one octet: it counts as in small letters, and is written so
abbrev agrees : ℕ → Bool
agrees c = is_same (hex_digit_value (lowered c)) (hex_digit_value c) && is_written (hex_digit_value c) c

abbrev all_agree : ℕ → Bool
all_agree zero = true
all_agree (suc n) = agrees n && all_agree n

all_agree-at : (n k : ℕ) → all_agree n ≡ true → k < n → agrees k ≡ true
all_agree-at zero k h lt = absurd (omega arith)
all_agree-at (suc n) k h lt =
    let parts = and_parts (agrees n) (all_agree n) h in
    elim (cases_lt k n) [
      | inl below ↦ all_agree-at n k parts.1 below
      | inr top ↦
          let e : k ≡ n = omega arith in
          rw e parts.0
    ]

octets_agree : all_agree 103 ≡ true
octets_agree = refl

same_options : (o p : Option ℕ) → is_same o p ≡ true → o ≡ p
same_options None None h = refl
same_options (Some v) (Some w) h = ap Some (eqb-true v w h)
same_options None (Some w) h = let wrong : false ≡ true = h in cc
same_options (Some v) None h = let wrong : false ≡ true = h in cc

no_digit : (c : ℕ) → 102 < c → hex_digit_value c ≡ None
no_digit c h =
    let a : 70 < c = omega arith in
    let b : 57 < c = omega arith in
    rw (lt-leb c 70 a, lt-leb c 102 h, lt-leb c 57 b) (simp and-false)

-- a digit counts as it does in small letters
digit_lowered : (c : ℕ) → hex_digit_value (lowered c) ≡ hex_digit_value c
digit_lowered c = ⊎_elim
    (λ (small : c < 103).
    same_options (hex_digit_value (lowered c)) (hex_digit_value c)
    (and_parts (is_same (hex_digit_value (lowered c)) (hex_digit_value c)) (is_written (hex_digit_value c) c) (all_agree-at 103 c octets_agree small)).0)
    (λ (great : 103 ≤ c).
    let above : 90 < c = omega arith in
    rw (lt-leb c 90 above) (simp and-false))
    (cases_lt c 103)

digit_written : (c v : ℕ) → hex_digit_value c ≡ Some v → (v < 16) × (slice_index lower_digits v ≡ lowered c)
digit_written c v e = ⊎_elim
    (λ (small : c < 103).
    let test = (and_parts (is_same (hex_digit_value (lowered c)) (hex_digit_value c)) (is_written (hex_digit_value c) c) (all_agree-at 103 c octets_agree small)).1 in
    let known : is_written (Some v) c ≡ true = ap (λ o. is_written o c) (sym e) ∙ test in
    let parts = and_parts (nat_lt v 16) (slice_index lower_digits v == lowered c) known in
    (below v 16 parts.0, eqb-true (slice_index lower_digits v) (lowered c) parts.1))
    (λ (great : 103 ≤ c). let above : 102 < c = omega arith in let wrong : ◌≡◌ {A = Option ℕ} None (Some v) = sym (no_digit c above) ∙ e in cc)
    (cases_lt c 103)
  where
    below : (m n : ℕ) → nat_lt m n ≡ true → m < n
    below m n h = ⊎_elim
        (λ (lt : m < n). lt)
        (λ (le : n ≤ m). let wrong : true ≡ false = sym h ∙ le-ltb m n le in cc)
        (cases_lt m n)

-- ---- many digits

-- digits that are the octets' text, in letters of any case, decode to the octets
pairs_found : (i : ℕ) (bytes s : List ℕ) → IsBytes bytes → map lowered s ≡ encode_lower bytes → decode_pairs i s ≡ Ok bytes
unfolding encode_with decode_pairs
pairs_found i [] [] h e = refl
pairs_found i [] (c ∷ s) h e = let wrong : lowered c ∷ map lowered s ≡ [] = e in cc
pairs_found i (b ∷ bytes) [] h e = let wrong : [] ≡ slice_index lower_digits (b / 16) ∷ slice_index lower_digits (b % 16) ∷ encode_lower bytes = e in cc
pairs_found i (b ∷ bytes) (c ∷ []) h e =
    let wrong : lowered c ∷ [] ≡ slice_index lower_digits (b / 16) ∷ slice_index lower_digits (b % 16) ∷ encode_lower bytes = e in
    let empty : ◌≡◌ {A = List ℕ} [] (slice_index lower_digits (b % 16) ∷ encode_lower bytes) = cc in cc
pairs_found i (b ∷ bytes) (c ∷ d ∷ s) h e =
    let parts : lowered c ∷ lowered d ∷ map lowered s ≡ slice_index lower_digits (b / 16) ∷ slice_index lower_digits (b % 16) ∷ encode_lower bytes = e in
    let first : lowered c ≡ slice_index lower_digits (b / 16) = cc in
    let second : lowered d ≡ slice_index lower_digits (b % 16) = cc in
    let rest : map lowered s ≡ encode_lower bytes = cc in
    let fits : b < 256 = h 0 in
    let high : b / 16 < 16 = omega arith in
    let low : b % 16 < 16 = omega arith in
    let hc : hex_digit_value c ≡ Some (b / 16) = sym (digit_lowered c) ∙ (ap hex_digit_value first ∙ IsDigits-lower_digits (b / 16) high) in
    let hd : hex_digit_value d ≡ Some (b % 16) = sym (digit_lowered d) ∙ (ap hex_digit_value second ∙ IsDigits-lower_digits (b % 16) low) in
    let vc : value_at c i ≡ Ok (b / 16) = ap (digit_or_error c i) hc in
    let vd : value_at d (i + 1) ≡ Ok (b % 16) = ap (digit_or_error d (i + 1)) hd in
    let pair : pair_value c d i ≡ Ok (b / 16 * 16 + b % 16) = rw (vc, vd) refl in
    let ih = pairs_found (i + 2) bytes s (λ k. h (suc k)) rest in
    let whole : b / 16 * 16 + b % 16 ≡ b = omega arith in
    decode_pairs-ok_pair i c d _ s pair ∙ ap (cons_byte (b / 16 * 16 + b % 16)) ih ∙ ap (λ (v : ℕ). Ok (v ∷ bytes)) whole

bind_ok : {A B : Type 0} (r : Result A FromHexError) (f : A → Result B FromHexError) (y : B) → (r >>= f) ≡ Ok y → (x : A) × (r ≡ Ok x) × (f x ≡ Ok y)
bind_ok (Ok x) f y h = (x, refl, h)
bind_ok {A} {B} (Err e) f y h = let wrong : ◌≡◌ {A = Result B FromHexError} (Err e) (Ok y) = h in cc

value_read : (c i v : ℕ) → value_at c i ≡ Ok v → hex_digit_value c ≡ Some v
value_read c i v h = by_value (hex_digit_value c) h
  where
    by_value : (o : Option ℕ) → digit_or_error c i o ≡ Ok v → o ≡ Some v
    by_value (Some w) g = let same : w ≡ v = cc in ap Some same
    by_value None g = let wrong : digit_or_error c i None ≡ Ok v = g in cc

-- what decodes is the octets' text, in letters of any case
pairs_written : (i : ℕ) (s bytes : List ℕ) → decode_pairs i s ≡ Ok bytes → map lowered s ≡ encode_lower bytes
unfolding encode_with decode_pairs
pairs_written i [] bytes h = let e : ◌≡◌ {A = List ℕ} [] bytes = cc in subst (λ (x : List ℕ). [] ≡ encode_lower x) e refl
pairs_written i (c ∷ []) bytes h = cc h
pairs_written i (c ∷ d ∷ s) bytes h =
    let (b, pair, more) = bind_ok (pair_value c d i) _ bytes h in
    let (x, high, low_more) = bind_ok (value_at c i) _ b pair in
    let (y, low, sum) = bind_ok (value_at d (i + 1)) _ b low_more in
    let (bs, rest, whole) = bind_ok (decode_pairs (i + 2) s) _ bytes more in
    let ih = pairs_written (i + 2) s bs rest in
    let first = digit_written c x (value_read c i x high) in
    let second = digit_written d y (value_read d (i + 1) y low) in
    let octet : x * 16 + y ≡ b = cc in
    let all : b ∷ bs ≡ bytes = cc in
    let small : x < 16 = first.0 in
    let least : y < 16 = second.0 in
    let quotient : b / 16 ≡ x = omega arith in
    let remainder : b % 16 ≡ y = omega arith in
    subst (λ (z : List ℕ). lowered c ∷ lowered d ∷ map lowered s ≡ encode_lower z) all
    (rw (quotient, remainder, first.1, second.1, ih) refl)

-- ---- a digest

pub decoded : (d a : List ℕ) → IsDigest d a → decode_sized a 16 ≡ Ok d
decoded d a (size, bytes, e) =
    let long : length (map lowered a) ≡ 2 * length d = ap length e ∙ length-encode_with lower_digits d in
    let twice : length a ≡ 2 * 16 = omega (arith, length-map a lowered) in
    let even : length a % 2 ≡ 0 = omega arith in
    decode_sized-twice a 16 twice ∙ (decode_of-even a even ∙ pairs_found 0 d a bytes e)

pub written : (d a : List ℕ) → decode_sized a 16 ≡ Ok d → IsDigest d a
written d a h =
    let twice = decode_sized-ok a 16 d h in
    let found = sym (decode_sized-twice a 16 twice) ∙ h in
    let facts = decode_of-ok a d found in
    let long : length a ≡ 2 * length d = facts.2 in
    let size : length d ≡ 16 = omega arith in
    (size, facts.3, pairs_written 0 a d (sym (decode_of-even a facts.0) ∙ found))
