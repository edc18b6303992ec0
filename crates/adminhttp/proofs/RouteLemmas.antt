-- If a path has the parts of a route, the router finds that route.
use Rattle.std.proofs.Common.{◌≡◌, ℕ, ◌-◌, ◌<◌, List, [], ◌∷◌, ◌++◌, length, drop, Some, Bool, true, false, not, cond, ◌&&◌, ltb}
use Rattle.std.proofs.Common.{refl, sym, ap, ◌∙◌, arith, nat_eq, ◌==◌, length-append, lt-ltb, lit<}
use Rattle.std.proofs.lemmas.Bool.Decides.{nat_tests}
use Rattle.std.proofs.lemmas.Bool.{false≢true}
use Rattle.std.proofs.Math.ListN.{drop_of_length-le}
use Rattle.std.specs.List.{list_all, ends_with}
use Rattle.std.specs.Char.{is_digit, digit_value}
use Rattle.std.specs.Prelude.{nat_le, nat_lt}
use Rattle.std.proofs.lemmas.Str.Parse.{digit_from_value}
use Rattle.std.proofs.lemmas.Bool.{ltb-true}
use Rattle.creds.specs.Names.{is_name, is_name_octet, has_length}
use Rattle.office.specs.Numbers.{is_number}
use Rattle.matchit.specs.Rows.{Rows, param_token}
use Rattle.matchit.specs.Router.{map_key}
use Rattle.matchit.specs.Seek.{seek, first, param_step, has_slash, slash, segment, cuts}
use Rattle.matchit.proofs.SeekLemmas.{seek-empty, seek-drop, or_else-none, first-prefix}
use Rattle.matchit.proofs.RenameLemmas.{first-rename}

-- an octet of a part between slashes
abbrev pub is_part_octet : ℕ → Bool
is_part_octet b = ltb b 256 && not (b == slash)

-- a part between slashes
pub record IsPart (part : List ℕ) : Type 0 where
  pub octets : list_all is_part_octet part ≡ true
  pub some : 0 < length part

and_left : (p q : Bool) → (p && q) ≡ true → p ≡ true
and_left true q h = refl
and_left false q h = absurd (false≢true h)

and_right : (p q : Bool) → (p && q) ≡ true → q ≡ true
and_right true q h = h
and_right false q h = absurd (false≢true h)

not_true : (p : Bool) → not p ≡ true → p ≡ false
not_true true h = absurd (false≢true h)
not_true false h = refl

no_slash : (part : List ℕ) → list_all is_part_octet part ≡ true → has_slash part ≡ false
no_slash [] h = refl
no_slash (b ∷ part) h =
    let e : (b == slash) ≡ false = not_true _ (and_right (ltb b 256) _ (and_left (is_part_octet b) _ h)) in
    rw e (no_slash part (and_right (is_part_octet b) _ h))

not_param : (b : ℕ) → is_part_octet b ≡ true → (param_token == b) ≡ false
not_param b h =
    let lt : ltb b 256 ≡ true = and_left (ltb b 256) _ h in
    grind (arith, nat_tests)

-- ---- a parameter at the end

last_of : (k b : ℕ) (p : List ℕ) → (param_token == b) ≡ false → has_slash (b ∷ p) ≡ false → first ((param_token ∷ [], k) ∷ []) (b ∷ p) ≡ Some k
unfolding seek param_step
last_of k b p e none =
    let whole : length (b ∷ p) - 1 ≡ length p = omega arith in
    let past : drop (length p) p ≡ [] = drop_of_length-le p (omega arith) in
    rw (e, seek-empty 0 p, none, whole, seek-drop (length p) (([], k) ∷ []) p, past) refl

pub last_part : {K : Type 0} (key : K) (part : List ℕ) → IsPart part → first ((param_token ∷ [], key) ∷ []) part ≡ Some key
last_part key [] h = absurd (omega (arith, h.some))
last_part key (b ∷ p) h =
    first-rename (λ (k : ℕ). key) ((param_token ∷ [], 0) ∷ []) (b ∷ p)
    ∙ ap (map_key (λ (k : ℕ). key)) (last_of 0 b p (not_param b (and_left (is_part_octet b) _ h.octets)) (no_slash (b ∷ p) h.octets))

-- ---- a parameter before a slash

segment_step : (b : ℕ) (part rest : List ℕ) (v : Bool) → (b == slash) ≡ v → cond v true (has_slash part) ≡ false
    → (has_slash part ≡ false → segment (part ++ slash ∷ rest) ≡ part ++ slash ∷ [])
    → cond v (b ∷ []) (b ∷ segment (part ++ slash ∷ rest)) ≡ b ∷ (part ++ slash ∷ [])
segment_step b part rest true e h more = absurd (false≢true (sym h))
segment_step b part rest false e h more = ap (λ xs. b ∷ xs) (more h)

segment_of : (part rest : List ℕ) → has_slash part ≡ false → segment (part ++ slash ∷ rest) ≡ part ++ slash ∷ []
segment_of [] rest h = refl
segment_of (b ∷ part) rest h = segment_step b part rest (b == slash) refl h (segment_of part rest)

drop_part : (part rest : List ℕ) → drop (length part) (part ++ rest) ≡ rest
drop_part [] rest = refl
drop_part (b ∷ part) rest = drop_part part rest

ends_with_slash : (part : List ℕ) → ends_with nat_eq (part ++ slash ∷ []) (slash ∷ []) ≡ true
ends_with_slash part =
    let len : length (part ++ slash ∷ []) - 1 ≡ length part = omega (arith, length-append {A = ℕ}) in
    rw (len, drop_part part (slash ∷ [])) refl

cuts_part : (part : List ℕ) → 0 < length part → cuts (part ++ slash ∷ []) (slash ∷ []) ≡ true
cuts_part part some =
    let longer : ltb 1 (length (part ++ slash ∷ [])) ≡ true = lt-ltb 1 (length (part ++ slash ∷ [])) (omega (arith, length-append {A = ℕ})) in
    rw (longer, ends_with_slash part) refl

param_of : (k : ℕ) (w part rest : List ℕ) → has_slash part ≡ false → 0 < length part
    → param_step ((slash ∷ w, k) ∷ []) (part ++ slash ∷ rest) ≡ (length part, (slash ∷ w, k) ∷ [])
unfolding param_step
param_of k w part rest none some =
    let len : length (part ++ slash ∷ []) - 1 ≡ length part = omega (arith, length-append {A = ℕ}) in
    rw (segment_of part rest none, cuts_part part some, len) refl

mid_first : (k b : ℕ) (w path : List ℕ) → (param_token == b) ≡ false
    → first ((param_token ∷ slash ∷ w, k) ∷ []) (b ∷ path)
    ≡ seek ((param_step ((slash ∷ w, k) ∷ []) (b ∷ path)).0 - 1) (param_step ((slash ∷ w, k) ∷ []) (b ∷ path)).1 path
unfolding seek
mid_first k b w path e = rw (e, seek-empty 0 path) (or_else-none _)

mid_of : (k b : ℕ) (w p rest : List ℕ) → (param_token == b) ≡ false → has_slash (b ∷ p) ≡ false
    → first ((param_token ∷ slash ∷ w, k) ∷ []) (b ∷ (p ++ slash ∷ rest)) ≡ first ((w, k) ∷ []) rest
mid_of k b w p rest e none =
    let taken = param_of k w (b ∷ p) rest none (omega arith) in
    let whole : length (b ∷ p) - 1 ≡ length p = omega arith in
    mid_first k b w (p ++ slash ∷ rest) e
    ∙ ap (λ (ps : ℕ × Rows). seek (ps.0 - 1) ps.1 (p ++ slash ∷ rest)) taken
    ∙ ap (λ (n : ℕ). seek n ((slash ∷ w, k) ∷ []) (p ++ slash ∷ rest)) whole
    ∙ seek-drop (length p) ((slash ∷ w, k) ∷ []) (p ++ slash ∷ rest)
    ∙ ap (λ (xs : List ℕ). seek 0 ((slash ∷ w, k) ∷ []) xs) (drop_part p (slash ∷ rest))
    ∙ first-prefix (slash ∷ []) ((w, k) ∷ []) (slash ∷ rest) (lit< tt, tt)

pub mid_part : (k : ℕ) (w part rest : List ℕ) → IsPart part
    → first ((param_token ∷ slash ∷ w, k) ∷ []) (part ++ slash ∷ rest) ≡ first ((w, k) ∷ []) rest
mid_part k w [] rest h = absurd (omega (arith, h.some))
mid_part k w (b ∷ p) rest h = mid_of k b w p rest (not_param b (and_left (is_part_octet b) _ h.octets)) (no_slash (b ∷ p) h.octets)

-- ---- the parts of the routes

-- `{clerk}/{maildrop}/{class}/{action}`
abbrev four : List ℕ
four = param_token ∷ slash ∷ param_token ∷ slash ∷ param_token ∷ slash ∷ param_token ∷ []

pub four_parts : {K : Type 0} (key : K) (a b c d : List ℕ) → IsPart a → IsPart b → IsPart c → IsPart d
    → first ((four, key) ∷ []) (a ++ slash ∷ (b ++ slash ∷ (c ++ slash ∷ d))) ≡ Some key
four_parts key a b c d ha hb hc hd =
    first-rename (λ (k : ℕ). key) ((four, 0) ∷ []) (a ++ slash ∷ (b ++ slash ∷ (c ++ slash ∷ d)))
    ∙ ap (map_key (λ (k : ℕ). key)) (
    mid_part 0 (param_token ∷ slash ∷ param_token ∷ slash ∷ param_token ∷ []) a (b ++ slash ∷ (c ++ slash ∷ d)) ha
    ∙ mid_part 0 (param_token ∷ slash ∷ param_token ∷ []) b (c ++ slash ∷ d) hb
    ∙ mid_part 0 (param_token ∷ []) c d hc
    ∙ last_part 0 d hd
    )

all_more : (p q : ℕ → Bool) (xs : List ℕ) → ((b : ℕ) → p b ≡ true → q b ≡ true) → list_all p xs ≡ true → list_all q xs ≡ true
all_more p q [] f h = refl
all_more p q (x ∷ xs) f h = rw (f x (and_left (p x) _ h)) (all_more p q xs f (and_right (p x) _ h))

of_name : (b : ℕ) → is_name_octet b ≡ true → is_part_octet b ≡ true
of_name b h = grind (arith, nat_tests)

of_digit : (b : ℕ) → is_digit b 10 ≡ true → is_part_octet b ≡ true
of_digit b h =
    let below : digit_value b < 10 = grind (arith, nat_tests) in
    let range = digit_from_value b below in
    grind (arith, nat_tests, range)

pub name_part : (part : List ℕ) → is_name part ≡ true → IsPart part
name_part part h = record {
  octets = all_more is_name_octet is_part_octet part of_name (and_right (has_length 1 32 part) _ h);
  some = ltb-true 0 (length part) (and_left (nat_le 1 (length part)) _ (and_left (has_length 1 32 part) _ h));
}

pub number_part : (part : List ℕ) → is_number part ≡ true → IsPart part
number_part part h =
    let digits : (nat_lt 0 (length part) && list_all (λ b. is_digit b 10) part) ≡ true = and_left _ _ (and_left _ _ h) in
    record {
      octets = all_more (λ b. is_digit b 10) is_part_octet part of_digit (and_right (nat_lt 0 (length part)) _ digits);
      some = ltb-true 0 (length part) (and_left (nat_lt 0 (length part)) _ digits);
    }
