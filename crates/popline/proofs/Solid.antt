-- Words without an octet, and lines that are made of words.
use Rattle.std.proofs.Common.{◌≡◌, ℕ, zero, suc, ◌+◌, ◌<◌, ◌≤◌, List, [], ◌∷◌, ◌++◌, Bool, true, false, ◌==◌, length, take, drop, map, refl, sym, ◌∙◌, ap, subst, arith, ⊎_elim}
use Rattle.std.proofs.Common.{take_all, append_assoc, append-nil, length-append, Some, lt-ltb, replicate}
use Rattle.std.proofs.lemmas.Bool.{cases_Bool, eqb-true, and_parts}
use Rattle.std.proofs.Math.Bool.{and-false}
use Rattle.std.proofs.Math.Seq.{take-append_seam, drop-append-add}
use Rattle.std.specs.List.{slice_split, position, position_or_len, before_first, after_first, list_all, join_with_byte}
use Rattle.popline.specs.declared.command.Keyword.{Keyword}
use Rattle.popline.specs.declared.command.Keyword.TheVariants as keyword
use Rattle.popline.specs.Commands.{is_space, lowered, trimmed, arguments}
use Rattle.popline.specs.Spelling.{word_of}
use Rattle.popline.proofs.Words.{trimmed-space}

-- no octet passes
abbrev pub Without : (ℕ → Bool) → List ℕ → Type 0
Without p [] = Unit {0}
Without p (b ∷ bs) = (p b ≡ false) × Without p bs

-- an octet that passes a test which another fails isn't that one
pub differs : (P : ℕ → Bool) (s : ℕ) → P s ≡ false → (b : ℕ) → P b ≡ true → (b == s) ≡ false
differs P s h b e = ⊎_elim
    (λ (same : (b == s) ≡ true).
    let at : b ≡ s = eqb-true b s same in
    let passes : P s ≡ true = subst (λ (x : ℕ). P x ≡ true) at e in
    let wrong : true ≡ false = sym passes ∙ h in cc)
    (λ (other : (b == s) ≡ false). other)
    (cases_Bool (b == s))

pub without : (P : ℕ → Bool) (s : ℕ) → P s ≡ false → (w : List ℕ) → list_all P w ≡ true → Without (λ b. b == s) w
without P s h [] e = tt
without P s h (b ∷ bs) e = let both = and_parts (P b) (list_all P bs) e in (differs P s h b both.0, without P s h bs both.1)

pub without-append : (p : ℕ → Bool) (x y : List ℕ) → Without p x → Without p y → Without p (x ++ y)
without-append p [] y h g = g
without-append p (b ∷ bs) y (e, h) g = (e, without-append p bs y h g)

lowered_space : (b : ℕ) → is_space (lowered b) ≡ false → is_space b ≡ false
lowered_space b e = ⊎_elim
    (λ (same : is_space b ≡ true).
    let at : b ≡ 32 = eqb-true b 32 same in
    let wrong : is_space (lowered 32) ≡ false = subst (λ (x : ℕ). is_space (lowered x) ≡ false) at e in cc)
    (λ (other : is_space b ≡ false). other)
    (cases_Bool (is_space b))

without_lowered : (w : List ℕ) → Without is_space (map lowered w) → Without is_space w
without_lowered [] h = tt
without_lowered (b ∷ bs) (e, h) = (lowered_space b e, without_lowered bs h)

word_without : (k : Keyword) → Without is_space (word_of k)
word_without keyword.Top = (refl, (refl, (refl, tt)))
word_without k = (refl, (refl, (refl, (refl, tt))))

-- a keyword has no space
pub keyword_without : (k : Keyword) (w : List ℕ) → map lowered w ≡ word_of k → Without is_space w
keyword_without k w e = without_lowered w (subst (Without is_space) (sym e) (word_without k))

-- ---- where a list is split

place : (p : ℕ → Bool) (w : List ℕ) (s : ℕ) (rest : List ℕ) → Without p w → p s ≡ true → position_or_len p (w ++ s ∷ rest) ≡ length w
place p [] s rest h e = rw e refl
place p (b ∷ bs) s rest (f, h) e = rw (f, place p bs s rest h e) (omega arith)

place_none : (p : ℕ → Bool) (w : List ℕ) → Without p w → position_or_len p w ≡ length w
place_none p [] h = refl
place_none p (b ∷ bs) (f, h) = rw (f, place_none p bs h) (omega arith)

pub position_at : (p : ℕ → Bool) (w : List ℕ) (s : ℕ) (rest : List ℕ) → Without p w → p s ≡ true → position p (w ++ s ∷ rest) ≡ Some (length w)
position_at p w s rest h e =
    let lt : length w < length (w ++ s ∷ rest) = omega (arith, length-append w (s ∷ rest)) in
    rw (place p w s rest h e, lt-ltb (length w) (length (w ++ s ∷ rest)) lt) refl

pub before_at : (p : ℕ → Bool) (w : List ℕ) (s : ℕ) (rest : List ℕ) → Without p w → p s ≡ true → before_first p (w ++ s ∷ rest) ≡ w
before_at p w s rest h e = ap (λ n. take n (w ++ s ∷ rest)) (place p w s rest h e) ∙ take-append_seam w (s ∷ rest)

pub after_at : (p : ℕ → Bool) (w : List ℕ) (s : ℕ) (rest : List ℕ) → Without p w → p s ≡ true → after_first p (w ++ s ∷ rest) ≡ rest
after_at p w s rest h e = ap (λ n. drop (n + 1) (w ++ s ∷ rest)) (place p w s rest h e) ∙ drop-append-add w (s ∷ rest) 1

before_all : (p : ℕ → Bool) (w : List ℕ) → Without p w → before_first p w ≡ w
before_all p w h = let all : length w ≤ length w = omega arith in ap (λ n. take n w) (place_none p w h) ∙ take_all (length w) w all

split_word : (w rest : List ℕ) → Without is_space w → slice_split is_space (w ++ 32 ∷ rest) ≡ w ∷ slice_split is_space rest
split_word [] rest h = refl
split_word (b ∷ bs) rest (e, h) = rw (e, split_word bs rest h) refl

split_last : (w : List ℕ) → Without is_space w → slice_split is_space w ≡ w ∷ []
split_last [] h = refl
split_last (b ∷ bs) (e, h) = rw (e, split_last bs h) refl

-- ---- what is trimmed

trimmed-without : (w : List ℕ) → Without is_space w → trimmed w ≡ w
trimmed-without [] h = refl
trimmed-without (b ∷ bs) (e, h) = rw (e, trimmed-without bs h) refl

trimmed-spaces : (zs : List ℕ) → list_all is_space zs ≡ true → trimmed zs ≡ []
trimmed-spaces [] h = refl
trimmed-spaces (z ∷ zs) h = rw h refl

not_all_spaces : (zs : List ℕ) → trimmed zs ≡ zs → 0 < length zs → list_all is_space zs ≡ false
not_all_spaces zs e h = ⊎_elim
    (λ (all : list_all is_space zs ≡ true). let empty : zs ≡ [] = sym e ∙ trimmed-spaces zs all in let none : length zs ≡ 0 = ap length empty in absurd (omega arith))
    (λ (other : list_all is_space zs ≡ false). other)
    (cases_Bool (list_all is_space zs))

-- nothing is trimmed of a line whose end is whole
trimmed-onto : (xs ys : List ℕ) → trimmed ys ≡ ys → 0 < length ys → trimmed (xs ++ ys) ≡ xs ++ ys
trimmed-onto [] ys e h = e
trimmed-onto (x ∷ xs) ys e h =
    let whole = trimmed-onto xs ys e h in
    let some : 0 < length (xs ++ ys) = omega (arith, length-append xs ys) in
    rw (not_all_spaces (xs ++ ys) whole some, and-false (is_space x), whole) refl

trimmed-behind : (xs : List ℕ) (n : ℕ) → trimmed (xs ++ replicate n 32) ≡ trimmed xs
trimmed-behind xs zero = ap trimmed (append-nil xs)
trimmed-behind xs (suc n) = ap trimmed (sym (append_assoc xs (32 ∷ []) (replicate n 32))) ∙ (trimmed-behind (xs ++ 32 ∷ []) n ∙ trimmed-space xs)

-- ---- lines of words

-- words of one octet or more, without a space
abbrev pub AllSolid : List (List ℕ) → Type 0
AllSolid [] = Unit {0}
AllSolid (w ∷ ws) = (0 < length w) × (Without is_space w × AllSolid ws)

join_long : (w : List ℕ) (ws : List (List ℕ)) → 0 < length w → 0 < length (join_with_byte 32 (w ∷ ws))
join_long w [] h = h
join_long w (v ∷ ws) h = omega (arith, length-append w (32 ∷ join_with_byte 32 (v ∷ ws)))

trimmed-join : (w : List ℕ) (ws : List (List ℕ)) → Without is_space w → AllSolid ws → trimmed (join_with_byte 32 (w ∷ ws)) ≡ join_with_byte 32 (w ∷ ws)
trimmed-join w [] h g = trimmed-without w h
trimmed-join w (v ∷ ws) h (some, (solid, g)) =
    let ys = join_with_byte 32 (v ∷ ws) in
    let long = join_long v ws some in
    let longer : 0 < length (32 ∷ ys) = omega arith in
    trimmed-onto w (32 ∷ ys) (trimmed-onto (32 ∷ []) ys (trimmed-join v ws solid g) long) longer

split_join : (w : List ℕ) (ws : List (List ℕ)) → Without is_space w → AllSolid ws → slice_split is_space (join_with_byte 32 (w ∷ ws)) ≡ w ∷ ws
split_join w [] h g = split_last w h
split_join w (v ∷ ws) h (some, (solid, g)) = split_word w (join_with_byte 32 (v ∷ ws)) h ∙ ap (λ x. w ∷ x) (split_join v ws solid g)

pub before_join : (w : List ℕ) (ws : List (List ℕ)) (n : ℕ) → Without is_space w → before_first is_space (join_with_byte 32 (w ∷ ws) ++ replicate n 32) ≡ w
before_join w [] zero h = ap (before_first is_space) (append-nil w) ∙ before_all is_space w h
before_join w [] (suc n) h = before_at is_space w 32 (replicate n 32) h refl
before_join w (v ∷ ws) n h =
    ap (before_first is_space) (append_assoc w (32 ∷ join_with_byte 32 (v ∷ ws)) (replicate n 32))
    ∙ before_at is_space w 32 (join_with_byte 32 (v ∷ ws) ++ replicate n 32) h refl

-- the arguments of a line are the words that it is made of
pub arguments-join : (w : List ℕ) (ws : List (List ℕ)) (n : ℕ) → Without is_space w → AllSolid ws → arguments (join_with_byte 32 (w ∷ ws) ++ replicate n 32) ≡ ws
arguments-join w ws n h g =
    ap (λ line. drop 1 (slice_split is_space line)) (trimmed-behind (join_with_byte 32 (w ∷ ws)) n ∙ trimmed-join w ws h g) ∙ ap (drop 1) (split_join w ws h g)
