-- What is read is what is spelled.
use Rattle.std.proofs.Common.{◌≡◌, ℕ, zero, suc, ◌+◌, ◌-◌, ◌^◌, ◌<◌, ◌≤◌, List, [], ◌∷◌, ◌++◌, Bool, true, false, ◌==◌, ◌&&◌, cond, not, length, take, drop, get_or, map, min, refl}
use Rattle.std.proofs.Common.{sym, ◌∙◌, ap, ap₂, subst, arith, ⊎_elim, take_all, Option, Some, None, Result, Ok, Err, option_map, ok_or, nat_lt, lt-ltb, le-ltb, replicate}
use Rattle.std.proofs.Common.{add_comm, add-one, rules, zero-lt-suc, length-drop}
use Rattle.std.proofs.lemmas.Bool.{and_parts, cases_Bool, cases_lt, eqb-true}
use Rattle.std.proofs.lemmas.Option.{option_and_then_some}
use Rattle.std.proofs.lemmas.List.Sums.{split_at_first, passes_at_first}
use Rattle.std.proofs.lemmas.List.Splits.{slice_split_first, join_with_byte-slice_split}
use Rattle.std.proofs.lemmas.Slice.Eq.{bytes_eq-Decides}
use Rattle.std.specs.Str.{bytes_eq}
use Rattle.std.specs.List.{slice_split, list_all, position, position_or_len, before_first, after_first, join_with_byte}
use Rattle.std.specs.Result.{result_ok}
use Rattle.hex.specs.Hex.{decode_sized}
use Rattle.hex.specs.declared.error.FromHexError.{FromHexError}
use Rattle.creds.specs.Names.{is_name, is_digit, name_of, text_if}
use Rattle.creds.specs.LoginName.{login_name}
use Rattle.creds.specs.declared.login_name.LoginName.{LoginName}
use Rattle.popline.specs.declared.command.Keyword.{Keyword}
use Rattle.popline.specs.declared.command.Keyword.TheVariants as keyword
use Rattle.popline.specs.declared.command.LineFault.{LineFault}
use Rattle.popline.specs.declared.command.LineFault.TheVariants.{Unknown, Syntax}
use Rattle.popline.specs.Commands.{Command, Capa, User, Pass, Apop, Quit, Stat, ListAll, ListOne, UidlAll, UidlOne, Retr, Top, Dele, Rset, Noop, keyword_of, lowered, is_spelled}
use Rattle.popline.specs.Commands.{keyword_in, keywords, is_space, trimmed, arguments, value_of, number_of, digest_of, alone, with_one, with_two, with_arguments, with_password}
use Rattle.popline.specs.Commands.{command_with, command_by, both}
use Rattle.popline.specs.Spelling.{word_of, IsWord, IsNumeral, IsLogin, IsDigest, AreArguments, IsSpelling, SpellsWhatIsRead}
use Rattle.popline.proofs.HexDigits.{written}
use Rattle.popline.proofs.Words.{split_nowhere}

-- ---- lines

before_first-cons : (x : ℕ) (xs : List ℕ) → before_first is_space (x ∷ xs) ≡ cond (is_space x) [] (x ∷ before_first is_space xs)
before_first-cons x xs = by_test x (position_or_len is_space xs) xs (is_space x)
  where
    by_test : (x n : ℕ) (xs : List ℕ) (t : Bool) → take (cond (not t) (1 + n) 0) (x ∷ xs) ≡ cond t [] (x ∷ take n xs)
    by_test x n xs true = refl
    by_test x n xs false = ap (λ m. take m (x ∷ xs)) (add_comm 1 n ∙ add-one n)

-- the first word stays as it is if spaces follow
before_first-spaces : (t : List ℕ) (n : ℕ) → before_first is_space (t ++ replicate n 32) ≡ before_first is_space t
before_first-spaces [] zero = refl
before_first-spaces [] (suc n) = refl
before_first-spaces (x ∷ t) n =
    before_first-cons x (t ++ replicate n 32) ∙ (ap (λ ys. cond (is_space x) [] (x ∷ ys)) (before_first-spaces t n) ∙ sym (before_first-cons x t))

all_spaces : (xs : List ℕ) → list_all is_space xs ≡ true → (n : ℕ) × (xs ≡ replicate n 32)
all_spaces [] h = (0, refl)
all_spaces (x ∷ xs) h =
    let both = and_parts (is_space x) (list_all is_space xs) h in
    let (n, e) = all_spaces xs both.1 in
    (suc n, ap₂ (λ b bs. b ∷ bs) (eqb-true x 32 both.0) e)

-- what is trimmed is spaces at the end
trimmed_rest : (xs : List ℕ) → (n : ℕ) × (xs ≡ trimmed xs ++ replicate n 32)
trimmed_rest [] = (0, refl)
trimmed_rest (x ∷ xs) = ⊎_elim
    (λ (all : list_all is_space (x ∷ xs) ≡ true). let (n, e) = all_spaces (x ∷ xs) all in (n, rw all e))
    (λ (other : list_all is_space (x ∷ xs) ≡ false). let (n, e) = trimmed_rest xs in (n, rw other (ap (λ ys. x ∷ ys) e)))
    (cases_Bool (list_all is_space (x ∷ xs)))

-- a line's words: what stands before the first space, and the others
split_head : (t : List ℕ) → slice_split is_space t ≡ before_first is_space t ∷ drop 1 (slice_split is_space t)
split_head t = ⊎_elim
    (λ (lt : position_or_len is_space t < length t).
    let e = slice_split_first is_space t 0 lt in
    e ∙ ap (λ ws. before_first is_space t ∷ ws) (sym (ap (drop 1) e)))
    (λ (le : length t ≤ position_or_len is_space t).
    let e = split_nowhere t le in
    e ∙ ap₂ (λ w ws. w ∷ ws) (sym (take_all (position_or_len is_space t) t le)) (sym (ap (drop 1) e)))
    (cases_lt (position_or_len is_space t) (length t))

-- a line is its first word, its arguments and spaces
line_of_words : (line : List ℕ) → (n : ℕ) × (line ≡ join_with_byte 32 (before_first is_space line ∷ arguments line) ++ replicate n 32)
line_of_words line =
    let (n, e) = trimmed_rest line in
    let t = trimmed line in
    let first : before_first is_space t ≡ before_first is_space line = sym (ap (before_first is_space) e ∙ before_first-spaces t n) in
    let joined : t ≡ join_with_byte 32 (before_first is_space line ∷ arguments line) =
    sym (join_with_byte-slice_split 32 t) ∙ ap (join_with_byte 32) (split_head t ∙ ap (λ w. w ∷ arguments line) first) in
    (n, e ∙ ap (λ x. x ++ replicate n 32) joined)

-- ---- keywords

AreWords : List (List ℕ × Keyword) → Type 0
AreWords [] = Unit {0}
AreWords ((word, k) ∷ table) = (word ≡ word_of k) × AreWords table

word_in : (table : List (List ℕ × Keyword)) (w : List ℕ) (k : Keyword) → AreWords table → keyword_in table w ≡ Some k → IsWord (word_of k) w
unfolding AreWords
word_in [] w k h e = let wrong : ◌≡◌ {A = Option Keyword} None (Some k) = e in cc
word_in ((word, k') ∷ table) w k (same, h) e = ⊎_elim
    (λ (yes : is_spelled word w ≡ true).
    let found : Some k' ≡ Some k = rw yes at e in
    let which : k' ≡ k = cc in
    bytes_eq_true (map lowered w) word yes ∙ (same ∙ ap word_of which))
    (λ (other : is_spelled word w ≡ false). let later : keyword_in table w ≡ Some k = rw other at e in word_in table w k h later)
    (cases_Bool (is_spelled word w))
  where
    bytes_eq_true : (x y : List ℕ) → bytes_eq x y ≡ true → x ≡ y
    bytes_eq_true x y h = search (rules, bytes_eq-Decides x y)

-- what the table finds is spelled
pub word_found : (w : List ℕ) (k : Keyword) → keyword_in keywords w ≡ Some k → IsWord (word_of k) w
unfolding AreWords
word_found w k e = word_in keywords w k (refl, (refl, (refl, (refl, (refl, (refl, (refl, (refl, (refl, (refl, (refl, (refl, (refl, tt))))))))))))) e

-- ---- one argument

found_at : (s : ℕ) (a : List ℕ) (i : ℕ) → position (λ b. b == s) a ≡ Some i → a ≡ take i a ++ s ∷ drop (i + 1) a
found_at s a i e = ⊎_elim
    (λ (lt : position_or_len (λ b. b == s) a < length a).
    let place = position_or_len (λ b. b == s) a in
    let found : Some place ≡ Some i = rw lt-ltb at e in
    let same : place ≡ i = cc in
    let at : get_or a place 0 ≡ s = eqb-true (get_or a place 0) s (passes_at_first (λ b. b == s) a 0 lt) in
    subst (λ (j : ℕ). a ≡ take j a ++ s ∷ drop (j + 1) a) same
    (split_at_first (λ b. b == s) a 0 lt ∙ ap (λ b. take place a ++ b ∷ drop (place + 1) a) at))
    (λ (le : length a ≤ position_or_len (λ b. b == s) a). let found : ◌≡◌ {A = Option ℕ} None (Some i) = rw le-ltb at e in cc)
    (cases_lt (position_or_len (λ b. b == s) a) (length a))

name_is : (t c : List ℕ) → name_of t ≡ Some c → (is_name c ≡ true) × (t ≡ c)
name_is t c e = ⊎_elim
    (λ (yes : is_name t ≡ true).
    let found : Some t ≡ Some c = ap (λ x. text_if x t) (sym yes) ∙ e in
    let same : t ≡ c = cc in
    (subst (λ (x : List ℕ). is_name x ≡ true) same yes, same))
    (λ (other : is_name t ≡ false). let found : ◌≡◌ {A = Option (List ℕ)} None (Some c) = ap (λ x. text_if x t) (sym other) ∙ e in cc)
    (cases_Bool (is_name t))

login_is : (a : List ℕ) (name : LoginName) → login_name a ≡ Some name → IsLogin name a
unfolding login_name
login_is a name e =
    option_and_then_some _ _ name e (λ (i : ℕ) (at : position (λ b. b == 47) a ≡ Some i) rest.
    option_and_then_some _ _ name rest (λ (c : List ℕ) (clerk : name_of (take i a) ≡ Some c) others.
    option_and_then_some _ _ name others (λ (m : List ℕ) (maildrop : name_of (drop (i + 1) a) ≡ Some m) (whole : ◌≡◌ {A = Option LoginName} (Some (record { clerk = c; maildrop = m })) (Some name)).
    let same : ◌≡◌ {A = LoginName} (record { clerk = c; maildrop = m }) name = cc in
    let c_is = name_is (take i a) c clerk in
    let m_is = name_is (drop (i + 1) a) m maildrop in
    subst (λ (x : LoginName). IsLogin x a) same (c_is.0, m_is.0, found_at 47 a i at ∙ ap₂ (λ x y. x ++ 47 ∷ y) c_is.1 m_is.1))))

number_is : (a : List ℕ) (n : ℕ) → number_of a ≡ Some n → IsNumeral n a
number_is a n e = by_test (nat_lt 0 (length a) && list_all is_digit a) refl e
  where
    below : nat_lt 0 (length a) ≡ true → 0 < length a
    below h = ⊎_elim
        (λ (lt : 0 < length a). lt)
        (λ (le : length a ≤ 0). let wrong : true ≡ false = sym h ∙ le-ltb 0 (length a) le in cc)
        (cases_lt 0 (length a))

    by_test : (t : Bool) → (nat_lt 0 (length a) && list_all is_digit a) ≡ t → cond t (Some (min (value_of a) (2 ^ 64 - 1))) None ≡ Some n → IsNumeral n a
    by_test true h f =
        let both = and_parts (nat_lt 0 (length a)) (list_all is_digit a) h in
        let same : n ≡ min (value_of a) (2 ^ 64 - 1) = cc in
        (below both.0, both.1, same)
    by_test false h f = let wrong : ◌≡◌ {A = Option ℕ} None (Some n) = f in cc

digest_is : (a d : List ℕ) → digest_of a ≡ Some d → IsDigest d a
digest_is a d e = written d a (by_result (decode_sized a 16) e)
  where
    by_result : (r : Result (List ℕ) FromHexError) → result_ok r ≡ Some d → r ≡ Ok d
    by_result (Ok x) h = let same : x ≡ d = cc in ap Ok same
    by_result (Err f) h = let wrong : ◌≡◌ {A = Option (List ℕ)} None (Some d) = h in cc

-- ---- the arguments of a command

-- not PASS
abbrev pub IsOrdinary : Command → Type 0
IsOrdinary (Pass password) = ⊥
IsOrdinary c = Unit {0}

-- a command of this keyword, not PASS, and its arguments
pub record Fits (k : Keyword) (c : Command) (ws : List (List ℕ)) : Type 0 where
  pub keyword : keyword_of c ≡ k
  pub ordinary : IsOrdinary c
  pub arguments : AreArguments c ws

some_same : (x c : Command) → Some x ≡ Some c → x ≡ c
some_same x c e = cc

mapped : {A : Type 0} (f : A → Command) (o : Option A) (c : Command) → option_map f o ≡ Some c → (x : A) × (o ≡ Some x) × (f x ≡ c)
mapped f (Some x) c e = (x, refl, some_same (f x) c e)
mapped f None c e = let wrong : ◌≡◌ {A = Option Command} None (Some c) = e in cc

paired : {A B : Type 0} (f : A → B → Command) (o : Option A) (p : Option B) (c : Command) → both f o p ≡ Some c → (x : A) × (y : B) × (o ≡ Some x) × (p ≡ Some y) × (f x y ≡ c)
paired f (Some x) (Some y) c e = (x, y, refl, refl, some_same (f x y) c e)
paired f (Some x) None c e = let wrong : ◌≡◌ {A = Option Command} None (Some c) = e in cc
paired f None p c e = let wrong : ◌≡◌ {A = Option Command} None (Some c) = e in cc

fits_as : (k : Keyword) (x c : Command) (ws : List (List ℕ)) → x ≡ c → Fits k x ws → Fits k c ws
fits_as k x c ws e fit = subst (λ (y : Command). Fits k y ws) e fit

fits_none : (k : Keyword) (c : Command) → alone k ≡ Some c → Fits k c []
fits_none keyword.Capa c e = fits_as keyword.Capa Capa c [] (some_same Capa c e) (record { keyword = refl; ordinary = tt; arguments = refl })
fits_none keyword.Quit c e = fits_as keyword.Quit Quit c [] (some_same Quit c e) (record { keyword = refl; ordinary = tt; arguments = refl })
fits_none keyword.Stat c e = fits_as keyword.Stat Stat c [] (some_same Stat c e) (record { keyword = refl; ordinary = tt; arguments = refl })
fits_none keyword.List c e = fits_as keyword.List ListAll c [] (some_same ListAll c e) (record { keyword = refl; ordinary = tt; arguments = refl })
fits_none keyword.Uidl c e = fits_as keyword.Uidl UidlAll c [] (some_same UidlAll c e) (record { keyword = refl; ordinary = tt; arguments = refl })
fits_none keyword.Rset c e = fits_as keyword.Rset Rset c [] (some_same Rset c e) (record { keyword = refl; ordinary = tt; arguments = refl })
fits_none keyword.Noop c e = fits_as keyword.Noop Noop c [] (some_same Noop c e) (record { keyword = refl; ordinary = tt; arguments = refl })
fits_none k c e = let wrong : ◌≡◌ {A = Option Command} None (Some c) = e in cc

one_number : (k : Keyword) (f : ℕ → Command) (a : List ℕ) (c : Command) → ((n : ℕ) → IsNumeral n a → Fits k (f n) (a ∷ [])) → option_map f (number_of a) ≡ Some c → Fits k c (a ∷ [])
one_number k f a c fit e =
    let (n, found, same) = mapped f (number_of a) c e in
    fits_as k (f n) c (a ∷ []) same (fit n (number_is a n found))

fits_one : (k : Keyword) (a : List ℕ) (c : Command) → with_one k a ≡ Some c → Fits k c (a ∷ [])
fits_one keyword.User a c e =
    let (name, found, same) = mapped User (login_name a) c e in
    fits_as keyword.User (User name) c (a ∷ []) same (record { keyword = refl; ordinary = tt; arguments = (a, refl, login_is a name found) })
fits_one keyword.List a c e = one_number keyword.List ListOne a c (λ n h. record { keyword = refl; ordinary = tt; arguments = (a, refl, h) }) e
fits_one keyword.Uidl a c e = one_number keyword.Uidl UidlOne a c (λ n h. record { keyword = refl; ordinary = tt; arguments = (a, refl, h) }) e
fits_one keyword.Retr a c e = one_number keyword.Retr Retr a c (λ n h. record { keyword = refl; ordinary = tt; arguments = (a, refl, h) }) e
fits_one keyword.Dele a c e = one_number keyword.Dele Dele a c (λ n h. record { keyword = refl; ordinary = tt; arguments = (a, refl, h) }) e
fits_one k a c e = let wrong : ◌≡◌ {A = Option Command} None (Some c) = e in cc

fits_two : (k : Keyword) (a b : List ℕ) (c : Command) → with_two k a b ≡ Some c → Fits k c (a ∷ b ∷ [])
fits_two keyword.Apop a b c e =
    let (name, digest, login, digits, same) = paired Apop (login_name a) (digest_of b) c e in
    fits_as keyword.Apop (Apop name digest) c (a ∷ b ∷ []) same (record { keyword = refl; ordinary = tt; arguments = (a, b, refl, login_is a name login, digest_is b digest digits) })
fits_two keyword.Top a b c e =
    let (n, lines, first, second, same) = paired Top (number_of a) (number_of b) c e in
    fits_as keyword.Top (Top n lines) c (a ∷ b ∷ []) same (record { keyword = refl; ordinary = tt; arguments = (a, b, refl, number_is a n first, number_is b lines second) })
fits_two k a b c e = let wrong : ◌≡◌ {A = Option Command} None (Some c) = e in cc

fits : (k : Keyword) (ws : List (List ℕ)) (c : Command) → with_arguments k ws ≡ Some c → Fits k c ws
fits k [] c e = fits_none k c e
fits k (a ∷ []) c e = fits_one k a c e
fits k (a ∷ b ∷ []) c e = fits_two k a b c e
fits k (a ∷ b ∷ d ∷ ws) c e = let wrong : ◌≡◌ {A = Option Command} None (Some c) = e in cc

-- ---- whole lines

spelling : (c : Command) (line w : List ℕ) (ws : List (List ℕ)) (n : ℕ) → IsOrdinary c → IsWord (word_of (keyword_of c)) w → AreArguments c ws
    → line ≡ join_with_byte 32 (w ∷ ws) ++ replicate n 32 → IsSpelling c line
spelling (Pass password) line w ws n h word args e = absurd h
spelling c line w ws n h word args e = (w, ws, n, word, args, e)

spelling_of_words : (k : Keyword) (line : List ℕ) (c : Command) → IsWord (word_of k) (before_first is_space line) → with_arguments k (arguments line) ≡ Some c → IsSpelling c line
spelling_of_words k line c word e =
    let fit = fits k (arguments line) c e in
    let (n, l) = line_of_words line in
    spelling c line (before_first is_space line) (arguments line) n fit.ordinary (word ∙ sym (ap word_of fit.keyword)) fit.arguments l

spelling_of_password : (line : List ℕ) (c : Command) → IsWord (word_of keyword.Pass) (before_first is_space line) → with_password (after_first is_space line) ≡ Some c → IsSpelling c line
spelling_of_password line c word e = by_rest (after_first is_space line) refl e
  where
    by_rest : (rest : List ℕ) → after_first is_space line ≡ rest → with_password rest ≡ Some c → IsSpelling c line
    by_rest [] h f = let wrong : ◌≡◌ {A = Option Command} None (Some c) = f in cc
    by_rest (b ∷ bs) h f =
        let place = position_or_len is_space line in
        let rest : 0 < length (drop (place + 1) line) = subst (λ (x : List ℕ). 0 < length x) (sym h) (zero-lt-suc (length bs)) in
        let lt : place < length line = omega (arith, length-drop (place + 1) line) in
        let at : get_or line place 0 ≡ 32 = eqb-true (get_or line place 0) 32 (passes_at_first is_space line 0 lt) in
        let whole : line ≡ before_first is_space line ++ 32 ∷ b ∷ bs = split_at_first is_space line 0 lt ∙ ap₂ (λ x y. before_first is_space line ++ x ∷ y) at h in
        subst (λ (x : Command). IsSpelling x line) (some_same (Pass (b ∷ bs)) c f) (before_first is_space line, word, zero-lt-suc (length bs), whole)

by_word : (k : Keyword) (line : List ℕ) (c : Command) → IsWord (word_of k) (before_first is_space line) → command_with k line ≡ Some c → IsSpelling c line
by_word keyword.Pass line c word e = spelling_of_password line c word e
by_word keyword.Capa line c word e = spelling_of_words keyword.Capa line c word e
by_word keyword.User line c word e = spelling_of_words keyword.User line c word e
by_word keyword.Apop line c word e = spelling_of_words keyword.Apop line c word e
by_word keyword.Quit line c word e = spelling_of_words keyword.Quit line c word e
by_word keyword.Stat line c word e = spelling_of_words keyword.Stat line c word e
by_word keyword.List line c word e = spelling_of_words keyword.List line c word e
by_word keyword.Uidl line c word e = spelling_of_words keyword.Uidl line c word e
by_word keyword.Retr line c word e = spelling_of_words keyword.Retr line c word e
by_word keyword.Top line c word e = spelling_of_words keyword.Top line c word e
by_word keyword.Dele line c word e = spelling_of_words keyword.Dele line c word e
by_word keyword.Rset line c word e = spelling_of_words keyword.Rset line c word e
by_word keyword.Noop line c word e = spelling_of_words keyword.Noop line c word e

pub spells_what_is_read : SpellsWhatIsRead
spells_what_is_read c line e = by_keyword (keyword_in keywords (before_first is_space line)) refl e
  where
    by_found : (o : Option Command) (k : Keyword) → ok_or o (Syntax k) ≡ Ok c → o ≡ Some c
    by_found (Some x) k h = let same : x ≡ c = cc in ap Some same
    by_found None k h = let wrong : ◌≡◌ {A = Result Command LineFault} (Err (Syntax k)) (Ok c) = h in cc

    by_keyword : (o : Option Keyword) → keyword_in keywords (before_first is_space line) ≡ o → command_by o line ≡ Ok c → IsSpelling c line
    by_keyword None h f = let wrong : ◌≡◌ {A = Result Command LineFault} (Err Unknown) (Ok c) = f in cc
    by_keyword (Some k) h f = by_word k line c (word_found (before_first is_space line) k h) (by_found (command_with k line) k f)
