-- What is spelled is what is read.
use Rattle.std.proofs.Common.{◌≡◌, ℕ, ◌<◌, List, [], ◌∷◌, ◌++◌, true, ◌==◌, length, map, refl, sym, ◌∙◌, ap, ap₂, subst, arith, length-append, Some, Ok, option_map, ok_or, lt-ltb, replicate}
use Rattle.std.proofs.lemmas.Bool.{and_parts}
use Rattle.std.proofs.Math.Seq.{take-append_seam, drop-append-add}
use Rattle.std.specs.List.{list_all, before_first, join_with_byte}
use Rattle.std.specs.Result.{result_ok, IsOk}
use Rattle.std.proofs.lemmas.List.Sums.{list_all-from_AllPass}
use Rattle.hex.specs.Hex.{is_hex_digit}
use Rattle.hex.proofs.HexLemmas.{IsOk-decode_sized}
use Rattle.creds.specs.Names.{is_name, is_name_octet, is_digit, has_length}
use Rattle.creds.specs.LoginName.{login_name}
use Rattle.creds.specs.declared.login_name.LoginName.{LoginName}
use Rattle.popline.specs.declared.command.Keyword.{Keyword}
use Rattle.popline.specs.declared.command.Keyword.TheVariants as keyword
use Rattle.popline.specs.declared.command.LineFault.TheVariants.{Syntax}
use Rattle.popline.specs.Commands.{Command, Capa, User, Pass, Apop, Quit, Stat, ListAll, ListOne, UidlAll, UidlOne, Retr, Top, Dele, Rset, Noop, keyword_of, lowered, keyword_in}
use Rattle.popline.specs.Commands.{keywords, is_space, arguments, number_of, digest_of, with_arguments, with_password, command_with, command_by, command_of, both}
use Rattle.popline.specs.Spelling.{word_of, IsWord, IsNumeral, IsLogin, IsDigest, ReadsWhatIsSpelled}
use Rattle.popline.proofs.HexDigits.{decoded}
use Rattle.popline.proofs.Solid.{Without, without, without-append, keyword_without, position_at, before_at, after_at, AllSolid, before_join, arguments-join}

-- ---- one word

-- a keyword in letters of any case is found in the table
pub keyword_found : (k : Keyword) (w : List ℕ) → map lowered w ≡ word_of k → keyword_in keywords w ≡ Some k
keyword_found keyword.Capa w h = rw h refl
keyword_found keyword.User w h = rw h refl
keyword_found keyword.Pass w h = rw h refl
keyword_found keyword.Apop w h = rw h refl
keyword_found keyword.Quit w h = rw h refl
keyword_found keyword.Stat w h = rw h refl
keyword_found keyword.List w h = rw h refl
keyword_found keyword.Uidl w h = rw h refl
keyword_found keyword.Retr w h = rw h refl
keyword_found keyword.Top w h = rw h refl
keyword_found keyword.Dele w h = rw h refl
keyword_found keyword.Rset w h = rw h refl
keyword_found keyword.Noop w h = rw h refl

name_octets : (c : List ℕ) → is_name c ≡ true → list_all is_name_octet c ≡ true
name_octets c h = (and_parts (has_length 1 32 c) (list_all is_name_octet c) h).1

login_text : (c m : List ℕ) → is_name c ≡ true → is_name m ≡ true → login_name (c ++ 47 ∷ m) ≡ Some (record { clerk = c; maildrop = m })
unfolding login_name
login_text c m f g =
    let at = position_at (λ b. b == 47) c 47 m (without is_name_octet 47 refl c (name_octets c f)) refl in
    rw (at, take-append_seam c (47 ∷ m), drop-append-add c (47 ∷ m) 1, f, g) refl

login_found : (name : LoginName) (a : List ℕ) → IsLogin name a → login_name a ≡ Some name
login_found name a (c, m, e) = ap login_name e ∙ login_text name.clerk name.maildrop c m

login_solid : (name : LoginName) (a : List ℕ) → IsLogin name a → (0 < length a) × Without is_space a
login_solid name a (c, m, e) =
    let long : 0 < length (name.clerk ++ 47 ∷ name.maildrop) = omega (arith, length-append name.clerk (47 ∷ name.maildrop)) in
    let clerk = without is_name_octet 32 refl name.clerk (name_octets name.clerk c) in
    let maildrop = without is_name_octet 32 refl name.maildrop (name_octets name.maildrop m) in
    subst (λ (x : List ℕ). (0 < length x) × Without is_space x) (sym e) (long, without-append is_space name.clerk (47 ∷ name.maildrop) clerk (refl, maildrop))

number_found : (n : ℕ) (a : List ℕ) → IsNumeral n a → number_of a ≡ Some n
number_found n a (some, digits, e) = rw (lt-ltb 0 (length a) some, digits) (ap Some (sym e))

number_solid : (n : ℕ) (a : List ℕ) → IsNumeral n a → (0 < length a) × Without is_space a
number_solid n a (some, digits, e) = (some, without is_digit 32 refl a digits)

digest_found : (d a : List ℕ) → IsDigest d a → digest_of a ≡ Some d
digest_found d a h = ap result_ok (decoded d a h)

digest_solid : (d a : List ℕ) → IsDigest d a → (0 < length a) × Without is_space a
digest_solid d a h =
    let digits = (IsOk-decode_sized a 16).0 (subst IsOk (sym (decoded d a h)) refl) in
    let sized : length a ≡ 32 = digits.0 in
    let some : 0 < length a = omega arith in
    (some, without is_hex_digit 32 refl a (list_all-from_AllPass is_hex_digit a digits.1))

-- ---- the arguments of a command

-- these words have their form, and give the command
pub record Fit (c : Command) (ws : List (List ℕ)) : Type 0 where
  pub solid : AllSolid ws
  pub found : with_arguments (keyword_of c) ws ≡ Some c

fit_none : (c : Command) (ws : List (List ℕ)) → with_arguments (keyword_of c) [] ≡ Some c → ws ≡ [] → Fit c ws
fit_none c ws f e = subst (Fit c) (sym e) (record { solid = tt; found = f })

fit_one : (c : Command) (ws : List (List ℕ)) (a : List ℕ) → with_arguments (keyword_of c) (a ∷ []) ≡ Some c → (0 < length a) × Without is_space a → ws ≡ a ∷ [] → Fit c ws
fit_one c ws a f (some, solid) e = subst (Fit c) (sym e) (record { solid = (some, (solid, tt)); found = f })

fit_two : (c : Command) (ws : List (List ℕ)) (a b : List ℕ) → with_arguments (keyword_of c) (a ∷ b ∷ []) ≡ Some c → (0 < length a) × Without is_space a → (0 < length b) × Without is_space b
    → ws ≡ a ∷ b ∷ [] → Fit c ws
fit_two c ws a b f (some, solid) (some', solid') e = subst (Fit c) (sym e) (record { solid = (some, (solid, (some', (solid', tt)))); found = f })

-- ---- whole lines

-- a line of a keyword other than PASS, and of words that give a command
spelled : (k : Keyword) (c : Command) (line w : List ℕ) (ws : List (List ℕ)) (n : ℕ) → ((l : List ℕ) → command_with k l ≡ with_arguments k (arguments l)) → k ≡ keyword_of c
    → IsWord (word_of k) w → Fit c ws → line ≡ join_with_byte 32 (w ∷ ws) ++ replicate n 32 → command_of line ≡ Ok c
spelled k c line w ws n ordinary same word fit e =
    let solid = keyword_without k w word in
    let l = join_with_byte 32 (w ∷ ws) ++ replicate n 32 in
    let known : keyword_in keywords (before_first is_space l) ≡ Some k = ap (keyword_in keywords) (before_join w ws n solid) ∙ keyword_found k w word in
    let words : with_arguments k (arguments l) ≡ Some c = ap (with_arguments k) (arguments-join w ws n solid fit.solid) ∙ (ap (λ x. with_arguments x ws) same ∙ fit.found) in
    ap command_of e ∙ (ap (λ o. command_by o l) known ∙ ap (λ r. ok_or r (Syntax k)) (ordinary l ∙ words))

-- a line of PASS
spelled_password : (password line w : List ℕ) → IsWord (word_of keyword.Pass) w → 0 < length password → line ≡ w ++ 32 ∷ password → command_of line ≡ Ok (Pass password)
spelled_password [] line w word some e = absurd (omega arith)
spelled_password (b ∷ bs) line w word some e =
    let solid = keyword_without keyword.Pass w word in
    let l = w ++ 32 ∷ b ∷ bs in
    let known : keyword_in keywords (before_first is_space l) ≡ Some keyword.Pass = ap (keyword_in keywords) (before_at is_space w 32 (b ∷ bs) solid refl) ∙ keyword_found keyword.Pass w word in
    ap command_of e ∙ (ap (λ o. command_by o l) known ∙ ap (λ r. ok_or (with_password r) (Syntax keyword.Pass)) (after_at is_space w 32 (b ∷ bs) solid refl))

pub reads_what_is_spelled : ReadsWhatIsSpelled
reads_what_is_spelled Capa l (w, ws, n, word, e, f) = spelled keyword.Capa Capa l w ws n (λ x. refl) refl word (fit_none Capa ws refl e) f
reads_what_is_spelled (User name) l (w, ws, n, word, (a, e, h), f) =
    spelled keyword.User (User name) l w ws n (λ x. refl) refl word (fit_one (User name) ws a (ap (option_map User) (login_found name a h)) (login_solid name a h) e) f
reads_what_is_spelled (Pass password) l (w, word, some, f) = spelled_password password l w word some f
reads_what_is_spelled (Apop name digest) l (w, ws, n, word, (a, b, e, h, g), f) =
    spelled keyword.Apop (Apop name digest) l w ws n (λ x. refl) refl word
    (fit_two (Apop name digest) ws a b (ap₂ (both Apop) (login_found name a h) (digest_found digest b g)) (login_solid name a h) (digest_solid digest b g) e) f
reads_what_is_spelled Quit l (w, ws, n, word, e, f) = spelled keyword.Quit Quit l w ws n (λ x. refl) refl word (fit_none Quit ws refl e) f
reads_what_is_spelled Stat l (w, ws, n, word, e, f) = spelled keyword.Stat Stat l w ws n (λ x. refl) refl word (fit_none Stat ws refl e) f
reads_what_is_spelled ListAll l (w, ws, n, word, e, f) = spelled keyword.List ListAll l w ws n (λ x. refl) refl word (fit_none ListAll ws refl e) f
reads_what_is_spelled (ListOne k) l (w, ws, n, word, (a, e, h), f) =
    spelled keyword.List (ListOne k) l w ws n (λ x. refl) refl word (fit_one (ListOne k) ws a (ap (option_map ListOne) (number_found k a h)) (number_solid k a h) e) f
reads_what_is_spelled UidlAll l (w, ws, n, word, e, f) = spelled keyword.Uidl UidlAll l w ws n (λ x. refl) refl word (fit_none UidlAll ws refl e) f
reads_what_is_spelled (UidlOne k) l (w, ws, n, word, (a, e, h), f) =
    spelled keyword.Uidl (UidlOne k) l w ws n (λ x. refl) refl word (fit_one (UidlOne k) ws a (ap (option_map UidlOne) (number_found k a h)) (number_solid k a h) e) f
reads_what_is_spelled (Retr k) l (w, ws, n, word, (a, e, h), f) =
    spelled keyword.Retr (Retr k) l w ws n (λ x. refl) refl word (fit_one (Retr k) ws a (ap (option_map Retr) (number_found k a h)) (number_solid k a h) e) f
reads_what_is_spelled (Top k lines) l (w, ws, n, word, (a, b, e, h, g), f) =
    spelled keyword.Top (Top k lines) l w ws n (λ x. refl) refl word
    (fit_two (Top k lines) ws a b (ap₂ (both Top) (number_found k a h) (number_found lines b g)) (number_solid k a h) (number_solid lines b g) e) f
reads_what_is_spelled (Dele k) l (w, ws, n, word, (a, e, h), f) =
    spelled keyword.Dele (Dele k) l w ws n (λ x. refl) refl word (fit_one (Dele k) ws a (ap (option_map Dele) (number_found k a h)) (number_solid k a h) e) f
reads_what_is_spelled Rset l (w, ws, n, word, e, f) = spelled keyword.Rset Rset l w ws n (λ x. refl) refl word (fit_none Rset ws refl e) f
reads_what_is_spelled Noop l (w, ws, n, word, e, f) = spelled keyword.Noop Noop l w ws n (λ x. refl) refl word (fit_none Noop ws refl e) f
