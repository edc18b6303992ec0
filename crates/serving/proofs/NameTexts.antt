-- The text of a name is read as that name, and no other text is.
use Rattle.std.proofs.Common.{◌≡◌, ℕ, ◌+◌, ◌<◌, ◌≤◌, List, ◌∷◌, ◌++◌, Bool, true, false, cond, length, take, drop, get_or, refl, sym, ◌∙◌, ap, ap₂, subst, ⊎_elim, Option, Some}
use Rattle.std.proofs.Common.{None, lt-ltb, le-ltb, codes}
use Rattle.std.proofs.lemmas.Bool.{and_parts, cases_lt, eqb-true}
use Rattle.std.proofs.lemmas.Option.{option_and_then_some}
use Rattle.std.proofs.lemmas.List.Sums.{split_at_first, passes_at_first}
use Rattle.std.proofs.lemmas.Slice.Eq.{bytes_eq-Decides}
use Rattle.std.proofs.Math.Seq.{take-append_seam, drop-append-add}
use Rattle.std.specs.List.{list_all, position, position_or_len}
use Rattle.std.specs.Str.{bytes_eq}
use Rattle.creds.specs.Names.{is_name, is_name_octet, is_deposit_id, is_id_octet, has_length, name_of, deposit_id_of, text_if}
use Rattle.popline.proofs.Solid.{without, position_at}
use Rattle.serving.specs.declared.file_name.FileName.{FileName}
use Rattle.serving.specs.FileNames.{is_dot, with_id, with_class, file_name_of, text_of, HasForm}

name_octets : (c : List ℕ) → is_name c ≡ true → list_all is_name_octet c ≡ true
name_octets c h = (and_parts (has_length 1 32 c) (list_all is_name_octet c) h).1

id_octets : (c : List ℕ) → is_deposit_id c ≡ true → list_all is_id_octet c ≡ true
id_octets c h = (and_parts (has_length 1 64 c) (list_all is_id_octet c) h).1

-- `id.eml`
id_read : (d class id : List ℕ) → is_deposit_id id ≡ true
    → with_id d class (id ++ 46 ∷ codes "eml") ≡ Some (record { maildrop = d; class = class; id = id })
unfolding with_id
id_read d class id h =
    let at = position_at is_dot id 46 (codes "eml") (without is_id_octet 46 refl id (id_octets id h)) refl in
    rw (at, take-append_seam id (46 ∷ codes "eml"), drop-append-add id (46 ∷ codes "eml") 1, h) refl

-- `class.` and the rest
class_read : (d class rest : List ℕ) → is_name class ≡ true → with_class d (class ++ 46 ∷ rest) ≡ with_id d class rest
unfolding with_class
class_read d class rest h =
    let at = position_at is_dot class 46 rest (without is_name_octet 46 refl class (name_octets class h)) refl in
    rw (at, take-append_seam class (46 ∷ rest), drop-append-add class (46 ∷ rest) 1, h) refl

-- `maildrop.` and the rest
maildrop_read : (d rest : List ℕ) → is_name d ≡ true → file_name_of (d ++ 46 ∷ rest) ≡ with_class d rest
unfolding file_name_of
maildrop_read d rest h =
    let at = position_at is_dot d 46 rest (without is_name_octet 46 refl d (name_octets d h)) refl in
    rw (at, take-append_seam d (46 ∷ rest), drop-append-add d (46 ∷ rest) 1, h) refl

pub name_read_back : (n : FileName) → HasForm n → file_name_of (text_of n) ≡ Some n
name_read_back n (d, c, i) =
    maildrop_read n.maildrop (n.class ++ 46 ∷ (n.id ++ 46 ∷ codes "eml")) d
    ∙ (class_read n.maildrop n.class (n.id ++ 46 ∷ codes "eml") c ∙ id_read n.maildrop n.class n.id i)

-- ---- and back

found_dot : (a : List ℕ) (i : ℕ) → position is_dot a ≡ Some i → a ≡ take i a ++ 46 ∷ drop (i + 1) a
found_dot a i e = ⊎_elim
    (λ (lt : position_or_len is_dot a < length a).
    let place = position_or_len is_dot a in
    let found : Some place ≡ Some i = rw lt-ltb at e in
    let same : place ≡ i = cc in
    let at : get_or a place 0 ≡ 46 = eqb-true (get_or a place 0) 46 (passes_at_first is_dot a 0 lt) in
    subst (λ (j : ℕ). a ≡ take j a ++ 46 ∷ drop (j + 1) a) same
    (split_at_first is_dot a 0 lt ∙ ap (λ b. take place a ++ b ∷ drop (place + 1) a) at))
    (λ (le : length a ≤ position_or_len is_dot a). let found : ◌≡◌ {A = Option ℕ} None (Some i) = rw le-ltb at e in cc)
    (cases_lt (position_or_len is_dot a) (length a))

text_if_some : (b : Bool) (s x : List ℕ) → text_if b s ≡ Some x → (b ≡ true) × (s ≡ x)
text_if_some true s x h = (refl, cc)
text_if_some false s x h = absurd (cc)

name_is : (s x : List ℕ) → name_of s ≡ Some x → (is_name x ≡ true) × (s ≡ x)
name_is s x h = let p = text_if_some (is_name s) s x h in (subst (λ y. is_name y ≡ true) p.1 p.0, p.1)

id_is : (s x : List ℕ) → deposit_id_of s ≡ Some x → (is_deposit_id x ≡ true) × (s ≡ x)
id_is s x h = let p = text_if_some (is_deposit_id s) s x h in (subst (λ y. is_deposit_id y ≡ true) p.1 p.0, p.1)

some_if : (b : Bool) (m n : FileName) → cond b (Some m) None ≡ Some n → (b ≡ true) × (m ≡ n)
some_if true m n h = (refl, cc)
some_if false m n h = absurd (cc)

abbrev named : (d class id : List ℕ) → FileName
named d class id = record { maildrop = d; class = class; id = id }

abbrev IdRead : (d class text : List ℕ) → FileName → Type 0
IdRead d class text n = (n.maildrop ≡ d) × (n.class ≡ class) × (is_deposit_id n.id ≡ true) × (text ≡ n.id ++ 46 ∷ codes "eml")

id_text : (d class text : List ℕ) (n : FileName) → with_id d class text ≡ Some n → IdRead d class text n
unfolding with_id
id_text d class text n e =
    option_and_then_some _ _ n e (λ (i : ℕ) (at : position is_dot text ≡ Some i) rest.
    option_and_then_some _ _ n rest (λ (id : List ℕ) (read : deposit_id_of (take i text) ≡ Some id) (last : cond (bytes_eq (drop (i + 1) text) (codes "eml")) (Some (named d class id)) None ≡ Some n).
    let both = some_if (bytes_eq (drop (i + 1) text) (codes "eml")) (named d class id) n last in
    let is = id_is (take i text) id read in
    let end : drop (i + 1) text ≡ codes "eml" = (bytes_eq-Decides (drop (i + 1) text) (codes "eml")).0 both.0 in
    subst (λ (m : FileName). IdRead d class text m) both.1 (refl, refl, is.0, found_dot text i at ∙ ap₂ (λ x y. x ++ 46 ∷ y) is.1 end)))

abbrev ClassRead : (d text : List ℕ) → FileName → Type 0
ClassRead d text n = (n.maildrop ≡ d) × (is_name n.class ≡ true) × (is_deposit_id n.id ≡ true) × (text ≡ n.class ++ 46 ∷ (n.id ++ 46 ∷ codes "eml"))

class_text : (d text : List ℕ) (n : FileName) → with_class d text ≡ Some n → ClassRead d text n
unfolding with_class
class_text d text n e =
    option_and_then_some _ _ n e (λ (i : ℕ) (at : position is_dot text ≡ Some i) rest.
    option_and_then_some _ _ n rest (λ (class : List ℕ) (read : name_of (take i text) ≡ Some class) (last : with_id d class (drop (i + 1) text) ≡ Some n).
    let is = name_is (take i text) class read in
    let back = id_text d class (drop (i + 1) text) n last in
    (back.0, subst (λ c. is_name c ≡ true) (sym back.1) is.0, back.2, found_dot text i at ∙ ap₂ (λ x y. x ++ 46 ∷ y) (is.1 ∙ sym back.1) back.3)))

pub one_text : (text : List ℕ) (n : FileName) → file_name_of text ≡ Some n → HasForm n × (text_of n ≡ text)
unfolding file_name_of
one_text text n e =
    option_and_then_some _ _ n e (λ (i : ℕ) (at : position is_dot text ≡ Some i) rest.
    option_and_then_some _ _ n rest (λ (d : List ℕ) (read : name_of (take i text) ≡ Some d) (last : with_class d (drop (i + 1) text) ≡ Some n).
    let is = name_is (take i text) d read in
    let back = class_text d (drop (i + 1) text) n last in
    let whole : text ≡ n.maildrop ++ 46 ∷ (n.class ++ 46 ∷ (n.id ++ 46 ∷ codes "eml")) = found_dot text i at ∙ ap₂ (λ x y. x ++ 46 ∷ y) (is.1 ∙ sym back.0) back.3 in
    let form : is_name n.maildrop ≡ true = subst (λ c. is_name c ≡ true) (sym back.0) is.0 in
    ((form, back.1, back.2), sym whole)))
