-- Messages that are sifted by the digests of their deposits.
use Rattle.std.proofs.Common.{◌≡◌, ℕ, ◌+◌, ◌<◌, Bool, true, false, cond, not, ◌&&◌, ◌||◌, ◌==◌, List, [], ◌∷◌, ◌++◌, length, map, take, get_or, refl, sym, ap, ap₂, subst, ◌∙◌}
use Rattle.std.proofs.Common.{append_assoc, true≢false, Option, None, Some, arith, Ordering}
use Rattle.std.proofs.lemmas.Bool.{and_from, and_parts, eq-eqb, eqb-true}
use Rattle.std.proofs.lemmas.Cmp.{tied_itself}
use Rattle.std.specs.Cmp.{nat_cmp_total}
use Rattle.std.proofs.lemmas.Map.Lookups.{exact_bytes, exact_unsigned}
use Rattle.std.proofs.lemmas.List.{take_more, map-append, length-append}
use Rattle.std.proofs.lemmas.List.Concat.{flat_map-append}
use Rattle.std.proofs.lemmas.List.Folds.{list_any-append}
use Rattle.std.specs.declared.cmp.Ordering.TheVariants.{Less, Equal, Greater}
use Rattle.std.specs.Prelude.{filter, codes}
use Rattle.std.specs.Ordering.{nat_cmp, is_eq, ordering_then}
use Rattle.std.specs.BTreeMap.{is_at}
use Rattle.std.specs.Cmp.Lexicographic.{slice_cmp, nat_list_cmp_total}
use Rattle.std.specs.List.{flat_map}
use Rattle.std.specs.Str.{bytes_eq}
use Rattle.std.specs.BTreeSet.{BTreeSet, contains}
use Rattle.creds.specs.Digests.{text_digest}
use Rattle.creds.specs.Uid.{uid_text}
use Rattle.vault.specs.declared.answer.Head.{Head}
use Rattle.vault.specs.declared.answer.Total.{Total}
use Rattle.vault.specs.declared.record.Keyed.{Keyed}
use Rattle.vault.specs.declared.record.Message.{Message}
use Rattle.vault.specs.declared.record.Receipt.{Receipt}
use Rattle.vault.specs.Records.{is_receipt_for}
use Rattle.vault.specs.Calls.{text_under}
use Rattle.vault.specs.Changes.{Contents, AreSound, head_of, heads, kept_in, records_of, totals}
use Rattle.vault.proofs.ListLemmas.{bytes_same, bytes_are}
use Rattle.converse.specs.Checked.{last_line, end_text}
use Rattle.converse.specs.Texts.{Mark, mark_of, mark_cmp, has_mark, IsSetOf, has_digest, is_intact, has_intact, message_under, AreMarks, intact_in, differing_in, differing}
use Rattle.converse.specs.Texts.{differs_text, differs_line, HasNone}
use Rattle.converse.proofs.Exporting.{Against, Each, HasOwn, IsNamed, kept_named, own_in}

-- ---- marks that compare equal are the same

equal_parts : (a b : Ordering) → ordering_then a b ≡ Equal → (a ≡ Equal) × (b ≡ Equal)
equal_parts Less b e = cc
equal_parts Equal b e = (refl, e)
equal_parts Greater b e = cc

told_equal : (a : Ordering) → is_eq a ≡ true → a ≡ Equal
told_equal Less e = absurd (true≢false (sym e))
told_equal Equal e = refl
told_equal Greater e = absurd (true≢false (sym e))

bools_same : (a b : Bool) → (a ≡ true → b ≡ true) → (b ≡ true → a ≡ true) → a ≡ b
bools_same true b f g = sym (f refl)
bools_same false true f g = g refl
bools_same false false f g = refl

-- a receipt's mark is that of a message and a digest where it is the message's and has the digest
marked : (m : Message) (digest : List ℕ) (r : Receipt)
    → is_eq (mark_cmp (mark_of r) (m.maildrop, m.class, m.k, digest)) ≡ (is_receipt_for m r && bytes_eq r.digest digest)
marked m digest r =
    let a = slice_cmp nat_cmp r.maildrop m.maildrop in
    let b = slice_cmp nat_cmp r.class m.class in
    let d = nat_cmp r.k m.k in
    let e = slice_cmp nat_cmp r.digest digest in
    bools_same (is_eq (mark_cmp (mark_of r) (m.maildrop, m.class, m.k, digest))) (is_receipt_for m r && bytes_eq r.digest digest)
    (λ h.
    let p = equal_parts (ordering_then (ordering_then a b) d) e (told_equal (mark_cmp (mark_of r) (m.maildrop, m.class, m.k, digest)) h) in
    let q = equal_parts (ordering_then a b) d p.0 in
    let s = equal_parts a b q.0 in
    and_from (is_receipt_for m r) (bytes_eq r.digest digest)
    (is_for m r (exact_bytes r.maildrop m.maildrop s.0) (exact_bytes r.class m.class s.1) (exact_unsigned r.k m.k q.1))
    (subst (λ (t : List ℕ). bytes_eq r.digest t ≡ true) (exact_bytes r.digest digest p.1) (bytes_same r.digest)))
    (λ h.
    let p = and_parts (is_receipt_for m r) (bytes_eq r.digest digest) h in
    let q = and_parts (bytes_eq m.maildrop r.maildrop && bytes_eq m.class r.class) (m.k == r.k) p.0 in
    let s = and_parts (bytes_eq m.maildrop r.maildrop) (bytes_eq m.class r.class) q.0 in
    tied r (m.maildrop, m.class, m.k, digest) (sym (bytes_are m.maildrop r.maildrop s.0)) (sym (bytes_are m.class r.class s.1))
    (sym (eqb-true m.k r.k q.1)) (bytes_are r.digest digest p.1))
  where
    is_for : (m : Message) (r : Receipt) → r.maildrop ≡ m.maildrop → r.class ≡ m.class → r.k ≡ m.k → is_receipt_for m r ≡ true
    is_for m r e f g =
        let a : bytes_eq m.maildrop r.maildrop ≡ true = subst (λ (n : List ℕ). bytes_eq n r.maildrop ≡ true) e (bytes_same r.maildrop) in
        let b : bytes_eq m.class r.class ≡ true = subst (λ (n : List ℕ). bytes_eq n r.class ≡ true) f (bytes_same r.class) in
        let d : (m.k == r.k) ≡ true = subst (λ n. (n == r.k) ≡ true) g (eq-eqb r.k r.k refl) in
        rw (a, b, d) refl

    itself : (x : Mark) → is_eq (mark_cmp x x) ≡ true
    itself x =
        ap (λ o. is_eq (ordering_then (ordering_then (ordering_then o (slice_cmp nat_cmp x.1 x.1)) (nat_cmp x.2 x.2)) (slice_cmp nat_cmp x.3 x.3))) (tied_itself nat_list_cmp_total x.0)
        ∙ ap (λ o. is_eq (ordering_then (ordering_then o (nat_cmp x.2 x.2)) (slice_cmp nat_cmp x.3 x.3))) (tied_itself nat_list_cmp_total x.1)
        ∙ ap (λ o. is_eq (ordering_then o (slice_cmp nat_cmp x.3 x.3))) (tied_itself nat_cmp_total x.2)
        ∙ ap is_eq (tied_itself nat_list_cmp_total x.3)

    tied : (r : Receipt) (q : Mark) → r.maildrop ≡ q.0 → r.class ≡ q.1 → r.k ≡ q.2 → r.digest ≡ q.3 → is_eq (mark_cmp (mark_of r) q) ≡ true
    tied r q e f g h =
        subst (λ (x : Mark). is_eq (mark_cmp (mark_of r) x) ≡ true) (λ i. (e i, f i, g i, h i)) (itself (mark_of r))

-- among the marks of receipts is the message's with its digest, where one of them is the message's and has it
among : (m : Message) (rs : List Receipt) → has_mark (map mark_of rs) (m.maildrop, m.class, m.k, text_digest m.text) ≡ has_digest rs m
among m [] = refl
among m (r ∷ rs) = ap₂ (λ (a b : Bool). a || b) (marked m (text_digest m.text) r) (among m rs)

-- a mark more
has_one_more : (ms : List Mark) (k q : Mark) → has_mark (ms ++ k ∷ []) q ≡ cond (is_eq (mark_cmp k q)) true (has_mark ms q)
has_one_more ms k q = list_any-append (λ (x : Mark). is_eq (mark_cmp x q)) ms (k ∷ []) ∙ turned (has_mark ms q) (is_eq (mark_cmp k q))
  where
    turned : (a b : Bool) → (a || (b || false)) ≡ cond b true a
    turned true true = refl
    turned true false = refl
    turned false true = refl
    turned false false = refl

pub marks_more : (rs : List Receipt) (i : ℕ) (r : Receipt) (s n : BTreeSet Mark) → i < length rs → r ≡ get_or rs i r
    → IsSetOf (map mark_of (take i rs)) s
    → ((q : Mark) → contains mark_cmp n q ≡ cond (is_at (mark_cmp (mark_of r)) q) true (contains mark_cmp s q))
    → IsSetOf (map mark_of (take (i + 1) rs)) n
marks_more rs i r s n lt at before updates q =
    let ms = map mark_of (take i rs) in
    let more : take (i + 1) rs ≡ take i rs ++ r ∷ [] = take_more rs i r lt ∙ ap (λ (x : Receipt). take i rs ++ x ∷ []) (sym at) in
    let mapped : map mark_of (take (i + 1) rs) ≡ ms ++ mark_of r ∷ [] = ap (λ (l : List Receipt). map mark_of l) more ∙ map-append mark_of (take i rs) (r ∷ []) in
    updates q ∙ ap (λ b. cond (is_eq (mark_cmp (mark_of r) q)) true b) (before q) ∙ sym (has_one_more ms (mark_of r) q)
    ∙ ap (λ (l : List Mark). has_mark l q) (sym mapped)

-- ---- a message is judged

-- by its mark
pub judged : (rs : Option (List Receipt)) (marks : BTreeSet Mark) (d : List ℕ) (c : Contents) (h : Head) (digest text : List ℕ) (found : Bool)
    → AreMarks rs (Some marks) → digest ≡ text_digest text → text ≡ text_under h.key c.messages → found ≡ contains mark_cmp marks (d, h.class, h.k, digest)
    → found ≡ has_intact rs d c h
judged None marks d c h digest text found are e f g = absurd (none_some are)
  where
    none_some : {A : Type 0} {x : A} → (let n : Option A = None in Some x ≡ n) → ⊥
    none_some e = cc
judged (Some rs) marks d c h digest text found are e f g =
    g ∙ ap (λ (t : List ℕ). contains mark_cmp marks (d, h.class, h.k, t)) (e ∙ ap text_digest f)
    ∙ are (d, h.class, h.k, text_digest (text_under h.key c.messages)) ∙ among (message_under d c h) rs

-- ---- heads that are sifted

filter_step : {A : Type 0} (b : Bool) (y : A) (xs ys zs : List A) → xs ≡ ys ++ zs → cond b (y ∷ xs) xs ≡ cond b (y ∷ ys) ys ++ zs
filter_step {A} true y xs ys zs e = ap (λ (l : List A). y ∷ l) e
filter_step false y xs ys zs e = e

filter_then : {A : Type 0} (p : A → Bool) (xs : List A) (x : A) → filter p (xs ++ x ∷ []) ≡ filter p xs ++ (cond (p x) (x ∷ []) [])
filter_then p [] x = refl
filter_then p (y ∷ ys) x = filter_step (p y) y (filter p (ys ++ x ∷ [])) (filter p ys) (cond (p x) (x ∷ []) []) (filter_then p ys x)

-- one more, which is kept or not
pub sifted_more : {A : Type 0} (p : A → Bool) (xs : List A) (i : ℕ) (x : A) (first old new : List A) (b : Bool) → i < length xs → x ≡ get_or xs i x → p x ≡ b
    → old ≡ first ++ filter p (take i xs) → new ≡ old ++ cond b (x ∷ []) [] → new ≡ first ++ filter p (take (i + 1) xs)
sifted_more {A} p xs i x first old new b lt at is before put =
    let more : take (i + 1) xs ≡ take i xs ++ x ∷ [] = take_more xs i x lt ∙ ap (λ (y : A). take i xs ++ y ∷ []) (sym at) in
    put ∙ ap (λ (l : List A). l ++ cond b (x ∷ []) []) before ∙ append_assoc first (filter p (take i xs)) (cond b (x ∷ []) [])
    ∙ ap (λ (l : List A). first ++ l) (ap (λ (e : Bool). filter p (take i xs) ++ cond e (x ∷ []) []) (sym is) ∙ sym (filter_then p (take i xs) x))
    ∙ ap (λ (l : List A). first ++ filter p l) (sym more)

-- ---- the heads of a maildrop

-- a message is the one under its head
its_own : (d : List ℕ) (c : Contents) (x : Keyed) → IsNamed d x → HasOwn c.messages x → message_under d c (head_of x) ≡ x.message
its_own d c x e t = λ i. record { maildrop = sym e i; class = x.message.class; k = x.message.k; text = t i }

kept_by : (P : Message → Bool) (d : List ℕ) (c : Contents) (xs : List Keyed) → Each (IsNamed d) xs → Each (HasOwn c.messages) xs
    → filter (λ (h : Head). P (message_under d c h)) (map head_of xs) ≡ map head_of (filter (λ (x : Keyed). P x.message) xs)
kept_by P d c [] e t = refl
kept_by P d c (x ∷ xs) e t =
    ap₂ (λ (b : Bool) (l : List Head). cond b (head_of x ∷ l) l) (ap P (its_own d c x e.0 t.0)) (kept_by P d c xs e.1 t.1) ∙ at (P x.message)
  where
    at : (b : Bool) → cond b (head_of x ∷ map head_of (filter (λ (y : Keyed). P y.message) xs)) (map head_of (filter (λ (y : Keyed). P y.message) xs))
        ≡ map head_of (cond b (x ∷ filter (λ (y : Keyed). P y.message) xs) (filter (λ (y : Keyed). P y.message) xs))
    at true = refl
    at false = refl

pub sifted_intact : (rs : Against) (d : List ℕ) (c : Contents) (hs : List Head) → AreSound c → hs ≡ heads d c
    → filter (has_intact rs d c) hs ≡ map head_of (intact_in rs d c)
sifted_intact rs d c hs sound same =
    ap (λ (l : List Head). filter (has_intact rs d c) l) same
    ∙ kept_by (is_intact rs) d c (kept_in d c.messages) (kept_named d c.messages) (own_in d c sound)

pub sifted_differing : (rs : Against) (d : List ℕ) (c : Contents) (hs : List Head) → AreSound c → hs ≡ heads d c
    → filter (λ (h : Head). not (has_intact rs d c h)) hs ≡ map head_of (differing_in rs d c)
sifted_differing rs d c hs sound same =
    ap (λ (l : List Head). filter (λ (h : Head). not (has_intact rs d c h)) l) same
    ∙ kept_by (λ m. not (is_intact rs m)) d c (kept_in d c.messages) (kept_named d c.messages) (own_in d c sound)

-- ---- the lines of all maildrops

flat_twice : {A B : Type 0} (g : A → List B) (f : B → List ℕ) (xs : List A) → flat_map f (flat_map g xs) ≡ flat_map (λ (x : A). flat_map f (g x)) xs
flat_twice g f [] = refl
flat_twice {A} {B} g f (x ∷ xs) = flat_map-append f (g x) (flat_map g xs) ∙ ap (λ (l : List ℕ). flat_map f (g x) ++ l) (flat_twice g f xs)

pub all_lines : (rs : Against) (c : Contents) (ts : List Total) → ts ≡ totals (records_of c)
    → flat_map (λ (t : Total). flat_map differs_line (differing_in rs t.maildrop c)) ts ≡ flat_map differs_line (differing rs c)
all_lines rs c ts same =
    ap (λ (l : List Total). flat_map (λ (t : Total). flat_map differs_line (differing_in rs t.maildrop c)) l) same
    ∙ sym (flat_twice (λ (t : Total). differing_in rs t.maildrop c) differs_line (totals (records_of c)))

ends_some : (xs : List ℕ) (n : ℕ) → 0 < length (xs ++ n ∷ [])
ends_some xs n = let l = length-append xs (n ∷ []) in omega (arith, l)

some_octets : (d class : List ℕ) (k : ℕ) → 0 < length (differs_text d class k)
some_octets d class k = ends_some (codes "differs " ++ d ++ codes " " ++ uid_text (record { class = class; k = k })) 10

-- a message that differs has a line
pub none_told : (xs : List Keyed) → length (flat_map differs_line xs) ≡ 0 → xs ≡ []
none_told [] e = refl
none_told (x ∷ xs) e =
    let l = length-append (differs_line x) (flat_map differs_line xs) in
    let s : 0 < length (differs_line x) = some_octets x.message.maildrop x.message.class x.message.k in
    absurd (omega (arith, l, s, e))

pub some_told : (xs : List Keyed) → 0 < length (flat_map differs_line xs) → xs ≡ [] → ⊥
some_told xs s e =
    let l : length (flat_map differs_line xs) ≡ 0 = ap (λ (ys : List Keyed). length (flat_map differs_line ys)) e in
    omega (arith, l, s)

pub end_differs : (xs : List Keyed) (ts : List Total) (clerks rules : ℕ) → (xs ≡ [] → ⊥) → end_text xs ts clerks rules ≡ flat_map differs_line xs
end_differs [] ts clerks rules some = absurd (some refl)
end_differs (x ∷ xs) ts clerks rules some = refl

pub end_whole : (xs : List Keyed) (ts : List Total) (clerks rules : ℕ) → xs ≡ [] → end_text xs ts clerks rules ≡ last_line ts clerks rules
end_whole xs ts clerks rules none = ap (λ (ys : List Keyed). end_text ys ts clerks rules) none

-- ---- what was found, told as a whole

pub none_of : (b : Bool) (xs : List Keyed) (hs : List Head) → hs ≡ map head_of xs → b ≡ (length hs == 0) → HasNone b xs
none_of true [] hs e h = refl
none_of true (x ∷ xs) hs e h =
    let n : length hs ≡ 0 = eqb-true (length hs) 0 (sym h) in
    let m : length hs ≡ length (head_of x ∷ map head_of xs) = ap (λ (l : List Head). length l) e in
    absurd (omega (arith, n, m))
none_of false [] hs e h = absurd (true≢false (ap (λ (l : List Head). length l == 0) (sym e) ∙ sym h))
none_of false (x ∷ xs) hs e h = λ q. let n = ap (λ (l : List Keyed). length l) q in omega (arith, n)

-- the heads that were put behind no others
pub put_alone : (hs old : List Head) (xs : List Keyed) (lent : List Head) → lent ≡ hs → hs ≡ old ++ map head_of xs → old ≡ [] → lent ≡ map head_of xs
put_alone hs old xs lent is put none = is ∙ put ∙ ap (λ (l : List Head). l ++ map head_of xs) none
