-- Texts that come in pieces: what is sent of them, and what belongs to TOP's part.
use Rattle.std.proofs.Common.{◌≡◌, ℕ, zero, suc, ◌+◌, ◌-◌, ◌<◌, ◌≤◌, List, [], ◌∷◌, ◌++◌, Bool, true, false, ◌&&◌, length, take, drop, get_or, set, refl, sym, ◌∙◌, ap, ap₂, arith}
use Rattle.std.proofs.Common.{append_assoc, append-nil, add-one, eqb, eqb-true, ⊎_elim}
use Rattle.std.proofs.lemmas.Bool.{cases_Bool, and_parts}
use Rattle.std.proofs.lemmas.List.{drop_more, drop_all, drop-drop, take-append-drop, take_at, take_more, take_rest, take-take, drop_at, drop-append-le, length-append, length-drop}
use Rattle.std.proofs.lemmas.List.{length-take, length-take-le}
use Rattle.memchr.specs.Find.{Nowhere, OccursAt}
use borrow.Rule.Slice.PartMut.{put_mid}
use Rattle.mailtext.specs.Text.{line_end, lines_of, ended, kept_form, stuffed, stuffed_lines, top_part}
use Rattle.mailtext.specs.Streams.{stuffed_from, front_at, Come, nothing_come, is_over, top_from}
use Rattle.mailtext.specs.declared.top_cut.Place.{Place}
use Rattle.mailtext.specs.declared.top_cut.Place.TheVariants.{Front, Return, Inside, Body}
use Rattle.mailtext.proofs.LineLemmas.{Unbroken, AreLines, AreLines-lines_of}
use Rattle.mailtext.proofs.PartLemmas.{some_left, one_less}

-- ---- what is sent

-- octets within a line stay
pub stuffed_from-unbroken : (l rest : List ℕ) (b : ℕ) → Unbroken l → stuffed_from false (l ++ b ∷ rest) ≡ l ++ b ∷ stuffed_from (eqb b 10) rest
stuffed_from-unbroken [] rest b h = refl
stuffed_from-unbroken (x ∷ xs) rest b h = rw h.0 (ap (λ ys. x ∷ ys) (stuffed_from-unbroken xs rest b h.1))

stuffed_from-line : (l rest : List ℕ) → Unbroken l → stuffed_from true (l ++ (line_end ++ rest)) ≡ stuffed l ++ (line_end ++ stuffed_from true rest)
stuffed_from-line [] rest h = refl
stuffed_from-line (b ∷ bs) rest h =
    let inner : stuffed_from false ((b ∷ bs) ++ (line_end ++ rest)) ≡ (b ∷ bs) ++ (line_end ++ stuffed_from true rest) =
    stuffed_from-unbroken (b ∷ bs) (10 ∷ rest) 13 h in
    ⊎_elim (λ (e : eqb b 46 ≡ true). rw e (ap (λ ys. 46 ∷ ys) inner)) (λ (e : eqb b 46 ≡ false). rw e inner) (cases_Bool (eqb b 46))

stuffed_from-ended : (ls : List (List ℕ)) → AreLines ls → stuffed_from true (ended ls) ≡ stuffed_lines ls
stuffed_from-ended [] h = refl
stuffed_from-ended (l ∷ ls) h =
    ap (stuffed_from true) (append_assoc l line_end (ended ls))
    ∙ (stuffed_from-line l (ended ls) h.0 ∙ (ap (λ rest. stuffed l ++ (line_end ++ rest)) (stuffed_from-ended ls h.1)
    ∙ sym (append_assoc (stuffed l) line_end (stuffed_lines ls))))

pub stuffed_from-kept : (text : List ℕ) → kept_form text ≡ text → stuffed_from true text ≡ stuffed_lines (lines_of text)
stuffed_from-kept text kept = ap (stuffed_from true) (sym kept) ∙ stuffed_from-ended (lines_of text) (AreLines-lines_of text)

-- ---- what a piece puts

-- one octet more that is no dot at the front of a line
pub sent_octet : (start now : Bool) (octets : List ℕ) (i : ℕ) → i < length octets → (now && eqb (get_or octets i 0) 46) ≡ false
    → ((more : List ℕ) → stuffed_from start (octets ++ more) ≡ take i octets ++ stuffed_from now (drop i octets ++ more))
    → (more : List ℕ) → stuffed_from start (octets ++ more) ≡ take (i + 1) octets ++ stuffed_from (eqb (get_or octets i 0) 10) (drop (i + 1) octets ++ more)
sent_octet start now octets i lt e before more =
    let b = get_or octets i 0 in
    let rest = drop (i + 1) octets ++ more in
    let here : stuffed_from now (drop i octets ++ more) ≡ b ∷ stuffed_from (eqb b 10) rest = rw (drop_more octets i 0 lt, e) refl in
    before more ∙ (ap (λ ys. take i octets ++ ys) here ∙ rw (take_more octets i 0 lt) (sym (append_assoc (take i octets) (b ∷ []) (stuffed_from (eqb b 10) rest))))

-- where a search looks for a dot at the front of a line
abbrev newline_dot : List ℕ
newline_dot = 10 ∷ 46 ∷ []

reads_both : (octets : List ℕ) (k : ℕ) → get_or octets k 0 ≡ 10 → get_or octets (k + 1) 0 ≡ 46 → (j : ℕ) → j < 2 → get_or octets (k + j) 0 ≡ get_or newline_dot j 0
reads_both octets k a b zero lt = let e : k + 0 ≡ k = omega arith in rw e a
reads_both octets k a b (suc zero) lt = b
reads_both octets k a b (suc (suc j)) lt = absurd (omega arith)

-- no dot is put before an octet that isn't after a place of the search
no_dot_at : (start : Bool) (octets : List ℕ) (n i : ℕ) → (start && eqb (get_or octets 0 0) 46) ≡ false → Nowhere (OccursAt octets newline_dot) 0 n
    → i < length octets → i ≤ n → (front_at start octets i && eqb (get_or octets i 0) 46) ≡ false
no_dot_at start octets n zero first none lt le = first
no_dot_at start octets n (suc j) first none lt le =
    let newline = eqb (get_or octets j 0) 10 in
    let dot = eqb (get_or octets (suc j) 0) 46 in
    ⊎_elim (λ (e : (newline && dot) ≡ true).
    let parts = and_parts newline dot e in
    let behind : get_or octets (j + 1) 0 ≡ 46 = rw (add-one j) (eqb-true (get_or octets (suc j) 0) 46 parts.1) in
    absurd (none j (omega arith) (omega arith) (record { fits = omega arith; reads = reads_both octets j (eqb-true (get_or octets j 0) 10 parts.0) behind })))
    (λ (e : (newline && dot) ≡ false). e) (cases_Bool (newline && dot))

-- the octets before a place are sent as they are
pub sent_before : (start : Bool) (octets : List ℕ) (n i : ℕ) → (start && eqb (get_or octets 0 0) 46) ≡ false → Nowhere (OccursAt octets newline_dot) 0 n
    → i ≤ length octets → i ≤ n + 1
    → (more : List ℕ) → stuffed_from start (octets ++ more) ≡ take i octets ++ stuffed_from (front_at start octets i) (drop i octets ++ more)
sent_before start octets n zero first none within le more = refl
sent_before start octets n (suc i) first none within le more =
    let before = sent_before start octets n i first none (omega arith) (omega arith) in
    let quiet = no_dot_at start octets n i first none (omega arith) (omega arith) in
    rw (add-one i) at (sent_octet start (front_at start octets i) octets i (omega arith) quiet before more)

-- through a LF that a dot follows
pub sent_found : (start : Bool) (octets : List ℕ) (n : ℕ) → (start && eqb (get_or octets 0 0) 46) ≡ false → Nowhere (OccursAt octets newline_dot) 0 n → OccursAt octets newline_dot n
    → (more : List ℕ) → stuffed_from start (octets ++ more) ≡ take (n + 1) octets ++ stuffed_from true (drop (n + 1) octets ++ more)
sent_found start octets n first none here more =
    let same : n + 0 ≡ n = omega arith in
    let read : get_or octets (n + 0) 0 ≡ 10 = here.reads 0 (omega arith) in
    let newline : get_or octets n 0 ≡ 10 = rw same at read in
    let fits : n + 2 ≤ length octets = here.fits in
    let sent : stuffed_from start (octets ++ more) ≡ take (suc n) octets ++ stuffed_from (eqb (get_or octets n 0) 10) (drop (suc n) octets ++ more) =
    sent_before start octets n (suc n) first none (omega arith) (omega arith) more in
    rw (add-one n) (rw newline at sent)

-- what is copied of the part of a piece for which there is room
pub sent_run : (now next : Bool) (piece : List ℕ) (n room : ℕ) → n ≤ length (take room piece)
    → ((more : List ℕ) → stuffed_from now (take room piece ++ more) ≡ take n (take room piece) ++ stuffed_from next (drop n (take room piece) ++ more))
    → (more : List ℕ) → stuffed_from now (piece ++ more) ≡ take n piece ++ stuffed_from next (drop n piece ++ more)
sent_run now next piece n room le h more =
    let front = take room piece in
    let back = drop room piece in
    let whole : front ++ back ≡ piece = take-append-drop room piece in
    let start : piece ++ more ≡ front ++ (back ++ more) = ap (λ ys. ys ++ more) (sym whole) ∙ append_assoc front back more in
    let taken : take n front ≡ take n piece = take-take n room piece (omega (arith, le, length-take room piece)) in
    let left : drop n front ++ (back ++ more) ≡ drop n piece ++ more =
    sym (append_assoc (drop n front) back more) ∙ ap (λ ys. ys ++ more) (sym (drop-append-le n front back le) ∙ ap (drop n) whole) in
    ap (stuffed_from now) start ∙ (h (back ++ more) ∙ ap₂ (λ xs ys. xs ++ stuffed_from next ys) taken left)

-- the dot that is put before a dot at the front of a line
pub sent_dot : (piece more out : List ℕ) → 0 < length piece → 0 < length out → get_or piece 0 0 ≡ 46
    → stuffed_from true (piece ++ more) ≡ take 1 (set out 0 46) ++ stuffed_from false (piece ++ more)
sent_dot [] more out some room e = absurd (omega arith)
sent_dot (b ∷ bs) more [] some room e = absurd (omega arith)
sent_dot (b ∷ bs) more (x ∷ xs) some room e = rw e refl

-- ---- what a buffer holds

take_behind : (p ys : List ℕ) (a m : ℕ) → length p ≡ a → m ≤ length ys → take (a + m) (p ++ ys) ≡ p ++ take m ys
take_behind p ys a m e h =
    ap (take (a + m)) (ap (λ zs. p ++ zs) (sym (take-append-drop m ys)) ∙ sym (append_assoc p (take m ys) (drop m ys)))
    ∙ take_at (p ++ take m ys) (drop m ys) (a + m) (omega (arith, e, length-append p (take m ys), length-take-le m ys h))

drop_behind : (p ys : List ℕ) (a m : ℕ) → length p ≡ a → drop (a + m) (p ++ ys) ≡ drop m ys
drop_behind p ys a m e = sym (drop-drop m a (p ++ ys)) ∙ ap (drop m) (drop_at p ys a e)

-- a buffer whose end was written
written_end : (a : ℕ) (xs ys : List ℕ) → a ≤ length xs → put_mid a (length xs - a) xs ys ≡ take a xs ++ ys
written_end a xs ys h =
    let past : length (drop a xs) ≤ length xs - a = omega (arith, length-drop a xs) in
    rw (drop_all (length xs - a) (drop a xs) past) (ap (λ zs. take a xs ++ zs) (append-nil ys))

pub length-written_end : (a : ℕ) (xs ys : List ℕ) → a ≤ length xs → length ys ≡ length (take (length xs - a) (drop a xs)) → length (put_mid a (length xs - a) xs ys) ≡ length xs
length-written_end a xs ys h e =
    ap length (written_end a xs ys h)
    ∙ omega (arith, e, ap length (take_rest xs a), length-append (take a xs) ys, length-take-le a xs h, length-drop a xs)

-- one part more is sent
pub sent_more : (start now next : Bool) (piece out ys : List ℕ) (taken put t p : ℕ) → put ≤ length out → p ≤ length ys
    → ((more : List ℕ) → stuffed_from start (piece ++ more) ≡ take put out ++ stuffed_from now (drop taken piece ++ more))
    → ((more : List ℕ) → stuffed_from now (take (length piece - taken) (drop taken piece) ++ more) ≡ take p ys ++ stuffed_from next (drop t (take (length piece - taken) (drop taken piece)) ++ more))
    → (more : List ℕ) → stuffed_from start (piece ++ more) ≡ take (put + p) (put_mid put (length out - put) out ys) ++ stuffed_from next (drop (taken + t) piece ++ more)
sent_more start now next piece out ys taken put t p room fits before here more =
    let rest = stuffed_from next (drop (taken + t) piece ++ more) in
    let second : stuffed_from now (drop taken piece ++ more) ≡ take p ys ++ rest = rw (take_rest piece taken, drop-drop t taken piece) at here more in
    let written : take (put + p) (put_mid put (length out - put) out ys) ≡ take put out ++ take p ys =
    ap (take (put + p)) (written_end put out ys room) ∙ take_behind (take put out) ys put p (length-take-le put out room) fits in
    before more ∙ (ap (λ zs. take put out ++ zs) second ∙ (sym (append_assoc (take put out) (take p ys) rest) ∙ ap (λ zs. zs ++ rest) (sym written)))

-- what lies after it stays
pub behind_more : (start out ys : List ℕ) (put p : ℕ) → put ≤ length out → drop put out ≡ drop put start
    → drop p ys ≡ drop p (take (length out - put) (drop put out)) → drop (put + p) (put_mid put (length out - put) out ys) ≡ drop (put + p) start
behind_more start out ys put p room before here =
    ap (drop (put + p)) (written_end put out ys room) ∙ (drop_behind (take put out) ys put p (length-take-le put out room)
    ∙ (here ∙ (ap (drop p) (take_rest out put ∙ before) ∙ drop-drop p put start)))

-- ---- what TOP sends

-- where the octets that came end
abbrev at : Place → ℕ → Come
at place n = record { place = place; left = n }

top_from-inside : (l rest : List ℕ) (n : ℕ) → Unbroken l → top_from (at Inside n) (l ++ (line_end ++ rest)) ≡ l ++ (line_end ++ top_from (at Front n) rest)
top_from-inside [] rest n h = refl
top_from-inside (b ∷ bs) rest n h = rw h.0 (ap (λ ys. b ∷ ys) (top_from-inside bs rest n h.1))

top_from-return : (l rest : List ℕ) (n : ℕ) → Unbroken l → top_from (at Return n) (l ++ (line_end ++ rest)) ≡ l ++ (line_end ++ top_from (at Front n) rest)
top_from-return [] rest n h = refl
top_from-return (b ∷ bs) rest n h = rw h.0 (ap (λ ys. b ∷ ys) (top_from-inside bs rest n h.1))

top_from-line : (b : ℕ) (bs rest : List ℕ) (n : ℕ) → Unbroken (b ∷ bs) → top_from (at Front n) ((b ∷ bs) ++ (line_end ++ rest)) ≡ (b ∷ bs) ++ (line_end ++ top_from (at Front n) rest)
top_from-line b bs rest n h =
    ⊎_elim (λ (e : eqb b 13 ≡ true). rw (h.0, e) (ap (λ ys. b ∷ ys) (top_from-return bs rest n h.1)))
    (λ (e : eqb b 13 ≡ false). rw (h.0, e) (ap (λ ys. b ∷ ys) (top_from-inside bs rest n h.1)))
    (cases_Bool (eqb b 13))

top_from-done : (bs : List ℕ) → top_from (at Body 0) bs ≡ []
top_from-done [] = refl
top_from-done (b ∷ bs) = refl

pub top_from-over : (come : Come) (bs : List ℕ) → is_over come ≡ true → top_from come bs ≡ []
top_from-over come [] e = refl
top_from-over come (b ∷ bs) e = rw e refl

top_from-body_line : (l rest : List ℕ) (n : ℕ) → Unbroken l → top_from (at Body (suc n)) (l ++ (line_end ++ rest)) ≡ l ++ (line_end ++ top_from (at Body n) rest)
top_from-body_line [] rest n h = rw (some_left n, one_less n) refl
top_from-body_line (b ∷ bs) rest n h = rw (some_left n, h.0) (ap (λ ys. b ∷ ys) (top_from-body_line bs rest n h.1))

top_from-body : (n : ℕ) (ls : List (List ℕ)) → AreLines ls → top_from (at Body n) (ended ls) ≡ ended (take n ls)
top_from-body zero ls h = top_from-done (ended ls)
top_from-body (suc n) [] h = refl
top_from-body (suc n) (l ∷ ls) h =
    ap (top_from (at Body (suc n))) (append_assoc l line_end (ended ls))
    ∙ (top_from-body_line l (ended ls) n h.0 ∙ (ap (λ rest. l ++ (line_end ++ rest)) (top_from-body n ls h.1)
    ∙ sym (append_assoc l line_end (ended (take n ls)))))

top_from-ended : (n : ℕ) (ls : List (List ℕ)) → AreLines ls → top_from (nothing_come n) (ended ls) ≡ ended (top_part ls n)
top_from-ended n [] h = refl
top_from-ended n ([] ∷ ls) h = ap (λ rest. line_end ++ rest) (top_from-body n ls h.1)
top_from-ended n ((b ∷ bs) ∷ ls) h =
    ap (top_from (nothing_come n)) (append_assoc (b ∷ bs) line_end (ended ls))
    ∙ (top_from-line b bs (ended ls) n h.0 ∙ (ap (λ rest. (b ∷ bs) ++ (line_end ++ rest)) (top_from-ended n ls h.1)
    ∙ sym (append_assoc (b ∷ bs) line_end (ended (top_part ls n)))))

pub top_from-kept : (text : List ℕ) (n : ℕ) → kept_form text ≡ text → top_from (nothing_come n) text ≡ ended (top_part (lines_of text) n)
top_from-kept text n kept = ap (top_from (nothing_come n)) (sym kept) ∙ top_from-ended n (lines_of text) (AreLines-lines_of text)
