-- Newcomers whose login is noted as lying unread, or not, while links are served.
use Rattle.std.proofs.Common.{◌≡◌, ℕ, zero, suc, ◌+◌, ◌-◌, ◌<◌, ◌≤◌, ◌==◌, min, Bool, true, false, not, ◌&&◌, List, [], ◌∷◌, ◌++◌, length, take, drop, set, get_or, map, refl, sym}
use Rattle.std.proofs.Common.{◌∙◌, ap, arith, Some, None, Option, ⊎_elim, ◌⊎◌, inl, inr, subst, true≢false, eqb-true, eq-eqb, le-leb, nat_le, nat_lt, ◌||◌, add-one}
use Rattle.std.proofs.lemmas.Bool.{cases_Bool}
use Rattle.std.proofs.Math.Nat.{min-le_right, min-eq_left}
use Rattle.serving.specs.declared.links.Seat.{Seat}
use Rattle.serving.specs.declared.newcomers.Newcomer.{Newcomer}
use Rattle.serving.specs.Newcomers.{newcomer, until, spent, is_late_by, lies_unread, since_at, held_at, settled, settled_if, settled_in, HaveSeats, NoSeat, IsNewcomers, IsAnothers}
use Rattle.serving.specs.Newcomers.{IsSettled, connection_of, AreSettled, CountsFrom, IsNewlyNoted, IsComer, AreNotedNow, waited_of}
use Rattle.serving.specs.Works.{is_late, is_shared, may_by}
use Rattle.serving.specs.Parts.{AreNoMoreLate}
use Rattle.serving.specs.Paces.{most_paced}
use Rattle.std.specs.List.{list_any, filter}
use Rattle.std.proofs.lemmas.Bool.{or_cases}
use Rattle.serving.proofs.Working.{or_true}
use Rattle.serving.proofs.Late.{found_here, found_later}
use Rattle.serving.proofs.Timely.{prompt_so}

-- ---- a list of which one more is changed

replaced : {A : Type 0} (f : A → A) (xs : List A) (i : ℕ) (d : A) → i < length xs
    → set (map f (take i xs) ++ drop i xs) i (f (get_or (map f (take i xs) ++ drop i xs) i d)) ≡ map f (take (suc i) xs) ++ drop (suc i) xs
replaced f [] i d h = absurd (omega arith)
replaced f (x ∷ xs) zero d h = refl
replaced f (x ∷ xs) (suc i) d h = ap (λ ys. f x ∷ ys) (replaced f xs i d (omega arith))

pub replaced_at : {A : Type 0} (f : A → A) (xs ys : List A) (i : ℕ) (d y : A) → i < length xs → ys ≡ map f (take i xs) ++ drop i xs → y ≡ f (get_or ys i d)
    → set ys i y ≡ map f (take (i + 1) xs) ++ drop (i + 1) xs
replaced_at f xs ys i d y h e q =
    let r : set ys i (f (get_or ys i d)) ≡ map f (take (suc i) xs) ++ drop (suc i) xs =
    subst (λ zs. set zs i (f (get_or zs i d)) ≡ map f (take (suc i) xs) ++ drop (suc i) xs) (sym e) (replaced f xs i d h) in
    rw (q, add-one) r

-- ---- one newcomer

settled_here : (c : ℕ) (b : Bool) (now : ℕ) (n : Newcomer) → (n.connection == c) ≡ true → settled_if c b now n ≡ settled b now n
settled_here c b now n e = rw e refl

settled_apart : (c : ℕ) (b : Bool) (now : ℕ) (n : Newcomer) → (n.connection == c) ≡ false → settled_if c b now n ≡ n
settled_apart c b now n e = rw e refl

same_connection : (b : Bool) (now : ℕ) (n : Newcomer) → (settled b now n).connection ≡ n.connection
same_connection true now n = refl
same_connection false now n = refl

still_connection : (c : ℕ) (b : Bool) (now : ℕ) (n : Newcomer) → (settled_if c b now n).connection ≡ n.connection
still_connection c b now n =
    ⊎_elim
    (λ (e : (n.connection == c) ≡ true). ap connection_of (settled_here c b now n e) ∙ same_connection b now n)
    (λ (e : (n.connection == c) ≡ false). ap connection_of (settled_apart c b now n e))
    (cases_Bool (n.connection == c))

less_twice : (now s : ℕ) → s ≤ now → now - (now - s) ≡ s
less_twice now s h = omega (arith, h)

min_self : (now : ℕ) → min now now ≡ now
min_self now = min-eq_left (omega arith)

until_held : (now : ℕ) (held : Option ℕ) → until now (held_at now held) ≡ until now held
until_held now None = min_self now
until_held now (Some moment) = refl

spent_free : (now : ℕ) (held : Option ℕ) (since : ℕ) → now - since_at now held since ≡ until now held - since
spent_free now None since = refl
spent_free now (Some moment) since =
    let h = min-le_right moment now in
    less_twice now (min moment now - since) (omega (arith, h))

fresh_free : (now : ℕ) (held : Option ℕ) (since : ℕ) → since ≡ now → since_at now held since ≡ now
fresh_free now None since e = e
fresh_free now (Some moment) since e =
    let h = min-le_right moment now in
    omega (arith, h, e)

-- as many of its seconds are over as before
same_spent : (b : Bool) (now : ℕ) (n : Newcomer) → spent now (settled b now n) ≡ spent now n
same_spent true now n = ap (λ k. k - n.since) (until_held now n.held)
same_spent false now n = spent_free now n.held n.since

-- and what counts from this moment still does
same_fresh : (b : Bool) (now : ℕ) (n : Newcomer) → n.since ≡ now → (settled b now n).since ≡ now
same_fresh true now n e = e
same_fresh false now n e = fresh_free now n.held n.since e

-- ---- who is found

found_settled : (d : ℕ) (b : Bool) (now : ℕ) (ns : List Newcomer) (c : ℕ) → IsSettled now (newcomer c ns) (newcomer c (settled_in d b now ns))
found_settled d b now [] c = refl
found_settled d b now (n ∷ ns) c =
    let m = settled_if d b now n in
    let same = still_connection d b now n in
    ⊎_elim
    (λ (e : (n.connection == c) ≡ true).
    (let here : (m.connection == c) ≡ true = ap (λ k. k == c) same ∙ e in
    let one : IsSettled now (Some n) (Some m) =
    ⊎_elim
    (λ (f : (n.connection == d) ≡ true).
    subst (λ k. IsSettled now (Some n) (Some k)) (sym (settled_here d b now n f))
    (settled b now n, refl, same_connection b now n, same_spent b now n, same_fresh b now n))
    (λ (f : (n.connection == d) ≡ false).
    subst (λ k. IsSettled now (Some n) (Some k)) (sym (settled_apart d b now n f)) (n, refl, refl, refl, (λ k. k)))
    (cases_Bool (n.connection == d)) in
    subst (λ x. IsSettled now x (newcomer c (m ∷ settled_in d b now ns))) (sym (found_here c n ns e))
    (subst (λ y. IsSettled now (Some n) y) (sym (found_here c m (settled_in d b now ns) here)) one)))
    (λ (e : (n.connection == c) ≡ false).
    (let there : (m.connection == c) ≡ false = ap (λ k. k == c) same ∙ e in
    subst (λ x. IsSettled now x (newcomer c (m ∷ settled_in d b now ns))) (sym (found_later c n ns e))
    (subst (λ y. IsSettled now (newcomer c ns) y) (sym (found_later c m (settled_in d b now ns) there)) (found_settled d b now ns c))))
    (cases_Bool (n.connection == c))

same_numbers : (d : ℕ) (b : Bool) (now : ℕ) (ns : List Newcomer) → map connection_of (settled_in d b now ns) ≡ map connection_of ns
same_numbers d b now [] = refl
same_numbers d b now (n ∷ ns) =
    ap (λ k. k ∷ map connection_of (settled_in d b now ns)) (still_connection d b now n) ∙ ap (λ ks. n.connection ∷ ks) (same_numbers d b now ns)

pub are_settled : (d : ℕ) (b : Bool) (now : ℕ) (ns ms : List Newcomer) → ms ≡ settled_in d b now ns → AreSettled now ns ms
are_settled d b now ns ms is =
    subst (AreSettled now ns) (sym is) (record { same = same_numbers d b now ns; each = found_settled d b now ns })

settled_same : (now : ℕ) (x : Option Newcomer) → IsSettled now x x
settled_same now None = refl
settled_same now (Some n) = (n, refl, refl, refl, (λ k. k))

pub settled_none : (now : ℕ) (ns : List Newcomer) → AreSettled now ns ns
settled_none now ns = record { same = refl; each = λ c. settled_same now (newcomer c ns) }

pub settled_next : (now : ℕ) (x y z : Option Newcomer) → IsSettled now x y → IsSettled now y z → IsSettled now x z
settled_next now None y z a b = subst (λ k. IsSettled now k z) a b
settled_next now (Some n) y z a b =
    let k : IsSettled now (Some a.0) z = subst (λ w. IsSettled now w z) a.1 b in
    (k.0, k.1, k.2 ∙ a.2, k.3 ∙ a.3, λ e. k.4 (a.4 e))

pub settled_then : (now : ℕ) (xs ys zs : List Newcomer) → AreSettled now xs ys → AreSettled now ys zs → AreSettled now xs zs
settled_then now xs ys zs a b = record {
  same = b.same ∙ a.same;
  each = λ c. settled_next now (newcomer c xs) (newcomer c ys) (newcomer c zs) (a.each c) (b.each c);
}

-- ---- seats

abbrev head_of : List ℕ → ℕ
head_of [] = 0
head_of (x ∷ xs) = x

abbrev tail_of : List ℕ → List ℕ
tail_of [] = []
tail_of (x ∷ xs) = xs

pub settled_seats : (ns ms : List Newcomer) (seats : List Seat) → map connection_of ms ≡ map connection_of ns → HaveSeats ns seats → HaveSeats ms seats
settled_seats ns ms seats same h = by ns seats ms h same where
  by : (ns : List Newcomer) (seats : List Seat) (ms : List Newcomer) → HaveSeats ns seats → map connection_of ms ≡ map connection_of ns → HaveSeats ms seats
  by _ _ [] NoSeat e = NoSeat
  by _ _ (m ∷ ms) NoSeat e = cc
  by _ _ [] (IsNewcomers n s ns seats is rest) e = cc
  by _ _ (m ∷ ms) (IsNewcomers n s ns seats is rest) e =
      let first : m.connection ≡ n.connection = ap head_of e in
      let others : map connection_of ms ≡ map connection_of ns = ap tail_of e in
      IsNewcomers m s ms seats (first ∙ is) (by ns seats ms rest others)
  by _ _ ms (IsAnothers s ns seats rest) e = IsAnothers s ms seats (by ns seats ms rest e)

-- ---- who is late

late_as : (now seconds : ℕ) (x y : Option Newcomer) → IsSettled now x y → is_late_by now seconds y ≡ is_late_by now seconds x
late_as now seconds None y a = ap (is_late_by now seconds) a
late_as now seconds (Some n) y a = ap (is_late_by now seconds) a.1 ∙ ap (λ k. nat_le seconds k) a.3

pub late_alike : (now seconds : ℕ) (xs ys : List Newcomer) (c : ℕ) → AreSettled now xs ys → is_late now seconds ys c ≡ is_late now seconds xs c
late_alike now seconds xs ys c a = ap (λ b. not (seconds == 0) && b) (late_as now seconds (newcomer c xs) (newcomer c ys) (a.each c))

pub late_settled : (now seconds : ℕ) (xs ys : List Newcomer) → AreSettled now xs ys → AreNoMoreLate now seconds xs ys
late_settled now seconds xs ys a = λ c h. sym (late_alike now seconds xs ys c a) ∙ h

-- ---- whose login lies unread

unread_apart : (d : ℕ) (b : Bool) (now : ℕ) (ns : List Newcomer) (c : ℕ) → (c == d) ≡ false → newcomer c (settled_in d b now ns) ≡ newcomer c ns
unread_apart d b now [] c e = refl
unread_apart d b now (n ∷ ns) c e =
    let m = settled_if d b now n in
    let same = still_connection d b now n in
    ⊎_elim
    (λ (f : (n.connection == c) ≡ true).
    (let here : (m.connection == c) ≡ true = ap (λ k. k == c) same ∙ f in
    let not_d : (n.connection == d) ≡ false = ap (λ k. k == d) (eqb-true n.connection c f) ∙ e in
    found_here c m (settled_in d b now ns) here ∙ (ap (λ k. Some k) (settled_apart d b now n not_d) ∙ sym (found_here c n ns f))))
    (λ (f : (n.connection == c) ≡ false).
    (let there : (m.connection == c) ≡ false = ap (λ k. k == c) same ∙ f in
    found_later c m (settled_in d b now ns) there ∙ (unread_apart d b now ns c e ∙ sym (found_later c n ns f))))
    (cases_Bool (n.connection == c))

-- whose does was noted so before, or is noted now
pub unread_before : (d : ℕ) (b : Bool) (now : ℕ) (ns ms : List Newcomer) → ms ≡ settled_in d b now ns → (c : ℕ) → lies_unread (newcomer c ms) ≡ true → (lies_unread (newcomer c ns) ≡ true) ⊎ (c ≡ d)
unread_before d b now ns ms is c h =
    ⊎_elim
    (λ (e : (c == d) ≡ true). inr (eqb-true c d e))
    (λ (e : (c == d) ≡ false). inl (ap lies_unread (sym (ap (newcomer c) is ∙ unread_apart d b now ns c e)) ∙ h))
    (cases_Bool (c == d))

settled_free : (now : ℕ) (n : Newcomer) → lies_unread (Some (settled false now n)) ≡ false
settled_free now n = refl

none_unread : (d now : ℕ) (ns : List Newcomer) → lies_unread (newcomer d (settled_in d false now ns)) ≡ false
none_unread d now [] = refl
none_unread d now (n ∷ ns) =
    let m = settled_if d false now n in
    let same = still_connection d false now n in
    ⊎_elim
    (λ (e : (n.connection == d) ≡ true).
    (let here : (m.connection == d) ≡ true = ap (λ k. k == d) same ∙ e in
    ap lies_unread (found_here d m (settled_in d false now ns) here) ∙ (ap (λ k. lies_unread (Some k)) (settled_here d false now n e) ∙ settled_free now n)))
    (λ (e : (n.connection == d) ≡ false).
    (let there : (m.connection == d) ≡ false = ap (λ k. k == d) same ∙ e in
    ap lies_unread (found_later d m (settled_in d false now ns) there) ∙ none_unread d now ns))
    (cases_Bool (n.connection == d))

-- it is noted that none does
pub not_unread : (d now : ℕ) (ns ms : List Newcomer) → ms ≡ settled_in d false now ns → lies_unread (newcomer d ms) ≡ true → ⊥
not_unread d now ns ms is h = true≢false (sym h ∙ (ap (λ l. lies_unread (newcomer d l)) is ∙ none_unread d now ns))

-- ---- who counts from this moment

pub counts_from : (now c : ℕ) (x y : Option Newcomer) → x ≡ Some (record { connection = c; since = now; held = None }) → IsSettled now x y → CountsFrom now y
counts_from now c x y is a =
    let k : IsSettled now (Some (record { connection = c; since = now; held = None })) y = subst (λ w. IsSettled now w y) is a in
    (k.0, k.1, k.4 refl)

pub comer_so : (now : ℕ) (xs ys zs : List Newcomer) (s : Seat) → AreSettled now ys zs → IsNewlyNoted now xs ys s → IsComer now xs zs s
comer_so now xs ys zs s a k none = counts_from now s.connection (newcomer s.connection ys) (newcomer s.connection zs) (k none) (a.each s.connection)

-- whoever is late is so still
pub late_still : (now seconds : ℕ) (xs ys : List Newcomer) (c : ℕ)
    → ((n : Newcomer) → newcomer c xs ≡ Some n → IsSettled now (Some n) (newcomer c ys)) → is_late now seconds xs c ≡ true → is_late now seconds ys c ≡ true
late_still now seconds xs ys c keeps h = by (newcomer c xs) refl where
  by : (m : Option Newcomer) → newcomer c xs ≡ m → is_late now seconds ys c ≡ true
  by None is =
      let k : is_late now seconds xs c ≡ false = prompt_so now seconds xs c (ap (is_late_by now seconds) is) in
      absurd (true≢false (sym h ∙ k))
  by (Some n) is =
      let same : is_late_by now seconds (newcomer c ys) ≡ is_late_by now seconds (newcomer c xs) = late_as now seconds (Some n) (newcomer c ys) (keeps n is) ∙ ap (is_late_by now seconds) (sym is) in
      ap (λ b. not (seconds == 0) && b) same ∙ h

-- ---- numbers of seats

filter_true : (p : Seat → Bool) (x : Seat) (xs : List Seat) → p x ≡ true → filter p (x ∷ xs) ≡ x ∷ filter p xs
filter_true p x xs e = rw e refl

filter_false : (p : Seat → Bool) (x : Seat) (xs : List Seat) → p x ≡ false → filter p (x ∷ xs) ≡ filter p xs
filter_false p x xs e = rw e refl

one_at_least : (p : Seat → Bool) (xs : List Seat) (i : ℕ) (d : Seat) → i < length xs → p (get_or xs i d) ≡ true → 1 ≤ length (filter p xs)
one_at_least p [] i d h e = absurd (omega (arith, h))
one_at_least p (x ∷ xs) zero d h e = rw (filter_true p x xs e) (omega arith)
one_at_least p (x ∷ xs) (suc i) d h e =
    ⊎_elim
    (λ (f : p x ≡ true). rw (filter_true p x xs f) (omega arith))
    (λ (f : p x ≡ false). rw (filter_false p x xs f) (one_at_least p xs i d (omega (arith, h)) e))
    (cases_Bool (p x))

two_at_least : (p : Seat → Bool) (xs : List Seat) (i : ℕ) (d : Seat) → i < length xs → list_any p (take i xs) ≡ true → p (get_or xs i d) ≡ true → 2 ≤ length (filter p xs)
two_at_least p [] i d h a e = absurd (omega (arith, h))
two_at_least p (x ∷ xs) zero d h a e = cc
two_at_least p (x ∷ xs) (suc i) d h a e =
    let within : i < length xs = omega (arith, h) in
    ⊎_elim
    (λ (f : p x ≡ true).
    (let k : 1 ≤ length (filter p xs) = one_at_least p xs i d within e in
    rw (filter_true p x xs f) (omega (arith, k))))
    (λ (f : p x ≡ false).
    (let rest : list_any p (take i xs) ≡ true = sym (ap (λ b. b || list_any p (take i xs)) f) ∙ a in
    rw (filter_false p x xs f) (two_at_least p xs i d within rest e)))
    (cases_Bool (p x))

-- that of a seat which one before it has
pub shared_so : (xs : List Seat) (i : ℕ) (d : Seat) → i < length xs → list_any (λ s. s.connection == (get_or xs i d).connection) (take i xs) ≡ true → is_shared xs (get_or xs i d).connection ≡ true
shared_so xs i d h a =
    let c = (get_or xs i d).connection in
    le-leb 2 (length (filter (λ s. s.connection == c) xs)) (two_at_least (λ s. s.connection == c) xs i d h a (eq-eqb c c refl))

any_further : (p : Seat → Bool) (xs : List Seat) (i : ℕ) → list_any p (take i xs) ≡ true → list_any p (take (suc i) xs) ≡ true
any_further p [] zero a = cc
any_further p [] (suc i) a = cc
any_further p (x ∷ xs) zero a = cc
any_further p (x ∷ xs) (suc i) a =
    ⊎_elim
    (λ (f : p x ≡ true). ap (λ b. b || list_any p (take (suc i) xs)) f)
    (λ (f : p x ≡ false).
    (let rest : list_any p (take i xs) ≡ true = sym (ap (λ b. b || list_any p (take i xs)) f) ∙ a in
    ap (λ b. b || list_any p (take (suc i) xs)) f ∙ any_further p xs i rest))
    (cases_Bool (p x))

any_here : (p : Seat → Bool) (xs : List Seat) (i : ℕ) (d : Seat) → i < length xs → p (get_or xs i d) ≡ true → list_any p (take (suc i) xs) ≡ true
any_here p [] i d h e = absurd (omega (arith, h))
any_here p (x ∷ xs) zero d h e = ap (λ b. b || list_any p (take zero xs)) e
any_here p (x ∷ xs) (suc i) d h e =
    ⊎_elim
    (λ (f : p x ≡ true). ap (λ b. b || list_any p (take (suc i) xs)) f)
    (λ (f : p x ≡ false). ap (λ b. b || list_any p (take (suc i) xs)) f ∙ any_here p xs i d (omega (arith, h)) e)
    (cases_Bool (p x))

-- whoever is noted otherwise than as the seats began to be served has the number of one that was
abbrev pub AreTouched : (ns ms : List Newcomer) (these : List Seat) → Type 0
AreTouched ns ms these = (c : ℕ) → (newcomer c ms ≡ newcomer c ns) ⊎ (list_any (λ s. s.connection == c) these ≡ true)

pub touched_next : (now : ℕ) (b : Bool) (ns ms ms2 : List Newcomer) (seats cur : List Seat) (i : ℕ) (d : Seat) → cur ≡ seats → i < length cur → ms2 ≡ settled_in (get_or cur i d).connection b now ms
    → AreTouched ns ms (take i seats) → AreTouched ns ms2 (take (i + 1) seats)
touched_next now b ns ms ms2 seats cur i d same h is before c =
    let within : i < length seats = subst (λ v. i < length v) same h in
    let q : Seat = get_or seats i d in
    let at : ms2 ≡ settled_in q.connection b now ms = subst (λ v. ms2 ≡ settled_in (get_or v i d).connection b now ms) same is in
    let p : Seat → Bool = λ s. s.connection == c in
    let more : list_any p (take (suc i) seats) ≡ true → list_any p (take (i + 1) seats) ≡ true = λ k. subst (λ n. list_any p (take n seats) ≡ true) (sym (add-one i)) k in
    ⊎_elim
    (λ (e : (c == q.connection) ≡ true). inr (more (any_here p seats i d within (eq-eqb q.connection c (sym (eqb-true c q.connection e))))))
    (λ (e : (c == q.connection) ≡ false).
    ⊎_elim
    (λ (k : newcomer c ms ≡ newcomer c ns). inl (ap (newcomer c) at ∙ (unread_apart q.connection b now ms c e ∙ k)))
    (λ (k : list_any p (take i seats) ≡ true). inr (more (any_further p seats i k)))
    (before c))
    (cases_Bool (c == q.connection))

-- ---- which logins may be kept back

pub may_more : (slow : Bool) (now : ℕ) (ns : List Newcomer) (seats : List Seat) (lock_released released2 : Bool) (c : ℕ) → (lock_released ≡ true → released2 ≡ true)
    → may_by slow now ns seats lock_released c ≡ true → may_by slow now ns seats released2 c ≡ true
may_more slow now ns seats true released2 c more h = ap (λ b. b || (slow && (nat_lt (waited_of now (newcomer c ns)) most_paced || is_shared seats c))) (more refl)
may_more slow now ns seats false true c more h = refl
may_more slow now ns seats false false c more h = h

paced_more : (slow less shared : Bool) → (slow && less) ≡ true → (slow && (less || shared)) ≡ true
paced_more true true shared h = refl
paced_more true false shared h = cc
paced_more false less shared h = cc

paced_shared : (slow less less2 shared : Bool) → shared ≡ true → (slow && less) ≡ true → (slow && (less2 || shared)) ≡ true
paced_shared true less true shared e h = refl
paced_shared true less false shared e h = e
paced_shared false less less2 shared e h = cc

-- of the connection of a seat, behind those before it
pub may_then : (slow slow2 lock_released released2 : Bool) (now : ℕ) (ns ms : List Newcomer) (seats : List Seat) (i : ℕ) (d : Seat) → slow2 ≡ slow
    → (lock_released ≡ true → released2 ≡ true) → i < length seats → AreTouched ns ms (take i seats)
    → (lock_released || (slow2 && nat_lt (waited_of now (newcomer (get_or seats i d).connection ms)) most_paced)) ≡ true → may_by slow now ns seats released2 (get_or seats i d).connection ≡ true
may_then slow slow2 lock_released released2 now ns ms seats i d same more h touched k =
    let c = (get_or seats i d).connection in
    let less = nat_lt (waited_of now (newcomer c ns)) most_paced in
    let less2 = nat_lt (waited_of now (newcomer c ms)) most_paced in
    ⊎_elim
    (λ (f : lock_released ≡ true). ap (λ b. b || (slow && (less || is_shared seats c))) (more f))
    (λ (p2 : (slow2 && less2) ≡ true).
    (let p : (slow && less2) ≡ true = subst (λ b. (b && less2) ≡ true) same p2 in
    let by_pace : (slow && (less || is_shared seats c)) ≡ true =
    ⊎_elim
    (λ (e : newcomer c ms ≡ newcomer c ns). paced_more slow less (is_shared seats c) (subst (λ n. (slow && nat_lt (waited_of now n) most_paced) ≡ true) e p))
    (λ (a : list_any (λ s. s.connection == c) (take i seats) ≡ true). paced_shared slow less2 less (is_shared seats c) (shared_so seats i d h a) p)
    (touched c) in
    ap (λ b. released2 || b) by_pace ∙ or_true released2))
    (or_cases lock_released (slow2 && less2) k)

pub may_same : (slow : Bool) (now : ℕ) (ns ms : List Newcomer) (seats : List Seat) (lock_released : Bool) (c : ℕ)
    → waited_of now (newcomer c ns) ≡ waited_of now (newcomer c ms) → may_by slow now ns seats lock_released c ≡ true → may_by slow now ms seats lock_released c ≡ true
may_same slow now ns ms seats lock_released c e h = subst (λ n. (lock_released || (slow && (nat_lt n most_paced || is_shared seats c))) ≡ true) e h

-- whoever comes has waited for nothing
pub waited_same : (now : ℕ) (ns ms : List Newcomer) → AreNotedNow now ns ms
    → ((c : ℕ) (n : Newcomer) → newcomer c ns ≡ Some n → newcomer c ms ≡ Some n) → (c : ℕ) → waited_of now (newcomer c ms) ≡ waited_of now (newcomer c ns)
waited_same now ns ms each keeps c = by (newcomer c ns) refl where
  by : (m : Option Newcomer) → newcomer c ns ≡ m → waited_of now (newcomer c ms) ≡ waited_of now (newcomer c ns)
  by None is =
      ⊎_elim
      (λ (e : newcomer c ms ≡ newcomer c ns). ap (waited_of now) e)
      (λ (e : newcomer c ms ≡ Some (record { connection = c; since = now; held = None })). ap (waited_of now) e ∙ sym (ap (waited_of now) is))
      (each c)
  by (Some n) is = ap (waited_of now) (keeps c n is ∙ sym is)
