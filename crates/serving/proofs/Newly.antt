-- Newcomers, each with its seat, and those that are noted anew.
use Rattle.std.proofs.Common.{◌≡◌, ◌≤◌, ◌<◌, ℕ, zero, suc, ◌==◌, Bool, true, false, List, [], ◌∷◌, ◌++◌, length, drop, get_or, refl, sym, ◌∙◌, ap, arith, Some, None, ⊎_elim, inl}
use Rattle.std.proofs.Common.{inr, subst, eq-eqb, eqb-true, append_assoc}
use Rattle.std.specs.List.{remove}
use Rattle.std.proofs.lemmas.Bool.{cases_Bool}
use Rattle.std.proofs.lemmas.List.{append-nil}
use Rattle.std.proofs.Math.Seq.{drop-append_seam}
use Rattle.std.proofs.lemmas.List.Elements.{All-nil, All-cons, All-append, All-weaker}
use Rattle.serving.specs.declared.links.Seat.{Seat}
use Rattle.serving.specs.declared.newcomers.Newcomer.{Newcomer}
use Rattle.serving.specs.declared.wire.Link.{Link}
use Rattle.serving.specs.Newcomers.{newcomer, others, noted, HaveSeats, NoSeat, IsNewcomers, IsAnothers, IsNewlyNoted, AreNotedNow}
use Rattle.serving.specs.Parts.{Keeps, AreNoted}
use Rattle.serving.proofs.Composing.{keeps_none, keeps_then}
use Rattle.serving.specs.declared.links.Clients.{Clients}
use Rattle.serving.proofs.Late.{found_here, found_later, others_gone, others_kept, one_more}
use Rattle.serving.proofs.Timely.{found_noted}

-- ---- seats

-- there are no more newcomers than seats
pub seats_enough : (ns : List Newcomer) (seats : List Seat) → HaveSeats ns seats → length ns ≤ length seats
seats_enough _ _ NoSeat = omega arith
seats_enough _ _ (IsNewcomers n s ns seats is rest) = (let k = seats_enough ns seats rest in omega (arith, k))
seats_enough _ _ (IsAnothers s ns seats rest) = (let k = seats_enough ns seats rest in omega (arith, k))

seat_more : (ns : List Newcomer) (seats : List Seat) (s : Seat) → HaveSeats ns seats → HaveSeats ns (seats ++ s ∷ [])
seat_more _ _ s NoSeat = IsAnothers s [] [] NoSeat
seat_more _ _ s (IsNewcomers n t ns seats is rest) = IsNewcomers n t ns (seats ++ s ∷ []) is (seat_more ns seats s rest)
seat_more _ _ s (IsAnothers t ns seats rest) = IsAnothers t ns (seats ++ s ∷ []) (seat_more ns seats s rest)

newcomer_more : (ns : List Newcomer) (seats : List Seat) (n : Newcomer) (s : Seat) → n.connection ≡ s.connection → HaveSeats ns seats → HaveSeats (ns ++ n ∷ []) (seats ++ s ∷ [])
newcomer_more _ _ n s e NoSeat = IsNewcomers n s [] [] e NoSeat
newcomer_more _ _ n s e (IsNewcomers m t ns seats is rest) = IsNewcomers m t (ns ++ n ∷ []) (seats ++ s ∷ []) is (newcomer_more ns seats n s e rest)
newcomer_more _ _ n s e (IsAnothers t ns seats rest) = IsAnothers t (ns ++ n ∷ []) (seats ++ s ∷ []) (newcomer_more ns seats n s e rest)

-- one more seat, whose connection is noted or isn't
pub seated_noted : (b : Bool) (link : Link) (c now : ℕ) (ns ns2 : List Newcomer) (seats seats2 : List Seat) → ns2 ≡ noted b c now ns → seats2 ≡ seats ++ record { link = link; connection = c } ∷ []
    → HaveSeats ns seats → HaveSeats ns2 seats2
seated_noted false link c now ns ns2 seats seats2 is at h =
    let s : Seat = record { link = link; connection = c } in
    subst (λ l. HaveSeats l seats2) (sym is) (subst (HaveSeats ns) (sym at) (seat_more ns seats s h))
seated_noted true link c now ns ns2 seats seats2 is at h =
    let s : Seat = record { link = link; connection = c } in
    let n : Newcomer = record { connection = c; since = now; held = None } in
    subst (λ l. HaveSeats l seats2) (sym is) (subst (HaveSeats (ns ++ n ∷ [])) (sym at) (newcomer_more ns seats n s refl h))

pub seated_others : (c : ℕ) (ns : List Newcomer) (seats : List Seat) → HaveSeats ns seats → HaveSeats (others c ns) seats
seated_others c _ _ NoSeat = NoSeat
seated_others c _ _ (IsNewcomers n s ns seats is rest) =
    ⊎_elim
    (λ (e : (n.connection == c) ≡ true). subst (λ l. HaveSeats l (s ∷ seats)) (sym (others_gone c n ns e)) (IsAnothers s (others c ns) seats (seated_others c ns seats rest)))
    (λ (e : (n.connection == c) ≡ false). subst (λ l. HaveSeats l (s ∷ seats)) (sym (others_kept c n ns e)) (IsNewcomers n s (others c ns) seats is (seated_others c ns seats rest)))
    (cases_Bool (n.connection == c))
seated_others c _ _ (IsAnothers s ns seats rest) = IsAnothers s (others c ns) seats (seated_others c ns seats rest)

-- a seat goes, and who is noted of its connection
pub seats_without : (c : ℕ) (ns : List Newcomer) (seats : List Seat) (i : ℕ) (d : Seat) → i < length seats → (get_or seats i d).connection ≡ c
    → HaveSeats ns seats → HaveSeats (others c ns) (remove seats i)
seats_without c _ _ i d h is NoSeat = absurd (omega (arith, h))
seats_without c _ _ zero d h is (IsNewcomers n s ns seats own rest) =
    let e : (n.connection == c) ≡ true = eq-eqb n.connection c (own ∙ is) in
    subst (λ l. HaveSeats l seats) (sym (others_gone c n ns e)) (seated_others c ns seats rest)
seats_without c _ _ zero d h is (IsAnothers s ns seats rest) = seated_others c ns seats rest
seats_without c _ _ (suc i) d h is (IsNewcomers n s ns seats own rest) =
    let k : i < length seats = omega (arith, h) in
    ⊎_elim
    (λ (e : (n.connection == c) ≡ true). subst (λ l. HaveSeats l (s ∷ remove seats i)) (sym (others_gone c n ns e))
    (IsAnothers s (others c ns) (remove seats i) (seats_without c ns seats i d k is rest)))
    (λ (e : (n.connection == c) ≡ false). subst (λ l. HaveSeats l (s ∷ remove seats i)) (sym (others_kept c n ns e))
    (IsNewcomers n s (others c ns) (remove seats i) own (seats_without c ns seats i d k is rest)))
    (cases_Bool (n.connection == c))
seats_without c _ _ (suc i) d h is (IsAnothers s ns seats rest) =
    let k : i < length seats = omega (arith, h) in
    IsAnothers s (others c ns) (remove seats i) (seats_without c ns seats i d k is rest)

-- ---- who is noted anew

-- one more at the end is found, if nobody was
found_last : (c : ℕ) (n : Newcomer) (xs : List Newcomer) → (n.connection == c) ≡ true → newcomer c xs ≡ None → newcomer c (xs ++ n ∷ []) ≡ Some n
found_last c n [] e none = found_here c n [] e
found_last c n (x ∷ xs) e none =
    ⊎_elim
    (λ (f : (x.connection == c) ≡ true). (let k : Some x ≡ None = sym (found_here c x xs f) ∙ none in cc))
    (λ (f : (x.connection == c) ≡ false). found_later c x (xs ++ n ∷ []) f ∙ found_last c n xs e (sym (found_later c x xs f) ∙ none))
    (cases_Bool (x.connection == c))

-- nobody at the end is found by another number
passed_last : (c : ℕ) (n : Newcomer) (xs : List Newcomer) → (n.connection == c) ≡ false → newcomer c (xs ++ n ∷ []) ≡ newcomer c xs
passed_last c n [] e = found_later c n [] e
passed_last c n (x ∷ xs) e =
    ⊎_elim
    (λ (f : (x.connection == c) ≡ true). found_here c x (xs ++ n ∷ []) f ∙ sym (found_here c x xs f))
    (λ (f : (x.connection == c) ≡ false). found_later c x (xs ++ n ∷ []) f ∙ (passed_last c n xs e ∙ sym (found_later c x xs f)))
    (cases_Bool (x.connection == c))

each_noted : (b : Bool) (c now : ℕ) (xs ys : List Newcomer) → ys ≡ noted b c now xs → AreNotedNow now xs ys
each_noted false c now xs ys is = λ q. inl (ap (newcomer q) is)
each_noted true c now xs ys is = λ q.
    (let n : Newcomer = record { connection = c; since = now; held = None } in
    ⊎_elim
    (λ (e : (c == q) ≡ true).
    ⊎_elim
    (λ (f : newcomer q (xs ++ n ∷ []) ≡ newcomer q xs). inl (ap (newcomer q) is ∙ f))
    (λ (f : newcomer q (xs ++ n ∷ []) ≡ Some n). inr (ap (newcomer q) is ∙ (f ∙ ap (λ k. Some (record { connection = k; since = now; held = None })) (eqb-true c q e))))
    (one_more q n xs))
    (λ (e : (c == q) ≡ false). inl (ap (newcomer q) is ∙ passed_last q n xs e))
    (cases_Bool (c == q)))

newly_one : (b : Bool) (link : Link) (c now : ℕ) (xs ys : List Newcomer) → b ≡ true → ys ≡ noted b c now xs → IsNewlyNoted now xs ys (record { link = link; connection = c })
newly_one false link c now xs ys e is = cc
newly_one true link c now xs ys e is = λ none. ap (newcomer c) is ∙ found_last c (record { connection = c; since = now; held = None }) xs (eq-eqb c c refl) none

module _ (now : ℕ) where
  pub noted_none : (a : Clients) → AreNoted a a now
  noted_none a = record {
    keeps = keeps_none a;
    poll_now = refl;
    more = [];
    is = sym (append-nil a.seats.items);
    seated = λ h. h;
    each = λ c. inl refl;
    newly = λ h. All-nil (IsNewlyNoted now a.newcomers.newcomers.items a.newcomers.newcomers.items);
    noted = λ c n h. h;
  }

  pub noted_one : (a b : Clients) (link : Link) (c : ℕ) (room : Bool) → Keeps a b → b.poll_now ≡ a.poll_now → b.seats.items ≡ a.seats.items ++ record { link = link; connection = c } ∷ []
      → b.newcomers.newcomers.items ≡ noted room c now a.newcomers.newcomers.items → (length a.newcomers.newcomers.items < 128 → room ≡ true) → length a.seats.items < 128 → AreNoted a b now
  noted_one a b link c room keeps poll_now at is enough free =
      let s : Seat = record { link = link; connection = c } in
      let P = IsNewlyNoted now a.newcomers.newcomers.items b.newcomers.newcomers.items in
      record {
        keeps = keeps;
        poll_now = poll_now;
        more = s ∷ [];
        is = at;
        seated = seated_noted room link c now a.newcomers.newcomers.items b.newcomers.newcomers.items a.seats.items b.seats.items is at;
        each = each_noted room c now a.newcomers.newcomers.items b.newcomers.newcomers.items is;
        newly = λ h.
            (let k = seats_enough a.newcomers.newcomers.items a.seats.items h in
            let yes : room ≡ true = enough (omega (arith, k, free)) in
            All-cons P s [] (newly_one room link c now a.newcomers.newcomers.items b.newcomers.newcomers.items yes is) (All-nil P));
        noted = found_noted room c now a.newcomers.newcomers.items b.newcomers.newcomers.items is;
      }

  pub noted_then : (a b c : Clients) → AreNoted a b now → AreNoted b c now → AreNoted a c now
  noted_then a b c p q =
      let olds = a.newcomers.newcomers.items in
      let mids = b.newcomers.newcomers.items in
      let news = c.newcomers.newcomers.items in
      let P = IsNewlyNoted now olds news in
      record {
        keeps = keeps_then a b c p.keeps q.keeps;
        poll_now = q.poll_now ∙ p.poll_now;
        more = p.more ++ q.more;
        is = q.is ∙ (ap (λ l. l ++ q.more) p.is ∙ append_assoc a.seats.items p.more q.more);
        seated = λ h. q.seated (p.seated h);
        each = λ n.
            ⊎_elim
            (λ (e : newcomer n news ≡ newcomer n mids).
            ⊎_elim
            (λ (f : newcomer n mids ≡ newcomer n olds). inl (e ∙ f))
            (λ (f : newcomer n mids ≡ Some (record { connection = n; since = now; held = None })). inr (e ∙ f))
            (p.each n))
            (λ (e : newcomer n news ≡ Some (record { connection = n; since = now; held = None })). inr e)
            (q.each n);
        newly = λ h.
            (let still : (s : Seat) → newcomer s.connection mids ≡ Some (record { connection = s.connection; since = now; held = None })
            → newcomer s.connection news ≡ Some (record { connection = s.connection; since = now; held = None }) = λ s k.
            ⊎_elim
            (λ (e : newcomer s.connection news ≡ newcomer s.connection mids). e ∙ k)
            (λ (e : newcomer s.connection news ≡ Some (record { connection = s.connection; since = now; held = None })). e)
            (q.each s.connection) in
            All-append P p.more q.more
            (All-weaker (IsNewlyNoted now olds mids) P (λ s k none. still s (k none)) p.more (p.newly h))
            (All-weaker (IsNewlyNoted now mids news) P
            (λ s k none.
            ⊎_elim
            (λ (e : newcomer s.connection mids ≡ newcomer s.connection olds). k (e ∙ none))
            (λ (e : newcomer s.connection mids ≡ Some (record { connection = s.connection; since = now; held = None })). still s e)
            (p.each s.connection))
            q.more (q.newly (p.seated h))));
        noted = λ n m h. q.noted n m (p.noted n m h);
      }

-- those that came are those after the first seats
pub more_is : (xs ys zs seats : List Seat) → seats ≡ xs ++ ys → seats ≡ xs ++ zs → ys ≡ zs
more_is xs ys zs seats a b = sym (drop-append_seam xs ys) ∙ (ap (drop (length xs)) (sym a ∙ b) ∙ drop-append_seam xs zs)
