-- Whose place a newcomer gets, and the events of links that come at a full house.
use Rattle.std.proofs.Common.{◌≡◌, ℕ, ◌+◌, ◌<◌, ◌≤◌, Bool, true, false, ◌&&◌, List, [], ◌∷◌, ◌++◌, length, take, get_or, option_to_list, refl, sym, ◌∙◌, ap, arith}
use Rattle.std.proofs.Common.{nat_le, leb-true, Some, None, Option, ⊎_elim, subst, append_assoc}
use Rattle.std.specs.List.{All, Contains, filter_map, find, count_by}
use Rattle.std.proofs.lemmas.Bool.{cases_Bool, leb-false}
use Rattle.std.proofs.lemmas.List.{append-nil, take_more, length-append}
use Rattle.std.proofs.lemmas.List.Elements.{All-nil, All-cons, All-head, All-tail, All-weaker, filter_map-append, Contains-append_right}
use Rattle.std.specs.declared.net.ip_addr.IpAddr.{IpAddr}
use Rattle.vault.specs.Records.{Records}
use Rattle.office.specs.Events.{EventTag, Log, Trace}
use Rattle.office.specs.Events as event
use Rattle.office.specs.Trace.{is_open}
use Rattle.office.specs.Taken.{trace_of}
use Rattle.serving.specs.Room.{is_candidate, CountsAs, IsSeenAs, AreCandidates, NoPlaces, IsCandidate, IsNoCandidate, holds_most, seat_in, first_of_most, GivesPlaceIf, GivesPlace, IsGoneOf}
use Rattle.serving.specs.Room.{HaveRoom, NoneCame, OneCame, is_full_house}
use Rattle.serving.specs.Works.{is_open_seat, Came, seat_of, moments, openings, refusals, is_opening, is_refusal}
use Rattle.serving.specs.declared.links.Seat.{Seat}
use Rattle.serving.specs.declared.room.Candidate.{Candidate}
use Rattle.serving.specs.declared.wire.Link.{Link}
use Rattle.serving.proofs.Working.{count_joined}

-- ---- candidates

unseen : (b : Bool) (address : Option IpAddr) (s : Seat) → IsSeenAs b address s None → b ≡ false
unseen false address s h = refl
unseen true address s (origin, counts, e) = cc

seen : (b : Bool) (address : Option IpAddr) (s : Seat) (c : Candidate) → IsSeenAs b address s (Some c)
    → (b ≡ true) × (c.seat ≡ s) × CountsAs address c.origin
seen false address s c e = cc
seen true address s c (origin, counts, e) =
    let is : record { seat = s; origin = origin } ≡ c = cc in (refl, sym (ap (λ (d : Candidate). d.seat) is), subst (λ (d : Candidate). CountsAs address d.origin) is counts)

-- there are no more than seats
pub candidates_few : (i : ℕ) (result : Option Candidate) (cs cs2 : List Candidate) → cs2 ≡ cs ++ option_to_list result → length cs ≤ i → length cs2 ≤ i + 1
candidates_few i None cs cs2 e h = let k = ap length (e ∙ append-nil cs) in omega (arith, k, h)
candidates_few i (Some c) cs cs2 e h = let k = ap length e ∙ length-append cs (c ∷ []) in omega (arith, k, h)

module _ (T : Trace) (addresses : Link → Option IpAddr) where
  none_more : (s : Seat) (seats : List Seat) (cs : List Candidate) → is_candidate T s ≡ false → AreCandidates T addresses seats cs → AreCandidates T addresses (seats ++ s ∷ []) cs
  none_more s _ _ e NoPlaces = IsNoCandidate s [] [] e NoPlaces
  none_more s _ _ e (IsCandidate q origin seats cs is counts rest) = IsCandidate q origin (seats ++ s ∷ []) cs is counts (none_more s seats cs e rest)
  none_more s _ _ e (IsNoCandidate q seats cs is rest) = IsNoCandidate q (seats ++ s ∷ []) cs is (none_more s seats cs e rest)

  one_more : (s : Seat) (origin : Option ℕ) (seats : List Seat) (cs : List Candidate) → is_candidate T s ≡ true → CountsAs (addresses s.link) origin
      → AreCandidates T addresses seats cs → AreCandidates T addresses (seats ++ s ∷ []) (cs ++ record { seat = s; origin = origin } ∷ [])
  one_more s origin _ _ e n NoPlaces = IsCandidate s origin [] [] e n NoPlaces
  one_more s origin _ _ e n (IsCandidate q o seats cs is counts rest) =
      IsCandidate q o (seats ++ s ∷ []) (cs ++ record { seat = s; origin = origin } ∷ []) is counts (one_more s origin seats cs e n rest)
  one_more s origin _ _ e n (IsNoCandidate q seats cs is rest) = IsNoCandidate q (seats ++ s ∷ []) (cs ++ record { seat = s; origin = origin } ∷ []) is (one_more s origin seats cs e n rest)

  -- one seat more, whose client is one or isn't
  pub candidates_more : (seats : List Seat) (i : ℕ) (d : Seat) (result : Option Candidate) (cs cs2 : List Candidate) → i < length seats
      → IsSeenAs (is_candidate T (get_or seats i d)) (addresses (get_or seats i d).link) (get_or seats i d) result → cs2 ≡ cs ++ option_to_list result
      → AreCandidates T addresses (take i seats) cs → AreCandidates T addresses (take (i + 1) seats) cs2
  candidates_more seats i d None cs cs2 lt h e a =
      let s = get_or seats i d in
      subst (AreCandidates T addresses (take (i + 1) seats)) (sym (e ∙ append-nil cs))
      (subst (λ xs. AreCandidates T addresses xs cs) (sym (take_more seats i d lt)) (none_more s (take i seats) cs (unseen (is_candidate T s) (addresses s.link) s h) a))
  candidates_more seats i d (Some c) cs cs2 lt h e a =
      let s = get_or seats i d in
      let k = seen (is_candidate T s) (addresses s.link) s c h in
      let same : record { seat = s; origin = c.origin } ≡ c = ap (λ q. record { seat = q; origin = c.origin }) (sym k.1) in
      subst (λ xs. AreCandidates T addresses xs cs2) (sym (take_more seats i d lt))
      (subst (AreCandidates T addresses (take i seats ++ s ∷ [])) (sym e)
      (subst (λ x. AreCandidates T addresses (take i seats ++ s ∷ []) (cs ++ x ∷ [])) same (one_more s c.origin (take i seats) cs k.0 k.2 a)))

  -- each has one of the seats, and isn't logged in
  abbrev IsListed : List Seat → Candidate → Type 0
  IsListed seats c = Contains seats c.seat × (is_candidate T c.seat ≡ true)

  later : (s : Seat) (seats : List Seat) (c : Candidate) → IsListed seats c → IsListed (s ∷ seats) c
  later s seats c (has, is) = (Contains-append_right (s ∷ []) seats c.seat has, is)

  listed : (seats : List Seat) (cs : List Candidate) → AreCandidates T addresses seats cs → All (IsListed seats) cs
  listed _ _ NoPlaces = All-nil (IsListed [])
  listed _ _ (IsCandidate s origin seats cs is counts rest) =
      All-cons (IsListed (s ∷ seats)) (record { seat = s; origin = origin }) cs ((0, omega arith, refl), is)
      (All-weaker (IsListed seats) (IsListed (s ∷ seats)) (later s seats) cs (listed seats cs rest))
  listed _ _ (IsNoCandidate s seats cs is rest) = All-weaker (IsListed seats) (IsListed (s ∷ seats)) (later s seats) cs (listed seats cs rest)

-- ---- the first of most

some_same : {A : Type 0} (x y : A) → Some x ≡ Some y → x ≡ y
some_same x y e = cc

found_first : {A : Type 0} (p : A → Bool) (x : A) (xs : List A) → p x ≡ true → find p (x ∷ xs) ≡ Some x
found_first p x xs e = rw e refl

found_later : {A : Type 0} (p : A → Bool) (x : A) (xs : List A) → p x ≡ false → find p (x ∷ xs) ≡ find p xs
found_later p x xs e = rw e refl

found_holds : {A : Type 0} (P : A → Type 0) (p : A → Bool) (xs : List A) (c : A) → All P xs → find p xs ≡ Some c → P c
found_holds P p [] c a e = cc
found_holds P p (x ∷ xs) c a e =
    ⊎_elim
    (λ (t : p x ≡ true). subst P (some_same x c (sym (found_first p x xs t) ∙ e)) (All-head P x xs a))
    (λ (f : p x ≡ false). found_holds P p xs c (All-tail P x xs a) (sym (found_later p x xs f) ∙ e))
    (cases_Bool (p x))

seat_found : (found : Option Candidate) (s : Seat) → Some s ≡ seat_in found → (c : Candidate) × (found ≡ Some c) × (c.seat ≡ s)
seat_found None s e = cc
seat_found (Some c) s e = (c, refl, sym (some_same s c.seat e))

none_is : (s : Seat) → Some s ≡ None → ⊥
none_is s e = cc

-- whose place is given has a seat, and isn't logged in
gives_if : (make_room full : Bool) (T : Trace) (addresses : Link → Option IpAddr) (seats : List Seat) (s : Seat)
    → GivesPlaceIf make_room full T addresses seats (Some s) → Contains seats s × (is_candidate T s ≡ true)
gives_if false full T addresses seats s e = absurd (none_is s e)
gives_if true false T addresses seats s e = absurd (none_is s e)
gives_if true true T addresses seats s (cs, are, e) =
    let k = seat_found (find (holds_most cs) cs) s e in
    let h = found_holds (IsListed T addresses seats) (holds_most cs) cs k.0 (listed T addresses seats cs are) k.1 in (
      subst (Contains seats) k.2 h.0,
      subst (λ q. is_candidate T q ≡ true) k.2 h.1,
    )

-- ---- when one is given

not_full : (n : ℕ) → n < 64 → nat_le 64 n ≡ false
not_full n h = ⊎_elim (λ (e : nat_le 64 n ≡ true). absurd (let k = leb-true 64 n e in omega (arith, k, h))) (λ (e : nat_le 64 n ≡ false). e) (cases_Bool (nat_le 64 n))

is_full : (n : ℕ) → 64 ≤ n → nat_le 64 n ≡ true
is_full n h = ⊎_elim (λ (e : nat_le 64 n ≡ true). e) (λ (e : nat_le 64 n ≡ false). absurd (let k = leb-false 64 n e in omega (arith, k, h))) (cases_Bool (nat_le 64 n))

none_if : (make_room full : Bool) (T : Trace) (addresses : Link → Option IpAddr) (seats : List Seat) → full ≡ false → GivesPlaceIf make_room full T addresses seats None
none_if false full T addresses seats e = refl
none_if true false T addresses seats e = refl
none_if true true T addresses seats e = cc

first_if : (make_room full : Bool) (T : Trace) (addresses : Link → Option IpAddr) (seats : List Seat) (cs : List Candidate) (who : Option Seat) → make_room ≡ true → full ≡ true
    → AreCandidates T addresses seats cs → who ≡ first_of_most cs → GivesPlaceIf make_room full T addresses seats who
first_if true true T addresses seats cs who e f are is = (cs, are, is)
first_if true false T addresses seats cs who e f are is = cc
first_if false full T addresses seats cs who e f are is = cc

pub none_given : (make_room : Bool) (T : Trace) (addresses : Link → Option IpAddr) (seats : List Seat) (taken : ℕ) → taken ≡ count_by (is_open_seat T) seats → taken < 64
    → GivesPlace make_room T addresses seats None
none_given make_room T addresses seats taken e less = none_if make_room (is_full_house T seats) T addresses seats (not_full (count_by (is_open_seat T) seats) (subst (λ n. n < 64) e less))

pub first_given : (make_room : Bool) (T : Trace) (addresses : Link → Option IpAddr) (seats : List Seat) (cs : List Candidate) (who : Option Seat) (taken : ℕ) → make_room ≡ true
    → taken ≡ count_by (is_open_seat T) seats → 64 ≤ taken → AreCandidates T addresses seats cs → who ≡ first_of_most cs → GivesPlace make_room T addresses seats who
first_given make_room T addresses seats cs who taken on e enough are is =
    first_if make_room (is_full_house T seats) T addresses seats cs who on (is_full (count_by (is_open_seat T) seats) (subst (λ n. 64 ≤ n) e enough)) are is

and_first : (a b : Bool) → (a && b) ≡ true → a ≡ true
and_first true b e = refl
and_first false b e = cc

pub gives_seat : (make_room : Bool) (T : Trace) (addresses : Link → Option IpAddr) (seats : List Seat) (s : Seat) → GivesPlace make_room T addresses seats (Some s) → Contains seats s
gives_seat make_room T addresses seats s h = (gives_if make_room (is_full_house T seats) T addresses seats s h).0

pub gives_open : (make_room : Bool) (T : Trace) (addresses : Link → Option IpAddr) (seats : List Seat) (s : Seat) → GivesPlace make_room T addresses seats (Some s) → is_open T s.connection ≡ true
gives_open make_room T addresses seats s h = and_first (is_open T s.connection) _ (gives_if make_room (is_full_house T seats) T addresses seats s h).1

-- ---- the events of links that came

-- an end is neither an opening nor a moment
pub gone_quiet : (who : Option Seat) (gone : Log) → IsGoneOf who gone → (openings gone ≡ 0) × (refusals gone ≡ 0) × (moments gone ≡ [])
gone_quiet None gone e = (ap openings e, ap refusals e, ap moments e)
gone_quiet (Some s) gone (m, e) = (ap openings e, ap refusals e, ap moments e)

pub opened_after : (m : EventTag) (gone : Log) → openings gone ≡ 0 → openings ((event.Connect, m) ∷ gone) ≡ 1
opened_after m gone e = count_joined is_opening ((event.Connect, m) ∷ []) gone ∙ ap (λ n. 1 + n) e

pub refused_after : (m : EventTag) (gone : Log) (n : ℕ) → refusals ((event.Connect, m) ∷ []) ≡ n → refusals gone ≡ 0 → refusals ((event.Connect, m) ∷ gone) ≡ n
refused_after m gone n one e =
    let k = count_joined is_refusal ((event.Connect, m) ∷ []) gone in omega (arith, k, one, e)

module _ (make_room : Bool) (B : Records) (L : Log) (seats : List Seat) where
  pub room_one : (addresses : Link → Option IpAddr) (who : Option Seat) (last : Came) (gone : Log) (m : EventTag) → GivesPlace make_room (trace_of B L) addresses seats who → IsGoneOf who gone
      → HaveRoom make_room B L seats (last ∷ []) ((event.Connect, m) ∷ gone)
  room_one addresses who last gone m gives is =
      subst (λ g. HaveRoom make_room B L seats (last ∷ []) ((event.Connect, m) ∷ g)) (append-nil gone)
      (OneCame addresses who last [] (last ∷ []) [] gone m NoneCame (subst (λ xs. GivesPlace make_room (trace_of B L) addresses xs who) (sym (append-nil seats)) gives) is refl)

  -- more came after them
  pub room_then : (came1 : List Came) (g1 : Log) → HaveRoom make_room B L seats came1 g1 → (came2 : List Came) (g2 : Log)
      → HaveRoom make_room B (g1 ++ L) (seats ++ filter_map seat_of came1) came2 g2 → HaveRoom make_room B L seats (came1 ++ came2) (g2 ++ g1)
  room_then came1 g1 a _ _ NoneCame = subst (λ came. HaveRoom make_room B L seats came g1) (sym (append-nil came1)) a
  room_then came1 g1 a _ _ (OneCame addresses who last came came2 given gone m rest gives is e) =
      subst (λ g. HaveRoom make_room B L seats (came1 ++ came2) ((event.Connect, m) ∷ g)) (sym (append_assoc gone given g1))
      (OneCame addresses who last (came1 ++ came) (came1 ++ came2) (given ++ g1) gone m (room_then came1 g1 a came given rest)
      (subst (λ xs. GivesPlace make_room (trace_of B ((given ++ g1) ++ L)) addresses xs who)
      (append_assoc seats (filter_map seat_of came1) (filter_map seat_of came) ∙ ap (λ xs. seats ++ xs) (sym (filter_map-append seat_of came1 came)))
      (subst (λ l. GivesPlace make_room (trace_of B l) addresses ((seats ++ filter_map seat_of came1) ++ filter_map seat_of came) who) (sym (append_assoc given g1 L)) gives))
      is (ap (λ xs. came1 ++ xs) e ∙ sym (append_assoc came1 came (last ∷ []))))
