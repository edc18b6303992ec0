-- Links that come, one after the other, and those that are closed.
use Rattle.vault.specs.declared.vault.Vault.{Ghosts}
use Rattle.std.proofs.Common.{◌≡◌, ℕ, zero, suc, ◌+◌, ◌<◌, ◌≤◌, Bool, true, false, not, ◌||◌, List, [], ◌∷◌, ◌++◌, length, take, drop, map, get_or, refl, sym, ◌∙◌, ap, arith, Some}
use Rattle.std.proofs.Common.{None, Option, ⊎_elim, inl, inr, subst, append_assoc, length-append}
use Rattle.std.specs.Bool.{if◌then◌else◌}
use Rattle.std.specs.List.{list_any, filter, filter_map, remove}
use Rattle.std.proofs.lemmas.Bool.{cases_Bool}
use Rattle.std.proofs.lemmas.List.{append-nil, map-append}
use Rattle.std.proofs.lemmas.List.Elements.{filter_map-append}
use Rattle.office.specs.History.{Done, Failed, NoMemory}
use Rattle.office.specs.Events.{EventTag, Tagged, Ignored, Log, Trace}
use Rattle.office.specs.Events as event
use Rattle.office.specs.Outcomes.{Outcome, event_tag_of}
use Rattle.office.specs.Outcomes as outcome
use Rattle.office.specs.Taken.{trace_of}
use Rattle.office.specs.Stands.{StandsFor, vault_of}
use Rattle.office.specs.declared.office.Office.{Office}
use Rattle.serving.specs.declared.wire.Link.{Link}
use Rattle.serving.specs.declared.wire.Port.TheVariants.{Pop}
use Rattle.serving.specs.Calls.{Call, Accepted, Closed}
use Rattle.serving.specs.declared.links.Seat.{Seat}
use Rattle.serving.specs.Wires.{opened_by}
use Rattle.serving.specs.Works.{is_admin, waits, wait_of, arrivals, arrival_of, closings, closing_of, none_waited, tells_none, moment_of, is_opening, refusals, is_refusal, Came, Seated, TurnedAway}
use Rattle.serving.specs.Works.{seat_of, unseated_of, link_of, is_open_seat, is_shut_seat, has_moved}
use Rattle.serving.specs.ClientParts.{is_client_write, HaveCome, AreAccepted, HasMadeRoom, closing, IsClosed, AreClosed}
use Rattle.serving.specs.Room.{HaveRoom, NoneCame}
use Rattle.std.specs.declared.net.ip_addr.IpAddr.{IpAddr}
use Rattle.serving.proofs.Rooms.{gone_quiet, opened_after, refused_after, room_one, room_then}
use Rattle.serving.specs.Parts.{WasGiven}
use Rattle.serving.proofs.Accepting.{IsRefusal}
use Rattle.serving.proofs.Working.{none_joined, count_joined, any_right, none_of}

-- ---- one link

pub done_mark : (o : Outcome) (c : ℕ) → opened_by o ≡ Some c → event_tag_of o ≡ Tagged Done
done_mark (outcome.Opened n) c e = refl
done_mark outcome.Done c e = refl
done_mark outcome.Failed c e = cc
done_mark outcome.NoMemory c e = cc
done_mark (outcome.Ignored r) c e = cc
done_mark (outcome.Answered a) c e = refl

pub refusal_so : (m : EventTag) → IsRefusal m → is_refusal (event.Connect, m) ≡ true
refusal_so Ignored r = refl
refusal_so (Tagged Done) r = absurd r
refusal_so (Tagged Failed) r = refl
refusal_so (Tagged NoMemory) r = refl

joined : {A : Type 0} (a b c d : List A) → a ≡ c → b ≡ d → a ++ b ≡ c ++ d
joined a b c d p q = cc

module _ {V : Type 0} (vault : Ghosts V) (make_room : Bool) where
  come_none : (o : Office V) (seats : List Seat) (calls : List Call) → waits calls ≡ [] → arrivals calls ≡ [] → closings calls ≡ []
      → list_any is_admin calls ≡ false → list_any is_client_write calls ≡ false → HaveCome vault.holds vault.is_clean o o make_room seats seats [] [] calls
  come_none o seats calls waited arrived closed apart unwritten = record {
    no_moments = refl;
    no_waits = waited;
    arrived = arrived;
    opened = refl;
    refused = λ T s k. refl;
    closed = closed;
    seated = sym (append-nil seats);
    apart = apart;
    unwritten = unwritten;
    room = λ B L s k. NoneCame;
  }

  pub accepted_full : (o : Office V) (seats : List Seat) → length seats ≡ 128 → AreAccepted vault.holds vault.is_clean o o make_room seats seats 1 false [] []
  accepted_full o seats full = record { came = []; come = come_none o seats [] refl refl refl refl refl; enough = λ e. cc; few = omega arith; all = λ e. inr full }

  pub accepted_none : (o : Office V) (seats : List Seat) → AreAccepted vault.holds vault.is_clean o o make_room seats seats 1 false [] (Accepted Pop None ∷ [])
  accepted_none o seats = record { came = []; come = come_none o seats (Accepted Pop None ∷ []) refl refl refl refl refl; enough = λ e. cc; few = omega arith; all = λ e. inl refl }

  pub accepted_seated : (o o1 : Office V) (addresses : Link → Option IpAddr) (seats seats_then : List Seat) (link : Link) (c : ℕ) (m : EventTag) (gone : Log) → m ≡ Tagged Done
      → seats_then ≡ seats ++ record { link = link; connection = c } ∷ [] → HasMadeRoom vault.holds o make_room addresses seats gone
      → AreAccepted vault.holds vault.is_clean o o1 make_room seats seats_then 1 true ((event.Connect, m) ∷ gone) (Accepted Pop (Some link) ∷ [])
  accepted_seated o o1 addresses seats seats_then link c m gone e is made =
      let quiet = gone_quiet made.who gone made.gone in
      let last = Seated (record { link = link; connection = c }) in
      record {
        came = last ∷ [];
        come = record {
          no_moments = quiet.2;
          no_waits = refl;
          arrived = refl;
          opened = opened_after m gone quiet.0;
          refused = λ T s k. refused_after m gone 0 (ap (λ x. refusals ((event.Connect, x) ∷ [])) e) quiet.1;
          closed = refl;
          seated = is;
          apart = refl;
          unwritten = refl;
          room = λ B L s k. room_one make_room B L seats addresses made.who last gone m (made.gives (trace_of B L) s) made.gone;
        };
        enough = λ e. omega arith;
        few = omega arith;
        all = λ e. cc;
      }

  pub accepted_unseated : (o o1 : Office V) (addresses : Link → Option IpAddr) (seats : List Seat) (link : Link) (m : EventTag) (gone : Log)
      → ((T : Trace) → StandsFor vault.holds o T → vault.is_clean (vault_of o1) → is_refusal (event.Connect, m) ≡ true) → HasMadeRoom vault.holds o make_room addresses seats gone
      → AreAccepted vault.holds vault.is_clean o o1 make_room seats seats 1 true ((event.Connect, m) ∷ gone) (Accepted Pop (Some link) ∷ Closed Pop link ∷ [])
  accepted_unseated o o1 addresses seats link m gone r made =
      let quiet = gone_quiet made.who gone made.gone in
      record {
        came = TurnedAway link ∷ [];
        come = record {
          no_moments = quiet.2;
          no_waits = refl;
          arrived = refl;
          opened = opened_after m gone quiet.0;
          refused = λ T s k. refused_after m gone 1 (let e = r T s k in rw e refl) quiet.1;
          closed = refl;
          seated = sym (append-nil seats);
          apart = refl;
          unwritten = refl;
          room = λ B L s k. room_one make_room B L seats addresses made.who (TurnedAway link) gone m (made.gives (trace_of B L) s) made.gone;
        };
        enough = λ e. omega arith;
        few = omega arith;
        all = λ e. cc;
      }

  -- ---- one after the other

  come_then : (o o1 o2 : Office V) (seats seats1 seats2 : List Seat) (came1 came2 : List Came) (g1 g2 : Log) (c1 c2 : List Call)
      → WasGiven vault o o1 g1 → WasGiven vault o1 o2 g2
      → HaveCome vault.holds vault.is_clean o o1 make_room seats seats1 came1 g1 c1 → HaveCome vault.holds vault.is_clean o1 o2 make_room seats1 seats2 came2 g2 c2
      → HaveCome vault.holds vault.is_clean o o2 make_room seats seats2 (came1 ++ came2) (g2 ++ g1) (c1 ++ c2)
  come_then o o1 o2 seats seats1 seats2 came1 came2 g1 g2 c1 c2 wa wb a b = record {
    no_moments = none_joined moment_of g2 g1 b.no_moments a.no_moments;
    no_waits = none_joined wait_of c1 c2 a.no_waits b.no_waits;
    arrived = filter_map-append arrival_of c1 c2 ∙ (joined _ _ _ _ a.arrived b.arrived ∙ sym (map-append link_of came1 came2));
    opened = (let e = count_joined is_opening g2 g1 in let n = length-append came1 came2 in let p = a.opened in let q = b.opened in omega (arith, e, n, p, q));
    refused = λ T s k.
        (let e = count_joined is_refusal g2 g1 in
        let n = ap length (filter_map-append unseated_of came1 came2) ∙ length-append (filter_map unseated_of came1) (filter_map unseated_of came2) in
        let p = a.refused T s (wb.clean k) in
        let q = b.refused (trace_of T.base (g1 ++ T.log)) (wa.stands T.base T.log s (wb.clean k)) k in
        omega (arith, e, n, p, q));
    closed = filter_map-append closing_of c1 c2 ∙ (joined _ _ _ _ a.closed b.closed ∙ sym (filter_map-append unseated_of came1 came2));
    seated = b.seated
        ∙ (ap (λ xs. xs ++ filter_map seat_of came2) a.seated
        ∙ (append_assoc seats (filter_map seat_of came1) (filter_map seat_of came2) ∙ ap (λ xs. seats ++ xs) (sym (filter_map-append seat_of came1 came2))));
    apart = none_of is_admin c1 c2 a.apart b.apart;
    unwritten = none_of is_client_write c1 c2 a.unwritten b.unwritten;
    room = λ B L s k.
        (let s1 = wa.stands B L s (wb.clean k) in
        room_then make_room B L seats came1 g1 (a.room B L s (wb.clean k)) came2 g2
        (subst (λ xs. HaveRoom make_room B (g1 ++ L) xs came2 g2) a.seated (b.room B (g1 ++ L) s1 k)));
  }

  pub accepting_none : (o : Office V) (seats : List Seat) → AreAccepted vault.holds vault.is_clean o o make_room seats seats 0 true [] []
  accepting_none o seats = record { came = []; come = come_none o seats [] refl refl refl refl refl; enough = λ e. omega arith; few = omega arith; all = λ e. cc }

  pub accepted_then : (o o1 o2 : Office V) (seats seats1 seats2 : List Seat) (n : ℕ) (goes : Bool) (g1 g2 : Log) (c1 c2 : List Call)
      → WasGiven vault o o1 g1 → WasGiven vault o1 o2 g2
      → AreAccepted vault.holds vault.is_clean o o1 make_room seats seats1 n true g1 c1 → AreAccepted vault.holds vault.is_clean o1 o2 make_room seats1 seats2 1 goes g2 c2
      → AreAccepted vault.holds vault.is_clean o o2 make_room seats seats2 (n + 1) goes (g2 ++ g1) (c1 ++ c2)
  accepted_then o o1 o2 seats seats1 seats2 n goes g1 g2 c1 c2 wa wb a b = record {
    came = a.came ++ b.came;
    come = come_then o o1 o2 seats seats1 seats2 a.came b.came g1 g2 c1 c2 wa wb a.come b.come;
    enough = λ e. (let k = length-append a.came b.came in let p = a.enough refl in let q = b.enough e in omega (arith, k, p, q));
    few = (let k = length-append a.came b.came in let p = a.few in let q = b.few in omega (arith, k, p, q));
    all = λ e.
        ⊎_elim
        (λ (none : none_waited c2 ≡ true). inl (any_right tells_none c1 c2 none))
        (λ (full : length seats2 ≡ 128). inr full)
        (b.all e);
  }

  pub accepted_ended : (o o1 : Office V) (seats seats1 : List Seat) (n most : ℕ) (g : Log) (c : List Call) → n ≤ most
      → AreAccepted vault.holds vault.is_clean o o1 make_room seats seats1 n false g c → AreAccepted vault.holds vault.is_clean o o1 make_room seats seats1 most false g c
  accepted_ended o o1 seats seats1 n most g c less a = record { came = a.came; come = a.come; enough = λ e. cc; few = (let p = a.few in omega (arith, p, less)); all = a.all }

  pub accepted_all : (o o1 : Office V) (seats seats1 : List Seat) (n most : ℕ) (g : Log) (c : List Call) → n ≤ most → most ≤ n
      → AreAccepted vault.holds vault.is_clean o o1 make_room seats seats1 n true g c → AreAccepted vault.holds vault.is_clean o o1 make_room seats seats1 most true g c
  accepted_all o o1 seats seats1 n most g c less h a = record {
    came = a.came;
    come = a.come;
    enough = λ e. (let p = a.enough e in omega (arith, p, h));
    few = (let p = a.few in omega (arith, p, less));
    all = a.all;
  }

-- ---- closing

drop_remove : (xs : List Seat) (i : ℕ) → drop i (remove xs i) ≡ drop (suc i) xs
drop_remove [] zero = refl
drop_remove [] (suc i) = refl
drop_remove (x ∷ xs) zero = refl
drop_remove (x ∷ xs) (suc i) = drop_remove xs i

take_remove : (xs : List Seat) (i : ℕ) → take i (remove xs i) ≡ take i xs
take_remove [] zero = refl
take_remove [] (suc i) = refl
take_remove (x ∷ xs) zero = refl
take_remove (x ∷ xs) (suc i) = ap (λ ys. x ∷ ys) (take_remove xs i)

drop_first : (xs : List Seat) (i : ℕ) (d : Seat) → i < length xs → drop i xs ≡ get_or xs i d ∷ drop (suc i) xs
drop_first [] i d h = absurd (omega (arith, h))
drop_first (x ∷ xs) zero d h = refl
drop_first (x ∷ xs) (suc i) d h = drop_first xs i d (omega (arith, h))

pub take_next : (xs : List Seat) (i : ℕ) (d : Seat) → i < length xs → take (suc i) xs ≡ take i xs ++ get_or xs i d ∷ []
take_next [] i d h = absurd (omega (arith, h))
take_next (x ∷ xs) zero d h = refl
take_next (x ∷ xs) (suc i) d h = ap (λ ys. x ∷ ys) (take_next xs i d (omega (arith, h)))

-- those before a place are open, and of those from it on nothing is done yet
pub record ClosesSoFar (T : Trace) (seats now : List Seat) (place : ℕ) (calls : List Call) : Type 0 where
  pub left : filter (is_open_seat T) seats ≡ take place now ++ filter (is_open_seat T) (drop place now)
  pub calls_are : map closing (filter (is_shut_seat T) seats) ≡ calls ++ map closing (filter (is_shut_seat T) (drop place now))

pub closes_none : (T : Trace) (seats : List Seat) → ClosesSoFar T seats seats 0 []
closes_none T seats = record { left = refl; calls_are = refl }

open_first : (T : Trace) (s : Seat) (xs : List Seat) → is_open_seat T s ≡ true → filter (is_open_seat T) (s ∷ xs) ≡ s ∷ filter (is_open_seat T) xs
open_first T s xs e = rw e refl

open_not : (T : Trace) (s : Seat) (xs : List Seat) → is_open_seat T s ≡ false → filter (is_open_seat T) (s ∷ xs) ≡ filter (is_open_seat T) xs
open_not T s xs e = rw e refl

shut_first : (T : Trace) (s : Seat) (xs : List Seat) → is_open_seat T s ≡ false → filter (is_shut_seat T) (s ∷ xs) ≡ s ∷ filter (is_shut_seat T) xs
shut_first T s xs e = rw e refl

shut_not : (T : Trace) (s : Seat) (xs : List Seat) → is_open_seat T s ≡ true → filter (is_shut_seat T) (s ∷ xs) ≡ filter (is_shut_seat T) xs
shut_not T s xs e = rw e refl

pub closes_more : (T : Trace) (seats now now2 : List Seat) (place : ℕ) (d : Seat) (stays : Bool) (c1 c2 : List Call) → place < length now → ClosesSoFar T seats now place c1
    → IsClosed T now now2 place (get_or now place d) stays c2 → ClosesSoFar T seats now2 (if stays then place + 1 else place) (c1 ++ c2)
closes_more T seats now now2 place d true c1 c2 h a b =
    let s = get_or now place d in
    let rest = drop (suc place) now in
    let is : drop place now ≡ s ∷ rest = drop_first now place d h in
    let e : is_open_seat T s ≡ true = sym b.stays_if in
    let next : suc place ≡ place + 1 = omega arith in
    subst (λ xs. ClosesSoFar T seats xs (place + 1) (c1 ++ c2)) (sym b.left) (subst (λ n. ClosesSoFar T seats now n (c1 ++ c2)) next (record {
      left = a.left
          ∙ (ap (λ xs. take place now ++ filter (is_open_seat T) xs) is
          ∙ (ap (λ xs. take place now ++ xs) (open_first T s rest e)
          ∙ (sym (append_assoc (take place now) (s ∷ []) (filter (is_open_seat T) rest)) ∙ ap (λ xs. xs ++ filter (is_open_seat T) rest) (sym (take_next now place d h)))));
      calls_are = a.calls_are
          ∙ (ap (λ xs. c1 ++ map closing (filter (is_shut_seat T) xs)) is
          ∙ (ap (λ xs. c1 ++ map closing xs) (shut_not T s rest e)
          ∙ ap (λ xs. xs ++ map closing (filter (is_shut_seat T) rest)) (sym (append-nil c1) ∙ ap (λ ys. c1 ++ ys) (sym b.calls_are))));
    }))
closes_more T seats now now2 place d false c1 c2 h a b =
    let s = get_or now place d in
    let rest = drop (suc place) now in
    let is : drop place now ≡ s ∷ rest = drop_first now place d h in
    let e : is_open_seat T s ≡ false = sym b.stays_if in
    subst (λ xs. ClosesSoFar T seats xs place (c1 ++ c2)) (sym b.left) (record {
      left = a.left
          ∙ (ap (λ xs. take place now ++ filter (is_open_seat T) xs) is
          ∙ (ap (λ xs. take place now ++ xs) (open_not T s rest e)
          ∙ joined _ _ _ _ (sym (take_remove now place)) (ap (filter (is_open_seat T)) (sym (drop_remove now place)))));
      calls_are = a.calls_are
          ∙ (ap (λ xs. c1 ++ map closing (filter (is_shut_seat T) xs)) is
          ∙ (ap (λ xs. c1 ++ map closing xs) (shut_first T s rest e)
          ∙ (sym (append_assoc c1 (closing s ∷ []) (map closing (filter (is_shut_seat T) rest)))
          ∙ joined _ _ _ _ (ap (λ ys. c1 ++ ys) (sym b.calls_are)) (ap (λ xs. map closing (filter (is_shut_seat T) xs)) (sym (drop_remove now place))))));
    })

-- a link that is closed moves
pub shut_moved : (T : Trace) (xs : List Seat) → list_any (is_shut_seat T) xs ≡ true → has_moved (map closing (filter (is_shut_seat T) xs)) ≡ true
shut_moved T [] e = cc
shut_moved T (x ∷ xs) e =
    ⊎_elim
    (λ (o : is_open_seat T x ≡ true).
    (let k : is_shut_seat T x ≡ false = ap not o in
    let later : list_any (is_shut_seat T) xs ≡ true = sym (ap (λ b. b || list_any (is_shut_seat T) xs) k) ∙ e in
    ap (λ ys. has_moved (map closing ys)) (shut_not T x xs o) ∙ shut_moved T xs later))
    (λ (o : is_open_seat T x ≡ false). ap (λ ys. has_moved (map closing ys)) (shut_first T x xs o))
    (cases_Bool (is_open_seat T x))

take_whole : (xs : List Seat) (n : ℕ) → length xs ≤ n → take n xs ≡ xs
take_whole [] zero h = refl
take_whole [] (suc n) h = refl
take_whole (x ∷ xs) zero h = absurd (omega (arith, h))
take_whole (x ∷ xs) (suc n) h = ap (λ ys. x ∷ ys) (take_whole xs n (omega (arith, h)))

drop_whole : (xs : List Seat) (n : ℕ) → length xs ≤ n → drop n xs ≡ []
drop_whole [] zero h = refl
drop_whole [] (suc n) h = refl
drop_whole (x ∷ xs) zero h = absurd (omega (arith, h))
drop_whole (x ∷ xs) (suc n) h = drop_whole xs n (omega (arith, h))

pub closes_all : (T : Trace) (seats now : List Seat) (place : ℕ) (calls : List Call) → length now ≤ place → ClosesSoFar T seats now place calls → AreClosed T seats now calls
closes_all T seats now place calls h a =
    let none = drop_whole now place h in
    record {
      calls_are = sym (a.calls_are ∙ (ap (λ xs. calls ++ map closing (filter (is_shut_seat T) xs)) none ∙ append-nil calls));
      left = sym (a.left ∙ (ap (λ xs. take place now ++ filter (is_open_seat T) xs) none ∙ (append-nil (take place now) ∙ take_whole now place h)));
    }
