-- What the parts of a turn do together.
use Rattle.vault.specs.declared.vault.Vault.{Ghosts}
use Rattle.std.proofs.Common.{◌≡◌, ◌||◌, ◌==◌, ℕ, ◌≤◌, Bool, true, false, not, List, [], ◌∷◌, ◌++◌, length, get_or, map, refl, sym, ◌∙◌, ap, arith, Some, Option, ⊎_elim, ◌⊎◌, inl}
use Rattle.std.proofs.Common.{inr, subst, append_assoc, true≢false}
use Rattle.std.specs.List.{All, Contains, list_any, filter, filter_map}
use Rattle.std.proofs.lemmas.List.{append-nil}
use Rattle.std.proofs.lemmas.List.Elements.{All-nil, All-cons, All-head, All-tail, All-append, All-weaker, filter_map-append, filter_agree}
use Rattle.vault.specs.Records.{Records}
use Rattle.office.specs.Events.{EventTag, Tagged, Ignored, Log, Trace}
use Rattle.office.specs.Events as event
use Rattle.office.specs.Trace.{is_open}
use Rattle.office.specs.Taken.{trace_of}
use Rattle.office.specs.Stands.{StandsFor, vault_of}
use Rattle.office.specs.declared.office.Office.{Office}
use Rattle.serving.specs.declared.wire.Link.{Link}
use Rattle.serving.specs.Calls.{Call, Waited}
use Rattle.serving.specs.declared.links.Seat.{Seat}
use Rattle.serving.specs.declared.links.Links.{Links}
use Rattle.serving.specs.declared.newcomers.Newcomer.{Newcomer}
use Rattle.serving.specs.Works.{IsOffered, is_admin, waits, wait_of, arrivals, arrival_of, closings, closing_of, none_waited, tells_none, is_cut_of, is_cut, moments, moment_of}
use Rattle.serving.specs.Works.{openings, is_opening, refusals, is_refusal, HasCause, AreCaused, seat_of, unseated_of, HasAccepted, most_links, AreDeposits, is_open_seat}
use Rattle.serving.specs.Ways.{way_by, HadTurn}
use Rattle.serving.specs.Seen.{Seen}
use Rattle.serving.specs.Works.{is_shut_seat, link_of_seat, IsLateGone, AreLateGone, has_moved, is_moving}
use Rattle.serving.specs.Parts.{Part, Asking, Giving, IsQuiet, IsQuietFor, Also, PollsBy, PollsAfterClosing}
use Rattle.serving.specs.ClientParts.{is_client_write, IsPassed, AreAccepted, IsNotedSo, WereServed, closing, AreClosed}
use Rattle.serving.specs.Spools.{FileCall}
use Rattle.serving.specs.HttpParts.{AskedApart, DidApart}
use Rattle.serving.specs.HttpWorks.{HasAcceptedForAdmin, HadHttpTurns}
use Rattle.serving.specs.declared.requests.Exchange.{Exchange}
use Rattle.serving.specs.Settings.{settings, last_tried}
use Rattle.serving.specs.SpoolTurns.{IsSpoolTurn, has_dealt, SpoolPart}
use Rattle.serving.specs.Hearing.{Hearing, HasHeard, WithHeard, HeardApart, idle_ends, heard_of_all, ends_by}
use Rattle.office.specs.declared.account.End.TheVariants.{FullHouse, TooLate}
use Rattle.serving.specs.Turns.{millis_of, HadItsTurn, Works}
use Rattle.serving.proofs.Staying.{Fewer, deposit_same}
use Rattle.serving.proofs.Resting.{rests_so, waits_then, not_true, is_left, or_neither}
use Rattle.serving.proofs.Arriving.{shut_moved}
use Rattle.serving.proofs.Hearing.{hears_then, turn_heard}
use Rattle.serving.proofs.Turns.{served_so}
use Rattle.serving.proofs.Offering.{none_offered, offered_left, offered_right, unwritten_turns, unwritten_accepted, unwritten_closings}
use Rattle.serving.specs.Newcomers.{newcomer, lies_unread, waited_of, AllHaveSeats, IsSettled, CountsFrom, IsComer}
use Rattle.serving.specs.Late.{HasLived, IsNotedSince, HasEndedLate}
use Rattle.serving.proofs.Timely.{lived_left, lived_right}
use Rattle.serving.proofs.Settling.{late_still, may_same}
use Rattle.serving.proofs.Working.{or_true, given_then, asked_then, none_of, count_joined, any_left, any_right, lies_left, lies_right, quiet_none, caused_more, fewer_quiet}
use Rattle.serving.proofs.Working.{fewer_gone, none_joined, turned_left, turned_right, awaits_left, awaits_right}

-- ---- deposits

pub deposits_quiet : (given : Log) → AreDeposits given → IsQuietFor [] given []
deposits_quiet [] a = record { quiet = quiet_none; apart = refl; caused = All-nil (HasCause [] []) }
deposits_quiet ((event.Deposit d class id text, m) ∷ given) a =
    let k = deposits_quiet given a in
    record {
      quiet = record { no_moments = k.quiet.no_moments; no_openings = k.quiet.no_openings; no_refusals = k.quiet.no_refusals; no_waits = refl; no_arrivals = refl; no_closings = refl };
      apart = refl;
      caused = All-cons (HasCause [] []) (event.Deposit d class id text, m) given tt k.caused;
    }
deposits_quiet ((event.Start host boot idle, m) ∷ given) a = absurd a
deposits_quiet ((event.Connect, m) ∷ given) a = absurd a
deposits_quiet ((event.Bytes c piece, m) ∷ given) a = absurd a
deposits_quiet ((event.Took c n, m) ∷ given) a = absurd a
deposits_quiet ((event.Gone c, m) ∷ given) a = absurd a
deposits_quiet ((event.Tick now, m) ∷ given) a = absurd a
deposits_quiet ((event.Admin command, m) ∷ given) a = absurd a
deposits_quiet ((event.Restart boot, m) ∷ given) a = absurd a

same_one : (B : Records) (L : Log) (d class id text : List ℕ) (m : EventTag) (c : ℕ) → is_open (trace_of B ((event.Deposit d class id text, m) ∷ L)) c ≡ is_open (trace_of B L) c
same_one B L d class id text Ignored c = refl
same_one B L d class id text (Tagged t) c = deposit_same B L d class id text t c

pub same_open : (B : Records) (L given : Log) → AreDeposits given → (c : ℕ) → is_open (trace_of B (given ++ L)) c ≡ is_open (trace_of B L) c
same_open B L [] a c = refl
same_open B L ((event.Deposit d class id text, m) ∷ given) a c = same_one B (given ++ L) d class id text m c ∙ same_open B L given a c
same_open B L ((event.Start host boot idle, m) ∷ given) a c = absurd a
same_open B L ((event.Connect, m) ∷ given) a c = absurd a
same_open B L ((event.Bytes n piece, m) ∷ given) a c = absurd a
same_open B L ((event.Took n k, m) ∷ given) a c = absurd a
same_open B L ((event.Gone n, m) ∷ given) a c = absurd a
same_open B L ((event.Tick now, m) ∷ given) a c = absurd a
same_open B L ((event.Admin command, m) ∷ given) a c = absurd a
same_open B L ((event.Restart boot, m) ∷ given) a c = absurd a

-- ---- clients that are late

pub late_quiet : (now seconds : ℕ) (newcomers : List Newcomer) (given : Log) → AreLateGone now seconds newcomers given → IsQuiet given []
late_quiet now seconds newcomers [] a = quiet_none
late_quiet now seconds newcomers ((event.Gone c, m) ∷ given) a =
    let k = late_quiet now seconds newcomers given (All-tail (IsLateGone now seconds newcomers) (event.Gone c, m) given a) in
    record { no_moments = k.no_moments; no_openings = k.no_openings; no_refusals = k.no_refusals; no_waits = refl; no_arrivals = refl; no_closings = refl }
late_quiet now seconds newcomers ((event.Start host boot idle, m) ∷ given) a = absurd (All-head (IsLateGone now seconds newcomers) (event.Start host boot idle, m) given a)
late_quiet now seconds newcomers ((event.Connect, m) ∷ given) a = absurd (All-head (IsLateGone now seconds newcomers) (event.Connect, m) given a)
late_quiet now seconds newcomers ((event.Bytes c piece, m) ∷ given) a = absurd (All-head (IsLateGone now seconds newcomers) (event.Bytes c piece, m) given a)
late_quiet now seconds newcomers ((event.Took c n, m) ∷ given) a = absurd (All-head (IsLateGone now seconds newcomers) (event.Took c n, m) given a)
late_quiet now seconds newcomers ((event.Tick moment, m) ∷ given) a = absurd (All-head (IsLateGone now seconds newcomers) (event.Tick moment, m) given a)
late_quiet now seconds newcomers ((event.Deposit d class id text, m) ∷ given) a = absurd (All-head (IsLateGone now seconds newcomers) (event.Deposit d class id text, m) given a)
late_quiet now seconds newcomers ((event.Admin command, m) ∷ given) a = absurd (All-head (IsLateGone now seconds newcomers) (event.Admin command, m) given a)
late_quiet now seconds newcomers ((event.Restart boot, m) ∷ given) a = absurd (All-head (IsLateGone now seconds newcomers) (event.Restart boot, m) given a)

-- ---- lists

only_first : {A C : Type 0} (h : A → Option C) (xs ys : List A) → filter_map h ys ≡ [] → filter_map h (xs ++ ys) ≡ filter_map h xs
only_first h xs ys e = filter_map-append h xs ys ∙ (ap (λ zs. filter_map h xs ++ zs) e ∙ append-nil (filter_map h xs))

only_last : {A C : Type 0} (h : A → Option C) (xs ys : List A) → filter_map h xs ≡ [] → filter_map h (xs ++ ys) ≡ filter_map h ys
only_last h xs ys e = filter_map-append h xs ys ∙ ap (λ zs. zs ++ filter_map h ys) e

closings_of : (seats : List Seat) → closings (map closing seats) ≡ map link_of_seat seats
closings_of [] = refl
closings_of (s ∷ seats) = ap (λ xs. s.link ∷ xs) (closings_of seats)

waits_of : (seats : List Seat) → waits (map closing seats) ≡ []
waits_of [] = refl
waits_of (s ∷ seats) = waits_of seats

arrivals_of : (seats : List Seat) → arrivals (map closing seats) ≡ []
arrivals_of [] = refl
arrivals_of (s ∷ seats) = arrivals_of seats

apart_of : (seats : List Seat) → list_any is_admin (map closing seats) ≡ false
apart_of [] = refl
apart_of (s ∷ seats) = apart_of seats

none_contained : (s : Seat) → Contains [] s → ⊥
none_contained s (k, w, is) = omega (arith, w)

-- ---- six parts of calls

module _ (cp ca cq cl cr cx : List Call) where
  -- all calls of a turn
  pub all_calls : List Call
  all_calls = ((((cp ++ ca) ++ cq) ++ cl) ++ cr) ++ cx

  seen_first : {C : Type 0} (h : Call → Option C) → filter_map h cq ≡ [] → filter_map h cl ≡ [] → filter_map h cr ≡ [] → filter_map h ((((cp ++ ca) ++ cq) ++ cl) ++ cr) ≡ filter_map h (cp ++ ca)
  seen_first h q l r = only_first h (((cp ++ ca) ++ cq) ++ cl) cr r ∙ (only_first h ((cp ++ ca) ++ cq) cl l ∙ only_first h (cp ++ ca) cq q)

  seen_second : (p : Call → Bool) → list_any p ca ≡ true → list_any p (((((cp ++ ca) ++ cq) ++ cl) ++ cr) ++ cx) ≡ true
  seen_second p h =
      any_left p ((((cp ++ ca) ++ cq) ++ cl) ++ cr) cx (any_left p (((cp ++ ca) ++ cq) ++ cl) cr (any_left p ((cp ++ ca) ++ cq) cl (any_left p (cp ++ ca) cq (any_right p cp ca h))))

  seen_fourth : (p : Call → Bool) → list_any p cl ≡ true → list_any p (((((cp ++ ca) ++ cq) ++ cl) ++ cr) ++ cx) ≡ true
  seen_fourth p h = any_left p ((((cp ++ ca) ++ cq) ++ cl) ++ cr) cx (any_left p (((cp ++ ca) ++ cq) ++ cl) cr (any_right p ((cp ++ ca) ++ cq) cl h))

  seen_fifth : (p : Call → Bool) → list_any p cr ≡ true → list_any p (((((cp ++ ca) ++ cq) ++ cl) ++ cr) ++ cx) ≡ true
  seen_fifth p h = any_left p ((((cp ++ ca) ++ cq) ++ cl) ++ cr) cx (any_right p (((cp ++ ca) ++ cq) ++ cl) cr h)

accepted_so : {V : Type 0} (vault : Ghosts V) (o o1 : Office V) (make_room : Bool) (seats seats1 : List Seat) (goes : Bool) (g : Log) (c all : List Call)
    → (list_any tells_none c ≡ true → list_any tells_none all ≡ true) → (a : AreAccepted vault.holds vault.is_clean o o1 make_room seats seats1 64 goes g c)
    → HasAccepted (length seats1) all ⊎ (most_links ≤ length a.came)
accepted_so vault o o1 make_room seats seats1 true g c all more a = inr (a.enough refl)
accepted_so vault o o1 make_room seats seats1 false g c all more a =
    ⊎_elim
    (λ (none : none_waited c ≡ true). inl (inl (more none)))
    (λ (full : length seats1 ≡ 128). inl (inr full))
    (a.all refl)

-- where the clients' links have more, the next turn doesn't wait
no_wait : (links : Links) → links.clients.poll_now ≡ true → millis_of links ≡ 0
no_wait links e = rw e refl

-- ---- the turn

module _ {V W S H : Type 0} (vault : Ghosts V) (Asked : W → List Call → Type 0) (AskedFiles : S → List FileCall → Type 0) (Heard : H → List Hearing → Type 0) where
  pub turn_done : (T : Trace) (now : ℕ) (links links_then : Links) (o o1 o2 o3 o4 o5 o6 : Office V) (w w1 w2 w3 w4 w5 w6 : W) (f f1 : S)
      (l l1 l2 l3 l4 l5 : H) (seats2 : List Seat) (goes : Bool) (held : List Exchange) (more lock_released is_preparing polling polled : Bool) (n0 n1 n2 : List Newcomer)
      → Part vault Asked o w o1 w1 (IsPassed (Waited (millis_of links) ∷ []) now)
      → ((U : Trace) → StandsFor vault.holds o1 U → HasHeard Heard l l1 (idle_ends U links.clients.seats.items))
      → (acc : Part vault Asked o1 w1 o2 w2
      (λ g c. HasHeard Heard l1 l2 (ends_by FullHouse g) × AreAccepted vault.holds vault.is_clean o1 o2 links.clients.make_room links.clients.seats.items seats2 64 goes g c))
      → Asking Asked w2 w3 (AskedApart (HasAcceptedForAdmin now 64 more links.requests.exchanges.items held))
      → Part vault Asked o2 w3 o3 w4
      (WithHeard vault.holds vault.is_clean Heard o2 l2 o3 l3
      (Also (WereServed vault.holds vault.is_clean o2 o3 (settings links) now n0 lock_released is_preparing polling n1 seats2 seats2) (PollsBy (is_preparing || lock_released) polling)))
      → (lock_released ≡ true → polling ≡ true) → (is_preparing ≡ true → polling ≡ true) → (polling ≡ true → polled ≡ true)
      → Part vault Asked o3 w4 o4 w5
      (Also (DidApart vault.holds vault.is_clean o3 o4 (HeardApart Heard l3 l4 (λ B L. HadHttpTurns links.site now B L held links_then.requests.exchanges.items)))
      (PollsBy false links_then.requests.poll_now))
      → ((c : ℕ) → waited_of now (newcomer c n0) ≡ waited_of now (newcomer c links.clients.newcomers.newcomers.items))
      → ((c : ℕ) (n : Newcomer) → newcomer c links.clients.newcomers.newcomers.items ≡ Some n → IsSettled now (Some n) (newcomer c n1))
      → (AllHaveSeats links → All (IsComer now links.clients.newcomers.newcomers.items n1) (filter_map seat_of acc.facts.1.came))
      → Giving vault o4 o5
      (λ g. AreLateGone now links.clients.newcomers.seconds links.clients.newcomers.newcomers.items g
      × HasEndedLate vault.holds vault.is_clean o4 o5 now links.clients.newcomers.seconds n1 n2 seats2 g × HasHeard Heard l4 l5 (ends_by TooLate g))
      → ((U : Trace) → StandsFor vault.holds o5 U → (c : ℕ) → is_open U c ≡ true → newcomer c links_then.clients.newcomers.newcomers.items ≡ newcomer c n2)
      → ((U : Trace) → StandsFor vault.holds o5 U
      → Asking Asked w5 w6 (λ calls. AreClosed U seats2 links_then.clients.seats.items calls × PollsBy polling polled calls × PollsAfterClosing links.clients.wait polled calls))
      → SpoolPart vault AskedFiles o5 f o6 f1
      (λ U given calls. IsSpoolTurn (last_tried links) (last_tried links_then) U given calls × (links_then.clients.poll_now ≡ (polled || has_dealt calls)))
      → StandsFor vault.holds o T → vault.is_clean (vault_of o6)
      → (turn : Works vault Asked AskedFiles Heard T now links o w f l o6 links_then w6 f1 l5) × (turn.seen.is_preparing ≡ is_preparing)
  turn_done T now links links_then o o1 o2 o3 o4 o5 o6 w w1 w2 w3 w4 w5 w6 f f1 l l1 l2 l3 l4 l5 seats2 goes held more lock_released is_preparing polling polled n0 n1 n2
      pass idle acc asked served releasing preparing still reqs waited keeps comers late forgets close spool s k6 =
      let B = T.base in
      let L = T.log in
      let seconds = links.clients.newcomers.seconds in
      let newcomers = links.clients.newcomers.newcomers.items in
      let millis = millis_of links in
      let way = way_by (settings links) now newcomers seats2 lock_released is_preparing (millis_of links_then == 0) in
      let gp = pass.given in
      let ga = acc.given in
      let gl = served.given in
      let gr = reqs.given in
      let gz = late.given in
      let gs = spool.given in
      let gx : Log = gs ++ gz in
      let G1 : Log = ga ++ gp in
      let G2 : Log = gl ++ G1 in
      let G3 : Log = gr ++ G2 in
      let G4 : Log = gx ++ G3 in
      let u1 = given_then vault o o1 o2 gp ga pass.was_given acc.was_given in
      let u2 = given_then vault o o2 o3 G1 gl u1 served.was_given in
      let u3 = given_then vault o o3 o4 G2 gr u2 reqs.was_given in
      let ux = given_then vault o4 o5 o6 gz gs late.was_given spool.was_given in
      let u4 = given_then vault o o4 o6 G3 gx u3 ux in
      let k5 = spool.was_given.clean k6 in
      let k4 = late.was_given.clean k5 in
      let k3 = reqs.was_given.clean k4 in
      let k2 = served.was_given.clean k3 in
      let k1 = acc.was_given.clean k2 in
      let s1 = pass.was_given.stands B L s k1 in
      let s2 = u1.stands B L s k2 in
      let s3 = u2.stands B L s k3 in
      let s4 = u3.stands B L s k4 in
      let s5 = late.was_given.stands B (G3 ++ L) s4 k5 in
      let trace4 : Trace = trace_of B (gz ++ (G3 ++ L)) in
      let after : Trace = trace_of B (G4 ++ L) in
      let x = close trace4 s5 in
      let cp = pass.calls in
      let ca = acc.calls in
      let cq = asked.calls in
      let cl = served.calls in
      let cr = reqs.calls in
      let cx = x.calls in
      let C5 : List Call = ((((cp ++ ca) ++ cq) ++ cl) ++ cr) ++ cx in
      let filed = spool.facts (trace_of B ((gz ++ G3) ++ L)) (subst (λ l. StandsFor vault.holds o5 (trace_of B l)) (sym (append_assoc gz G3 L)) s5) k6 in
      let sleeps_not : polled ≡ true → millis_of links_then ≡ 0 = λ e. no_wait links_then (filed.1 ∙ is_left polled (has_dealt spool.calls) e) in
      let had = served_so vault o2 o3 (way_by (settings links) now n0 seats2 lock_released is_preparing polling) way n1 seats2 seats2 gl cl refl refl (λ e. e)
      (λ i d within. may_same (settings links).slow_guesses now n0 newcomers seats2 lock_released (get_or seats2 i d).connection (waited (get_or seats2 i d).connection))
      (λ e. e) (λ e. ap (λ n. n == 0) (sleeps_not (still e))) served.facts.1.0.turns in
      let unread : All (IsNotedSo n1 B L G4 C5 way.wait way.may seats2) seats2 =
      All-weaker (IsNotedSo n1 B (G1 ++ L) gl cl way.wait way.may seats2) (IsNotedSo n1 B L G4 C5 way.wait way.may seats2)
      (λ q h e.
      lies_left B L way.wait (way.may q.connection) seats2 q.connection G3 gx ((((cp ++ ca) ++ cq) ++ cl) ++ cr) cx
      (lies_left B L way.wait (way.may q.connection) seats2 q.connection G2 gr (((cp ++ ca) ++ cq) ++ cl) cr
      (lies_right B L way.wait (way.may q.connection) seats2 q.connection G1 gl ((cp ++ ca) ++ cq) cl (h e))))
      seats2 (had.noted_so B (G1 ++ L) s2 k3) in
      let come = acc.facts.1.come in
      let idle_heard = idle_ends (trace_of B (gp ++ L)) links.clients.seats.items in
      let links_heard = heard_of_all B (G1 ++ L) gl in
      let reqs_heard = heard_of_all B (G2 ++ L) gr in
      let late_heard = ends_by TooLate gz in
      let rooms_heard = ends_by FullHouse ga in
      let came = acc.facts.1.came in
      let quiet = deposits_quiet gs spool.deposits in
      let hush = late_quiet now seconds newcomers gz late.facts.0 in
      let log_is : G4 ++ L ≡ gs ++ (gz ++ (G3 ++ L)) = append_assoc gx G3 L ∙ append_assoc gs gz (G3 ++ L) in
      let same : (c : ℕ) → is_open after c ≡ is_open trace4 c = λ c. ap (λ l. is_open (trace_of B l) c) log_is ∙ same_open B (gz ++ (G3 ++ L)) gs spool.deposits c in
      let fewer_late : Fewer B (G3 ++ L) (gz ++ (G3 ++ L)) = fewer_gone B (G3 ++ L) gz now seconds newcomers (late.was_given.admitted B (G3 ++ L) s4 k5) late.facts.0 in
      let fewer : Fewer B (G2 ++ L) (gr ++ (G2 ++ L)) = fewer_quiet B (G2 ++ L) gr [] cr (reqs.was_given.admitted B (G2 ++ L) s3 k4) reqs.facts.0.caused reqs.facts.0.quiet.no_openings in
      let to_links : (c : ℕ) → is_open after c ≡ true → is_open (trace_of B (gl ++ (G1 ++ L))) c ≡ true = λ c here.
      (let h4 : is_open trace4 c ≡ true = sym (same c) ∙ here in
      let h3 : is_open (trace_of B (G3 ++ L)) c ≡ true = fewer_late c h4 in
      let h2 : is_open (trace_of B (G2 ++ L)) c ≡ true = fewer c (subst (λ l. is_open (trace_of B l) c ≡ true) (append_assoc gr G2 L) h3) in
      subst (λ l. is_open (trace_of B l) c ≡ true) (append_assoc gl G1 L) h2) in
      let cut : (l : Link) → is_cut l cl ≡ true → is_cut l C5 ≡ true = λ l h. seen_fourth cp ca cq cl cr cx (is_cut_of l) h in
      let none : (q : Seat) → Contains [] q → Contains seats2 q = λ q h. absurd (none_contained q h) in
      let caused_r : AreCaused seats2 C5 gr = caused_more [] seats2 cr C5 gr none (λ l h. seen_fifth cp ca cq cl cr cx (is_cut_of l) h) reqs.facts.0.caused in
      let caused_l : AreCaused seats2 C5 gl = caused_more seats2 seats2 cl C5 gl (λ q h. h) cut served.facts.1.0.turns.of_seats.caused in
      let lq = served.facts.1.0.turns.of_seats.quiet in
      let rq = reqs.facts.0.quiet in
      let waits_x : waits cx ≡ [] = ap waits x.facts.0.calls_are ∙ waits_of (filter (is_shut_seat trace4) seats2) in
      let arrivals_x : arrivals cx ≡ [] = ap arrivals x.facts.0.calls_are ∙ arrivals_of (filter (is_shut_seat trace4) seats2) in
      let closings_x : closings cx ≡ map link_of_seat (filter (is_shut_seat trace4) seats2) = ap closings x.facts.0.calls_are ∙ closings_of (filter (is_shut_seat trace4) seats2) in
      let waits_p : waits cp ≡ millis ∷ [] = ap waits pass.facts.calls_are in
      let arrivals_p : arrivals cp ≡ [] = ap arrivals pass.facts.calls_are in
      let closings_p : closings cp ≡ [] = ap closings pass.facts.calls_are in
      let moments_p : moments gp ≡ now ∷ [] = ap moments pass.facts.given_is in
      let openings_p : openings gp ≡ 0 = ap openings pass.facts.given_is in
      let refusals_p : refusals gp ≡ 0 = ap refusals pass.facts.given_is in
      let shut_same : filter (is_shut_seat trace4) seats2 ≡ filter (is_shut_seat after) seats2 =
      filter_agree (is_shut_seat trace4) (is_shut_seat after) (λ q. ap not (sym (same q.connection))) seats2 in
      let open_same : filter (is_open_seat trace4) seats2 ≡ filter (is_open_seat after) seats2 = filter_agree (is_open_seat trace4) (is_open_seat after) (λ q. sym (same q.connection)) seats2 in
      let seen : Seen = record {
        wait = cp;
        tick = gp;
        came = came;
        connects = ga;
        accepts = ca;
        seats = seats2;
        admin_accepts = cq;
        held = held;
        served = gl;
        serves = cl;
        lock_released = lock_released;
        is_preparing = is_preparing;
        commands = gr;
        admin_serves = cr;
        late = gz;
        closes = cx;
        deposits = gs;
        file_calls = spool.calls;
      } in (
        record {
          seen = seen;
          stands = u4.stands B L s k6;
          admitted = u4.admitted B L s k6;
          counted = u4.counted;
          failed = u4.failed B L s k6;
          up = u4.outlasts.up B L s k6;
          stop = u4.outlasts.stop B L s k6;
          asked =
              asked_then Asked w w5 w6 ((((cp ++ ca) ++ cq) ++ cl) ++ cr) cx
              (asked_then Asked w w4 w5 (((cp ++ ca) ++ cq) ++ cl) cr
              (asked_then Asked w w3 w4 ((cp ++ ca) ++ cq) cl
              (asked_then Asked w w2 w3 (cp ++ ca) cq (asked_then Asked w w1 w2 cp ca pass.was_asked acc.was_asked) asked.was_asked) served.was_asked) reqs.was_asked) x.was_asked;
          asked_files = spool.was_asked;
          heard = subst (λ h. HasHeard Heard l l5 (idle_heard ++ (rooms_heard ++ (h ++ late_heard)))) (turn_heard B L gp ga gl gr)
              (hears_then Heard l l1 l5 idle_heard (rooms_heard ++ ((links_heard ++ reqs_heard) ++ late_heard)) (idle (trace_of B (gp ++ L)) s1)
              (hears_then Heard l1 l2 l5 rooms_heard ((links_heard ++ reqs_heard) ++ late_heard) acc.facts.0
              (hears_then Heard l2 l4 l5 (links_heard ++ reqs_heard) late_heard
              (hears_then Heard l2 l3 l4 links_heard reqs_heard (served.facts.0.is B (G1 ++ L) s2 k3) (reqs.facts.0.did B (G2 ++ L) s3 k4).0) late.facts.2)));
          waits = record {
            first = pass.facts.calls_are;
            once = only_first _ ((((cp ++ ca) ++ cq) ++ cl) ++ cr) cx waits_x
                ∙ (seen_first cp ca cq cl cr cx wait_of asked.facts.0.no_waits lq.no_waits rq.no_waits ∙ (only_first wait_of cp ca come.no_waits ∙ waits_p));
          };
          ticks = record {
            event_tag = pass.facts.event_tag;
            first = pass.facts.given_is;
            once = only_last moment_of gx G3 (none_joined moment_of gs gz quiet.quiet.no_moments hush.no_moments)
                ∙ (only_last moment_of gr G2 rq.no_moments ∙ (only_last moment_of gl G1 lq.no_moments ∙ (only_last moment_of ga gp come.no_moments ∙ moments_p)));
          };
          accepts = record {
            enough = accepted_so vault o1 o2 links.clients.make_room links.clients.seats.items seats2 goes ga ca C5 (seen_second cp ca cq cl cr cx tells_none) acc.facts.1;
            few = acc.facts.1.few;
            arrived = only_first _ ((((cp ++ ca) ++ cq) ++ cl) ++ cr) cx arrivals_x
                ∙ (seen_first cp ca cq cl cr cx arrival_of asked.facts.0.no_arrivals lq.no_arrivals rq.no_arrivals ∙ (only_last arrival_of cp ca arrivals_p ∙ come.arrived));
            opened =
                (let e5 = count_joined is_opening gs gz in
                let e4 = count_joined is_opening gx G3 in
                let e3 = count_joined is_opening gr G2 in
                let e2 = count_joined is_opening gl G1 in
                let e1 = count_joined is_opening ga gp in
                let a = come.opened in
                let b = quiet.quiet.no_openings in
                let z = hush.no_openings in
                let d = rq.no_openings in
                let f = lq.no_openings in
                omega (arith, e5, e4, e3, e2, e1, a, b, z, d, f, openings_p));
            refused =
                (let e5 = count_joined is_refusal gs gz in
                let e4 = count_joined is_refusal gx G3 in
                let e3 = count_joined is_refusal gr G2 in
                let e2 = count_joined is_refusal gl G1 in
                let e1 = count_joined is_refusal ga gp in
                let a = come.refused (trace_of B (gp ++ L)) s1 k2 in
                let b = quiet.quiet.no_refusals in
                let z = hush.no_refusals in
                let d = rq.no_refusals in
                let f = lq.no_refusals in
                omega (arith, e5, e4, e3, e2, e1, a, b, z, d, f, refusals_p));
            room = come.room B (gp ++ L) s1 k2;
            seated = come.seated;
            has_more = more;
            admin = asked.facts.1;
          };
          clients = record {
            turns = All-weaker (HadTurn way B (G1 ++ L) gl (trace_of B (gl ++ (G1 ++ L))) cl) (HadItsTurn T now links links_then seen)
                (λ q h here.
                turned_left way B L G3 gx ((((cp ++ ca) ++ cq) ++ cl) ++ cr) cx q
                (turned_left way B L G2 gr (((cp ++ ca) ++ cq) ++ cl) cr q (turned_right way B L G1 gl ((cp ++ ca) ++ cq) cl q (h (to_links q.connection here)))))
                seats2 (had.turns B (G1 ++ L) s2 k3);
            offered =
                (let R = IsOffered B L G4 seats2 in
                let none : (calls : List Call) → list_any is_client_write calls ≡ false → All R calls = λ calls h. none_offered B L G4 seats2 calls h in
                let of_links : All R cl = All-weaker (IsOffered B (G1 ++ L) gl seats2) R
                (λ call h. offered_left B L G3 gx seats2 call (offered_left B L G2 gr seats2 call (offered_right B L G1 gl seats2 call h))) cl (had.offered B (G1 ++ L) s2 k3) in
                let of_reqs : All R cr = none cr (unwritten_turns links.site now B (G2 ++ L) held links_then.requests.exchanges.items gr cr (reqs.facts.0.did B (G2 ++ L) s3 k4).1) in
                let of_close : All R cx = none cx (ap (list_any is_client_write) x.facts.0.calls_are ∙ unwritten_closings (filter (is_shut_seat trace4) seats2)) in
                let of_asked : All R cq = none cq (unwritten_accepted now 64 more links.requests.exchanges.items held cq asked.facts.1) in
                let of_first : All R (cp ++ ca) = All-append R cp ca (none cp (ap (list_any is_client_write) pass.facts.calls_are)) (none ca come.unwritten) in
                All-append R ((((cp ++ ca) ++ cq) ++ cl) ++ cr) cx
                (All-append R (((cp ++ ca) ++ cq) ++ cl) cr (All-append R ((cp ++ ca) ++ cq) cl (All-append R (cp ++ ca) cq of_first of_asked) of_links) of_reqs) of_close);
            in_order = served.facts.1.0.in_order B (G1 ++ L) s2 k3;
            awaits = λ e.
                (let some = served.facts.1.0.awaits e B (G1 ++ L) s2 k3 in
                let q = some.0 in (
                  q,
                  some.1,
                  awaits_left B L q G3 gx ((((cp ++ ca) ++ cq) ++ cl) ++ cr) cx
                      (awaits_left B L q G2 gr (((cp ++ ca) ++ cq) ++ cl) cr (awaits_right B L q G1 gl ((cp ++ ca) ++ cq) cl some.2)),
                ));
            caused = All-append (HasCause seats2 C5) gr gl caused_r caused_l;
          };
          admin = record {
            served = (reqs.facts.0.did B (G2 ++ L) s3 k4).1;
            apart = none_of is_admin (cp ++ ca) (cl ++ cx) (none_of is_admin cp ca (ap (list_any is_admin) pass.facts.calls_are) come.apart)
                (none_of is_admin cl cx served.facts.1.0.turns.of_seats.apart (ap (list_any is_admin) x.facts.0.calls_are ∙ apart_of (filter (is_shut_seat trace4) seats2)));
          };
          late = record {
            gone = late.facts.0;
            timely = λ i d within is_late_now here.
                (let q = get_or seats2 i d in
                ⊎_elim
                (λ (u : HasLived B (G3 ++ L) gz q.connection). inl (lived_right B L G3 gx q.connection (lived_left B (G3 ++ L) gz gs q.connection u)))
                (λ (h : lies_unread (newcomer q.connection n1) ≡ true). inr (unread i d within h))
                (late.facts.1.each B (G3 ++ L) s4 k5 i d within (late_still now seconds newcomers n1 q.connection (keeps q.connection) is_late_now) (sym (same q.connection) ∙ here)));
            noted = λ c n is here.
                ⊎_elim
                (λ (e : newcomer c n2 ≡ newcomer c n1). inl (subst (IsSettled now (Some n)) (sym (forgets trace4 s5 c (sym (same c) ∙ here) ∙ e)) (keeps c n is)))
                (λ (u : HasLived B (G3 ++ L) gz c). inr (lived_right B L G3 gx c (lived_left B (G3 ++ L) gz gs c u)))
                (late.facts.1.noted B (G3 ++ L) s4 k5 c);
            newly = λ h.
                All-weaker (IsComer now newcomers n1) (IsNotedSince T now links links_then seen)
                (λ q k none_before here.
                (let c = q.connection in
                ⊎_elim
                (λ (e : newcomer c n2 ≡ newcomer c n1). inl (subst (CountsFrom now) (sym (forgets trace4 s5 c (sym (same c) ∙ here) ∙ e)) (k none_before)))
                (λ (u : HasLived B (G3 ++ L) gz c). inr (lived_right B L G3 gx c (lived_left B (G3 ++ L) gz gs c u)))
                (late.facts.1.noted B (G3 ++ L) s4 k5 c)))
                (filter_map seat_of came) (comers h);
            counts = λ i d within is_unread here.
                (let q = get_or seats2 i d in
                let c = q.connection in
                ⊎_elim
                (λ (e : newcomer c n2 ≡ newcomer c n1).
                inr (unread i d within (ap lies_unread (sym (forgets trace4 s5 c (sym (same c) ∙ here) ∙ e)) ∙ is_unread)))
                (λ (u : HasLived B (G3 ++ L) gz c). inl (lived_right B L G3 gx c (lived_left B (G3 ++ L) gz gs c u)))
                (late.facts.1.noted B (G3 ++ L) s4 k5 c));
          };
          closes = record {
            closed = filter_map-append closing_of ((((cp ++ ca) ++ cq) ++ cl) ++ cr) cx
                ∙ (ap (λ zs. zs ++ closings cx)
                (seen_first cp ca cq cl cr cx closing_of asked.facts.0.no_closings lq.no_closings rq.no_closings ∙ (only_last closing_of cp ca closings_p ∙ come.closed))
                ∙ ap (λ zs. filter_map unseated_of came ++ zs) (closings_x ∙ ap (map link_of_seat) shut_same));
            left = x.facts.0.left ∙ open_same;
          };
          file = record { deposits = spool.deposits; tries = filed.0 };
          next = record {
            dealt = λ e. no_wait links_then (filed.1 ∙ (ap (λ b. polled || b) e ∙ or_true polled));
            after_release = λ e. sleeps_not (still (releasing e));
            while_preparing = λ e. sleeps_not (still (preparing e));
            after_closing = λ on e. sleeps_not (x.facts.2 on (ap has_moved (x.facts.0.calls_are ∙ ap (map closing) shut_same) ∙ shut_moved after seats2 e));
            rests = λ m f p d. waits_then links_then (filed.1
                ∙ rests_so polling (is_preparing || lock_released) polled (has_dealt spool.calls) (has_moved cl) (has_moved cx) (has_moved C5) served.facts.1.1 x.facts.1
                (λ q. seen_fourth cp ca cq cl cr cx is_moving q) (λ q. any_right is_moving ((((cp ++ ca) ++ cq) ++ cl) ++ cr) cx q) m (or_neither is_preparing lock_released p f) d)
                (not_true links_then.requests.poll_now (λ e. true≢false (sym (seen_fifth cp ca cq cl cr cx is_moving (reqs.facts.1 e)) ∙ m)));
          };
        },
        refl,
      )
