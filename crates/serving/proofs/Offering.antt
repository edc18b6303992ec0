-- What each write on a client's link was offered.
use Rattle.std.proofs.Common.{◌≡◌, ℕ, ◌+◌, Bool, true, false, min, List, [], ◌∷◌, ◌++◌, length, refl, sym, ◌∙◌, ap, arith, Some, None, Option, map, true≢false, append_assoc}
use Rattle.std.specs.Bool.{if◌then◌else◌}
use Rattle.std.specs.List.{All, Contains, list_any}
use Rattle.std.proofs.lemmas.List.{append-nil}
use Rattle.std.proofs.lemmas.List.Elements.{All-nil, All-cons, All-append, All-weaker}
use Rattle.vault.specs.Records.{Records}
use Rattle.vault.specs.Changes.{Contents}
use Rattle.office.specs.Events.{Log}
use Rattle.office.specs.Trace.{rest, most_lent}
use Rattle.office.specs.Taken.{trace_of}
use Rattle.office.specs.Stands.{StandsFor}
use Rattle.office.specs.declared.office.Office.{Office}
use Rattle.serving.specs.declared.wire.Link.{Link}
use Rattle.serving.specs.declared.wire.Port.TheVariants.{Pop, Admin}
use Rattle.serving.specs.declared.wire.Io.{Io}
use Rattle.serving.specs.declared.wire.Io.TheVariants.{Count, Later, End, Broken}
use Rattle.serving.specs.declared.links.Seat.{Seat}
use Rattle.serving.specs.declared.requests.Exchange.{Exchange}
use Rattle.serving.specs.declared.requests.Response.{Response}
use Rattle.serving.specs.Calls.{Call, Waited, Accepted, Looked, Read, Wrote, Closed}
use Rattle.serving.specs.Requests.{octets_of}
use Rattle.serving.specs.Works.{WasLent, IsOffered}
use Rattle.serving.specs.ClientParts.{is_client_write, AreOffered, closing, HasLooked, Unlooked, NothingCame, PieceCame}
use Rattle.serving.specs.HttpWorks.{HaveComeForAdmin, NoMore, IsKept, IsTurnedAway, WantsMemory, HasAcceptedForAdmin, HasRead, IsOver, HasResponse, GaveNothing, GaveItsEnd}
use Rattle.serving.specs.HttpWorks.{GaveAPiece, AreWrites, AreWritesOf, HasHttpTurn, IsLate, IsServed, HadHttpTurns, NoneHeld, IsHeldOn, IsClosed}
use Rattle.serving.specs.declared.guesses.Refusal.{Refusal}
use Rattle.serving.specs.declared.pace.Pace.{Pace}
use Rattle.creds.specs.declared.login_name.LoginName.{LoginName}
use Rattle.adminhttp.specs.Sites.{Site}
use Rattle.serving.proofs.Working.{none_of}

module _ (B : Records) (L g1 g2 : Log) (seats : List Seat) where
  lent_left : (link : Link) (n : ℕ) → WasLent B L g1 seats link n → WasLent B L (g2 ++ g1) seats link n
  lent_left link n u = record {
    seat = u.seat;
    among = u.among;
    is = u.is;
    later = g2 ++ u.later;
    front = u.front;
    given_are = ap (λ g. g2 ++ g) u.given_are ∙ sym (append_assoc g2 u.later u.front);
    lent = u.lent;
  }

  lent_right : (link : Link) (n : ℕ) → WasLent B (g1 ++ L) g2 seats link n → WasLent B L (g2 ++ g1) seats link n
  lent_right link n u = record {
    seat = u.seat;
    among = u.among;
    is = u.is;
    later = u.later;
    front = u.front ++ g1;
    given_are = ap (λ g. g ++ g1) u.given_are ∙ append_assoc u.later u.front g1;
    lent = u.lent ∙ ap (λ l. min (length (rest (trace_of B l) u.seat.connection)) most_lent) (sym (append_assoc u.front g1 L));
  }

  -- after more events
  pub offered_left : (call : Call) → IsOffered B L g1 seats call → IsOffered B L (g2 ++ g1) seats call
  offered_left (Wrote Pop link n io octets) h = lent_left link n h
  offered_left (Wrote Admin link n io octets) h = tt
  offered_left (Waited millis) h = tt
  offered_left (Accepted port link) h = tt
  offered_left (Looked port link io octets) h = tt
  offered_left (Read port link room io octets) h = tt
  offered_left (Closed port link) h = tt

  -- before these there were others
  pub offered_right : (call : Call) → IsOffered B (g1 ++ L) g2 seats call → IsOffered B L (g2 ++ g1) seats call
  offered_right (Wrote Pop link n io octets) h = lent_right link n h
  offered_right (Wrote Admin link n io octets) h = tt
  offered_right (Waited millis) h = tt
  offered_right (Accepted port link) h = tt
  offered_right (Looked port link io octets) h = tt
  offered_right (Read port link room io octets) h = tt
  offered_right (Closed port link) h = tt

  pub offered_then : (c1 c2 : List Call) → All (IsOffered B L g1 seats) c1 → All (IsOffered B (g1 ++ L) g2 seats) c2 → All (IsOffered B L (g2 ++ g1) seats) (c1 ++ c2)
  offered_then c1 c2 a b =
      All-append (IsOffered B L (g2 ++ g1) seats) c1 c2
      (All-weaker (IsOffered B L g1 seats) (IsOffered B L (g2 ++ g1) seats) (λ call h. offered_left call h) c1 a)
      (All-weaker (IsOffered B (g1 ++ L) g2 seats) (IsOffered B L (g2 ++ g1) seats) (λ call h. offered_right call h) c2 b)

module _ (B : Records) (L g : Log) where
  -- of more seats
  offered_one : (seats more : List Seat) → ((s : Seat) → Contains seats s → Contains more s) → (call : Call) → IsOffered B L g seats call → IsOffered B L g more call
  offered_one seats more has (Wrote Pop link n io octets) u =
      record { seat = u.seat; among = has u.seat u.among; is = u.is; later = u.later; front = u.front; given_are = u.given_are; lent = u.lent }
  offered_one seats more has (Wrote Admin link n io octets) h = tt
  offered_one seats more has (Waited millis) h = tt
  offered_one seats more has (Accepted port link) h = tt
  offered_one seats more has (Looked port link io octets) h = tt
  offered_one seats more has (Read port link room io octets) h = tt
  offered_one seats more has (Closed port link) h = tt

  pub offered_more : (seats more : List Seat) (calls : List Call) → ((s : Seat) → Contains seats s → Contains more s) → All (IsOffered B L g seats) calls → All (IsOffered B L g more) calls
  offered_more seats more calls has a = All-weaker (IsOffered B L g seats) (IsOffered B L g more) (λ call h. offered_one seats more has call h) calls a

  -- calls that write on no client's link
  pub none_offered : (seats : List Seat) (calls : List Call) → list_any is_client_write calls ≡ false → All (IsOffered B L g seats) calls
  none_offered seats [] h = All-nil (IsOffered B L g seats)
  none_offered seats (Wrote Pop link n io octets ∷ calls) h = absurd (true≢false h)
  none_offered seats (Wrote Admin link n io octets ∷ calls) h = All-cons (IsOffered B L g seats) (Wrote Admin link n io octets) calls tt (none_offered seats calls h)
  none_offered seats (Waited millis ∷ calls) h = All-cons (IsOffered B L g seats) (Waited millis) calls tt (none_offered seats calls h)
  none_offered seats (Accepted port link ∷ calls) h = All-cons (IsOffered B L g seats) (Accepted port link) calls tt (none_offered seats calls h)
  none_offered seats (Looked port link io octets ∷ calls) h = All-cons (IsOffered B L g seats) (Looked port link io octets) calls tt (none_offered seats calls h)
  none_offered seats (Read port link room io octets ∷ calls) h = All-cons (IsOffered B L g seats) (Read port link room io octets) calls tt (none_offered seats calls h)
  none_offered seats (Closed port link ∷ calls) h = All-cons (IsOffered B L g seats) (Closed port link) calls tt (none_offered seats calls h)

-- one write, of all that was lent
pub lent_once : {V : Type 0} (Holds : V → Contents → Type 0) (IsClean : V → Type 0) (o o1 : Office V) (seat : Seat) (n : ℕ) (io : Io) (octets : List ℕ) (given : Log)
    → ((B : Records) (L : Log) → StandsFor Holds o (trace_of B L) → n ≡ min (length (rest (trace_of B L) seat.connection)) most_lent)
    → AreOffered Holds IsClean o o1 (seat ∷ []) given (Wrote Pop seat.link n io octets ∷ [])
lent_once Holds IsClean o o1 seat n io octets given law = λ B L s k.
    All-cons (IsOffered B L given (seat ∷ [])) (Wrote Pop seat.link n io octets) []
    (record { seat = seat; among = (0, omega arith, refl); is = refl; later = given; front = []; given_are = sym (append-nil given); lent = law B L s })
    (All-nil (IsOffered B L given (seat ∷ [])))

-- ---- parts of a turn that write on no client's link

pub unwritten_look : {V : Type 0} (Holds : V → Contents → Type 0) (o : Office V) (seat : Seat) (pace : Pace) (refusals : List Refusal) (room : ℕ) (login : Option LoginName) (calls : List Call)
    → HasLooked Holds o seat pace refusals room login calls → list_any is_client_write calls ≡ false
unwritten_look Holds o seat pace refusals _ _ calls (Unlooked e) = refl
unwritten_look Holds o seat pace refusals _ _ calls (NothingCame io e) = refl
unwritten_look Holds o seat pace refusals _ _ calls (PieceCame n piece count login lined lies is brought part) = refl

pub unwritten_closings : (seats : List Seat) → list_any is_client_write (map closing seats) ≡ false
unwritten_closings [] = refl
unwritten_closings (s ∷ seats) = unwritten_closings seats

unwritten_come : (now : ℕ) (held held_then : List Exchange) (came : ℕ) (calls : List Call) → HaveComeForAdmin now held held_then came calls → list_any is_client_write calls ≡ false
unwritten_come now _ _ _ _ (NoMore held) = refl
unwritten_come now _ _ _ _ (IsKept link held more held_then came calls one rest) = unwritten_come now more held_then came calls rest
unwritten_come now _ _ _ _ (IsTurnedAway link held held_then came calls full rest) = unwritten_come now held held_then came calls rest
unwritten_come now _ _ _ _ (WantsMemory link held held_then came calls rest) = unwritten_come now held held_then came calls rest

unwritten_if : (goes : Bool) → list_any is_client_write (if goes then [] else Accepted Admin None ∷ []) ≡ false
unwritten_if true = refl
unwritten_if false = refl

pub unwritten_accepted : (now most : ℕ) (goes : Bool) (held held_then : List Exchange) (calls : List Call)
    → HasAcceptedForAdmin now most goes held held_then calls → list_any is_client_write calls ≡ false
unwritten_accepted now most goes held held_then calls a =
    ap (list_any is_client_write) a.calls_are
    ∙ none_of is_client_write a.arrivals (if goes then [] else Accepted Admin None ∷ []) (unwritten_come now held held_then a.came a.arrivals a.come) (unwritten_if goes)

unwritten_writes : (l : Link) (r : List ℕ) (w w1 : ℕ) (calls : List Call) → AreWrites l r w calls w1 → list_any is_client_write calls ≡ false
unwritten_writes l r w w1 [] a = refl
unwritten_writes l r w w1 (Wrote Admin k offered (Count n) octets ∷ calls) a = unwritten_writes l r (w + n) w1 calls a.3
unwritten_writes l r w w1 (Wrote Admin k offered Later octets ∷ calls) a = unwritten_writes l r w w1 calls a.2
unwritten_writes l r w w1 (Wrote Admin k offered End octets ∷ calls) a = unwritten_writes l r w w1 calls a.2
unwritten_writes l r w w1 (Wrote Admin k offered Broken octets ∷ calls) a = unwritten_writes l r w w1 calls a.2
unwritten_writes l r w w1 (Wrote Pop k offered io octets ∷ calls) a = absurd a
unwritten_writes l r w w1 (Waited millis ∷ calls) a = absurd a
unwritten_writes l r w w1 (Accepted port link ∷ calls) a = absurd a
unwritten_writes l r w w1 (Looked port link io octets ∷ calls) a = absurd a
unwritten_writes l r w w1 (Read port link room io octets ∷ calls) a = absurd a
unwritten_writes l r w w1 (Closed port link ∷ calls) a = absurd a

unwritten_response : (l : Link) (r : Option Response) (w w1 : ℕ) (calls : List Call) → AreWritesOf l r w calls w1 → list_any is_client_write calls ≡ false
unwritten_response l None w w1 calls a = ap (list_any is_client_write) a.0
unwritten_response l (Some r) w w1 calls a = unwritten_writes l (octets_of r) w w1 calls a

module _ (site : Site) (now : ℕ) (B : Records) where
  unwritten_read : (L : Log) (e e2 : Exchange) (g : Log) (c : List Call) → HasRead site B L e e2 g c → list_any is_client_write c ≡ false
  unwritten_read L e e2 _ _ (IsOver over same) = refl
  unwritten_read L e e2 _ _ (HasResponse has same) = refl
  unwritten_read L e e2 _ _ (GaveNothing none same) = refl
  unwritten_read L e e2 _ _ (GaveItsEnd io none fault over) = refl
  unwritten_read L e e2 _ _ (GaveAPiece n piece given none live comes reads link written) = refl

  unwritten_turn : (L : Log) (e e2 : Exchange) (g : Log) (c : List Call) → HasHttpTurn site now B L e e2 g c → list_any is_client_write c ≡ false
  unwritten_turn L e e2 _ _ (IsLate late over) = refl
  unwritten_turn L e e2 _ _ (IsServed between given reads writes late heard told) =
      none_of is_client_write reads writes (unwritten_read L e between given reads heard) (unwritten_response between.link between.response between.written e2.written writes told.is.writes)

  pub unwritten_turns : (L : Log) (held held_then : List Exchange) (g : Log) (c : List Call) → HadHttpTurns site now B L held held_then g c → list_any is_client_write c ≡ false
  unwritten_turns _ _ _ _ _ (NoneHeld L) = refl
  unwritten_turns _ _ _ _ _ (IsHeldOn L g given e e_then held held_then c calls turn live since rest) =
      none_of is_client_write c calls (unwritten_turn L e e_then g c turn) (unwritten_turns (g ++ L) held held_then given calls rest)
  unwritten_turns _ _ _ _ _ (IsClosed L g given e e_then held held_then c calls turn over rest) =
      none_of is_client_write c (Closed Admin e.link ∷ calls) (unwritten_turn L e e_then g c turn) (unwritten_turns (g ++ L) held held_then given calls rest)
