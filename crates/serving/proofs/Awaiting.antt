-- Links that stay unread for a long QUIT.
use Rattle.vault.specs.declared.vault.Vault.{Ghosts}
use Rattle.std.proofs.Common.{◌≡◌, ◌+◌, ◌<◌, ℕ, Bool, true, false, List, [], ◌∷◌, ◌++◌, length, take, suc, get_or, refl, sym, ◌∙◌, subst, arith, ⊎_elim, inl, inr, true≢false}
use Rattle.std.specs.List.{Contains, list_any}
use Rattle.std.proofs.lemmas.List.{append-nil}
use Rattle.std.proofs.lemmas.List.Elements.{All-nil, All-cons, Contains-append_left, Contains-append_right}
use Rattle.vault.specs.Records.{Records}
use Rattle.office.specs.Events.{Log, Trace}
use Rattle.office.specs.Quitting.{brings_long_quit}
use Rattle.office.specs.Taken.{trace_of}
use Rattle.office.specs.Stands.{StandsFor, vault_of}
use Rattle.office.specs.declared.office.Office.{Office}
use Rattle.serving.specs.Calls.{Call, Looked}
use Rattle.serving.specs.declared.wire.Port.TheVariants.{Pop}
use Rattle.serving.specs.declared.wire.Io.{Io}
use Rattle.serving.specs.declared.links.Seat.{Seat}
use Rattle.serving.specs.declared.newcomers.Newcomer.{Newcomer}
use Rattle.serving.specs.InOrder.{ServesSeat}
use Rattle.serving.specs.Newcomers.{newcomer, lies_unread}
use Rattle.serving.specs.Parts.{IsQuietFor, WasGiven}
use Rattle.serving.specs.Quits.{AwaitsQuit, SomeAwaitsQuit, PreparesMore}
use Rattle.serving.specs.Ways.{Way, HadTurn}
use Rattle.serving.specs.Works.{HasCause, is_later_of}
use Rattle.serving.specs.ClientParts.{is_client_write, HadTurns, HasLookedForQuit, NotLooked, NotKept, QuitKept, IsNotedSo, IsWrittenOut, OwesNothing}
use Rattle.serving.proofs.Arriving.{take_next}
use Rattle.serving.proofs.Offering.{offered_then, none_offered}
use Rattle.serving.proofs.Ordered.{one_look, serves_less, serves_none, serves_then}
use Rattle.serving.proofs.Turns.{first_seat}
use Rattle.serving.proofs.Working.{any_left, awaits_left, awaits_right, of_none, of_then}

-- ---- one look

look_quiet : (seat : Seat) (io : Io) (piece : List ℕ) → IsQuietFor (seat ∷ []) [] (Looked Pop seat.link io piece ∷ [])
look_quiet seat io piece = record {
  quiet = record { no_moments = refl; no_openings = refl; no_refusals = refl; no_waits = refl; no_arrivals = refl; no_closings = refl };
  apart = refl;
  caused = All-nil (HasCause (seat ∷ []) (Looked Pop seat.link io piece ∷ []));
}

-- a piece that brings a QUIT was looked at, which stays unread or doesn't
pub kept_if : {V : Type 0} (vault : Ghosts V) (o : Office V) (seat : Seat) (io : Io) (piece : List ℕ) (kept : Bool)
    → ((T : Trace) → StandsFor vault.holds o T → brings_long_quit T seat.connection piece ≡ true)
    → HasLookedForQuit vault.holds o seat kept [] (Looked Pop seat.link io piece ∷ [])
kept_if vault o seat io piece true brings = QuitKept io piece brings
kept_if vault o seat io piece false brings = NotKept io piece

module _ {V : Type 0} (vault : Ghosts V) (o o1 o2 : Office V) (seat : Seat) (share : ℕ) where
  -- after what was written on a link, it was looked at
  more_looked : (g1 : Log) (c1 c2 : List Call) → (vault.is_clean (vault_of o2) → vault.is_clean (vault_of o1)) → IsQuietFor (seat ∷ []) [] c2 → ServesSeat seat 0 0 [] c2
      → list_any is_client_write c2 ≡ false → IsWrittenOut vault.holds vault.is_clean o o1 seat share false g1 c1
      → IsWrittenOut vault.holds vault.is_clean o o2 seat share false g1 (c1 ++ c2)
  more_looked g1 c1 c2 clean quiet looked none a = record {
    of_seat = of_then (seat ∷ []) g1 [] c1 c2 a.of_seat quiet;
    offered = λ B L s k. offered_then B L g1 [] (seat ∷ []) c1 c2 (a.offered B L s (clean k)) (none_offered B (g1 ++ L) [] (seat ∷ []) c2 none);
    served = serves_less seat (0 + 0) (64 + 0) 0 64 g1 (c1 ++ c2) (omega arith) (omega arith) (serves_then seat 0 64 0 0 g1 [] c1 c2 a.served looked);
    goes_on = λ e. cc;
    ends = λ e.
        ⊎_elim
        (λ (later : list_any (is_later_of seat.link) c1 ≡ true). inl (any_left (is_later_of seat.link) c1 c2 later))
        (λ (owes : OwesNothing vault.holds vault.is_clean o o1 seat.connection g1). inr (λ B L s k. owes B L s (clean k)))
        (a.ends refl);
  }

  pub written_looked : (g1 g2 : Log) (c1 c2 : List Call) (kept : Bool) → (vault.is_clean (vault_of o2) → vault.is_clean (vault_of o1))
      → IsWrittenOut vault.holds vault.is_clean o o1 seat share false g1 c1 → HasLookedForQuit vault.holds o1 seat kept g2 c2
      → IsWrittenOut vault.holds vault.is_clean o o2 seat share false (g2 ++ g1) (c1 ++ c2)
  written_looked g1 _ c1 _ _ clean a NotLooked = more_looked g1 c1 [] clean (of_none (seat ∷ [])) (serves_none seat) refl a
  written_looked g1 _ c1 _ _ clean a (NotKept io piece) = more_looked g1 c1 (Looked Pop seat.link io piece ∷ []) clean (look_quiet seat io piece) (one_look seat io piece) refl a
  written_looked g1 _ c1 _ _ clean a (QuitKept io piece brings) = more_looked g1 c1 (Looked Pop seat.link io piece ∷ []) clean (look_quiet seat io piece) (one_look seat io piece) refl a

  -- it showed a QUIT, for which it stays unread
  pub awaits_own : (g1 g2 : Log) (c1 c2 : List Call) (kept : Bool) → kept ≡ true → WasGiven vault o o1 g1 → (vault.is_clean (vault_of o2) → vault.is_clean (vault_of o1))
      → IsWrittenOut vault.holds vault.is_clean o o1 seat share false g1 c1 → HasLookedForQuit vault.holds o1 seat kept g2 c2
      → (B : Records) (L : Log) → StandsFor vault.holds o (trace_of B L) → vault.is_clean (vault_of o2) → AwaitsQuit B L (g2 ++ g1) (c1 ++ c2) seat
  awaits_own g1 _ c1 _ _ e wa clean a NotLooked B L s k = cc
  awaits_own g1 _ c1 _ _ e wa clean a (NotKept io piece) B L s k = cc
  awaits_own g1 _ c1 _ _ e wa clean a (QuitKept io piece brings) B L s k =
      let look : List Call = Looked Pop seat.link io piece ∷ [] in
      record {
        later = [];
        own = g1;
        front = [];
        given_are = sym (append-nil g1);
        before = [];
        here = c1 ++ look;
        after = [];
        calls_are = sym (append-nil (c1 ++ look));
        unread = serves_less seat (0 + 0) (64 + 0) 0 64 g1 (c1 ++ look) (omega arith) (omega arith) (serves_then seat 0 64 0 0 g1 [] c1 look a.served (one_look seat io piece));
        piece = piece;
        io = io;
        shown = Contains-append_right c1 look (Looked Pop seat.link io piece) (0, omega arith, refl);
        brings = brings (trace_of B (g1 ++ L)) (wa.stands B L s (clean k));
      }

  pub served_kept : (way : Way) (noted : List Newcomer) (g1 g2 : Log) (c1 c2 : List Call) (kept : Bool) → kept ≡ true → way.is_preparing ≡ true
      → (lies_unread (newcomer seat.connection noted) ≡ true → ⊥) → WasGiven vault o o1 g1 → (vault.is_clean (vault_of o2) → vault.is_clean (vault_of o1))
      → IsWrittenOut vault.holds vault.is_clean o o1 seat share false g1 c1 → HasLookedForQuit vault.holds o1 seat kept g2 c2
      → HadTurns vault.holds vault.is_clean o o2 way noted (seat ∷ []) (seat ∷ []) (g2 ++ g1) (c1 ++ c2)
  served_kept way noted g1 g2 c1 c2 kept e preparing calm wa clean a b =
      let w = written_looked g1 g2 c1 c2 kept clean a b in
      let g : Log = g2 ++ g1 in
      let c : List Call = c1 ++ c2 in
      record {
        of_seats = w.of_seat;
        offered = w.offered;
        turns = λ B L s k.
            All-cons (HadTurn way B L g (trace_of B (g ++ L)) c) seat []
            (λ here. inr (inr (preparing, awaits_own g1 g2 c1 c2 kept e wa clean a b B L s k)))
            (All-nil (HadTurn way B L g (trace_of B (g ++ L)) c));
        noted_so = λ B L s k.
            All-cons (IsNotedSo noted B L g c way.wait way.may (seat ∷ [])) seat [] (λ h. absurd (calm h)) (All-nil (IsNotedSo noted B L g c way.wait way.may (seat ∷ [])));
      }

-- ---- some link

-- among the first seats, and one more
module _ (B : Records) (L : Log) (seats : List Seat) (i : ℕ) (d : Seat) (g1 g2 : Log) (c1 c2 : List Call) where
  in_front : (q : Seat) → i < length seats → Contains (take i seats ++ get_or seats i d ∷ []) q → Contains (take (i + 1) seats) q
  in_front q within has =
      let next : suc i ≡ i + 1 = omega arith in
      subst (λ n. Contains (take n seats) q) next (subst (λ v. Contains v q) (sym (take_next seats i d within)) has)

  pub some_before : i < length seats → SomeAwaitsQuit B L g1 c1 (take i seats) → SomeAwaitsQuit B L (g2 ++ g1) (c1 ++ c2) (take (i + 1) seats)
  some_before within (q, among, u) =
      (q, in_front q within (Contains-append_left (take i seats) (get_or seats i d ∷ []) q among), awaits_left B L q g1 g2 c1 c2 u)

  pub some_now : i < length seats → AwaitsQuit B (g1 ++ L) g2 c2 (get_or seats i d) → SomeAwaitsQuit B L (g2 ++ g1) (c1 ++ c2) (take (i + 1) seats)
  some_now within u =
      let q = get_or seats i d in
      (q, in_front q within (Contains-append_right (take i seats) (q ∷ []) q (first_seat q)), awaits_right B L q g1 g2 c1 c2 u)

-- ---- whether more stay unread

pub prepares_same : (b p : Bool) → PreparesMore b b p
prepares_same b p = record { still = λ e. e; polled = λ e. inl e }

-- the next turn doesn't wait for another cause
pub prepares_polled : (b n p p2 : Bool) → (p ≡ true → p2 ≡ true) → PreparesMore b n p → PreparesMore b n p2
prepares_polled b n p p2 more a = record {
  still = a.still;
  polled = λ e. ⊎_elim (λ (x : b ≡ true). inl x) (λ (x : p ≡ true). inr (more x)) (a.polled e);
}

-- none more does
pub prepared_before : (b n kept : Bool) → kept ≡ false → PreparesMore b n kept → n ≡ true → b ≡ true
prepared_before b n kept none a e = ⊎_elim (λ (x : b ≡ true). x) (λ (x : kept ≡ true). absurd (true≢false (sym x ∙ none))) (a.polled e)
