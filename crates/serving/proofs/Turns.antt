-- What each part of a turn does, and what they do together.
use Rattle.vault.specs.declared.vault.Vault.{Ghosts}
use Rattle.std.proofs.Common.{◌≡◌, ℕ, zero, suc, ◌+◌, ◌<◌, ◌≤◌, Bool, true, false, not, min, ◌&&◌, ◌||◌, ◌==◌, List, [], ◌∷◌, ◌++◌, length, take, get_or, refl, sym, ◌∙◌, ap, arith}
use Rattle.std.proofs.Common.{Option, ⊎_elim, ◌⊎◌, inl, inr, subst, true≢false, append_assoc, eq-eqb, eqb-true}
use Rattle.std.specs.Bool.{if◌then◌else◌}
use Rattle.std.specs.List.{All, Contains, list_any, filter}
use Rattle.std.proofs.lemmas.Bool.{cases_Bool}
use Rattle.std.proofs.lemmas.List.{append-nil, length-take}
use Rattle.std.proofs.lemmas.List.Elements.{All-nil, All-cons, All-head, All-weaker, All-more, Contains-append_right}
use Rattle.vault.specs.Records.{Records}
use Rattle.office.specs.Events.{EventTag, Log, Trace}
use Rattle.office.specs.Events as event
use Rattle.office.specs.Trace.{history, is_open, rest, rest_if, untaken, most_lent}
use Rattle.office.specs.Taken.{trace_of}
use Rattle.office.specs.Stands.{StandsFor, vault_of}
use Rattle.office.specs.declared.office.Office.{Office}
use Rattle.serving.specs.declared.wire.Port.TheVariants.{Pop}
use Rattle.serving.specs.declared.wire.Io.{Io}
use Rattle.serving.specs.declared.wire.Io.TheVariants.{Count, Later}
use Rattle.serving.specs.Calls.{Call, Looked, Read, Wrote}
use Rattle.serving.specs.declared.links.Seat.{Seat}
use Rattle.serving.specs.Wires.{is_fault}
use Rattle.serving.specs.Hearing.{Hearing, WithHeard}
use Rattle.serving.proofs.Hearing.{unheard}
use Rattle.serving.specs.Parts.{Also, WasGiven, Part, IsQuietFor}
use Rattle.serving.specs.Works.{IsOffered, is_read_of, is_later_of, is_taking_of, most_writes, octets_taken, had_its_turn, refusals, HasCause, WasAsked, IsReadByLine}
use Rattle.serving.specs.Works.{reads_by_line, most_at_once, IsKeptBack, StaysUnread, LiesUnread}
use Rattle.serving.specs.Ways.{Way, HadTurn}
use Rattle.serving.specs.ClientParts.{is_client_write, AreOffered, OwesNothing, IsWritten, IsWrittenOut, IsNotReady, IsUnread, IsReadPiece, IsReadOnce, NotReady, WasRead, HasLooked}
use Rattle.serving.specs.ClientParts.{Unlooked, NothingCame, PieceCame, HadTurns, IsNotedSo}
use Rattle.serving.specs.declared.guesses.Refusal.{Refusal}
use Rattle.creds.specs.declared.login_name.LoginName.{LoginName}
use Rattle.serving.specs.declared.pace.Pace.{Pace}
use Rattle.office.specs.Waiting as waiting
use Rattle.office.specs.Logins.{brings_login}
use Rattle.serving.proofs.Ordered.{took_one, gone_one, bytes_one, serves_none, one_write, one_read, serves_then, serves_less, looked_served}
use Rattle.serving.specs.InOrder.{IsEventOf, ServesSeat}
use Rattle.serving.proofs.Offering.{offered_then, offered_more, none_offered, lent_once, unwritten_look}
use Rattle.serving.proofs.Seating.{any_default, contained, whole_front}
use Rattle.serving.specs.Newcomers.{newcomer, lies_unread}
use Rattle.serving.specs.declared.newcomers.Newcomer.{Newcomer}
use Rattle.serving.proofs.Working.{none_of, lies_left, lies_right, given_none, asked_then, count_joined, any_right, of_then, of_more, of_none, turn_read, turn_later, turn_full}
use Rattle.serving.proofs.Working.{Turned, turn_shared, turn_left, turn_right, turn_polled, line_right, taken_joined, turned_right, fewer_quiet, turns_later, shut_by}

-- ---- one call

same_number : (n : ℕ) → (n == n) ≡ true
same_number n = eq-eqb n n refl

cut_so : (n : ℕ) (io : Io) → is_fault io ≡ true → ((n == n) && is_fault io) ≡ true
cut_so n io fault = rw (same_number n, fault) refl

or_none : (b : Bool) → b ≡ true → (b || false) ≡ true
or_none true e = refl
or_none false e = cc

pub first_seat : (seat : Seat) → Contains (seat ∷ []) seat
first_seat seat = (0, omega arith, refl)

-- a connection that isn't open is owed nothing
pub shut_rest : (T : Trace) (c : ℕ) → is_open T c ≡ false → rest T c ≡ []
shut_rest T c e = ap (λ b. rest_if b (untaken T.log (history T) c)) e

only_one : (x s : Seat) → Contains (x ∷ []) s → x ≡ s
only_one x s (zero, w, is) = is
only_one x s (suc k, w, is) = absurd (omega (arith, w))

-- a number that isn't 0
pub not_zero : (n : ℕ) → 0 < n → (n == 0) ≡ false
not_zero n h = ⊎_elim (λ (e : (n == 0) ≡ true). (let z : n ≡ 0 = eqb-true n 0 e in absurd (omega (arith, h, z)))) (λ (e : (n == 0) ≡ false). e) (cases_Bool (n == 0))

-- if more logins may be kept back
pub kept_more : (T : Trace) (c : ℕ) (piece : List ℕ) (wait : ℕ) (may may2 : Bool) → (may ≡ true → may2 ≡ true) → IsKeptBack T c piece wait may → IsKeptBack T c piece wait may2
kept_more T c piece wait may may2 more h =
    ⊎_elim
    (λ (w : waiting.waits T c piece wait ≡ true). inl w)
    (λ (b : (may ≡ true) × (brings_login T c piece ≡ true)). inr (more b.0, b.1))
    h

-- and lines are read one at a time there too
pub line_more : (wait wait2 : ℕ) (may may2 : Bool) → wait2 ≡ wait → (may ≡ true → may2 ≡ true) → reads_by_line wait may ≡ true → reads_by_line wait2 may2 ≡ true
line_more wait wait2 may true same more h = refl
line_more wait wait2 true false same more h = let k : false ≡ true = more refl in cc
line_more wait wait2 false false same more h = ap (λ n. not (n == 0)) same ∙ h

module _ {V : Type 0} (vault : Ghosts V) where
  -- all that was lent was offered
  abbrev pub OffersAll : (o : Office V) (seat : Seat) (offered : ℕ) → Type 0
  OffersAll o seat offered = (B : Records) (L : Log) → StandsFor vault.holds o (trace_of B L) → offered ≡ min (length (rest (trace_of B L) seat.connection)) most_lent

  pub wrote_some : (o o1 : Office V) (seat : Seat) (offered n : ℕ) (octets : List ℕ) (m : EventTag) → 0 < n → OffersAll o seat offered
      → IsWritten vault.holds vault.is_clean o o1 seat (if n == 0 then 0 else 1) 1 n (not (n == 0)) ((event.Took seat.connection n, m) ∷ []) (Wrote Pop seat.link offered (Count n) octets ∷ [])
  wrote_some o o1 seat offered n octets m some all =
      let z = not_zero n some in
      let q = same_number seat.link.number in
      record {
        of_seat = record {
          quiet = record { no_moments = refl; no_openings = refl; no_refusals = refl; no_waits = refl; no_arrivals = refl; no_closings = refl };
          apart = refl;
          caused = All-cons (HasCause (seat ∷ []) (Wrote Pop seat.link offered (Count n) octets ∷ [])) (event.Took seat.connection n, m) [] tt
              (All-nil (HasCause (seat ∷ []) (Wrote Pop seat.link offered (Count n) octets ∷ [])));
        };
        served = one_write seat ((event.Took seat.connection n, m) ∷ []) offered (Count n) octets (took_one seat.connection n m);
        taken = rw (z, q) (omega arith);
        octets_are = rw q (omega arith);
        offered = lent_once vault.holds vault.is_clean o o1 seat offered (Count n) octets ((event.Took seat.connection n, m) ∷ []) all;
        ends = λ e. (let k : not (n == 0) ≡ true = ap not z in absurd (true≢false (sym k ∙ e)));
      }

  pub wrote_later : (o : Office V) (seat : Seat) (offered : ℕ) (octets : List ℕ) → OffersAll o seat offered
      → IsWritten vault.holds vault.is_clean o o seat 0 1 0 false [] (Wrote Pop seat.link offered Later octets ∷ [])
  wrote_later o seat offered octets all = record {
    of_seat = record {
      quiet = record { no_moments = refl; no_openings = refl; no_refusals = refl; no_waits = refl; no_arrivals = refl; no_closings = refl };
      apart = refl;
      caused = All-nil (HasCause (seat ∷ []) (Wrote Pop seat.link offered Later octets ∷ []));
    };
    served = one_write seat [] offered Later octets (All-nil (IsEventOf seat.connection));
    taken = omega arith;
    octets_are = omega arith;
    offered = lent_once vault.holds vault.is_clean o o seat offered Later octets [] all;
    ends = λ e. inl (or_none (seat.link.number == seat.link.number) (same_number seat.link.number));
  }

  pub wrote_cut : (o o1 : Office V) (seat : Seat) (offered : ℕ) (io : Io) (octets : List ℕ) (m : EventTag) → is_fault io ≡ true
      → OffersAll o seat offered → OwesNothing vault.holds vault.is_clean o o1 seat.connection ((event.Gone seat.connection, m) ∷ [])
      → IsWritten vault.holds vault.is_clean o o1 seat 0 1 0 false ((event.Gone seat.connection, m) ∷ []) (Wrote Pop seat.link offered io octets ∷ [])
  wrote_cut o o1 seat offered io octets m fault all owes = record {
    of_seat = record {
      quiet = record { no_moments = refl; no_openings = refl; no_refusals = refl; no_waits = refl; no_arrivals = refl; no_closings = refl };
      apart = refl;
      caused = All-cons (HasCause (seat ∷ []) (Wrote Pop seat.link offered io octets ∷ [])) (event.Gone seat.connection, m) []
          (seat, first_seat seat, refl, or_none ((seat.link.number == seat.link.number) && is_fault io) (cut_so seat.link.number io fault))
          (All-nil (HasCause (seat ∷ []) (Wrote Pop seat.link offered io octets ∷ [])));
    };
    served = one_write seat ((event.Gone seat.connection, m) ∷ []) offered io octets (gone_one seat.connection m);
    taken = omega arith;
    octets_are = omega arith;
    offered = lent_once vault.holds vault.is_clean o o1 seat offered io octets ((event.Gone seat.connection, m) ∷ []) all;
    ends = λ e. inr owes;
  }

  pub wrote_none : (o : Office V) (seat : Seat) → OwesNothing vault.holds vault.is_clean o o seat.connection [] → IsWritten vault.holds vault.is_clean o o seat 0 1 0 false [] []
  wrote_none o seat owes = record {
    of_seat = of_none (seat ∷ []);
    served = serves_less seat 0 0 0 1 [] [] (omega arith) (omega arith) (serves_none seat);
    taken = omega arith;
    octets_are = omega arith;
    offered = λ B L s k. All-nil (IsOffered B L [] (seat ∷ []));
    ends = λ e. inr owes;
  }

  -- one read
  module _ (o : Office V) (seat : Seat) (room : ℕ) where
    pub read_some : (io : Io) (octets piece : List ℕ) (m : EventTag) → IsReadOnce vault.holds o seat room ((event.Bytes seat.connection piece, m) ∷ []) (Read Pop seat.link room io octets ∷ [])
    read_some io octets piece m = WasRead io octets ((event.Bytes seat.connection piece, m) ∷ []) (record {
      quiet = record { no_moments = refl; no_openings = refl; no_refusals = refl; no_waits = refl; no_arrivals = refl; no_closings = refl };
      apart = refl;
      caused = All-cons (HasCause (seat ∷ []) (Read Pop seat.link room io octets ∷ [])) (event.Bytes seat.connection piece, m) [] tt
          (All-nil (HasCause (seat ∷ []) (Read Pop seat.link room io octets ∷ [])));
    }) (one_read seat ((event.Bytes seat.connection piece, m) ∷ []) room io octets (bytes_one seat.connection piece m))

    pub read_later : (io : Io) (octets : List ℕ) → IsReadOnce vault.holds o seat room [] (Read Pop seat.link room io octets ∷ [])
    read_later io octets = WasRead io octets [] (record {
      quiet = record { no_moments = refl; no_openings = refl; no_refusals = refl; no_waits = refl; no_arrivals = refl; no_closings = refl };
      apart = refl;
      caused = All-nil (HasCause (seat ∷ []) (Read Pop seat.link room io octets ∷ []));
    }) (one_read seat [] room io octets (All-nil (IsEventOf seat.connection)))

    pub read_cut : (io : Io) (octets : List ℕ) (m : EventTag) → is_fault io ≡ true → IsReadOnce vault.holds o seat room ((event.Gone seat.connection, m) ∷ []) (Read Pop seat.link room io octets ∷ [])
    read_cut io octets m fault = WasRead io octets ((event.Gone seat.connection, m) ∷ []) (record {
      quiet = record { no_moments = refl; no_openings = refl; no_refusals = refl; no_waits = refl; no_arrivals = refl; no_closings = refl };
      apart = refl;
      caused = All-cons (HasCause (seat ∷ []) (Read Pop seat.link room io octets ∷ [])) (event.Gone seat.connection, m) []
          (seat, first_seat seat, refl, or_none ((seat.link.number == seat.link.number) && is_fault io) (cut_so seat.link.number io fault))
          (All-nil (HasCause (seat ∷ []) (Read Pop seat.link room io octets ∷ [])));
    }) (one_read seat ((event.Gone seat.connection, m) ∷ []) room io octets (gone_one seat.connection m))

  module _ (wait : ℕ) (by_line may is_noted : Bool) where
    pub read_none : (o : Office V) (seat : Seat) → (is_noted ≡ true → ⊥) → IsNotReady vault.holds o seat.connection → IsReadPiece vault.holds o seat wait by_line may is_noted [] []
    read_none o seat calm idle = record {
      of_seat = of_none (seat ∷ []);
      read = inr (inr (refl, inl idle));
      noted = λ e. absurd (calm e);
      served = serves_less seat 0 0 1 0 [] [] (omega arith) (omega arith) (serves_none seat);
      unwritten = refl;
    }

    -- what was looked at stays unread
    pub read_unread : (o : Office V) (seat : Seat) (calls : List Call) → list_any is_client_write calls ≡ false → IsQuietFor (seat ∷ []) [] calls → ServesSeat seat 0 0 [] calls
        → IsUnread vault.holds o seat wait may calls → IsReadPiece vault.holds o seat wait by_line may is_noted [] calls
    read_unread o seat calls none quiet looked u = record {
      of_seat = quiet;
      read = inr (inr (refl, inr u));
      noted = λ e. u;
      served = serves_less seat 0 0 1 0 [] calls (omega arith) (omega arith) looked;
      unwritten = none;
    }

    -- a read that asked for all
    whole_read : (seat : Seat) (room : ℕ) (io : Io) (octets : List ℕ) → room ≡ most_at_once → list_any (is_read_of seat.link) (Read Pop seat.link room io octets ∷ []) ≡ true
    whole_read seat room io octets e =
        let n = same_number seat.link.number in
        let k : (room == most_at_once) ≡ true = eq-eqb room most_at_once e in
        rw (n, k) refl

    -- what was looked at was read, all or by its line
    read_so : (o : Office V) (seat : Seat) (pace : Pace) (refusals : List Refusal) (room : ℕ) (login : Option LoginName) (io : Io) (octets : List ℕ) (looks : List Call)
        → (room == 0) ≡ false → (pace.by_line ≡ true → by_line ≡ true) → HasLooked vault.holds o seat pace refusals room login looks
        → (list_any (is_read_of seat.link) (looks ++ Read Pop seat.link room io octets ∷ []) ≡ true) ⊎ IsReadByLine (looks ++ Read Pop seat.link room io octets ∷ []) by_line seat
    read_so o seat pace refusals room _ io octets looks some line (Unlooked e) =
        inl (any_right (is_read_of seat.link) [] (Read Pop seat.link 4096 io octets ∷ []) (whole_read seat 4096 io octets refl))
    read_so o seat pace refusals room _ io octets looks some line (NothingCame i e) =
        inl (any_right (is_read_of seat.link) (Looked Pop seat.link i [] ∷ []) (Read Pop seat.link 4096 io octets ∷ []) (whole_read seat 4096 io octets refl))
    read_so o seat pace refusals room _ io octets looks some line (PieceCame n piece count login lined lies is brought part) =
        let call = Read Pop seat.link count io octets in
        let look = Looked Pop seat.link (Count n) piece in
        inr (record {
          piece = piece;
          io = Count n;
          io_then = io;
          octets = octets;
          held = line lined;
          shown = (0, omega arith, refl);
          read = subst (λ r. Contains (look ∷ call ∷ []) (Read Pop seat.link r io octets)) (part some) (1, omega arith, refl);
        })

    -- it was looked at first
    pub read_behind : (o : Office V) (seat : Seat) (pace : Pace) (refusals : List Refusal) (room : ℕ) (login : Option LoginName) (given : Log) (looks calls : List Call)
        → IsQuietFor (seat ∷ []) [] looks → HasLooked vault.holds o seat pace refusals room login looks
        → (room == 0) ≡ false → (pace.by_line ≡ true → by_line ≡ true) → (is_noted ≡ true → ⊥) → IsReadOnce vault.holds o seat room given calls
        → IsReadPiece vault.holds o seat wait by_line may is_noted given (looks ++ calls)
    read_behind o seat pace refusals room login _ looks _ quiet looked some line calm (NotReady idle) = record {
      of_seat = of_then (seat ∷ []) [] [] looks [] quiet (of_none (seat ∷ []));
      read = inr (inr (refl, inl idle));
      noted = λ e. absurd (calm e);
      served = serves_less seat (0 + 0) (0 + 0) 1 0 [] (looks ++ []) (omega arith) (omega arith)
          (serves_then seat 0 0 0 0 [] [] looks [] (looked_served vault.holds o seat pace refusals room login looks looked) (serves_none seat));
      unwritten = none_of is_client_write looks [] (unwritten_look vault.holds o seat pace refusals room login looks looked) refl;
    }
    read_behind o seat pace refusals room login _ looks _ quiet looked some line calm (WasRead io octets given q own) =
        let call = Read Pop seat.link room io octets in
        record {
          of_seat = subst (λ g. IsQuietFor (seat ∷ []) g (looks ++ call ∷ [])) (append-nil given)
              (of_then (seat ∷ []) [] given looks (call ∷ []) quiet q);
          read = ⊎_elim
              (λ (all : list_any (is_read_of seat.link) (looks ++ call ∷ []) ≡ true). inl all)
              (λ (u : IsReadByLine (looks ++ call ∷ []) by_line seat). inr (inl u))
              (read_so o seat pace refusals room login io octets looks some line looked);
          noted = λ e. absurd (calm e);
          served = serves_less seat (0 + 1) (0 + 0) 1 0 given (looks ++ call ∷ []) (omega arith) (omega arith)
              (subst (λ g. ServesSeat seat (0 + 1) (0 + 0) g (looks ++ call ∷ [])) (append-nil given)
              (serves_then seat 0 0 1 0 [] given looks (call ∷ []) (looked_served vault.holds o seat pace refusals room login looks looked) own));
          unwritten = none_of is_client_write looks (call ∷ []) (unwritten_look vault.holds o seat pace refusals room login looks looked) refl;
        }

  -- ---- a link

  pub written_none : (o : Office V) (seat : Seat) → IsWritten vault.holds vault.is_clean o o seat 0 0 0 true [] []
  written_none o seat = record {
    of_seat = of_none (seat ∷ []);
    served = serves_none seat;
    taken = omega arith;
    octets_are = omega arith;
    offered = λ B L s k. All-nil (IsOffered B L [] (seat ∷ []));
    ends = λ e. cc;
  }

  owes_then : (o o1 o2 : Office V) (c : ℕ) (g1 g2 : Log) → WasGiven vault o o1 g1
      → WasGiven vault o1 o2 g2 → OwesNothing vault.holds vault.is_clean o1 o2 c g2 → OwesNothing vault.holds vault.is_clean o o2 c (g2 ++ g1)
  owes_then o o1 o2 c g1 g2 a b owes = λ B L s k. subst (λ l. rest (trace_of B l) c ≡ []) (sym (append_assoc g2 g1 L)) (owes B (g1 ++ L) (a.stands B L s (b.clean k)) k)

  pub written_then : (o o1 o2 : Office V) (seat : Seat) (n1 n2 m1 m2 k1 k2 : ℕ) (goes : Bool) (g1 g2 : Log) (c1 c2 : List Call)
      → WasGiven vault o o1 g1 → WasGiven vault o1 o2 g2
      → IsWritten vault.holds vault.is_clean o o1 seat n1 m1 k1 true g1 c1 → IsWritten vault.holds vault.is_clean o1 o2 seat n2 m2 k2 goes g2 c2
      → IsWritten vault.holds vault.is_clean o o2 seat (n1 + n2) (m1 + m2) (k1 + k2) goes (g2 ++ g1) (c1 ++ c2)
  written_then o o1 o2 seat n1 n2 m1 m2 k1 k2 goes g1 g2 c1 c2 wa wb a b = record {
    of_seat = of_then (seat ∷ []) g1 g2 c1 c2 a.of_seat b.of_seat;
    served = serves_then seat 0 m1 0 m2 g1 g2 c1 c2 a.served b.served;
    taken = (let k = count_joined (is_taking_of seat.link) c1 c2 in let p = a.taken in let q = b.taken in omega (arith, k, p, q));
    octets_are = (let k = taken_joined seat.link c1 c2 in let p = a.octets_are in let q = b.octets_are in omega (arith, k, p, q));
    offered = λ B L s k. offered_then B L g1 g2 (seat ∷ []) c1 c2 (a.offered B L s (wb.clean k)) (b.offered B (g1 ++ L) (wa.stands B L s (wb.clean k)) k);
    ends = λ e.
        ⊎_elim
        (λ (later : list_any (is_later_of seat.link) c2 ≡ true). inl (any_right (is_later_of seat.link) c1 c2 later))
        (λ (owes : OwesNothing vault.holds vault.is_clean o1 o2 seat.connection g2). inr (owes_then o o1 o2 seat.connection g1 g2 wa wb owes))
        (b.ends e);
  }

  -- fewer writes, and fewer octets
  pub written_less : (o o1 : Office V) (seat : Seat) (n n2 m k k2 : ℕ) (goes : Bool) (g : Log) (c : List Call) → n2 ≤ n → k2 ≤ k
      → IsWritten vault.holds vault.is_clean o o1 seat n m k goes g c → IsWritten vault.holds vault.is_clean o o1 seat n2 m k2 goes g c
  written_less o o1 seat n n2 m k k2 goes g c h h2 a = record {
    of_seat = a.of_seat;
    served = a.served;
    taken = (let p = a.taken in omega (arith, p, h));
    octets_are = (let p = a.octets_are in omega (arith, p, h2));
    offered = a.offered;
    ends = a.ends;
  }

  -- it ended early
  pub written_ended : (o o1 : Office V) (seat : Seat) (n m k share : ℕ) (g : Log) (c : List Call) → m ≤ most_writes
      → IsWritten vault.holds vault.is_clean o o1 seat n m k false g c → IsWrittenOut vault.holds vault.is_clean o o1 seat share false g c
  written_ended o o1 seat n m k share g c few a =
      record { of_seat = a.of_seat; offered = a.offered; served = serves_less seat 0 m 0 64 g c (omega arith) few a.served; goes_on = λ e. cc; ends = a.ends }

  -- the share is written
  pub written_share : (o o1 : Office V) (seat : Seat) (n m k share : ℕ) (goes : Bool) (g : Log) (c : List Call) → m ≤ most_writes → share ≤ k
      → IsWritten vault.holds vault.is_clean o o1 seat n m k goes g c → IsWrittenOut vault.holds vault.is_clean o o1 seat share true g c
  written_share o o1 seat n m k share goes g c few h a = record {
    of_seat = a.of_seat;
    offered = a.offered;
    served = serves_less seat 0 m 0 64 g c (omega arith) few a.served;
    goes_on = λ e. inr (let p = a.octets_are in omega (arith, p, h));
    ends = λ e. cc;
  }

  pub written_all : (o o1 : Office V) (seat : Seat) (n m k share : ℕ) (goes : Bool) (g : Log) (c : List Call) → m ≤ most_writes → most_writes ≤ n
      → IsWritten vault.holds vault.is_clean o o1 seat n m k goes g c → IsWrittenOut vault.holds vault.is_clean o o1 seat share true g c
  written_all o o1 seat n m k share goes g c few h a = record {
    of_seat = a.of_seat;
    offered = a.offered;
    served = serves_less seat 0 m 0 64 g c (omega arith) few a.served;
    goes_on = λ e. inl (let p = a.taken in omega (arith, p, h));
    ends = λ e. cc;
  }

  -- a link that was written its share had its turn
  turn_written : (o o1 : Office V) (way : Way) (seat : Seat) (g : Log) (c : List Call) → way.poll_now ≡ true
      → IsWrittenOut vault.holds vault.is_clean o o1 seat way.share true g c → had_its_turn way.share way.poll_now seat.link c ≡ true
  turn_written o o1 way seat g c e a =
      ⊎_elim
      (λ (full : most_writes ≤ length (filter (is_taking_of seat.link) c)). turn_full way.share way.poll_now seat.link c e full)
      (λ (taken : way.share ≤ octets_taken seat.link c). turn_shared way.share way.poll_now seat.link c e taken)
      (a.goes_on refl)

  pub served_written : (o o1 : Office V) (way : Way) (noted : List Newcomer) (seat : Seat) (g : Log) (c : List Call) → way.poll_now ≡ true
      → (lies_unread (newcomer seat.connection noted) ≡ true → ⊥) → IsWrittenOut vault.holds vault.is_clean o o1 seat way.share true g c
      → HadTurns vault.holds vault.is_clean o o1 way noted (seat ∷ []) (seat ∷ []) g c
  served_written o o1 way noted seat g c e calm a = record {
    of_seats = a.of_seat;
    offered = a.offered;
    turns = λ B L s k.
        All-cons (HadTurn way B L g (trace_of B (g ++ L)) c) seat [] (λ here. inl (turn_written o o1 way seat g c e a)) (All-nil (HadTurn way B L g (trace_of B (g ++ L)) c));
    noted_so = λ B L s k.
        All-cons (IsNotedSo noted B L g c way.wait way.may (seat ∷ [])) seat [] (λ h. absurd (calm h)) (All-nil (IsNotedSo noted B L g c way.wait way.may (seat ∷ [])));
  }

  served_unless : (o o1 o2 : Office V) (way : Way) (seat : Seat) (g1 : Log) (c1 c2 : List Call) → WasGiven vault o o1 g1 → (vault.is_clean (vault_of o2) → vault.is_clean (vault_of o1))
      → IsWrittenOut vault.holds vault.is_clean o o1 seat way.share false g1 c1 → IsNotReady vault.holds o1 seat.connection
      → (B : Records) (L : Log) → StandsFor vault.holds o (trace_of B L) → vault.is_clean (vault_of o2) → is_open (trace_of B (g1 ++ L)) seat.connection ≡ true
      → had_its_turn way.share way.poll_now seat.link (c1 ++ c2) ≡ true
  served_unless o o1 o2 way seat g1 c1 c2 wa clean a idle B L s k here =
      ⊎_elim
      (λ (later : list_any (is_later_of seat.link) c1 ≡ true). turn_left way.share way.poll_now seat.link c1 c2 (turn_later way.share way.poll_now seat.link c1 later))
      (λ (owes : OwesNothing vault.holds vault.is_clean o o1 seat.connection g1).
      (let T = trace_of B (g1 ++ L) in
      absurd (shut_by (is_open T seat.connection) (untaken T.log (history T) seat.connection) (owes B L s (clean k)) (idle B (g1 ++ L) (wa.stands B L s (clean k))) here)))
      (a.ends refl)

  pub served_one : (o o1 o2 : Office V) (way : Way) (noted : List Newcomer) (seat : Seat) (g1 g2 : Log) (c1 c2 : List Call)
      → WasGiven vault o o1 g1 → WasGiven vault o1 o2 g2
      → IsWrittenOut vault.holds vault.is_clean o o1 seat way.share false g1 c1
      → IsReadPiece vault.holds o1 seat way.wait way.by_line (way.may seat.connection) (lies_unread (newcomer seat.connection noted)) g2 c2
      → HadTurns vault.holds vault.is_clean o o2 way noted (seat ∷ []) (seat ∷ []) (g2 ++ g1) (c1 ++ c2)
  served_one o o1 o2 way noted seat g1 g2 c1 c2 wa wb a b = record {
    of_seats = of_then (seat ∷ []) g1 g2 c1 c2 a.of_seat b.of_seat;
    offered = λ B L s k. offered_then B L g1 g2 (seat ∷ []) c1 c2 (a.offered B L s (wb.clean k)) (none_offered B (g1 ++ L) g2 (seat ∷ []) c2 b.unwritten);
    noted_so = λ B L s k.
        All-cons (IsNotedSo noted B L (g2 ++ g1) (c1 ++ c2) way.wait way.may (seat ∷ [])) seat []
        (λ h. record { seat = seat; among = first_seat seat; is = refl; unread = unread_at B L s k (b.noted h) })
        (All-nil (IsNotedSo noted B L (g2 ++ g1) (c1 ++ c2) way.wait way.may (seat ∷ [])));
    turns = λ B L s k. All-cons (HadTurn way B L (g2 ++ g1) (trace_of B ((g2 ++ g1) ++ L)) (c1 ++ c2)) seat [] (by B L s k b.read)
        (All-nil (HadTurn way B L (g2 ++ g1) (trace_of B ((g2 ++ g1) ++ L)) (c1 ++ c2)));
  } where
    unread_at : (B : Records) (L : Log) → StandsFor vault.holds o (trace_of B L) → vault.is_clean (vault_of o2)
        → IsUnread vault.holds o1 seat way.wait (way.may seat.connection) c2 → StaysUnread B L (g2 ++ g1) (c1 ++ c2) way.wait (way.may seat.connection) seat
    unread_at B L s k u = record {
      piece = u.piece;
      io = u.io;
      shown = Contains-append_right c1 c2 (Looked Pop seat.link u.io u.piece) u.shown;
      later = g2;
      front = g1;
      is = refl;
      kept = u.kept B (g1 ++ L) (wa.stands B L s (wb.clean k));
    }

    by : (B : Records) (L : Log) → StandsFor vault.holds o (trace_of B L) → vault.is_clean (vault_of o2)
        → (list_any (is_read_of seat.link) c2 ≡ true)
        ⊎ (IsReadByLine c2 way.by_line seat ⊎ ((g2 ≡ []) × (IsNotReady vault.holds o1 seat.connection ⊎ IsUnread vault.holds o1 seat way.wait (way.may seat.connection) c2)))
        → HadTurn way B L (g2 ++ g1) (trace_of B ((g2 ++ g1) ++ L)) (c1 ++ c2) seat
    by B L s k (inl r) here = inl (turn_right way.share way.poll_now seat.link c1 c2 (turn_read way.share way.poll_now seat.link c2 r))
    by B L s k (inr (inl u)) here = inr (inl (inl (line_right way.by_line seat c1 c2 u)))
    by B L s k (inr (inr (none, inl idle))) here =
        inl (served_unless o o1 o2 way seat g1 c1 c2 wa wb.clean a idle B L s k (subst (λ g. is_open (trace_of B ((g ++ g1) ++ L)) seat.connection ≡ true) none here))
    by B L s k (inr (inr (none, inr u))) here = inr (inl (inr (unread_at B L s k u)))

  -- more is done for the same link
  pub served_then : (o o1 o2 : Office V) (way : Way) (noted : List Newcomer) (seat : Seat) (g1 g2 : Log) (c1 c2 : List Call)
      → WasGiven vault o o1 g1 → WasGiven vault o1 o2 g2
      → HadTurns vault.holds vault.is_clean o o1 way noted (seat ∷ []) (seat ∷ []) g1 c1 → IsQuietFor (seat ∷ []) g2 c2
      → AreOffered vault.holds vault.is_clean o1 o2 (seat ∷ []) g2 c2 → HadTurns vault.holds vault.is_clean o o2 way noted (seat ∷ []) (seat ∷ []) (g2 ++ g1) (c1 ++ c2)
  served_then o o1 o2 way noted seat g1 g2 c1 c2 wa wb a b all = record {
    of_seats = of_then (seat ∷ []) g1 g2 c1 c2 a.of_seats b;
    offered = λ B L s k. offered_then B L g1 g2 (seat ∷ []) c1 c2 (a.offered B L s (wb.clean k)) (all B (g1 ++ L) (wa.stands B L s (wb.clean k)) k);
    turns = λ B L s k.
        (let s1 = wa.stands B L s (wb.clean k) in
        let fewer = fewer_quiet B (g1 ++ L) g2 (seat ∷ []) c2 (wb.admitted B (g1 ++ L) s1 k) b.caused b.quiet.no_openings in
        turns_later way B L g1 g2 c1 c2 (seat ∷ []) fewer (a.turns B L s (wb.clean k)));
    noted_so = λ B L s k.
        All-weaker (IsNotedSo noted B L g1 c1 way.wait way.may (seat ∷ [])) (IsNotedSo noted B L (g2 ++ g1) (c1 ++ c2) way.wait way.may (seat ∷ []))
        (λ q h e. lies_left B L way.wait (way.may q.connection) (seat ∷ []) q.connection g1 g2 c1 c2 (h e)) (seat ∷ []) (a.noted_so B L s (wb.clean k));
  }

  -- ---- all links

  -- served in another way: the same share, the same wait, more logins may be kept back, and the next turn doesn't wait for another cause
  pub served_so : (o o1 : Office V) (way way2 : Way) (noted : List Newcomer) (seats these : List Seat) (g : Log) (c : List Call)
      → way2.share ≡ way.share → way2.wait ≡ way.wait → (way.by_line ≡ true → way2.by_line ≡ true)
      → All (λ q. way.may q.connection ≡ true → way2.may q.connection ≡ true) these
      → (way.is_preparing ≡ true → way2.is_preparing ≡ true) → (way.poll_now ≡ true → way2.poll_now ≡ true)
      → HadTurns vault.holds vault.is_clean o o1 way noted seats these g c → HadTurns vault.holds vault.is_clean o o1 way2 noted seats these g c
  served_so o o1 way way2 noted seats these g c share wait lines may prepares still a = record {
    of_seats = a.of_seats;
    offered = a.offered;
    noted_so = λ B L s k i d within e.
        (let u = a.noted_so B L s k i d within e in
        record { seat = u.seat; among = u.among; is = u.is; unread = unread_in B L u.seat (way.may (get_or these i d).connection) (way2.may (get_or these i d).connection) (may i d within) u.unread });
    turns = λ B L s k i d within here. by B L (get_or these i d) (may i d within) (a.turns B L s k i d within here);
  } where
    unread_in : (B : Records) (L : Log) (q : Seat) (m m2 : Bool) → (m ≡ true → m2 ≡ true) → StaysUnread B L g c way.wait m q → StaysUnread B L g c way2.wait m2 q
    unread_in B L q m m2 more u = record {
      piece = u.piece;
      io = u.io;
      shown = u.shown;
      later = u.later;
      front = u.front;
      is = u.is;
      kept = subst (λ n. IsKeptBack (trace_of B (u.front ++ L)) q.connection u.piece n m2) (sym wait) (kept_more (trace_of B (u.front ++ L)) q.connection u.piece way.wait m m2 more u.kept);
    }

    by : (B : Records) (L : Log) (q : Seat) → (way.may q.connection ≡ true → way2.may q.connection ≡ true)
        → Turned way B L g c q → Turned way2 B L g c q
    by B L q more (inl t) = inl (subst (λ n. had_its_turn n way2.poll_now q.link c ≡ true) (sym share) (turn_polled way.share way.poll_now way2.poll_now q.link c still t))
    by B L q more (inr (inl (inl u))) = inr (inl (inl (record { piece = u.piece; io = u.io; io_then = u.io_then; octets = u.octets; held = lines u.held; shown = u.shown; read = u.read })))
    by B L q more (inr (inl (inr u))) = inr (inl (inr (unread_in B L q (way.may q.connection) (way2.may q.connection) more u)))
    by B L q more (inr (inr (e, u))) = inr (inr (prepares e, u))

  pub served_among : (o o1 : Office V) (way : Way) (noted : List Newcomer) (seats : List Seat) (seat : Seat) (g : Log) (c : List Call)
      → Contains seats seat → HadTurns vault.holds vault.is_clean o o1 way noted (seat ∷ []) (seat ∷ []) g c → HadTurns vault.holds vault.is_clean o o1 way noted seats (seat ∷ []) g c
  served_among o o1 way noted seats seat g c has a = record {
    of_seats = of_more (seat ∷ []) seats g c (λ s h. subst (Contains seats) (only_one seat s h) has) a.of_seats;
    offered = λ B L s k. offered_more B L g (seat ∷ []) seats c (λ q h. subst (Contains seats) (only_one seat q h) has) (a.offered B L s k);
    turns = a.turns;
    noted_so = λ B L s k.
        All-weaker (IsNotedSo noted B L g c way.wait way.may (seat ∷ [])) (IsNotedSo noted B L g c way.wait way.may seats)
        (λ q h e. (let u = h e in record { seat = u.seat; among = subst (Contains seats) (only_one seat u.seat u.among) has; is = u.is; unread = u.unread })) (seat ∷ []) (a.noted_so B L s k);
  }

  -- by its place
  pub served_at : (o o1 : Office V) (way : Way) (noted : List Newcomer) (xs ys : List Seat) (i : ℕ) (e : Seat) (g : Log) (c : List Call) → ys ≡ xs
      → i < length xs → HadTurns vault.holds vault.is_clean o o1 way noted (get_or ys i e ∷ []) (get_or ys i e ∷ []) g c
      → (d : Seat) → HadTurns vault.holds vault.is_clean o o1 way noted xs (get_or xs i d ∷ []) g c
  served_at o o1 way noted xs ys i e g c is h a d =
      let same : get_or ys i e ≡ get_or xs i d = ap (λ zs. get_or zs i e) is ∙ any_default xs i e d h in
      subst (λ s. HadTurns vault.holds vault.is_clean o o1 way noted xs (s ∷ []) g c) same (served_among o o1 way noted xs (get_or ys i e) g c (contained xs ys i e is h) a)

  pub served_none : (o : Office V) (way : Way) (noted : List Newcomer) (seats : List Seat) → HadTurns vault.holds vault.is_clean o o way noted seats [] [] []
  served_none o way noted seats = record {
    of_seats = of_none seats;
    offered = λ B L s k. All-nil (IsOffered B L [] seats);
    turns = λ B L s k. All-nil (HadTurn way B L [] (trace_of B L) []);
    noted_so = λ B L s k. All-nil (IsNotedSo noted B L [] [] way.wait way.may seats);
  }

  pub served_more : (o o1 o2 : Office V) (way : Way) (noted noted2 : List Newcomer) (seats now : List Seat) (i : ℕ) (d : Seat) (g1 g2 : Log) (c1 c2 : List Call) → now ≡ seats → i < length now
      → ((c : ℕ) → lies_unread (newcomer c noted2) ≡ true → (lies_unread (newcomer c noted) ≡ true) ⊎ (c ≡ (get_or now i d).connection))
      → WasGiven vault o o1 g1 → WasGiven vault o1 o2 g2
      → HadTurns vault.holds vault.is_clean o o1 way noted seats (take i seats) g1 c1 → HadTurns vault.holds vault.is_clean o1 o2 way noted2 now (get_or now i d ∷ []) g2 c2
      → HadTurns vault.holds vault.is_clean o o2 way noted2 seats (take (i + 1) seats) (g2 ++ g1) (c1 ++ c2)
  served_more o o1 o2 way noted noted2 seats now i d g1 g2 c1 c2 is within law wa wb a at_now =
      let h : i < length seats = subst (λ xs. i < length xs) is within in
      let b = subst (λ xs. HadTurns vault.holds vault.is_clean o1 o2 way noted2 xs (get_or xs i d ∷ []) g2 c2) is at_now in
      let q = get_or seats i d in
      let apart : (c : ℕ) → lies_unread (newcomer c noted2) ≡ true → (lies_unread (newcomer c noted) ≡ true) ⊎ (c ≡ q.connection) =
      subst (λ xs. (c : ℕ) → lies_unread (newcomer c noted2) ≡ true → (lies_unread (newcomer c noted) ≡ true) ⊎ (c ≡ (get_or xs i d).connection)) is law in
      record {
        of_seats = of_then seats g1 g2 c1 c2 a.of_seats b.of_seats;
        offered = λ B L s k. offered_then B L g1 g2 seats c1 c2 (a.offered B L s (wb.clean k)) (b.offered B (g1 ++ L) (wa.stands B L s (wb.clean k)) k);
        turns = λ B L s k.
            (let s1 = wa.stands B L s (wb.clean k) in
            let fewer = fewer_quiet B (g1 ++ L) g2 seats c2 (wb.admitted B (g1 ++ L) s1 k) b.of_seats.caused b.of_seats.quiet.no_openings in
            let trace2 = trace_of B ((g2 ++ g1) ++ L) in
            let last : HadTurn way B (g1 ++ L) g2 (trace_of B (g2 ++ (g1 ++ L))) c2 q = All-head (HadTurn way B (g1 ++ L) g2 (trace_of B (g2 ++ (g1 ++ L))) c2) q [] (b.turns B (g1 ++ L) s1 k) in
            All-more (HadTurn way B L (g2 ++ g1) trace2 (c1 ++ c2)) seats i d h
            (turns_later way B L g1 g2 c1 c2 (take i seats) fewer (a.turns B L s (wb.clean k)))
            (λ here. turned_right way B L g1 g2 c1 c2 q (last (subst (λ l. is_open (trace_of B l) q.connection ≡ true) (append_assoc g2 g1 L) here))));
        noted_so = λ B L s k.
            (let s1 = wa.stands B L s (wb.clean k) in
            let P = IsNotedSo noted2 B L (g2 ++ g1) (c1 ++ c2) way.wait way.may seats in
            let last : IsNotedSo noted2 B (g1 ++ L) g2 c2 way.wait way.may seats q = All-head (IsNotedSo noted2 B (g1 ++ L) g2 c2 way.wait way.may seats) q [] (b.noted_so B (g1 ++ L) s1 k) in
            let by_last : P q = λ e. lies_right B L way.wait (way.may q.connection) seats q.connection g1 g2 c1 c2 (last e) in
            All-more P seats i d h
            (All-weaker (IsNotedSo noted B L g1 c1 way.wait way.may seats) P
            (λ r t e.
            ⊎_elim
            (λ (f : lies_unread (newcomer r.connection noted) ≡ true). lies_left B L way.wait (way.may r.connection) seats r.connection g1 g2 c1 c2 (t f))
            (λ (f : r.connection ≡ q.connection).
            subst (λ n. LiesUnread B L (g2 ++ g1) (c1 ++ c2) way.wait (way.may n) seats n) (sym f) (by_last (subst (λ n. lies_unread (newcomer n noted2) ≡ true) f e)))
            (apart r.connection e)) (take i seats) (a.noted_so B L s (wb.clean k)))
            by_last);
      }

  pub served_whole : (o o1 : Office V) (way : Way) (noted : List Newcomer) (seats now : List Seat) (n : ℕ) (g : Log) (c : List Call) → now ≡ seats
      → length now ≤ n → HadTurns vault.holds vault.is_clean o o1 way noted seats (take n seats) g c → HadTurns vault.holds vault.is_clean o o1 way noted seats seats g c
  served_whole o o1 way noted seats now n g c is h a =
      let k : length seats ≤ n = subst (λ xs. length xs ≤ n) is h in
      subst (λ xs. HadTurns vault.holds vault.is_clean o o1 way noted seats xs g c) (whole_front seats n k) a

-- ---- what was looked at first

module _ {V W H : Type 0} (vault : Ghosts V) (Asked : W → List Call → Type 0) (Heard : H → List Hearing → Type 0) where
  pub read_asked : (o : Office V) (w w1 : W) (l : H) (seat : Seat) (wait : ℕ) (by_line may is_noted : Bool) (N : List Call → Type 0) (calls : List Call)
      → WasAsked Asked w w1 calls → IsReadPiece vault.holds o seat wait by_line may is_noted [] calls → N calls
      → Part vault Asked o w o w1 (WithHeard vault.holds vault.is_clean Heard o l o l (Also (IsReadPiece vault.holds o seat wait by_line may is_noted) N))
  read_asked o w w1 l seat wait by_line may is_noted N calls asked a n =
      record { given = []; calls = calls; was_given = given_none vault o; was_asked = asked; facts = (unheard vault Heard o l, (a, n)) }

  pub read_after : (o o1 : Office V) (w w1 w2 : W) (l l1 : H) (seat : Seat) (wait : ℕ) (by_line may is_noted : Bool) (pace : Pace)
      (refusals : List Refusal) (room : ℕ) (login : Option LoginName) (M N : List Call → Type 0) (looks : List Call) → ((c : List Call) → M c → N (looks ++ c))
      → IsQuietFor (seat ∷ []) [] looks → HasLooked vault.holds o seat pace refusals room login looks → (room == 0) ≡ false
      → (pace.by_line ≡ true → by_line ≡ true) → (is_noted ≡ true → ⊥) → WasAsked Asked w w1 looks
      → Part vault Asked o w1 o1 w2 (WithHeard vault.holds vault.is_clean Heard o l o1 l1 (Also (IsReadOnce vault.holds o seat room) M))
      → Part vault Asked o w o1 w2 (WithHeard vault.holds vault.is_clean Heard o l o1 l1 (Also (IsReadPiece vault.holds o seat wait by_line may is_noted) N))
  read_after o o1 w w1 w2 l l1 seat wait by_line may is_noted pace refusals room login M N looks more quiet looked some line calm asked a = record {
    given = a.given;
    calls = looks ++ a.calls;
    was_given = a.was_given;
    was_asked = asked_then Asked w w1 w2 looks a.calls asked a.was_asked;
    facts = (
      a.facts.0,
      (
        read_behind vault wait by_line may is_noted o seat pace refusals room login a.given looks a.calls quiet looked some line calm a.facts.1.0,
        more a.calls a.facts.1.1,
      ),
    );
  }

  -- a read that had room for so many octets of a buffer
  pub read_part : (o o1 : Office V) (w w1 : W) (l l1 : H) (seat : Seat) (n : ℕ) (xs : List ℕ) (M : List Call → Type 0)
      → Part vault Asked o w o1 w1 (WithHeard vault.holds vault.is_clean Heard o l o1 l1 (Also (IsReadOnce vault.holds o seat (length (take n xs))) M)) → n ≤ length xs
      → Part vault Asked o w o1 w1 (WithHeard vault.holds vault.is_clean Heard o l o1 l1 (Also (IsReadOnce vault.holds o seat n) M))
  read_part o o1 w w1 l l1 seat n xs M a h =
      let e : length (take n xs) ≡ n = (let k = length-take n xs in omega (arith, k, h)) in
      subst (λ m. Part vault Asked o w o1 w1 (WithHeard vault.holds vault.is_clean Heard o l o1 l1 (Also (IsReadOnce vault.holds o seat m) M))) e a
