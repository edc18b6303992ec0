-- What is done for one seat, and that seats are served in their order.
use Rattle.std.proofs.Common.{◌≡◌, ℕ, ◌+◌, ◌<◌, ◌≤◌, Bool, ◌||◌, List, [], ◌∷◌, ◌++◌, length, take, suc, get_or, refl, sym, subst, arith, Option}
use Rattle.std.specs.List.{All}
use Rattle.std.proofs.lemmas.List.Elements.{All-nil, All-cons, All-append}
use Rattle.vault.specs.Changes.{Contents}
use Rattle.vault.specs.Records.{Records}
use Rattle.creds.specs.declared.login_name.LoginName.{LoginName}
use Rattle.office.specs.Events.{EventTag, Log}
use Rattle.office.specs.Events as event
use Rattle.office.specs.Trace.{history}
use Rattle.office.specs.Sessions.{live}
use Rattle.office.specs.Taken.{trace_of}
use Rattle.office.specs.declared.office.Office.{Office}
use Rattle.serving.specs.Calls.{Call, Looked, Read, Wrote}
use Rattle.serving.specs.ClientParts.{HasLooked, Unlooked, NothingCame, PieceCame}
use Rattle.serving.specs.InOrder.{IsEventOf, IsCallOn, is_read, is_write, ServesSeat, ServesInOrder, OneMoreSeat}
use Rattle.serving.specs.Paces.{releases_lock}
use Rattle.serving.specs.declared.guesses.Refusal.{Refusal}
use Rattle.serving.specs.declared.links.Seat.{Seat}
use Rattle.serving.specs.declared.pace.Pace.{Pace}
use Rattle.serving.specs.declared.wire.Io.{Io}
use Rattle.serving.specs.declared.wire.Io.TheVariants.{Count}
use Rattle.serving.specs.declared.wire.Port.TheVariants.{Pop}
use Rattle.serving.proofs.Arriving.{take_next}
use Rattle.serving.proofs.Working.{count_joined}

-- ---- one event, or one call

pub took_one : (c n : ℕ) (m : EventTag) → All (IsEventOf c) ((event.Took c n, m) ∷ [])
took_one c n m = All-cons (IsEventOf c) (event.Took c n, m) [] refl (All-nil (IsEventOf c))

pub gone_one : (c : ℕ) (m : EventTag) → All (IsEventOf c) ((event.Gone c, m) ∷ [])
gone_one c m = All-cons (IsEventOf c) (event.Gone c, m) [] refl (All-nil (IsEventOf c))

pub bytes_one : (c : ℕ) (piece : List ℕ) (m : EventTag) → All (IsEventOf c) ((event.Bytes c piece, m) ∷ [])
bytes_one c piece m = All-cons (IsEventOf c) (event.Bytes c piece, m) [] refl (All-nil (IsEventOf c))

pub serves_none : (s : Seat) → ServesSeat s 0 0 [] []
serves_none s = record { events = All-nil (IsEventOf s.connection); asked = All-nil (IsCallOn s.link); read = omega arith; written = omega arith }

pub one_write : (s : Seat) (given : Log) (offered : ℕ) (io : Io) (octets : List ℕ) → All (IsEventOf s.connection) given → ServesSeat s 0 1 given (Wrote Pop s.link offered io octets ∷ [])
one_write s given offered io octets of = record {
  events = of;
  asked = All-cons (IsCallOn s.link) (Wrote Pop s.link offered io octets) [] refl (All-nil (IsCallOn s.link));
  read = omega arith;
  written = omega arith;
}

pub one_read : (s : Seat) (given : Log) (room : ℕ) (io : Io) (octets : List ℕ) → All (IsEventOf s.connection) given → ServesSeat s 1 0 given (Read Pop s.link room io octets ∷ [])
one_read s given room io octets of = record {
  events = of;
  asked = All-cons (IsCallOn s.link) (Read Pop s.link room io octets) [] refl (All-nil (IsCallOn s.link));
  read = omega arith;
  written = omega arith;
}

pub one_look : (s : Seat) (io : Io) (octets : List ℕ) → ServesSeat s 0 0 [] (Looked Pop s.link io octets ∷ [])
one_look s io octets = record {
  events = All-nil (IsEventOf s.connection);
  asked = All-cons (IsCallOn s.link) (Looked Pop s.link io octets) [] refl (All-nil (IsCallOn s.link));
  read = omega arith;
  written = omega arith;
}

-- ---- one part after the other

pub serves_then : (s : Seat) (r1 w1 r2 w2 : ℕ) (g1 g2 : Log) (c1 c2 : List Call) → ServesSeat s r1 w1 g1 c1 → ServesSeat s r2 w2 g2 c2
    → ServesSeat s (r1 + r2) (w1 + w2) (g2 ++ g1) (c1 ++ c2)
serves_then s r1 w1 r2 w2 g1 g2 c1 c2 a b = record {
  events = All-append (IsEventOf s.connection) g2 g1 b.events a.events;
  asked = All-append (IsCallOn s.link) c1 c2 a.asked b.asked;
  read = (let k = count_joined is_read c1 c2 in let p = a.read in let q = b.read in omega (arith, k, p, q));
  written = (let k = count_joined is_write c1 c2 in let p = a.written in let q = b.written in omega (arith, k, p, q));
}

pub serves_less : (s : Seat) (r1 w1 r2 w2 : ℕ) (g : Log) (c : List Call) → r1 ≤ r2 → w1 ≤ w2 → ServesSeat s r1 w1 g c → ServesSeat s r2 w2 g c
serves_less s r1 w1 r2 w2 g c h k a = record {
  events = a.events;
  asked = a.asked;
  read = (let p = a.read in omega (arith, p, h));
  written = (let p = a.written in omega (arith, p, k));
}

-- what was looked at before a read
pub looked_served : {V : Type 0} (Holds : V → Contents → Type 0) (o : Office V) (s : Seat) (pace : Pace) (refusals : List Refusal) (n : ℕ) (login : Option LoginName) (calls : List Call)
    → HasLooked Holds o s pace refusals n login calls → ServesSeat s 0 0 [] calls
looked_served Holds o s pace refusals n _ calls (Unlooked e) = serves_none s
looked_served Holds o s pace refusals n _ calls (NothingCame io e) = one_look s io []
looked_served Holds o s pace refusals n _ calls (PieceCame k piece count login by_line some is brought part) = one_look s (Count k) piece

-- ---- seats in their order

pub in_order_more : (wait : ℕ) (B : Records) (L : Log) (seats : List Seat) (i : ℕ) (d : Seat) (g1 g2 : Log) (c1 c2 : List Call) (before lock_released : Bool) → i < length seats
    → lock_released
    ≡ (before || releases_lock wait (live (history (trace_of B (g1 ++ L))) (get_or seats i d).connection) (live (history (trace_of B (g2 ++ (g1 ++ L)))) (get_or seats i d).connection))
    → ServesSeat (get_or seats i d) 1 128 g2 c2 → ServesInOrder wait B L (take i seats) g1 c1 before
    → ServesInOrder wait B L (take (i + 1) seats) (g2 ++ g1) (c1 ++ c2) lock_released
in_order_more wait B L seats i d g1 g2 c1 c2 before lock_released within is own a =
    let next : suc i ≡ i + 1 = omega arith in
    subst (λ n. ServesInOrder wait B L (take n seats) (g2 ++ g1) (c1 ++ c2) lock_released) next
    (subst (λ v. ServesInOrder wait B L v (g2 ++ g1) (c1 ++ c2) lock_released) (sym (take_next seats i d within))
    (subst (ServesInOrder wait B L (take i seats ++ get_or seats i d ∷ []) (g2 ++ g1) (c1 ++ c2)) (sym is)
    (OneMoreSeat (take i seats) g1 c1 before (get_or seats i d) g2 c2 a own)))
