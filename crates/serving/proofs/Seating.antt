-- Seats: whose connections they have, and which of these are open.
use Rattle.std.proofs.Common.{◌≡◌, ℕ, zero, suc, ◌+◌, ◌<◌, ◌≤◌, Bool, true, false, not, ◌||◌, ◌==◌, List, [], ◌∷◌, ◌++◌, length, take, drop, get_or, refl, sym, ◌∙◌, ap, arith}
use Rattle.std.proofs.Common.{Some, eq-eqb, ne_eqb, ⊎_elim, subst, true≢false}
use Rattle.std.specs.List.{All, Contains, remove}
use Rattle.std.proofs.lemmas.Bool.{cases_eq}
use Rattle.std.proofs.lemmas.List.Elements.{All-nil, All-push, All-append, All-take, All-drop, All-weaker, All-contains, All-more}
use Rattle.std.proofs.lemmas.List.Quantifiers.{all_pairs_push, all_pairs_remove}
use Rattle.vault.specs.Records.{Records}
use Rattle.office.specs.Events.{Log, Trace}
use Rattle.office.specs.Trace.{is_open}
use Rattle.office.specs.Taken.{trace_of}
use Rattle.serving.specs.declared.links.Seat.{Seat}
use Rattle.serving.specs.Served.{Owners, HasOwn, HasOpen, Precedes, is_seated, AreSeated}
use Rattle.serving.proofs.Staying.{Fewer, Frame}

-- ---- places

pub any_default : (xs : List Seat) (i : ℕ) (c d : Seat) → i < length xs → get_or xs i c ≡ get_or xs i d
any_default [] i c d h = absurd (omega (arith, h))
any_default (x ∷ xs) zero c d h = refl
any_default (x ∷ xs) (suc i) c d h = any_default xs i c d (omega (arith, h))

-- what is read at a place is there
pub contained : (xs ys : List Seat) (i : ℕ) (d : Seat) → ys ≡ xs → i < length xs → Contains xs (get_or ys i d)
contained xs ys i d e h = subst (λ zs. Contains xs (get_or zs i d)) (sym e) (i, h, any_default xs i (get_or xs i d) d h)

front_remains : (xs : List Seat) (i : ℕ) → take i (remove xs i) ≡ take i xs
front_remains [] zero = refl
front_remains [] (suc i) = refl
front_remains (x ∷ xs) zero = refl
front_remains (x ∷ xs) (suc i) = ap (λ ys. x ∷ ys) (front_remains xs i)

pub whole_front : (xs : List Seat) (n : ℕ) → length xs ≤ n → take n xs ≡ xs
whole_front [] zero h = refl
whole_front [] (suc n) h = refl
whole_front (x ∷ xs) zero h = absurd (omega (arith, h))
whole_front (x ∷ xs) (suc n) h = ap (λ ys. x ∷ ys) (whole_front xs n (omega (arith, h)))

-- ---- which connections have a seat

or_more : (b x y : Bool) → (x ≡ true → y ≡ true) → (b || x) ≡ true → (b || y) ≡ true
or_more true x y h e = refl
or_more false x y h e = h e

or_right : (b x : Bool) → x ≡ true → (b || x) ≡ true
or_right true x e = refl
or_right false x e = e

or_left : (b x : Bool) → b ≡ true → (b || x) ≡ true
or_left true x e = refl
or_left false x e = cc

or_other : (b x : Bool) → b ≡ false → (b || x) ≡ true → x ≡ true
or_other true x n e = cc
or_other false x n e = e

seated_push : (seats : List Seat) (seat : Seat) (c : ℕ) → is_seated seats c ≡ true → is_seated (seats ++ seat ∷ []) c ≡ true
seated_push [] seat c e = cc
seated_push (s ∷ seats) seat c e = or_more (s.connection == c) (is_seated seats c) (is_seated (seats ++ seat ∷ []) c) (seated_push seats seat c) e

seated_last : (seats : List Seat) (seat : Seat) (c : ℕ) → seat.connection ≡ c → is_seated (seats ++ seat ∷ []) c ≡ true
seated_last [] seat c e = or_left (seat.connection == c) false (eq-eqb seat.connection c e)
seated_last (s ∷ seats) seat c e = or_right (s.connection == c) (is_seated (seats ++ seat ∷ []) c) (seated_last seats seat c e)

seated_still_without : (seats : List Seat) (i : ℕ) (d : Seat) (c : ℕ) → i < length seats → ((get_or seats i d).connection ≡ c → ⊥) → is_seated seats c ≡ true → is_seated (remove seats i) c ≡ true
seated_still_without [] i d c h ne e = absurd (omega (arith, h))
seated_still_without (s ∷ seats) zero d c h ne e = or_other (s.connection == c) (is_seated seats c) (ne_eqb s.connection c ne) e
seated_still_without (s ∷ seats) (suc i) d c h ne e =
    or_more (s.connection == c) (is_seated seats c) (is_seated (remove seats i) c) (seated_still_without seats i d c (omega (arith, h)) ne) e

-- ---- seats

-- a seat's link has its connection
pub seat_owns : (owner : Owners) (seats : List Seat) (seat : Seat) → Contains seats seat → All (HasOwn owner) seats → HasOwn owner seat
seat_owns owner seats seat h a = All-contains (HasOwn owner) seats seat a h

module _ (owner : Owners) (B : Records) (L : Log) (seats these : List Seat) where
  -- something happened on one seat's connection
  pub seated_one : (after : Log) (seat : Seat) → All (λ s. Precedes s seat) these → Fewer B L after → Frame B L after seat.connection
      → AreSeated owner (trace_of B L) seats these → AreSeated owner (trace_of B after) seats these
  seated_one after seat before fewer frame a = record {
    own = a.own;
    ascend = a.ascend;
    all = λ c e. a.all c (fewer c e);
    here = λ k d w.
        (let s = get_or these k d in
        let h : s.connection < seat.connection = before k d w in
        frame s.connection (λ (e : seat.connection ≡ s.connection). (let n : ⊥ = omega (arith, h, e) in n)) ∙ a.here k d w);
  }

  -- time passed
  pub seated_fewer : (after : Log) → Fewer B L after → AreSeated owner (trace_of B L) seats these → AreSeated owner (trace_of B after) seats []
  seated_fewer after fewer a = record { own = a.own; ascend = a.ascend; all = λ c e. a.all c (fewer c e); here = All-nil (HasOpen (trace_of B after)) }

  -- the same connections are open
  pub seated_same : (after : Log) → ((d : ℕ) → is_open (trace_of B after) d ≡ is_open (trace_of B L) d) → AreSeated owner (trace_of B L) seats these → AreSeated owner (trace_of B after) seats these
  seated_same after same a = record {
    own = a.own;
    ascend = a.ascend;
    all = λ c e. a.all c (sym (same c) ∙ e);
    here = λ k d w. same (get_or these k d).connection ∙ a.here k d w;
  }

module _ (owner : Owners) (T : Trace) (seats : List Seat) where
  -- one more is known to be open
  pub seated_on : (ys : List Seat) (i : ℕ) (d : Seat) → ys ≡ seats → i < length seats → is_open T (get_or ys i d).connection ≡ true
      → AreSeated owner T seats (take i seats) → AreSeated owner T seats (take (i + 1) seats)
  seated_on ys i d e h here a = record {
    own = a.own;
    ascend = a.ascend;
    all = a.all;
    here = All-more (HasOpen T) seats i d h a.here (subst (λ zs. HasOpen T (get_or zs i d)) e here);
  }

  -- a seat is left, whose connection isn't open
  pub seated_without : (ys : List Seat) (i : ℕ) (d : Seat) (left : List Seat) → ys ≡ seats → left ≡ remove seats i → i < length seats → is_open T (get_or ys i d).connection ≡ false
      → AreSeated owner T seats (take i seats) → AreSeated owner T left (take i left)
  seated_without ys i d left e r h shut a =
      let at : is_open T (get_or seats i d).connection ≡ false = subst (λ zs. is_open T (get_or zs i d).connection ≡ false) e shut in
      subst (λ xs. AreSeated owner T xs (take i xs)) (sym r) (record {
        own = All-append (HasOwn owner) (take i seats) (drop (suc i) seats) (All-take (HasOwn owner) i seats a.own) (All-drop (HasOwn owner) (suc i) seats a.own);
        ascend = all_pairs_remove Precedes seats i h a.ascend;
        all = λ c o. seated_still_without seats i d c h (λ (q : (get_or seats i d).connection ≡ c). true≢false (sym o ∙ (ap (is_open T) (sym q) ∙ at))) (a.all c o);
        here = subst (All (HasOpen T)) (sym (front_remains seats i)) a.here;
      })

  -- all were served
  pub seated_whole : (n : ℕ) → length seats ≤ n → AreSeated owner T seats (take n seats) → AreSeated owner T seats seats
  seated_whole n h a = subst (AreSeated owner T seats) (whole_front seats n h) a

-- a seat is taken by a link that has a connection of its own, which was opened now
pub seated_more : (owner after : Owners) (B : Records) (L then_log : Log) (seats left : List Seat) (seat : Seat) → left ≡ seats ++ seat ∷ []
    → ((k c : ℕ) → owner k ≡ Some c → after k ≡ Some c) → ((k c : ℕ) → owner k ≡ Some c → c < seat.connection) → HasOwn after seat → Frame B L then_log seat.connection
    → AreSeated owner (trace_of B L) seats [] → AreSeated after (trace_of B then_log) left []
seated_more owner after B L then_log seats left seat is more least has frame a =
    subst (λ xs. AreSeated after (trace_of B then_log) xs []) (sym is) (record {
      own = All-push (HasOwn after) seats seat (All-weaker (HasOwn owner) (HasOwn after) (λ s e. more s.link.number s.connection e) seats a.own) has;
      ascend = all_pairs_push Precedes seats seat a.ascend (λ k d w. least (get_or seats k d).link.number (get_or seats k d).connection (a.own k d w));
      all = λ c e.
          ⊎_elim
          (λ (q : seat.connection ≡ c). seated_last seats seat c q)
          (λ (ne : seat.connection ≡ c → ⊥). seated_push seats seat c (a.all c (sym (frame c ne) ∙ e)))
          (cases_eq seat.connection c);
      here = All-nil (HasOpen (trace_of B then_log));
    })

-- no seat, and no open connection
pub none_seated : (owner : Owners) (T : Trace) → ((c : ℕ) → is_open T c ≡ false) → AreSeated owner T [] []
none_seated owner T none = record {
  own = All-nil (HasOwn owner);
  ascend = λ i j d lt w. absurd (omega (arith, w));
  all = λ c e. absurd (true≢false (sym e ∙ none c));
  here = All-nil (HasOpen T);
}

-- a connection that hasn't ended is open
pub open_so : (b ended : Bool) → ended ≡ not b → ended ≡ false → b ≡ true
open_so true ended e n = refl
open_so false ended e n = cc

pub shut_so : (b ended : Bool) → ended ≡ not b → ended ≡ true → b ≡ false
shut_so true ended e n = cc
shut_so false ended e n = refl
