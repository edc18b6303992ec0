-- What happens to one link leaves each link served.
use Rattle.std.proofs.Common.{◌≡◌, ℕ, ◌+◌, Bool, true, false, not, ◌&&◌, ◌||◌, ◌==◌, nat_lt, lt-ltb, List, [], ◌∷◌, ◌++◌, take, refl, sym, ◌∙◌, ap, None, Some, Option, eq-eqb}
use Rattle.std.proofs.Common.{ne_eqb, ⊎_elim, subst, append-nil, true≢false, inl, inr, length}
use Rattle.std.specs.Bool.{if◌then◌else◌}
use Rattle.std.proofs.lemmas.Bool.{cases_eq}
use Rattle.vault.specs.Records.{Records}
use Rattle.office.specs.History.{Tag}
use Rattle.office.specs.Events.{Event, EventTag, Tagged, Log}
use Rattle.office.specs.Events as event
use Rattle.office.specs.Trace.{rest, history, is_open}
use Rattle.office.specs.Taken.{trace_of, all_taken_by}
use Rattle.serving.specs.declared.wire.Io.{Io}
use Rattle.serving.specs.declared.wire.Io.TheVariants.{Count, Later, End, Broken}
use Rattle.serving.specs.Wires.{Told, more_at, over_at, is_fault, is_live, counted, has_read, has_written, has_closed}
use Rattle.office.specs.Expected.{shown_at}
use Rattle.serving.specs.Spools.{FileAct, disposal_of, IsFiled}
use Rattle.serving.specs.Deposits.{named, IsFiledBy, AreFiled}
use Rattle.serving.specs.Served.{given_by, Owners, IsServed, AreServed, IsOwnEvent, Adds, connects, IsCommand, Elsewhere, AddsEvents}
use Rattle.office.specs.Answers.{AdminCommand}
use Rattle.serving.proofs.Requesting.{exchanged_more}
use Rattle.serving.proofs.Staying.{Fewer, fewer_framed, frame_read, frame_took, frame_gone, gone_so, fewer_tick, deposit_same, fewer_command}

-- ---- octets more at one number

pub more_same : (k : ℕ) (more : List ℕ) (f : ℕ → List ℕ) → more_at k more f k ≡ f k ++ more
more_same k more f = let q = eq-eqb k k refl in rw q refl

pub more_other : (k j : ℕ) (more : List ℕ) (f : ℕ → List ℕ) → (j ≡ k → ⊥) → more_at k more f j ≡ f j
more_other k j more f h = let q = ne_eqb j k h in rw q refl

none_if : (b : Bool) (xs : List ℕ) → (if b then xs ++ [] else xs) ≡ xs
none_if true xs = append-nil xs
none_if false xs = refl

pub more_none : (k j : ℕ) (f : ℕ → List ℕ) → more_at k [] f j ≡ f j
more_none k j f = none_if (j == k) (f j)

-- ---- one link

-- what is said of a link stays, if the event isn't its connection's
pub stays : (B : Records) (L : Log) (e : Event) (m : EventTag) (o : Option ℕ) (r w : List ℕ) → IsServed B L o r w
    → ((d : ℕ) → o ≡ Some d → (given_by ((e, m) ∷ L) d ≡ given_by L d) × (all_taken_by B ((e, m) ∷ L) d ≡ all_taken_by B L d)) → IsServed B ((e, m) ∷ L) o r w
stays B L e m None r w s h = s
stays B L e m (Some d) r w s h = let k = h d refl in (s.0 ∙ sym k.0, s.1 ∙ sym k.1)

-- and if other lists are the same
same_lists_served : (B : Records) (L : Log) (o : Option ℕ) (r w r2 w2 : List ℕ) → r2 ≡ r → w2 ≡ w → IsServed B L o r w → IsServed B L o r2 w2
same_lists_served B L o r w r2 w2 a b s = rw (a, b) s

bytes_other : (L : Log) (c d : ℕ) (piece : List ℕ) (t : Tag) → (c ≡ d → ⊥) → given_by ((event.Bytes c piece, Tagged t) ∷ L) d ≡ given_by L d
bytes_other L c d piece t h = let q = ne_eqb c d h in rw q refl

bytes_same : (L : Log) (c : ℕ) (piece : List ℕ) (t : Tag) → given_by ((event.Bytes c piece, Tagged t) ∷ L) c ≡ given_by L c ++ piece
bytes_same L c piece t = let q = eq-eqb c c refl in rw q refl

took_other : (B : Records) (L : Log) (c d n : ℕ) (t : Tag) → (c ≡ d → ⊥) → all_taken_by B ((event.Took c n, Tagged t) ∷ L) d ≡ all_taken_by B L d
took_other B L c d n t h = let q = ne_eqb c d h in rw q refl

took_same : (B : Records) (L : Log) (c n : ℕ) (t : Tag) → all_taken_by B ((event.Took c n, Tagged t) ∷ L) c ≡ all_taken_by B L c ++ take n (rest (trace_of B L) c)
took_same B L c n t = let q = eq-eqb c c refl in rw q refl

-- two links' connections differ
apart : (owner : Owners) (j k c d : ℕ) → ((j k c : ℕ) → owner j ≡ Some c → owner k ≡ Some c → j ≡ k) → owner k ≡ Some c → (j ≡ k → ⊥) → owner j ≡ Some d → c ≡ d → ⊥
apart owner j k c d own at_k ne at_j e = ne (own j k c (at_j ∙ ap Some (sym e)) at_k)

-- ---- links that are over

number_or : Option ℕ → ℕ
number_or None = 0
number_or (Some n) = n

pub of_some : (a b : ℕ) → Some a ≡ Some b → a ≡ b
unfolding number_or
of_some a b e = ap number_or e

not_true : (b : Bool) → (b ≡ true → ⊥) → b ≡ false
not_true true h = absurd (h refl)
not_true false h = refl

none_astray : (strayed within over : Bool) → strayed ≡ false → within ≡ true → over ≡ false → (strayed || not (within && not over)) ≡ false
none_astray strayed within over s w o = rw (s, w, o) refl

over_other : (k j : ℕ) (over : ℕ → Bool) → (j ≡ k → ⊥) → over_at k true over j ≡ over j
over_other k j over h = let q = ne_eqb j k h in rw q refl

-- a connection that isn't open stays so if none is opened
pub stays_shut : (B : Records) (L after : Log) → Fewer B L after → (d : ℕ) → is_open (trace_of B L) d ≡ false → is_open (trace_of B after) d ≡ false
stays_shut B L after f d shut = not_true (is_open (trace_of B after) d) (λ (e : is_open (trace_of B after) d ≡ true). true≢false (sym (f d e) ∙ shut))

module _ (told : Told) (owner : Owners) (B : Records) (L : Log) where
  -- what was over, is so still
  pub over_still : (after : Log) → Fewer B L after → AreServed told owner B L → (j d : ℕ) → told.over j ≡ true → owner j ≡ Some d → is_open (trace_of B after) d ≡ false
  over_still after f a j d o at_j = stays_shut B L after f d (a.over j d o at_j)

  -- and one link more
  over_more : (k c : ℕ) (after : Log) → ((j d : ℕ) → told.over j ≡ true → owner j ≡ Some d → is_open (trace_of B after) d ≡ false)
      → ((d : ℕ) → owner k ≡ Some d → is_open (trace_of B after) d ≡ false)
      → (j d : ℕ) → over_at k true told.over j ≡ true → owner j ≡ Some d → is_open (trace_of B after) d ≡ false
  over_more k c after still shut j d o at_j =
      ⊎_elim
      (λ (e : j ≡ k). shut d (ap owner (sym e) ∙ at_j))
      (λ (ne : j ≡ k → ⊥). still j d (sym (over_other k j told.over ne) ∙ o) at_j)
      (cases_eq j k)

  -- a link was closed whose connection, if it has one, isn't open
  pub served_closed : (k : ℕ) → ((d : ℕ) → owner k ≡ Some d → is_open (trace_of B L) d ≡ false) → AreServed told owner B L → AreServed (has_closed told k) owner B L
  served_closed k shut a = record {
    each = a.each;
    own = a.own;
    accepted = a.accepted;
    opened = a.opened;
    over = over_more k 0 L a.over shut;
    straight = a.straight;
  }

-- of a link whose connection isn't open
pub closed_own : (owner : Owners) (B : Records) (L : Log) (k c : ℕ) → owner k ≡ Some c → is_open (trace_of B L) c ≡ false → (d : ℕ) → owner k ≡ Some d → is_open (trace_of B L) d ≡ false
closed_own owner B L k c at_k shut d at_d = subst (λ n. is_open (trace_of B L) n ≡ false) (of_some c d (sym at_k ∙ at_d)) shut

-- what tells the end of a link counts no octet
pub fault_none : (io : Io) (octets : List ℕ) → is_fault io ≡ true → counted io octets ≡ []
fault_none (Count n) octets e = cc
fault_none Later octets e = refl
fault_none End octets e = refl
fault_none Broken octets e = refl

-- ---- all links

module _ (told : Told) (owner : Owners) (B : Records) (L : Log) (k c : ℕ) where
  -- a link whose connection is open isn't over
  not_over : AreServed told owner B L → owner k ≡ Some c → is_open (trace_of B L) c ≡ true → told.over k ≡ false
  not_over a at_k here = not_true (told.over k) (λ (o : told.over k ≡ true). true≢false (sym here ∙ a.over k c o at_k))

  -- so a call on it isn't astray
  straight_still : AreServed told owner B L → owner k ≡ Some c → is_open (trace_of B L) c ≡ true → (told.strayed || not (is_live told k)) ≡ false
  straight_still a at_k here =
      none_astray told.strayed (nat_lt k told.accepted) (told.over k) a.straight (lt-ltb k told.accepted (a.accepted k c at_k)) (not_over a at_k here)

  -- a piece was read from a link, and its connection was given it
  pub served_read : (n : ℕ) (piece : List ℕ) (t : Tag) → AreServed told owner B L → owner k ≡ Some c → is_open (trace_of B L) c ≡ true
      → AreServed (has_read told k (Count n) piece) owner B ((event.Bytes c piece, Tagged t) ∷ L)
  served_read n piece t a at_k here = record {
    each = λ j.
        ⊎_elim
        (λ (e : j ≡ k).
        (let at_j : owner j ≡ Some c = ap owner e ∙ at_k in
        let s : IsServed B L (Some c) (told.read j) (told.written j) = subst (λ o. IsServed B L o (told.read j) (told.written j)) at_j (a.each j) in
        subst (λ o. IsServed B ((event.Bytes c piece, Tagged t) ∷ L) o (more_at k piece told.read j) (told.written j)) {y = owner j} (sym at_j) (
          subst (λ i. more_at i piece told.read j ≡ given_by ((event.Bytes c piece, Tagged t) ∷ L) c) e (more_same j piece told.read ∙ (ap (λ xs. xs ++ piece) s.0 ∙ sym (bytes_same L c piece t))),
          s.1,
        )))
        (λ (ne : j ≡ k → ⊥).
        same_lists_served B ((event.Bytes c piece, Tagged t) ∷ L) (owner j) (told.read j) (told.written j) (more_at k piece told.read j) (told.written j) (more_other k j piece told.read ne) refl
        (stays B L (event.Bytes c piece) (Tagged t) (owner j) (told.read j) (told.written j) (a.each j) (λ d at_j. (bytes_other L c d piece t (apart owner j k c d a.own at_k ne at_j), refl))))
        (cases_eq j k);
    own = a.own;
    accepted = a.accepted;
    opened = a.opened;
    over = over_still told owner B L ((event.Bytes c piece, Tagged t) ∷ L) (fewer_framed B L c ((event.Bytes c piece, Tagged t) ∷ L) here (frame_read B L c piece t)) a;
    straight = straight_still a at_k here;
  }

  -- octets of what is owed were written on a link, and its connection took them
  pub served_written : (n : ℕ) (octets : List ℕ) (t : Tag) → octets ≡ take n (rest (trace_of B L) c) → AreServed told owner B L → owner k ≡ Some c → is_open (trace_of B L) c ≡ true
      → AreServed (has_written told k (Count n) octets) owner B ((event.Took c n, Tagged t) ∷ L)
  served_written n octets t is a at_k here = record {
    each = λ j.
        ⊎_elim
        (λ (e : j ≡ k).
        (let at_j : owner j ≡ Some c = ap owner e ∙ at_k in
        let s : IsServed B L (Some c) (told.read j) (told.written j) = subst (λ o. IsServed B L o (told.read j) (told.written j)) at_j (a.each j) in
        subst (λ o. IsServed B ((event.Took c n, Tagged t) ∷ L) o (told.read j) (more_at k octets told.written j)) {y = owner j} (sym at_j) (
          s.0,
          subst (λ i. more_at i octets told.written j ≡ all_taken_by B ((event.Took c n, Tagged t) ∷ L) c) e
              (more_same j octets told.written ∙ (ap (λ xs. xs ++ octets) s.1 ∙ (ap (λ xs. all_taken_by B L c ++ xs) is ∙ sym (took_same B L c n t)))),
        )))
        (λ (ne : j ≡ k → ⊥).
        same_lists_served B ((event.Took c n, Tagged t) ∷ L) (owner j) (told.read j) (told.written j) (told.read j) (more_at k octets told.written j) refl (more_other k j octets told.written ne)
        (stays B L (event.Took c n) (Tagged t) (owner j) (told.read j) (told.written j) (a.each j) (λ d at_j. (refl, took_other B L c d n t (apart owner j k c d a.own at_k ne at_j)))))
        (cases_eq j k);
    own = a.own;
    accepted = a.accepted;
    opened = a.opened;
    over = over_still told owner B L ((event.Took c n, Tagged t) ∷ L) (fewer_framed B L c ((event.Took c n, Tagged t) ∷ L) here (frame_took B L c n t)) a;
    straight = straight_still a at_k here;
  }

  -- no octet was read, or none written
  pub served_read_none : AreServed told owner B L → owner k ≡ Some c → is_open (trace_of B L) c ≡ true → AreServed (has_read told k Later []) owner B L
  served_read_none a at_k here = record {
    each = λ j. same_lists_served B L (owner j) (told.read j) (told.written j) (more_at k [] told.read j) (told.written j) (more_none k j told.read) refl (a.each j);
    own = a.own;
    accepted = a.accepted;
    opened = a.opened;
    over = a.over;
    straight = straight_still a at_k here;
  }

  pub served_written_none : AreServed told owner B L → owner k ≡ Some c → is_open (trace_of B L) c ≡ true → AreServed (has_written told k Later []) owner B L
  served_written_none a at_k here = record {
    each = λ j. same_lists_served B L (owner j) (told.read j) (told.written j) (told.read j) (more_at k [] told.written j) refl (more_none k j told.written) (a.each j);
    own = a.own;
    accepted = a.accepted;
    opened = a.opened;
    over = a.over;
    straight = straight_still a at_k here;
  }

  -- a link told its end, or that it is broken, and its connection went
  over_gone : (io : Io) (t : Tag) → is_fault io ≡ true → AreServed told owner B L → owner k ≡ Some c → is_open (trace_of B L) c ≡ true
      → (j d : ℕ) → over_at k (is_fault io) told.over j ≡ true → owner j ≡ Some d → is_open (trace_of B ((event.Gone c, Tagged t) ∷ L)) d ≡ false
  over_gone io t fault a at_k here j d o at_j =
      let after = (event.Gone c, Tagged t) ∷ L in
      over_more told owner B L k c after (over_still told owner B L after (fewer_framed B L c after here (frame_gone B L c t)) a)
      (λ e at_e. subst (λ n. is_open (trace_of B after) n ≡ false) (of_some c e (sym at_k ∙ at_e)) (gone_so B L c t))
      j d (subst (λ b. over_at k b told.over j ≡ true) fault o) at_j

  pub served_read_fault : (io : Io) (t : Tag) → is_fault io ≡ true → AreServed told owner B L → owner k ≡ Some c → is_open (trace_of B L) c ≡ true
      → AreServed (has_read told k io []) owner B ((event.Gone c, Tagged t) ∷ L)
  served_read_fault io t fault a at_k here = record {
    each = λ j. same_lists_served B ((event.Gone c, Tagged t) ∷ L) (owner j) (told.read j) (told.written j) (more_at k [] told.read j) (told.written j) (more_none k j told.read) refl
        (stays B L (event.Gone c) (Tagged t) (owner j) (told.read j) (told.written j) (a.each j) (λ d e. (refl, refl)));
    own = a.own;
    accepted = a.accepted;
    opened = a.opened;
    over = over_gone io t fault a at_k here;
    straight = straight_still a at_k here;
  }

  pub served_written_fault : (io : Io) (t : Tag) → is_fault io ≡ true → AreServed told owner B L → owner k ≡ Some c → is_open (trace_of B L) c ≡ true
      → AreServed (has_written told k io []) owner B ((event.Gone c, Tagged t) ∷ L)
  served_written_fault io t fault a at_k here = record {
    each = λ j. same_lists_served B ((event.Gone c, Tagged t) ∷ L) (owner j) (told.read j) (told.written j) (told.read j) (more_at k [] told.written j) refl (more_none k j told.written)
        (stays B L (event.Gone c) (Tagged t) (owner j) (told.read j) (told.written j) (a.each j) (λ d e. (refl, refl)));
    own = a.own;
    accepted = a.accepted;
    opened = a.opened;
    over = over_gone io t fault a at_k here;
    straight = straight_still a at_k here;
  }

  -- a connection was ended, and its link is closed later
  pub served_gone : (t : Tag) → AreServed told owner B L → is_open (trace_of B L) c ≡ true → AreServed told owner B ((event.Gone c, Tagged t) ∷ L)
  served_gone t a here = record {
    each = λ j. stays B L (event.Gone c) (Tagged t) (owner j) (told.read j) (told.written j) (a.each j) (λ d e. (refl, refl));
    own = a.own;
    accepted = a.accepted;
    opened = a.opened;
    over = over_still told owner B L ((event.Gone c, Tagged t) ∷ L) (fewer_framed B L c ((event.Gone c, Tagged t) ∷ L) here (frame_gone B L c t)) a;
    straight = a.straight;
  }

module _ (told : Told) (owner : Owners) (B : Records) (L : Log) where
  -- time passed
  pub served_tick : (now : ℕ) (m : EventTag) → AreServed told owner B L → AreServed told owner B ((event.Tick now, m) ∷ L)
  served_tick now m a = record {
    each = λ j. stays B L (event.Tick now) m (owner j) (told.read j) (told.written j) (a.each j) (λ d e. (refl, refl));
    own = a.own;
    accepted = a.accepted;
    opened = a.opened;
    over = over_still told owner B L ((event.Tick now, m) ∷ L) (fewer_tick B L now m) a;
    straight = a.straight;
  }

  -- a deposit was made
  pub served_deposit : (d class id text : List ℕ) (t : Tag) → AreServed told owner B L → AreServed told owner B ((event.Deposit d class id text, Tagged t) ∷ L)
  served_deposit d class id text t a = record {
    each = λ j. stays B L (event.Deposit d class id text) (Tagged t) (owner j) (told.read j) (told.written j) (a.each j) (λ c e. (refl, refl));
    own = a.own;
    accepted = a.accepted;
    opened = a.opened;
    over = over_still told owner B L ((event.Deposit d class id text, Tagged t) ∷ L) (λ c e. sym (deposit_same B L d class id text t c) ∙ e) a;
    straight = a.straight;
  }

-- ---- events

-- one that is no opening and no deposit leaves files alone
events_one : (owner : Owners) (B : Records) (older L : Log) (acts : List FileAct) (calls : ℕ) (e : Event) (m : EventTag) → IsOwnEvent owner e
    → ((l : Log) (Before : List FileAct → Type 0) → Before acts → IsFiledBy B l e m Before acts) → ((l : Log) → connects ((e, m) ∷ l) ≡ connects l)
    → AddsEvents owner B older L acts calls → AddsEvents owner B older ((e, m) ∷ L) acts calls
events_one owner B older L acts calls e m i none same a = record {
  more = (e, m) ∷ a.more;
  is = ap (λ l. (e, m) ∷ l) a.is;
  each = (inl i, a.each);
  filed = none (a.more ++ older) (AreFiled B older a.more) a.filed;
  counted = same a.more ∙ a.counted;
}

-- an opening was asked for
events_connect : (owner : Owners) (B : Records) (older L : Log) (acts : List FileAct) (calls : ℕ) (m : EventTag)
    → AddsEvents owner B older L acts calls → AddsEvents owner B older ((event.Connect, m) ∷ L) acts (calls + 1)
events_connect owner B older L acts calls m a = record {
  more = (event.Connect, m) ∷ a.more;
  is = ap (λ l. (event.Connect, m) ∷ l) a.is;
  each = (inl tt, a.each);
  filed = a.filed;
  counted = ap (λ n. n + 1) a.counted;
}

-- a deposit is of a file that was tried
events_deposit : (owner : Owners) (B : Records) (older L : Log) (acts acts_then : List FileAct) (calls : ℕ) (d class id text : List ℕ) (t : Tag)
    → IsFiled (named d class id) text (disposal_of (shown_at B L (history (trace_of B L)) (event.Deposit d class id text) t)) acts acts_then
    → AddsEvents owner B older L acts calls → AddsEvents owner B older ((event.Deposit d class id text, Tagged t) ∷ L) acts_then calls
events_deposit owner B older L acts acts_then calls d class id text t f a = record {
  more = (event.Deposit d class id text, Tagged t) ∷ a.more;
  is = ap (λ l. (event.Deposit d class id text, Tagged t) ∷ l) a.is;
  each = (inl tt, a.each);
  filed = (acts, a.filed, subst (λ l. IsFiled (named d class id) text (disposal_of (shown_at B l (history (trace_of B l)) (event.Deposit d class id text) t)) acts acts_then) a.is f);
  counted = a.counted;
}

-- ---- beside requests

own_no_command : (owner : Owners) (e : Event) → IsOwnEvent owner e → IsCommand e → ⊥
own_no_command owner (event.Start host boot limits) i k = k
own_no_command owner event.Connect i k = k
own_no_command owner (event.Bytes c piece) i k = k
own_no_command owner (event.Took c octets) i k = k
own_no_command owner (event.Gone c) i k = k
own_no_command owner (event.Tick now) i k = k
own_no_command owner (event.Deposit d class id text) i k = k
own_no_command owner (event.Admin command) i k = i
own_no_command owner (event.Restart boot) i k = k

pub adds_one : (owner : Owners) (B : Records) (older L : Log) (elsewhere : Elsewhere) (calls : ℕ) (e : Event) (m : EventTag) → IsOwnEvent owner e
    → ((l : Log) (Before : List FileAct → Type 0) → Before elsewhere.acts → IsFiledBy B l e m Before elsewhere.acts) → ((l : Log) → connects ((e, m) ∷ l) ≡ connects l)
    → Adds owner B older L elsewhere calls → Adds owner B older ((e, m) ∷ L) elsewhere calls
adds_one owner B older L elsewhere calls e m i none same a = record {
  events = events_one owner B older L elsewhere.acts calls e m i none same a.events;
  requests = exchanged_more elsewhere.admin elsewhere.x B (length older) L e m (own_no_command owner e i) a.requests;
}

pub adds_connect : (owner : Owners) (B : Records) (older L : Log) (elsewhere : Elsewhere) (calls : ℕ) (m : EventTag)
    → Adds owner B older L elsewhere calls → Adds owner B older ((event.Connect, m) ∷ L) elsewhere (calls + 1)
adds_connect owner B older L elsewhere calls m a = record {
  events = events_connect owner B older L elsewhere.acts calls m a.events;
  requests = exchanged_more elsewhere.admin elsewhere.x B (length older) L event.Connect m (λ k. k) a.requests;
}

pub adds_deposit : (owner : Owners) (B : Records) (older L : Log) (elsewhere : Elsewhere) (acts_then : List FileAct) (calls : ℕ) (d class id text : List ℕ) (t : Tag)
    → IsFiled (named d class id) text (disposal_of (shown_at B L (history (trace_of B L)) (event.Deposit d class id text) t)) elsewhere.acts acts_then
    → Adds owner B older L elsewhere calls → Adds owner B older ((event.Deposit d class id text, Tagged t) ∷ L) (record { acts = acts_then; admin = elsewhere.admin; x = elsewhere.x }) calls
adds_deposit owner B older L elsewhere acts_then calls d class id text t f a = record {
  events = events_deposit owner B older L elsewhere.acts acts_then calls d class id text t f a.events;
  requests = exchanged_more elsewhere.admin elsewhere.x B (length older) L (event.Deposit d class id text) (Tagged t) (λ k. k) a.requests;
}

-- a command was given
module _ (told : Told) (owner : Owners) (B : Records) (L : Log) (command : AdminCommand) (m : EventTag) where
  pub served_command : AreServed told owner B L → AreServed told owner B ((event.Admin command, m) ∷ L)
  served_command a = record {
    each = λ j. stays B L (event.Admin command) m (owner j) (told.read j) (told.written j) (a.each j) (λ d e. (refl, refl));
    own = a.own;
    accepted = a.accepted;
    opened = a.opened;
    over = over_still told owner B L ((event.Admin command, m) ∷ L) (fewer_command B L command m) a;
    straight = a.straight;
  }

pub events_command : (owner : Owners) (B : Records) (older L : Log) (acts : List FileAct) (calls : ℕ) (command : AdminCommand) (m : EventTag)
    → AddsEvents owner B older L acts calls → AddsEvents owner B older ((event.Admin command, m) ∷ L) acts calls
events_command owner B older L acts calls command m a = record {
  more = (event.Admin command, m) ∷ a.more;
  is = ap (λ l. (event.Admin command, m) ∷ l) a.is;
  each = (inr tt, a.each);
  filed = a.filed;
  counted = a.counted;
}
