-- A link that is accepted gets a connection of its own, or none.
use Rattle.std.proofs.Common.{◌≡◌, ℕ, ◌<◌, ◌≤◌, ◌==◌, Bool, true, false, List, [], ◌∷◌, refl, sym, ◌∙◌, ap, arith, None, Some, Option, eq-eqb, ne_eqb, ⊎_elim, ◌⊎◌, inl, inr, subst, true≢false}
use Rattle.std.specs.Bool.{⊤, if◌then◌else◌}
use Rattle.std.proofs.lemmas.Bool.{cases_eq}
use Rattle.vault.specs.Records.{Records}
use Rattle.office.specs.History.{Tag, Done, Failed, NoMemory, Entry}
use Rattle.office.specs.Events.{Event, EventTag, Tagged, Ignored, Log, Trace}
use Rattle.office.specs.Events as event
use Rattle.office.specs.Log.{next_number, opened}
use Rattle.office.specs.Trace.{history, is_open}
use Rattle.office.specs.Taken.{trace_of, all_taken_by}
use Rattle.office.specs.Expected.{IsOutcome, ignored, shown_at, or_ignored}
use Rattle.office.specs.Outcomes.{Outcome, Reason, event_tag_of}
use Rattle.serving.specs.Wires.{Told, has_accepted, has_closed, begun_at, opened_by}
use Rattle.serving.specs.Served.{given_by, Owners, IsServed, AreServed, IsOwnEvent, AreOwnEvents, Adds, IsCommand, Elsewhere}
use Rattle.serving.proofs.Keeping.{stays, of_some, served_closed}
use Rattle.serving.proofs.Staying.{frame_connect}

-- ---- outcomes

-- what shows no opening
abbrev pub IsRefusal : EventTag → Type 0
IsRefusal (Tagged Done) = ⊥
IsRefusal _ = ⊤

abbrev pub Comes : Log → Outcome → Option ℕ → Type 0
Comes L o None = IsRefusal (event_tag_of o)
Comes L o (Some c) = (event_tag_of o ≡ Tagged Done) × (c ≡ next_number L)

comes_if : (B : Records) (L : Log) (G : List Entry) (q : Option Reason) (t : Tag) → Comes L (or_ignored q (shown_at B L G event.Connect t)) (opened_by (or_ignored q (shown_at B L G event.Connect t)))
comes_if B L G (Some r) t = tt
comes_if B L G None Done = (refl, refl)
comes_if B L G None Failed = tt
comes_if B L G None NoMemory = tt

pub comes : (T : Trace) (lent : ℕ → ℕ) (o : Outcome) → IsOutcome T lent event.Connect o → Comes T.log o (opened_by o)
comes T lent o h = subst (λ x. Comes T.log x (opened_by x)) (sym h.is) (comes_if T.base T.log (history T) (ignored T lent event.Connect) h.tag)

-- ---- owners

-- one link more has a connection
abbrev pub owned_at : ℕ → ℕ → Owners → Owners
owned_at n c owner k = if k == n then Some c else owner k

owned_same : (n c : ℕ) (owner : Owners) → owned_at n c owner n ≡ Some c
owned_same n c owner = let q = eq-eqb n n refl in rw q refl

owned_other : (n c k : ℕ) (owner : Owners) → (k ≡ n → ⊥) → owned_at n c owner k ≡ owner k
owned_other n c k owner h = let q = ne_eqb k n h in rw q refl

none_of : (o : Option ℕ) → ((c : ℕ) → o ≡ Some c → ⊥) → o ≡ None
none_of None h = refl
none_of (Some c) h = absurd (h c refl)

some_none : (c : ℕ) → Some c ≡ None → ⊥
some_none c e = cc

-- ---- a link that got none

module _ (told : Told) (owner : Owners) (B : Records) (L : Log) where
  refused_stays : (m : EventTag) → IsRefusal m → (d : ℕ) → (given_by ((event.Connect, m) ∷ L) d ≡ given_by L d) × (all_taken_by B ((event.Connect, m) ∷ L) d ≡ all_taken_by B L d)
  refused_stays Ignored r d = (refl, refl)
  refused_stays (Tagged Done) r d = absurd r
  refused_stays (Tagged Failed) r d = (refl, refl)
  refused_stays (Tagged NoMemory) r d = (refl, refl)

  refused_opened : (m : EventTag) → IsRefusal m → opened ((event.Connect, m) ∷ L) ≡ opened L
  refused_opened Ignored r = refl
  refused_opened (Tagged Done) r = absurd r
  refused_opened (Tagged Failed) r = refl
  refused_opened (Tagged NoMemory) r = refl

  -- so none is opened
  pub refused_same : (m : EventTag) → IsRefusal m → (d : ℕ) → is_open (trace_of B ((event.Connect, m) ∷ L)) d ≡ is_open (trace_of B L) d
  refused_same Ignored r d = refl
  refused_same (Tagged Done) r d = absurd r
  refused_same (Tagged Failed) r d = refl
  refused_same (Tagged NoMemory) r d = refl

  begun_same : (k : ℕ) (over : ℕ → Bool) → begun_at k over k ≡ false
  begun_same k over = let q = eq-eqb k k refl in rw q refl

  begun_other : (k j : ℕ) (over : ℕ → Bool) → (j ≡ k → ⊥) → begun_at k over j ≡ over j
  begun_other k j over h = let q = ne_eqb j k h in rw q refl

  -- what is over now was so before
  was_over : (j : ℕ) → begun_at told.accepted told.over j ≡ true → told.over j ≡ true
  was_over j o =
      ⊎_elim
      (λ (e : j ≡ told.accepted). absurd (true≢false (sym o ∙ (ap (begun_at told.accepted told.over) e ∙ begun_same told.accepted told.over))))
      (λ (ne : j ≡ told.accepted → ⊥). sym (begun_other told.accepted j told.over ne) ∙ o)
      (cases_eq j told.accepted)

  -- a link that was accepted last has no connection yet
  pub next_free : AreServed told owner B L → owner told.accepted ≡ None
  next_free a = none_of (owner told.accepted) (λ c e. (let h = a.accepted told.accepted c e in omega (arith, h)))

  pub served_refused : (m : EventTag) → IsRefusal m → AreServed told owner B L → AreServed (has_accepted told) owner B ((event.Connect, m) ∷ L)
  served_refused m r a = record {
    each = λ j. stays B L event.Connect m (owner j) (told.read j) (told.written j) (a.each j) (λ d e. refused_stays m r d);
    own = a.own;
    accepted = λ k c e. (let h = a.accepted k c e in omega (arith, h));
    opened = λ k c e. (let h = a.opened k c e in let q = refused_opened m r in omega (arith, h, q));
    over = λ k c o e. refused_same m r c ∙ a.over k c (was_over k o) e;
    straight = a.straight;
  }

  -- and it is closed
  pub served_unseated : (m : EventTag) → IsRefusal m → AreServed told owner B L → AreServed (has_closed (has_accepted told) told.accepted) owner B ((event.Connect, m) ∷ L)
  served_unseated m r a =
      served_closed (has_accepted told) owner B ((event.Connect, m) ∷ L) told.accepted (λ d e. absurd (some_none d (sym e ∙ next_free a))) (served_refused m r a)

  -- ---- a link that got one

  connect_given : (d : ℕ) → d ≤ opened L → given_by ((event.Connect, Tagged Done) ∷ L) d ≡ given_by L d
  connect_given d h = let q = ne_eqb (next_number L) d (λ (e : next_number L ≡ d). (let k : ⊥ = omega (arith, e, h) in k)) in rw q refl

  connect_took : (d : ℕ) → d ≤ opened L → all_taken_by B ((event.Connect, Tagged Done) ∷ L) d ≡ all_taken_by B L d
  connect_took d h = let q = ne_eqb (next_number L) d (λ (e : next_number L ≡ d). (let k : ⊥ = omega (arith, e, h) in k)) in rw q refl

  fresh_given : given_by ((event.Connect, Tagged Done) ∷ L) (next_number L) ≡ []
  fresh_given = let q = eq-eqb (next_number L) (next_number L) refl in rw q refl

  fresh_took : all_taken_by B ((event.Connect, Tagged Done) ∷ L) (next_number L) ≡ []
  fresh_took = let q = eq-eqb (next_number L) (next_number L) refl in rw q refl

  owner_then : Owners
  owner_then = owned_at told.accepted (next_number L) owner

  -- who owned a link does so still
  pub owned_still : AreServed told owner B L → (k c : ℕ) → owner k ≡ Some c → owned_at told.accepted (next_number L) owner k ≡ Some c
  owned_still a k c e =
      let h = a.accepted k c e in
      owned_other told.accepted (next_number L) k owner (λ (q : k ≡ told.accepted). (let n : ⊥ = omega (arith, h, q) in n)) ∙ e

  pub owned_new : owned_at told.accepted (next_number L) owner told.accepted ≡ Some (next_number L)
  owned_new = owned_same told.accepted (next_number L) owner

  -- whose a link is: the new one's, or as before
  pub whose : (k c : ℕ) → owned_at told.accepted (next_number L) owner k ≡ Some c → ((k ≡ told.accepted) × (c ≡ next_number L)) ⊎ (owner k ≡ Some c)
  whose k c e =
      ⊎_elim
      (λ (q : k ≡ told.accepted). inl (q, of_some c (next_number L) (sym e ∙ (ap (λ i. owned_at told.accepted (next_number L) owner i) q ∙ owned_new))))
      (λ (ne : k ≡ told.accepted → ⊥). inr (sym (owned_other told.accepted (next_number L) k owner ne) ∙ e))
      (cases_eq k told.accepted)

  -- those that were opened before have lower numbers
  pub opened_before : (connection : ℕ) → connection ≡ next_number L → AreServed told owner B L → (k c : ℕ) → owner k ≡ Some c → c < connection
  opened_before connection e a k c at_k = let h = a.opened k c at_k in omega (arith, h, e)

  pub served_accepted : AreServed told owner B L → AreServed (has_accepted told) (owned_at told.accepted (next_number L) owner) B ((event.Connect, Tagged Done) ∷ L)
  served_accepted a = record {
    each = λ j.
        ⊎_elim
        (λ (e : j ≡ told.accepted).
        (let at_j : owned_at told.accepted (next_number L) owner j ≡ Some (next_number L) = ap (λ i. owned_at told.accepted (next_number L) owner i) e ∙ owned_new in
        let was : owner j ≡ None = ap owner e ∙ next_free a in
        let s : IsServed B L None (told.read j) (told.written j) = subst (λ o. IsServed B L o (told.read j) (told.written j)) was (a.each j) in
        subst (λ o. IsServed B ((event.Connect, Tagged Done) ∷ L) o (told.read j) (told.written j)) {y = owned_at told.accepted (next_number L) owner j} (sym at_j)
        (s.0 ∙ sym fresh_given, s.1 ∙ sym fresh_took)))
        (λ (ne : j ≡ told.accepted → ⊥).
        subst (λ o. IsServed B ((event.Connect, Tagged Done) ∷ L) o (told.read j) (told.written j)) (sym (owned_other told.accepted (next_number L) j owner ne))
        (stays B L event.Connect (Tagged Done) (owner j) (told.read j) (told.written j) (a.each j) (λ d e. (let h = a.opened j d e in (connect_given d h, connect_took d h)))))
        (cases_eq j told.accepted);
    own = λ j k c at_j at_k.
        ⊎_elim
        (λ (x : (j ≡ told.accepted) × (c ≡ next_number L)).
        ⊎_elim
        (λ (y : (k ≡ told.accepted) × (c ≡ next_number L)). x.0 ∙ sym y.0)
        (λ (y : owner k ≡ Some c). (let h = a.opened k c y in let q = x.1 in absurd (omega (arith, h, q))))
        (whose k c at_k))
        (λ (x : owner j ≡ Some c).
        ⊎_elim
        (λ (y : (k ≡ told.accepted) × (c ≡ next_number L)). (let h = a.opened j c x in let q = y.1 in absurd (omega (arith, h, q))))
        (λ (y : owner k ≡ Some c). a.own j k c x y)
        (whose k c at_k))
        (whose j c at_j);
    accepted = λ k c e.
        ⊎_elim
        (λ (x : (k ≡ told.accepted) × (c ≡ next_number L)). (let q = x.0 in omega (arith, q)))
        (λ (x : owner k ≡ Some c). (let h = a.accepted k c x in omega (arith, h)))
        (whose k c e);
    opened = λ k c e.
        ⊎_elim
        (λ (x : (k ≡ told.accepted) × (c ≡ next_number L)). (let q = x.1 in omega (arith, q)))
        (λ (x : owner k ≡ Some c). (let h = a.opened k c x in omega (arith, h)))
        (whose k c e);
    over = λ k c o e.
        ⊎_elim
        (λ (x : (k ≡ told.accepted) × (c ≡ next_number L)). absurd (true≢false (sym o ∙ (ap (begun_at told.accepted told.over) x.0 ∙ begun_same told.accepted told.over))))
        (λ (x : owner k ≡ Some c).
        (let h = a.opened k c x in
        frame_connect B L c (λ (q : next_number L ≡ c). (let n : ⊥ = omega (arith, h, q) in n)) ∙ a.over k c (was_over k o) x))
        (whose k c e);
    straight = a.straight;
  }

-- ---- with more owners

own_still : (owner after : Owners) → ((k c : ℕ) → owner k ≡ Some c → after k ≡ Some c) → (e : Event) → IsOwnEvent owner e → IsOwnEvent after e
own_still owner after more (event.Start host boot limits) i = absurd i
own_still owner after more event.Connect i = tt
own_still owner after more (event.Bytes c piece) i = (i.0, more i.0 c i.1)
own_still owner after more (event.Took c octets) i = (i.0, more i.0 c i.1)
own_still owner after more (event.Gone c) i = (i.0, more i.0 c i.1)
own_still owner after more (event.Tick now) i = tt
own_still owner after more (event.Deposit d class id text) i = tt
own_still owner after more (event.Admin command) i = absurd i
own_still owner after more (event.Restart boot) i = absurd i

either_still : (owner after : Owners) → ((k c : ℕ) → owner k ≡ Some c → after k ≡ Some c) → (e : Event) → IsOwnEvent owner e ⊎ IsCommand e → IsOwnEvent after e ⊎ IsCommand e
either_still owner after more e (inl i) = inl (own_still owner after more e i)
either_still owner after more e (inr k) = inr k

events_still : (owner after : Owners) → ((k c : ℕ) → owner k ≡ Some c → after k ≡ Some c) → (L : Log) → AreOwnEvents owner L → AreOwnEvents after L
events_still owner after more [] i = tt
events_still owner after more ((e, m) ∷ L) i = (either_still owner after more e i.0, events_still owner after more L i.1)

pub adds_still : (owner after : Owners) → ((k c : ℕ) → owner k ≡ Some c → after k ≡ Some c)
    → (B : Records) (older L : Log) (elsewhere : Elsewhere) (calls : ℕ) → Adds owner B older L elsewhere calls → Adds after B older L elsewhere calls
adds_still owner after more B older L elsewhere calls a = record {
  events = record { more = a.events.more; is = a.events.is; each = events_still owner after more a.events.more a.events.each; filed = a.events.filed; counted = a.events.counted };
  requests = a.requests;
}
