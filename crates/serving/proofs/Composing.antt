-- What parts of a turn keep of what serving holds, one after the other; and what they do to a server.
use Rattle.std.proofs.Common.{◌≡◌, ◌≤◌, ℕ, ◌+◌, Bool, true, List, [], ◌∷◌, ◌++◌, refl, sym, subst, ap, ◌∙◌}
use Rattle.vault.specs.Changes.{Contents}
use Rattle.vault.specs.declared.vault.Vault.{Ghosts}
use Rattle.office.specs.Accounts.{account_of}
use Rattle.office.specs.Events.{Event, Log, Trace}
use Rattle.office.specs.Outcomes.{Outcome, HasCause, event_tag_of}
use Rattle.office.specs.Stands.{StandsFor, vault_of}
use Rattle.office.specs.Taken.{trace_of, IsAdmitted}
use Rattle.office.specs.declared.account.Account.{Account}
use Rattle.office.specs.declared.office.Office.{Office}
use Rattle.office.specs.Stopping.{StaysUpUnless, StopLeaves}
use Rattle.serving.specs.Calls.{Call}
use Rattle.serving.specs.Hearing.{Hearing, heard_of}
use Rattle.serving.specs.declared.server.Server.{Server}
use Rattle.serving.specs.declared.wire.Wire as the_wire
use Rattle.serving.specs.declared.listener.Listener as the_listener
use Rattle.serving.specs.declared.links.Clients.{Clients}
use Rattle.serving.specs.declared.links.Seat.{Seat}
use Rattle.serving.specs.Settings.{Settings, settings_of}
use Rattle.serving.specs.Parts.{Keeps, KeepsSeats, Ends, Closes, Does, Asks, Accepts, WasGiven}
use Rattle.serving.specs.ClientParts.{AreAccepted}
use Rattle.serving.proofs.Arriving.{accepted_then}
use Rattle.serving.proofs.Hearing.{unheard, heard_then, heard_one, hears_ends}
use Rattle.office.specs.declared.account.End.TheVariants.{FullHouse}
use Rattle.serving.proofs.Late.{late_same, late_then}
use Rattle.serving.proofs.Working.{asked_none, asked_one, asking_then, given_none, given_one, part_none, part_so, part_then}

-- the settings stay where these do
abbrev made : (wait seconds : ℕ) (make_room slow : Bool) → Settings
made wait seconds make_room slow = record { wait = wait; login_seconds = seconds; make_room = make_room; slow_guesses = slow }

pub set_same : (wait seconds seconds_then : ℕ) (make_room slow : Bool) → seconds_then ≡ seconds → made wait seconds_then make_room slow ≡ made wait seconds make_room slow
set_same wait seconds seconds_then make_room slow e = rw e refl

pub set_slow : (wait seconds : ℕ) (make_room slow slow_then : Bool) → slow_then ≡ slow → made wait seconds make_room slow_then ≡ made wait seconds make_room slow
set_slow wait seconds make_room slow slow_then e = rw e refl

pub keeps_none : (a : Clients) → Keeps a a
keeps_none a = record { set = refl; last = refl; polled = λ e. e; pacing = λ h. h }

pub keeps_then : (a b c : Clients) → Keeps a b → Keeps b c → Keeps a c
keeps_then a b c x y = record { set = y.set ∙ x.set; last = y.last ∙ x.last; polled = λ e. y.polled (x.polled e); pacing = λ h. y.pacing (x.pacing h) }

pub seats_none : (a : Clients) → KeepsSeats a a
seats_none a = record { keeps = keeps_none a; seats = refl }

pub seats_then : (a b c : Clients) → KeepsSeats a b → KeepsSeats b c → KeepsSeats a c
seats_then a b c x y = record { keeps = keeps_then a b c x.keeps y.keeps; seats = y.seats ∙ x.seats }

pub ends_none : (now seconds : ℕ) (a : Clients) → Ends a a now seconds
ends_none now seconds a = record { poll_now = refl; seated = λ h. h; late = late_same now seconds a.newcomers.newcomers.items }

pub ends_then : (now seconds : ℕ) (a b c : Clients) → Ends a b now seconds → Ends b c now seconds → Ends a c now seconds
ends_then now seconds a b c x y = record {
  poll_now = y.poll_now ∙ x.poll_now;
  seated = λ h. y.seated (x.seated h);
  late = late_then now seconds a.newcomers.newcomers.items b.newcomers.newcomers.items c.newcomers.newcomers.items x.late y.late;
}

pub shut_none : (a : Clients) → Closes a a
shut_none a = record { keeps = keeps_none a; seated = λ h. h }

pub shut_then : (a b c : Clients) → Closes a b → Closes b c → Closes a c
shut_then a b c x y = record { keeps = keeps_then a b c x.keeps y.keeps; seated = λ h. y.seated (x.seated h) }

-- ---- what parts of a turn do to a server

module _ {V W L : Type 0} (vault : Ghosts V) (wire : the_wire.Ghosts W) (listener : the_listener.Ghosts L) where
  -- nothing
  pub does_none : (s : Server V W L) (F : Log → List Call → Type 0) → F [] [] → Does vault wire listener s s F
  does_none s F f = part_none vault wire.asked s.office s.wire _
      (unheard vault listener.heard s.office s.listener, f)

  -- one after the other
  pub does_then : (s s1 s2 : Server V W L) (F G H : Log → List Call → Type 0)
      → ((g1 g2 : Log) (c1 c2 : List Call) → WasGiven vault s.office s1.office g1
      → WasGiven vault s1.office s2.office g2 → F g1 c1 → G g2 c2 → H (g2 ++ g1) (c1 ++ c2))
      → Does vault wire listener s s1 F → Does vault wire listener s1 s2 G → Does vault wire listener s s2 H
  does_then s s1 s2 F G H join a b =
      part_then vault wire.asked s.office s1.office s2.office s.wire s1.wire s2.wire _ _ _
      (λ g1 g2 c1 c2 wa wb x y. (
        heard_then vault listener.heard s.office s1.office
            s2.office s.listener s1.listener s2.listener g1 g2 wa wb x.0 y.0,
        join g1 g2 c1 c2 wa wb x.1 y.1,
      )) a b

  -- the same, of which something else holds
  -- one link more is accepted
  pub accepts_then : (a : Clients) (s s1 s2 : Server V W L) (seats : List Seat) (b : Clients) (seats2 : List Seat) (n : ℕ) (has_more goes : Bool) → settings_of b ≡ settings_of a → has_more ≡ goes
      → Accepts vault wire listener s s1 (AreAccepted vault.holds vault.is_clean s.office s1.office a.make_room seats b.seats.items n true)
      → Accepts vault wire listener s1 s2 (AreAccepted vault.holds vault.is_clean s1.office s2.office b.make_room b.seats.items seats2 1 has_more)
      → Accepts vault wire listener s s2 (AreAccepted vault.holds vault.is_clean s.office s2.office a.make_room seats seats2 (n + 1) goes)
  accepts_then a s s1 s2 seats b seats2 n has_more goes set is x y =
      let once = subst (λ t. Accepts vault wire listener s1 s2 (AreAccepted vault.holds vault.is_clean s1.office s2.office b.make_room b.seats.items seats2 1 t)) is y in
      let next = subst (λ r. Accepts vault wire listener s1 s2 (AreAccepted vault.holds vault.is_clean s1.office s2.office r b.seats.items seats2 1 goes))
      (ap (λ (t : Settings). t.make_room) set) once in
      part_then vault wire.asked s.office s1.office s2.office s.wire s1.wire s2.wire _ _ _
      (λ g1 g2 c1 c2 wa wb p q. (
        hears_ends listener.heard FullHouse s.listener s1.listener s2.listener g1 g2 p.0 q.0,
        accepted_then vault a.make_room s.office s1.office s2.office seats b.seats.items seats2 n goes g1 g2 c1 c2 wa wb p.1 q.1,
      )) x next

  pub does_so : (s s1 : Server V W L) (F G : Log → List Call → Type 0)
      → ((g : Log) (c : List Call) → WasGiven vault s.office s1.office g → F g c → G g c)
      → Does vault wire listener s s1 F → Does vault wire listener s s1 G
  does_so s s1 F G so a = part_so vault wire.asked s.office s1.office s.wire s1.wire _ _ (λ g c wa x. (x.0, so g c wa x.1)) a

  -- one call of the wire
  pub does_call : (o : Office V) (l : L) (w w1 : W) (call : Call) (F : Log → List Call → Type 0) → ((before : List Call) → wire.asked w before → wire.asked w1 (before ++ call ∷ [])) → F [] (call ∷ [])
      → Does vault wire listener (record { office = o; wire = w; listener = l }) (record { office = o; wire = w1; listener = l }) F
  does_call o l w w1 call F called f = record {
    given = [];
    calls = call ∷ [];
    was_given = given_none vault o;
    was_asked = asked_one wire.asked w w1 call called;
    facts = (unheard vault listener.heard o l, f);
  }

  -- one call, and the event of a connection that it gave, which the listener hears of
  pub does_event : (o o1 : Office V) (l l1 : L) (w w1 : W) (call : Call) (e : Event) (out : Outcome) (c : ℕ) (account : Account) (F : Log → List Call → Type 0)
      → ((T : Trace) → heard_of T e (event_tag_of out) ≡ (c, account_of T e (event_tag_of out)) ∷ [])
      → (vault.is_clean (vault_of o1) → vault.is_clean (vault_of o))
      → ((T : Trace) → StandsFor vault.holds o T → vault.is_clean (vault_of o1) → StandsFor vault.holds o1 (trace_of T.base ((e, event_tag_of out) ∷ T.log)))
      → ((T : Trace) → StandsFor vault.holds o T → vault.is_clean (vault_of o1) → IsAdmitted T e (event_tag_of out))
      → vault.faults (vault_of o) ≤ vault.faults (vault_of o1)
      → ((T : Trace) → StandsFor vault.holds o T → vault.is_clean (vault_of o1) → HasCause (vault.faults (vault_of o)) (vault.faults (vault_of o1)) out)
      → ((T : Trace) → StandsFor vault.holds o T → vault.is_clean (vault_of o1) → StaysUpUnless (vault.is_up (vault_of o)) (vault.is_up (vault_of o1)) out)
      → ((T : Trace) → StandsFor vault.holds o T → vault.is_clean (vault_of o1) → vault.is_up (vault_of o) → StopLeaves (vault.may_leave (vault_of o1)) T e out)
      → ((T : Trace) → StandsFor vault.holds o T → vault.is_clean (vault_of o1) → account ≡ account_of T e (event_tag_of out))
      → ((before : List Call) → wire.asked w before → wire.asked w1 (before ++ call ∷ []))
      → ((h : List Hearing) → listener.heard l h → listener.heard l1 (h ++ (c, account) ∷ []))
      → F ((e, event_tag_of out) ∷ []) (call ∷ [])
      → Does vault wire listener (record { office = o; wire = w; listener = l }) (record { office = o1; wire = w1; listener = l1 }) F
  does_event o o1 l l1 w w1 call e out c account F one clean stands admitted counted cause up stop is called heard f = record {
    given = (e, event_tag_of out) ∷ [];
    calls = call ∷ [];
    was_given = given_one vault o o1 e out clean stands admitted counted cause up stop;
    was_asked = asked_one wire.asked w w1 call called;
    facts = (heard_one vault listener.heard o o1 l l1 e (event_tag_of out) c account one is heard, f);
  }

-- ---- what those do to it that give the office nothing

module _ {V : Type 0} where
  -- an office that is the same stands for the same
  pub stands_same : (Holds : V → Contents → Type 0) (o o1 : Office V) → o1 ≡ o → (T : Trace) → StandsFor Holds o T → StandsFor Holds o1 T
  stands_same Holds o o1 e T s = subst (λ x. StandsFor Holds x T) (sym e) s

  -- and its store is as clean
  pub clean_same : (IsClean : V → Type 0) (o o1 : Office V) → o1 ≡ o → IsClean (vault_of o1) → IsClean (vault_of o)
  clean_same IsClean o o1 e k = subst (λ x. IsClean (vault_of x)) e k

module _ {V W L : Type 0} (wire : the_wire.Ghosts W) (listener : the_listener.Ghosts L) where
  -- nothing
  pub asks_nothing : (s : Server V W L) (F : List Call → Type 0) → F [] → Asks wire listener s s F
  asks_nothing s F f = record { office = refl; unheard = λ h q. q; part = record { calls = []; was_asked = asked_none wire.asked s.wire; facts = f } }

  -- one after the other
  pub asks_both : (s s1 s2 : Server V W L) (F G H : List Call → Type 0) → ((c1 c2 : List Call) → F c1 → G c2 → H (c1 ++ c2))
      → Asks wire listener s s1 F → Asks wire listener s1 s2 G → Asks wire listener s s2 H
  asks_both s s1 s2 F G H join a b = record {
    office = b.office ∙ a.office;
    unheard = λ h q. b.unheard h (a.unheard h q);
    part = asking_then wire.asked s.wire s1.wire s2.wire F G H join a.part b.part;
  }

  -- the same, of which something else holds
  pub asks_else : (s s1 : Server V W L) (F G : List Call → Type 0) → ((c : List Call) → F c → G c) → Asks wire listener s s1 F → Asks wire listener s s1 G
  asks_else s s1 F G so a = record {
    office = a.office;
    unheard = a.unheard;
    part = record { calls = a.part.calls; was_asked = a.part.was_asked; facts = so a.part.calls a.part.facts };
  }
