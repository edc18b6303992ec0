-- An act that ends one connection, and one that changes nothing.
use Rattle.std.proofs.Common.{◌≡◌, ℕ, ◌≤◌, ◌&&◌, Bool, true, false, List, ◌∷◌, ◌++◌, Option, Some, None, IsSome, refl, sym, ◌∙◌, ap, subst, true≢false, eqb, eqb-true, eq-eqb}
use Rattle.std.proofs.Common.{⊎_elim, string_bytes, nat_cmp}
use Rattle.std.proofs.lemmas.Bool.{cases_Bool}
use Rattle.std.specs.BTreeMap.{get, is_at, Updates}
use Rattle.creds.specs.declared.login_name.LoginName.{LoginName}
use Rattle.vault.specs.Records.{Records, Agree}
use Rattle.vault.specs.Changes.{Contents, records_of}
use Rattle.session.specs.Session.{Session}
use Rattle.session.specs.declared.removals.Removals.{Removals}
use Rattle.office.specs.Answers.{EndSession}
use Rattle.office.specs.History.{Act, Gone, Tag, Done, in_force}
use Rattle.office.specs.Connections.{setting, serving}
use Rattle.office.specs.Told.{told}
use Rattle.office.specs.Sessions.{live, login, holder, is_login_to, records}
use Rattle.office.specs.Events.{Limits, Event, Tagged, Trace, given}
use Rattle.office.specs.Events as event
use Rattle.office.specs.Log.{opened, limits_in, moment, stream, taken, clock}
use Rattle.office.specs.Trace.{acts, history, is_left, act_of_part, gone_act}
use Rattle.office.specs.Formed.{is_formed}
use Rattle.office.specs.Answered.{name_cmp}
use Rattle.office.specs.Kept.{Kept, maildrop_of}
use Rattle.office.specs.InSession.{name_of, name_at}
use Rattle.office.specs.Locks.{Released}
use Rattle.office.specs.Stands.{Seen, seen, IsSession, Matches, IsOver, IsKeptFor, StandsFor}
use Rattle.office.specs.declared.office.Office.{Office}
use Rattle.office.proofs.Standing.{counters}
use Rattle.office.proofs.Coming.{released, is_apart, same_holder}
use Rattle.office.proofs.Beginning.{begins_on, begun_on}
use Rattle.office.proofs.Events.{Whole, whole, whole-took, facts, seen_by, seen-took_other}

-- ---- an act that changes connections alone

-- the newest number and the moment
abbrev counted : Trace → ℕ × ℕ
counted T = (opened T.log, moment T.log)

-- the records, the rules, the office of greetings, the newest number with the moment, and the settings are the same
record Leaves (T : Trace) (e : Event) (t : Tag) : Type 0 where
  stored : records T.base (history (given T e (Tagged t))) ≡ records T.base (history T)
  ruled : in_force T.base (history (given T e (Tagged t))) ≡ in_force T.base (history T)
  office : setting (history (given T e (Tagged t))) ≡ setting (history T)
  number : counted (given T e (Tagged t)) ≡ counted T
  limits : limits_in (given T e (Tagged t)).log ≡ limits_in T.log
  formed : is_formed T.log e ≡ true

-- it ends one connection, and leaves the others
pub record Ends (T : Trace) (e : Event) (t : Tag) (c : ℕ) : Type 0 where
  leaves : Leaves T e t
  others : (q : ℕ) → eqb c q ≡ false → seen (given T e (Tagged t)) q ≡ seen T q
  over : IsOver (seen (given T e (Tagged t)) c)

module _ {V : Type 0} (Holds : V → Contents → Type 0) (o o' : Office V) (T : Trace) (e : Event) (t : Tag) where
  abbrev after : Trace
  after = given T e (Tagged t)

  -- what is kept of connections, and the locks, follow
  follows : Leaves T e t → (st : StandsFor Holds o T) → ((k : Contents) → Holds o.vault k → Holds o'.vault k) → o'.policy ≡ o.policy → o'.boot ≡ o.boot
      → string_bytes o'.host ≡ string_bytes o.host → o'.limits ≡ o.limits → counters o' ≡ counters o
      → ((q : ℕ) → IsSome (get nat_cmp o'.connections q) → IsSome (get nat_cmp o.connections q))
      → ((q : ℕ) → IsKeptFor st.keeps.contents (seen after q) (get nat_cmp o'.connections q))
      → ((d : List ℕ) → get name_cmp o'.locks d ≡ holder (history after) d) → StandsFor Holds o' after
  follows l st on p b s w n there connections locks =
      let formed = l.formed in
      record {
        keeps = record {
          contents = st.keeps.contents;
          held = on st.keeps.contents st.keeps.held;
          agree = subst (λ (R : Records). Agree (records_of st.keeps.contents) R) (sym l.stored) st.keeps.agree;
          sound = st.keeps.sound;
          formed = rw formed st.keeps.formed;
          began = begun_on e (Tagged t) T.log st.began;
        };
        began = begins_on e (Tagged t) T.log st.began;
        policy = p ∙ (st.policy ∙ sym l.ruled);
        boot = b ∙ (st.boot ∙ ap (λ (x : ℕ × List ℕ × Removals). x.0) (sym l.office));
        host = s ∙ (st.host ∙ ap (λ (x : ℕ × List ℕ × Removals). x.1) (sym l.office));
        judged = ap (λ (x : Limits). x.removals) w ∙ (st.judged ∙ ap (λ (x : ℕ × List ℕ × Removals). x.2) (sym l.office));
        limits = w ∙ (st.limits ∙ sym l.limits);
        moment = ap (λ (x : ℕ × ℕ). x.1) n ∙ (st.moment ∙ ap (λ (x : ℕ × ℕ). x.1) (sym l.number));
        numbered = λ q some. subst (λ (m : ℕ). (1 ≤ q) × (q ≤ m)) (ap (λ (x : ℕ × ℕ). x.0) (sym l.number)) (st.numbered q (there q some));
        opened = ap (λ (x : ℕ × ℕ). x.0) n ∙ (st.opened ∙ ap (λ (x : ℕ × ℕ). x.0) (sym l.number));
        connections = connections;
        locks = locks;
      }

  -- one connection is ended
  pub ended_by : (c : ℕ) → Ends T e t c → (st : StandsFor Holds o T) (k : Kept) → get nat_cmp o.connections c ≡ Some k → ((k : Contents) → Holds o.vault k → Holds o'.vault k)
      → o'.policy ≡ o.policy → o'.boot ≡ o.boot → string_bytes o'.host ≡ string_bytes o.host → o'.limits ≡ o.limits → counters o' ≡ counters o
      → get nat_cmp o'.connections c ≡ None → ((q : ℕ) → is_at (nat_cmp c) q ≡ false → get nat_cmp o'.connections q ≡ get nat_cmp o.connections q)
      → Released (maildrop_of k.session) o.locks o'.locks → StandsFor Holds o' after
  ended_by c x st k found on p b s w n gone_is kept_are r =
      let m : Matches st.keeps.contents (seen T c) k = subst (IsKeptFor st.keeps.contents (seen T c)) found (st.connections c) in
      let there : (q : ℕ) → eqb c q ≡ false → get nat_cmp o'.connections q ≡ get nat_cmp o.connections q = λ q e. kept_are q (is_apart c q e) in
      let none : (q : ℕ) → eqb c q ≡ true → get nat_cmp o'.connections q ≡ None = λ q e. subst (λ y. get nat_cmp o'.connections y ≡ None) (eqb-true c q e) gone_is in
      follows x.leaves st on p b s w n
      (λ q some. ⊎_elim
      (λ e. let gone = none q e in absurd (true≢false (sym (rw gone at some))))
      (λ e. let same = there q e in rw same at some)
      (cases_Bool (eqb c q)))
      (λ q. ⊎_elim
      (λ e. subst (λ y. IsKeptFor st.keeps.contents (seen after y) (get nat_cmp o'.connections y)) (eqb-true c q e) (rw gone_is x.over))
      (λ e. rw (x.others q e, there q e) (st.connections q))
      (cases_Bool (eqb c q)))
      (released T.base (acts T) (acts after) c
      (λ d q e. ap (λ (y : Seen). y.live && is_login_to d y.login) (x.others q e))
      (λ d. ap (λ (y : Bool). y && is_login_to d (login (history after) c)) x.over.authorization)
      st.keeps.contents (seen T c) k.session o.locks o'.locks m.session refl refl st.locks r)

  pub ended_stands : (c : ℕ) → Ends T e t c → (st : StandsFor Holds o T) (k : Kept) → get nat_cmp o.connections c ≡ Some k → ((k : Contents) → Holds o.vault k → Holds o'.vault k)
      → o'.policy ≡ o.policy → o'.boot ≡ o.boot → string_bytes o'.host ≡ string_bytes o.host → o'.limits ≡ o.limits → counters o' ≡ counters o
      → Updates nat_cmp o.connections o'.connections c None → Released (maildrop_of k.session) o.locks o'.locks → StandsFor Holds o' after
  ended_stands c x st k found on p b s w n u r = ended_by c x st k found on p b s w n u.1 u.2 r

  -- no connection is
  unchanged : Leaves T e t → ((q : ℕ) → seen after q ≡ seen T q) → StandsFor Holds o T → ((k : Contents) → Holds o.vault k → Holds o'.vault k)
      → o'.policy ≡ o.policy → o'.boot ≡ o.boot → string_bytes o'.host ≡ string_bytes o.host → o'.limits ≡ o.limits → counters o' ≡ counters o
      → ((q : ℕ) → get nat_cmp o'.connections q ≡ get nat_cmp o.connections q) → ((d : List ℕ) → get name_cmp o'.locks d ≡ get name_cmp o.locks d) → StandsFor Holds o' after
  unchanged l same st on p b s w n connections locks =
      follows l st on p b s w n
      (λ q some. rw (connections q) at some)
      (λ q. rw (same q, connections q) (st.connections q))
      (λ d. locks d ∙ (st.locks d ∙ sym (same_holder T.base (acts T) (acts after) d (λ q. ap (λ (y : Seen). y.live && is_login_to d y.login) (same q)))))

-- ---- a connection goes

gone_other : (T : Trace) (c q : ℕ) → eqb c q ≡ false → seen (given T (event.Gone c) (Tagged Done)) q ≡ seen T q
gone_other T c q e = rw e refl

gone_over : (T : Trace) (c : ℕ) → IsOver (seen (given T (event.Gone c) (Tagged Done)) c)
gone_over T c = let e = eq-eqb c c refl in record { closed = rw e refl; authorization = rw e refl }

pub gone_ends : (T : Trace) (c : ℕ) → Ends T (event.Gone c) Done c
gone_ends T c = record {
  leaves = record { stored = refl; ruled = refl; office = refl; number = refl; limits = refl; formed = refl };
  others = gone_other T c;
  over = gone_over T c;
}

-- ---- a Took in the middle of a reply that is its connection's end

module _ (T : Trace) (c n : ℕ) (t : Tag) (left : is_left T.log (history T) c n ≡ true) (ends : act_of_part (serving (history T) c) c t ≡ gone_act c) where
  gone_acts : acts (given T (event.Took c n) (Tagged t)) ≡ (Gone c, Done) ∷ acts T
  gone_acts = rw left (ap (λ (a : List (Act × Tag)). a ++ acts T) ends)

  gone_seen : seen (given T (event.Took c n) (Tagged t)) c
      ≡ seen_by (stream (given T (event.Took c n) (Tagged t)).log c) (taken (given T (event.Took c n) (Tagged t)).log c)
      (clock (given T (event.Took c n) (Tagged t)).log c) (facts T.base ((Gone c, Done) ∷ acts T) c)
  gone_seen = ap (λ H. seen_by (stream (given T (event.Took c n) (Tagged t)).log c) (taken (given T (event.Took c n) (Tagged t)).log c)
      (clock (given T (event.Took c n) (Tagged t)).log c) (facts T.base H c)) gone_acts

  gone_whole : whole T.base (acts (given T (event.Took c n) (Tagged t))) ≡ whole T.base (acts T)
  gone_whole = whole-took T c n t

  pub took_ends : Ends T (event.Took c n) t c
  took_ends = let e = eq-eqb c c refl in record {
    leaves = record {
      stored = ap (λ H. records T.base (told T.base H)) gone_acts;
      ruled = ap (λ (w : Whole). w.rules) gone_whole;
      office = ap (λ (w : Whole). w.office) gone_whole;
      number = refl;
      limits = refl;
      formed = refl;
    };
    others = λ q apart. seen-took_other T c n q t apart;
    over = subst IsOver (sym gone_seen) (record { closed = rw e refl; authorization = rw e refl });
  }

-- ---- a session is ended

-- who is in session by what is kept is so by the trace
in_session_live : (c : Contents) (s : Seen) (o : Option Session) (name : LoginName) → IsSession c s o → name_of o ≡ Some name → (s.live ≡ true) × (maildrop_of o ≡ Some name.maildrop)
in_session_live c s None name i e = absurd (let none : None ≡ Some name = e in cc)
in_session_live c s (Some k) name i e = (i.live, let same : k.name ≡ name = cc in ap (λ (n : LoginName). Some n.maildrop) same)

-- a connection that is kept with a session
pub record IsSeatedAs (s : Seen) (o : Option Kept) (name : LoginName) : Type 0 where
  pub kept : Kept
  pub is : o ≡ Some kept
  pub alive : s.live ≡ true
  pub maildrop : maildrop_of kept.session ≡ Some name.maildrop

pub state_as : (c : Contents) (s : Seen) (o : Option Kept) (name : LoginName) → IsKeptFor c s o → name_at o ≡ Some name → IsSeatedAs s o name
state_as c s None name h e = absurd (let none : None ≡ Some name = e in cc)
state_as c s (Some k) name m e =
    let both = in_session_live c s k.session name m.session e in
    record { kept = k; is = refl; alive = both.0; maildrop = both.1 }

nobody_in : (c : Contents) (s : Seen) (o : Option Session) → IsSession c s o → name_of o ≡ None → s.live ≡ false
nobody_in c s None i e = i
nobody_in c s (Some k) i e = absurd (let some : Some k.name ≡ None = e in cc)

pub nobody_at : (c : Contents) (s : Seen) (o : Option Kept) → IsKeptFor c s o → name_at o ≡ None → s.live ≡ false
nobody_at c s None h e = h.authorization
nobody_at c s (Some k) m e = nobody_in c s k.session m.session e

module _ (T : Trace) (c : ℕ) where
  abbrev asked : Event
  asked = event.Admin (EndSession c)

  abbrev with_end : Trace
  with_end = given T asked (Tagged Done)

  end_leaves : Leaves T asked Done
  end_leaves = record { stored = refl; ruled = refl; office = refl; number = refl; limits = refl; formed = refl }

  end_other : live (history T) c ≡ true → (q : ℕ) → eqb c q ≡ false → seen with_end q ≡ seen T q
  end_other alive q e = rw (alive, e) refl

  end_over : live (history T) c ≡ true → IsOver (seen with_end c)
  end_over alive = let e = eq-eqb c c refl in record { closed = rw (alive, e) refl; authorization = rw (alive, e) refl }

  pub end_ends : live (history T) c ≡ true → Ends T asked Done c
  end_ends alive = record { leaves = end_leaves; others = end_other alive; over = end_over alive }

  end_nobody : live (history T) c ≡ false → (q : ℕ) → seen with_end q ≡ seen T q
  end_nobody out q = rw out refl

  pub nobody_stands : {V : Type 0} (Holds : V → Contents → Type 0) (o o' : Office V) → live (history T) c ≡ false → StandsFor Holds o T
      → ((k : Contents) → Holds o.vault k → Holds o'.vault k) → o'.policy ≡ o.policy → o'.boot ≡ o.boot → string_bytes o'.host ≡ string_bytes o.host
      → o'.limits ≡ o.limits → counters o' ≡ counters o → ((q : ℕ) → get nat_cmp o'.connections q ≡ get nat_cmp o.connections q)
      → ((d : List ℕ) → get name_cmp o'.locks d ≡ get name_cmp o.locks d) → StandsFor Holds o' with_end
  nobody_stands Holds o o' out = unchanged Holds o o' T asked Done end_leaves (end_nobody out)
