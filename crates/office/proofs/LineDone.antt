-- A line on a trace: what is kept of its connection, of each other, of the locks and of the store is what the trace says with the line.
use Rattle.std.proofs.Common.{◌≡◌, ℕ, Bool, true, false, List, ◌∷◌, ◌++◌, Option, Some, None, refl, sym, ◌∙◌, ap, subst, nat_cmp, true≢false, ⊎_elim, eqb, slice_get, eq-eqb, is_some, Result, Ok}
use Rattle.std.proofs.lemmas.Bool.{cases_Bool}
use Rattle.std.proofs.lemmas.Slice.Eq.{bytes_eq-Decides}
use Rattle.std.specs.BTreeMap.{BTreeMap, get}
use Rattle.std.specs.Str.{bytes_eq}
use Rattle.creds.specs.declared.login_name.LoginName.{LoginName}
use Rattle.popline.specs.Cutting.{Cut, cut, coming, whole_line, has_newline}
use Rattle.popline.specs.Commands.{Command, Quit}
use Rattle.popline.specs.declared.command.LineFault.{LineFault}
use Rattle.popline.specs.Replies.{Reply, bytes_of}
use Rattle.policy.specs.Policy.{Policy}
use Rattle.vault.specs.declared.record.Keyed.{Keyed}
use Rattle.vault.specs.declared.record.Message as store
use Rattle.vault.specs.Records.{Agree, class_of, in_maildrop, is_one_of}
use Rattle.session.specs.View.{is_marked, visible}
use Rattle.vault.specs.Changes.{Contents, AreSound, records_of}
use Rattle.session.specs.Session.{Session}
use Rattle.office.specs.History.{Says, in_force, exists, maildrops, arrivals}
use Rattle.office.specs.Connections.{reading, is_quit, user, failures, judging}
use Rattle.office.specs.Sessions.{live, login, marks, view, logs_in, login_after, view_after, holder, present, records, removed}
use Rattle.office.specs.Replying.{reply_to_cut, stamp}
use Rattle.office.specs.Events.{Trace, Event, Tagged, given}
use Rattle.office.specs.Trace.{history, acts}
use Rattle.office.specs.Formed.{is_formed}
use Rattle.office.specs.Laws.{In}
use Rattle.office.specs.Output.{OwesIf, OwesReply}
use Rattle.office.specs.Kept.{Kept, LineContext, answered, line_after, asks}
use Rattle.office.specs.Answered.{name_cmp, judged_at, reply_of, tag_of, held_after, held_if, SessionAfter, Becomes, BecomesIf, LocksFollow}
use Rattle.office.specs.Stands.{Seen, seen, untaken_of, Matches, IsKeptFor, IsSession, IsTransaction, Keeps}
use Rattle.office.specs.declared.login_state.LineOutcome.{LineOutcome}
use Rattle.office.specs.declared.office.Office.{Office}
use Rattle.office.specs.declared.login_state.LineOutcome.TheVariants as outcome
use Rattle.office.proofs.NameOrder.{same_any}
use Rattle.office.proofs.AgreeLists.{in_maildrop-without}
use Rattle.office.proofs.Laws.{one_holder}
use Rattle.office.proofs.Lying.{lies_on, stays_by_removal}
use Rattle.office.proofs.Locked.{lock_found, holder_is}
use Rattle.office.proofs.Locking.{holds_by, locks_follow}
use Rattle.office.proofs.Acting.{finds, session_after, held_same}
use Rattle.office.proofs.Owing.{StayFor, owes_on}
use Rattle.office.proofs.Agreeing.{AgreesInAuthorization}
use Rattle.office.proofs.Judging.{Judges, authorization_judges, transaction_judges}
use Rattle.office.proofs.Events.{Moves, finds_by, line_entry, same_session}
use Rattle.office.proofs.Hearing.{lined, Awaits, part_heard, line_heard, acts_next}
use Rattle.office.proofs.SmallLemmas.{no_some}

-- what a session saw of a store is there after another connection's line
stays_after : (w : LineOutcome) (p : Policy) (old : Option Session) (r : Result Command LineFault) (c : Contents) (d : List ℕ)
    → ((o : Session) → old ≡ Some o → o.name.maildrop ≡ d → ⊥) → (x : Keyed) → In x c.messages → x.message.maildrop ≡ d → In x (held_after w p old r c).messages
stays_after w p None r c d apart x i e = i
stays_after outcome.Failed p (Some o) r c d apart x i e = i
stays_after outcome.Done p (Some o) (Ok Quit) c d apart x i e = stays_by_removal c o.name.maildrop _ x i (λ f. apart o refl (sym f ∙ e))
stays_after outcome.Done p (Some o) _ c d apart x i e = i

carry : (k k' : Contents) (s : Seen) (kq : Kept) → ((o : Session) → kq.session ≡ Some o → IsTransaction k s o → (x : Keyed) → In x k.messages → x.message.maildrop ≡ o.name.maildrop → In x k'.messages)
    → Matches k s kq → Matches k' s kq
carry k k' s kq stays m = record {
  opened = m.opened;
  session = at kq.session (λ o e. stays o e) m.session;
  parted = m.parted;
  taken = m.taken;
  owed = owes_on k k' kq.session kq.output (untaken_of s) (λ o e x i within. stays o e (subst (IsSession k s) e m.session) x i within) m.owed;
  serving = m.serving;
  closing = m.closing;
  user = m.user;
  failures = m.failures;
  stamp = m.stamp;
  judged = m.judged;
  clock = m.clock;
  lines = m.lines;
  cut_whole = m.cut_whole;
  line_kept = m.line_kept;
  piece_kept = m.piece_kept;
}
  where
    at : (o : Option Session) → ((q : Session) → o ≡ Some q → IsTransaction k s q → (x : Keyed) → In x k.messages → x.message.maildrop ≡ q.name.maildrop → In x k'.messages)
        → IsSession k s o → IsSession k' s o
    at None on i = i
    at (Some q) on i = record {
      live = i.live;
      login = i.login;
      judged = i.judged;
      marks = i.marks;
      kept = i.kept;
      lies = lies_on k k' q i.kept i.lies (on q refl i);
      view = i.view;
    }

-- a connection that is kept over some contents is kept over others, if the messages of its session stay
pub carry_kept : (k k' : Contents) (s : Seen) (o : Option Kept) → ((q : Session) → IsTransaction k s q → (x : Keyed) → In x k.messages → x.message.maildrop ≡ q.name.maildrop → In x k'.messages)
    → IsKeptFor k s o → IsKeptFor k' s o
carry_kept k k' s None stays m = m
carry_kept k k' s (Some kq) stays m = carry k k' s kq (λ o e i. stays o i) m

view_alike : (o : Option LoginName) (f g : LoginName → List store.Message) (b : List store.Message) → ((name : LoginName) → f name ≡ g name) → view_after o f b ≡ view_after o g b
view_alike None f g b e = refl
view_alike (Some name) f g b e = e name

lined_alike : (s : Seen) (x : Cut) (r : Reply) (f g : LoginName → List store.Message) → ((name : LoginName) → f name ≡ g name) → lined s x r f ≡ lined s x r g
lined_alike s x r f g e = ap (λ v. record (lined s x r f) { view = v }) (view_alike (logs_in (reading x) (Says r) s.user) f g s.view e)

holding : (s : Seen) (d : List ℕ) (name : LoginName) → s.live ≡ true → s.login ≡ Some name → name.maildrop ≡ d → holds_by s d ≡ true
holding s d name l e m = let t = (bytes_eq-Decides name.maildrop d).1 m in rw (l, e, t) refl

-- ---- who keeps a trace judges its lines

module _ {Before : Contents → Type 0} (T : Trace) (n : ℕ) (keeps : Keeps Before T) (sound : AreSound keeps.contents) (policy : Policy) (rules : policy ≡ in_force T.base (history T))
    (locks : BTreeMap (List ℕ) ℕ) (held : (d : List ℕ) → get name_cmp locks d ≡ holder (history T) d) where
  abbrev store_now : Contents
  store_now = keeps.contents

  abbrev context : List ℕ → LineContext
  context stamp = judged_at store_now policy stamp locks

  is_there : (d : List ℕ) → is_one_of d store_now.maildrops ≡ exists T.base (history T) d
  is_there d = same_any (λ x. bytes_eq x d) store_now.maildrops (maildrops T.base (history T)) keeps.agree.maildrops

  are_present : (d : List ℕ) → in_maildrop d (records_of store_now).messages ≡ present T.base (history T) d
  are_present d = keeps.agree.messages d ∙ in_maildrop-without d (arrivals T.base (history T)) (removed T.base (history T))

  -- the line's connection, as it waits for an answer
  module _ (s : Seen) (k : Kept) (p : List ℕ) (m : Awaits store_now s k p) (l : s.live ≡ live (history T) n) (u : s.user ≡ user (history T) n)
      (f : s.failures ≡ failures (history T) n) (st : s.stamp ≡ stamp (history T) n) (jg : s.judging ≡ judging (history T)) (lg : s.login ≡ login (history T) n) (mk : s.marks ≡ marks (history T) n)
      (vw : s.view ≡ view T.base (history T) n) where
    authorization : IsSession store_now s None → AgreesInAuthorization T.base (history T) n (context k.stamp) k.state
    authorization i = record {
      authorization = sym l ∙ i;
      user = m.user ∙ u;
      failures = rw (sym f) m.failures;
      credentials = keeps.agree.credentials;
      policy = rules;
      there = is_there;
      locked = λ d. ap is_some (held d);
      present = are_present;
      stamp = m.stamp ∙ st;
    }

    transaction : (o : Session) → (i : IsSession store_now s (Some o)) → Judges T.base (history T) n store_now (context k.stamp) k.state (Some o)
    transaction o i = transaction_judges T.base (history T) n store_now (context k.stamp) k.state o i.kept i.lies (record {
      live = sym l ∙ i.live;
      login = sym lg ∙ i.login;
      judged = i.judged ∙ jg;
      marks = λ q. i.marks q ∙ ap (λ ms. is_marked ms q) mk;
      view = i.view ∙ vw;
      policy = rules;
    })

    judged_for : (o : Option Session) → IsSession store_now s o → Judges T.base (history T) n store_now (context k.stamp) k.state o
    judged_for None i = authorization_judges T.base (history T) n store_now (context k.stamp) k.state (authorization i)
    judged_for (Some o) i = transaction o i

    pub judges : Judges T.base (history T) n store_now (context k.stamp) k.state k.session
    judges = judged_for k.session m.session

    -- the reply, if the line's event shows what became of it
    abbrev reply : LineOutcome → Reply
    reply w = reply_of w (context k.stamp) k.state judges.transaction (line_after k p)

    found_alike : (name : LoginName) → finds_by T name ≡ finds store_now policy name
    found_alike name =
        ap (λ q. visible class_of q name (present T.base (history T) name.maildrop)) (sym rules)
        ∙ ap (λ ms. visible class_of policy name ms) (sym (are_present name.maildrop))

    -- what became of the octets
    module _ (e : Event) (w : LineOutcome) (k' : Kept) (locks' : BTreeMap (List ℕ) ℕ)
        (may : w ≡ outcome.Failed → (has_newline p ≡ true) × (asks policy k.state judges.transaction (reading (line_after k p)) ≡ true))
        (is : k' ≡ answered k p (reply w) k'.session k'.output)
        (law : (more : List ℕ) → coming k.held (p ++ more) ≡ whole_line k'.held ++ coming k'.held (k'.pending ++ more))
        (became : BecomesIf (has_newline p) store_now policy k.state (line_after k p) (reply w) k.session k'.session)
        (follow : LocksFollow n k.session k'.session locks locks')
        (owes : OwesIf (has_newline p) store_now k'.session k'.output (reply w))
        (formed : is_formed T.log e ≡ true)
        (line_seen : has_newline p ≡ true → slice_get (cut s.stream) s.acted ≡ Some (line_after k p)
        → seen (given T e (Tagged (tag_of w))) n ≡ lined s (line_after k p) (reply_to_cut T.base (history T) n (line_after k p) (tag_of w)) (finds_by T))
        (line_records : has_newline p ≡ true → slice_get (cut s.stream) s.acted ≡ Some (line_after k p)
        → records T.base (history (given T e (Tagged (tag_of w)))) ≡ records T.base (line_entry T n (line_after k p) w ∷ history T))
        (part_seen : has_newline p ≡ false → w ≡ outcome.Done → seen (given T e (Tagged (tag_of w))) n ≡ s)
        (part_records : has_newline p ≡ false → w ≡ outcome.Done → records T.base (history (given T e (Tagged (tag_of w)))) ≡ records T.base (history T))
        (others : (q : ℕ) → eqb n q ≡ false → seen (given T e (Tagged (tag_of w))) q ≡ seen T q) where
      abbrev T' : Trace
      T' = given T e (Tagged (tag_of w))

      abbrev x : Cut
      x = line_after k p

      abbrev after : Contents
      after = held_if (has_newline p) w policy k.session (reading x) store_now

      no_line : has_newline p ≡ false → w ≡ outcome.Done
      no_line h = at w (λ g. (may g).0)
        where
          at : (v : LineOutcome) → (v ≡ outcome.Failed → has_newline p ≡ true) → v ≡ outcome.Done
          at outcome.Done g = refl
          at outcome.Failed g = absurd (true≢false (sym (g refl) ∙ h))

      next : has_newline p ≡ true → slice_get (cut s.stream) s.acted ≡ Some x
      next h = acts_next store_now s k k' p (reply w) m is law h

      said : reply_to_cut T.base (history T) n x (tag_of w) ≡ reply w
      said = judges.reply x w (λ g. (may g).1)

      seen_line : has_newline p ≡ true → seen T' n ≡ lined s x (reply w) (finds store_now policy)
      seen_line h = line_seen h (next h) ∙ (ap (λ r. lined s x r (finds_by T)) said ∙ lined_alike s x (reply w) (finds_by T) (finds store_now policy) found_alike)

      became_line : has_newline p ≡ true → Becomes store_now policy k.state x (reply w) k.session k'.session
      became_line h = subst (λ b. BecomesIf b store_now policy k.state x (reply w) k.session k'.session) h became

      -- the session's own name in force is the trace's
      sits_line : has_newline p ≡ true → IsSession (held_after w policy k.session (reading x) store_now) (lined s x (reply w) (finds store_now policy)) k'.session
      sits_line h =
          session_after store_now policy s x (reply w) w k.session k'.session sound m.session
          (subst (λ j. SessionAfter (is_quit (reading x)) (logs_in (reading x) (Says (reply w)) s.user) store_now policy j (reply w) k.session k'.session) m.judged
          (subst (λ o. SessionAfter (is_quit (reading x)) (logs_in (reading x) (Says (reply w)) o) store_now policy k.state.removals (reply w) k.session k'.session) m.user (became_line h)))

      -- the messages of a session that goes on stay
      stays_own : (quits : Bool) (logged : Option LoginName) → is_quit (reading x) ≡ quits → SessionAfter quits logged store_now policy k.state.removals (reply w) k.session k'.session
          → StayFor store_now (held_after w policy k.session (reading x) store_now) k'.session
      stays_own true logged q is = λ o e. absurd (no_some o (sym is ∙ e))
      stays_own false logged q is = λ o e y i f. subst (λ (c : Contents). In y c.messages) (sym (held_same w policy k.session (reading x) store_now q)) i

      owes_line : has_newline p ≡ true → OwesReply (held_after w policy k.session (reading x) store_now) k'.session k'.output (reply w)
      owes_line h =
          let r = subst (λ b. OwesIf b store_now k'.session k'.output (reply w)) h owes in
          record {
            owes = owes_on store_now (held_after w policy k.session (reading x) store_now) k'.session k'.output (bytes_of (reply w)) (stays_own _ _ refl (became_line h)) r.owes;
            serves = r.serves;
          }

      here : Matches after (seen T' n) k'
      here = ⊎_elim
          (λ h. subst (λ b. Matches (held_if b w policy k.session (reading x) store_now) (seen T' n) k') (sym h)
          (subst (λ y. Matches (held_after w policy k.session (reading x) store_now) y k') (sym (seen_line h))
          (line_heard store_now s k k' p (reply w) m is law (held_after w policy k.session (reading x) store_now) (finds store_now policy) h (sits_line h) (owes_line h)
          (judges.parts s l (finds store_now policy) x w))))
          (λ h. subst (λ b. Matches (held_if b w policy k.session (reading x) store_now) (seen T' n) k') (sym h)
          (subst (λ y. Matches store_now y k') (sym (part_seen h (no_line h)))
          (part_heard store_now s k k' p (reply w) m is law h (subst (λ b. BecomesIf b store_now policy k.state x (reply w) k.session k'.session) h became)
          (subst (λ b. OwesIf b store_now k'.session k'.output (reply w)) h owes))))
          (cases_Bool (has_newline p))

      agrees : Agree (records_of after) (records T.base (history T'))
      agrees = ⊎_elim
          (λ h. subst (λ b. Agree (records_of (held_if b w policy k.session (reading x) store_now)) (records T.base (history T'))) (sym h)
          (subst (λ R. Agree (records_of (held_after w policy k.session (reading x) store_now)) R) (sym (line_records h (next h)))
          (judges.agrees sound keeps.agree w x (line_entry T n x w).said)))
          (λ h. subst (λ b. Agree (records_of (held_if b w policy k.session (reading x) store_now)) (records T.base (history T'))) (sym h)
          (subst (λ R. Agree (records_of store_now) R) (sym (part_records h (no_line h))) keeps.agree))
          (cases_Bool (has_newline p))

      -- ---- other connections

      alone : (d : List ℕ) (q : ℕ) → holds_by (seen T n) d ≡ true → holds_by (seen T q) d ≡ true → n ≡ q
      alone d q h g = one_holder T.base (acts T) d n q h g

      mine : (o : Session) → k.session ≡ Some o → holds_by (seen T n) o.name.maildrop ≡ true
      mine o e =
          let i = subst (IsSession store_now s) e m.session in
          holding (seen T n) o.name.maildrop o.name (sym l ∙ i.live) (sym lg ∙ i.login) refl

      stays_line : (b : Bool) (d : List ℕ) → ((o : Session) → k.session ≡ Some o → o.name.maildrop ≡ d → ⊥) → (y : Keyed) → In y store_now.messages → y.message.maildrop ≡ d
          → In y (held_if b w policy k.session (reading x) store_now).messages
      stays_line true d apart y i f = stays_after w policy k.session (reading x) store_now d apart y i f
      stays_line false d apart y i f = i

      carried : (q : ℕ) → eqb n q ≡ false → (o : Option Kept) → IsKeptFor store_now (seen T q) o → IsKeptFor after (seen T q) o
      carried q ne o i = carry_kept store_now after (seen T q) o (λ z j. stays_line (has_newline p) z.name.maildrop (λ own e f.
          let both = alone z.name.maildrop q (subst (λ d. holds_by (seen T n) d ≡ true) f (mine own e)) (holding (seen T q) z.name.maildrop z.name j.live j.login refl) in
          true≢false (sym (subst (λ y. eqb n y ≡ true) both (eq-eqb n n refl)) ∙ ne))) i

      -- ---- locks

      same_login : (o : Session) → k.session ≡ Some o → (seen T' n).login ≡ (seen T n).login
      same_login o e = ⊎_elim
          (λ h. ap (λ (y : Seen). y.login) (seen_line h) ∙ (ap (λ name. login_after false name s.login) (judges.stays o e x w s.user) ∙ lg))
          (λ h. ap (λ (y : Seen). y.login) (part_seen h (no_line h)) ∙ lg)
          (cases_Bool (has_newline p))

      locked : (d : List ℕ) → get name_cmp locks' d ≡ holder (history T') d
      locked d = sym (holder_is T.base (acts T') d (get name_cmp locks' d)
          (locks_follow (seen T) (seen T') n others locks locks' (λ m. lock_found T.base (acts T) m (get name_cmp locks m) (sym (held m))) store_now after k.session k'.session
          (same_session store_now s (seen T n) k.session (sym l) (sym lg) (sym jg) (sym mk) (sym vw) m.session) here.session alone same_login follow d))

      -- one connection has moved to where the line leaves it
      pub line_moves : {V : Type 0} (Holds : V → Contents → Type 0) (o o' : Office V) → get nat_cmp o'.connections n ≡ Some k' → o'.locks ≡ locks' → Holds o'.vault after
          → Moves Holds o o' T store_now n T'
      line_moves Holds o o' kept same put = record {
        contents = after;
        held = put;
        agree = agrees;
        here = rw kept here;
        carried = λ q e i. carried q e (get nat_cmp o.connections q) i;
        locks = λ d. ap (λ l. get name_cmp l d) same ∙ locked d;
      }
