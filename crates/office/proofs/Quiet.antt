-- A deposit or a command on a trace: it leaves connections and rules alone, and what comes of it is one of three things.
use Rattle.std.proofs.Common.{◌≡◌, ℕ, Bool, true, false, true≢false, List, [], ◌∷◌, Option, refl, sym, ◌∙◌, ap, subst, Result, Ok, Err, string_bytes, nat_cmp}
use Rattle.std.specs.Prelude.{⊤}
use Rattle.std.specs.BTreeMap.{get}
use Rattle.creds.specs.declared.login_name.LoginName.{LoginName}
use Rattle.vault.specs.declared.record.Message.{Message}
use Rattle.vault.specs.Records.{Records, Agree, IsSound}
use Rattle.vault.specs.Changes.{Contents, records_of}
use Rattle.vault.specs.Calls.{IsAnswer, has_grown}
use Rattle.vault.specs.declared.fault.VaultFault.{VaultFault}
use Rattle.vault.specs.declared.fault.VaultFault.TheVariants as fault
use Rattle.session.specs.declared.removals.Removals.{Removals}
use Rattle.office.specs.Answers.{AdminCommand, ListMaildrops, ShowMaildrop, AddMaildrop, DropMaildrop, ListClerks, ShowClerk, PutClerk, DropClerk, ShowPolicy, SetPolicy, ListGroups}
use Rattle.office.specs.Answers.{ListSessions, EndSession, Explain}
use Rattle.office.specs.History.{Act, Administer, Tag, Done, Failed, NoMemory, Silence, Entry, in_force, is_done}
use Rattle.office.specs.Connections.{setting, connected, closing, acted, serving, sent, user, failures}
use Rattle.office.specs.Sessions.{live, login, marks, view, holder, records}
use Rattle.office.specs.Replying.{stamp}
use Rattle.office.specs.Answered.{name_cmp}
use Rattle.office.specs.Told.{told}
use Rattle.office.specs.Events.{Limits, Event, EventTag, Tagged, Trace, given}
use Rattle.office.specs.Events as event
use Rattle.office.specs.Log.{opened, limits_in, moment, stream, taken, clock}
use Rattle.office.specs.Trace.{acts, history}
use Rattle.office.specs.Formed.{is_formed, are_formed}
use Rattle.office.specs.Expected.{IsOutcome, shown_at, may_show, outcome_of}
use Rattle.office.specs.Outcomes.{Outcome, event_tag_of, HasCause}
use Rattle.office.specs.Outcomes as outcome
use Rattle.office.specs.Stands.{Seen, seen, Keeps, StandsFor}
use Rattle.office.specs.declared.office.Office.{Office}
use Rattle.office.proofs.Standing.{counters, Stays, kept_on}
use Rattle.office.proofs.Beginning.{begins_on, begun_on}

-- a command that leaves connections alone
abbrev pub LeavesAlone : AdminCommand → Type 0
LeavesAlone (EndSession n) = ⊥
LeavesAlone _ = ⊤

-- one that leaves the rules alone, too
abbrev pub LeavesRules : AdminCommand → Type 0
LeavesRules (SetPolicy policy) = ⊥
LeavesRules command = LeavesAlone command

-- a deposit, or such a command
abbrev pub IsQuiet : Event → Type 0
IsQuiet (event.Deposit d class id text) = ⊤
IsQuiet (event.Admin command) = LeavesAlone command
IsQuiet _ = ⊥

-- the same, but the policy isn't set
abbrev pub IsStill : Event → Type 0
IsStill (event.Deposit d class id text) = ⊤
IsStill (event.Admin command) = LeavesRules command
IsStill _ = ⊥

-- ---- what stays

-- what a history says of a connection, of greetings and of a lock
record Left : Type 0 where
  connected : Bool
  closing : Bool
  live : Bool
  acted : ℕ
  serving : Bool
  sent : List ℕ
  user : Option LoginName
  failures : ℕ
  stamp : List ℕ
  login : Option LoginName
  marks : List ℕ
  view : List Message
  office : ℕ × List ℕ × Removals
  lock : Option ℕ

abbrev left_at : Records → List Entry → ℕ → List ℕ → Left
left_at B G q d = record {
  connected = connected G q;
  closing = closing G q;
  live = live G q;
  acted = acted G q;
  serving = serving G q;
  sent = sent G q;
  user = user G q;
  failures = failures G q;
  stamp = stamp G q;
  login = login G q;
  marks = marks G q;
  view = view B G q;
  office = setting G;
  lock = holder G d;
}

abbrev left : Records → List (Act × Tag) → ℕ → List ℕ → Left
left B H q d = left_at B (told B H) q d

command_left : (B : Records) (H : List (Act × Tag)) (command : AdminCommand) (t : Tag) (q : ℕ) (d : List ℕ) → LeavesAlone command → left B ((Administer command, t) ∷ H) q d ≡ left B H q d
command_left B H ListMaildrops t q m h = refl
command_left B H (ShowMaildrop d) t q m h = refl
command_left B H (AddMaildrop d) t q m h = refl
command_left B H (DropMaildrop d) t q m h = refl
command_left B H ListClerks t q m h = refl
command_left B H (ShowClerk name) t q m h = refl
command_left B H (PutClerk name credential) t q m h = refl
command_left B H (DropClerk name) t q m h = refl
command_left B H ShowPolicy t q m h = refl
command_left B H (SetPolicy policy) t q m h = refl
command_left B H ListGroups t q m h = refl
command_left B H ListSessions t q m h = refl
command_left B H (EndSession n) t q m h = absurd h
command_left B H (Explain clerk d class action) t q m h = refl

event_left : (T : Trace) (e : Event) (t : Tag) (q : ℕ) (m : List ℕ) → IsQuiet e → left T.base (acts (given T e (Tagged t))) q m ≡ left T.base (acts T) q m
event_left T (event.Deposit d class id text) t q m h = refl
event_left T (event.Admin command) t q m h = command_left T.base (acts T) command t q m h
event_left T _ t q m h = absurd h

record Heard : Type 0 where
  octets : List ℕ
  took : ℕ
  clock : ℕ
  number : ℕ × ℕ
  limits : Limits

abbrev heard : Trace → ℕ → Heard
heard T q = record { octets = stream T.log q; took = taken T.log q; clock = clock T.log q; number = (opened T.log, moment T.log); limits = limits_in T.log }

event_heard : (T : Trace) (e : Event) (t : Tag) (q : ℕ) → IsQuiet e → heard (given T e (Tagged t)) q ≡ heard T q
event_heard T (event.Deposit d class id text) t q h = refl
event_heard T (event.Admin command) t q h = refl
event_heard T _ t q h = absurd h

abbrev seen_of : Heard → Left → Seen
seen_of x l = record {
  connected = l.connected;
  closing = l.closing;
  live = l.live;
  stream = x.octets;
  acted = l.acted;
  serving = l.serving;
  sent = l.sent;
  taken = x.took;
  user = l.user;
  failures = l.failures;
  stamp = l.stamp;
  judging = l.office.2;
  login = l.login;
  marks = l.marks;
  view = l.view;
  clock = x.clock;
}

-- what the trace says of each connection
pub seen-quiet : (T : Trace) (e : Event) (t : Tag) (q : ℕ) → IsQuiet e → seen (given T e (Tagged t)) q ≡ seen T q
seen-quiet T e t q h =
    ap (λ x. seen_of x (left T.base (acts (given T e (Tagged t))) q [])) (event_heard T e t q h)
    ∙ ap (λ l. seen_of (heard T q) l) (event_left T e t q [] h)

-- A store holds the records of a trace's history.
pub record Stored (Holds : Contents → Type 0) (T : Trace) : Type 0 where
  pub contents : Contents
  pub held : Holds contents
  pub agree : Agree (records_of contents) (records T.base (history T))
  pub sound : IsSound T.base
  pub formed : are_formed T.log ≡ true

-- What the store holds after an event: it agrees with the longer trace, and the messages that it held stay.
pub record Carries (After : Contents → Type 0) (before : Contents) (T : Trace) (e : Event) (t : Tag) : Type 0 where
  pub stored : Stored After (given T e (Tagged t))
  pub stays : Stays before stored.contents

-- only the store and the policy may have changed
pub quiet : {V : Type 0} (Holds : V → Contents → Type 0) (o o' : Office V) (T : Trace) (e : Event) (t : Tag) → IsQuiet e → (st : StandsFor Holds o T)
    → Carries (Holds o'.vault) st.keeps.contents T e t → o'.policy ≡ in_force T.base (history (given T e (Tagged t))) → o'.boot ≡ o.boot → string_bytes o'.host ≡ string_bytes o.host
    → o'.limits ≡ o.limits → counters o' ≡ counters o → ((q : ℕ) → get nat_cmp o'.connections q ≡ get nat_cmp o.connections q)
    → ((d : List ℕ) → get name_cmp o'.locks d ≡ get name_cmp o.locks d) → StandsFor Holds o' (given T e (Tagged t))
quiet Holds o o' T e t h st k p b s l n connections locks =
    let T' = given T e (Tagged t) in
    let office : setting (history T') ≡ setting (history T) = ap (λ (x : Left). x.office) (event_left T e t 0 [] h) in
    let number : (opened T'.log, moment T'.log) ≡ (opened T.log, moment T.log) = ap (λ (x : Heard). x.number) (event_heard T e t 0 h) in
    let limits : limits_in T'.log ≡ limits_in T.log = ap (λ (x : Heard). x.limits) (event_heard T e t 0 h) in
    record {
      keeps = record { contents = k.stored.contents; held = k.stored.held; agree = k.stored.agree; sound = k.stored.sound; formed = k.stored.formed; began = begun_on e (Tagged t) T.log st.began };
      began = begins_on e (Tagged t) T.log st.began;
      policy = p;
      boot = b ∙ (st.boot ∙ ap (λ (x : ℕ × List ℕ × Removals). x.0) (sym office));
      host = s ∙ (st.host ∙ ap (λ (x : ℕ × List ℕ × Removals). x.1) (sym office));
      judged = ap (λ (x : Limits). x.removals) l ∙ (st.judged ∙ ap (λ (x : ℕ × List ℕ × Removals). x.2) (sym office));
      limits = l ∙ (st.limits ∙ sym limits);
      moment = ap (λ (x : ℕ × ℕ). x.1) n ∙ (st.moment ∙ ap (λ (x : ℕ × ℕ). x.1) (sym number));
      numbered = λ q some. let same : opened T'.log ≡ opened T.log = ap (λ (x : ℕ × ℕ). x.0) number in rw same (st.numbered q (rw (connections q) at some));
      opened = ap (λ (x : ℕ × ℕ). x.0) n ∙ (st.opened ∙ ap (λ (x : ℕ × ℕ). x.0) (sym number));
      connections = λ q. rw (seen-quiet T e t q h, connections q) (kept_on st.keeps.contents k.stored.contents (seen T q) (get nat_cmp o.connections q) k.stays (st.connections q));
      locks = λ d. locks d ∙ (st.locks d ∙ sym (ap (λ (x : Left). x.lock) (event_left T e t 0 d h)));
    }

-- ---- what the store keeps

-- contents that agree with the history of the longer trace
pub keeps_with : {Before After : Contents → Type 0} (T : Trace) (e : Event) (t : Tag) (c : Contents) (k : Keeps Before T) → Stays k.contents c → After c
    → Agree (records_of c) (records T.base (history (given T e (Tagged t)))) → is_formed T.log e ≡ true → Carries After k.contents T e t
keeps_with T e t c k stays h a formed = record {
  stored = record { contents = c; held = h; agree = a; sound = k.sound; formed = rw formed k.formed };
  stays = stays;
}

-- the same contents, if the history has the same records
pub keeps_same : {Before After : Contents → Type 0} (T : Trace) (e : Event) (t : Tag) (k : Keeps Before T) → After k.contents
    → records T.base (history (given T e (Tagged t))) ≡ records T.base (history T) → is_formed T.log e ≡ true → Carries After k.contents T e t
keeps_same T e t k h same formed = keeps_with T e t k.contents k (λ x i. i) h (rw same k.agree) formed

-- an act that wasn't done changes no record
silent_command : (B : Records) (G : List Entry) (command : AdminCommand) (t : Tag) → LeavesAlone command → is_done t ≡ false
    → records B (record { act = Administer command; tag = t; said = Silence } ∷ G) ≡ records B G
silent_command B G ListMaildrops t h f = refl
silent_command B G (ShowMaildrop d) t h f = refl
silent_command B G (AddMaildrop d) t h f = refl
silent_command B G (DropMaildrop d) t h f = refl
silent_command B G ListClerks t h f = refl
silent_command B G (ShowClerk name) t h f = refl
silent_command B G (PutClerk name credential) t h f = refl
silent_command B G (DropClerk name) t h f = refl
silent_command B G ShowPolicy t h f = refl
silent_command B G (SetPolicy policy) Done h f = absurd (true≢false f)
silent_command B G (SetPolicy policy) Failed h f = refl
silent_command B G (SetPolicy policy) NoMemory h f = refl
silent_command B G ListGroups t h f = refl
silent_command B G ListSessions t h f = refl
silent_command B G (EndSession n) t h f = absurd h
silent_command B G (Explain clerk d class action) t h f = refl

failed_records : (T : Trace) (e : Event) → IsQuiet e → records T.base (history (given T e (Tagged Failed))) ≡ records T.base (history T)
failed_records T (event.Deposit d class id text) h = refl
failed_records T (event.Admin command) h = silent_command T.base (history T) command Failed h refl
failed_records T _ h = absurd h

lacking_records : (T : Trace) (e : Event) → IsQuiet e → records T.base (history (given T e (Tagged NoMemory))) ≡ records T.base (history T)
lacking_records T (event.Deposit d class id text) h = refl
lacking_records T (event.Admin command) h = silent_command T.base (history T) command NoMemory h refl
lacking_records T _ h = absurd h

-- ---- what became of an event

-- it was answered what the trace says for its tag, the store keeps the trace with it, and that it failed has its cause
pub record Became (After : Contents → Type 0) (before : Contents) (T : Trace) (e : Event) (grown : Bool) (o : Outcome) : Type 0 where
  pub tag : Tag
  pub is : o ≡ shown_at T.base T.log (history T) e tag
  pub carries : Carries After before T e tag
  pub cause : tag ≡ Failed → grown ≡ true

pub mark-shown : (T : Trace) (e : Event) (t : Tag) → IsQuiet e → event_tag_of (shown_at T.base T.log (history T) e t) ≡ Tagged t
mark-shown T (event.Deposit d class id text) Done h = refl
mark-shown T (event.Deposit d class id text) Failed h = refl
mark-shown T (event.Deposit d class id text) NoMemory h = refl
mark-shown T (event.Admin command) Done h = refl
mark-shown T (event.Admin command) Failed h = refl
mark-shown T (event.Admin command) NoMemory h = refl
mark-shown T _ t h = absurd h

may-quiet : (T : Trace) (e : Event) (t : Tag) → IsQuiet e → may_show T e t ≡ true
may-quiet T (event.Deposit d class id text) Done h = refl
may-quiet T (event.Deposit d class id text) Failed h = refl
may-quiet T (event.Deposit d class id text) NoMemory h = refl
may-quiet T (event.Admin command) Done h = refl
may-quiet T (event.Admin command) Failed h = refl
may-quiet T (event.Admin command) NoMemory h = refl
may-quiet T _ t h = absurd h

never-ignored : (T : Trace) (lent : ℕ → ℕ) (e : Event) (t : Tag) → IsQuiet e → shown_at T.base T.log (history T) e t ≡ outcome_of T lent e t
never-ignored T lent (event.Deposit d class id text) t h = refl
never-ignored T lent (event.Admin command) t h = refl
never-ignored T lent _ t h = absurd h

has-cause : (before now : ℕ) (T : Trace) (e : Event) (t : Tag) → IsQuiet e → (t ≡ Failed → has_grown before now ≡ true)
    → HasCause before now (shown_at T.base T.log (history T) e t)
has-cause before now T (event.Deposit d class id text) Done h f = tt
has-cause before now T (event.Deposit d class id text) Failed h f = f refl
has-cause before now T (event.Deposit d class id text) NoMemory h f = tt
has-cause before now T (event.Admin command) Done h f = tt
has-cause before now T (event.Admin command) Failed h f = f refl
has-cause before now T (event.Admin command) NoMemory h f = tt
has-cause before now T _ t h f = absurd h

-- the rules stay in force
command_rules : (B : Records) (H : List (Act × Tag)) (command : AdminCommand) (t : Tag) → LeavesRules command → in_force B (told B ((Administer command, t) ∷ H)) ≡ in_force B (told B H)
command_rules B H (SetPolicy policy) t h = absurd h
command_rules B H _ t h = refl

pub still_rules : (T : Trace) (e : Event) (t : Tag) → IsStill e → in_force T.base (history (given T e (Tagged t))) ≡ in_force T.base (history T)
still_rules T (event.Deposit d class id text) t h = refl
still_rules T (event.Admin command) t h = command_rules T.base (acts T) command t h
still_rules T _ t h = absurd h

leaves_alone : (command : AdminCommand) → LeavesRules command → LeavesAlone command
leaves_alone (SetPolicy policy) h = absurd h
leaves_alone _ h = h

pub still_quiet : (e : Event) → IsStill e → IsQuiet e
still_quiet (event.Deposit d class id text) h = tt
still_quiet (event.Admin command) h = leaves_alone command h
still_quiet _ h = absurd h

module _ {V : Type 0} (Holds : V → Contents → Type 0) (o o' : Office V) (T : Trace) (e : Event) (grown : Bool) (w : Outcome) where
  -- whatever rules are in force then
  pub became-ruled : IsQuiet e → (st : StandsFor Holds o T) → Became (Holds o'.vault) st.keeps.contents T e grown w
      → ((t : Tag) → event_tag_of w ≡ Tagged t → o'.policy ≡ in_force T.base (history (given T e (Tagged t)))) → o'.boot ≡ o.boot
      → string_bytes o'.host ≡ string_bytes o.host → o'.limits ≡ o.limits → counters o' ≡ counters o → ((q : ℕ) → get nat_cmp o'.connections q ≡ get nat_cmp o.connections q)
      → ((d : List ℕ) → get name_cmp o'.locks d ≡ get name_cmp o.locks d) → StandsFor Holds o' (given T e (event_tag_of w))
  became-ruled h st b p boot host l n connections locks =
      let m = ap event_tag_of b.is ∙ mark-shown T e b.tag h in
      subst (λ (m : EventTag). StandsFor Holds o' (given T e m)) (sym m) (quiet Holds o o' T e b.tag h st b.carries (p b.tag m) boot host l n connections locks)

module _ {After : Contents → Type 0} {before : Contents} (T : Trace) (e : Event) (grown : Bool) (w : Outcome) (h : IsQuiet e) (b : Became After before T e grown w) where
  pub became-outcome : (lent : ℕ → ℕ) → IsOutcome T lent e w
  became-outcome lent = record { tag = b.tag; may = may-quiet T e b.tag h; is = b.is ∙ never-ignored T lent e b.tag h }

pub became-cause : {After : Contents → Type 0} {c : Contents} (before now : ℕ) (T : Trace) (e : Event) (w : Outcome) → IsQuiet e → Became After c T e (has_grown before now) w
    → HasCause before now w
became-cause before now T e w h b = subst (HasCause before now) (sym b.is) (has-cause before now T e b.tag h b.cause)

-- ---- a call of the vault

never_failed : Done ≡ Failed → ⊥
never_failed e = cc

never_failed_here : NoMemory ≡ Failed → ⊥
never_failed_here e = cc

shown-lacking : (T : Trace) (e : Event) → IsQuiet e → outcome.NoMemory ≡ shown_at T.base T.log (history T) e NoMemory
shown-lacking T (event.Deposit d class id text) h = refl
shown-lacking T (event.Admin command) h = refl
shown-lacking T _ h = absurd h

shown-failed : (T : Trace) (e : Event) → IsQuiet e → outcome.Failed ≡ shown_at T.base T.log (history T) e Failed
shown-failed T (event.Deposit d class id text) h = refl
shown-failed T (event.Admin command) h = refl
shown-failed T _ h = absurd h

-- want of memory
pub lacked : {Before After : Contents → Type 0} (T : Trace) (e : Event) (grown : Bool) → IsQuiet e → is_formed T.log e ≡ true → (k : Keeps Before T) → After k.contents
    → Became After k.contents T e grown outcome.NoMemory
lacked T e grown h formed k held = record {
  tag = NoMemory;
  is = shown-lacking T e h;
  carries = keeps_same T e NoMemory k held (lacking_records T e h) formed;
  cause = λ f. absurd (never_failed_here f);
}

pub refused : {Before After : Contents → Type 0} (T : Trace) (e : Event) (grown : Bool) → IsQuiet e → is_formed T.log e ≡ true → (k : Keeps Before T) → After k.contents
    → grown ≡ true → Became After k.contents T e grown outcome.Failed
refused T e grown h formed k held g = record {
  tag = Failed;
  is = shown-failed T e h;
  carries = keeps_same T e Failed k held (failed_records T e h) formed;
  cause = λ f. g;
}

pub done : {After : Contents → Type 0} {before : Contents} (T : Trace) (e : Event) (grown : Bool) (w : Outcome) → w ≡ shown_at T.base T.log (history T) e Done
    → Carries After before T e Done → Became After before T e grown w
done T e grown w is k = record { tag = Done; is = is; carries = k; cause = λ f. absurd (never_failed f) }

-- An answered call is the expected one, or the store refused, or memory did.
pub called : {A : Type 0} {Before After : Contents → Type 0} (T : Trace) (e : Event) (grown : Bool) → IsQuiet e → is_formed T.log e ≡ true → (k : Keeps Before T)
    → (see : Result A VaultFault → Outcome) (held : Result A VaultFault → Type 0) (expected answered : Result A VaultFault)
    → IsAnswer expected answered → held answered → (held (Err fault.Store) → After k.contents) → (held (Err fault.NoMemory) → After k.contents)
    → see (Err fault.Store) ≡ outcome.Failed → see (Err fault.NoMemory) ≡ outcome.NoMemory
    → see expected ≡ shown_at T.base T.log (history T) e Done → (held expected → Carries After k.contents T e Done)
    → (answered ≡ Err fault.Store → grown ≡ true) → Became After k.contents T e grown (see answered)
called {A} {Before} {After} T e grown h formed k see held expected answered a l store memory s m x keep cause = at answered a l cause
  where
    as_expected : (r : Result A VaultFault) → expected ≡ r → held r → Became After k.contents T e grown (see r)
    as_expected r q l = done T e grown (see r) (ap see (sym q) ∙ x) (keep (subst held (sym q) l))

    at : (r : Result A VaultFault) → IsAnswer expected r → held r → (r ≡ Err fault.Store → grown ≡ true) → Became After k.contents T e grown (see r)
    at (Ok y) a l cause = as_expected (Ok y) a l
    at (Err fault.Store) a l cause = rw s (refused T e grown h formed k (store l) (cause refl))
    at (Err fault.NoMemory) a l cause = rw m (lacked T e grown h formed k (memory l))
    at (Err fault.NoMaildrop) a l cause = as_expected (Err fault.NoMaildrop) a l
    at (Err fault.Conflict) a l cause = as_expected (Err fault.Conflict) a l
    at (Err fault.Full) a l cause = as_expected (Err fault.Full) a l
    at (Err fault.NotEmpty) a l cause = as_expected (Err fault.NotEmpty) a l
    at (Err fault.NotOurs) a l cause = as_expected (Err fault.NotOurs) a l
    at (Err fault.OldVersion) a l cause = as_expected (Err fault.OldVersion) a l
    at (Err fault.NoClerk) a l cause = as_expected (Err fault.NoClerk) a l
