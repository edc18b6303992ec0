-- A spool file that is tried.
use Rattle.std.proofs.Common.{◌≡◌, ℕ, Bool, true, false, List, [], ◌∷◌, ◌++◌, refl, sym, ◌∙◌, ap, subst, inl, inr, length}
use Rattle.std.specs.Bool.{if◌then◌else◌}
use Rattle.vault.specs.Records.{Records}
use Rattle.vault.specs.Changes.{Contents}
use Rattle.office.specs.History.{Tag, Done, Failed, NoMemory, Entry}
use Rattle.office.specs.Events.{Tagged, Log, Trace}
use Rattle.office.specs.Events as event
use Rattle.office.specs.Trace.{history}
use Rattle.office.specs.Expected.{IsOutcome, shown_at}
use Rattle.office.specs.Outcomes.{Outcome, event_tag_of}
use Rattle.office.specs.Stands.{StandsFor, vault_of}
use Rattle.office.specs.Laws.{TakenIsSent}
use Rattle.office.specs.declared.office.Office.{Office}
use Rattle.serving.specs.declared.file_name.FileName.{FileName}
use Rattle.serving.specs.declared.files.Disposal.{Disposal}
use Rattle.serving.specs.Wires.{Told, ToldOfPorts}
use Rattle.serving.specs.Requests.{Exchanges, AreHeld, Asks, AsksNone, AsksMore, IsAnswering, IsAsked, AllStillAnswer, AllStillAsked}
use Rattle.adminhttp.specs.Sites.{Site}
use Rattle.serving.specs.declared.requests.Exchange.{Exchange}
use Rattle.serving.specs.Spools.{FileAct, WasRead, disposal_of, disposed, IsFiled}
use Rattle.office.specs.Taken.{trace_of, IsAdmitted}
use Rattle.serving.specs.Deposits.{IsOneFile, NoFile, OneFile, IsTried, named}
use Rattle.serving.specs.Served.{Owners, AreServed, AreSeated, Adds, IsServing, Serves, StillServes, Elsewhere, AddsEvents}
use Rattle.serving.specs.declared.links.Seat.{Seat}
use Rattle.serving.proofs.Keeping.{served_deposit, adds_deposit, served_command, events_command}
use Rattle.serving.proofs.Seating.{seated_same, seated_fewer}
use Rattle.serving.proofs.Staying.{deposit_same, fewer_command}

-- ---- the outcome of a deposit

module _ (B : Records) (L : Log) (G : List Entry) (d class id text : List ℕ) where
  -- a deposit is never ignored
  pub deposit_mark : (t : Tag) → event_tag_of (shown_at B L G (event.Deposit d class id text) t) ≡ Tagged t
  deposit_mark Done = refl
  deposit_mark Failed = refl
  deposit_mark NoMemory = refl

-- what a spool was told, if a test says whether a thing was done
pub filed_if : (n : FileName) (text : List ℕ) (d : Disposal) (before : List FileAct) (act : FileAct) (b : Bool) → disposed n d ≡ act ∷ []
    → IsFiled n text d before (if b then (before ++ WasRead n text ∷ []) ++ act ∷ [] else before ++ WasRead n text ∷ [])
filed_if n text d before act true e = inr (ap (λ xs. (before ++ WasRead n text ∷ []) ++ xs) (sym e))
filed_if n text d before act false e = inl refl

module _ {V S : Type 0} (Holds : V → Contents → Type 0) (Tells : S → List FileAct → Type 0) (T : Trace) (acts : List FileAct) where
  -- nothing happened
  pub tried_none : (office : Office V) (spool : S) → StandsFor Holds office T → Tells spool acts → IsTried Holds Tells T acts office spool
  tried_none office spool s h = record { log = T.log; acts_then = acts; stands = s; admitted = λ a. a; tells = h; one = NoFile }

  -- a deposit was answered, and what this says became of its file, or couldn't be done
  pub tried_one : (office : Office V) (spool : S) (lent : ℕ → ℕ) (n : FileName) (text read : List ℕ) (o : Outcome) (d : Disposal) (acts_then : List FileAct) → text ≡ read → d ≡ disposal_of o
      → IsOutcome T lent (event.Deposit n.maildrop n.class n.id text) o
      → StandsFor Holds office (trace_of T.base ((event.Deposit n.maildrop n.class n.id text, event_tag_of o) ∷ T.log))
      → IsAdmitted T (event.Deposit n.maildrop n.class n.id text) (event_tag_of o)
      → Tells spool acts_then → IsFiled n read d acts acts_then → IsTried Holds Tells T acts office spool
  tried_one office spool lent n text read o d acts_then same fate h s a k f =
      let e = event.Deposit n.maildrop n.class n.id text in
      let m : event_tag_of o ≡ Tagged h.tag = ap event_tag_of h.is ∙ deposit_mark T.base T.log (history T) n.maildrop n.class n.id text h.tag in
      let disposal_is : d ≡ disposal_of (shown_at T.base T.log (history T) e h.tag) = fate ∙ ap disposal_of h.is in
      record {
        log = (e, Tagged h.tag) ∷ T.log;
        acts_then = acts_then;
        stands = subst (λ x. StandsFor Holds office (trace_of T.base ((e, x) ∷ T.log))) m s;
        admitted = λ before. (subst (IsAdmitted T e) m a, before);
        tells = k;
        one = OneFile n.maildrop n.class n.id text h.tag acts_then
            (subst (λ x. IsFiled n text x acts acts_then) disposal_is (subst (λ x. IsFiled n x d acts acts_then) (sym same) f));
      }

-- ---- serving after it

-- what is said of links stays
record Remains (told : Told) (owner : Owners) (T : Trace) (L : Log) (elsewhere : Elsewhere) (seats : List Seat) : Type 0 where
  served : AreServed told owner T.base L
  seated : AreSeated owner (trace_of T.base L) seats seats
  adds : Adds owner T.base T.log L elsewhere told.accepted

-- with what happened to files since
abbrev with_acts : Elsewhere → List FileAct → Elsewhere
with_acts elsewhere acts = record { acts = acts; admin = elsewhere.admin; x = elsewhere.x }

remains : (told : Told) (owner : Owners) (T : Trace) (L : Log) (elsewhere : Elsewhere) (seats : List Seat) (acts : List FileAct) → acts ≡ elsewhere.acts
    → (L' : Log) (acts' : List FileAct) → IsOneFile (trace_of T.base L) acts L' acts'
    → Remains told owner T L elsewhere seats → Remains told owner T L' (with_acts elsewhere acts') seats
remains told owner T L elsewhere seats acts e _ _ NoFile r = subst (λ a. Remains told owner T L (with_acts elsewhere a) seats) (sym e) r
remains told owner T L elsewhere seats acts e _ _ (OneFile d class id text t acts' f) r = record {
  served = served_deposit told owner T.base L d class id text t r.served;
  seated = seated_same owner T.base L seats seats ((event.Deposit d class id text, Tagged t) ∷ L) (deposit_same T.base L d class id text t) r.seated;
  adds = adds_deposit owner T.base T.log L elsewhere acts' told.accepted d class id text t
      (subst (λ a. IsFiled (named d class id) text (disposal_of (shown_at T.base L (history (trace_of T.base L)) (event.Deposit d class id text) t)) a acts') e f) r.adds;
}

pub serves_tried : {V W S : Type 0} (Holds : V → Contents → Type 0) (Tells : W → ToldOfPorts → Type 0) (TellsFiles : S → List FileAct → Type 0) (T : Trace) (elsewhere : Elsewhere)
    (office office' : Office V) (wire : W) (spool : S) (seats : List Seat) (held : List Exchange) (site : Site) (s : IsServing Holds Tells T elsewhere office wire seats seats) → TakenIsSent
    → AreHeld elsewhere.admin elsewhere.x held → elsewhere.x.site ≡ site
    → IsTried Holds TellsFiles (trace_of T.base s.log) elsewhere.acts office' spool → Serves Holds Tells TellsFiles T office' wire spool seats held site
serves_tried Holds Tells TellsFiles T elsewhere office office' wire spool seats held site s law requests of_site k =
    let r = remains s.told s.owner T s.log elsewhere seats elsewhere.acts refl k.log k.acts_then k.one (record { served = s.served; seated = s.seated; adds = s.adds }) in
    record {
      elsewhere = with_acts elsewhere k.acts_then;
      tells = k.tells;
      is = record {
        log = k.log;
        told = s.told;
        owner = s.owner;
        stands = k.stands;
        admitted = k.admitted s.admitted;
        tells = s.tells;
        served = r.served;
        seated = r.seated;
        adds = r.adds;
      };
      sent = λ c. law (trace_of T.base k.log) (k.admitted s.admitted) c;
      requests = requests;
      of_site = of_site;
    }

-- ---- serving after requests

-- what commands leave of what is said of clients' links
record Leaves (told : Told) (owner : Owners) (T : Trace) (acts : List FileAct) (seats : List Seat) (L : Log) : Type 0 where
  served : AreServed told owner T.base L
  seated : AreSeated owner (trace_of T.base L) seats []
  events : AddsEvents owner T.base T.log L acts told.accepted

leaves_asked : (told : Told) (owner : Owners) (T : Trace) (acts : List FileAct) (seats : List Seat) (L L' : Log) → Asks L L' → Leaves told owner T acts seats L → Leaves told owner T acts seats L'
leaves_asked told owner T acts seats L _ AsksNone r = r
leaves_asked told owner T acts seats L _ (AsksMore command m M more) r =
    let k = leaves_asked told owner T acts seats L M more r in
    record {
      served = served_command told owner T.base M command m k.served;
      seated = seated_fewer owner T.base M seats [] ((event.Admin command, m) ∷ M) (fewer_command T.base M command m) k.seated;
      events = events_command owner T.base T.log M acts told.accepted command m k.events;
    }

-- requests were answered: the connections of no seats need be open then
pub serves_asked : {V W : Type 0} (Holds : V → Contents → Type 0) (Tells : W → ToldOfPorts → Type 0) (T : Trace) (elsewhere : Elsewhere)
    (office office' : Office V) (wire wire' : W) (seats : List Seat) (AreKept : Told → Exchanges → Type 0) (s : IsServing Holds Tells T elsewhere office wire seats [])
    (site : Site) (k : IsAsked Holds Tells site T.base (length T.log) s.log s.told office' wire' AreKept)
    → IsServing Holds Tells T (record { acts = elsewhere.acts; admin = k.is.told; x = k.x }) office' wire' seats []
serves_asked Holds Tells T elsewhere office office' wire wire' seats AreKept s site k =
    let r = leaves_asked s.told s.owner T elsewhere.acts seats s.log k.log k.grown (record { served = s.served; seated = s.seated; events = s.adds.events }) in
    record {
      log = k.log;
      told = s.told;
      owner = s.owner;
      stands = k.stands;
      admitted = k.admitted s.admitted;
      tells = k.is.tells;
      served = r.served;
      seated = r.seated;
      adds = record { events = r.events; requests = k.is.exchanged };
    }

-- links of the administration came
pub serves_answering : {V W : Type 0} (Holds : V → Contents → Type 0) (Tells : W → ToldOfPorts → Type 0) (T : Trace) (elsewhere : Elsewhere)
    (office : Office V) (wire wire' : W) (seats : List Seat) (AreKept : Told → Exchanges → Type 0) (s : IsServing Holds Tells T elsewhere office wire seats [])
    (k : IsAnswering Tells elsewhere.x T.base (length T.log) s.log s.told wire' AreKept)
    → IsServing Holds Tells T (record { acts = elsewhere.acts; admin = k.told; x = elsewhere.x }) office wire' seats []
serves_answering Holds Tells T elsewhere office wire wire' seats AreKept s k = record {
  log = s.log;
  told = s.told;
  owner = s.owner;
  stands = s.stands;
  admitted = s.admitted;
  tells = k.tells;
  served = s.served;
  seated = s.seated;
  adds = record { events = s.adds.events; requests = k.exchanged };
}

-- ---- in the midst of a turn

-- It serves: the links of these seats and of the administration, and the files of a spool.
pub record ServesSoFar {V W S : Type 0} (Holds : V → Contents → Type 0) (Tells : W → ToldOfPorts → Type 0) (TellsFiles : S → List FileAct → Type 0) (T : Trace) (site : Site)
    (office : Office V) (wire : W) (spool : S) (seats these : List Seat) (held : List Exchange) : Type 0 where
  pub elsewhere : Elsewhere
  pub tells : TellsFiles spool elsewhere.acts
  pub is : IsServing Holds Tells T elsewhere office wire seats these
  pub requests : AreHeld elsewhere.admin elsewhere.x held
  pub of_site : elsewhere.x.site ≡ site

module _ {V W S : Type 0} (Holds : V → Contents → Type 0) (IsClean : V → Type 0) (Tells : W → ToldOfPorts → Type 0) (TellsFiles : S → List FileAct → Type 0) (T : Trace) (site : Site)
    (spool : S) where
  -- as a turn begins
  pub so_far_first : (o : Office V) (w : W) (seats : List Seat) (held : List Exchange) → Serves Holds Tells TellsFiles T o w spool seats held site
      → ServesSoFar Holds Tells TellsFiles T site o w spool seats seats held
  so_far_first o w seats held s = record { elsewhere = s.elsewhere; tells = s.tells; is = s.is; requests = s.requests; of_site = s.of_site }

  -- after a part for the clients' links
  pub so_far_served : (o o1 : Office V) (w w1 : W) (seats these seats1 these1 : List Seat) (held : List Exchange) → StillServes Holds IsClean Tells o w seats these o1 w1 seats1 these1
      → IsClean (vault_of o1) → ServesSoFar Holds Tells TellsFiles T site o w spool seats these held → ServesSoFar Holds Tells TellsFiles T site o1 w1 spool seats1 these1 held
  so_far_served o o1 w w1 seats these seats1 these1 held step k s = record {
    elsewhere = s.elsewhere;
    tells = s.tells;
    is = step T s.elsewhere s.is k;
    requests = s.requests;
    of_site = s.of_site;
  }

  -- after links of the administration came
  pub so_far_came : (o o1 : Office V) (w w1 : W) (seats : List Seat) (held held1 : List Exchange) → o1 ≡ o → AllStillAnswer Tells w held w1 held1
      → ServesSoFar Holds Tells TellsFiles T site o w spool seats [] held → ServesSoFar Holds Tells TellsFiles T site o1 w1 spool seats [] held1
  so_far_came o o1 w w1 seats held held1 same step s =
      let k = step s.elsewhere.x T.base (length T.log) s.is.log s.is.told
      (record { told = s.elsewhere.admin; tells = s.is.tells; exchanged = s.is.adds.requests; held = s.requests }) in
      record {
        elsewhere = record { acts = s.elsewhere.acts; admin = k.told; x = s.elsewhere.x };
        tells = s.tells;
        is = subst (λ q. IsServing Holds Tells T (record { acts = s.elsewhere.acts; admin = k.told; x = s.elsewhere.x }) q w1 seats []) (sym same)
            (serves_answering Holds Tells T s.elsewhere o w w1 seats (λ told x. AreHeld told x held1) s.is k);
        requests = k.held;
        of_site = s.of_site;
      }

  -- after links of the administration were served
  pub so_far_asked : (o o1 : Office V) (w w1 : W) (seats : List Seat) (held held1 : List Exchange) → AllStillAsked Holds IsClean Tells site o w held o1 w1 held1 → IsClean (vault_of o1)
      → ServesSoFar Holds Tells TellsFiles T site o w spool seats [] held → ServesSoFar Holds Tells TellsFiles T site o1 w1 spool seats [] held1
  so_far_asked o o1 w w1 seats held held1 step clean s =
      let k = step T.base (length T.log) s.is.log s.is.told
      (record {
        log = s.is.log;
        x = s.elsewhere.x;
        of_site = s.of_site;
        stands = s.is.stands;
        admitted = λ before. before;
        grown = AsksNone;
        is = record { told = s.elsewhere.admin; tells = s.is.tells; exchanged = s.is.adds.requests; held = s.requests };
      }) clean in
      record {
        elsewhere = record { acts = s.elsewhere.acts; admin = k.is.told; x = k.x };
        tells = s.tells;
        is = serves_asked Holds Tells T s.elsewhere o o1 w w1 seats (λ told x. AreHeld told x held1) s.is site k;
        requests = k.is.held;
        of_site = k.of_site;
      }

  -- after a file was tried
  pub so_far_tried : (o o1 : Office V) (w w1 : W) (spool1 : S) (seats seats1 : List Seat) (held : List Exchange) → TakenIsSent → w1 ≡ w → seats1 ≡ seats
      → ((U : Trace) (acts : List FileAct) → StandsFor Holds o U → TellsFiles spool acts → IsClean (vault_of o1) → IsTried Holds TellsFiles U acts o1 spool1) → IsClean (vault_of o1)
      → ServesSoFar Holds Tells TellsFiles T site o w spool seats seats held → Serves Holds Tells TellsFiles T o1 w1 spool1 seats1 held site
  so_far_tried o o1 w w1 spool1 seats seats1 held law same_wire same_seats step k s =
      let tried = step (trace_of T.base s.is.log) s.elsewhere.acts s.is.stands s.tells k in
      subst (λ q. Serves Holds Tells TellsFiles T o1 q spool1 seats1 held site) (sym same_wire)
      (subst (λ q. Serves Holds Tells TellsFiles T o1 w spool1 q held site) (sym same_seats)
      (serves_tried Holds Tells TellsFiles T s.elsewhere o o1 w spool1 seats held site s.is law s.requests s.of_site tried))
