-- That requests of the administration are answered: what is written on a link is a beginning of the response to what was read from that very
-- link, and a command's response is that of the answer which its own event was given.
use Rattle.std.specs.Prelude.{◌≡◌, ◌⊎◌, ◌≤◌, ◌<◌, ℕ, false, List, [], ◌∷◌, ◌++◌, length, take, Option, Some, None, Err, Ok, ◌==◌, if◌then◌else◌}
use Rattle.std.specs.List.{All, AllPairs}
use Rattle.vault.specs.Records.{Records}
use Rattle.vault.specs.Changes.{Contents}
use Rattle.policy.specs.declared.fault.PolicyFault.{PolicyFault}
use Rattle.office.specs.History.{Tag, Done, Failed, NoMemory}
use Rattle.office.specs.Answers.{AdminCommand}
use Rattle.office.specs.Events.{EventTag, Tagged, Log}
use Rattle.office.specs.Events as event
use Rattle.office.specs.Log.{access_in}
use Rattle.office.specs.Outcomes.{Outcome}
use Rattle.office.specs.Outcomes as outcome
use Rattle.office.specs.Trace.{history}
use Rattle.office.specs.Told.{administered}
use Rattle.office.specs.Taken.{trace_of, AreAdmittedBy}
use Rattle.office.specs.Stands.{StandsFor, vault_of}
use Rattle.office.specs.declared.office.Office.{Office}
use Rattle.adminhttp.specs.Request.{IsRequest}
use Rattle.adminhttp.specs.Sites.{Site}
use Rattle.adminhttp.specs.Responses.{answer_response, fault_response, refusal_response}
use Rattle.adminhttp.specs.declared.refusal.Refusal.{Refusal}
use Rattle.adminhttp.specs.declared.refusal.Refusal.TheVariants.{StoreFailed, OutOfMemory}
use Rattle.adminhttp.specs.declared.no_command.NoCommand.TheVariants.{More, Bad, BadPolicy}
use Rattle.serving.specs.Wires.{Told, ToldOfPorts}
use Rattle.serving.specs.declared.wire.Link.{Link}
use Rattle.serving.specs.declared.requests.Response.{Response}
use Rattle.serving.specs.declared.requests.Response.TheVariants as kept
use Rattle.serving.specs.declared.requests.Exchange.{Exchange}

-- ---- responses

-- the response to a command that was given after this log, by what its event showed; want of memory may stand in place of an answer's
abbrev pub IsAnswer : Records → Log → AdminCommand → Tag → (response : List ℕ) → Type 0
IsAnswer B L command Done response =
    (response ≡ answer_response (administered B (history (trace_of B L)) command)) ⊎ (response ≡ refusal_response OutOfMemory)
IsAnswer B L command Failed response = response ≡ refusal_response StoreFailed
IsAnswer B L command NoMemory response = response ≡ refusal_response OutOfMemory

-- A response to what was read from a link: that of its refusal, or of its policy's fault; or that of its command, whose own event stands in the
-- log after so many others (`place`). Want of memory may stand in place of each.
pub data IsResponse (site : Site) (B : Records) (L : Log) (read : List ℕ) : (place : Option ℕ) → (response : List ℕ) → Type 0 where
  ToRefusal : (refusal : Refusal) (newer older : Log)
      → IsRequest site (access_in older) read (Err (Bad refusal)) → L ≡ newer ++ older
      → IsResponse site B L read None (refusal_response refusal)
  ToFault : (fault : PolicyFault) (newer older : Log)
      → IsRequest site (access_in older) read (Err (BadPolicy fault)) → L ≡ newer ++ older
      → IsResponse site B L read None (fault_response fault)
  ForMemory : IsResponse site B L read None (refusal_response OutOfMemory)
  ToCommand : (command : AdminCommand) (t : Tag) (newer older : Log) (response : List ℕ)
      → IsRequest site (access_in older) read (Ok command)
      → L ≡ newer ++ (event.Admin command, Tagged t) ∷ older → IsAnswer B older command t response
      → IsResponse site B L read (Some (length older)) response

-- ---- exchanges

-- the administration's site; and of each link's number: its response, once it has one, and the
-- place of its command's event in the log
pub record Exchanges : Type 0 where
  pub site : Site
  pub response : ℕ → Option (List ℕ)
  pub place : ℕ → Option ℕ

-- of one link: nothing is written before there is a response, and then only a beginning of it
abbrev pub IsExchange : Site → Records → Log → (response : Option (List ℕ)) (place : Option ℕ) (read written : List ℕ) → Type 0
IsExchange site B L None place read written = (place ≡ None) × (written ≡ [])
IsExchange site B L (Some response) place read written = IsResponse site B L read place response × (written ≡ take (length written) response)

-- Each link has its own exchange, and each command's event since the first `start` ones is of one link. No octet came on a link that wasn't accepted
-- yet, and nothing was read or written on a link that was over by then.
pub record AreExchanged (told : Told) (x : Exchanges) (B : Records) (start : ℕ) (L : Log) : Type 0 where
  pub each : (k : ℕ)
      → IsExchange x.site B L (x.response k) (x.place k) (told.read k) (told.written k)
  pub own : (j k n : ℕ) → x.place j ≡ Some n → x.place k ≡ Some n → j ≡ k
  pub before : (k n : ℕ) → x.place k ≡ Some n → n < length L
  pub asked : (newer older : Log) (command : AdminCommand) (m : EventTag)
      → L ≡ newer ++ (event.Admin command, m) ∷ older → start ≤ length older
      → (k : ℕ) × (x.place k ≡ Some (length older))
  pub still : (k : ℕ) → told.accepted ≤ k → (told.read k ≡ []) × (x.response k ≡ None)
  pub straight : told.strayed ≡ false

-- ---- links that are open

-- the octets of a response
abbrev pub octets_of : Response → List ℕ
octets_of (kept.Made octets) = octets.items
octets_of (kept.Fixed refusal) = refusal_response refusal

-- what is kept is what was read so far, and then the response and how much of it was written
abbrev pub IsKept : Told → Exchanges → (number : ℕ) (read : List ℕ) (response : Option Response) (written : ℕ) → Type 0
IsKept told x number read None written = (told.read number ≡ read) × (x.response number ≡ None) × (written ≡ 0)
IsKept told x number read (Some response) written =
    (x.response number ≡ Some (octets_of response)) × (told.written number ≡ take written (octets_of response))

-- a link that is held was accepted, and isn't over if it isn't known to be
pub record IsHeld (told : Told) (x : Exchanges) (e : Exchange) : Type 0 where
  pub accepted : e.link.number < told.accepted
  pub live : e.is_over ≡ false → told.over e.link.number ≡ false
  pub kept : IsKept told x e.link.number e.read.items e.response e.written

-- one link was accepted before another
abbrev pub Precedes : Exchange → Exchange → Type 0
Precedes d e = d.link.number < e.link.number

-- the links that are open, in the order in which they were accepted
pub record AreHeld (told : Told) (x : Exchanges) (held : List Exchange) : Type 0 where
  pub each : All (IsHeld told x) held
  pub ascend : AllPairs Precedes held

-- a link that came at this moment is held more, from which nothing was read
pub record HasOneMore (now : ℕ) (link : Link) (held held_then : List Exchange) : Type 0 where
  pub last : Exchange
  pub is : held_then ≡ held ++ last ∷ []
  pub link_is : last.link ≡ link
  pub since : last.since ≡ now
  pub live : last.is_over ≡ false
  pub read : last.read.items ≡ []
  pub response : last.response ≡ None
  pub written : last.written ≡ 0

-- those of other links than one
abbrev pub AreOthersHeld : Told → Exchanges → (number : ℕ) → List Exchange → Type 0
AreOthersHeld told x number held = All (λ e. (e.link.number ≡ number → ⊥) → IsHeld told x e) held

-- ---- logs

-- a log with events of commands more
pub data Asks (L : Log) : Log → Type 0 where
  AsksNone : Asks L L
  AsksMore : (command : AdminCommand) (m : EventTag) (M : Log) → Asks L M
      → Asks L ((event.Admin command, m) ∷ M)

-- ---- the invariant

-- A wire's links of the administration have these exchanges, and of its clients' links this is told.
pub record IsAnswering {W : Type 0} (Tells : W → ToldOfPorts → Type 0) (x : Exchanges) (B : Records) (start : ℕ) (L : Log) (pop : Told) (wire : W)
    (AreKept : Told → Exchanges → Type 0) : Type 0 where
  pub told : Told
  pub tells : Tells wire (record { pop = pop; admin = told })
  pub exchanged : AreExchanged told x B start L
  pub held : AreKept told x

-- An office answers the requests that come over a wire. What is said of them is said of some log, which has only commands' events more than this one.
pub record IsAsked {V W : Type 0} (Holds : V → Contents → Type 0) (Tells : W → ToldOfPorts → Type 0) (site : Site) (B : Records) (start : ℕ) (L : Log) (pop : Told)
    (office : Office V) (wire : W) (AreKept : Told → Exchanges → Type 0) : Type 0 where
  pub log : Log
  pub x : Exchanges
  pub of_site : x.site ≡ site
  pub stands : StandsFor Holds office (trace_of B log)
  pub admitted : AreAdmittedBy B L → AreAdmittedBy B log
  pub grown : Asks L log
  pub is : IsAnswering Tells x B start log pop wire AreKept

-- one link is held, and the others are
abbrev pub AreKeptAmong : (others : List Exchange) → Exchange → Told → Exchanges → Type 0
AreKeptAmong others e told x = IsHeld told x e × AreOthersHeld told x e.link.number others

-- they still do while octets are written on one link, and while links are accepted
abbrev pub StillAnswers : {W : Type 0} (Tells : W → ToldOfPorts → Type 0) (wire : W) (e : Exchange) (wire_then : W) (e_then : Exchange) → Type 0
StillAnswers Tells wire e wire_then e_then =
    (x : Exchanges) (B : Records) (start : ℕ) (L : Log) (pop : Told) (others : List Exchange) → IsAnswering Tells x B start L pop wire (AreKeptAmong others e)
    → IsAnswering Tells x B start L pop wire_then (AreKeptAmong others e_then)

abbrev pub AllStillAnswer : {W : Type 0} (Tells : W → ToldOfPorts → Type 0) (wire : W) (held : List Exchange) (wire_then : W) (held_then : List Exchange) → Type 0
AllStillAnswer Tells wire held wire_then held_then =
    (x : Exchanges) (B : Records) (start : ℕ) (L : Log) (pop : Told) → IsAnswering Tells x B start L pop wire (λ told x. AreHeld told x held)
    → IsAnswering Tells x B start L pop wire_then (λ told x. AreHeld told x held_then)

-- and while requests are read, if the store is clean
abbrev pub StillAsked : {V W : Type 0} (Holds : V → Contents → Type 0) (IsClean : V → Type 0) (Tells : W → ToldOfPorts → Type 0)
    (site : Site) (office : Office V) (wire : W) (e : Exchange) (office_then : Office V) (wire_then : W) (e_then : Exchange) → Type 0
StillAsked Holds IsClean Tells site office wire e office_then wire_then e_then =
    (B : Records) (start : ℕ) (L : Log) (pop : Told) (others : List Exchange) → IsAsked Holds Tells site B start L pop office wire (AreKeptAmong others e)
    → IsClean (vault_of office_then) → IsAsked Holds Tells site B start L pop office_then wire_then (AreKeptAmong others e_then)

abbrev pub AllStillAsked : {V W : Type 0} (Holds : V → Contents → Type 0) (IsClean : V → Type 0) (Tells : W → ToldOfPorts → Type 0)
    (site : Site) (office : Office V) (wire : W) (held : List Exchange) (office_then : Office V) (wire_then : W) (held_then : List Exchange) → Type 0
AllStillAsked Holds IsClean Tells site office wire held office_then wire_then held_then =
    (B : Records) (start : ℕ) (L : Log) (pop : Told) → IsAsked Holds Tells site B start L pop office wire (λ told x. AreHeld told x held)
    → IsClean (vault_of office_then) → IsAsked Holds Tells site B start L pop office_then wire_then (λ told x. AreHeld told x held_then)

-- a function that has another value at one number
abbrev pub put_at : {A : Type 0} → (number : ℕ) → A → (ℕ → A) → ℕ → A
put_at number value f k = if k == number then value else f k

-- ---- one request

-- the response that tells an outcome
abbrev pub IsResponseTo : Outcome → (response : List ℕ) → Type 0
IsResponseTo (outcome.Answered answer) response = (response ≡ answer_response answer) ⊎ (response ≡ refusal_response OutOfMemory)
IsResponseTo outcome.NoMemory response = response ≡ refusal_response OutOfMemory
IsResponseTo _ response = response ≡ refusal_response StoreFailed

-- what comes of a request whose octets were read, after a log: which log, which place the command's event has, and which response
pub data IsGiven (site : Site) (B : Records) (L : Log) (read : List ℕ) : Log → (place : Option ℕ) → (response : Option (List ℕ)) → Type 0 where
  -- the request isn't whole
  NotYet : IsRequest site (access_in L) read (Err More) → IsGiven site B L read L None None
  -- it asks for no command
  NoCommand : (response : List ℕ) → IsResponse site B L read None response → IsGiven site B L read L None (Some response)
  -- it asks for one
  GivenOne : (command : AdminCommand) (t : Tag) (response : List ℕ)
      → IsRequest site (access_in L) read (Ok command) → IsAnswer B L command t response
      → IsGiven site B L read ((event.Admin command, Tagged t) ∷ L) (Some (length L))
      (Some response)

-- an office was asked so
pub record HasAsked {V : Type 0} (Holds : V → Contents → Type 0) (site : Site) (B : Records) (L : Log) (read : List ℕ) (office : Office V) (response : Option (List ℕ)) : Type 0 where
  pub log : Log
  pub place : Option ℕ
  pub stands : StandsFor Holds office (trace_of B log)
  pub admitted : AreAdmittedBy B L → AreAdmittedBy B log
  pub given : IsGiven site B L read log place response
