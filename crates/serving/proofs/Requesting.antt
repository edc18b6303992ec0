-- What is read and written on a link of the administration leaves each exchange right.
use Rattle.std.proofs.Common.{◌≡◌, ℕ, zero, suc, ◌+◌, ◌<◌, ◌≤◌, Bool, true, false, ◌==◌, ◌||◌, List, [], ◌∷◌, ◌++◌, length, take, drop, refl, sym, ◌∙◌, ap, arith, None, Some}
use Rattle.std.proofs.Common.{Option, eq-eqb, ne_eqb, ⊎_elim, ◌⊎◌, inl, inr, subst, length-append, append-nil, not, ◌&&◌, nat_lt, lt-ltb, option_map, IfNone, set, get_or}
use Rattle.std.specs.List.{AllPairs, remove}
use Rattle.std.proofs.lemmas.List.{length-set, get_or-set_same, get_or-set_other}
use Rattle.std.proofs.lemmas.List.Edits.{length-remove, get_or-remove_below, get_or-remove_above}
use Rattle.std.proofs.lemmas.List.Elements.{All-push}
use Rattle.std.proofs.lemmas.List.Quantifiers.{all_pairs_push, all_pairs_remove}
use Rattle.std.proofs.lemmas.Bool.{cases_lt}
use Rattle.std.specs.Bool.{if◌then◌else◌}
use Rattle.std.proofs.lemmas.Bool.{cases_eq}
use Rattle.std.proofs.Math.Seq.{take-add}
use Rattle.std.specs.Prelude.{Err, Ok}
use Rattle.vault.specs.Records.{Records}
use Rattle.vault.specs.Changes.{Contents}
use Rattle.policy.specs.declared.fault.PolicyFault.{PolicyFault}
use Rattle.office.specs.History.{Tag, Done, Failed, NoMemory, Entry}
use Rattle.office.specs.Answers.{AdminCommand}
use Rattle.office.specs.Events.{Event, EventTag, Tagged, Log}
use Rattle.office.specs.Events as event
use Rattle.office.specs.Log.{access_in}
use Rattle.office.specs.Trace.{history}
use Rattle.office.specs.Outcomes.{Outcome, event_tag_of}
use Rattle.office.specs.Expected.{IsOutcome, shown_at}
use Rattle.office.specs.Taken.{trace_of, IsAdmitted}
use Rattle.office.specs.Stands.{StandsFor}
use Rattle.office.specs.declared.office.Office.{Office}
use Rattle.office.specs.declared.limits.AdminAccess.{AdminAccess}
use Rattle.adminhttp.specs.Request.{Asked, IsRequest}
use Rattle.adminhttp.specs.Sites.{Site}
use Rattle.adminhttp.specs.Responses.{fault_response, refusal_response}
use Rattle.adminhttp.specs.declared.refusal.Refusal.TheVariants.{OutOfMemory}
use Rattle.adminhttp.specs.declared.no_command.NoCommand.TheVariants.{BadPolicy}
use Rattle.serving.specs.declared.requests.Response.{Response}
use Rattle.serving.specs.declared.requests.Exchange.{Exchange}
use Rattle.serving.specs.declared.wire.Io.TheVariants.{Count}
use Rattle.serving.specs.Wires.{Told, ToldOfPorts, more_at, over_at, is_live, has_read, has_written, has_closed, has_accepted, begun_at}
use Rattle.serving.specs.Served.{IsCommand}
use Rattle.serving.specs.HttpWorks.{ComesTo}
use Rattle.serving.specs.Requests.{IsAnswer, IsResponse, ToRefusal, ToFault, ForMemory, ToCommand, Exchanges, IsExchange, AreExchanged, octets_of, IsKept, IsHeld, put_at, IsResponseTo}
use Rattle.serving.specs.Requests.{IsGiven, NotYet, NoCommand, GivenOne, HasAsked, Asks, AsksMore, IsAnswering, IsAsked, AreOthersHeld, AreKeptAmong, AreHeld, Precedes}

-- ---- one value more

pub put_same : {A : Type 0} (n : ℕ) (a : A) (f : ℕ → A) → put_at n a f n ≡ a
put_same n a f = let q = eq-eqb n n refl in rw q refl

pub put_other : {A : Type 0} (n : ℕ) (a : A) (f : ℕ → A) (k : ℕ) → (k ≡ n → ⊥) → put_at n a f k ≡ f k
put_other n a f k h = let q = ne_eqb k n h in rw q refl

-- ---- the office's answer

-- the response tells the answer that the history gives
answer_of : (B : Records) (L : Log) (command : AdminCommand) (t : Tag) (response : List ℕ)
    → IsResponseTo (shown_at B L (history (trace_of B L)) (event.Admin command) t) response → IsAnswer B L command t response
answer_of B L command Done response h = h
answer_of B L command Failed response h = h
answer_of B L command NoMemory response h = h

command_mark : (B : Records) (L : Log) (G : List Entry) (command : AdminCommand) (t : Tag) → event_tag_of (shown_at B L G (event.Admin command) t) ≡ Tagged t
command_mark B L G command Done = refl
command_mark B L G command Failed = refl
command_mark B L G command NoMemory = refl

-- what an office reads of octets is what the log's opening says
pub as_opened : (site : Site) (L : Log) (read : List ℕ) (access : AdminAccess) (asked : Asked) → access ≡ access_in L → IsRequest site access read asked
    → IsRequest site (access_in L) read asked
as_opened site L read access asked same is = subst (λ a. IsRequest site a read asked) same is

pub asked_one : {V : Type 0} (Holds : V → Contents → Type 0) (site : Site) (B : Records) (L : Log) (read : List ℕ) (office : Office V) (lent : ℕ → ℕ)
    (command : AdminCommand) (o : Outcome) (response : List ℕ)
    → IsOutcome (trace_of B L) lent (event.Admin command) o → StandsFor Holds office (trace_of B ((event.Admin command, event_tag_of o) ∷ L))
    → IsAdmitted (trace_of B L) (event.Admin command) (event_tag_of o) → IsRequest site (access_in L) read (Ok command) → IsResponseTo o response
    → HasAsked Holds site B L read office (Some response)
asked_one Holds site B L read office lent command o response h s a q r =
    let m : event_tag_of o ≡ Tagged h.tag = ap event_tag_of h.is ∙ command_mark B L (history (trace_of B L)) command h.tag in
    record {
      log = (event.Admin command, Tagged h.tag) ∷ L;
      place = Some (length L);
      stands = subst (λ x. StandsFor Holds office (trace_of B ((event.Admin command, x) ∷ L))) m s;
      admitted = λ before. (subst (IsAdmitted (trace_of B L) (event.Admin command)) m a, before);
      given = GivenOne command h.tag response q (answer_of B L command h.tag response (subst (λ x. IsResponseTo x response) h.is r));
    }

-- the octets that ask for it come to this response
pub comes_to : (site : Site) (B : Records) (L : Log) (read : List ℕ) (lent : ℕ → ℕ) (command : AdminCommand) (o : Outcome) (response : List ℕ)
    → IsOutcome (trace_of B L) lent (event.Admin command) o → IsRequest site (access_in L) read (Ok command) → IsResponseTo o response
    → ComesTo site B L read ((event.Admin command, event_tag_of o) ∷ []) (Some response)
comes_to site B L read lent command o response h q r =
    let m : event_tag_of o ≡ Tagged h.tag = ap event_tag_of h.is ∙ command_mark B L (history (trace_of B L)) command h.tag in
    record {
      place = Some (length L);
      is = subst (λ x. IsGiven site B L read ((event.Admin command, x) ∷ L) (Some (length L)) (Some response)) (sym m)
          (GivenOne command h.tag response q (answer_of B L command h.tag response (subst (λ x. IsResponseTo x response) h.is r)));
    }

pub asked_none : {V : Type 0} (Holds : V → Contents → Type 0) (site : Site) (B : Records) (L : Log) (read : List ℕ) (office : Office V) (r : Option (List ℕ))
    → StandsFor Holds office (trace_of B L) → IsGiven site B L read L None r → HasAsked Holds site B L read office r
asked_none Holds site B L read office r s given = record { log = L; place = None; stands = s; admitted = λ before. before; given = given }

-- a policy's fault, or want of memory
pub to_fault : (site : Site) (B : Records) (L : Log) (read response : List ℕ) (fault : PolicyFault) → IsRequest site (access_in L) read (Err (BadPolicy fault))
    → (response ≡ fault_response fault) ⊎ (response ≡ refusal_response OutOfMemory) → IsResponse site B L read None response
to_fault site B L read response fault q (inl e) = subst (IsResponse site B L read None) (sym e) (ToFault fault [] L q refl)
to_fault site B L read response fault q (inr e) = subst (IsResponse site B L read None) (sym e) ForMemory

-- ---- a log with one event more

response_grows : (site : Site) (B : Records) (L : Log) (e : Event) (m : EventTag) (read : List ℕ) (place : Option ℕ) (response : List ℕ)
    → IsResponse site B L read place response → IsResponse site B ((e, m) ∷ L) read place response
response_grows site B L e m read _ _ (ToRefusal refusal newer older q is) = ToRefusal refusal ((e, m) ∷ newer) older q (ap (λ l. (e, m) ∷ l) is)
response_grows site B L e m read _ _ (ToFault fault newer older q is) = ToFault fault ((e, m) ∷ newer) older q (ap (λ l. (e, m) ∷ l) is)
response_grows site B L e m read _ _ ForMemory = ForMemory
response_grows site B L e m read _ _ (ToCommand command t newer older response q is a) =
    ToCommand command t ((e, m) ∷ newer) older response q (ap (λ l. (e, m) ∷ l) is) a

pub exchange_grows : (site : Site) (B : Records) (L : Log) (e : Event) (m : EventTag) (r : Option (List ℕ)) (place : Option ℕ) (read written : List ℕ)
    → IsExchange site B L r place read written → IsExchange site B ((e, m) ∷ L) r place read written
exchange_grows site B L e m None place read written x = x
exchange_grows site B L e m (Some response) place read written x = (response_grows site B L e m read place response x.0, x.1)

one_first : {A : Type 0} {x y : A} {xs ys : List A} → x ∷ xs ≡ y ∷ ys → x ≡ y
one_first e = cc

one_rest : {A : Type 0} {x y : A} {xs ys : List A} → x ∷ xs ≡ y ∷ ys → xs ≡ ys
one_rest e = cc

-- which commands' events there are after one that is no command's
no_command : (L : Log) (e : Event) (m : EventTag) → (IsCommand e → ⊥) → (newer older : Log) (command : AdminCommand) (m2 : EventTag) → (e, m) ∷ L ≡ newer ++ (event.Admin command, m2) ∷ older
    → (newer2 : Log) × (L ≡ newer2 ++ (event.Admin command, m2) ∷ older)
no_command L e m none [] older command m2 is = absurd (none (subst IsCommand (sym (ap (λ (p : Event × EventTag). p.0) (one_first is))) tt))
no_command L e m none (y ∷ newer) older command m2 is = (newer, one_rest is)

pub exchanged_more : (told : Told) (x : Exchanges) (B : Records) (start : ℕ) (L : Log) (e : Event) (m : EventTag) → (IsCommand e → ⊥)
    → AreExchanged told x B start L → AreExchanged told x B start ((e, m) ∷ L)
exchanged_more told x B start L e m none a = record {
  each = λ k. exchange_grows x.site B L e m (x.response k) (x.place k) (told.read k) (told.written k) (a.each k);
  own = a.own;
  before = λ k n f. (let h = a.before k n f in omega (arith, h));
  asked = λ newer older command m2 is late. (let y = no_command L e m none newer older command m2 is in a.asked y.0 older command m2 y.1 late);
  still = a.still;
  straight = a.straight;
}

-- no event is newer than the log that one began with
pub none_newer : (L newer older : Log) (command : AdminCommand) (m : EventTag) → L ≡ newer ++ (event.Admin command, m) ∷ older → length L ≤ length older → ⊥
none_newer L newer older command m is late = omega (arith, ap length is, late, length-append newer ((event.Admin command, m) ∷ older))

-- ---- what comes of a piece

-- the log that was, or one command's event more
given_grows : (site : Site) (B : Records) (L M : Log) (whole : List ℕ) (p : Option ℕ) (r : Option (List ℕ)) → IsGiven site B L whole M p r
    → (r2 : Option (List ℕ)) (place : Option ℕ) (read written : List ℕ) → IsExchange site B L r2 place read written → IsExchange site B M r2 place read written
given_grows site B L _ whole _ _ (NotYet short) r2 place read written x = x
given_grows site B L _ whole _ _ (NoCommand response is) r2 place read written x = x
given_grows site B L _ whole _ _ (GivenOne command t response q a) r2 place read written x = exchange_grows site B L (event.Admin command) (Tagged t) r2 place read written x

given_new : (site : Site) (B : Records) (L M : Log) (whole written : List ℕ) (p : Option ℕ) (r : Option (List ℕ)) → IsGiven site B L whole M p r → written ≡ [] → IsExchange site B M r p whole written
given_new site B L _ whole written _ _ (NotYet short) w = (refl, w)
given_new site B L _ whole written _ _ (NoCommand response is) w = (is, rw w refl)
given_new site B L _ whole written _ _ (GivenOne command t response q a) w = (ToCommand command t [] L response q refl a, rw w refl)

given_place : (site : Site) (B : Records) (L M : Log) (whole : List ℕ) (p : Option ℕ) (r : Option (List ℕ)) → IsGiven site B L whole M p r → (n : ℕ)
    → p ≡ Some n → (n ≡ length L) × (length M ≡ suc (length L))
given_place site B L _ whole _ _ (NotYet short) n e = cc
given_place site B L _ whole _ _ (NoCommand response is) n e = cc
given_place site B L _ whole _ _ (GivenOne command t response q a) n e = (sym (some_one e), refl) where
  some_one : {a b : ℕ} → Some a ≡ Some b → a ≡ b
  some_one e = cc

given_length : (site : Site) (B : Records) (L M : Log) (whole : List ℕ) (p : Option ℕ) (r : Option (List ℕ)) → IsGiven site B L whole M p r → length L ≤ length M
given_length site B L _ whole _ _ (NotYet short) = omega arith
given_length site B L _ whole _ _ (NoCommand response is) = omega arith
given_length site B L _ whole _ _ (GivenOne command t response q a) = omega arith

-- whose a command's event is: that of the new place, or one that was there
heads : {A : Type 0} {x y : A} {xs ys : List A} → x ∷ xs ≡ y ∷ ys → xs ≡ ys
heads e = cc

given_events : (site : Site) (B : Records) (L M : Log) (whole : List ℕ) (p : Option ℕ) (r : Option (List ℕ)) → IsGiven site B L whole M p r
    → (newer older : Log) (command : AdminCommand) (m : EventTag) → M ≡ newer ++ (event.Admin command, m) ∷ older
    → (p ≡ Some (length older)) ⊎ ((newer2 : Log) × (L ≡ newer2 ++ (event.Admin command, m) ∷ older))
given_events site B L _ whole _ _ (NotYet short) newer older command m e = inr (newer, e)
given_events site B L _ whole _ _ (NoCommand response is) newer older command m e = inr (newer, e)
given_events site B L _ whole _ _ (GivenOne c t response q a) [] older command m e = inl (ap (λ l. Some (length l)) (heads e))
given_events site B L _ whole _ _ (GivenOne c t response q a) (y ∷ newer) older command m e = inr (newer, heads e)

-- ---- an exchange goes on

-- what is kept and told of one number stays
pub record SameAt (told told2 : Told) (x x2 : Exchanges) (k : ℕ) : Type 0 where
  pub accepted : told.accepted ≤ told2.accepted
  pub over : told2.over k ≡ told.over k
  pub read : told2.read k ≡ told.read k
  pub written : told2.written k ≡ told.written k
  pub response : x2.response k ≡ x.response k

kept_same : (told told2 : Told) (x x2 : Exchanges) (k : ℕ) (read : List ℕ) (r : Option Response) (written : ℕ) → SameAt told told2 x x2 k
    → IsKept told x k read r written → IsKept told2 x2 k read r written
kept_same told told2 x x2 k read None written s h = (s.read ∙ h.0, s.response ∙ h.1, h.2)
kept_same told told2 x x2 k read (Some response) written s h = (s.response ∙ h.0, s.written ∙ h.1)

pub held_same : (told told2 : Told) (x x2 : Exchanges) (e : Exchange) → SameAt told told2 x x2 e.link.number → IsHeld told x e → IsHeld told2 x2 e
held_same told told2 x x2 e s h = record {
  accepted = (let a = h.accepted in let b = s.accepted in omega (arith, a, b));
  live = λ goes. s.over ∙ h.live goes;
  kept = kept_same told told2 x x2 e.link.number e.read.items e.response e.written s h.kept;
}

-- a piece came on a link without a response, and the request came to this
module _ (told told2 : Told) (x : Exchanges) (B : Records) (start : ℕ) (L M : Log) (n : ℕ) (whole : List ℕ) (p : Option ℕ) (r : Option (List ℕ)) where
  pub given_then : Exchanges
  given_then = record { site = x.site; response = put_at n r x.response; place = put_at n p x.place }

  pub exchanged_given : IsGiven x.site B L whole M p r → AreExchanged told x B start L → x.response n ≡ None → n < told.accepted → told2.accepted ≡ told.accepted
      → told2.read n ≡ whole → ((k : ℕ) → (k ≡ n → ⊥) → told2.read k ≡ told.read k) → ((k : ℕ) → told2.written k ≡ told.written k) → told2.strayed ≡ false
      → AreExchanged told2 (record { site = x.site; response = put_at n r x.response; place = put_at n p x.place }) B start M
  exchanged_given g a none within same_count at_n apart same_written straight =
      let was : IsExchange x.site B L None (x.place n) (told.read n) (told.written n) = subst (λ o. IsExchange x.site B L o (x.place n) (told.read n) (told.written n)) none (a.each n) in
      let other : (k m : ℕ) → (k ≡ n → ⊥) → put_at n p x.place k ≡ Some m → x.place k ≡ Some m = λ k m ne e. sym (put_other n p x.place k ne) ∙ e in
      let new : (k m : ℕ) → k ≡ n → put_at n p x.place k ≡ Some m → p ≡ Some m = λ k m e f. sym (put_same n p x.place) ∙ (ap (put_at n p x.place) (sym e) ∙ f) in
      record {
        each = λ k.
            ⊎_elim
            (λ (e : k ≡ n).
            subst (λ i. IsExchange x.site B M (put_at n r x.response i) (put_at n p x.place i) (told2.read i) (told2.written i)) (sym e)
            (subst (λ o. IsExchange x.site B M o (put_at n p x.place n) (told2.read n) (told2.written n)) (sym (put_same n r x.response))
            (subst (λ o. IsExchange x.site B M r o (told2.read n) (told2.written n)) (sym (put_same n p x.place))
            (subst (λ o. IsExchange x.site B M r p o (told2.written n)) (sym at_n)
            (given_new x.site B L M whole (told2.written n) p r g (same_written n ∙ was.1))))))
            (λ (ne : k ≡ n → ⊥).
            subst (λ o. IsExchange x.site B M o (put_at n p x.place k) (told2.read k) (told2.written k)) (sym (put_other n r x.response k ne))
            (subst (λ o. IsExchange x.site B M (x.response k) o (told2.read k) (told2.written k)) (sym (put_other n p x.place k ne))
            (subst (λ o. IsExchange x.site B M (x.response k) (x.place k) o (told2.written k)) (sym (apart k ne))
            (subst (λ o. IsExchange x.site B M (x.response k) (x.place k) (told.read k) o) (sym (same_written k))
            (given_grows x.site B L M whole p r g (x.response k) (x.place k) (told.read k) (told.written k) (a.each k))))))
            (cases_eq k n);
        own = λ j k m e f.
            ⊎_elim
            (λ (y : j ≡ n).
            ⊎_elim
            (λ (z : k ≡ n). y ∙ sym z)
            (λ (z : k ≡ n → ⊥). (let low = a.before k m (other k m z f) in let high = (given_place x.site B L M whole p r g m (new j m y e)).0 in absurd (omega (arith, low, high))))
            (cases_eq k n))
            (λ (y : j ≡ n → ⊥).
            ⊎_elim
            (λ (z : k ≡ n). (let low = a.before j m (other j m y e) in let high = (given_place x.site B L M whole p r g m (new k m z f)).0 in absurd (omega (arith, low, high))))
            (λ (z : k ≡ n → ⊥). a.own j k m (other j m y e) (other k m z f))
            (cases_eq k n))
            (cases_eq j n);
        before = λ k m e.
            ⊎_elim
            (λ (y : k ≡ n). (let q = given_place x.site B L M whole p r g m (new k m y e) in let q0 = q.0 in let q1 = q.1 in omega (arith, q0, q1)))
            (λ (y : k ≡ n → ⊥). (let low = a.before k m (other k m y e) in omega (arith, low, given_length x.site B L M whole p r g)))
            (cases_eq k n);
        asked = λ newer older command m e late.
            ⊎_elim
            (λ (y : p ≡ Some (length older)). (n, put_same n p x.place ∙ y))
            (λ (y : (newer2 : Log) × (L ≡ newer2 ++ (event.Admin command, m) ∷ older)).
            (let found = a.asked y.0 older command m y.1 late in
            let ne : found.0 ≡ n → ⊥ = λ (z : found.0 ≡ n). none_some (sym was.0 ∙ (ap x.place (sym z) ∙ found.1)) in
            (found.0, put_other n p x.place found.0 ne ∙ found.1)))
            (given_events x.site B L M whole p r g newer older command m e);
        still = λ k high.
            (let ne : k ≡ n → ⊥ = λ (z : k ≡ n). (let no : ⊥ = omega (arith, z, high, within, same_count) in no) in
            let was_still = a.still k (omega (arith, high, same_count)) in
            (apart k ne ∙ was_still.0, put_other n r x.response k ne ∙ was_still.1));
        straight = straight;
      } where
        none_some : {m : ℕ} → None ≡ Some m → ⊥
        none_some e = cc

-- ---- octets are written

begins : (w : ℕ) (xs : List ℕ) → take w xs ≡ take (length (take w xs)) xs
begins zero xs = refl
begins (suc w) [] = refl
begins (suc w) (x ∷ xs) = ap (λ l. x ∷ l) (begins w xs)

beginning : (w : ℕ) (ys xs : List ℕ) → ys ≡ take w xs → ys ≡ take (length ys) xs
beginning w ys xs e = e ∙ (begins w xs ∙ ap (λ zs. take (length zs) xs) (sym e))

module _ (told told2 : Told) (x : Exchanges) (B : Records) (start : ℕ) (L : Log) where
  -- nothing more is told of octets
  pub exchanged_same : AreExchanged told x B start L → told2.accepted ≡ told.accepted → ((k : ℕ) → told2.read k ≡ told.read k) → ((k : ℕ) → told2.written k ≡ told.written k)
      → told2.strayed ≡ false → AreExchanged told2 x B start L
  exchanged_same a same_count same_read same_written straight = record {
    each = λ k.
        subst (λ o. IsExchange x.site B L (x.response k) (x.place k) o (told2.written k)) (sym (same_read k))
        (subst (λ o. IsExchange x.site B L (x.response k) (x.place k) (told.read k) o) (sym (same_written k)) (a.each k));
    own = a.own;
    before = a.before;
    asked = a.asked;
    still = λ k high. (let was = a.still k (omega (arith, high, same_count)) in (same_read k ∙ was.0, was.1));
    straight = straight;
  }

  -- a beginning of a response was written
  pub exchanged_written : (n w : ℕ) (response : List ℕ) → AreExchanged told x B start L → x.response n ≡ Some response → told2.written n ≡ take w response
      → told2.accepted ≡ told.accepted → ((k : ℕ) → told2.read k ≡ told.read k) → ((k : ℕ) → (k ≡ n → ⊥) → told2.written k ≡ told.written k) → told2.strayed ≡ false
      → AreExchanged told2 x B start L
  exchanged_written n w response a has wrote same_count same_read apart straight = record {
    each = λ k.
        ⊎_elim
        (λ (e : k ≡ n).
        (let was : IsExchange x.site B L (Some response) (x.place n) (told.read n) (told.written n) = subst (λ o. IsExchange x.site B L o (x.place n) (told.read n) (told.written n)) has (a.each n) in
        subst (λ i. IsExchange x.site B L (x.response i) (x.place i) (told2.read i) (told2.written i)) (sym e)
        (subst (λ o. IsExchange x.site B L o (x.place n) (told2.read n) (told2.written n)) (sym has)
        (subst (λ o. IsResponse x.site B L o (x.place n) response) (sym (same_read n)) was.0, beginning w (told2.written n) response wrote))))
        (λ (ne : k ≡ n → ⊥).
        subst (λ o. IsExchange x.site B L (x.response k) (x.place k) o (told2.written k)) (sym (same_read k))
        (subst (λ o. IsExchange x.site B L (x.response k) (x.place k) (told.read k) o) (sym (apart k ne)) (a.each k)))
        (cases_eq k n);
    own = a.own;
    before = a.before;
    asked = a.asked;
    still = λ k high. (let was = a.still k (omega (arith, high, same_count)) in (same_read k ∙ was.0, was.1));
    straight = straight;
  }

-- ---- what a wire tells more

none_if : (b : Bool) (xs : List ℕ) → (if b then xs ++ [] else xs) ≡ xs
none_if true xs = append-nil xs
none_if false xs = refl

pub none_more : (n k : ℕ) (f : ℕ → List ℕ) → more_at n [] f k ≡ f k
none_more n k f = none_if (k == n) (f k)

pub more_here : (n : ℕ) (more : List ℕ) (f : ℕ → List ℕ) → more_at n more f n ≡ f n ++ more
more_here n more f = let q = eq-eqb n n refl in rw q refl

pub more_apart : (n k : ℕ) (more : List ℕ) (f : ℕ → List ℕ) → (k ≡ n → ⊥) → more_at n more f k ≡ f k
more_apart n k more f h = let q = ne_eqb k n h in rw q refl

over_if : (now at was : Bool) → at ≡ false → (if now && at then true else was) ≡ was
over_if true at was e = rw e refl
over_if false at was e = refl

pub over_apart : (n k : ℕ) (now : Bool) (over : ℕ → Bool) → (k ≡ n → ⊥) → over_at n now over k ≡ over k
over_apart n k now over h = over_if now (k == n) (over k) (ne_eqb k n h)

pub over_still : (n k : ℕ) (now : Bool) (over : ℕ → Bool) → now ≡ false → over_at n now over k ≡ over k
over_still n k now over e = rw e refl

none_astray : (strayed within over : Bool) → strayed ≡ false → within ≡ true → over ≡ false → (strayed || not (within && not over)) ≡ false
none_astray strayed within over s w o = rw (s, w, o) refl

pub straight_on : (told : Told) (n : ℕ) → told.strayed ≡ false → n < told.accepted → told.over n ≡ false → (told.strayed || not (is_live told n)) ≡ false
straight_on told n s within live = none_astray told.strayed (nat_lt n told.accepted) (told.over n) s (lt-ltb n told.accepted within) live

-- ---- one link and the others

kept_given : (told2 : Told) (x2 : Exchanges) (n : ℕ) (whole items : List ℕ) (r : Option Response) (w : ℕ) → x2.response n ≡ option_map octets_of r → told2.read n ≡ whole → told2.written n ≡ []
    → IfNone r (items ≡ whole) → w ≡ 0 → IsKept told2 x2 n items r w
kept_given told2 x2 n whole items None w has at_n wrote reads zero_w = (at_n ∙ sym reads, has, zero_w)
kept_given told2 x2 n whole items (Some response) w has at_n wrote reads zero_w = (has, wrote ∙ ap (λ i. take i (octets_of response)) (sym zero_w))

given_asks : (site : Site) (B : Records) (L first M : Log) (whole : List ℕ) (p : Option ℕ) (r : Option (List ℕ)) → IsGiven site B L whole M p r → Asks first L → Asks first M
given_asks site B L first _ whole _ _ (NotYet short) a = a
given_asks site B L first _ whole _ _ (NoCommand response is) a = a
given_asks site B L first _ whole _ _ (GivenOne command t response q is) a = AsksMore command (Tagged t) L a

kept_none : (told : Told) (x : Exchanges) (n : ℕ) (items : List ℕ) (r : Option Response) (w : ℕ) → r ≡ None → IsKept told x n items r w → (told.read n ≡ items) × (x.response n ≡ None) × (w ≡ 0)
kept_none told x n items r w e h = subst (λ o. IsKept told x n items o w) e h

kept_told : (told told2 : Told) (x : Exchanges) (n : ℕ) (items : List ℕ) (r : Option Response) (w : ℕ) → told2.read n ≡ told.read n
    → told2.written n ≡ told.written n → IsKept told x n items r w → IsKept told2 x n items r w
kept_told told told2 x n items None w a b h = (a ∙ h.0, h.1, h.2)
kept_told told told2 x n items (Some response) w a b h = (h.0, b ∙ h.1)

kept_some : (told : Told) (x : Exchanges) (n : ℕ) (items : List ℕ) (r : Option Response) (response : Response) (w : ℕ) → r ≡ Some response → IsKept told x n items r w
    → (x.response n ≡ Some (octets_of response)) × (told.written n ≡ take w (octets_of response))
kept_some told x n items r response w e h = subst (λ o. IsKept told x n items o w) {y = Some response} e h

any_default : (xs : List Exchange) (i : ℕ) (c d : Exchange) → i < length xs → get_or xs i c ≡ get_or xs i d
any_default [] i c d h = absurd (omega (arith, h))
any_default (y ∷ xs) zero c d h = refl
any_default (y ∷ xs) (suc i) c d h = any_default xs i c d (omega (arith, h))

others_same : (told told2 : Told) (x x2 : Exchanges) (n n2 : ℕ) (others : List Exchange) → n2 ≡ n → ((k : ℕ) → (k ≡ n → ⊥) → SameAt told told2 x x2 k)
    → AreOthersHeld told x n others → AreOthersHeld told2 x2 n2 others
others_same told told2 x x2 n n2 others e same h = λ k d within ne.
    (let apart = λ (q : (get_or others k d).link.number ≡ n). ne (q ∙ sym e) in
    held_same told told2 x x2 (get_or others k d) (same (get_or others k d).link.number apart) (h k d within apart))

module _ {V W : Type 0} (Holds : V → Contents → Type 0) (Tells : W → ToldOfPorts → Type 0) (site : Site) (B : Records) (start : ℕ) (L : Log)
    (pop : Told) (others : List Exchange) (e e2 : Exchange) where
  -- a piece was read
  pub heard : (office office2 : Office V) (wire wire2 : W) (count : ℕ) (piece : List ℕ) (s : IsAsked Holds Tells site B start L pop office wire (AreKeptAmong others e))
      → HasAsked Holds site B s.log (e.read.items ++ piece) office2 (option_map octets_of e2.response) → e.response ≡ None → e.is_over ≡ false
      → e2.link ≡ e.link → e2.written ≡ e.written → e2.is_over ≡ e.is_over → IfNone e2.response (e2.read.items ≡ e.read.items ++ piece)
      → Tells wire2 (record { pop = pop; admin = has_read s.is.told e.link.number (Count count) piece }) → IsAsked Holds Tells site B start L pop office2 wire2 (AreKeptAmong others e2)
  heard office office2 wire wire2 count piece s asked none goes same_link same_written same_over reads tells =
      let h : HasAsked Holds s.x.site B s.log (e.read.items ++ piece) office2 (option_map octets_of e2.response) =
      subst (λ (x : Site). HasAsked Holds x B s.log (e.read.items ++ piece) office2 (option_map octets_of e2.response)) (sym s.of_site) asked in
      let told = s.is.told in
      let n = e.link.number in
      let number : e2.link.number ≡ n = ap (λ k. k.number) same_link in
      let told2 = has_read told n (Count count) piece in
      let whole = e.read.items ++ piece in
      let r = option_map octets_of e2.response in
      let x2 : Exchanges = record { site = s.x.site; response = put_at n r s.x.response; place = put_at n h.place s.x.place } in
      let held = s.is.held.0 in
      let kept = kept_none told s.x n e.read.items e.response e.written none held.kept in
      let live = held.live goes in
      let was : IsExchange s.x.site B s.log None (s.x.place n) (told.read n) (told.written n) =
      subst (λ o. IsExchange s.x.site B s.log o (s.x.place n) (told.read n) (told.written n)) kept.1 (s.is.exchanged.each n) in
      let at_n : told2.read n ≡ whole = more_here n piece told.read ∙ ap (λ ys. ys ++ piece) kept.0 in
      let same : (k : ℕ) → (k ≡ n → ⊥) → SameAt told told2 s.x x2 k = λ k ne.
      record { accepted = omega arith; over = refl; read = more_apart n k piece told.read ne; written = refl; response = put_other n r s.x.response k ne } in
      record {
        log = h.log;
        x = x2;
        of_site = s.of_site;
        stands = h.stands;
        admitted = λ before. h.admitted (s.admitted before);
        grown = given_asks s.x.site B s.log L h.log whole h.place r h.given s.grown;
        is = record {
          told = told2;
          tells = tells;
          exchanged = exchanged_given told told2 s.x B start s.log h.log n whole h.place r h.given s.is.exchanged kept.1 held.accepted refl at_n
              (λ k ne. more_apart n k piece told.read ne) (λ k. refl) (straight_on told n s.is.exchanged.straight held.accepted live);
          held = (
            record {
              accepted = (let low = held.accepted in omega (arith, number, low));
              live = λ _. ap told.over number ∙ live;
              kept = subst (λ i. IsKept told2 x2 i e2.read.items e2.response e2.written) (sym number)
                  (kept_given told2 x2 n whole e2.read.items e2.response e2.written (put_same n r s.x.response) at_n was.1 reads (same_written ∙ kept.2));
            },
            others_same told told2 s.x x2 n e2.link.number others number same s.is.held.1,
          );
        };
      }

module _ {W : Type 0} (Tells : W → ToldOfPorts → Type 0) (B : Records) (start : ℕ) (pop : Told) (others : List Exchange) (e e2 : Exchange) where
  -- nothing was read, or written: a link took nothing, or is over
  pub waited : (x : Exchanges) (M : Log) (wire wire2 : W) (s : IsAnswering Tells x B start M pop wire (AreKeptAmong others e)) (told2 : Told)
      → Tells wire2 (record { pop = pop; admin = told2 }) → told2.accepted ≡ s.told.accepted → ((k : ℕ) → told2.read k ≡ s.told.read k) → ((k : ℕ) → told2.written k ≡ s.told.written k)
      → ((k : ℕ) → (k ≡ e.link.number → ⊥) → told2.over k ≡ s.told.over k) → told2.strayed ≡ false
      → e2.link ≡ e.link → e2.read ≡ e.read → e2.response ≡ e.response → e2.written ≡ e.written → (e2.is_over ≡ false → told2.over e.link.number ≡ false)
      → IsAnswering Tells x B start M pop wire2 (AreKeptAmong others e2)
  waited x M wire wire2 s told2 tells same_count same_read same_written apart straight same_link same_items same_response same_at live =
      let told = s.told in
      let n = e.link.number in
      let number : e2.link.number ≡ n = ap (λ k. k.number) same_link in
      let held = s.held.0 in
      let same : (k : ℕ) → (k ≡ n → ⊥) → SameAt told told2 x x k = λ k ne.
      record { accepted = (let q = same_count in omega (arith, q)); over = apart k ne; read = same_read k; written = same_written k; response = refl } in
      let kept : IsKept told2 x n e.read.items e.response e.written = kept_told told told2 x n e.read.items e.response e.written (same_read n) (same_written n) held.kept in
      record {
        told = told2;
        tells = tells;
        exchanged = exchanged_same told told2 x B start M s.exchanged same_count same_read same_written straight;
        held = (
          record {
            accepted = (let low = held.accepted in omega (arith, number, low, same_count));
            live = λ goes. ap told2.over number ∙ live goes;
            kept = subst (λ i. IsKept told2 x i e2.read.items e2.response e2.written) (sym number)
                (subst (λ v. IsKept told2 x n v.items e2.response e2.written) (sym same_items)
                (subst (λ v. IsKept told2 x n e.read.items v e2.written) (sym same_response)
                (subst (λ v. IsKept told2 x n e.read.items e.response v) (sym same_at) kept)));
          },
          others_same told told2 x x n e2.link.number others number same s.held.1,
        );
      }

  -- so many octets of a response were written
  pub wrote : (x : Exchanges) (M : Log) (wire wire2 : W) (s : IsAnswering Tells x B start M pop wire (AreKeptAmong others e)) (count : ℕ) (more : List ℕ) (response : Response)
      → Tells wire2 (record { pop = pop; admin = has_written s.told e.link.number (Count count) more }) → e.response ≡ Some response → e.is_over ≡ false
      → more ≡ take count (drop e.written (octets_of response))
      → e2.link ≡ e.link → e2.response ≡ e.response → e2.written ≡ e.written + count
      → IsAnswering Tells x B start M pop wire2 (AreKeptAmong others e2)
  wrote x M wire wire2 s count more response tells has goes is same_link same_response at =
      let told = s.told in
      let n = e.link.number in
      let number : e2.link.number ≡ n = ap (λ k. k.number) same_link in
      let held = s.held.0 in
      let live = held.live goes in
      let told2 = has_written told n (Count count) more in
      let octets = octets_of response in
      let kept = kept_some told x n e.read.items e.response response e.written has held.kept in
      let at_n : told2.written n ≡ take (e.written + count) octets =
      more_here n more told.written ∙ (ap (λ ys. ys ++ more) kept.1 ∙ (ap (λ ys. take e.written octets ++ ys) is ∙ sym (take-add e.written count octets))) in
      let same : (k : ℕ) → (k ≡ n → ⊥) → SameAt told told2 x x k = λ k ne.
      record { accepted = omega arith; over = refl; read = refl; written = more_apart n k more told.written ne; response = refl } in
      record {
        told = told2;
        tells = tells;
        exchanged = exchanged_written told told2 x B start M n (e.written + count) octets s.exchanged kept.0 at_n refl (λ k. refl)
            (λ k ne. more_apart n k more told.written ne) (straight_on told n s.exchanged.straight held.accepted live);
        held = (
          record {
            accepted = (let low = held.accepted in omega (arith, number, low));
            live = λ _. ap told.over number ∙ live;
            kept = subst (λ i. IsKept told2 x i e2.read.items e2.response e2.written) (sym number)
                (subst (λ v. IsKept told2 x n e2.read.items v e2.written) (sym (same_response ∙ has))
                (kept.0, at_n ∙ ap (λ i. take i octets) (sym at)));
          },
          others_same told told2 x x n e2.link.number others number same s.held.1,
        );
      }

-- ---- all links

-- a link is served by itself
pub one_held : (told : Told) (x : Exchanges) (xs : List Exchange) (i : ℕ) (d : Exchange) → i < length xs → AreHeld told x xs → AreKeptAmong xs (get_or xs i d) told x
one_held told x xs i d within a = (a.each i d within, λ k c here ne. a.each k c here)

ascending : (xs : List Exchange) (i j : ℕ) (d : Exchange) → i < length xs → j < length xs → AllPairs Precedes xs → (i ≡ j → ⊥)
    → (get_or xs j d).link.number ≡ (get_or xs i d).link.number → ⊥
ascending xs i j d wi wj a ne same =
    ⊎_elim
    (λ (low : i < j). (let k = a i j d low wj in let no : ⊥ = omega (arith, k, same) in no))
    (λ high. (let k = a j i d (other_way i j ne high) wi in let no : ⊥ = omega (arith, k, same) in no))
    (cases_lt i j) where
      other_way : (i j : ℕ) → (i ≡ j → ⊥) → j ≤ i → j < i
      other_way i j ne h = ⊎_elim (λ (q : j < i). q) (λ (q : i ≤ j). absurd (ne (omega (arith, h, q)))) (cases_lt j i)

module _ (told : Told) (x : Exchanges) (xs : List Exchange) (i : ℕ) (e : Exchange) where
  -- it stays in its place
  pub held_again : (d : Exchange) → i < length xs → AllPairs Precedes xs → e.link ≡ (get_or xs i d).link → AreKeptAmong xs e told x → AreHeld told x (set xs i e)
  held_again d within ascend same a =
      let number : e.link.number ≡ (get_or xs i d).link.number = ap (λ k. k.number) same in
      let at : (k : ℕ) (c : Exchange) → k < length xs → (get_or (set xs i e) k c).link.number ≡ (get_or xs k c).link.number = λ k c here.
      ⊎_elim
      (λ (q : k ≡ i).
      subst (λ j. (get_or (set xs i e) j c).link.number ≡ (get_or xs j c).link.number) (sym q)
      (ap (λ y. y.link.number) (get_or-set_same xs i e c within) ∙ (number ∙ ap (λ y. y.link.number) (any_default xs i d c within))))
      (λ (ne : k ≡ i → ⊥). ap (λ y. y.link.number) (get_or-set_other xs i k e c ne))
      (cases_eq k i) in
      record {
        each = λ k c here.
            (let in_xs : k < length xs = omega (arith, here, length-set xs i e) in
            ⊎_elim
            (λ (q : k ≡ i). subst (λ j. IsHeld told x (get_or (set xs i e) j c)) (sym q) (subst (IsHeld told x) (sym (get_or-set_same xs i e c within)) a.0))
            (λ (ne : k ≡ i → ⊥).
            subst (IsHeld told x) (sym (get_or-set_other xs i k e c ne))
            (a.1 k c in_xs (λ (q : (get_or xs k c).link.number ≡ e.link.number).
            ascending xs i k c within in_xs ascend (λ (z : i ≡ k). ne (sym z)) (q ∙ (number ∙ ap (λ y. y.link.number) (any_default xs i d c within))))))
            (cases_eq k i));
        ascend = λ j k c low here.
            (let in_xs : k < length xs = omega (arith, here, length-set xs i e) in
            let h = ascend j k c low in_xs in
            let a1 = at j c (omega (arith, low, in_xs)) in
            let a2 = at k c in_xs in
            omega (arith, h, a1, a2));
      }

module _ (told : Told) (x : Exchanges) (ys : List Exchange) (i : ℕ) (d : Exchange) (n : ℕ) where
  -- a link was closed
  pub held_without : i < length ys → AreHeld told x ys → n ≡ (get_or ys i d).link.number → AreHeld (has_closed told n) x (remove ys i)
  held_without within a number =
      let long = length-remove ys i within in
      let told2 = has_closed told n in
      let one : (k : ℕ) (c : Exchange) → k < length ys → (i ≡ k → ⊥) → IsHeld told2 x (get_or ys k c) = λ k c here ne.
      (let apart : (get_or ys k c).link.number ≡ n → ⊥ = λ q.
      ascending ys i k c within here a.ascend ne (q ∙ (number ∙ ap (λ y. y.link.number) (any_default ys i d c within))) in
      held_same told told2 x x (get_or ys k c)
      (record { accepted = omega arith; over = over_apart n (get_or ys k c).link.number true told.over apart; read = refl; written = refl; response = refl })
      (a.each k c here)) in
      record {
        each = λ k c here.
            ⊎_elim
            (λ (low : k < i).
            subst (IsHeld told2 x) (sym (get_or-remove_below ys i c k low within))
            (one k c (omega (arith, low, within)) (λ (q : i ≡ k). (let no : ⊥ = omega (arith, q, low) in no))))
            (λ (high : i ≤ k).
            subst (IsHeld told2 x) (sym (get_or-remove_above ys i c k high within))
            (one (k + 1) c (omega (arith, here, long)) (λ (q : i ≡ k + 1). (let no : ⊥ = omega (arith, q, high) in no))))
            (cases_lt k i);
        ascend = all_pairs_remove Precedes ys i within a.ascend;
      }

begun_apart : (n k : ℕ) (over : ℕ → Bool) → (k ≡ n → ⊥) → begun_at n over k ≡ over k
begun_apart n k over h = let q = ne_eqb k n h in rw q refl

begun_here : (n : ℕ) (over : ℕ → Bool) → begun_at n over n ≡ false
begun_here n over = let q = eq-eqb n n refl in rw q refl

-- a link was accepted
module _ (told : Told) (x : Exchanges) (xs : List Exchange) where
  pub exchanged_accepted : (B : Records) (start : ℕ) (L : Log) → AreExchanged told x B start L → AreExchanged (has_accepted told) x B start L
  exchanged_accepted B start L a = record {
    each = a.each;
    own = a.own;
    before = a.before;
    asked = a.asked;
    still = λ k high. a.still k (omega (arith, high));
    straight = a.straight;
  }

  accepted_one : (e : Exchange) → IsHeld told x e → IsHeld (has_accepted told) x e
  accepted_one e h =
      let low = h.accepted in
      let apart : e.link.number ≡ told.accepted → ⊥ = λ q. (let no : ⊥ = omega (arith, q, low) in no) in
      held_same told (has_accepted told) x x e
      (record { accepted = omega arith; over = begun_apart told.accepted e.link.number told.over apart; read = refl; written = refl; response = refl }) h

  pub held_accepted : AreHeld told x xs → AreHeld (has_accepted told) x xs
  held_accepted a = record { each = λ k d here. accepted_one (get_or xs k d) (a.each k d here); ascend = a.ascend }

  -- and closed
  pub held_refused : (n : ℕ) → n ≡ told.accepted → AreHeld told x xs → AreHeld (has_closed (has_accepted told) n) x xs
  held_refused n number a = record {
    each = λ k d here.
        (let e = get_or xs k d in
        let low = (a.each k d here).accepted in
        let apart : e.link.number ≡ n → ⊥ = λ q. (let no : ⊥ = omega (arith, q, number, low) in no) in
        held_same (has_accepted told) (has_closed (has_accepted told) n) x x e
        (record { accepted = omega arith; over = over_apart n e.link.number true (has_accepted told).over apart; read = refl; written = refl; response = refl })
        (accepted_one e (a.each k d here)));
    ascend = a.ascend;
  }

  -- and is held
  pub held_new : (B : Records) (start : ℕ) (L : Log) (e : Exchange) → e.link.number ≡ told.accepted → e.read.items ≡ [] → e.response ≡ None → e.written ≡ 0
      → AreExchanged told x B start L → AreHeld told x xs → AreHeld (has_accepted told) x (xs ++ e ∷ [])
  held_new B start L e number items response at a h =
      let still = a.still told.accepted (omega arith) in
      let one : IsHeld (has_accepted told) x e = record {
        accepted = omega (arith, number);
        live = λ _. ap (begun_at told.accepted told.over) number ∙ begun_here told.accepted told.over;
        kept = subst (λ i. IsKept (has_accepted told) x i e.read.items e.response e.written) (sym number)
            (subst (λ v. IsKept (has_accepted told) x told.accepted e.read.items v e.written) (sym response) (still.0 ∙ sym items, still.1, at));
      } in
      record {
        each = All-push (IsHeld (has_accepted told) x) xs e (held_accepted h).each one;
        ascend = all_pairs_push Precedes xs e h.ascend (λ k d here. (let low = (h.each k d here).accepted in omega (arith, low, number)));
      }

-- what is said of the links that are kept may be said otherwise
pub answering_so : {W : Type 0} (Tells : W → ToldOfPorts → Type 0) (x : Exchanges) (B : Records) (start : ℕ) (L : Log) (pop : Told) (wire : W)
    (K K2 : Told → Exchanges → Type 0) → ((told : Told) → K told x → K2 told x) → IsAnswering Tells x B start L pop wire K → IsAnswering Tells x B start L pop wire K2
answering_so Tells x B start L pop wire K K2 f s = record { told = s.told; tells = s.tells; exchanged = s.exchanged; held = f s.told s.held }

module _ {V W : Type 0} (Holds : V → Contents → Type 0) (Tells : W → ToldOfPorts → Type 0) (site : Site) (B : Records) (start : ℕ) (L : Log) (pop : Told) where
  -- the office is as it was
  pub asked_still : (office : Office V) (wire wire2 : W) (K K2 : Told → Exchanges → Type 0) (s : IsAsked Holds Tells site B start L pop office wire K)
      → IsAnswering Tells s.x B start s.log pop wire2 K2 → IsAsked Holds Tells site B start L pop office wire2 K2
  asked_still office wire wire2 K K2 s is = record { log = s.log; x = s.x; of_site = s.of_site; stands = s.stands; admitted = s.admitted; grown = s.grown; is = is }

  pub asked_so : (office : Office V) (wire : W) (K K2 : Told → Exchanges → Type 0) → ((told : Told) (x : Exchanges) → K told x → K2 told x)
      → IsAsked Holds Tells site B start L pop office wire K → IsAsked Holds Tells site B start L pop office wire K2
  asked_so office wire K K2 f s = asked_still office wire wire K K2 s (answering_so Tells s.x B start s.log pop wire K K2 (λ told. f told s.x) s.is)
