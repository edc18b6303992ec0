-- How long a request may be that isn't whole.
use Rattle.std.proofs.Common.{◌≡◌, ℕ, zero, suc, ◌+◌, ◌<◌, ◌≤◌, nat_le, nat_lt, ◌==◌, ◌&&◌, Bool, true, false, List, [], ◌∷◌, length, take, drop, refl, sym, ◌∙◌, ap, arith, Some}
use Rattle.std.proofs.Common.{None, Option, option_map, ⊎_elim, inl, inr, subst, leb-true, le-leb}
use Rattle.std.specs.Bool.{if◌then◌else◌}
use Rattle.std.specs.Prelude.{codes, Result, Ok, Err}
use Rattle.std.specs.Str.{bytes_eq, is_utf8}
use Rattle.std.specs.Str.Parse.{digits_value}
use Rattle.std.specs.List.{list_all, list_any}
use Rattle.std.specs.Char.{is_ascii_digit}
use Rattle.std.proofs.lemmas.Bool.{cases_lt}
use Rattle.std.proofs.lemmas.List.{drop_all, length-drop, length-take}
use Rattle.office.specs.Answers.{AdminCommand}
use Rattle.adminhttp.specs.Lines.{empty_line, through_empty_line, head_from, head_at, empty_lines}
use Rattle.adminhttp.specs.Fields.{Header, is_named, values_of, only, length_text, length_of, body_length}
use Rattle.adminhttp.specs.Steps.{◌>>=◌, value_or}
use Rattle.adminhttp.specs.Bodies.{body_of, first_octets, without_line_end, credential_of, policy_of, or_fault}
use Rattle.adminhttp.specs.Targets.{target_of}
use Rattle.adminhttp.specs.Request.{Asked, clerk_put, policy_put, maildrop_asked, clerks_asked, clerk_asked, policy_asked, session_asked, asked_of, asked_by, asked_of_site, HeadComesTo}
use Rattle.adminhttp.specs.Request.{ComesTo as RequestComesTo, IsRequest}
use Rattle.std.specs.List.{All}
use Rattle.std.specs.Prelude.{IfNone}
use Rattle.std.proofs.Common.{◌++◌, ◌||◌, true≢false}
use Rattle.std.proofs.lemmas.List.Elements.{All-nil, All-cons, All-head, All-tail, All-append}
use Rattle.vault.specs.Records.{Records}
use Rattle.office.specs.Events.{Log, Trace}
use Rattle.office.specs.Log.{access_in}
use Rattle.office.specs.declared.limits.AdminAccess.{AdminAccess}
use Rattle.serving.specs.Calls.{Call}
use Rattle.serving.specs.declared.wire.Link.{Link}
use Rattle.serving.specs.declared.requests.Response.{Response}
use Rattle.adminhttp.specs.Sites.{Site, is_own}
use Rattle.serving.specs.declared.requests.Exchange.{Exchange}
use Rattle.serving.specs.declared.links.Links.{Links}
use Rattle.serving.specs.Requests.{octets_of, HasOneMore, IsGiven, NotYet, NoCommand, GivenOne}
use Rattle.serving.specs.HttpWorks.{IsShort, AreShort, HaveComeForAdmin, NoMore, IsKept, IsTurnedAway, WantsMemory, ComesTo, HasRead, IsOver, HasResponse, GaveNothing, GaveItsEnd}
use Rattle.serving.specs.HttpWorks.{GaveAPiece, HasHttpTurn, IsLate, IsServed, HadHttpTurns, NoneHeld, IsHeldOn, IsClosed}
use Rattle.serving.specs.Seen.{Seen, before_commands}
use Rattle.serving.specs.Turns.{Accepts, ServesAdmin}
use Rattle.adminhttp.specs.Head.{behind_head, head_text}
use Rattle.adminhttp.specs.declared.target.Target.{Target}
use Rattle.adminhttp.specs.declared.target.Target.TheVariants as target
use Rattle.adminhttp.specs.declared.no_command.NoCommand.{NoCommand as Unread}
use Rattle.adminhttp.specs.declared.no_command.NoCommand.TheVariants.{More, Bad, BadPolicy}
use Rattle.adminhttp.specs.declared.refusal.Refusal.{Refusal}
use Rattle.adminhttp.specs.declared.refusal.Refusal.TheVariants.{BadRequest, NotFound, LengthRequired, TooLarge}
use Rattle.policy.specs.Policy.{Policy}
use Rattle.policy.specs.PolicyText.{rules_of}
use Rattle.policy.specs.declared.fault.PolicyFault.{PolicyFault}
use Rattle.policy.specs.declared.fault.PolicyFault.TheVariants.{NotToml}

-- ---- the head

grows : (fresh : Bool) (o : Option ℕ) (m n : ℕ) → ((k : ℕ) → o ≡ Some k → k ≤ m) → option_map (λ k. 1 + k) o ≡ Some n → n ≤ suc m
grows fresh None m n h e = cc
grows fresh (Some k) m n h e = let q : 1 + k ≡ n = one e in let p = h k refl in omega (arith, p, q) where
  one : {a b : ℕ} → Some a ≡ Some b → a ≡ b
  one e = cc

empty_within : (b : ℕ) (rest : List ℕ) → empty_line (b ∷ rest) ≤ suc (length rest)
empty_within b [] = by (b == 10) where
  by : (u : Bool) → (if u then 1 else 0) ≤ suc zero
  by true = omega arith
  by false = omega arith
empty_within b (c ∷ rest) = by (b == 10) (b == 13 && c == 10) where
  by : (u v : Bool) → (if u then 1 else if v then 2 else 0) ≤ suc (suc (length rest))
  by true v = omega arith
  by false true = omega arith
  by false false = omega arith

through_within : (fresh : Bool) (xs : List ℕ) (n : ℕ) → through_empty_line fresh xs ≡ Some n → n ≤ length xs
unfolding through_empty_line
through_within fresh [] n e = cc
through_within fresh (b ∷ rest) n e = by (fresh && nat_lt 0 (empty_line (b ∷ rest))) (λ k. through_within (b == 10) rest k) e where
  one : {a b : ℕ} → Some a ≡ Some b → a ≡ b
  one e = cc

  by : (u : Bool) → ((k : ℕ) → through_empty_line (b == 10) rest ≡ Some k → k ≤ length rest)
      → (if u then Some (empty_line (b ∷ rest)) else option_map (λ n. 1 + n) (through_empty_line (b == 10) rest)) ≡ Some n
      → n ≤ suc (length rest)
  by true rec e = let p = empty_within b rest in let q : empty_line (b ∷ rest) ≡ n = one e in omega (arith, p, q)
  by false rec e = grows fresh (through_empty_line (b == 10) rest) (length rest) n rec e

none_there : through_empty_line true [] ≡ None
unfolding through_empty_line
none_there = refl

abbrev start_of : Option (ℕ × ℕ) → ℕ
start_of None = 0
start_of (Some p) = p.0

abbrev length_of_it : Option (ℕ × ℕ) → ℕ
length_of_it None = 0
length_of_it (Some p) = p.1

-- a head ends within the octets in which it was looked for
head_within : (start : ℕ) (front : List ℕ) (s n : ℕ) → head_from start front ≡ Some (s, n) → s + n ≤ length front
head_within start front s n e = by (through_empty_line true (drop start front)) refl e where
  by : (o : Option ℕ) → through_empty_line true (drop start front) ≡ o → option_map {U = ℕ × ℕ} (λ n. (start, n)) o ≡ Some (s, n) → s + n ≤ length front
  by None is e = cc
  by (Some k) is e =
      let p0 : start ≡ s = ap start_of e in
      let p1 : k ≡ n = ap length_of_it e in
      let within = through_within true (drop start front) k is in
      let len = length-drop start front in
      ⊎_elim
      (λ (low : start < length front). omega (arith, p0, p1, within, len, low))
      (λ (high : length front ≤ start).
      (let gone : through_empty_line true (drop start front) ≡ None = ap (through_empty_line true) (drop_all start front high) ∙ none_there in
      let never : None ≡ Some k = sym gone ∙ is in
      cc))
      (cases_lt start (length front))

-- ---- the body

-- of two, whichever it is
if_more : {P : Type 0} (c : Bool) (x y : Asked) → (x ≡ Err More → P) → (y ≡ Err More → P) → (if c then x else y) ≡ Err More → P
if_more true x y f g e = f e
if_more false x y f g e = g e

abbrev value_of : Result ℕ Unread → ℕ
value_of (Ok n) = n
value_of (Err x) = 0

abbrev stop_in : {A : Type 0} → Result A Unread → Unread
stop_in (Ok a) = More
stop_in (Err x) = x

less_of : (n m : ℕ) → nat_le n m ≡ false → m < n
less_of n m e = ⊎_elim (λ (low : m < n). low) (λ (high : n ≤ m). absurd (true≢false (sym (le-leb n m high) ∙ e))) (cases_lt m n)

of_length : (value : List ℕ) (n : ℕ) → length_of value ≡ Ok n → n ≤ 1048576
of_length value n e = by (nat_lt 0 (length value) && list_all is_ascii_digit value) e where
  within : (k : ℕ) (u : Bool) → nat_le k 1048576 ≡ u → (if u then Ok k else Err (Bad TooLarge)) ≡ Ok n → n ≤ 1048576
  within k true is e = let p : k ≤ 1048576 = leb-true k 1048576 is in let q : k ≡ n = ap value_of e in omega (arith, p, q)
  within k false is e = cc

  by : (u : Bool) → (if u then (if nat_le (digits_value 10 value) 1048576 then Ok (digits_value 10 value) else Err (Bad TooLarge)) else Err (Bad BadRequest)) ≡ Ok n → n ≤ 1048576
  by true e = within (digits_value 10 value) (nat_le (digits_value 10 value) 1048576) refl e
  by false e = cc

length_no_more : (value : List ℕ) → length_of value ≡ Err More → ⊥
length_no_more value e = by (nat_lt 0 (length value) && list_all is_ascii_digit value) (nat_le (digits_value 10 value) 1048576) e where
  by : (u v : Bool) → (if u then (if v then Ok (digits_value 10 value) else Err (Bad TooLarge)) else Err (Bad BadRequest)) ≡ Err More → ⊥
  by true true e = cc
  by true false e = cc
  by false v e = cc

only_no_more : (values : List (List ℕ)) → only values ≡ Err More → ⊥
only_no_more [] e = cc
only_no_more (value ∷ []) e = cc
only_no_more (value ∷ second ∷ more) e = cc

text_no_more : (headers : List Header) → length_text headers ≡ Err More → ⊥
text_no_more headers e = by (list_any (is_named (codes "transfer-encoding")) headers) e where
  by : (u : Bool) → (if u then Err (Bad LengthRequired) else only (values_of (codes "content-length") headers)) ≡ Err More → ⊥
  by true e = cc
  by false e = only_no_more (values_of (codes "content-length") headers) e

-- a step that doesn't wait for more, and one after it
behind_step : {A B : Type 0} {P : Type 0} (r : Result A Unread) (f : A → Result B Unread) → (r ≡ Err More → P) → ((a : A) → r ≡ Ok a → f a ≡ Err More → P) → (r >>= f) ≡ Err More → P
behind_step (Ok a) f stop go e = go a refl e
behind_step (Err x) f stop go e = stop (ap (λ y. Err y) (ap stop_in e))

body_short : (headers : List Header) (behind : List ℕ) → body_of headers behind ≡ Err More → length behind < 1048576
unfolding body_of body_length
body_short headers behind e =
    behind_step (body_length headers) (λ n. first_octets n behind)
    (λ more. absurd (behind_step (length_text headers) length_of (text_no_more headers) (λ value is. length_no_more value) more))
    (λ n is short. few n (by_text (length_text headers) n is) (nat_le n (length behind)) refl short) e where
      by_text : (r : Result (List ℕ) Unread) (n : ℕ) → (r >>= length_of) ≡ Ok n → n ≤ 1048576
      by_text (Ok value) n e = of_length value n e
      by_text (Err x) n e = cc

      few : (n : ℕ) → n ≤ 1048576 → (u : Bool) → nat_le n (length behind) ≡ u → (if u then Ok (take n behind) else Err More) ≡ Err More → length behind < 1048576
      few n most true is e = cc
      few n most false is e = let k = less_of n (length behind) is in omega (arith, most, k)

or_no_more : {A : Type 0} (o : Option A) (r : Refusal) → value_or o r ≡ Err More → ⊥
or_no_more None r e = cc
or_no_more (Some a) r e = cc

get_no_more : (c : Bool) (command : AdminCommand) (r : Refusal) → (if c then Ok command else Err (Bad r)) ≡ Err More → ⊥
get_no_more true command r e = cc
get_no_more false command r e = cc

maildrop_no_more : (maildrop method : List ℕ) → maildrop_asked maildrop method ≡ Err More → ⊥
unfolding maildrop_asked
maildrop_no_more maildrop method e =
    if_more (bytes_eq method (codes "GET")) _ _ (λ k. cc) (λ k. if_more (bytes_eq method (codes "PUT")) _ _ (λ k. cc) (λ k. if_more (bytes_eq method (codes "DELETE")) _ _ (λ k. cc) (λ k. cc) k) k) e

clerks_no_more : (access : AdminAccess) (method : List ℕ) → clerks_asked access method ≡ Err More → ⊥
unfolding clerks_asked
clerks_no_more access method e =
    if_more access.lists_clerks _ _ (λ k. get_no_more (bytes_eq method (codes "GET")) _ _ k) (λ k. cc) e

session_no_more : (number : ℕ) (method : List ℕ) → session_asked number method ≡ Err More → ⊥
unfolding session_asked
session_no_more number method e = if_more (bytes_eq method (codes "DELETE")) _ _ (λ k. cc) (λ k. cc) e

clerk_put_short : (clerk : List ℕ) (headers : List Header) (behind : List ℕ) → clerk_put clerk headers behind ≡ Err More → length behind < 1048576
unfolding clerk_put
clerk_put_short clerk headers behind e =
    behind_step (body_of headers behind) _ (body_short headers behind)
    (λ body is more. absurd (behind_step (value_or (credential_of clerk (without_line_end body)) BadRequest) _
    (or_no_more (credential_of clerk (without_line_end body)) BadRequest) (λ credential is k. cc) more)) e

policy_no_more : (body : List ℕ) → policy_of body ≡ Err More → ⊥
unfolding policy_of
policy_no_more body e = by (is_utf8 body) (rules_of body) e where
  by : (u : Bool) (r : Result Policy PolicyFault) → (if u then or_fault r else Err (BadPolicy NotToml)) ≡ Err More → ⊥
  by true (Ok policy) e = cc
  by true (Err fault) e = cc
  by false r e = cc

policy_put_short : (headers : List Header) (behind : List ℕ) → policy_put headers behind ≡ Err More → length behind < 1048576
unfolding policy_put
policy_put_short headers behind e =
    behind_step (body_of headers behind) _ (body_short headers behind)
    (λ body is more. absurd (behind_step (policy_of body) _ (policy_no_more body) (λ policy is k. cc) more)) e

clerk_short : (clerk method : List ℕ) (headers : List Header) (behind : List ℕ) → clerk_asked clerk method headers behind ≡ Err More → length behind < 1048576
unfolding clerk_asked
clerk_short clerk method headers behind e =
    if_more (bytes_eq method (codes "GET")) _ _ (λ k. cc)
    (λ k. if_more (bytes_eq method (codes "PUT")) _ _ (clerk_put_short clerk headers behind) (λ k. if_more (bytes_eq method (codes "DELETE")) _ _ (λ k. cc) (λ k. cc) k) k) e

policy_short : (method : List ℕ) (headers : List Header) (behind : List ℕ) → policy_asked method headers behind ≡ Err More → length behind < 1048576
unfolding policy_asked
policy_short method headers behind e =
    if_more (bytes_eq method (codes "GET")) _ _ (λ k. cc) (λ k. if_more (bytes_eq method (codes "PUT")) _ _ (policy_put_short headers behind) (λ k. cc) k) e

of_short : (access : AdminAccess) (t : Target) (method : List ℕ) (headers : List Header) (behind : List ℕ) → asked_of access t method headers behind ≡ Err More → length behind < 1048576
of_short access target.Maildrops method headers behind e = absurd (get_no_more (bytes_eq method (codes "GET")) _ _ e)
of_short access (target.Maildrop maildrop) method headers behind e = absurd (maildrop_no_more maildrop method e)
of_short access target.Clerks method headers behind e = absurd (clerks_no_more access method e)
of_short access (target.Clerk clerk) method headers behind e = clerk_short clerk method headers behind e
of_short access target.Policy method headers behind e = policy_short method headers behind e
of_short access target.Groups method headers behind e = absurd (get_no_more (bytes_eq method (codes "GET")) _ _ e)
of_short access target.Sessions method headers behind e = absurd (get_no_more (bytes_eq method (codes "GET")) _ _ e)
of_short access (target.Session number) method headers behind e = absurd (session_no_more number method e)
of_short access (target.Explain clerk maildrop class action) method headers behind e = absurd (get_no_more (bytes_eq method (codes "GET")) _ _ e)

by_short : (access : AdminAccess) (method at : List ℕ) (headers : List Header) (behind : List ℕ) → asked_by access method at headers behind ≡ Err More → length behind < 1048576
unfolding asked_by
by_short access method at headers behind e =
    behind_step (value_or (target_of at) NotFound) (λ found. asked_of access found method headers behind)
    (λ k. absurd (or_no_more (target_of at) NotFound k)) (λ found is k. of_short access found method headers behind k) e

-- ---- a request

site_short : (site : Site) (access : AdminAccess) (method at : List ℕ) (headers : List Header) (behind : List ℕ)
    → asked_of_site site access method at headers behind ≡ Err More → length behind < 1048576
unfolding asked_of_site
site_short site access method at headers behind e = if_more (is_own site headers) _ _ (by_short access method at headers behind) (λ k. cc) e

behind_short : (site : Site) (access : AdminAccess) (text behind : List ℕ) → HeadComesTo site access text behind (Err More) → length behind < 1048576
behind_short site access text behind (inl (h, is, e)) = site_short site access h.method h.target _ behind (sym e)
behind_short site access text behind (inr (none, e)) = cc

-- a request that isn't whole has fewer than 8,192 + 1,048,576 octets
pub more_within : (site : Site) (access : AdminAccess) (b : List ℕ) → IsRequest site access b (Err More) → length b < 1056768
more_within site access b asked = by (head_at b) refl asked where
  front_within : length (take 8192 b) ≤ 8192
  front_within = let e = length-take 8192 b in omega (arith, e)

  unended_within : (u : Bool) → nat_le (length b) 8192 ≡ u → More ≡ (if u then More else Bad BadRequest) → length b < 1056768
  unended_within true is e = let k : length b ≤ 8192 = leb-true (length b) 8192 is in omega (arith, k)
  unended_within false is e = cc

  short : (s n : ℕ) → s + n ≤ 8192 → length (drop (s + n) b) < 1048576 → length b < 1056768
  short s n within few = let len = length-drop (s + n) b in omega (arith, within, few, len)

  by : (o : Option (ℕ × ℕ)) → head_at b ≡ o → RequestComesTo site access b o (Err More) → length b < 1056768
  by None is asked = unended_within (nat_le (length b) 8192) refl (ap stop_in asked)
  by (Some (s, n)) is asked =
      let within : s + n ≤ 8192 = (let w = head_within (empty_lines (take 8192 b)) (take 8192 b) s n is in omega (arith, w, front_within)) in
      short s n within (behind_short site access (head_text b (s, n)) (behind_head b (s, n)) asked)

-- ---- the links that are held

module _ (site : Site) (now : ℕ) (B : Records) where
  short_new : (link : Link) (held more : List Exchange) → HasOneMore now link held more → All IsShort held → All IsShort more
  short_new link held more one a =
      let new : IsShort one.last = short_by one.last.response one.last.read.items (omega (arith, ap length one.read)) in
      subst (All IsShort) (sym one.is) (All-append IsShort held (one.last ∷ []) a (All-cons IsShort one.last [] new (All-nil IsShort)))
    where
      short_by : (r : Option Response) (read : List ℕ) → length read < 1056768 → IfNone r (length read < 1056768)
      short_by None read h = h
      short_by (Some r) read h = tt

  pub short_come : (held held_then : List Exchange) (n : ℕ) (calls : List Call) → HaveComeForAdmin now held held_then n calls → All IsShort held → All IsShort held_then
  short_come _ _ _ _ (NoMore held) a = a
  short_come _ _ _ _ (IsKept link held more held_then came calls one rest) a = short_come more held_then came calls rest (short_new link held more one a)
  short_come _ _ _ _ (IsTurnedAway link held held_then came calls full rest) a = short_come held held_then came calls rest a
  short_come _ _ _ _ (WantsMemory link held held_then came calls rest) a = short_come held held_then came calls rest a

  -- a request of which a piece came, and to which there is no response yet
  given_short : (L M : Log) (whole : List ℕ) (place : Option ℕ) (r : Option (List ℕ)) → IsGiven site B L whole M place r → r ≡ None → length whole < 1056768
  given_short L _ whole _ _ (NotYet short) e = more_within site (access_in L) whole short
  given_short L _ whole _ _ (NoCommand response is) e = cc
  given_short L _ whole _ _ (GivenOne command t response q a) e = cc

  piece_short : (L g : Log) (whole items : List ℕ) (r : Option Response) → ComesTo site B L whole g (option_map octets_of r) → IfNone r (items ≡ whole) → IfNone r (length items < 1056768)
  piece_short L g whole items None comes is = let k = given_short L (g ++ L) whole comes.place None comes.is refl in subst (λ l. length l < 1056768) (sym is) k
  piece_short L g whole items (Some r) comes is = tt

  read_short : (L : Log) (e e_then : Exchange) (g : Log) (c : List Call) → HasRead site B L e e_then g c → e_then.is_over ≡ false → IsShort e → IsShort e_then
  read_short L e e_then _ _ (IsOver over same) live a = subst IsShort (sym same) a
  read_short L e e_then _ _ (HasResponse some same) live a = subst IsShort (sym same) a
  read_short L e e_then _ _ (GaveNothing none same) live a = subst IsShort (sym same) a
  read_short L e e_then _ _ (GaveItsEnd io none fault over) live a = absurd (true≢false (sym over ∙ live))
  read_short L e e_then _ _ (GaveAPiece n piece given none goes comes reads link written) live a = piece_short L given (e.read.items ++ piece) e_then.read.items e_then.response comes reads

  live_before : (x q y : Bool) → y ≡ (x || q) → y ≡ false → x ≡ false
  live_before true q y a e = absurd (true≢false (sym a ∙ e))
  live_before false q y a e = refl

  turn_short : (L : Log) (e e_then : Exchange) (g : Log) (c : List Call) → HasHttpTurn site now B L e e_then g c → e_then.is_over ≡ false → IsShort e → IsShort e_then
  turn_short L e e_then _ _ (IsLate late over) live a = absurd (true≢false (sym over ∙ live))
  turn_short L e e_then _ _ (IsServed between given reads writes late heard told) live a =
      let goes = live_before between.is_over _ e_then.is_over told.is.over live in
      let k = read_short L e between given reads heard goes a in
      subst (λ r. IfNone r (length e_then.read.items < 1056768)) (sym told.is.response) (subst (λ v. IfNone between.response (length v.items < 1056768)) (sym told.is.read) k)

  pub turns_short : (L : Log) (held held_then : List Exchange) (g : Log) (c : List Call) → HadHttpTurns site now B L held held_then g c → All IsShort held → All IsShort held_then
  turns_short _ _ _ _ _ (NoneHeld L) a = a
  turns_short _ _ _ _ _ (IsHeldOn L g given e e_then held held_then c calls turn live since rest) a =
      All-cons IsShort e_then held_then (turn_short L e e_then g c turn live (All-head IsShort e held a)) (turns_short (g ++ L) held held_then given calls rest (All-tail IsShort e held a))
  turns_short _ _ _ _ _ (IsClosed L g given e e_then held held_then c calls turn over rest) a = turns_short (g ++ L) held held_then given calls rest (All-tail IsShort e held a)

pub all_short : (T : Trace) (now : ℕ) (links links_then : Links) (t : Seen) → Accepts T now links links_then t → ServesAdmin T now links links_then t → AreShort links → AreShort links_then
all_short T now links links_then t come w a =
    turns_short links.site now T.base (before_commands t ++ T.log) t.held links_then.requests.exchanges.items t.commands t.admin_serves w.served
    (short_come links.site now T.base links.requests.exchanges.items t.held come.admin.came come.admin.arrivals come.admin.come a)
