-- What is done for the links of the administration, one after the other.
use Rattle.std.proofs.Common.{◌≡◌, ℕ, zero, suc, ◌+◌, ◌<◌, ◌≤◌, nat_le, Bool, true, false, not, ◌||◌, ◌==◌, List, [], ◌∷◌, ◌++◌, length, take, drop, set, get_or, refl, sym, ◌∙◌}
use Rattle.std.proofs.Common.{ap, arith, Some, None, Option, IfNone, ⊎_elim, ◌⊎◌, inl, inr, subst, true≢false, append_assoc, length-append, le-leb, leb-true}
use Rattle.std.specs.Bool.{if◌then◌else◌}
use Rattle.std.specs.List.{list_any, remove}
use Rattle.std.proofs.lemmas.Bool.{cases_Bool}
use Rattle.std.proofs.lemmas.List.{append-nil, take-append-drop, drop-drop, drop-set, drop-set-lt, take_all, drop_all}
use Rattle.std.proofs.lemmas.List.Folds.{list_any-append}
use Rattle.std.proofs.Math.Seq.{take-add}
use Rattle.vault.specs.Records.{Records}
use Rattle.office.specs.Events.{Log}
use Rattle.adminhttp.specs.Sites.{Site}
use Rattle.serving.specs.Wires.{is_fault}
use Rattle.serving.specs.Calls.{Call, Waited, Accepted, Looked, Read, Wrote, Closed}
use Rattle.serving.specs.Requests.{octets_of}
use Rattle.serving.specs.declared.wire.Link.{Link}
use Rattle.serving.specs.declared.wire.Port.TheVariants.{Pop, Admin}
use Rattle.serving.specs.declared.wire.Io.{Io}
use Rattle.serving.specs.declared.wire.Io.TheVariants.{Count, Later, End, Broken}
use Rattle.serving.specs.declared.requests.Response.{Response}
use Rattle.serving.specs.declared.requests.Exchange.{Exchange}
use Rattle.serving.specs.HttpTurns.{is_late_at}
use Rattle.serving.specs.Works.{most_at_once}
use Rattle.serving.proofs.Turns.{not_zero}
use Rattle.serving.proofs.Working.{any_right}
use Rattle.serving.specs.HttpWorks.{HaveComeForAdmin, NoMore, IsKept, IsTurnedAway, WantsMemory, HasAcceptedForAdmin, response_of, ComesTo, HasRead, GaveAPiece, AreWrites}
use Rattle.serving.specs.HttpWorks.{AreWritesOf, admin_share, gave_its_end, took_nothing, is_whole, IsWrittenOf, HasWrittenAll, HasWritten, HasHttpTurn, IsServed, HadHttpTurns, NoneHeld}
use Rattle.serving.specs.HttpWorks.{IsHeldOn, IsClosed}
use Rattle.serving.specs.HttpParts.{Writes}

or_true : (b : Bool) → (b || true) ≡ true
or_true true = refl
or_true false = refl

-- ---- links that come

module _ (now : ℕ) where
  pub come_then : (h1 h2 h3 : List Exchange) (n m : ℕ) (c1 c2 : List Call) → HaveComeForAdmin now h1 h2 n c1 → HaveComeForAdmin now h2 h3 m c2 → HaveComeForAdmin now h1 h3 (n + m) (c1 ++ c2)
  come_then _ _ h3 _ m _ c2 (NoMore held) b = let e : m ≡ 0 + m = omega arith in subst (λ k. HaveComeForAdmin now held h3 k c2) e b
  come_then _ _ h3 _ m _ c2 (IsKept link held more held_then came calls one rest) b =
      let e : suc (came + m) ≡ suc came + m = omega arith in
      subst (λ k. HaveComeForAdmin now held h3 k (Accepted Admin (Some link) ∷ (calls ++ c2))) e
      (IsKept link held more h3 (came + m) (calls ++ c2) one (come_then more held_then h3 came m calls c2 rest b))
  come_then _ _ h3 _ m _ c2 (IsTurnedAway link held held_then came calls full rest) b =
      let e : suc (came + m) ≡ suc came + m = omega arith in
      subst (λ k. HaveComeForAdmin now held h3 k (Accepted Admin (Some link) ∷ Closed Admin link ∷ (calls ++ c2))) e
      (IsTurnedAway link held h3 (came + m) (calls ++ c2) full (come_then held held_then h3 came m calls c2 rest b))
  come_then _ _ h3 _ m _ c2 (WantsMemory link held held_then came calls rest) b =
      let e : suc (came + m) ≡ suc came + m = omega arith in
      subst (λ k. HaveComeForAdmin now held h3 k (Accepted Admin (Some link) ∷ Closed Admin link ∷ (calls ++ c2))) e
      (WantsMemory link held h3 (came + m) (calls ++ c2) (come_then held held_then h3 came m calls c2 rest b))

  pub accepted_none : (held : List Exchange) → HasAcceptedForAdmin now 0 true held held []
  accepted_none held = record { came = 0; arrivals = []; come = NoMore held; calls_are = refl; enough = λ e. omega arith; few = omega arith }

  pub accepted_then : (h1 h2 h3 : List Exchange) (n m : ℕ) (goes : Bool) (c1 c2 : List Call) → HasAcceptedForAdmin now n true h1 h2 c1
      → HasAcceptedForAdmin now m goes h2 h3 c2 → HasAcceptedForAdmin now (n + m) goes h1 h3 (c1 ++ c2)
  accepted_then h1 h2 h3 n m goes c1 c2 a b =
      let last : List Call = if goes then [] else Accepted Admin None ∷ [] in
      record {
        came = a.came + b.came;
        arrivals = a.arrivals ++ b.arrivals;
        come = come_then h1 h2 h3 a.came b.came a.arrivals b.arrivals a.come b.come;
        calls_are = ap (λ c. c ++ c2) (a.calls_are ∙ append-nil a.arrivals) ∙ (ap (λ c. a.arrivals ++ c) b.calls_are ∙ sym (append_assoc a.arrivals b.arrivals last));
        enough = λ e. (let p = a.enough refl in let q = b.enough e in omega (arith, p, q));
        few = (let p = a.few in let q = b.few in omega (arith, p, q));
      }

  -- no fewer than came, and no more than that if the wire had more
  pub accepted_less : (h1 h2 : List Exchange) (n m : ℕ) (goes : Bool) (c : List Call) → n ≤ m → (goes ≡ true → m ≤ n)
      → HasAcceptedForAdmin now n goes h1 h2 c → HasAcceptedForAdmin now m goes h1 h2 c
  accepted_less h1 h2 n m goes c within less a = record {
    came = a.came;
    arrivals = a.arrivals;
    come = a.come;
    calls_are = a.calls_are;
    enough = λ e. (let p = a.enough e in let q = less e in omega (arith, p, q));
    few = (let p = a.few in omega (arith, p, within));
  }

-- ---- what is read of a request

module _ (site : Site) (B : Records) (L : Log) (e e2 : Exchange) where
  pub read_more : (n : ℕ) (piece : List ℕ) (g1 g2 : Log) (c1 c2 : List Call) → e.response ≡ None → e2.is_over ≡ false → IfNone e2.response (e2.read.items ≡ e.read.items ++ piece)
      → e2.link ≡ e.link → e2.written ≡ e.written → g1 ≡ [] → c1 ≡ Read Admin e.link most_at_once (Count n) piece ∷ []
      → (c2 ≡ []) × ComesTo site B (g1 ++ L) (e.read.items ++ piece) g2 (response_of e2) → HasRead site B L e e2 (g2 ++ g1) (c1 ++ c2)
  read_more n piece g1 g2 c1 c2 none live reads link written none_given one_call q =
      let call = Read Admin e.link most_at_once (Count n) piece in
      let comes = subst (λ g. ComesTo site B (g ++ L) (e.read.items ++ piece) g2 (response_of e2)) none_given q.1 in
      let given_is : g2 ++ g1 ≡ g2 = ap (λ g. g2 ++ g) none_given ∙ append-nil g2 in
      let calls_are : c1 ++ c2 ≡ call ∷ [] = ap (λ c. c ++ c2) one_call ∙ ap (λ c. call ∷ c) q.0 in
      subst (λ g. HasRead site B L e e2 g (c1 ++ c2)) (sym given_is) (subst (HasRead site B L e e2 g2) (sym calls_are) (GaveAPiece n piece g2 none live comes reads link written))

-- ---- what is written of a response

pub writes_then : (l : Link) (r : List ℕ) (w w1 w2 : ℕ) (c1 c2 : List Call) → AreWrites l r w c1 w1 → AreWrites l r w1 c2 w2 → AreWrites l r w (c1 ++ c2) w2
writes_then l r w w1 w2 [] c2 a b = subst (λ n. AreWrites l r n c2 w2) a b
writes_then l r w w1 w2 (Wrote Admin k offered (Count n) octets ∷ c1) c2 a b = (a.0, a.1, a.2, writes_then l r (w + n) w1 w2 c1 c2 a.3 b)
writes_then l r w w1 w2 (Wrote Admin k offered Later octets ∷ c1) c2 a b = (a.0, a.1, writes_then l r w w1 w2 c1 c2 a.2 b)
writes_then l r w w1 w2 (Wrote Admin k offered End octets ∷ c1) c2 a b = (a.0, a.1, writes_then l r w w1 w2 c1 c2 a.2 b)
writes_then l r w w1 w2 (Wrote Admin k offered Broken octets ∷ c1) c2 a b = (a.0, a.1, writes_then l r w w1 w2 c1 c2 a.2 b)
writes_then l r w w1 w2 (Wrote Pop k offered io octets ∷ c1) c2 a b = absurd a
writes_then l r w w1 w2 (Waited millis ∷ c1) c2 a b = absurd a
writes_then l r w w1 w2 (Accepted port link ∷ c1) c2 a b = absurd a
writes_then l r w w1 w2 (Looked port link io octets ∷ c1) c2 a b = absurd a
writes_then l r w w1 w2 (Read port link room io octets ∷ c1) c2 a b = absurd a
writes_then l r w w1 w2 (Closed port link ∷ c1) c2 a b = absurd a

writes_of_then : (l : Link) (r : Option Response) (w w1 w2 : ℕ) (c1 c2 : List Call) → AreWritesOf l r w c1 w1 → AreWritesOf l r w1 c2 w2 → AreWritesOf l r w (c1 ++ c2) w2
writes_of_then l None w w1 w2 c1 c2 a b = (subst (λ c. c ++ c2 ≡ []) (sym a.0) b.0, b.1 ∙ a.1)
writes_of_then l (Some r) w w1 w2 c1 c2 a b = writes_then l (octets_of r) w w1 w2 c1 c2 a b

pub writes_none : (l : Link) (r : Option Response) (w : ℕ) → AreWritesOf l r w [] w
writes_none l None w = (refl, refl)
writes_none l (Some r) w = refl

-- of the response that there is
pub writes_here : (l : Link) (r : Option Response) (response : Response) (w w2 : ℕ) (c : List Call) → r ≡ Some response → AreWrites l (octets_of response) w c w2 → AreWritesOf l r w c w2
writes_here l r response w w2 c is a = let e : Some response ≡ r = sym is in subst (λ o. AreWritesOf l o w c w2) e a

-- a write that took none
pub wrote_none : (l : Link) (r : List ℕ) (w offered : ℕ) (io : Io) (octets : List ℕ) → is_fault io ≡ true
    → offered ≡ length (take admin_share (drop w r)) → AreWrites l r w (Wrote Admin l offered io octets ∷ []) w
wrote_none l r w offered End octets e all = (refl, all, refl)
wrote_none l r w offered Broken octets e all = (refl, all, refl)
wrote_none l r w offered Later octets e all = (refl, all, refl)
wrote_none l r w offered (Count n) octets e all = cc

pub whole_here : (r : Option Response) (response : Response) (w : ℕ) → r ≡ Some response → is_whole r w ≡ nat_le (length (octets_of response)) w
whole_here r response w is = ap (λ o. is_whole o w) is

whole_more : (r : Option Response) (w w2 : ℕ) → w ≤ w2 → is_whole r w ≡ true → is_whole r w2 ≡ true
whole_more None w w2 h e = e
whole_more (Some r) w w2 h e = let k : length (octets_of r) ≤ w = leb-true (length (octets_of r)) w e in le-leb (length (octets_of r)) w2 (omega (arith, h, k))

or_joined : (x u s v t y z : Bool) → y ≡ (x || (u || s)) → z ≡ (y || (v || t)) → (u ≡ true → v ≡ true) → z ≡ (x || (v || (s || t)))
or_joined true u s v t y z a b m = b ∙ ap (λ q. q || (v || t)) a
or_joined false true s v t y z a b m = b ∙ (ap (λ q. q || (v || t)) a ∙ sym (ap (λ q. q || (s || t)) (m refl)))
or_joined false false true v t y z a b m = b ∙ (ap (λ q. q || (v || t)) a ∙ sym (or_true v))
or_joined false false false v t y z a b m = b ∙ ap (λ q. q || (v || t)) a

over_first : (x q y : Bool) → y ≡ (x || q) → x ≡ true → y ≡ true
over_first x q y a e = a ∙ ap (λ b. b || q) e

none_joined : (c1 c2 : List Call) → c1 ≡ [] → c2 ≡ [] → c1 ++ c2 ≡ []
none_joined c1 c2 a b = ap (λ c. c ++ c2) a ∙ b

pub response_then : (e1 e2 e3 : Exchange) (n m k j : ℕ) (c1 c2 : List Call) → IsWrittenOf e1 e2 n k c1 → IsWrittenOf e2 e3 m j c2 → IsWrittenOf e1 e3 (n + m) (k + j) (c1 ++ c2)
response_then e1 e2 e3 n m k j c1 c2 a b =
    let same : e3.response ≡ e1.response = b.response ∙ a.response in
    let grown : e2.written ≤ e3.written = (let p = b.octets_are in omega (arith, p)) in
    let writes2 = subst (λ l. AreWritesOf l e1.response e2.written c2 e3.written) a.link (subst (λ r. AreWritesOf e2.link r e2.written c2 e3.written) a.response b.writes) in
    let still : is_whole e2.response e2.written ≡ true → is_whole e3.response e3.written ≡ true = λ h.
    subst (λ r. is_whole r e3.written ≡ true) (sym b.response) (whole_more e2.response e2.written e3.written grown h) in
    record {
      link = b.link ∙ a.link;
      read = b.read ∙ a.read;
      response = same;
      writes = writes_of_then e1.link e1.response e1.written e2.written e3.written c1 c2 a.writes writes2;
      idle = λ h. none_joined c1 c2 (a.idle h) (b.idle (over_first e1.is_over (is_whole e2.response e2.written || list_any gave_its_end c1) e2.is_over a.over h));
      over = or_joined e1.is_over (is_whole e2.response e2.written) (list_any gave_its_end c1) (is_whole e3.response e3.written) (list_any gave_its_end c2) e2.is_over e3.is_over a.over b.over still
          ∙ ap (λ q. e1.is_over || (is_whole e3.response e3.written || q)) (sym (list_any-append gave_its_end c1 c2));
      times_are = (let p = a.times_are in let q = b.times_are in let s = length-append c1 c2 in omega (arith, p, q, s));
      octets_are = (let p = a.octets_are in let q = b.octets_are in omega (arith, p, q));
    }

-- fewer writes, and fewer octets
pub response_less : (e1 e2 : Exchange) (n m k j : ℕ) (c : List Call) → m ≤ n → j ≤ k → IsWrittenOf e1 e2 n k c → IsWrittenOf e1 e2 m j c
response_less e1 e2 n m k j c h h2 a = record {
  link = a.link;
  read = a.read;
  response = a.response;
  writes = a.writes;
  idle = a.idle;
  over = a.over;
  times_are = (let p = a.times_are in omega (arith, p, h));
  octets_are = (let p = a.octets_are in omega (arith, p, h2));
}

-- nothing was written yet, or so much
abbrev pub WrittenSoFar : (e e_then : Exchange) (times octets : ℕ) (calls : List Call) → Type 0
WrittenSoFar e e_then times octets calls = ((e_then ≡ e) × (times ≡ 0) × (octets ≡ 0) × (calls ≡ [])) ⊎ IsWrittenOf e e_then times octets calls

-- a count that isn't 0 is a write
pub written_once : (n : ℕ) → (n == 0) ≡ false → 1 ≤ (if n == 0 then 0 else 1)
written_once n e = rw e (omega arith)

-- the first, or a further one
response_next : (e e1 e2 : Exchange) (n m k j : ℕ) (c1 c2 : List Call) → WrittenSoFar e e1 n k c1 → IsWrittenOf e1 e2 m j c2 → IsWrittenOf e e2 (n + m) (k + j) (c1 ++ c2)
response_next e e1 e2 n m k j c1 c2 (inl (same, no_times, no_octets, no_calls)) b =
    let times : n + m ≤ m = omega (arith, no_times) in
    let octets : k + j ≤ j = omega (arith, no_octets) in
    subst (λ x. IsWrittenOf x e2 (n + m) (k + j) (c1 ++ c2)) same
    (subst (λ c. IsWrittenOf e1 e2 (n + m) (k + j) (c ++ c2)) (sym no_calls) (response_less e1 e2 m (n + m) j (k + j) c2 times octets b))
response_next e e1 e2 n m k j c1 c2 (inr a) b = response_then e e1 e2 n m k j c1 c2 a b

pub response_more : (e e1 e2 : Exchange) (n m k j times octets : ℕ) (c1 c2 : List Call) → times ≤ n + m → octets ≤ k + j → WrittenSoFar e e1 n k c1
    → IsWrittenOf e1 e2 m j c2 → IsWrittenOf e e2 times octets (c1 ++ c2)
response_more e e1 e2 n m k j times octets c1 c2 h h2 a b = response_less e e2 (n + m) times (k + j) octets (c1 ++ c2) h h2 (response_next e e1 e2 n m k j c1 c2 a b)

-- nothing more can be written for now
all_written : (e2 : Exchange) (c1 c2 : List Call) → HasWrittenAll e2 c2 → HasWrittenAll e2 (c1 ++ c2)
all_written e2 c1 c2 (inl over) = inl over
all_written e2 c1 c2 (inr (inl later)) = inr (inl (any_right took_nothing c1 c2 later))
all_written e2 c1 c2 (inr (inr none)) = inr (inr none)

pub response_ended : (e e1 e2 : Exchange) (n m k j : ℕ) (c1 c2 : List Call) → length (c1 ++ c2) ≤ 64 → WrittenSoFar e e1 n k c1 → IsWrittenOf e1 e2 m j c2 → HasWrittenAll e2 c2
    → HasWritten e e2 (c1 ++ c2)
response_ended e e1 e2 n m k j c1 c2 few a b ends =
    record { times = n + m; octets = k + j; is = response_next e e1 e2 n m k j c1 c2 a b; few = few; enough = inr (inr (all_written e2 c1 c2 ends)) }

-- the share is written, or as many writes were made as may be
pub response_share : (e e1 e2 : Exchange) (n m k j : ℕ) (c1 c2 : List Call) → length (c1 ++ c2) ≤ 64 → 16384 ≤ k + j → WrittenSoFar e e1 n k c1 → IsWrittenOf e1 e2 m j c2 → HasWritten e e2 (c1 ++ c2)
response_share e e1 e2 n m k j c1 c2 few h a b = record { times = n + m; octets = k + j; is = response_next e e1 e2 n m k j c1 c2 a b; few = few; enough = inr (inl h) }

pub response_often : (e e2 : Exchange) (n k : ℕ) (c : List Call) → length c ≤ 64 → 64 ≤ n → WrittenSoFar e e2 n k c → HasWritten e e2 c
response_often e e2 n k c few h (inl (same, no_times, no_octets, no_calls)) = absurd (omega (arith, h, no_times))
response_often e e2 n k c few h (inr a) = record { times = n; octets = k; is = a; few = few; enough = inl h }

-- one call more at most
pub one_more_call : (n : ℕ) (c1 c2 : List Call) → length c1 ≤ n → length c2 ≤ 1 → length (c1 ++ c2) ≤ n + 1
one_more_call n c1 c2 h k = let e = length-append c1 c2 in omega (arith, e, h, k)

-- ---- one write, or none

or_none : (b : Bool) → b ≡ (b || false)
or_none true = refl
or_none false = refl

over_none : (r : Option Response) (over : Bool) (w : ℕ) → r ≡ None → over ≡ (over || (is_whole r w || false))
over_none r over w e = subst (λ o. over ≡ (over || (is_whole o w || false))) (sym e) (or_none over)

-- nothing is written on a link that is over, or has no response
pub response_over : (e : Exchange) → e.is_over ≡ true → Writes e e 0 0 false []
response_over e over = record {
  is = record {
    link = refl;
    read = refl;
    response = refl;
    writes = writes_none e.link e.response e.written;
    idle = λ h. refl;
    over = over ∙ sym (ap (λ b. b || (is_whole e.response e.written || false)) over);
    times_are = omega arith;
    octets_are = omega arith;
  };
  once = omega arith;
  ends = λ h. inl over;
}

pub response_none : (e : Exchange) → e.response ≡ None → Writes e e 0 0 false []
response_none e none = record {
  is = record {
    link = refl;
    read = refl;
    response = refl;
    writes = writes_none e.link e.response e.written;
    idle = λ h. refl;
    over = over_none e.response e.is_over e.written none;
    times_are = omega arith;
    octets_are = omega arith;
  };
  once = omega arith;
  ends = λ h. inr (inr none);
}

module _ (e e2 : Exchange) (r : Response) where
  -- all is written
  pub response_whole : e.response ≡ Some r → e2.link ≡ e.link → e2.read ≡ e.read → e2.response ≡ e.response → e2.written ≡ e.written → e2.is_over ≡ true
      → length (octets_of r) ≤ e.written → Writes e e2 0 0 false []
  response_whole has link read same written over whole =
      let full : is_whole e2.response e2.written ≡ true = whole_here e2.response r e2.written (same ∙ has)
      ∙ (ap (nat_le (length (octets_of r))) written ∙ le-leb (length (octets_of r)) e.written whole) in
      record {
        is = record {
          link = link;
          read = read;
          response = same;
          writes = subst (AreWritesOf e.link e.response e.written []) (sym written) (writes_none e.link e.response e.written);
          idle = λ h. refl;
          over = over ∙ sym (ap (λ b. e.is_over || (b || false)) full ∙ or_true e.is_over);
          times_are = omega arith;
          octets_are = omega (arith, written);
        };
        once = omega arith;
        ends = λ h. inl over;
      }

  -- the next octets were taken
  pub response_some : (offered n : ℕ) (octets : List ℕ) → e.response ≡ Some r → e.is_over ≡ false → 0 < n
      → offered ≡ length (take admin_share (drop e.written (octets_of r))) → octets ≡ take n (drop e.written (octets_of r)) → e2.link ≡ e.link
      → e2.read ≡ e.read → e2.response ≡ e.response → e2.written ≡ e.written + n
      → e2.is_over ≡ nat_le (length (octets_of r)) (e.written + n) → Writes e e2 (if n == 0 then 0 else 1) n (not (n == 0)) (Wrote Admin e.link offered (Count n) octets ∷ [])
  response_some offered n octets has goes some all is link read same written over =
      let z = not_zero n some in
      let full : is_whole e2.response e2.written ≡ nat_le (length (octets_of r)) (e.written + n) = whole_here e2.response r e2.written (same ∙ has) ∙ ap (nat_le (length (octets_of r))) written in
      record {
        is = record {
          link = link;
          read = read;
          response = same;
          writes = writes_here e.link e.response r e.written e2.written (Wrote Admin e.link offered (Count n) octets ∷ []) has (refl, all, is, written);
          idle = λ h. absurd (true≢false (sym h ∙ goes));
          over = over ∙ (or_none (nat_le (length (octets_of r)) (e.written + n)) ∙ sym (ap (λ b. b || (is_whole e2.response e2.written || false)) goes ∙ ap (λ b. b || false) full));
          times_are = rw z (omega arith);
          octets_are = omega (arith, written);
        };
        once = omega arith;
        ends = λ h. (let k : not (n == 0) ≡ true = ap not z in absurd (true≢false (sym k ∙ h)));
      }

  -- the link's end was told
  pub response_cut : (offered : ℕ) (io : Io) (octets : List ℕ) → e.response ≡ Some r → e.is_over ≡ false → is_fault io ≡ true
      → offered ≡ length (take admin_share (drop e.written (octets_of r))) → e2.link ≡ e.link → e2.read ≡ e.read → e2.response ≡ e.response → e2.written ≡ e.written → e2.is_over ≡ true
      → Writes e e2 0 0 false (Wrote Admin e.link offered io octets ∷ [])
  response_cut offered io octets has goes fault all link read same written over = record {
    is = record {
      link = link;
      read = read;
      response = same;
      writes = writes_here e.link e.response r e.written e2.written (Wrote Admin e.link offered io octets ∷ []) has
          (subst (AreWrites e.link (octets_of r) e.written (Wrote Admin e.link offered io octets ∷ [])) (sym written) (wrote_none e.link (octets_of r) e.written offered io octets fault all));
      idle = λ h. absurd (true≢false (sym h ∙ goes));
      over = over ∙ sym (ap (λ b. e.is_over || (is_whole e2.response e2.written || (b || false))) fault ∙ (ap (λ b. e.is_over || b) (or_true (is_whole e2.response e2.written)) ∙ or_true e.is_over));
      times_are = omega arith;
      octets_are = omega (arith, written);
    };
    once = omega arith;
    ends = λ h. inl over;
  }

-- the link took nothing for now
pub response_later : (e : Exchange) (r : Response) (offered : ℕ) → e.response ≡ Some r → e.is_over ≡ false → e.written < length (octets_of r)
    → offered ≡ length (take admin_share (drop e.written (octets_of r)))
    → Writes e e 0 0 false (Wrote Admin e.link offered Later [] ∷ [])
response_later e r offered has goes less all =
    let part : is_whole e.response e.written ≡ false = whole_here e.response r e.written has ∙ not_le (length (octets_of r)) e.written less in
    record {
      is = record {
        link = refl;
        read = refl;
        response = refl;
        writes = writes_here e.link e.response r e.written e.written (Wrote Admin e.link offered Later [] ∷ []) has (refl, all, refl);
        idle = λ h. absurd (true≢false (sym h ∙ goes));
        over = or_none e.is_over ∙ ap (λ b. e.is_over || (b || false)) (sym part);
        times_are = omega arith;
        octets_are = omega arith;
      };
      once = omega arith;
      ends = λ h. inr (inl refl);
    } where
      not_le : (n w : ℕ) → w < n → nat_le n w ≡ false
      not_le n w h = ⊎_elim (λ (k : nat_le n w ≡ true). (let q : n ≤ w = leb-true n w k in absurd (omega (arith, h, q)))) (λ (k : nat_le n w ≡ false). k) (cases_Bool (nat_le n w))

-- ---- a link's turn, and another's

pub turns_then : (site : Site) (now : ℕ) (B : Records) (L : Log) (h1 t1 h2 t2 : List Exchange) (g1 g2 : Log) (c1 c2 : List Call)
    → HadHttpTurns site now B L h1 t1 g1 c1 → HadHttpTurns site now B (g1 ++ L) h2 t2 g2 c2
    → HadHttpTurns site now B L (h1 ++ h2) (t1 ++ t2) (g2 ++ g1) (c1 ++ c2)
turns_then site now B _ _ _ h2 t2 _ g2 _ c2 (NoneHeld L) b = subst (λ g. HadHttpTurns site now B L h2 t2 g c2) (sym (append-nil g2)) b
turns_then site now B _ _ _ h2 t2 _ g2 _ c2 (IsHeldOn L g given e e_then held held_then c calls turn live since rest) b =
    let later = turns_then site now B (g ++ L) held held_then h2 t2 given g2 calls c2 rest (subst (λ l. HadHttpTurns site now B l h2 t2 g2 c2) (append_assoc given g L) b) in
    subst (λ x. HadHttpTurns site now B L (e ∷ (held ++ h2)) (e_then ∷ (held_then ++ t2)) (g2 ++ (given ++ g)) x) (sym (append_assoc c calls c2))
    (subst (λ x. HadHttpTurns site now B L (e ∷ (held ++ h2)) (e_then ∷ (held_then ++ t2)) x (c ++ (calls ++ c2))) (append_assoc g2 given g)
    (IsHeldOn L g (g2 ++ given) e e_then (held ++ h2) (held_then ++ t2) c (calls ++ c2) turn live since later))
turns_then site now B _ _ _ h2 t2 _ g2 _ c2 (IsClosed L g given e e_then held held_then c calls turn over rest) b =
    let later = turns_then site now B (g ++ L) held held_then h2 t2 given g2 calls c2 rest (subst (λ l. HadHttpTurns site now B l h2 t2 g2 c2) (append_assoc given g L) b) in
    subst (λ x. HadHttpTurns site now B L (e ∷ (held ++ h2)) (held_then ++ t2) (g2 ++ (given ++ g)) x) (sym (append_assoc c (Closed Admin e.link ∷ calls) c2))
    (subst (λ x. HadHttpTurns site now B L (e ∷ (held ++ h2)) (held_then ++ t2) x (c ++ (Closed Admin e.link ∷ (calls ++ c2)))) (append_assoc g2 given g)
    (IsClosed L g (g2 ++ given) e e_then (held ++ h2) (held_then ++ t2) c (calls ++ c2) turn over later))

pub turn_served : (site : Site) (now : ℕ) (B : Records) (L : Log) (e e1 e2 : Exchange) (g1 g2 : Log) (c1 c2 : List Call) → is_late_at now e ≡ false
    → HasRead site B L e e1 g1 c1 → g2 ≡ [] → HasWritten e1 e2 c2
    → HasHttpTurn site now B L e e2 (g2 ++ g1) (c1 ++ c2)
turn_served site now B L e e1 e2 g1 g2 c1 c2 late heard none told =
    let is : g1 ≡ g2 ++ g1 = sym (ap (λ g. g ++ g1) none) in
    subst (λ g. HasHttpTurn site now B L e e2 g (c1 ++ c2)) is (IsServed e1 g1 c1 c2 late heard told)

module _ (site : Site) (now : ℕ) (B : Records) (L : Log) (e t : Exchange) (g : Log) (c : List Call) where
  pub held_on : HasHttpTurn site now B L e t g c → t.is_over ≡ false → t.since ≡ e.since → HadHttpTurns site now B L (e ∷ []) (t ∷ []) g c
  held_on turn live since = subst (HadHttpTurns site now B L (e ∷ []) (t ∷ []) g) (append-nil c) (IsHeldOn L g [] e t [] [] c [] turn live since (NoneHeld (g ++ L)))

  closed : HasHttpTurn site now B L e t g c → t.is_over ≡ true → (l : Link) → l ≡ e.link → HadHttpTurns site now B L (e ∷ []) [] g (c ++ Closed Admin l ∷ [])
  closed turn over l same =
      subst (λ k. HadHttpTurns site now B L (e ∷ []) [] g (c ++ Closed Admin k ∷ [])) (sym same) (IsClosed L g [] e t [] [] c [] turn over (NoneHeld (g ++ L)))

pub closed_so : (site : Site) (now : ℕ) (B : Records) (L : Log) (e t : Exchange) (g1 g2 : Log) (c1 c2 : List Call)
    → HasHttpTurn site now B L e t g1 c1 → t.is_over ≡ true → (l : Link) → l ≡ e.link → g2 ≡ [] → c2 ≡ Closed Admin l ∷ []
    → HadHttpTurns site now B L (e ∷ []) [] (g2 ++ g1) (c1 ++ c2)
closed_so site now B L e t g1 g2 c1 c2 turn over l same none call =
    subst (λ g. HadHttpTurns site now B L (e ∷ []) [] (g ++ g1) (c1 ++ c2)) (sym none)
    (subst (λ c. HadHttpTurns site now B L (e ∷ []) [] g1 (c1 ++ c)) (sym call) (closed site now B L e t g1 c1 turn over l same))

-- ---- the links that are held

pub one_at : (xs : List Exchange) (i : ℕ) (d : Exchange) → i < length xs → take 1 (drop i xs) ≡ get_or xs i d ∷ []
one_at [] i d h = absurd (omega (arith, h))
one_at (x ∷ xs) zero d h = refl
one_at (x ∷ xs) (suc i) d h = one_at xs i d (omega (arith, h))

pub one_set : (xs : List Exchange) (i : ℕ) (y : Exchange) → i < length xs → take 1 (drop i (set xs i y)) ≡ y ∷ []
one_set xs i y h = ap (take 1) (drop-set xs i y h)

behind_removed : (xs : List Exchange) (i : ℕ) (y : Exchange) → drop i (remove (set xs i y) i) ≡ drop (suc i) xs
behind_removed [] zero y = refl
behind_removed [] (suc i) y = refl
behind_removed (x ∷ xs) zero y = refl
behind_removed (x ∷ xs) (suc i) y = behind_removed xs i y

pub behind_closed : (xs left : List Exchange) (i : ℕ) (y : Exchange) → left ≡ remove (set xs i y) i → drop i left ≡ drop (i + 1) xs
behind_closed xs left i y is =
    let e : suc i ≡ i + 1 = omega arith in
    ap (drop i) is ∙ (behind_removed xs i y ∙ ap (λ n. drop n xs) e)

pub behind_held : (xs : List Exchange) (i : ℕ) (y : Exchange) → drop (i + 1) (set xs i y) ≡ drop (i + 1) xs
behind_held xs i y = drop-set-lt (i + 1) xs i y (omega arith)

-- those in front of a place have had their turns, of those that were held at first
pub record HadSome (site : Site) (now place : ℕ) (held held_then : List Exchange) (B : Records) (L : Log) (given : Log) (calls : List Call) : Type 0 where
  pub done : List Exchange
  pub is : held ≡ done ++ drop place held_then
  pub had : HadHttpTurns site now B L done (take place held_then) given calls

pub had_none : (site : Site) (now : ℕ) (held : List Exchange) (B : Records) (L : Log) → HadSome site now 0 held held B L [] []
had_none site now held B L = record { done = []; is = refl; had = NoneHeld L }

module _ (site : Site) (now place : ℕ) (xs ys zs : List Exchange) (B : Records) (L : Log) (g1 g2 : Log) (c1 c2 : List Call) where
  rest_is : (n : ℕ) → (a : HadSome site now place xs ys B L g1 c1) → drop n zs ≡ drop (place + 1) ys → xs ≡ (a.done ++ take 1 (drop place ys)) ++ drop n zs
  rest_is n a behind =
      a.is ∙ (ap (λ l. a.done ++ l) (sym (take-append-drop 1 (drop place ys)))
      ∙ (sym (append_assoc a.done (take 1 (drop place ys)) (drop 1 (drop place ys)))
      ∙ ap (λ l. (a.done ++ take 1 (drop place ys)) ++ l) (drop-drop 1 place ys ∙ sym behind)))

  pub had_held : HadSome site now place xs ys B L g1 c1 → HadHttpTurns site now B (g1 ++ L) (take 1 (drop place ys)) (take 1 (drop place zs)) g2 c2
      → take place zs ≡ take place ys → drop (place + 1) zs ≡ drop (place + 1) ys
      → HadSome site now (place + 1) xs zs B L (g2 ++ g1) (c1 ++ c2)
  had_held a turn front behind = record {
    done = a.done ++ take 1 (drop place ys);
    is = rest_is (place + 1) a behind;
    had = subst (λ l. HadHttpTurns site now B L (a.done ++ take 1 (drop place ys)) l (g2 ++ g1) (c1 ++ c2)) (ap (λ l. l ++ take 1 (drop place zs)) (sym front) ∙ sym (take-add place 1 zs))
        (turns_then site now B L a.done (take place ys) (take 1 (drop place ys)) (take 1 (drop place zs)) g1 g2 c1 c2 a.had turn);
  }

  pub had_closed : HadSome site now place xs ys B L g1 c1 → HadHttpTurns site now B (g1 ++ L) (take 1 (drop place ys)) [] g2 c2 → take place zs ≡ take place ys → drop place zs ≡ drop (place + 1) ys
      → HadSome site now place xs zs B L (g2 ++ g1) (c1 ++ c2)
  had_closed a turn front behind = record {
    done = a.done ++ take 1 (drop place ys);
    is = rest_is place a behind;
    had = subst (λ l. HadHttpTurns site now B L (a.done ++ take 1 (drop place ys)) l (g2 ++ g1) (c1 ++ c2)) (append-nil (take place ys) ∙ sym front)
        (turns_then site now B L a.done (take place ys) (take 1 (drop place ys)) [] g1 g2 c1 c2 a.had turn);
  }

pub had_all : (site : Site) (now place : ℕ) (xs ys : List Exchange) (B : Records) (L : Log) (g : Log) (c : List Call) → length ys ≤ place
    → HadSome site now place xs ys B L g c → HadHttpTurns site now B L xs ys g c
had_all site now place xs ys B L g c h a =
    let is : xs ≡ a.done = a.is ∙ (ap (λ l. a.done ++ l) (drop_all place ys h) ∙ append-nil a.done) in
    subst (λ l. HadHttpTurns site now B L l ys g c) (sym is) (subst (λ l. HadHttpTurns site now B L a.done l g c) (take_all place ys h) a.had)
