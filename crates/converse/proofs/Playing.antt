-- What lines print one after the other, and what an office lends.
use Rattle.std.proofs.Common.{◌≡◌, ℕ, ◌<◌, ◌≤◌, ltb-true, ltb-false, Bool, true, false, not, ◌||◌, ◌==◌, nat_lt, List, [], ◌∷◌, ◌++◌, ◌+◌, length, take, get_or, map, option_map}
use Rattle.std.proofs.Common.{Option, Some, None, IfSome, Result, Ok, Err, refl, arith, sym, ◌∙◌, ap, subst, true≢false, append-nil, append_assoc, if◌then◌else◌}
use Rattle.std.proofs.KnownBytes.{Appends-nil, Appends-trans}
use Rattle.std.proofs.lemmas.List.{take_all, take_more, take_min, take-append-le, length-take, map-append}
use Rattle.std.proofs.lemmas.Grind.{flat_map-append}
use Rattle.std.specs.Fmt.{decimal}
use Rattle.std.specs.Prelude.{codes, IsErr}
use Rattle.std.specs.Io.KnownBytes.{Appends, Keeps}
use Rattle.vault.specs.Changes.{Contents}
use Rattle.office.specs.Events.{Event, Log, Trace, given}
use Rattle.office.specs.Events as event
use Rattle.office.specs.Expected.{IsOutcome, ignored, or_ignored, shown_at, reason_if}
use Rattle.office.specs.Kept.{Kept}
use Rattle.office.specs.Outcomes.{Outcome, NoSuchConnection, NotReady, event_tag_of}
use Rattle.office.specs.Outcomes as outcome
use Rattle.office.specs.Stands.{StandsFor, Seen, IsKeptFor, is_seen_open, untaken_of, seen, length_of_lent, lent_by, vault_of}
use Rattle.office.specs.Stands.{Keeps as Kept_by}
use Rattle.office.specs.Trace.{history, is_open_at, rest, rest_if, IsLent, most_lent}
use Rattle.office.specs.Seen.{outcome_seen}
use Rattle.office.specs.declared.event.Outcome.{Outcome as Shown}
use Rattle.office.specs.declared.office.Office.{Office}
use Rattle.office.specs.declared.output.Source.{Source}
use Rattle.office.specs.declared.output.Source.TheVariants.{Nothing, Sizes, Uids, Text}
use Rattle.office.specs.Output.{Output, is_feeding, Feeds, Owes}
use Rattle.session.specs.Session.{Session}
use Rattle.converse.specs.Script.{ScriptLine, Does, Drains, line_seen, script_of}
use Rattle.converse.specs.declared.script.Line.{Line}
use Rattle.converse.specs.Escapes.{escape, escaped}
use Rattle.converse.specs.Talked.{trace_of}
use Rattle.converse.specs.Played.{lent_at, owed_by, sent_before, TakesAll, Acts, ComesTo, WithCause, Caused, failures, told_text, still_known, drained, drained_octets, AreTakings}
use Rattle.converse.specs.Played.{Takes, Point, point, PlaysLine, Plays, HasPlayed, HasRun}
use Rattle.vault.specs.Calls.{has_grown}
use Rattle.office.specs.Outcomes.{HasCause}
use Rattle.converse.proofs.Clauses.{appends_kept, grown_since, grown_still}

-- ---- an office lends the first of what is owed

-- what is spent puts nothing
spent_none : (c : Contents) (s : Option Session) (source : Source) (coming : List ℕ) → is_feeding source ≡ false → Feeds c s source coming → coming ≡ []
spent_none c None Nothing coming h f = f
spent_none c (Some s) Nothing coming h f = f
spent_none c s (Sizes done) coming h f = absurd (true≢false h)
spent_none c s (Uids done) coming h f = absurd (true≢false h)
spent_none c s (Text r) coming h f = absurd (true≢false h)

-- what is lent of what stands ready is what is lent of all
same_lent : (c : Contents) (s : Option Session) (o : Output) (octets : List ℕ) → Owes c s o octets → (b : Bool) → is_feeding o.source ≡ b → take most_lent o.ready ≡ take most_lent octets
same_lent c s o octets w true e = sym (take-append-le most_lent o.ready w.coming (w.filled e)) ∙ ap (take most_lent) (sym w.is)
same_lent c s o octets w false e =
    let none = spent_none c s o.source w.coming e w.feeds in
    ap (take most_lent) (sym (w.is ∙ (ap (λ xs. o.ready ++ xs) none ∙ append-nil o.ready)))

-- of nothing, nothing is lent
none_taken : (n : ℕ) → ◌≡◌ {A = List ℕ} (take n []) []
none_taken n = take_all n [] (omega (arith))

lent_of : (contents : Contents) (s : Seen) (k : Option Kept) → IsKeptFor contents s k → length_of_lent k ≡ length (take most_lent (rest_if (is_seen_open s) (untaken_of s)))
lent_of contents s None h = let e = h.closed in rw e (sym (ap length (none_taken most_lent)))
lent_of contents s (Some k) h = let e = h.opened in rw e (ap length (same_lent contents k.session k.output (untaken_of s) h.owed (is_feeding k.output.source) refl))

pub lent_owed : {V : Type 0} (Holds : V → Contents → Type 0) (o : Office V) (T : Trace) → StandsFor Holds o T → (c : ℕ) → lent_by o c ≡ owed_by T c
lent_owed Holds o T st c = lent_of st.keeps.contents (seen T c) _ (st.connections c)

pub lent_whole : (rest lent : List ℕ) → IsLent rest lent → length lent ≡ length (take most_lent rest) → lent ≡ take most_lent rest
lent_whole rest lent is e = is.beginning ∙ (ap (λ n. take n rest) (e ∙ length-take most_lent rest) ∙ take_min most_lent rest)

-- ---- outcomes

ignored_same : (T : Trace) (lent owed : ℕ → ℕ) → ((c : ℕ) → lent c ≡ owed c) → (e : Event) → ignored T lent e ≡ ignored T owed e
ignored_same T lent owed same (event.Start host boot limits) = refl
ignored_same T lent owed same event.Connect = refl
ignored_same T lent owed same (event.Bytes c piece) = refl
ignored_same T lent owed same (event.Took c n) =
    ap (λ k. if not (is_open_at T.log (history T) c) then Some NoSuchConnection else reason_if (n == 0 || nat_lt k n) NotReady) (same c)
ignored_same T lent owed same (event.Gone c) = refl
ignored_same T lent owed same (event.Tick now) = refl
ignored_same T lent owed same (event.Deposit d class id text) = refl
ignored_same T lent owed same (event.Admin command) = refl
ignored_same T lent owed same (event.Restart boot) = refl

outcome_same : (T : Trace) (lent owed : ℕ → ℕ) → ((c : ℕ) → lent c ≡ owed c) → (e : Event) (o : Outcome) → IsOutcome T lent e o → IsOutcome T owed e o
outcome_same T lent owed same e o h = record {
  tag = h.tag;
  may = h.may;
  is = h.is ∙ ap (λ r. or_ignored r (shown_at T.base T.log (history T) e h.tag)) (ignored_same T lent owed same e);
}

-- by what is owed
pub by_owed : {V : Type 0} (Holds : V → Contents → Type 0) (o : Office V) (T : Trace) → StandsFor Holds o T → (e : Event) (x : Outcome) → IsOutcome T (lent_by o) e x → IsOutcome T (owed_by T) e x
by_owed Holds o T st e x h = outcome_same T (lent_by o) (owed_by T) (lent_owed Holds o T st) e x h

-- ---- lines

-- one line more
pub plays_more : (P M Q : Point) (lines : List ScriptLine) (line : ScriptLine) (printed more : List ℕ) → Plays P lines printed M → PlaysLine M line more Q
    → Plays P (lines ++ line ∷ []) (printed ++ more) Q
plays_more P M Q [] line printed more h l =
    (Q, more, [], subst (λ X. PlaysLine X line more Q) h.0 l, (refl, refl), ap (λ (t : List ℕ). t ++ more) h.1 ∙ sym (append-nil more))
plays_more P M Q (first ∷ lines) line printed more (N, a, b, x, y, e) l =
    (N, a, b ++ more, x, plays_more N M Q lines line b more y l, ap (λ (t : List ℕ). t ++ more) e ∙ append_assoc a b more)

-- ---- takings

-- what is lent is the first of what is owed
pub owed_whole : {V : Type 0} (Holds : V → Contents → Type 0) (o : Office V) (T : Trace) → StandsFor Holds o T → (c : ℕ) (lent : List ℕ) → IsLent (rest T c) lent → length lent ≡ lent_by o c
    → lent ≡ lent_at T c
owed_whole Holds o T st c lent is count = lent_whole (rest T c) lent is (count ∙ lent_owed Holds o T st c)

-- so much was taken, and is printed as it comes
abbrev pub TakesSoFar : Trace → ℕ → Outcome → (printed : List ℕ) → Trace → Type 0
TakesSoFar T c o printed U = (outcomes : List Outcome) × Takes T c outcomes o U × (printed ≡ escaped (drained_octets c T outcomes))

pub takes_none : (T : Trace) (c : ℕ) → TakesSoFar T c outcome.Done [] T
takes_none T c = ([], record { are = tt; last = refl; behind = refl }, refl)

takes_next : (T : Trace) (c : ℕ) (os : List Outcome) (p : Outcome) → AreTakings c T os → 0 < owed_by (drained c T os) c
    → IsOutcome (drained c T os) (owed_by (drained c T os)) (event.Took c (owed_by (drained c T os) c)) p
    → TakesSoFar T c p (escaped (drained_octets c T os) ++ escaped (lent_at (drained c T os) c)) (given (drained c T os) (event.Took c (owed_by (drained c T os) c)) (event_tag_of p))
takes_next T c os p are some is =
    (p ∷ os, record { are = (are, some, is); last = refl; behind = refl }, sym (flat_map-append escape (drained_octets c T os) (lent_at (drained c T os) c)))

-- one taking more
pub takes_more : (T : Trace) (c : ℕ) (o p : Outcome) (printed : List ℕ) (U : Trace) → TakesSoFar T c o printed U → 0 < owed_by U c
    → IsOutcome U (owed_by U) (event.Took c (owed_by U c)) p → TakesSoFar T c p (printed ++ escaped (lent_at U c)) (given U (event.Took c (owed_by U c)) (event_tag_of p))
takes_more T c o p printed U (os, t, e) =
    subst (λ (w : List ℕ). 0 < owed_by U c → IsOutcome U (owed_by U) (event.Took c (owed_by U c)) p
    → TakesSoFar T c p (w ++ escaped (lent_at U c)) (given U (event.Took c (owed_by U c)) (event_tag_of p)))
    (sym e)
    (subst (λ X. 0 < owed_by X c → IsOutcome X (owed_by X) (event.Took c (owed_by X c)) p
    → TakesSoFar T c p (escaped (drained_octets c T os) ++ escaped (lent_at X c)) (given X (event.Took c (owed_by X c)) (event_tag_of p)))
    (sym t.behind) (takes_next T c os p t.are))

pub takes_lent : (T : Trace) (c : ℕ) (o p : Outcome) (printed : List ℕ) (U : Trace) (lent : List ℕ) → lent ≡ lent_at U c → TakesSoFar T c o printed U → 0 < length lent
    → IsOutcome U (owed_by U) (event.Took c (length lent)) p → TakesSoFar T c p (printed ++ escaped lent) (given U (event.Took c (length lent)) (event_tag_of p))
takes_lent T c o p printed U lent e s =
    subst (λ (r : List ℕ). 0 < length r → IsOutcome U (owed_by U) (event.Took c (length r)) p → TakesSoFar T c p (printed ++ escaped r) (given U (event.Took c (length r)) (event_tag_of p)))
    (sym e) (takes_more T c o p printed U s)

owed_none : (T U : Trace) (c : ℕ) → U ≡ T → rest U c ≡ [] → 0 < owed_by T c → ⊥
owed_none T U c e f some = let n = ap length (ap (take most_lent) (subst (λ X. rest X c ≡ []) e f) ∙ none_taken most_lent) in omega (arith, n, some)

-- all was taken, and is printed in one line
pub drains_all : (T : Trace) (c : ℕ) (o : Outcome) (printed : List ℕ) (U : Trace) → TakesAll T c o printed U → 0 < owed_by T c
    → Acts T (Drains c) (Some o) (codes "sent " ++ decimal c ++ codes " " ++ printed ++ codes "\n") U
drains_all T c o printed U ([], t, e, f) some = absurd (owed_none T U c t.behind e some)
drains_all T c o printed U (p ∷ os, t, e, f) some = (p ∷ os, t, e, ap (λ (w : List ℕ). codes "sent " ++ decimal c ++ codes " " ++ w ++ codes "\n") f)

-- ---- what failed

pub caused_none : (first now : ℕ) (T : Trace) → Caused first now T T
caused_none first now T lt = absurd (omega (arith, lt))

pub caused_one : (first now : ℕ) (T : Trace) (e : Event) (o : Outcome) → HasCause first now o → Caused first now T (given T e (event_tag_of o))
caused_one first now T e (outcome.Opened c) h lt = absurd (omega (arith, lt))
caused_one first now T e outcome.Done h lt = absurd (omega (arith, lt))
caused_one first now T e outcome.Failed h lt = h
caused_one first now T e outcome.NoMemory h lt = absurd (omega (arith, lt))
caused_one first now T e (outcome.Ignored reason) h lt = absurd (omega (arith, lt))
caused_one first now T e (outcome.Answered answer) h lt = absurd (omega (arith, lt))

caused_at : (a b c : ℕ) (T M U : Trace) → a ≤ b → b ≤ c → Caused a b T M → Caused b c M U → failures T.log < failures U.log → (x : Bool) → nat_lt (failures T.log) (failures M.log) ≡ x
    → has_grown a c ≡ true
caused_at a b c T M U h k p q lt true e = grown_still a b c k (p (ltb-true (failures T.log) (failures M.log) e))
caused_at a b c T M U h k p q lt false e = grown_since a b c h (q (let n = ltb-false (failures T.log) (failures M.log) e in omega (arith, n, lt)))

-- of events one after the other
pub caused_more : (a b c : ℕ) (T M U : Trace) → a ≤ b → b ≤ c → Caused a b T M → Caused b c M U → Caused a c T U
caused_more a b c T M U h k p q lt = caused_at a b c T M U h k p q lt (nat_lt (failures T.log) (failures M.log)) refl

-- one event more
pub caused_next : (first was now : ℕ) (T : Trace) (L : Log) (e : Event) (o : Outcome) → first ≤ was → was ≤ now → Caused first was T (trace_of T.base L) → HasCause was now o
    → Caused first now T (trace_of T.base ((e, event_tag_of o) ∷ L))
caused_next first was now T L e o a b k h =
    caused_more first was now T (trace_of T.base L) (trace_of T.base ((e, event_tag_of o) ∷ L)) a b k (caused_one was now (trace_of T.base L) e o h)

-- ---- what comes of a line

module _ {V : Type 0} (Holds : V → Contents → Type 0) (new : Office V) (T : Trace) (first now : ℕ) where
  -- one event in front of which nothing is printed
  did_one : (old : Office V) (line : ScriptLine) (e : Event) (o : Outcome) (known : Option (List ℕ)) → line ≡ Does e → sent_before T e ≡ [] → StandsFor Holds old T
      → IsOutcome T (lent_by old) e o → HasCause first now o → StandsFor Holds new (given T e (event_tag_of o)) → ComesTo Holds new known known (WithCause first now T (Acts T line (Some o)))
  did_one old line e o known s none st is cause stands =
      subst (λ (l : ScriptLine). ComesTo Holds new known known (WithCause first now T (Acts T l (Some o)))) (sym s) (record {
        printed = [];
        trace = given T e (event_tag_of o);
        appends = Appends-nil known;
        stands = stands;
        is = ((by_owed Holds old T st e o is, refl, sym none), caused_one first now T e o cause);
      })

  -- what comes of a line is said of it
  pub of_line : (line said : ScriptLine) (o : Option Outcome) (before after : Option (List ℕ)) → line ≡ said → ComesTo Holds new before after (WithCause first now T (Acts T said o))
      → ComesTo Holds new before after (WithCause first now T (Acts T line o))
  of_line line said o before after s h = subst (λ (l : ScriptLine). ComesTo Holds new before after (WithCause first now T (Acts T l o))) (sym s) h

  pub by_told : (line : ScriptLine) (told x : Option Shown) (before after : Option (List ℕ)) → told ≡ x
      → ComesTo Holds new before after (WithCause first now T (Acts T line (option_map outcome_seen told)))
      → ComesTo Holds new before after (WithCause first now T (Acts T line (option_map outcome_seen x)))
  by_told line told x before after e h = subst (λ (o : Option Shown). ComesTo Holds new before after (WithCause first now T (Acts T line (option_map outcome_seen o)))) e h

  -- a line that is no event
  pub line_none : (line : ScriptLine) (before after : Option (List ℕ)) (known : List ℕ) → ComesTo Holds new before after (WithCause first now T (Acts T line None))
      → ComesTo Holds new before after (WithCause first now T (λ printed U. PlaysLine (point T known) line printed (point U known)))
  line_none line before after known h = record {
    printed = h.printed;
    trace = h.trace;
    appends = h.appends;
    stands = h.stands;
    is = (record { sent = h.printed; told = None; acts = h.is.0; text = sym (append-nil h.printed); left = refl }, h.is.1);
  }

  -- a line whose outcome is printed
  pub line_some : (line : ScriptLine) (o : Outcome) (before during after : Option (List ℕ)) (known left : List ℕ) (h : ComesTo Holds new before during (WithCause first now T (Acts T line (Some o))))
      → Appends during after (told_text h.trace known (Some o)) → left ≡ still_known h.trace known (Some o)
      → ComesTo Holds new before after (WithCause first now T (λ printed U. PlaysLine (point T known) line printed (point U left)))
  line_some line o before during after known left h told kept = record {
    printed = h.printed ++ told_text h.trace known (Some o);
    trace = h.trace;
    appends = Appends-trans before during after h.printed (told_text h.trace known (Some o)) h.appends told;
    stands = h.stands;
    is = (record { sent = h.printed; told = Some o; acts = h.is.0; text = refl; left = kept }, h.is.1);
  }

-- what comes of one event, over every trace: by what `step` promises
pub does_one : {V : Type 0} {Holds : V → Contents → Type 0} {old new : Office V} {IsClean : Type 0} {line : ScriptLine} {e : Event} {o : Outcome} (first now : ℕ) (known : Option (List ℕ))
    → line ≡ Does e → ((T : Trace) → sent_before T e ≡ [])
    → ((T : Trace) → StandsFor Holds old T → IsClean → StandsFor Holds new (given T e (event_tag_of o)))
    → ((T : Trace) → StandsFor Holds old T → IsClean → IsOutcome T (lent_by old) e o)
    → ((T : Trace) → StandsFor Holds old T → IsClean → HasCause first now o)
    → (T : Trace) → StandsFor Holds old T → IsClean → ComesTo Holds new known known (WithCause first now T (Acts T line (Some o)))
does_one {V} {Holds} {old} {new} {IsClean} {line} {e} {o} first now known is none stands outcome cause T st clean =
    did_one Holds new T first now old line e o known is (none T) st (outcome T st clean) (cause T st clean) (stands T st clean)

-- one line more of a list of lines
pub played_more : {V : Type 0} (Holds : V → Contents → Type 0) (mid new : Office V) (P : Point) (lines : List Line) (i : ℕ) (x : Line) → i < length lines → x ≡ get_or lines i x
    → (a b c : ℕ) → a ≤ b → b ≤ c → (before during after : Option (List ℕ)) (known left : List ℕ)
    (s : ComesTo Holds mid before during (WithCause a b P.trace (λ printed U. Plays P (map line_seen (take i lines)) printed (point U known))))
    → ComesTo Holds new during after (WithCause b c s.trace (λ printed U. PlaysLine (point s.trace known) (line_seen x) printed (point U left)))
    → ComesTo Holds new before after (WithCause a c P.trace (λ printed U. Plays P (map line_seen (take (i + 1) lines)) printed (point U left)))
played_more Holds mid new P lines i x lt is a b c ab bc before during after known left s l =
    let seen : map line_seen (take (i + 1) lines) ≡ map line_seen (take i lines) ++ line_seen x ∷ [] =
    ap (map line_seen) (take_more lines i x lt) ∙ (map-append line_seen (take i lines) (get_or lines i x ∷ []) ∙ ap (λ y. map line_seen (take i lines) ++ line_seen y ∷ []) (sym is)) in
    record {
      printed = s.printed ++ l.printed;
      trace = l.trace;
      appends = Appends-trans before during after s.printed l.printed s.appends l.appends;
      stands = l.stands;
      is = (
        subst (λ (asked : List ScriptLine). Plays P asked (s.printed ++ l.printed) (point l.trace left)) (sym seen)
            (plays_more P (point s.trace known) (point l.trace left) (map line_seen (take i lines)) (line_seen x) s.printed l.printed s.is.0 l.is.0),
        caused_more a b c P.trace s.trace l.trace ab bc s.is.1 l.is.1,
      );
    }

-- three texts, one after the other
pub appends_three : (a b c d : Option (List ℕ)) (x y z whole : List ℕ) → Appends a b x → Appends b c y → Appends c d z → x ++ y ++ z ≡ whole → Appends a d whole
appends_three a b c d x y z whole p q r e =
    subst (λ (t : List ℕ). Appends a d t) e (Appends-trans a c d (x ++ y) z (Appends-trans a b c x y p q) r)

-- ---- a whole script

-- what is said of a known text
pub of_known : (known : Option (List ℕ)) (P Q : List ℕ → Type 0) → ((text : List ℕ) → P text → Q text) → IfSome known P → IfSome known Q
of_known None P Q f h = tt
of_known (Some text) P Q f h = f text h

abbrev asked : Result (List ScriptLine) ℕ → List ScriptLine
asked (Ok lines) = lines
asked (Err n) = []

pub same_lines : (r : Result (List ScriptLine) ℕ) (a b : List ScriptLine) → r ≡ Ok a → r ≡ Ok b → a ≡ b
same_lines r a b p q = ap asked (sym p ∙ q)

-- if a text is a script, what is said of a text that is none holds
pub no_fault : (known : Option (List ℕ)) (lines : List ScriptLine) (A : Type 0) → IfSome known (λ text. script_of text ≡ Ok lines) → IfSome known (λ text. IsErr (script_of text) → A)
no_fault None lines A h = tt
no_fault (Some text) lines A h = λ err. (let none = subst IsErr h err in cc)

-- nothing more was printed
pub comes_kept : {V : Type 0} (Holds : V → Contents → Type 0) (o : Office V) (before during after : Option (List ℕ)) (Is : List ℕ → Trace → Type 0) → Keeps during after
    → ComesTo Holds o before during Is → ComesTo Holds o before after Is
comes_kept Holds o before during after Is k h =
    record { printed = h.printed; trace = h.trace; appends = appends_kept before during after h.printed h.appends k; stands = h.stands; is = h.is }

-- what the store keeps
pub has_run : {V : Type 0} (Holds : V → Contents → Type 0) (o : Office V) (v : V) (T : Trace) (first opened now : ℕ) → first ≤ opened
    → (before after : Option (List ℕ)) (given lines : List ScriptLine) → v ≡ vault_of o → given ≡ lines
    → ComesTo Holds o before after (WithCause opened now T (HasPlayed T given)) → HasRun Holds v first now before after T lines
has_run Holds o v T first opened now le before after given lines e same h = record {
  trace = h.trace;
  keeps = subst (λ w. Kept_by (Holds w) h.trace) (sym e) h.stands.keeps;
  runs = record {
    printed = h.printed;
    appends = h.appends;
    plays = subst (λ (ls : List ScriptLine). HasPlayed T ls h.printed h.trace) same h.is.0;
    caused = λ lt. grown_since first opened now le (h.is.1 lt);
  };
}
