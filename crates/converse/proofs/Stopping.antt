-- What lines leave that were broken off.
use Rattle.std.proofs.Common.{◌≡◌, ℕ, suc, ◌<◌, ◌≤◌, length, List, [], ◌∷◌, ◌++◌, take, drop, get_or, drop-cons, map, Option, Some, None, Result, Ok, Err, inl, inr, refl, sym, ◌∙◌, ap, subst}
use Rattle.std.proofs.lemmas.List.{map-append, take-append-drop}
use Rattle.std.specs.Prelude.{OnErr, OnOk}
use Rattle.vault.specs.Changes.{Contents}
use Rattle.office.specs.Events.{Trace}
use Rattle.office.specs.Outcomes.{Outcome}
use Rattle.office.specs.Stands.{StandsFor, vault_of}
use Rattle.office.specs.Stands.{Keeps as Kept_by}
use Rattle.office.specs.declared.office.Office.{Office}
use Rattle.converse.specs.Script.{ScriptLine, Does, Drains, NoPolicy, line_seen}
use Rattle.converse.specs.declared.script.Line.{Line}
use Rattle.converse.specs.Played.{TakesAll, Acts, ComesTo, WithCause, Point, point, Plays, HasPlayed, Begun, PlaysInPart, Reaches, HasRun, HasRunInPart}
use Rattle.converse.proofs.Clauses.{grown_since}
use Rattle.converse.proofs.Playing.{TakesSoFar, caused_more, has_run}

-- ---- one line

pub begun_none : (T : Trace) (line : ScriptLine) → Begun T line T
begun_none T (Does e) = inl refl
begun_none T (Drains c) = ([], tt, refl)
begun_none T (NoPolicy f) = refl

pub begun_taking : (T : Trace) (c : ℕ) (o : Outcome) (printed : List ℕ) (U : Trace) → TakesSoFar T c o printed U → Begun T (Drains c) U
begun_taking T c o printed U (outcomes, t, e) = (outcomes, t.are, t.behind)

pub begun_taken : (T : Trace) (c : ℕ) (o : Outcome) (printed : List ℕ) (U : Trace) → TakesAll T c o printed U → Begun T (Drains c) U
begun_taken T c o printed U (outcomes, t, e, f) = (outcomes, t.are, t.behind)

pub begun_acted : (T : Trace) (line : ScriptLine) (told : Option Outcome) (printed : List ℕ) (U : Trace) → Acts T line told printed U → Begun T line U
begun_acted T (Does e) None printed U h = absurd h
begun_acted T (Does e) (Some o) printed U h = inr (o, h.0, h.1)
begun_acted T (Drains c) None printed U h = absurd h
begun_acted T (Drains c) (Some o) printed U (outcomes, t, e, f) = (outcomes, t.are, t.behind)
begun_acted T (NoPolicy f) None printed U h = h.0
begun_acted T (NoPolicy f) (Some o) printed U h = absurd h

-- ---- an office

module _ {V : Type 0} (Holds : V → Contents → Type 0) (o : Office V) (first now : ℕ) (T : Trace) where
  -- less is said, and of the trace alone
  reaches_so : (Is : Trace → Type 0) (Was : List ℕ → Trace → Type 0) (before after : Option (List ℕ)) → ((printed : List ℕ) (U : Trace) → Was printed U → Is U)
      → ComesTo Holds o before after (WithCause first now T Was) → Reaches Holds o first now T Is
  reaches_so Is Was before after f h = record { trace = h.trace; stands = h.stands; is = f h.printed h.trace h.is.0; caused = h.is.1 }

  -- what is said of a line is said of what it is
  reaches_line : (line said : ScriptLine) → line ≡ said → Reaches Holds o first now T (Begun T said) → Reaches Holds o first now T (Begun T line)
  reaches_line line said e h = subst (λ (l : ScriptLine). Reaches Holds o first now T (Begun T l)) (sym e) h

-- the same over every trace
pub reaches_by : {V : Type 0} {Holds : V → Contents → Type 0} {old new : Office V} {IsClean : Type 0} {first now : ℕ} {before after : Option (List ℕ)}
    (Is : Trace → Trace → Type 0) (Was : Trace → List ℕ → Trace → Type 0)
    → ((T : Trace) (printed : List ℕ) (U : Trace) → Was T printed U → Is T U) → ((T : Trace) → StandsFor Holds old T → IsClean → ComesTo Holds new before after (WithCause first now T (Was T)))
    → (T : Trace) → StandsFor Holds old T → IsClean → Reaches Holds new first now T (Is T)
reaches_by {V} {Holds} {old} {new} {IsClean} {first} {now} {before} {after} Is Was f h T st clean = reaches_so Holds new first now T (Is T) (Was T) before after (f T) (h T st clean)

-- ---- lines

part_then : (P M : Point) (played : List ScriptLine) (line : ScriptLine) (others : List ScriptLine) (printed : List ℕ) (U : Trace) → Plays P played printed M → Begun M.trace line U
    → PlaysInPart P (played ++ line ∷ others) U
part_then P M [] line others printed U h b = inl (subst (λ (X : Point). Begun X.trace line U) h.0 b)
part_then P M (first ∷ played) line others printed U (N, a, rest, x, y, e) b = inr (N, a, x, part_then N M played line others rest U y b)

pub part_all : (P M : Point) (lines : List ScriptLine) (printed : List ℕ) → Plays P lines printed M → PlaysInPart P lines M.trace
part_all P M [] printed h = ap (λ (X : Point). X.trace) h.0
part_all P M (line ∷ lines) printed (N, a, rest, x, y, e) = inr (N, a, x, part_all N M lines rest y)

split_at : (lines : List Line) (i : ℕ) (x : Line) → i < length lines → x ≡ get_or lines i x → map line_seen (take i lines) ++ line_seen x ∷ map line_seen (drop (suc i) lines) ≡ map line_seen lines
split_at lines i x lt is =
    ap (λ y. map line_seen (take i lines) ++ line_seen y ∷ map line_seen (drop (suc i) lines)) is
    ∙ (ap (λ ys. map line_seen (take i lines) ++ map line_seen ys) (sym (drop-cons lines i x lt))
    ∙ (sym (map-append line_seen (take i lines) (drop i lines)) ∙ ap (map line_seen) (take-append-drop i lines)))

-- a line was broken off
pub stopped_at : {V : Type 0} (Holds : V → Contents → Type 0) (mid new : Office V) (P : Point) (lines : List Line) (i : ℕ) (x : Line) → i < length lines → x ≡ get_or lines i x
    → (a b c : ℕ) → a ≤ b → b ≤ c → (before during : Option (List ℕ)) (known : List ℕ)
    (s : ComesTo Holds mid before during (WithCause a b P.trace (λ printed U. Plays P (map line_seen (take i lines)) printed (point U known))))
    → Reaches Holds new b c s.trace (Begun s.trace (line_seen x))
    → Reaches Holds new a c P.trace (PlaysInPart P (map line_seen lines))
stopped_at Holds mid new P lines i x lt is a b c ab bc before during known s r = record {
  trace = r.trace;
  stands = r.stands;
  is =
      subst (λ (ls : List ScriptLine). PlaysInPart P ls r.trace) (split_at lines i x lt is)
      (part_then P (point s.trace known) (map line_seen (take i lines)) (line_seen x) (map line_seen (drop (suc i) lines)) s.printed r.trace s.is.0 r.is);
  caused = caused_more a b c P.trace s.trace r.trace ab bc s.is.1 r.caused;
}

-- all lines were played
played_whole : (T : Trace) (lines : List ScriptLine) (printed : List ℕ) (U : Trace) → HasPlayed T lines printed U → PlaysInPart (point T []) lines U
played_whole T lines printed U (known, h) = part_all (point T []) (point U known) lines printed h

pub played_in_part : {V : Type 0} {Holds : V → Contents → Type 0} {old new : Office V} {IsClean : Type 0} {first now : ℕ} {before after : Option (List ℕ)} (lines : List ScriptLine)
    → ((T : Trace) → StandsFor Holds old T → IsClean → ComesTo Holds new before after (WithCause first now T (HasPlayed T lines)))
    → (T : Trace) → StandsFor Holds old T → IsClean → Reaches Holds new first now T (PlaysInPart (point T []) lines)
played_in_part lines h = reaches_by (λ T. PlaysInPart (point T []) lines) (λ T. HasPlayed T lines) (λ T. played_whole T lines) h

-- ---- a whole script

-- what the store keeps
has_run_in_part : {V : Type 0} (Holds : V → Contents → Type 0) (o : Office V) (v : V) (T : Trace) (first opened now : ℕ) → first ≤ opened → (lines : List ScriptLine) → v ≡ vault_of o
    → Reaches Holds o opened now T (PlaysInPart (point T []) lines) → HasRunInPart Holds v first now T lines
has_run_in_part Holds o v T first opened now le lines e h = record {
  trace = h.trace;
  keeps = subst (λ w. Kept_by (Holds w) h.trace) (sym e) h.stands.keeps;
  runs = record { plays = h.is; caused = λ lt. grown_since first opened now le (h.caused lt) };
}

-- A script was run over an office that was opened over a store, and its vault was given back: what the run was, and what it was in part.
module _ {V : Type 0} (Holds : V → Contents → Type 0) (faults : V → ℕ) (IsClean : V → Type 0) {opened new : Office V} {v : V} {first : ℕ} {Kept : Trace → Type 0} (start : Trace → Trace)
    (is : v ≡ vault_of new) (later : first ≤ faults (vault_of opened)) (back : IsClean (vault_of new) → IsClean (vault_of opened))
    (begins : (T : Trace) → Kept T → IsClean (vault_of opened) → StandsFor Holds opened (start T)) where
  pub has_run_over : {before after : Option (List ℕ)} {said lines : List ScriptLine} → said ≡ lines
      → ((T : Trace) → StandsFor Holds opened T → IsClean (vault_of new) → ComesTo Holds new before after (WithCause (faults (vault_of opened)) (faults (vault_of new)) T (HasPlayed T said)))
      → (T : Trace) → Kept T → IsClean v → HasRun Holds v first (faults v) before after (start T) lines
  has_run_over {before} {after} {said} {lines} same plays T kept clean =
      let clean2 = subst IsClean is clean in
      subst (λ n. HasRun Holds v first n before after (start T) lines) (sym (ap faults is))
      (has_run Holds new v (start T) first (faults (vault_of opened)) (faults (vault_of new)) later before after said lines is same (plays (start T) (begins T kept (back clean2)) clean2))

  pub has_run_in_part_over : {said lines : List ScriptLine} → said ≡ lines
      → ((T : Trace) → StandsFor Holds opened T → IsClean (vault_of new) → Reaches Holds new (faults (vault_of opened)) (faults (vault_of new)) T (PlaysInPart (point T []) said))
      → (T : Trace) → Kept T → IsClean v → HasRunInPart Holds v first (faults v) (start T) lines
  has_run_in_part_over {said} {lines} same plays T kept clean =
      let clean2 = subst IsClean is clean in
      let h = plays (start T) (begins T kept (back clean2)) clean2 in
      subst (λ n. HasRunInPart Holds v first n (start T) lines) (sym (ap faults is))
      (has_run_in_part Holds new v (start T) first (faults (vault_of opened)) (faults (vault_of new)) later lines is
      (subst (λ (ls : List ScriptLine). Reaches Holds new (faults (vault_of opened)) (faults (vault_of new)) (start T) (PlaysInPart (point (start T) []) ls)) same h))

-- what is shown whatever a call answered, is so at its faults
pub at_faults : {A E V : Type 0} (r : Result A E) {Holds : V → Contents → Type 0} {old new : Office V} {IsClean : Type 0} {first now : ℕ} (Is : Trace → Trace → Type 0)
    → ((T : Trace) → StandsFor Holds old T → IsClean → Reaches Holds new first now T (Is T)) → OnErr r ((T : Trace) → StandsFor Holds old T → IsClean → Reaches Holds new first now T (Is T))
at_faults (Ok x) Is h = tt
at_faults (Err e) Is h = h

-- a line was broken off, which is what is said of another
pub line_broken : {A E V : Type 0} (r : Result A E) {Holds : V → Contents → Type 0} {old new : Office V} {IsClean : Type 0} {first now : ℕ} {line said : ScriptLine} → line ≡ said
    → ((T : Trace) → StandsFor Holds old T → IsClean → Reaches Holds new first now T (Begun T said))
    → OnErr r ((T : Trace) → StandsFor Holds old T → IsClean → Reaches Holds new first now T (Begun T line))
line_broken r {Holds} {old} {new} {IsClean} {first} {now} {line} {said} is h =
    at_faults r (λ T. Begun T line) (λ T st clean. reaches_line Holds new first now T line said is (h T st clean))

-- what holds in any case holds if a call came to its end
pub on_ok : {A E P : Type 0} (r : Result A E) → P → OnOk r P
on_ok (Ok x) p = p
on_ok (Err e) p = tt

-- what follows from two clauses over every trace, if a call came to its end
pub at_ok : {A E V : Type 0} (r : Result A E) (Holds : V → Contents → Type 0) (old mid : Office V) (IsClean : Type 0) (P Q Is : Trace → Type 0)
    → ((T : Trace) → StandsFor Holds mid T → OnOk r (P T)) → ((T : Trace) → StandsFor Holds mid T → OnOk r (Q T))
    → ((T : Trace) → StandsFor Holds old T → IsClean → ((U : Trace) → StandsFor Holds mid U → P U) → ((U : Trace) → StandsFor Holds mid U → Q U) → Is T)
    → OnOk r ((T : Trace) → StandsFor Holds old T → IsClean → Is T)
at_ok (Ok x) Holds old mid IsClean P Q Is p q f = λ T st clean. f T st clean p q
at_ok (Err e) Holds old mid IsClean P Q Is p q f = tt
