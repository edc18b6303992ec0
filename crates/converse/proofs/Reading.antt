-- The parts of a script's line in the words of `specs/Script`.
use Rattle.std.proofs.Common.{◌≡◌, ◌==◌, length-drop, ◌+◌, ◌++◌, ◌⊎◌, inl, inr, Result, ℕ, take_all, append_assoc, append-nil, le-ltb, ◌<◌, ◌≤◌, Bool, true, false, cond, List, []}
use Rattle.std.proofs.Common.{◌∷◌, length, Option, Some, None, Ok, Err, refl, sym, ap, ◌∙◌, lt-ltb, arith}
use Rattle.std.proofs.lemmas.Bool.{false≢true, cases_lt}
use Rattle.std.proofs.lemmas.List.Splits.{slice_split_first, slice_split_none}
use Rattle.std.proofs.lemmas.List.Sums.{fails_before_first}
use Rattle.std.proofs.lemmas.Str.{is_utf8-from_IsUtf8, IsUtf8-from_is_utf8}
use Rattle.std.specs.List.{slice_split, position_or_len}
use Rattle.std.specs.Prelude.{option_map, ok_or, IfOk, IfErr, IsOkAnd, IsErrAnd}
use Rattle.std.specs.Str.{IsUtf8, is_utf8}
use Rattle.policy.specs.Policy.{Policy}
use Rattle.policy.specs.PolicyText.{rules_of}
use Rattle.policy.specs.declared.fault.PolicyFault.{PolicyFault}
use Rattle.policy.specs.declared.fault.PolicyFault.TheVariants.{NotToml}
use Rattle.office.specs.Answers.{SetPolicy}
use Rattle.office.specs.Events.{Admin}
use Rattle.converse.specs.PolicyFile.{IsPolicyText, IsFaultOf}
use Rattle.converse.specs.declared.script.Line.{Line}
use Rattle.converse.specs.LinePlaces.{read_seen}
use Rattle.converse.specs.Script.{line_seen, ScriptLine, Does, NoPolicy, set_or_fault, policy_line, cut_at, line_asks, asks_then, lines_ask}

-- ---- a part of a line, or the place of the word at fault

pub asked_of : {A : Type 0} (o : Option A) (n : ℕ) (x : A) → Ok x ≡ ok_or o n → o ≡ Some x
asked_of (Some y) n x h = let e : x ≡ y = cc in ap Some (sym e)
asked_of None n x h = absurd (cc)

pub none_of : {A : Type 0} (o : Option A) (n m : ℕ) → Err m ≡ ok_or o n → (o ≡ None) × (m ≡ n)
none_of None n m h = let e : m ≡ n = cc in (refl, e)
none_of (Some y) n m h = absurd (cc)

pub read_ok : {E : Type 0} (r : Result (Result Line ℕ) E) (o : Option ScriptLine) (n : ℕ) → IfOk r (λ read. read_seen read ≡ ok_or o n) → IfOk r (λ read. IfOk read (λ asks. o ≡ Some (line_seen asks)))
read_ok (Err e) o n h = tt
read_ok (Ok (Ok line)) o n h = asked_of o n (line_seen line) h
read_ok (Ok (Err at)) o n h = tt

pub read_fault : {E : Type 0} (r : Result (Result Line ℕ) E) (o : Option ScriptLine) (n : ℕ) → IfOk r (λ read. read_seen read ≡ ok_or o n) → IfOk r (λ read. IfErr read (λ at. (o ≡ None) × (n ≡ at)))
read_fault (Err e) o n h = tt
read_fault (Ok (Ok line)) o n h = tt
read_fault (Ok (Err at)) o n h = let p = none_of o n at h in (p.0, sym p.1)

-- ---- a policy's text

utf8_by : (octets : List ℕ) (asked : ScriptLine) (b : Bool) → is_utf8 octets ≡ b → (IsUtf8 octets → set_or_fault (rules_of octets) ≡ asked) → (¬ IsUtf8 octets → NoPolicy NotToml ≡ asked)
    → cond b (set_or_fault (rules_of octets)) (NoPolicy NotToml) ≡ asked
utf8_by octets asked true e some none = some (IsUtf8-from_is_utf8 octets e)
utf8_by octets asked false e some none = none (λ utf8. false≢true (sym e ∙ is_utf8-from_IsUtf8 octets utf8))

pub policy_read : (octets : List ℕ) (policy : Policy) → IsPolicyText octets policy → policy_line octets ≡ Does (Admin (SetPolicy policy))
policy_read octets policy h =
    utf8_by octets (Does (Admin (SetPolicy policy))) (is_utf8 octets) refl (λ _. ap set_or_fault h.1) (λ not_utf8. absurd (not_utf8 h.0))

pub policy_fault : (octets : List ℕ) (fault : PolicyFault) → IsFaultOf octets fault → policy_line octets ≡ NoPolicy fault
policy_fault octets fault h =
    utf8_by octets (NoPolicy fault) (is_utf8 octets) refl (λ utf8. ap set_or_fault (h.0 utf8)) (λ not_utf8. ap NoPolicy (sym (h.1 not_utf8)))

-- what the octets of a TEXT set
pub policy_joined : (known : Option (List ℕ)) (octets read : List ℕ) (asked : ScriptLine) → known ≡ Some octets → read ≡ octets → policy_line read ≡ asked
    → ◌≡◌ {A = Option ScriptLine} (Some asked) (option_map policy_line known)
policy_joined known octets read asked is same sets = sym (ap (option_map policy_line) is ∙ ap (λ (o : List ℕ). Some (policy_line o)) (sym same) ∙ ap Some sets)

-- ---- lines

abbrev pub is_lf : ℕ → Bool
is_lf b = b == 10

-- the lines after a LF, if there was one
abbrev pub lines_behind : Option (List ℕ) → List (List ℕ)
lines_behind None = []
lines_behind (Some text) = slice_split is_lf text

-- what they ask for, of which the first has the number n
abbrev pub rest_asks : ℕ → Option (List ℕ) → Result (List ScriptLine) ℕ
rest_asks n rest = lines_ask n (lines_behind rest)

-- how many octets are left, with the LF before them
abbrev pub left_of : Option (List ℕ) → ℕ
left_of None = 0
left_of (Some text) = length text + 1

cut_by : (text : List ℕ) → (position_or_len is_lf text < length text) ⊎ (length text ≤ position_or_len is_lf text)
    → slice_split is_lf text ≡ (cut_at is_lf text).0 ∷ lines_behind (cut_at is_lf text).1
cut_by text (inl within) = rw (lt-ltb (position_or_len is_lf text) (length text) within) (slice_split_first is_lf text 0 within)
cut_by text (inr none) =
    rw (le-ltb (position_or_len is_lf text) (length text) none, take_all (position_or_len is_lf text) text none)
    (slice_split_none is_lf text (λ k d lt. let more : k < position_or_len is_lf text = omega arith in fails_before_first is_lf text k d more))

lines_cut : (text : List ℕ) → slice_split is_lf text ≡ (cut_at is_lf text).0 ∷ lines_behind (cut_at is_lf text).1
lines_cut text = cut_by text (cases_lt (position_or_len is_lf text) (length text))

then_then : (before asked : List ScriptLine) (rest : Result (List ScriptLine) ℕ) → asks_then (Ok before) (asks_then (Ok asked) rest) ≡ asks_then (Ok (before ++ asked)) rest
then_then before asked (Ok xs) = ap Ok (sym (append_assoc before asked xs))
then_then before asked (Err n) = refl

cut_asks : (n : ℕ) (text : List ℕ) → rest_asks n (Some text) ≡ asks_then (line_asks n (cut_at is_lf text).0) (rest_asks (n + 1) (cut_at is_lf text).1)
cut_asks n text = ap (lines_ask n) (lines_cut text)

ok_more : (asks rest whole : Result (List ScriptLine) ℕ) (before after : List ScriptLine) → IsOkAnd asks (λ asked. after ≡ before ++ asked)
    → asks_then (Ok before) (asks_then asks rest) ≡ whole → asks_then (Ok after) rest ≡ whole
ok_more (Ok asked) rest whole before after is h = ap (λ xs. asks_then (Ok xs) rest) is ∙ sym (then_then before asked rest) ∙ h
ok_more (Err n) rest whole before after is h = absurd is

-- what a text asks for is what its first line does, and what stands after that
first_asks : (n : ℕ) (text line : List ℕ) (rest : Option (List ℕ)) → (line, rest) ≡ cut_at is_lf text → rest_asks n (Some text) ≡ asks_then (line_asks n line) (rest_asks (n + 1) rest)
first_asks n text line rest cut = cut_asks n text ∙ ap (λ (c : List ℕ × Option (List ℕ)). asks_then (line_asks n c.0) (rest_asks (n + 1) c.1)) (sym cut)

-- one more line was read
pub more_asked : (n : ℕ) (text line : List ℕ) (rest : Option (List ℕ)) (before after : List ScriptLine) (whole : Result (List ScriptLine) ℕ)
    → (line, rest) ≡ cut_at is_lf text → IsOkAnd (line_asks n line) (λ asked. after ≡ before ++ asked)
    → asks_then (Ok before) (rest_asks n (Some text)) ≡ whole → asks_then (Ok after) (rest_asks (n + 1) rest) ≡ whole
more_asked n text line rest before after whole cut asks is =
    ok_more (line_asks n line) (rest_asks (n + 1) rest) whole before after asks (sym (ap (asks_then (Ok before)) (first_asks n text line rest cut)) ∙ is)

-- a line was of no form
pub fault_told : (n m : ℕ) (text line : List ℕ) (rest : Option (List ℕ)) (before : List ScriptLine) (whole : Result (List ScriptLine) ℕ)
    → (line, rest) ≡ cut_at is_lf text → line_asks n line ≡ Err m → asks_then (Ok before) (rest_asks n (Some text)) ≡ whole → whole ≡ Err m
fault_told n m text line rest before whole cut asks is =
    sym is ∙ ap (asks_then (Ok before)) (first_asks n text line rest cut) ∙ ap (λ r. asks_then (Ok before) (asks_then r (rest_asks (n + 1) rest))) asks

-- no line is left
pub all_asked : (n : ℕ) (before : List ScriptLine) (whole : Result (List ScriptLine) ℕ) → asks_then (Ok before) (rest_asks n None) ≡ whole → whole ≡ Ok before
all_asked n before whole is = sym is ∙ ap Ok (append-nil before)

-- a line that is cut off leaves less
pub left_less : (text : List ℕ) → left_of (cut_at is_lf text).1 ≤ length text
left_less text = less_by (cases_lt (position_or_len is_lf text) (length text))
  where
    less_by : (position_or_len is_lf text < length text) ⊎ (length text ≤ position_or_len is_lf text) → left_of (cut_at is_lf text).1 ≤ length text
    less_by (inl within) = rw (lt-ltb (position_or_len is_lf text) (length text) within) (omega (arith, length-drop (position_or_len is_lf text + 1) text))
    less_by (inr none) = rw (le-ltb (position_or_len is_lf text) (length text) none) (omega arith)

-- the fault that `?` passed on
pub same_fault : {A B E : Type 0} (r : Result A E) (e f : E) → IsErrAnd r (λ x. x ≡ e) → r ≡ Err f → ◌≡◌ {A = Result B E} (Err e) (Err f)
same_fault (Ok x) e f h is = absurd h
same_fault (Err y) e f h is = let same : y ≡ f = cc in ap Err (sym h ∙ same)
