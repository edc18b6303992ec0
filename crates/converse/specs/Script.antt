-- What a line of a script asks for, and which line has no form.
use Rattle.std.specs.Prelude.{◌≡◌, ℕ, ◌+◌, ◌==◌, ◌||◌, Bool, true, not, is_some, List, [], ◌∷◌, ◌++◌, codes, drop, Option, Some, None, option_map, ok_or, Result, Ok, Err, if◌then◌else◌}
use Rattle.std.specs.List.{before_first, position, slice_split}
use Rattle.std.specs.Str.{bytes_eq, is_utf8}
use Rattle.creds.specs.Digests.{pass_digest}
use Rattle.creds.specs.Names.{name_of, deposit_id_of, secret_of}
use Rattle.creds.specs.declared.credential.Credential.TheVariants.{Apop, Pass}
use Rattle.policy.specs.Policy.{Policy}
use Rattle.policy.specs.PolicyText.{action_of, rules_of}
use Rattle.policy.specs.declared.fault.PolicyFault.{PolicyFault}
use Rattle.policy.specs.declared.fault.PolicyFault.TheVariants.{NotToml}
use Rattle.office.specs.Answers.{AdminCommand, ListMaildrops, ShowMaildrop, AddMaildrop, DropMaildrop, ListClerks, ShowClerk, PutClerk, DropClerk, ShowPolicy, SetPolicy, ListGroups, ListSessions, EndSession, Explain}
use Rattle.office.specs.Events.{Event, Connect, Bytes, Took, Gone, Tick, Deposit, Admin, Restart}
use Rattle.office.specs.Numbers.{number_of}
use Rattle.office.specs.Seen.{command_seen}
use Rattle.converse.specs.Escapes.{unescaped}
use Rattle.converse.specs.declared.script.Line.{Line}
use Rattle.converse.specs.declared.script.Line.TheVariants as line

-- what a line asks for
pub data ScriptLine : Type 0 where
  -- this event is done
  Does : Event → ScriptLine
  -- a connection's client takes all that it is owed
  Drains : (number : ℕ) → ScriptLine
  -- a policy is set by a text that is none, for this fault
  NoPolicy : PolicyFault → ScriptLine

-- what a line of the code asks for
abbrev pub line_seen : Line → ScriptLine
line_seen line.Connect = Does Connect
line_seen (line.Bytes c octets) = Does (Bytes c octets.items)
line_seen (line.Took c octets) = Does (Took c octets)
line_seen (line.Drain c) = Drains c
line_seen (line.Gone c) = Does (Gone c)
line_seen (line.Tick now) = Does (Tick now)
line_seen (line.Restart boot) = Does (Restart boot)
line_seen (line.Deposit d class id text) = Does (Deposit d class id text.items)
line_seen (line.Admin command) = Does (Admin (command_seen command))
line_seen (line.NoPolicy fault) = NoPolicy fault

-- `?` on an `Option`
infixl 10 ◌>>=◌
abbrev pub ◌>>=◌ : {A B : Type 0} → Option A → (A → Option B) → Option B
Some x >>= f = f x
None >>= f = None

-- ---- fields

-- the octets before the first `end`, and those after it
abbrev pub cut_at : (ends : ℕ → Bool) → List ℕ → List ℕ × Option (List ℕ)
cut_at ends text = (before_first ends text, option_map (λ at. drop (at + 1) text) (position ends text))

-- the first field, and what stands after the space that ends it
abbrev pub cut_field : List ℕ → List ℕ × Option (List ℕ)
cut_field text = cut_at (λ b. b == 32) text

-- both, if there is a space
abbrev pub two_fields : List ℕ → Option (List ℕ × List ℕ)
two_fields text = option_map (λ rest. ((cut_field text).0, rest)) (cut_field text).1

-- three fields, and what stands after the space that ends the third
abbrev pub four_fields : List ℕ → Option (List ℕ × List ℕ × List ℕ × List ℕ)
four_fields text = do
  first ← two_fields text
  second ← two_fields first.1
  third ← two_fields second.1
  Some (first.0, second.0, third.0, third.1)

-- ---- lines of a keyword alone

abbrev pub word_line : List ℕ → Option ScriptLine
word_line keyword =
    if bytes_eq keyword (codes "connect") then Some (Does Connect)
    else if bytes_eq keyword (codes "maildrops") then Some (Does (Admin ListMaildrops))
    else if bytes_eq keyword (codes "clerks") then Some (Does (Admin ListClerks))
    else if bytes_eq keyword (codes "policy") then Some (Does (Admin ShowPolicy))
    else if bytes_eq keyword (codes "groups") then Some (Does (Admin ListGroups))
    else if bytes_eq keyword (codes "sessions") then Some (Does (Admin ListSessions))
    else None

-- ---- lines without a TEXT

-- `C N`, after `took`
abbrev pub took_line : List ℕ → Option ScriptLine
took_line rest = do
  fields ← two_fields rest
  number ← number_of fields.0
  count ← number_of fields.1
  Some (Does (Took number count))

-- `add NAME` or `drop NAME`, after `maildrop`
abbrev pub maildrop_command : List ℕ → Option AdminCommand
maildrop_command rest = do
  fields ← two_fields rest
  if bytes_eq fields.0 (codes "add") then option_map AddMaildrop (name_of fields.1)
      else if bytes_eq fields.0 (codes "drop") then option_map DropMaildrop (name_of fields.1)
      else None

-- `CLERK MAILDROP CLASS ACTION`, after `explain`
abbrev pub explain_command : List ℕ → Option AdminCommand
explain_command rest = do
  fields ← four_fields rest
  clerk ← name_of fields.0
  maildrop ← name_of fields.1
  class ← name_of fields.2
  action ← action_of fields.3
  Some (Explain clerk maildrop class action)

-- a command by its keyword and what stands after that
abbrev pub command_of : (keyword rest : List ℕ) → Option AdminCommand
command_of keyword rest =
    if bytes_eq keyword (codes "maildrop") then maildrop_command rest
    else if bytes_eq keyword (codes "list") then option_map ShowMaildrop (name_of rest)
    else if bytes_eq keyword (codes "end") then option_map EndSession (number_of rest)
    else if bytes_eq keyword (codes "explain") then explain_command rest
    else None

-- a line without a TEXT
abbrev pub number_line : (keyword rest : List ℕ) → Option ScriptLine
number_line keyword rest =
    if bytes_eq keyword (codes "took") then took_line rest
    else if bytes_eq keyword (codes "drain") then option_map Drains (number_of rest)
    else if bytes_eq keyword (codes "gone") then option_map (λ c. Does (Gone c)) (number_of rest)
    else if bytes_eq keyword (codes "tick") then option_map (λ now. Does (Tick now)) (number_of rest)
    else if bytes_eq keyword (codes "restart") then option_map (λ boot. Does (Restart boot)) (number_of rest)
    else option_map (λ command. Does (Admin command)) (command_of keyword rest)

-- ---- lines with a TEXT

-- `C TEXT`, after `bytes`
abbrev pub bytes_line : List ℕ → Option ScriptLine
bytes_line rest = do
  fields ← two_fields rest
  number ← number_of fields.0
  octets ← unescaped fields.1
  Some (Does (Bytes number octets))

-- `MAILDROP CLASS ID TEXT`, after `deposit`
abbrev pub deposit_line : List ℕ → Option ScriptLine
deposit_line rest = do
  fields ← four_fields rest
  maildrop ← name_of fields.0
  class ← name_of fields.1
  id ← deposit_id_of fields.2
  text ← unescaped fields.3
  Some (Does (Deposit maildrop class id text))

-- `NAME TEXT`, after `clerk apop` and `clerk pass`
abbrev pub secret_of_clerk : List ℕ → Option (List ℕ × List ℕ)
secret_of_clerk rest = do
  fields ← two_fields rest
  octets ← unescaped fields.1
  clerk ← name_of fields.0
  secret ← secret_of octets
  Some (clerk, secret)

-- `apop NAME TEXT`, `pass NAME TEXT`, `drop NAME` or `show NAME`, after `clerk`
abbrev pub clerk_command : List ℕ → Option AdminCommand
clerk_command rest = do
  fields ← two_fields rest
  if bytes_eq fields.0 (codes "apop") then option_map (λ (s : List ℕ × List ℕ). PutClerk s.0 (Apop s.1)) (secret_of_clerk fields.1)
      else if bytes_eq fields.0 (codes "pass") then option_map (λ (s : List ℕ × List ℕ). PutClerk s.0 (Pass (pass_digest s.0 s.1))) (secret_of_clerk fields.1)
      else if bytes_eq fields.0 (codes "drop") then option_map DropClerk (name_of fields.1)
      else if bytes_eq fields.0 (codes "show") then option_map ShowClerk (name_of fields.1)
      else None

-- a policy that is read, or its fault
abbrev pub set_or_fault : Result Policy PolicyFault → ScriptLine
set_or_fault (Ok policy) = Does (Admin (SetPolicy policy))
set_or_fault (Err fault) = NoPolicy fault

-- what octets set as a policy; what isn't UTF-8 is no TOML
abbrev pub policy_line : List ℕ → ScriptLine
policy_line octets = if is_utf8 octets then set_or_fault (rules_of octets) else NoPolicy NotToml

-- a line by its keyword and what stands after that
abbrev pub text_line : (keyword rest : List ℕ) → Option ScriptLine
text_line keyword rest =
    if bytes_eq keyword (codes "bytes") then bytes_line rest
    else if bytes_eq keyword (codes "deposit") then deposit_line rest
    else if bytes_eq keyword (codes "clerk") then option_map (λ command. Does (Admin command)) (clerk_command rest)
    else if bytes_eq keyword (codes "policy") then option_map policy_line (unescaped rest)
    else number_line keyword rest

-- ---- scripts

-- a line by its keyword and what stands after that, if something does
abbrev pub line_by : List ℕ × Option (List ℕ) → Option ScriptLine
line_by (keyword, None) = word_line keyword
line_by (keyword, Some rest) = text_line keyword rest

-- what a line without its LF asks for; none if it is of no form
abbrev pub line_of : List ℕ → Option ScriptLine
line_of text = line_by (cut_field text)

-- a line is empty or a comment
abbrev pub is_skipped : List ℕ → Bool
is_skipped [] = true
is_skipped (b ∷ bs) = b == 35

-- what line n asks for: nothing if it is skipped; its number if it is of no form
abbrev pub line_asks : (n : ℕ) → List ℕ → Result (List ScriptLine) ℕ
line_asks n line = if is_skipped line then Ok [] else ok_or (option_map (λ asked. asked ∷ []) (line_of line)) n

-- what lines ask for, then what further lines ask for; of two bad lines the number of the first
abbrev pub asks_then : (first rest : Result (List ScriptLine) ℕ) → Result (List ScriptLine) ℕ
asks_then (Ok asked) (Ok rest) = Ok (asked ++ rest)
asks_then (Ok asked) (Err n) = Err n
asks_then (Err n) rest = Err n

-- what lines ask for, of which the first has the number n, or the number of the first of no form
abbrev pub lines_ask : (n : ℕ) → List (List ℕ) → Result (List ScriptLine) ℕ
lines_ask n [] = Ok []
lines_ask n (line ∷ lines) = asks_then (line_asks n line) (lines_ask (n + 1) lines)

-- what the lines of a script ask for, or the number of the first of no form, from 1
abbrev pub script_of : List ℕ → Result (List ScriptLine) ℕ
script_of text = lines_ask 1 (slice_split (λ b. b == 10) text)

-- ---- the line that a fault is reported by

-- a line is skipped, or it has a form
abbrev pub has_form : List ℕ → Bool
has_form line = is_skipped line || is_some (line_of line)

-- the number that a script's fault is reported by
abbrev pub number_told : Result (List ScriptLine) ℕ → Option ℕ
number_told (Ok asked) = None
number_told (Err n) = Some n

-- a script is refused by the number, from 1, of its first line of no form; skipped lines count too
abbrev pub AreToldByTheirLine : Type 0
AreToldByTheirLine = (text : List ℕ)
    → number_told (script_of text) ≡ option_map (λ at. at + 1) (position (λ line. not (has_form line)) (slice_split (λ b. b == 10) text))
