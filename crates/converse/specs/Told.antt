-- What a run prints: a policy's count of rules, the outcomes of a script's events, or the fault that stopped it.
use Rattle.std.specs.Prelude.{ℕ, Bool, true, not, List, [], ◌∷◌, ◌++◌, ◌==◌, codes, if◌then◌else◌}
use Rattle.std.specs.Fmt.{decimal}
use Rattle.std.specs.List.{flat_map}
use Rattle.policy.specs.PolicyText.{fault_text as policy_fault_text}
use Rattle.policy.specs.declared.fault.PolicyFault.{PolicyFault}
use Rattle.office.specs.Answers.{body_of}
use Rattle.office.specs.Outcomes.{Outcome, Reason, NoSuchConnection, NotReady, PieceTooLong, TooManyConnections}
use Rattle.office.specs.Outcomes as outcome
use Rattle.office.specs.Events.{Trace}
use Rattle.office.specs.Trace.{is_open}
use Rattle.converse.specs.Escapes.{escaped}
use Rattle.converse.specs.FaultNames.{store_fault_name, talk_fault_name}
use Rattle.converse.specs.declared.fault.Fault.{Fault}
use Rattle.converse.specs.declared.fault.Fault.TheVariants.{CannotRead, BadEvent, BadHost, Store, Talk, NoPolicy, NoClock, CannotPut, CannotWrite, Differs, OutOfMemory}

-- the text of a fault: a policy's has a text of its own, a store's and a conversation's have their name
abbrev pub fault_text : Fault → List ℕ
fault_text CannotRead = codes "cannot read file"
fault_text (BadEvent n) = codes "line " ++ decimal n ++ codes ": bad event"
fault_text BadHost = codes "BadHost"
fault_text (Store f) = store_fault_name f
fault_text (Talk f) = talk_fault_name f
fault_text (NoPolicy f) = policy_fault_text f
fault_text NoClock = codes "cannot read clock"
fault_text CannotPut = codes "cannot write file"
fault_text CannotWrite = codes "cannot write"
fault_text Differs = codes "texts differ from their digests"
fault_text OutOfMemory = codes "out of memory"

-- the line of a fault on standard error
abbrev pub fault_line : Fault → List ℕ
fault_line f = codes "popbox: " ++ fault_text f ++ codes "\n"

-- the line on standard output that says how many rules there are
abbrev pub count_line : ℕ → List ℕ
count_line n = codes "ok, " ++ decimal n ++ codes " rules\n"

-- ---- outcomes

-- the name of a reason for which an event is ignored
abbrev pub reason_name : Reason → List ℕ
reason_name NoSuchConnection = codes "NoSuchConnection"
reason_name NotReady = codes "NotReady"
reason_name PieceTooLong = codes "PieceTooLong"
reason_name TooManyConnections = codes "TooManyConnections"

-- octets with a word in front of each line; `at_start` says whether the first of them begins a line
abbrev pub led_by : (word : List ℕ) → (at_start : Bool) → List ℕ → List ℕ
led_by word at_start [] = []
led_by word at_start (b ∷ bs) = (if at_start then word else []) ++ b ∷ led_by word (b == 10) bs

-- `answer ` and a body's line, for each line; for an empty body the word alone
abbrev pub answer_lines : List ℕ → List ℕ
answer_lines [] = codes "answer\n"
answer_lines (b ∷ bs) = led_by (codes "answer ") true (b ∷ bs)

-- the line that answers a text that is no policy
abbrev pub no_policy_line : PolicyFault → List ℕ
no_policy_line f = codes "answer " ++ policy_fault_text f ++ codes "\n"

-- the lines of an outcome
abbrev pub outcome_lines : Outcome → List ℕ
outcome_lines (outcome.Opened n) = codes "opened " ++ decimal n ++ codes "\n"
outcome_lines outcome.Done = codes "done\n"
outcome_lines outcome.Failed = codes "failed\n"
outcome_lines outcome.NoMemory = codes "no memory\n"
outcome_lines (outcome.Ignored reason) = codes "ignored: " ++ reason_name reason ++ codes "\n"
outcome_lines (outcome.Answered answer) = answer_lines (body_of answer)

-- the line that says what a connection was sent
abbrev pub sent_line : (c : ℕ) (octets : List ℕ) → List ℕ
sent_line c octets = codes "sent " ++ decimal c ++ codes " " ++ escaped octets ++ codes "\n"

-- ---- connections that ended

-- a connection isn't open
abbrev pub has_ended : Trace → ℕ → Bool
has_ended T c = not (is_open T c)

-- the line that says that a connection ended
abbrev pub ended_line : ℕ → List ℕ
ended_line c = codes "ended " ++ decimal c ++ codes "\n"

-- a line for each of them, in their order
abbrev pub ended_lines : List ℕ → List ℕ
ended_lines numbers = flat_map ended_line numbers
