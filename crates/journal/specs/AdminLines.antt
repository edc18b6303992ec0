-- The text of the log's line that says what the administration was asked, and what its response
-- says. `who` is the client's address, as each line has it.
use Rattle.std.specs.Prelude.{ℕ, Bool, true, false, List, [], ◌++◌, Option, Some, None, codes}
use Rattle.office.specs.Answers as answer
use Rattle.office.specs.Answers.{Answer}
use Rattle.office.specs.Seen.{answer_seen}
use Rattle.adminhttp.specs.Contents.{response_of, status_code, line_told}
use Rattle.adminhttp.specs.RequestLines.{method_text, path_of}
use Rattle.adminhttp.specs.declared.content.Content.{Content}
use Rattle.adminhttp.specs.declared.content.Content.TheVariants as content
use Rattle.adminhttp.specs.declared.request_line.RequestLine.{RequestLine}
use Rattle.serving.specs.declared.listener.AdminRequest.{AdminRequest}
use Rattle.journal.specs.PolicyNames.{policy_value}

-- the values of a request's line, if it has one
abbrev pub request_text : Option RequestLine → List ℕ
request_text None = []
request_text (Some line) =
    codes " method=" ++ method_text line.method ++ codes " path=" ++ path_of line.target

-- the status; none if no response went out
abbrev pub status_text : Content → (is_sent : Bool) → List ℕ
status_text content true = status_code (response_of content)
status_text content false = codes "none"

-- the value of the body's line, if that is logged
abbrev pub answer_text : Option (List ℕ) → List ℕ
answer_text None = []
answer_text (Some line) = codes " answer=\"" ++ line ++ codes "\""

-- an answer says that a policy was put in force: how many rules it has
abbrev pub counts_rules : Answer → Bool
counts_rules (answer.RuleCount rules) = true
counts_rules _ = false

-- a response says so
abbrev pub sets_policy : Content → Bool
sets_policy (content.Answer a) = counts_rules (answer_seen a.now)
sets_policy _ = false

-- the line of what was asked, with the name of the policy in force if the request has put it there
abbrev pub asked_text : (who : List ℕ) → AdminRequest → (is_sent : Bool)
    → (in_force : Option (List ℕ)) → List ℕ
asked_text who asked is_sent in_force =
    codes "event=admin " ++ who ++ request_text asked.line
    ++ codes " status=" ++ status_text asked.content is_sent
    ++ answer_text (line_told asked.content)
    ++ policy_value (sets_policy asked.content) in_force

-- the line of a link that asked nothing
abbrev pub unasked_text : (who : List ℕ) → List ℕ
unasked_text who = codes "event=admin " ++ who ++ codes " status=none answer=\"\""
