-- What a response says, as a log has it: its status code, and the line of its body.
use Rattle.std.specs.Prelude.{ℕ, ◌-◌, Bool, true, false, List, codes, length, take, drop, Option}
use Rattle.std.specs.Prelude.{Some, None, if◌then◌else◌}
use Rattle.policy.specs.PolicyText.{fault_text}
use Rattle.office.specs.Answers as answer
use Rattle.office.specs.Answers.{Answer, body_of}
use Rattle.office.specs.Seen.{answer_seen}
use Rattle.adminhttp.specs.Responses.{answer_response, refusal_response, fault_response}
use Rattle.adminhttp.specs.declared.refusal.Refusal.{Refusal}
use Rattle.adminhttp.specs.declared.refusal.Refusal.TheVariants.{BadRequest, NotFound, NotAllowed}
use Rattle.adminhttp.specs.declared.refusal.Refusal.TheVariants.{ForeignSite, LengthRequired}
use Rattle.adminhttp.specs.declared.refusal.Refusal.TheVariants.{TooLarge, StoreFailed, OutOfMemory}
use Rattle.adminhttp.specs.declared.content.Content.{Content}
use Rattle.adminhttp.specs.declared.content.Content.TheVariants as content

-- the response that says it
abbrev pub response_of : Content → List ℕ
response_of (content.Answer a) = answer_response (answer_seen a.now)
response_of (content.Refusal refusal) = refusal_response refusal
response_of (content.Fault fault) = fault_response fault

-- the status code of a response: the three digits after `HTTP/1.1 `
abbrev pub status_code : (response : List ℕ) → List ℕ
status_code response = take 3 (drop 9 response)

-- an answer is rows or a policy
abbrev pub is_listing : Answer → Bool
is_listing (answer.Maildrops rows) = true
is_listing (answer.Messages rows) = true
is_listing (answer.Clerks rows) = true
is_listing (answer.PolicyIs policy) = true
is_listing (answer.GroupsOf policy) = true
is_listing (answer.Sessions rows) = true
is_listing _ = false

-- a line without the LF at its end
abbrev pub without_lf : (line : List ℕ) → List ℕ
without_lf line = take (length line - 1) line

-- what a refusal is logged as
abbrev pub refusal_text : Refusal → List ℕ
refusal_text BadRequest = codes "bad request"
refusal_text ForeignSite = codes "another site's request"
refusal_text NotFound = codes "not found"
refusal_text (NotAllowed r) = codes "method not allowed"
refusal_text LengthRequired = codes "length required"
refusal_text TooLarge = codes "too large"
refusal_text StoreFailed = codes "store failed"
refusal_text OutOfMemory = codes "out of memory"

-- the line of an answer's body; None if it is rows or a policy
abbrev pub answer_line : Answer → Option (List ℕ)
answer_line a = if is_listing a then None else Some (without_lf (body_of a))

-- the line of a response's body, without its LF; None if it is rows or a policy
abbrev pub line_told : Content → Option (List ℕ)
line_told (content.Answer a) = answer_line (answer_seen a.now)
line_told (content.Refusal refusal) = Some (refusal_text refusal)
line_told (content.Fault fault) = Some (fault_text fault)
