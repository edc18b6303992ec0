-- The octets of a response (RFC 9112, 4).
use Rattle.std.specs.Prelude.{ℕ, List, [], ◌++◌, codes, length}
use Rattle.std.specs.Fmt.{decimal}
use Rattle.policy.specs.PolicyText.{fault_text}
use Rattle.policy.specs.declared.fault.PolicyFault.{PolicyFault}
use Rattle.office.specs.Answers as answer
use Rattle.office.specs.Answers.{Answer, body_line, body_of}
use Rattle.adminhttp.specs.declared.route.Route.{Route}
use Rattle.adminhttp.specs.declared.route.Route.TheVariants.{Maildrops, Maildrop, Clerks, Clerk, Policy, Groups, Sessions, Session, Explain}
use Rattle.adminhttp.specs.declared.refusal.Refusal.{Refusal}
use Rattle.adminhttp.specs.declared.refusal.Refusal.TheVariants.{BadRequest, ForeignSite, NotFound, NotAllowed, LengthRequired, TooLarge, StoreFailed, OutOfMemory}

-- the head of a response: its status with the reason, further header lines, and the length of its
-- body
abbrev pub response_head : (status further : List ℕ) → (octets : ℕ) → List ℕ
response_head status further octets =
    codes "HTTP/1.1 " ++ status ++ codes "\r\nContent-Type: text/plain\r\n" ++ further
    ++ codes "Content-Length: " ++ decimal octets ++ codes "\r\nConnection: close\r\n\r\n"

-- a response: its head, which gives the length of its body, and the body
unfoldable pub response_text : (status further body : List ℕ) → List ℕ
response_text status further body = response_head status further (length body) ++ body

-- ---- answers

-- the status of an answer, and its reason
abbrev pub status_of : Answer → List ℕ
status_of (answer.New uid) = codes "201 Created"
status_of (answer.Known uid) = codes "200 OK"
status_of answer.EmptyText = codes "400 Bad Request"
status_of answer.TextTooLarge = codes "413 Content Too Large"
status_of answer.NoSuchMaildrop = codes "404 Not Found"
status_of answer.Conflict = codes "409 Conflict"
status_of answer.Full = codes "409 Conflict"
status_of (answer.Maildrops rows) = codes "200 OK"
status_of (answer.Messages rows) = codes "200 OK"
status_of answer.Added = codes "201 Created"
status_of answer.WasThere = codes "200 OK"
status_of answer.Dropped = codes "200 OK"
status_of answer.MaildropInUse = codes "409 Conflict"
status_of answer.NotEmpty = codes "409 Conflict"
status_of (answer.Clerks rows) = codes "200 OK"
status_of answer.ByApopSecret = codes "200 OK"
status_of answer.ByPassword = codes "200 OK"
status_of answer.NoSuchClerk = codes "404 Not Found"
status_of answer.Replaced = codes "200 OK"
status_of (answer.PolicyIs policy) = codes "200 OK"
status_of (answer.RuleCount n) = codes "200 OK"
status_of (answer.GroupsOf policy) = codes "200 OK"
status_of (answer.Sessions rows) = codes "200 OK"
status_of answer.Ended = codes "200 OK"
status_of answer.NoSuchSession = codes "404 Not Found"
status_of (answer.Explained decision) = codes "200 OK"

-- the response to an answer
abbrev pub answer_response : Answer → List ℕ
answer_response a = response_text (status_of a) [] (body_of a)

-- the response to a text that is no policy
abbrev pub fault_response : PolicyFault → List ℕ
fault_response fault = response_text (codes "400 Bad Request") [] (body_line (fault_text fault))

-- ---- refusals

-- the methods of a route, in the order of the table
abbrev pub methods_of : Route → List ℕ
methods_of Maildrops = codes "GET"
methods_of Maildrop = codes "GET, PUT, DELETE"
methods_of Clerks = codes "GET"
methods_of Clerk = codes "GET, PUT, DELETE"
methods_of Policy = codes "GET, PUT"
methods_of Groups = codes "GET"
methods_of Sessions = codes "GET"
methods_of Session = codes "DELETE"
methods_of Explain = codes "GET"

-- the header line that lists them
abbrev pub allow_line : Route → List ℕ
allow_line r = codes "Allow: " ++ methods_of r ++ codes "\r\n"

-- the response to a refusal
unfoldable pub refusal_response : Refusal → List ℕ
refusal_response BadRequest = response_text (codes "400 Bad Request") [] (codes "bad request\n")
refusal_response ForeignSite =
    response_text (codes "403 Forbidden") [] (codes "another site's request\n")
refusal_response NotFound = response_text (codes "404 Not Found") [] (codes "not found\n")
refusal_response (NotAllowed r) = response_text (codes "405 Method Not Allowed") (allow_line r) (codes "method not allowed\n")
refusal_response LengthRequired = response_text (codes "411 Length Required") [] (codes "length required\n")
refusal_response TooLarge = response_text (codes "413 Content Too Large") [] (codes "too large\n")
refusal_response StoreFailed = response_text (codes "503 Service Unavailable") [] (codes "store failed\n")
refusal_response OutOfMemory = response_text (codes "503 Service Unavailable") [] (codes "out of memory\n")
