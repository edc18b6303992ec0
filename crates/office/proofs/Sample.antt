-- The sample store, and what it takes to run events on it.
use Rattle.std.specs.Prelude.{ℕ, zero, suc, Bool, true, false, ◌==◌, if◌then◌else◌, List, [], ◌∷◌, ◌++◌, length, map, min, codes}
use Rattle.std.specs.List.{flat_map}
use Rattle.mailtext.specs.Text.{kept_form, line_end}
use Rattle.creds.specs.Digests.{pass_digest, text_digest}
use Rattle.creds.specs.declared.credential.Credential.TheVariants as kept
use Rattle.policy.specs.declared.rule.Rule.{Rule}
use Rattle.policy.specs.Policy.{Policy}
use Rattle.policy.specs.declared.rule.Clerks.TheVariants as clerks
use Rattle.policy.specs.declared.rule.Effect.{Effect}
use Rattle.policy.specs.declared.rule.Effect.TheVariants.{Allow, Deny}
use Rattle.policy.specs.declared.rule.Pattern.{Pattern}
use Rattle.policy.specs.declared.rule.Pattern.TheVariants.{Any, Is}
use Rattle.vault.specs.Records.{Records}
use Rattle.vault.specs.declared.record.Clerk.{Clerk}
use Rattle.vault.specs.declared.record.Message.{Message}
use Rattle.vault.specs.declared.record.Receipt.{Receipt}
use Rattle.session.specs.declared.removals.Removals.{Removals}
use Rattle.session.specs.declared.removals.Removals.TheVariants.{JudgedAtDele, JudgedAtQuit}
use Rattle.office.specs.Answers.{body_of}
use Rattle.office.specs.History.{Done}
use Rattle.office.specs.Sessions.{present}
use Rattle.office.specs.Replying.{is_empty}
use Rattle.office.specs.Events.{no_access, Event, Start, Connect, Bytes, Took, Deposit, EventTag, Log, Trace}
use Rattle.office.specs.Events as events
use Rattle.office.specs.Outcomes.{Outcome, Answered, event_tag_of}
use Rattle.office.specs.Trace.{history, rest}
use Rattle.office.specs.Expected.{outcome_of, octets_taken}

abbrev pub rule : List ℕ → Effect → List ℕ → Pattern → Pattern → Bool → Bool → Bool → Rule
rule name effect clerk maildrop class o r m = record
    { name = name; effect = effect; clerk = clerks.Is clerk; maildrop = maildrop; class = class; actions = record { «open» = o; read = r; remove = m } }

abbrev pub ord : Pattern
ord = Is (codes "orders")

abbrev pub without_groups : List Rule → Policy
without_groups rules = record { groups = []; rules = rules }

abbrev pub w_rules : List Rule
w_rules =
    rule (codes "ann-all") Allow (codes "ann") ord Any true true true
    ∷ rule (codes "bob-open") Allow (codes "bob") ord Any true false false
    ∷ rule (codes "bob-no-pay") Deny (codes "bob") ord (Is (codes "pay")) false true true
    ∷ rule (codes "bob-read") Allow (codes "bob") ord Any false true false
    ∷ rule (codes "bob-rm") Allow (codes "bob") ord (Is (codes "note")) false false true
    ∷ rule (codes "cat-open") Allow (codes "cat") ord Any true false false
    ∷ rule (codes "eve-any") Allow (codes "eve") Any Any true false false
    ∷ rule (codes "mrose-open") Allow (codes "mrose") Any Any true false false
    ∷ []

abbrev pub message : List ℕ → ℕ → List ℕ → Message
message class k text = record { maildrop = codes "orders"; class = class; k = k; text = kept_form text }

abbrev pub receipt : List ℕ → List ℕ → ℕ → List ℕ → Receipt
receipt id class k text = record { maildrop = codes "orders"; id = id; class = class; k = k; digest = text_digest (kept_form text) }

abbrev pub lf : List ℕ
lf = 10 ∷ []

abbrev pub d1 : List ℕ
d1 = codes "Subject: a" ++ lf ++ lf ++ codes "hi" ++ lf ++ codes "." ++ lf

abbrev pub d2 : List ℕ
d2 = codes "Subject: pay" ++ lf ++ lf ++ codes "x" ++ lf

abbrev pub d3 : List ℕ
d3 = codes "no header end"

abbrev pub d4 : List ℕ
d4 = codes "A: 1" ++ line_end ++ line_end ++ codes "one" ++ line_end ++ codes "two" ++ line_end ++ codes "three" ++ line_end

-- a clerk that logs in by APOP. A digest of MD5 is computed ten times as fast as one of SHA-256, so that only eve has a password.
abbrev pub clerk : List ℕ → List ℕ → Clerk
clerk name secret = record { name = name; credential = kept.Apop secret }

abbrev pub W : Records
W = record {
  clerks = clerk (codes "ann") (codes "s3 cret") ∷ clerk (codes "bob") (codes "hunter") ∷ clerk (codes "cat") (codes "meow") ∷ clerk (codes "dan") (codes "pw")
      ∷ record { name = codes "eve"; credential = kept.Pass (pass_digest (codes "eve") (codes "any one")) } ∷ clerk (codes "mrose") (codes "tanstaaf") ∷ [];
  maildrops = codes "orders" ∷ [];
  messages = message (codes "note") 1 d1 ∷ message (codes "pay") 1 d2 ∷ message (codes "note") 2 d3 ∷ message (codes "todo") 1 d4 ∷ [];
  deposits = receipt (codes "d1") (codes "note") 1 d1 ∷ receipt (codes "d2") (codes "pay") 1 d2 ∷ receipt (codes "d3") (codes "note") 2 d3 ∷ receipt (codes "d4") (codes "todo") 1 d4 ∷ [];
  policy = without_groups w_rules;
}

-- ---- running, with ample memory and a store that refuses nothing

-- all that is owed is lent
abbrev pub lent : Trace → ℕ → ℕ
lent T c = length (rest T c)

abbrev pub outcome : Trace → Event → Outcome
outcome T e = outcome_of T (lent T) e Done

abbrev pub given : Trace → Event → Trace
given T e = events.given T e (event_tag_of (outcome T e))

-- an event, takings of all that is owed until nothing is, or one of so many octets, or of what is owed if that is less
pub data Step : Type 0 where
  Give : Event → Step
  Drain : ℕ → Step
  Sip : (octets number : ℕ) → Step

-- at most so many takings
abbrev pub drained : ℕ → ℕ → Trace → Trace
drained zero c T = T
drained (suc n) c T = elim (is_empty (rest T c)) [ true ↦ T | false ↦ drained n c (given T (Took c (length (rest T c)))) ]

abbrev pub stepped : Trace → Step → Trace
stepped T (Give e) = given T e
stepped T (Drain c) = drained 40 c T
stepped T (Sip octets c) = given T (Took c (min octets (length (rest T c))))

abbrev pub ran : Trace → List Step → Trace
ran T [] = T
ran T (s ∷ steps) = ran (stepped T s) steps

-- an office that was opened with removals judged so
abbrev pub start_with : Removals → Trace
start_with removals = given (record { base = W; log = [] }) (Start (codes "h.test") 7 (record { idle = 600; removals = removals; access = no_access }))

abbrev pub start : Trace
start = start_with JudgedAtDele

-- an office that was opened, and these steps
abbrev pub run : List Step → Trace
run steps = ran start steps

-- the same, if removals are judged at the QUIT
abbrev pub run_judged_at_quit : List Step → Trace
run_judged_at_quit steps = ran (start_with JudgedAtQuit) steps

-- several things that one trace shows; it is run once for all of them
abbrev pub shows : {A : Type 0} → Trace → (Trace → A) → A
shows T f = f T

abbrev pub both : {A B : Type 0} → A → B → A × B
both x y = (x, y)

-- a connection that is opened, or given a text, and takes all
abbrev pub connect : ℕ → List Step
connect c = Give Connect ∷ Drain c ∷ []

abbrev pub gives : ℕ → List ℕ → List Step
gives c text = Give (Bytes c text) ∷ Drain c ∷ []

-- lines that come one by one
abbrev pub says : ℕ → List (List ℕ) → List Step
says c ls = flat_map (λ l. gives c (l ++ line_end)) ls

-- what a connection took
abbrev pub taken_of : ℕ → Trace → Event → EventTag → List ℕ
taken_of c T (Took n octets) m = if n == c then octets_taken T (Took n octets) m else []
taken_of c T e m = []

abbrev pub received_in : ℕ → Log → List ℕ
received_in c [] = []
received_in c ((e, m) ∷ T) = received_in c T ++ taken_of c (record { base = W; log = T }) e m

abbrev pub received : ℕ → Trace → List ℕ
received c T = received_in c T.log

-- replies of one line each
abbrev pub replies : List (List ℕ) → List ℕ
replies ls = flat_map (λ l. l ++ line_end) ls

-- ---- what the rows share

-- a login on the first connection and one on the second, whose timestamps differ
abbrev pub as_ann : List (List ℕ)
as_ann = codes "APOP ann/orders 34a3e97880fea19f455051f180c63e15" ∷ []

abbrev pub second_as_ann : List (List ℕ)
second_as_ann = codes "APOP ann/orders ffcd9cb1893b7195a33ee7404a42c4f5" ∷ []

abbrev pub as_bob : List (List ℕ)
as_bob = codes "APOP bob/orders 18f68bd14144b7cabcb6aabe0c722b7e" ∷ []

abbrev pub second_as_bob : List (List ℕ)
second_as_bob = codes "APOP bob/orders 4913e303168b8637628bee1be5ffa486" ∷ []

-- a connection of ann's that gives these lines, and what it receives
abbrev pub ann : List (List ℕ) → List ℕ
ann ls = received 1 (run (connect 1 ++ says 1 (as_ann ++ ls)))

abbrev pub ann_receives : List (List ℕ) → List ℕ
ann_receives ls = replies (codes "+OK POP3 server ready <1.7@h.test>" ∷ codes "+OK maildrop has 4 messages (80 octets)" ∷ ls)

abbrev pub kept_ids : Trace → List (List ℕ × ℕ)
kept_ids T = map (λ (m : Message). (m.class, m.k)) (present W (history T) (codes "orders"))

-- what an outcome that is an answer says
abbrev pub answer_of : Outcome → List ℕ
answer_of (Answered answer) = body_of answer
answer_of o = []

abbrev pub deposit : List ℕ → List ℕ → List ℕ → Event
deposit class id text = Deposit (codes "orders") class id text

abbrev pub freeze : Rule
freeze = record { name = codes "freeze-pay"; effect = Deny; clerk = clerks.Any; maildrop = ord; class = Is (codes "pay"); actions = record { «open» = false; read = false; remove = true } }

abbrev pub answered : Trace → Event → List ℕ
answered T e = answer_of (outcome T e)

-- seven octets at a time, with a deposit after the third taking
abbrev pub sips : ℕ → List Step
sips zero = []
sips (suc n) = Sip 7 1 ∷ sips n

abbrev pub pipelined : ℕ → Trace
pipelined n = run (connect 1 ++ says 1 as_ann ++ Give (Bytes 1 (codes "RETR 1\r\nDELE 1\r\nQUIT\r\n")) ∷ sips 3 ++ Give (deposit (codes "note") (codes "d5") (codes "x\n")) ∷ sips n)

abbrev pub connects : ℕ → List Step
connects zero = []
connects (suc n) = Give Connect ∷ connects n
