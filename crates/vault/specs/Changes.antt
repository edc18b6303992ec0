-- What a vault holds, and what each of its calls answers and leaves. Each message has a key, by
-- which it is read and removed; the records of a history have no keys.
-- A call that is refused, or that only reads, leaves everything as it was.
use Rattle.std.specs.Prelude.{◌≡◌, ℕ, Bool, true, false, not, ◌&&◌, ◌||◌, ◌==◌, ◌+◌, ◌<◌, ◌≤◌, nat_le, List, [], ◌∷◌, ◌++◌, length, take, drop, filter, map, Option, Some, None, is_some, if◌then◌else◌}
use Rattle.std.specs.List.{list_any}
use Rattle.std.specs.Str.{bytes_eq}
use Rattle.creds.specs.declared.uid.Uid.{Uid}
use Rattle.creds.specs.Names.{by_name}
use Rattle.creds.specs.declared.credential.Credential.{Credential}
use Rattle.creds.specs.Digests.{text_digest}
use Rattle.policy.specs.Policy.{Policy, are_distinct}
use Rattle.vault.specs.declared.answer.Head.{Head}
use Rattle.vault.specs.declared.answer.Total.{Total}
use Rattle.vault.specs.declared.record.Clerk.{Clerk}
use Rattle.vault.specs.declared.record.Keyed.{Keyed}
use Rattle.vault.specs.declared.record.Message.{Message}
use Rattle.vault.specs.declared.record.Receipt.{Receipt}
use Rattle.vault.specs.Records.{Records, IsSound, octets_of, octets_of_all, in_maildrop, receipt_of, class_count, credential_in, is_one_of, most_messages, most_deposits, most_maildrops, most_clerks}

-- ---- what is held

-- the five lists, each message under its key
pub record Contents : Type 0 where
  pub clerks : List Clerk
  pub maildrops : List (List ℕ)
  pub messages : List Keyed
  pub deposits : List Receipt
  pub policy : Policy

-- the contents without the keys
abbrev pub records_of : Contents → Records
records_of c = record {
  clerks = c.clerks;
  maildrops = c.maildrops;
  messages = map (λ (x : Keyed). x.message) c.messages;
  deposits = c.deposits;
  policy = c.policy;
}

-- the records are sound, and no two messages have one key
pub record AreSound (c : Contents) : Type 0 where
  pub records : IsSound (records_of c)
  pub keys : are_distinct (λ (x y : Keyed). x.key == y.key) c.messages ≡ true

-- ---- deposits

-- the answer to a deposit of a kept form
pub data DepositAnswer : Type 0 where
  Accepted : Uid → DepositAnswer
  KnownAs : Uid → DepositAnswer
  NoMaildrop : DepositAnswer
  Conflict : DepositAnswer
  Full : DepositAnswer

-- the id was used before: a deposit of the same class and digest is known, any other is a conflict
abbrev pub known_or_conflict : (class text : List ℕ) → Receipt → DepositAnswer
known_or_conflict class text r =
    if bytes_eq r.class class && bytes_eq r.digest (text_digest text) then KnownAs (record { class = r.class; k = r.k }) else Conflict

-- a used id brings no second message; a deposit with a new id gets its class's next number
abbrev pub deposit_answered : Option Receipt → (class text : List ℕ) → (is_full : Bool) → (next : ℕ) → DepositAnswer
deposit_answered (Some r) class text is_full next = known_or_conflict class text r
deposit_answered None class text true next = Full
deposit_answered None class text false next = Accepted (record { class = class; k = next })

-- the maildrop holds its 10,000 messages, or its name has had its 1,000,000,000 of the class
abbrev pub is_full : (present : ℕ) → List Receipt → (class : List ℕ) → Bool
is_full present receipts class = nat_le most_messages present || nat_le most_deposits (class_count class receipts)

-- no such maildrop, known or conflict, full, accepted: the first that holds; `present` is how many
-- messages the maildrop has, `receipts` are those of its name
abbrev pub deposit_answer : (is_there : Bool) → (present : ℕ) → List Receipt → (class id text : List ℕ) → DepositAnswer
deposit_answer false present receipts class id text = NoMaildrop
deposit_answer true present receipts class id text =
    deposit_answered (receipt_of id receipts) class text (is_full present receipts class) (class_count class receipts + 1)

-- the receipt of a deposit with this k
abbrev pub receipt_for : (maildrop class id text : List ℕ) → (k : ℕ) → Receipt
receipt_for d class id text k = record { maildrop = d; id = id; class = class; k = k; digest = text_digest text }

-- the message of a deposit with this k
abbrev pub message_for : (maildrop class text : List ℕ) → (k : ℕ) → Message
message_for d class text k = record { maildrop = d; class = class; k = k; text = text }

-- the contents with a message, under this key, and its receipt added
abbrev pub with_deposit : (key : ℕ) → Message → Receipt → Contents → Contents
with_deposit key m r c = record {
  clerks = c.clerks;
  maildrops = c.maildrops;
  messages = c.messages ++ record { key = key; message = m } ∷ [];
  deposits = c.deposits ++ r ∷ [];
  policy = c.policy;
}

-- ---- messages

-- a message as a login sees it
abbrev pub head_of : Keyed → Head
head_of x = record { key = x.key; class = x.message.class; k = x.message.k; octets = octets_of x.message }

-- the messages of a maildrop, in order of arrival
abbrev pub kept_in : List ℕ → List Keyed → List Keyed
kept_in d ms = filter (λ (x : Keyed). bytes_eq x.message.maildrop d) ms

-- the heads of a maildrop's messages
abbrev pub heads : List ℕ → Contents → List Head
heads d c = map head_of (kept_in d c.messages)

-- octets of a text from octet `from` on: at most `room`, and at least one if there is one left
-- and room for it
pub record IsPage (text : List ℕ) (from room : ℕ) (octets : List ℕ) : Type 0 where
  pub next : octets ≡ take (length octets) (drop from text)
  pub fits : length octets ≤ room
  pub goes_on : from < length text → 0 < room → 0 < length octets

-- the key is among the keys
abbrev pub is_named : List ℕ → ℕ → Bool
is_named keys key = list_any (λ x. x == key) keys

-- the messages without those of the maildrop that have one of the keys
abbrev pub without_keys : (maildrop keys : List ℕ) → List Keyed → List Keyed
without_keys d keys ms = filter (λ (x : Keyed). not (bytes_eq x.message.maildrop d && is_named keys x.key)) ms

-- the contents with these messages
abbrev pub with_messages : List Keyed → Contents → Contents
with_messages ms c = record { clerks = c.clerks; maildrops = c.maildrops; messages = ms; deposits = c.deposits; policy = c.policy }

-- ---- clerks

-- the clerk with this credential, if the clerk has that name
abbrev pub with_credential : List ℕ → Credential → Clerk → Clerk
with_credential name given x = if bytes_eq x.name name then record { name = x.name; credential = given } else x

-- the clerks with this one's credential replaced, or with this one added at the end
abbrev pub with_clerk : List ℕ → Credential → List Clerk → List Clerk
with_clerk name given clerks =
    if is_some (credential_in name clerks) then map (with_credential name given) clerks
    else clerks ++ record { name = name; credential = given } ∷ []

-- the clerks without the one of that name
abbrev pub without_clerk : List ℕ → List Clerk → List Clerk
without_clerk name clerks = filter (λ (x : Clerk). not (bytes_eq x.name name)) clerks

-- the contents with these clerks
abbrev pub with_clerks : List Clerk → Contents → Contents
with_clerks clerks c = record { clerks = clerks; maildrops = c.maildrops; messages = c.messages; deposits = c.deposits; policy = c.policy }

-- ---- maildrops

-- the answer if a name is put: it was new, it was there, or there is no room for a new one
pub data PutAnswer : Type 0 where
  WasNew : PutAnswer
  WasThere : PutAnswer
  NoRoom : PutAnswer

-- the answer for a name, if there are `count` names of at most `most`
abbrev pub put_answer : (is_there : Bool) → (count most : ℕ) → PutAnswer
put_answer true count most = WasThere
put_answer false count most = if nat_le most count then NoRoom else WasNew

-- the answer for a clerk's name
abbrev pub put_clerk_answer : List ℕ → List Clerk → PutAnswer
put_clerk_answer name clerks = put_answer (is_some (credential_in name clerks)) (length clerks) most_clerks

-- the answer for a maildrop's name
abbrev pub put_maildrop_answer : List ℕ → List (List ℕ) → PutAnswer
put_maildrop_answer name maildrops = put_answer (is_one_of name maildrops) (length maildrops) most_maildrops

-- the maildrops with this name, added at the end if it wasn't there
abbrev pub with_maildrop : List ℕ → List (List ℕ) → List (List ℕ)
with_maildrop name maildrops = if is_one_of name maildrops then maildrops else maildrops ++ name ∷ []

-- the names without that one
abbrev pub without_maildrop : List ℕ → List (List ℕ) → List (List ℕ)
without_maildrop name maildrops = filter (λ d. not (bytes_eq d name)) maildrops

-- the contents with these maildrops
abbrev pub with_maildrops : List (List ℕ) → Contents → Contents
with_maildrops maildrops c = record { clerks = c.clerks; maildrops = maildrops; messages = c.messages; deposits = c.deposits; policy = c.policy }

-- the answer if a maildrop is dropped: only an empty one goes
pub data DropAnswer : Type 0 where
  Gone : DropAnswer
  NotThere : DropAnswer
  NotEmpty : DropAnswer

-- the answer for a maildrop with `present` messages
abbrev pub drop_answer : (is_there : Bool) → (present : ℕ) → DropAnswer
drop_answer false present = NotThere
drop_answer true present = if present == 0 then Gone else NotEmpty

-- a maildrop's name, how many messages it has, and the sum of their octets
abbrev pub total_in : List ℕ → List Message → Total
total_in d ms = record { maildrop = d; messages = length ms; octets = octets_of_all ms }

-- every maildrop's total, sorted by name
abbrev pub totals : Records → List Total
totals B = map (λ d. total_in d (in_maildrop d B.messages)) (by_name B.maildrops)

-- ---- the policy

-- the contents with this policy
abbrev pub with_policy : Policy → Contents → Contents
with_policy policy c = record { clerks = c.clerks; maildrops = c.maildrops; messages = c.messages; deposits = c.deposits; policy = policy }
