-- What each call of a vault promises: its answer, by the contents before, and the contents after.
-- A refused call leaves the contents as they were. `NoMemory` and `Store` may come in place of any
-- other answer; `Store` comes only if the count of faults grew.
use Rattle.std.specs.Prelude.{◌≡◌, ◌≤◌, ◌||◌, ℕ, Bool, true, false, nat_le, nat_lt, List, [], ◌==◌, length, take, ⊤, Option, is_some, unwrap_or, Result, Ok, Err, is_ok, if◌then◌else◌}
use Rattle.std.specs.List.{find}
use Rattle.std.specs.Option.{option_map}
use Rattle.creds.specs.declared.credential.Credential.{Credential}
use Rattle.policy.specs.Policy.{Policy}
use Rattle.vault.specs.declared.answer.Deposited.{Deposited}
use Rattle.vault.specs.declared.answer.Deposited.TheVariants as stored
use Rattle.vault.specs.declared.answer.Head.{Head}
use Rattle.vault.specs.declared.answer.Progress.{Progress}
use Rattle.vault.specs.declared.answer.Total.{Total}
use Rattle.vault.specs.declared.fault.VaultFault.{VaultFault}
use Rattle.vault.specs.declared.fault.VaultFault.TheVariants as fault
use Rattle.vault.specs.declared.record.Clerk.{Clerk}
use Rattle.vault.specs.declared.record.Keyed.{Keyed}
use Rattle.vault.specs.Records.{in_maildrop, receipts_of, credential_in, is_one_of}
use Rattle.vault.specs.Changes.{Contents, DepositAnswer, Accepted, KnownAs, deposit_answer, receipt_for, message_for, with_deposit, heads, IsPage, without_keys, with_messages, with_clerk, without_clerk, with_clerks, PutAnswer, WasNew, WasThere, NoRoom, put_clerk_answer, put_maildrop_answer, with_maildrop, without_maildrop, with_maildrops, DropAnswer, Gone, NotThere, drop_answer, totals, with_policy, records_of}
use Rattle.vault.specs.Changes as changes

-- ---- every call

-- an answer, seen through a view of its value
abbrev pub seen_as : {A B : Type 0} → Result A VaultFault → (A → B) → Result B VaultFault
seen_as (Ok x) view = Ok (view x)
seen_as (Err e) view = Err e

-- a refusal is the expected one, or `Store` or `NoMemory`, which any call may answer
abbrev pub IsRefusal : {A : Type 0} → (expected : Result A VaultFault) → VaultFault → Type 0
IsRefusal expected fault.Store = ⊤
IsRefusal expected fault.NoMemory = ⊤
IsRefusal expected e = expected ≡ Err e

-- the answer is the expected one, or `Store` or `NoMemory`
abbrev pub IsAnswer : {A : Type 0} → (expected answered : Result A VaultFault) → Type 0
IsAnswer expected (Ok x) = expected ≡ Ok x
IsAnswer expected (Err e) = IsRefusal expected e

-- the call is answered as expected; the contents are then `after` or, if it is refused, `before`
pub record IsDone {A : Type 0} (Holds : Contents → Type 0) (before after : Contents) (expected answered : Result A VaultFault) : Type 0 where
  pub answer : IsAnswer expected answered
  pub held : Holds (if is_ok answered then after else before)

-- the greatest count of faults, at which the count stops
abbrev pub greatest_count : ℕ
greatest_count = 18446744073709551615

-- the count of faults grew; a count at its greatest is taken as grown
abbrev pub has_grown : (before now : ℕ) → Bool
has_grown before now = nat_lt before now || nat_le greatest_count now

-- the count of faults never falls, and `Store` is answered only if it grew
pub record CountsFaults {A : Type 0} (before now : ℕ) (answered : Result A VaultFault) : Type 0 where
  pub kept : before ≤ now
  pub cause : answered ≡ Err fault.Store → has_grown before now ≡ true

-- ---- deposits

-- how many messages lie in a maildrop
abbrev pub present_in : List ℕ → Contents → ℕ
present_in d c = length (in_maildrop d (records_of c).messages)

-- the answer to a deposit into a maildrop, by the contents
abbrev pub deposit_answer_in : Contents → (maildrop class id text : List ℕ) → DepositAnswer
deposit_answer_in c d class id text = deposit_answer (is_one_of d c.maildrops) (present_in d c) (receipts_of d c.deposits) class id text

-- a deposit's answer as the call gives it
abbrev pub deposit_result : DepositAnswer → Result Deposited VaultFault
deposit_result (Accepted uid) = Ok (stored.New uid)
deposit_result (KnownAs uid) = Ok (stored.Known uid)
deposit_result changes.NoMaildrop = Err fault.NoMaildrop
deposit_result changes.Conflict = Err fault.Conflict
deposit_result changes.Full = Err fault.Full

-- a new message and its receipt are added, under some key; otherwise nothing is changed
abbrev pub DepositLeft : (Contents → Type 0) → Contents → (maildrop class id text : List ℕ) → Result Deposited VaultFault → Type 0
DepositLeft Holds c d class id text (Ok (stored.New uid)) =
    (key : ℕ) × Holds (with_deposit key (message_for d class text uid.k) (receipt_for d class id text uid.k) c)
DepositLeft Holds c d class id text (Ok (stored.Known uid)) = Holds c
DepositLeft Holds c d class id text (Err e) = Holds c

-- a deposit is answered by the contents before, and leaves what its answer says
pub record IsDeposited (Holds : Contents → Type 0) (c : Contents) (maildrop class id text : List ℕ) (answered : Result Deposited VaultFault) : Type 0 where
  pub answer : IsAnswer (deposit_result (deposit_answer_in c maildrop class id text)) answered
  pub held : DepositLeft Holds c maildrop class id text answered

-- ---- messages

-- the heads of a maildrop, or that it isn't there
abbrev pub heads_result : List ℕ → Contents → Result (List Head) VaultFault
heads_result d c = if is_one_of d c.maildrops then Ok (heads d c) else Err fault.NoMaildrop

-- the heads are answered, and nothing is changed
abbrev pub AreHeads : (Contents → Type 0) → Contents → (maildrop : List ℕ) → Result (List Head) VaultFault → Type 0
AreHeads Holds c d answered = IsDone Holds c c (heads_result d c) answered

-- the text of the message under a key; no octets if there is none
abbrev pub text_under : ℕ → List Keyed → List ℕ
text_under key ms = unwrap_or (option_map (λ (x : Keyed). x.message.text) (find (λ (x : Keyed). x.key == key) ms)) []

-- a page is in the front of the buffer
abbrev pub IsPageRead : (text : List ℕ) → (from : ℕ) → (buffer : List ℕ) → Result ℕ VaultFault → Type 0
IsPageRead text from buffer (Ok n) = (n ≤ length buffer) × IsPage text from (length buffer) (take n buffer)
IsPageRead text from buffer (Err e) = IsRefusal {A = ℕ} (Ok 0) e

-- a page is answered, and nothing is changed
pub record IsPaged (Holds : Contents → Type 0) (c : Contents) (key from : ℕ) (buffer : List ℕ) (answered : Result ℕ VaultFault) : Type 0 where
  pub answer : IsPageRead (text_under key c.messages) from buffer answered
  pub held : Holds c

-- the named messages are gone; keys without a message are ignored
abbrev pub AreRemoved : (Contents → Type 0) → Contents → (maildrop keys : List ℕ) → Result (Unit {0}) VaultFault → Type 0
AreRemoved Holds c d keys answered = IsDone Holds c (with_messages (without_keys d keys c.messages) c) (Ok tt) answered

-- a removal or a deposit is prepared, or `Store` or `NoMemory` is answered
abbrev pub IsPrepared : Result Progress VaultFault → Type 0
IsPrepared (Ok progress) = ⊤
IsPrepared (Err e) = IsRefusal {A = Unit {0}} (Ok tt) e

-- ---- clerks

-- whether the name was new, or no room for it
abbrev pub put_result : PutAnswer → Result Bool VaultFault
put_result WasNew = Ok true
put_result WasThere = Ok false
put_result NoRoom = Err fault.Full

-- the credential is answered, and nothing is changed
abbrev pub IsCredential : (Contents → Type 0) → Contents → (clerk : List ℕ) → Result (Option Credential) VaultFault → Type 0
IsCredential Holds c clerk answered = IsDone Holds c c (Ok (credential_in clerk c.clerks)) answered

-- the credential is put, and whether the clerk was new is answered
abbrev pub IsClerkPut : (Contents → Type 0) → Contents → (clerk : List ℕ) → Credential → Result Bool VaultFault → Type 0
IsClerkPut Holds c clerk given answered =
    IsDone Holds c (with_clerks (with_clerk clerk given c.clerks) c) (put_result (put_clerk_answer clerk c.clerks)) answered

-- the clerk is there to be dropped, or isn't
abbrev pub drop_clerk_result : List ℕ → List Clerk → Result (Unit {0}) VaultFault
drop_clerk_result name clerks = if is_some (credential_in name clerks) then Ok tt else Err fault.NoClerk

-- the clerk is gone
abbrev pub IsClerkDropped : (Contents → Type 0) → Contents → (clerk : List ℕ) → Result (Unit {0}) VaultFault → Type 0
IsClerkDropped Holds c clerk answered =
    IsDone Holds c (with_clerks (without_clerk clerk c.clerks) c) (drop_clerk_result clerk c.clerks) answered

-- ---- maildrops

-- the name is put, and whether it was new is answered
abbrev pub IsMaildropAdded : (Contents → Type 0) → Contents → (maildrop : List ℕ) → Result Bool VaultFault → Type 0
IsMaildropAdded Holds c d answered =
    IsDone Holds c (with_maildrops (with_maildrop d c.maildrops) c) (put_result (put_maildrop_answer d c.maildrops)) answered

-- a drop's answer as the call gives it
abbrev pub drop_result : DropAnswer → Result (Unit {0}) VaultFault
drop_result Gone = Ok tt
drop_result NotThere = Err fault.NoMaildrop
drop_result changes.NotEmpty = Err fault.NotEmpty

-- the name is gone; the receipts of its deposits stay
abbrev pub IsMaildropDropped : (Contents → Type 0) → Contents → (maildrop : List ℕ) → Result (Unit {0}) VaultFault → Type 0
IsMaildropDropped Holds c d answered =
    IsDone Holds c (with_maildrops (without_maildrop d c.maildrops) c) (drop_result (drop_answer (is_one_of d c.maildrops) (present_in d c))) answered

-- the totals are answered, and nothing is changed
abbrev pub AreTotals : (Contents → Type 0) → Contents → Result (List Total) VaultFault → Type 0
AreTotals Holds c answered = IsDone Holds c c (Ok (totals (records_of c))) answered

-- ---- the policy

-- the policy is answered, and nothing is changed
abbrev pub IsPolicy : (Contents → Type 0) → Contents → Result Policy VaultFault → Type 0
IsPolicy Holds c answered = IsDone Holds c c (Ok c.policy) answered

-- the policy is set
abbrev pub IsPolicySet : (Contents → Type 0) → Contents → Policy → Result (Unit {0}) VaultFault → Type 0
IsPolicySet Holds c policy answered = IsDone Holds c (with_policy policy c) (Ok tt) answered
