-- Two states that differ only in how marks are listed get the same replies.
use Rattle.std.proofs.Common.{◌≡◌, ℕ, false, not, List, Option, Result, Ok, Err, refl, ◌∙◌, ap, is_some}
use Rattle.std.proofs.lemmas.List.Elements.{filter_agree}
use Rattle.std.specs.Prelude.{length, map, filter}
use Rattle.std.specs.List.{find}
use Rattle.std.specs.Option.{option_map}
use Rattle.creds.specs.declared.login_name.LoginName.{LoginName}
use Rattle.creds.specs.Credential.{Shown, ByPass}
use Rattle.popline.specs.Cutting.{Cut, TooLong}
use Rattle.popline.specs.Cutting as cutting
use Rattle.popline.specs.Commands.{Command, Pass, Apop, Quit, Stat, ListAll, ListOne, UidlAll, UidlOne, Top, Retr, Dele, command_of, keyword_of}
use Rattle.popline.specs.declared.command.Keyword.{Keyword}
use Rattle.popline.specs.declared.command.LineFault.{LineFault}
use Rattle.popline.specs.declared.command.LineFault.TheVariants.{Unknown, Syntax}
use Rattle.popline.specs.Replies.{Reply, DropListing, ScanListing, UidListing, NoSuchMessage, AlreadyMarked, BadArguments}
use Rattle.policy.specs.Policy.{Policy}
use Rattle.vault.specs.Records.{class_of, octets_of, uid_of}
use Rattle.vault.specs.declared.record.Message as store
use Rattle.session.specs.View.{is_marked, marked, unmarked, numbered, at_number, referred, may_remove, removal, to_remove, denying, sizes_of, uids_of, total_of}
use Rattle.office.specs.History.{Tag, Done, Failed, NoMemory}
use Rattle.office.specs.Replying.{Transaction, LineState, InAuthorization, InTransaction, authorization_says, session_says, quit_says, name_or_nobody, is_readable, is_empty, pick}
use Rattle.office.specs.Replying.{login_asked, transaction_asks, is_allowed, is_permitted, when_permitted, obeyed, reply_to_command, reply_to_reading, reply_to, may_fail}

-- ---- marks count by number

module _ (ms ns : List ℕ) (same : (n : ℕ) → is_marked ms n ≡ is_marked ns n) where
  pub marked_alike : {A : Type 0} (rows : List A) → marked ms rows ≡ marked ns rows
  marked_alike {A} rows = filter_agree (λ (row : ℕ × A). is_marked ms row.0) (λ (row : ℕ × A). is_marked ns row.0) (λ row. same row.0) (numbered rows)

  unmarked_alike : {A : Type 0} (rows : List A) → unmarked ms rows ≡ unmarked ns rows
  unmarked_alike {A} rows =
      filter_agree (λ (row : ℕ × A). not (is_marked ms row.0)) (λ (row : ℕ × A). not (is_marked ns row.0)) (λ row. ap not (same row.0)) (numbered rows)

  pub to_remove_alike : {A : Type 0} (class_of : A → List ℕ) (p : Policy) (name : LoginName) (rows : List A) → to_remove class_of p name ms rows ≡ to_remove class_of p name ns rows
  to_remove_alike {A} class_of p name rows =
      ap (λ (rs : List (ℕ × A)). filter (λ row. may_remove p name (class_of row)) (map (λ (row : ℕ × A). row.1) rs)) (marked_alike rows)

  pub denying_alike : {A : Type 0} (class_of : A → List ℕ) (p : Policy) (name : LoginName) (rows : List A) → denying class_of p name ms rows ≡ denying class_of p name ns rows
  denying_alike {A} class_of p name rows =
      ap (λ (rs : List (ℕ × A)). option_map (λ (row : ℕ × A). (removal p name (class_of row.1)).rule) (find (λ (row : ℕ × A). not (may_remove p name (class_of row.1))) rs)) (marked_alike rows)

  pick_alike : (rows : List store.Message) (n : ℕ) (f : store.Message → Reply) → pick ms rows n f ≡ pick ns rows n f
  pick_alike rows n f = ap (λ b. referred (at_number rows n) b NoSuchMessage (AlreadyMarked n) f) (same n)

module _ (p : Policy) (v : Transaction) (ns : List ℕ) (same : (n : ℕ) → is_marked v.marks n ≡ is_marked ns n) where
  abbrev relisted : Transaction
  relisted = record v { marks = ns }

  says_relisted : (command : Command) → session_says p v command ≡ session_says p relisted command
  says_relisted Stat = ap (λ rs. DropListing (length rs) (total_of octets_of rs)) (unmarked_alike v.marks ns same v.view)
  says_relisted ListAll = ap (λ rs. ScanListing (sizes_of octets_of rs)) (unmarked_alike v.marks ns same v.view)
  says_relisted (ListOne n) = pick_alike v.marks ns same v.view n _
  says_relisted UidlAll = ap (λ rs. UidListing (uids_of uid_of rs)) (unmarked_alike v.marks ns same v.view)
  says_relisted (UidlOne n) = pick_alike v.marks ns same v.view n _
  says_relisted (Retr n) = pick_alike v.marks ns same v.view n _
  says_relisted (Top n k) = pick_alike v.marks ns same v.view n _
  says_relisted (Dele n) = pick_alike v.marks ns same v.view n _
  says_relisted Quit = ap quit_says (denying_alike v.marks ns same class_of p v.name v.view)
  says_relisted _ = refl

  asks_relisted : (r : Result Command LineFault) → transaction_asks p v r ≡ transaction_asks p relisted r
  asks_relisted (Ok (Retr n)) = ap (λ b. is_readable p v.name (at_number v.view n) b) (same n)
  asks_relisted (Ok (Top n k)) = ap (λ b. is_readable p v.name (at_number v.view n) b) (same n)
  asks_relisted (Ok Quit) = ap (λ (rows : List store.Message). not (is_empty rows)) (to_remove_alike v.marks ns same class_of p v.name v.view)
  asks_relisted _ = refl

-- ---- the same state

-- two sessions that differ only in how marks are listed
pub record SameTransaction (v w : Transaction) : Type 0 where
  pub name : v.name ≡ w.name
  pub removals : v.removals ≡ w.removals
  pub view : v.view ≡ w.view
  pub marks : (n : ℕ) → is_marked v.marks n ≡ is_marked w.marks n

-- the same state, but for how marks are listed
abbrev pub SameState : LineState → LineState → Type 0
SameState (InAuthorization user login) (InAuthorization user' login') =
    (user ≡ user') × ((name : LoginName) (proof : Shown) → login name proof ≡ login' name proof)
SameState (InTransaction p v) (InTransaction q w) = (p ≡ q) × SameTransaction v w
SameState _ _ = ⊥

relisting : (v w : Transaction) → SameTransaction v w → record v { marks = w.marks } ≡ w
relisting v w a = let n = a.name in let j = a.removals in let rows = a.view in rw (n, j, rows) refl

says_alike : (p q : Policy) (v w : Transaction) → p ≡ q → SameTransaction v w → (command : Command) → session_says p v command ≡ session_says q w command
says_alike p q v w e a command =
    says_relisted p v w.marks a.marks command
    ∙ (ap (λ (u : Transaction). session_says p u command) (relisting v w a) ∙ ap (λ (rules : Policy). session_says rules w command) e)

asks_alike : (p q : Policy) (v w : Transaction) → p ≡ q → SameTransaction v w → (r : Result Command LineFault) → transaction_asks p v r ≡ transaction_asks q w r
asks_alike p q v w e a r =
    asks_relisted p v w.marks a.marks r
    ∙ (ap (λ (u : Transaction). transaction_asks p u r) (relisting v w a) ∙ ap (λ (rules : Policy). transaction_asks rules w r) e)

authorization_alike : (user user' : Option LoginName) (login login' : LoginName → Shown → Reply) → user ≡ user' → ((name : LoginName) (proof : Shown) → login name proof ≡ login' name proof)
    → (command : Command) → authorization_says user login command ≡ authorization_says user' login' command
authorization_alike user user' login login' e same (Pass password) =
    same (name_or_nobody user) (ByPass password) ∙ ap (λ (o : Option LoginName). login' (name_or_nobody o) (ByPass password)) e
authorization_alike user user' login login' e same (Apop name digest) = same name _
authorization_alike user user' login login' e same _ = refl

-- ---- the same replies

obeyed_alike : (s s' : LineState) → SameState s s' → (command : Command) → obeyed s command ≡ obeyed s' command
obeyed_alike (InAuthorization user login) (InAuthorization user' login') same command = authorization_alike user user' login login' same.0 same.1 command
obeyed_alike (InTransaction p v) (InTransaction q w) same command = says_alike p q v w same.0 same.1 command
obeyed_alike (InAuthorization user login) (InTransaction q w) same command = absurd same
obeyed_alike (InTransaction p v) (InAuthorization user' login') same command = absurd same

permitted_alike : (s s' : LineState) → SameState s s' → (k : Keyword) → is_permitted s k ≡ is_permitted s' k
permitted_alike (InAuthorization user login) (InAuthorization user' login') same k = ap (λ (o : Option LoginName). is_allowed k false (is_some o)) same.0
permitted_alike (InTransaction p v) (InTransaction q w) same k = refl
permitted_alike (InAuthorization user login) (InTransaction q w) same k = absurd same
permitted_alike (InTransaction p v) (InAuthorization user' login') same k = absurd same

command_alike : (s s' : LineState) → SameState s s' → (command : Command) (t : Tag) → reply_to_command s command t ≡ reply_to_command s' command t
command_alike s s' same command Failed = refl
command_alike s s' same command Done = obeyed_alike s s' same command
command_alike s s' same command NoMemory = obeyed_alike s s' same command

reading_alike : (s s' : LineState) → SameState s s' → (r : Result Command LineFault) (t : Tag) → reply_to_reading s r t ≡ reply_to_reading s' r t
reading_alike s s' same (Err Unknown) t = refl
reading_alike s s' same (Err (Syntax k)) t = ap (λ b. when_permitted b BadArguments) (permitted_alike s s' same k)
reading_alike s s' same (Ok command) t =
    ap (λ b. when_permitted b (reply_to_command s command t)) (permitted_alike s s' same (keyword_of command))
    ∙ ap (when_permitted (is_permitted s' (keyword_of command))) (command_alike s s' same command t)

-- a line gets the same reply
pub same_reply : (s s' : LineState) → SameState s s' → (x : Cut) (t : Tag) → reply_to s x t ≡ reply_to s' x t
same_reply s s' same TooLong t = refl
same_reply s s' same (cutting.Line l) t = reading_alike s s' same (command_of l) t

-- it asks the store or not
pub same_may_fail : (s s' : LineState) → SameState s s' → (r : Result Command LineFault) → may_fail s r ≡ may_fail s' r
same_may_fail (InAuthorization user login) (InAuthorization user' login') same r = ap (λ (o : Option LoginName). is_some (login_asked r o)) same.0
same_may_fail (InTransaction p v) (InTransaction q w) same r = asks_alike p q v w same.0 same.1 r
same_may_fail (InAuthorization user login) (InTransaction q w) same r = absurd same
same_may_fail (InTransaction p v) (InAuthorization user' login') same r = absurd same
