-- What an office did, as a list of acts, and what is in force by it: the policy, the clerks, the
-- maildrops, and what arrived. Histories are newest first; an entry's tail, its front, is the
-- history before it.
use Rattle.std.specs.Prelude.{ℕ, Bool, true, false, List, [], ◌∷◌, ◌++◌, Option}
use Rattle.mailtext.specs.Text.{kept_form}
use Rattle.creds.specs.declared.credential.Credential.{Credential}
use Rattle.popline.specs.Cutting.{Cut}
use Rattle.popline.specs.Replies.{Reply}
use Rattle.policy.specs.Policy.{Policy}
use Rattle.vault.specs.Records.{Records, in_maildrop, receipts_of, credential_in, is_one_of}
use Rattle.vault.specs.declared.record.Clerk.{Clerk}
use Rattle.vault.specs.declared.record.Receipt.{Receipt}
use Rattle.vault.specs.Changes.{with_clerk, without_clerk, with_maildrop, without_maildrop}
use Rattle.vault.specs.Changes.{message_for, receipt_for}
use Rattle.session.specs.declared.removals.Removals.{Removals}
use Rattle.office.specs.Answers.{AdminCommand, AddMaildrop, DropMaildrop, PutClerk, DropClerk}
use Rattle.office.specs.Answers.{SetPolicy, Answer, New, Added, Dropped, Replaced}
use Rattle.vault.specs.declared.record.Message as store

-- the acts; Idle and Gone end a connection from outside
pub data Act : Type 0 where
  Open : ℕ → Act
  Line : ℕ → Cut → Act
  Gone : ℕ → Act
  Idle : ℕ → Act
  Deposit : (maildrop class id text : List ℕ) → Act
  Administer : AdminCommand → Act
  Restart : (boot : ℕ) (host : List ℕ) (removals : Removals) → Act

-- how an act went; one that a reply refuses is Done too
pub data Tag : Type 0 where
  Done : Tag
  Failed : Tag
  NoMemory : Tag

-- an act that was done
abbrev pub is_done : Tag → Bool
is_done Done = true
is_done _ = false

-- an act that met want of memory
abbrev pub is_no_memory : Tag → Bool
is_no_memory NoMemory = true
is_no_memory _ = false

-- what was said to an act: a reply, an answer, or nothing
pub data Said : Type 0 where
  Silence : Said
  Says : Reply → Said
  Answers : Answer → Said

-- an act, its tag and what was said to it
pub record Entry : Type 0 where
  pub act : Act
  pub tag : Tag
  pub said : Said

-- Each fact below is a recursion over the history: its value after an entry, by the entry and the
-- value before.

-- ---- in force

-- the policy in force after an act: one that was set replaces it
abbrev pub policy_after : Act → Tag → Policy → Policy
policy_after (Administer (SetPolicy policy)) Done before = policy
policy_after _ _ before = before

-- the policy in force
abbrev pub in_force : Records → List Entry → Policy
in_force B [] = B.policy
in_force B (e ∷ G) = policy_after e.act e.tag (in_force B G)

-- the clerks with their credentials
abbrev pub clerks_after : Act → Said → List Clerk → List Clerk
clerks_after (Administer (PutClerk name given)) (Answers Added) before =
    with_clerk name given before
clerks_after (Administer (PutClerk name given)) (Answers Replaced) before =
    with_clerk name given before
clerks_after (Administer (DropClerk name)) (Answers Dropped) before = without_clerk name before
clerks_after _ _ before = before

-- the clerks at the end of a history
abbrev pub clerks : Records → List Entry → List Clerk
clerks B [] = B.clerks
clerks B (e ∷ G) = clerks_after e.act e.said (clerks B G)

-- a clerk's credential, if the clerk is known
abbrev pub credential : Records → List Entry → List ℕ → Option Credential
credential B G clerk = credential_in clerk (clerks B G)

-- the maildrops that are there
abbrev pub maildrops_after : Act → Said → List (List ℕ) → List (List ℕ)
maildrops_after (Administer (AddMaildrop name)) (Answers Added) before = with_maildrop name before
maildrops_after (Administer (DropMaildrop name)) (Answers Dropped) before =
    without_maildrop name before
maildrops_after _ _ before = before

-- the names of the maildrops at the end of a history
abbrev pub maildrops : Records → List Entry → List (List ℕ)
maildrops B [] = B.maildrops
maildrops B (e ∷ G) = maildrops_after e.act e.said (maildrops B G)

-- a maildrop of this name is there
abbrev pub exists : Records → List Entry → List ℕ → Bool
exists B G d = is_one_of d (maildrops B G)

-- ---- arrivals

-- the messages that ever arrived, after an act
abbrev pub arrivals_after : Act → Said → List store.Message → List store.Message
arrivals_after (Deposit d class id text) (Answers (New uid)) before =
    before ++ message_for d class (kept_form text) uid.k ∷ []
arrivals_after _ _ before = before

-- the base's messages, and after them those of the new deposits
abbrev pub arrivals : Records → List Entry → List store.Message
arrivals B [] = B.messages
arrivals B (e ∷ G) = arrivals_after e.act e.said (arrivals B G)

-- those that arrived in a maildrop
abbrev pub arrived : Records → List Entry → List ℕ → List store.Message
arrived B G d = in_maildrop d (arrivals B G)

-- the deposits that were ever accepted, after an act
abbrev pub receipts_after : Act → Said → List Receipt → List Receipt
receipts_after (Deposit d class id text) (Answers (New uid)) before =
    before ++ receipt_for d class id (kept_form text) uid.k ∷ []
receipts_after _ _ before = before

-- the base's deposits, and after them the new ones
abbrev pub receipts : Records → List Entry → List Receipt
receipts B [] = B.deposits
receipts B (e ∷ G) = receipts_after e.act e.said (receipts B G)

-- the deposits into a maildrop's name
abbrev pub deposits : Records → List Entry → List ℕ → List Receipt
deposits B G d = receipts_of d (receipts B G)
