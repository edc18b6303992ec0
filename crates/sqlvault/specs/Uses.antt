-- What the sample callers keep in a store in memory, and what its calls answer them.
use Rattle.std.specs.Prelude.{◌≡◌, ◌≤◌, ℕ, true, List, [], ◌∷◌, length, take, Some, Ok}
use Rattle.vault.specs.declared.answer.ClerkKind.{ClerkKind}
use Rattle.vault.specs.declared.answer.Deposited.TheVariants.{New}
use Rattle.vault.specs.declared.answer.Head.{Head}
use Rattle.vault.specs.declared.answer.Total.{Total}
use Rattle.vault.specs.declared.fault.VaultFault.{VaultFault}
use Rattle.vault.specs.declared.record.Clerk.{Clerk}
use Rattle.vault.specs.declared.record.Keyed.{Keyed}
use Rattle.vault.specs.Changes.{Contents, IsPage, receipt_for, message_for}
use Rattle.vault.specs.Calls.{IsRefusal}
use Rattle.vault.specs.Clerks.{kind_of}
use Rattle.sqlvault.specs.declared.uses.Filled.{Filled}
use Rattle.sqlvault.specs.declared.uses.Mail.{Mail}
use Rattle.sqlvault.specs.declared.uses.Kept.{Kept}
use Rattle.sqlvault.specs.declared.uses.Seen.{Seen}
use Rattle.sqlvault.specs.declared.uses.Stock.{Stock}

-- the fault is one that any call may answer: memory was refused, or the store refused a statement
abbrev pub IsOfAnyCall : VaultFault → Type 0
IsOfAnyCall e = IsRefusal {A = Unit {0}} (Ok tt) e

-- the stock's clerk
abbrev pub clerk_of : Stock → Clerk
clerk_of s = record { name = s.clerk; credential = s.credential }

-- its message, which has the first number of its class, under a key
abbrev pub message_of : ℕ → Stock → Keyed
message_of key s = record { key = key; message = message_for s.maildrop s.class s.text 1 }

-- a store with the stock's clerk, maildrop, message, receipt and policy alone
abbrev pub filled : ℕ → Stock → Contents
filled key s = record {
  clerks = clerk_of s ∷ [];
  maildrops = s.maildrop ∷ [];
  messages = message_of key s ∷ [];
  deposits = receipt_for s.maildrop s.class s.id s.text 1 ∷ [];
  policy = s.policy;
}

-- a store in which its receipt and its policy alone are left
abbrev pub emptied : Stock → Contents
emptied s = record { clerks = []; maildrops = []; messages = []; deposits = receipt_for s.maildrop s.class s.id s.text 1 ∷ []; policy = s.policy }

-- ---- what the calls answer

-- the maildrop, the clerk and the deposit were new, and the deposit got number 1 of its class
pub record WasNew (s : Stock) (answers : Filled) : Type 0 where
  pub maildrop : answers.maildrop_is_new ≡ true
  pub clerk : answers.clerk_is_new ≡ true
  pub deposit : answers.deposited ≡ New (record { class = s.class; k = 1 })

-- the head of the stock's message
abbrev pub head_of : ℕ → Stock → Head
head_of key s = record { key = key; class = s.class; k = 1; octets = length s.text }

-- its maildrop's total, with one message
abbrev pub total_of : Stock → Total
total_of s = record { maildrop = s.maildrop; messages = 1; octets = length s.text }

-- the answers show one maildrop with one message and its octets, and the message's head; the front
-- of the buffer has its text from the front, as far as it was read
pub record ShowsMail (s : Stock) (buffer : List ℕ) (mail : Mail) : Type 0 where
  pub total : mail.totals.items ≡ total_of s ∷ []
  pub head : mail.heads.items ≡ head_of mail.key s ∷ []
  pub fits : mail.octets_read ≤ length buffer
  pub page : IsPage s.text 0 (length buffer) (take mail.octets_read buffer)

-- its clerk with the kind of the credential
abbrev pub kind_row : Stock → ClerkKind
kind_row s = record { clerk = s.clerk; kind = kind_of s.credential }

-- the clerk's credential, the only clerk and the policy are those of the stock
pub record ShowsKept (s : Stock) (answers : Kept) : Type 0 where
  pub found : answers.credential ≡ Some s.credential
  pub listed : answers.clerks.items ≡ kind_row s ∷ []
  pub set : answers.policy ≡ s.policy

-- all of the stock was new, it was shown as it was put, and no head was left after the message was
-- removed
pub record Saw (s : Stock) (buffer : List ℕ) (seen : Seen) : Type 0 where
  pub new : WasNew s seen.filled
  pub shown : ShowsMail s buffer seen.mail
  pub held : ShowsKept s seen.kept
  pub gone : seen.left.items ≡ []
