-- The outcomes of events that go to the vault, by its answer.
use Rattle.std.specs.Prelude.{ℕ, Bool, true, false, List, map, Option, Result, Ok, Err}
use Rattle.mailtext.specs.declared.kept.TextFault.{TextFault}
use Rattle.mailtext.specs.declared.kept.TextFault.TheVariants as text_fault
use Rattle.creds.specs.declared.uid.Uid.{Uid}
use Rattle.creds.specs.declared.credential.Credential.{Credential}
use Rattle.vault.specs.declared.answer.ClerkKind.{ClerkKind}
use Rattle.vault.specs.declared.answer.Deposited.{Deposited}
use Rattle.vault.specs.declared.answer.Deposited.TheVariants as stored
use Rattle.vault.specs.declared.answer.Head.{Head}
use Rattle.vault.specs.declared.answer.Total.{Total}
use Rattle.vault.specs.declared.fault.VaultFault.{VaultFault}
use Rattle.vault.specs.declared.fault.VaultFault.TheVariants as fault
use Rattle.office.specs.Answers as answer
use Rattle.office.specs.Answers.{Answer}
use Rattle.office.specs.Told.{kind_of}
use Rattle.office.specs.Outcomes.{Outcome, Failed, NoMemory, Answered}

-- the vault failed: want of memory, or Failed
abbrev pub refused : VaultFault → Outcome
refused fault.NoMemory = NoMemory
refused _ = Failed

-- a text that isn't kept
abbrev pub not_kept : TextFault → Outcome
not_kept text_fault.Empty = Answered answer.EmptyText
not_kept text_fault.TooLarge = Answered answer.TextTooLarge
not_kept text_fault.NoMemory = NoMemory

-- a deposit
abbrev pub deposited : Result Deposited VaultFault → Outcome
deposited (Ok (stored.New uid)) = Answered (answer.New uid)
deposited (Ok (stored.Known uid)) = Answered (answer.Known uid)
deposited (Err fault.NoMaildrop) = Answered answer.NoSuchMaildrop
deposited (Err fault.Conflict) = Answered answer.Conflict
deposited (Err fault.Full) = Answered answer.Full
deposited (Err e) = refused e

-- a list of the maildrops
abbrev pub listed : Result (List Total) VaultFault → Outcome
listed (Ok totals) = Answered (answer.Maildrops totals)
listed (Err e) = refused e

-- a list of the clerks
abbrev pub clerks_listed : Result (List ClerkKind) VaultFault → Outcome
clerks_listed (Ok rows) = Answered (answer.Clerks rows)
clerks_listed (Err e) = refused e

-- a head's unique-id and octets
abbrev pub row_of_head : Head → Uid × ℕ
row_of_head head = (record { class = head.class; k = head.k }, head.octets)

-- the look at a maildrop
abbrev pub maildrop_shown : Result (List Head) VaultFault → Outcome
maildrop_shown (Ok heads) = Answered (answer.Messages (map row_of_head heads))
maildrop_shown (Err fault.NoMaildrop) = Answered answer.NoSuchMaildrop
maildrop_shown (Err e) = refused e

-- a name that was put; `there_already` answers one that was there
abbrev pub put : (there_already : Answer) → Result Bool VaultFault → Outcome
put there_already (Ok true) = Answered answer.Added
put there_already (Ok false) = Answered there_already
put there_already (Err fault.Full) = Answered answer.Full
put there_already (Err e) = refused e

-- the dropping of a maildrop
abbrev pub maildrop_dropped : Result (Unit {0}) VaultFault → Outcome
maildrop_dropped (Ok done) = Answered answer.Dropped
maildrop_dropped (Err fault.NoMaildrop) = Answered answer.NoSuchMaildrop
maildrop_dropped (Err fault.NotEmpty) = Answered answer.NotEmpty
maildrop_dropped (Err e) = refused e

-- the dropping of a clerk
abbrev pub clerk_dropped : Result (Unit {0}) VaultFault → Outcome
clerk_dropped (Ok done) = Answered answer.Dropped
clerk_dropped (Err fault.NoClerk) = Answered answer.NoSuchClerk
clerk_dropped (Err e) = refused e

-- the look at a clerk
abbrev pub credential_told : Result (Option Credential) VaultFault → Outcome
credential_told (Ok credential) = Answered (kind_of credential)
credential_told (Err e) = refused e

-- the setting of a policy of so many rules
abbrev pub policy_set : ℕ → Result (Unit {0}) VaultFault → Outcome
policy_set rules (Ok done) = Answered (answer.RuleCount rules)
policy_set rules (Err e) = refused e
