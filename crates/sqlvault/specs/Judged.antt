-- What a judgement of a store's rows answers: that they are contents, or the part that isn't sound.
use Rattle.std.specs.Prelude.{true, false, List, Option, Some, None}
use Rattle.vault.specs.declared.record.Keyed.{Keyed}
use Rattle.vault.specs.declared.record.Receipt.{Receipt}
use Rattle.vault.specs.Changes.{Contents}
use Rattle.mailsql.specs.Columns.{Rows}
use Rattle.sqlvault.specs.declared.part.Part.{Part}
use Rattle.sqlvault.specs.declared.part.Part.TheVariants.{Clerks, Maildrops, Groups, Rules}
use Rattle.sqlvault.specs.declared.part.Part.TheVariants.{Deposits, Messages}
use Rattle.sqlvault.specs.Keeps.{Keeps}
use Rattle.sqlvault.specs.Parts.{Finds, ClerksAre, MaildropsAre, GroupsAre, PolicyIs}
use Rattle.sqlvault.specs.Parts.{DepositsAre, MessagesAre}

-- the deposits and the messages of the rows
abbrev pub MailIs : Rows → List Receipt × List Keyed → Type 0
MailIs rows mail = DepositsAre rows mail.0 × MessagesAre rows mail.0 mail.1

-- the rows of this part are no sound records, and those of each part before it are
abbrev pub IsFirstUnsound : Rows → Part → Type 0
IsFirstUnsound rows Clerks = Finds (ClerksAre rows) false
IsFirstUnsound rows Maildrops = Finds (ClerksAre rows) true × Finds (MaildropsAre rows) false
IsFirstUnsound rows Groups =
    Finds (ClerksAre rows) true × Finds (MaildropsAre rows) true × Finds (GroupsAre rows) false
IsFirstUnsound rows Rules =
    Finds (ClerksAre rows) true × Finds (MaildropsAre rows) true × Finds (GroupsAre rows) true
    × Finds (PolicyIs rows) false
IsFirstUnsound rows Deposits =
    Finds (ClerksAre rows) true × Finds (MaildropsAre rows) true × Finds (PolicyIs rows) true
    × Finds (DepositsAre rows) false
IsFirstUnsound rows Messages =
    Finds (ClerksAre rows) true × Finds (MaildropsAre rows) true × Finds (PolicyIs rows) true
    × Finds (DepositsAre rows) true × Finds (MailIs rows) false

-- the groups and the rules are a policy, or this part of them is the first that isn't sound
abbrev pub JudgesPolicy : Rows → Option Part → Type 0
JudgesPolicy rows None = Finds (PolicyIs rows) true
JudgesPolicy rows (Some Groups) = Finds (GroupsAre rows) false
JudgesPolicy rows (Some Rules) = Finds (GroupsAre rows) true × Finds (PolicyIs rows) false
JudgesPolicy rows (Some _) = ⊥

-- the rows are some contents, or they are none, and this part is the first that isn't sound
abbrev pub IsJudged : Rows → Option Part → Type 0
IsJudged rows None = (c : Contents) × Keeps rows c
IsJudged rows (Some part) = ((c : Contents) → Keeps rows c → ⊥) × IsFirstUnsound rows part
