-- How the rows of a store's tables stand for the contents of a vault. Each record has one row, and
-- a message's key is AUTOINCREMENT's. A text lies in sheets, and a count is the number of deposits
-- that its class had.
use Rattle.std.specs.Prelude.{◌≡◌, ◌+ℤ◌, ℕ, ℤ, pos, true, nat_lt, List, [], ◌∷◌, ◌++◌, length, map, flat_map, filter, Option, Some, None, codes, if◌then◌else◌}
use Rattle.std.specs.Int.{cast_signed, w64}
use Rattle.std.specs.List.{find, list_all}
use Rattle.std.specs.List.Sorted.{IsPermutation}
use Rattle.creds.specs.declared.credential.Credential.{Credential}
use Rattle.creds.specs.declared.credential.Credential.TheVariants as kept
use Rattle.policy.specs.declared.rule.Actions.{Actions}
use Rattle.policy.specs.declared.rule.Clerks.{Clerks}
use Rattle.policy.specs.declared.rule.Clerks.TheVariants as clerks
use Rattle.policy.specs.declared.rule.Effect.{Effect}
use Rattle.policy.specs.declared.rule.Effect.TheVariants.{Allow, Deny}
use Rattle.policy.specs.declared.rule.Pattern.{Pattern}
use Rattle.policy.specs.declared.rule.Pattern.TheVariants.{Any, Is}
use Rattle.policy.specs.declared.rule.Rule as policy
use Rattle.policy.specs.Policy as groups
use Rattle.vault.specs.declared.record.Clerk as vault
use Rattle.vault.specs.declared.record.Keyed.{Keyed}
use Rattle.vault.specs.declared.record.Receipt.{Receipt}
use Rattle.vault.specs.Records.{receipts_of, class_count}
use Rattle.vault.specs.Changes.{Contents, AreSound}
use Rattle.mailsql.specs.declared.rows.MetaRow.{MetaRow}
use Rattle.mailsql.specs.declared.rows.Clerk.{Clerk}
use Rattle.mailsql.specs.declared.rows.Count.{Count}
use Rattle.mailsql.specs.declared.rows.Deposit.{Deposit}
use Rattle.mailsql.specs.declared.rows.Message.{Message}
use Rattle.mailsql.specs.declared.rows.Sheet.{Sheet}
use Rattle.mailsql.specs.declared.rows.Rule.{Rule}
use Rattle.mailsql.specs.declared.rows.Group.{Group}
use Rattle.mailsql.specs.declared.rows.Member.{Member}
use Rattle.mailsql.specs.Columns.{Name, Rows}
use Rattle.mailsql.specs.Rows.{is_count, is_member_of}
use Rattle.mailsql.specs.Sheets.{sheets_of}

-- the version of the tables' layout
abbrev pub version : ℤ
version = pos 3

-- the version row of a store of ours
abbrev pub our_meta_row : MetaRow
our_meta_row = record { name = codes "popbox"; value = version }

-- ---- clerks

-- the kind of a credential: an APOP secret, or the digest of a password
abbrev pub kind_of : Credential → ℤ
kind_of (kept.Apop secret) = pos 1
kind_of (kept.Pass digest) = pos 2

-- the octets that are kept of it
abbrev pub secret_of : Credential → List ℕ
secret_of (kept.Apop secret) = secret
secret_of (kept.Pass digest) = digest

-- the row of a clerk
abbrev pub clerk_row : vault.Clerk → Clerk
clerk_row c = record { name = c.name; kind = kind_of c.credential; secret = secret_of c.credential }

-- ---- deposits

-- the row of a deposit
abbrev pub deposit_row : Receipt → Deposit
deposit_row r = record { maildrop = r.maildrop; id = r.id; class = r.class; k = pos r.k; digest = r.digest }

-- the number of a count; 0 if there is none
abbrev pub number_in : Option Count → ℤ
number_in None = pos 0
number_in (Some c) = c.k

-- how many deposits of a class there were under a maildrop's name, by the counts
abbrev pub count_in : (maildrop class : Name) → List Count → ℤ
count_in d class counts = number_in (find (is_count d class) counts)

-- ---- messages

-- a key of 64 bits, as the signed number that a row holds
abbrev pub row_key : ℕ → ℤ
row_key key = cast_signed w64 key

-- the row of a message
abbrev pub message_row : Keyed → Message
message_row x = record { key = row_key x.key; maildrop = x.message.maildrop; class = x.message.class; k = pos x.message.k; octets = pos (length x.message.text) }

-- its sheets
abbrev pub message_sheets : Keyed → List Sheet
message_sheets x = sheets_of (row_key x.key) x.message.text

-- ---- groups

-- the names of a group's members, in the order of their rows
abbrev pub member_names : (group : ℤ) → List Member → List Name
member_names group members = map (λ (m : Member). m.clerk) (filter (is_member_of group) members)

-- the group of a row
abbrev pub group_in : List Member → Group → groups.Group
group_in members g = record { name = g.name; members = member_names g.place members }

-- the groups of the rows, in order
abbrev pub groups_in : Rows → List groups.Group
groups_in rows = map (group_in rows.members) rows.groups

-- ---- rules

-- the number of an effect
abbrev pub effect_number : Effect → ℤ
effect_number Allow = pos 1
effect_number Deny = pos 0

-- the text of a pattern
abbrev pub pattern_text : Pattern → List ℕ
pattern_text Any = codes "*"
pattern_text (Is name) = name

-- the text of the clerks that a rule is about
abbrev pub clerks_text : Clerks → List ℕ
clerks_text clerks.Any = codes "*"
clerks_text (clerks.Is name) = name
clerks_text (clerks.MembersOf name) = codes "@" ++ name

-- 1 for open, 2 for read and 4 for remove, added up
abbrev pub actions_number : Actions → ℤ
actions_number a = (if a.open then pos 1 else pos 0) +ℤ ((if a.read then pos 2 else pos 0) +ℤ (if a.remove then pos 4 else pos 0))

-- the row of a rule, at a place
abbrev pub rule_row : ℤ → policy.Rule → Rule
rule_row place r = record {
  place = place;
  name = r.name;
  effect = effect_number r.effect;
  clerk = clerks_text r.clerk;
  maildrop = pattern_text r.maildrop;
  class = pattern_text r.class;
  actions = actions_number r.actions;
}

-- a rule's row at another place
abbrev pub at_place : ℤ → Rule → Rule
at_place place r = record r { place = place }

-- ---- the contents

-- The rows stand for these contents, which are sound. Clerks, counts and sheets may be in any
-- order; groups and rules may have any places that give their order.
pub record Keeps (rows : Rows) (c : Contents) : Type 0 where
  pub meta_row : rows.meta_rows ≡ our_meta_row ∷ []
  pub clerks : IsPermutation (map clerk_row c.clerks) rows.clerks
  pub maildrops : rows.maildrops ≡ c.maildrops
  pub counts : (d class : List ℕ) → count_in d class rows.counts ≡ pos (class_count class (receipts_of d c.deposits))
  pub deposits : rows.deposits ≡ map deposit_row c.deposits
  pub messages : rows.messages ≡ map message_row c.messages
  pub sheets : IsPermutation (flat_map message_sheets c.messages) rows.sheets
  pub groups : groups_in rows ≡ c.policy.groups
  pub rules : map (at_place (pos 0)) rows.rules ≡ map (rule_row (pos 0)) c.policy.rules
  pub keys : list_all (λ (x : Keyed). nat_lt x.key 18446744073709551616) c.messages ≡ true
  pub sound : AreSound c
