-- What the sound rows of each table say of the contents, and what a check of them answers.
use Rattle.std.specs.Prelude.{◌≡◌, ◌≤◌, ◌==◌, ◌&&◌, ℕ, Bool, true, false, pos, nat_lt, List, [], length, map, flat_map}
use Rattle.std.specs.List.{list_all}
use Rattle.std.specs.List.Sorted.{IsPermutation}
use Rattle.std.specs.Str.{bytes_eq}
use Rattle.creds.specs.Names.{is_name}
use Rattle.policy.specs.Policy.{Group, Policy, is_sound_policy, are_distinct}
use Rattle.vault.specs.declared.record.Clerk.{Clerk}
use Rattle.vault.specs.declared.record.Keyed.{Keyed}
use Rattle.vault.specs.declared.record.Message.{Message}
use Rattle.vault.specs.declared.record.Receipt.{Receipt}
use Rattle.vault.specs.Records.{Records, most_clerks, most_maildrops, most_messages, receipts_of, class_count, in_maildrop, same_message, same_id, same_uid, is_sound_clerk, is_sound_message, is_sound_receipt}
use Rattle.mailsql.specs.Columns.{Rows}
use Rattle.sqlvault.specs.Keeps.{clerk_row, deposit_row, count_in, message_row, message_sheets, groups_in, rule_row, at_place}

-- A check answers true if some x has P, and false if none has.
abbrev pub Finds : {X : Type 0} → (X → Type 0) → Bool → Type 0
Finds {X} P true = (x : X) × P x
Finds {X} P false = (x : X) → P x → ⊥

-- the clerks of the rows
pub record ClerksAre (rows : Rows) (clerks : List Clerk) : Type 0 where
  pub same : IsPermutation (map clerk_row clerks) rows.clerks
  pub sound : list_all is_sound_clerk clerks ≡ true
  pub apart : are_distinct (λ (c e : Clerk). bytes_eq c.name e.name) clerks ≡ true
  pub fit : length clerks ≤ most_clerks

-- the maildrops of the rows
pub record MaildropsAre (rows : Rows) (maildrops : List (List ℕ)) : Type 0 where
  pub same : rows.maildrops ≡ maildrops
  pub sound : list_all is_name maildrops ≡ true
  pub apart : are_distinct bytes_eq maildrops ≡ true
  pub fit : length maildrops ≤ most_maildrops

-- a group's name and its members' names have their form
abbrev pub is_named_group : Group → Bool
is_named_group g = is_name g.name && list_all is_name g.members

-- the groups of the rows, whose names have their form
pub record GroupsAre (rows : Rows) (groups : List Group) : Type 0 where
  pub same : groups_in rows ≡ groups
  pub named : list_all is_named_group groups ≡ true

-- the policy of the rows
pub record PolicyIs (rows : Rows) (policy : Policy) : Type 0 where
  pub groups : groups_in rows ≡ policy.groups
  pub same : map (at_place (pos 0)) rows.rules ≡ map (rule_row (pos 0)) policy.rules
  pub sound : is_sound_policy policy ≡ true

-- records of maildrops and deposits alone
abbrev pub records_with : List (List ℕ) → List Receipt → Records
records_with maildrops deposits = record { clerks = []; maildrops = maildrops; messages = []; deposits = deposits; policy = record { groups = []; rules = [] } }

-- the deposits of the rows, with their counts
pub record DepositsAre (rows : Rows) (deposits : List Receipt) : Type 0 where
  pub same : rows.deposits ≡ map deposit_row deposits
  pub counts : (d class : List ℕ) → count_in d class rows.counts ≡ pos (class_count class (receipts_of d deposits))
  pub sound : list_all (is_sound_receipt (records_with [] deposits)) deposits ≡ true
  pub ids_apart : are_distinct same_id deposits ≡ true
  pub uids_apart : are_distinct same_uid deposits ≡ true

-- the messages without their keys
abbrev pub messages_of : List Keyed → List Message
messages_of ms = map (λ (x : Keyed). x.message) ms

-- the messages of the rows, given the deposits
pub record MessagesAre (rows : Rows) (deposits : List Receipt) (messages : List Keyed) : Type 0 where
  pub same : rows.messages ≡ map message_row messages
  pub sheets : IsPermutation (flat_map message_sheets messages) rows.sheets
  pub keys : list_all (λ (x : Keyed). nat_lt x.key 18446744073709551616) messages ≡ true
  pub sound : list_all (is_sound_message (records_with rows.maildrops deposits)) (messages_of messages) ≡ true
  pub apart : are_distinct same_message (messages_of messages) ≡ true
  pub keys_apart : are_distinct (λ (x y : Keyed). x.key == y.key) messages ≡ true
  pub fit : (d : List ℕ) → length (in_maildrop d (messages_of messages)) ≤ most_messages
