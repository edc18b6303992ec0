-- The texts of the statements; ?1 is the first parameter.
use Rattle.std.specs.Prelude.{ℕ, List, codes}

-- ---- the transaction

-- begins the transaction
abbrev pub begin_text : List ℕ
begin_text = codes "BEGIN"

-- commits the transaction
abbrev pub commit_text : List ℕ
commit_text = codes "COMMIT"

-- rolls the transaction back
abbrev pub rollback_text : List ℕ
rollback_text = codes "ROLLBACK"

-- ---- meta

-- adds a row of `meta`
abbrev pub add_meta_row_text : List ℕ
add_meta_row_text = codes "INSERT INTO meta (name, value) VALUES (?1, ?2)"

-- drops the row of `meta` of a name
abbrev pub drop_meta_row_text : List ℕ
drop_meta_row_text = codes "DELETE FROM meta WHERE name = ?1"

-- reads the row of `meta` of a name
abbrev pub find_meta_row_text : List ℕ
find_meta_row_text = codes "SELECT name, value FROM meta WHERE name = ?1 ORDER BY rowid"

-- reads every row of `meta`
abbrev pub all_meta_rows_text : List ℕ
all_meta_rows_text = codes "SELECT name, value FROM meta ORDER BY rowid"

-- ---- clerks

-- adds a clerk
abbrev pub add_clerk_text : List ℕ
add_clerk_text = codes "INSERT INTO clerks (name, kind, secret) VALUES (?1, ?2, ?3)"

-- drops the clerk of a name
abbrev pub drop_clerk_text : List ℕ
drop_clerk_text = codes "DELETE FROM clerks WHERE name = ?1"

-- reads the clerk of a name
abbrev pub find_clerk_text : List ℕ
find_clerk_text = codes "SELECT name, kind, secret FROM clerks WHERE name = ?1 ORDER BY rowid"

-- reads every clerk
abbrev pub all_clerks_text : List ℕ
all_clerks_text = codes "SELECT name, kind, secret FROM clerks ORDER BY rowid"

-- reads how many clerks there are
abbrev pub clerk_count_text : List ℕ
clerk_count_text = codes "SELECT count(*) FROM clerks"

-- ---- maildrops

-- adds a name
abbrev pub add_maildrop_text : List ℕ
add_maildrop_text = codes "INSERT INTO maildrops (name) VALUES (?1)"

-- drops a name
abbrev pub drop_maildrop_text : List ℕ
drop_maildrop_text = codes "DELETE FROM maildrops WHERE name = ?1"

-- reads the name, if it is there
abbrev pub find_maildrop_text : List ℕ
find_maildrop_text = codes "SELECT name FROM maildrops WHERE name = ?1"

-- reads every name
abbrev pub all_maildrops_text : List ℕ
all_maildrops_text = codes "SELECT name FROM maildrops ORDER BY rowid"

-- reads how many names there are
abbrev pub maildrop_count_text : List ℕ
maildrop_count_text = codes "SELECT count(*) FROM maildrops"

-- ---- counts

-- adds a count
abbrev pub add_count_text : List ℕ
add_count_text = codes "INSERT INTO counts (maildrop, class, k) VALUES (?1, ?2, ?3)"

-- drops the count of a class
abbrev pub clear_count_text : List ℕ
clear_count_text = codes "DELETE FROM counts WHERE maildrop = ?1 AND class = ?2"

-- reads the count of a class
abbrev pub find_count_text : List ℕ
find_count_text = codes "SELECT maildrop, class, k FROM counts WHERE maildrop = ?1 AND class = ?2 ORDER BY rowid"

-- reads every count
abbrev pub all_counts_text : List ℕ
all_counts_text = codes "SELECT maildrop, class, k FROM counts ORDER BY rowid"

-- ---- deposits

-- adds a deposit
abbrev pub add_deposit_text : List ℕ
add_deposit_text = codes "INSERT INTO deposits (maildrop, id, class, k, digest) VALUES (?1, ?2, ?3, ?4, ?5)"

-- reads the deposit of an id
abbrev pub find_deposit_text : List ℕ
find_deposit_text = codes "SELECT maildrop, id, class, k, digest FROM deposits WHERE maildrop = ?1 AND id = ?2 ORDER BY rowid"

-- reads every deposit
abbrev pub all_deposits_text : List ℕ
all_deposits_text = codes "SELECT maildrop, id, class, k, digest FROM deposits ORDER BY rowid"

-- ---- mail

-- adds a message
abbrev pub add_message_text : List ℕ
add_message_text = codes "INSERT INTO mail (maildrop, class, k, octets) VALUES (?1, ?2, ?3, ?4)"

-- adds a message under a given key
abbrev pub add_keyed_text : List ℕ
add_keyed_text = codes "INSERT INTO mail (key, maildrop, class, k, octets) VALUES (?1, ?2, ?3, ?4, ?5)"

-- drops a message of a maildrop
abbrev pub remove_message_text : List ℕ
remove_message_text = codes "DELETE FROM mail WHERE key = ?1 AND maildrop = ?2"

-- reads the messages of a maildrop
abbrev pub heads_text : List ℕ
heads_text = codes "SELECT key, maildrop, class, k, octets FROM mail WHERE maildrop = ?1 ORDER BY key"

-- reads every message
abbrev pub all_messages_text : List ℕ
all_messages_text = codes "SELECT key, maildrop, class, k, octets FROM mail ORDER BY key"

-- reads how many messages a maildrop has
abbrev pub message_count_text : List ℕ
message_count_text = codes "SELECT count(*) FROM mail WHERE maildrop = ?1"

-- ---- sheets

-- adds a sheet
abbrev pub add_sheet_text : List ℕ
add_sheet_text = codes "INSERT INTO sheets (mail, place, octets) VALUES (?1, ?2, ?3)"

-- reads the sheet of a message at a place
abbrev pub find_sheet_text : List ℕ
find_sheet_text = codes "SELECT mail, place, octets FROM sheets WHERE mail = ?1 AND place = ?2 ORDER BY rowid"

-- reads the sheets of a message from a place on, up to another
abbrev pub sheets_between_text : List ℕ
sheets_between_text =
    codes "SELECT mail, place, octets FROM sheets WHERE mail = ?1 AND place >= ?2 AND place < ?3 ORDER BY rowid"

-- reads how many sheets there are
abbrev pub sheet_count_text : List ℕ
sheet_count_text = codes "SELECT count(*) FROM sheets"

-- ---- rules

-- adds a rule
abbrev pub add_rule_text : List ℕ
add_rule_text = codes "INSERT INTO rules (name, effect, clerk, maildrop, class, actions) VALUES (?1, ?2, ?3, ?4, ?5, ?6)"

-- drops every rule
abbrev pub clear_rules_text : List ℕ
clear_rules_text = codes "DELETE FROM rules"

-- reads every rule
abbrev pub all_rules_text : List ℕ
all_rules_text = codes "SELECT place, name, effect, clerk, maildrop, class, actions FROM rules ORDER BY place"

-- ---- groups

-- adds a group
abbrev pub add_group_text : List ℕ
add_group_text = codes "INSERT INTO groups (name) VALUES (?1)"

-- drops every group
abbrev pub clear_groups_text : List ℕ
clear_groups_text = codes "DELETE FROM groups"

-- reads every group
abbrev pub all_groups_text : List ℕ
all_groups_text = codes "SELECT place, name FROM groups ORDER BY place"

-- ---- members

-- adds a member
abbrev pub add_member_text : List ℕ
add_member_text = codes "INSERT INTO members (grp, place, clerk) VALUES (?1, ?2, ?3)"

-- reads the members of a group, in order
abbrev pub members_text : List ℕ
members_text = codes "SELECT grp, place, clerk FROM members WHERE grp = ?1 ORDER BY place"

-- reads every member
abbrev pub all_members_text : List ℕ
all_members_text = codes "SELECT grp, place, clerk FROM members ORDER BY rowid"

-- ---- messages, the table of version 1

-- reads every message, without its body
abbrev pub old_messages_text : List ℕ
old_messages_text = codes "SELECT key, maildrop, class, k, octets FROM messages ORDER BY key"

-- reads a message with its body
abbrev pub find_body_text : List ℕ
find_body_text = codes "SELECT key, maildrop, class, k, octets, body FROM messages WHERE key = ?1 ORDER BY key"

-- drops every message
abbrev pub clear_bodies_text : List ℕ
clear_bodies_text = codes "DELETE FROM messages"
