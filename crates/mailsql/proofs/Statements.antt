-- The commands and queries that the texts of the statements stand for.
use Rattle.std.specs.Prelude.{ℕ, List, [], ◌∷◌, Bool, false, Some, None, codes, pos, negsuc}
use Rattle.sqlite_value.specs.declared.keys.Collation.TheVariants.{Binary}
use Rattle.sqlite_value.specs.declared.keys.Key.{Key}
use Rattle.sqlite_value.specs.declared.value.Value.TheVariants.{Null, Int}
use Rattle.sqlite_value.specs.Keys.{ascending}
use Rattle.sqlite_sql.specs.declared.ops.BinaryOp.TheVariants.{Compare}
use Rattle.sqlite_sql.specs.declared.ops.CompareOp.TheVariants.{Eq, Ge, Lt}
use Rattle.sqlite_sql.specs.declared.aggregate.AggregateOp.TheVariants as aggregate
use Rattle.sqlite_sql.specs.Term.{Term, lit, col, op2}
use Rattle.sqlite_sql.specs.Group.{Grouping}
use Rattle.sqlite_sql.specs.Query.{Query, Join, inner, end}
use Rattle.sqlite_schema.specs.declared.command.Command.{Command}
use Rattle.sqlite_schema.specs.declared.command.Command.TheVariants.{Select, Insert}
use Rattle.sqlite_schema.specs.declared.command.Source.TheVariants.{Values}
use Rattle.mailsql.specs.Tables.{mail_tree, mail_place}
pub use Rattle.mailsql.specs.Statements.{add_meta_row_text, drop_meta_row_text, find_meta_row_text, all_meta_rows_text, add_clerk_text, drop_clerk_text, find_clerk_text}
pub use Rattle.mailsql.specs.Statements.{all_clerks_text, clerk_count_text, add_maildrop_text, drop_maildrop_text, find_maildrop_text, all_maildrops_text, maildrop_count_text}
pub use Rattle.mailsql.specs.Statements.{add_count_text, clear_count_text, find_count_text, all_counts_text, add_deposit_text, find_deposit_text, all_deposits_text}
pub use Rattle.mailsql.specs.Statements.{add_message_text, add_keyed_text, remove_message_text, heads_text, all_messages_text, message_count_text, add_sheet_text, find_sheet_text}
pub use Rattle.mailsql.specs.Statements.{sheets_between_text, sheet_count_text, add_rule_text, clear_rules_text, all_rules_text, add_group_text, clear_groups_text, all_groups_text}
pub use Rattle.mailsql.specs.Statements.{add_member_text, members_text, all_members_text, old_messages_text, find_body_text, clear_bodies_text}

abbrev pub query_of : Join → List Term → List Term → List (Term × Key) → Query
query_of from filter project order = record {
  from = from;
  filter = filter;
  group = None;
  project = project;
  distinct = false;
  collations = [];
  order = order;
  limit = lit (Int (negsuc 0));
  offset = lit (Int (pos 0));
}

abbrev pub select_of : Query → List (List ℕ) → Command
select_of q names = Select (record { lets = []; body = q }) names

abbrev pub eq : Term → Term → Term
eq = op2 (Compare Eq Binary)

-- ORDER BY rowid, or by the column that stands for it
abbrev pub by_rowid : List (Term × Key)
by_rowid = (col 1 0, ascending Binary) ∷ []

-- ---- meta

abbrev pub meta_row_columns : List Term
meta_row_columns = col 1 1 ∷ col 1 2 ∷ []

abbrev pub meta_row_names : List (List ℕ)
meta_row_names = codes "name" ∷ codes "value" ∷ []

abbrev pub add_meta_row_command : Command
add_meta_row_command = Insert 0 (Values (lit Null ∷ col 0 0 ∷ col 0 1 ∷ []) 3)

abbrev pub drop_meta_row_terms : List Term
drop_meta_row_terms = eq (col 1 1) (col 0 0) ∷ []

abbrev pub drop_meta_row_query : Query
drop_meta_row_query = query_of (inner 0 end) drop_meta_row_terms (col 1 0 ∷ []) []

abbrev pub find_meta_row_terms : List Term
find_meta_row_terms = eq (col 1 1) (col 0 0) ∷ []

-- ---- clerks

abbrev pub clerk_columns : List Term
clerk_columns = col 1 1 ∷ col 1 2 ∷ col 1 3 ∷ []

abbrev pub clerk_names : List (List ℕ)
clerk_names = codes "name" ∷ codes "kind" ∷ codes "secret" ∷ []

abbrev pub add_clerk_command : Command
add_clerk_command = Insert 1 (Values (lit Null ∷ col 0 0 ∷ col 0 1 ∷ col 0 2 ∷ []) 4)

abbrev pub drop_clerk_terms : List Term
drop_clerk_terms = eq (col 1 1) (col 0 0) ∷ []

abbrev pub drop_clerk_query : Query
drop_clerk_query = query_of (inner 2 end) drop_clerk_terms (col 1 0 ∷ []) []

abbrev pub find_clerk_terms : List Term
find_clerk_terms = eq (col 1 1) (col 0 0) ∷ []

abbrev pub clerk_count_terms : List Term
clerk_count_terms = []

-- ---- maildrops

abbrev pub add_maildrop_command : Command
add_maildrop_command = Insert 2 (Values (lit Null ∷ col 0 0 ∷ []) 2)

abbrev pub drop_maildrop_terms : List Term
drop_maildrop_terms = eq (col 1 1) (col 0 0) ∷ []

abbrev pub drop_maildrop_query : Query
drop_maildrop_query = query_of (inner 4 end) drop_maildrop_terms (col 1 0 ∷ []) []

abbrev pub find_maildrop_query : Query
find_maildrop_query = query_of (inner 4 end) (eq (col 1 1) (col 0 0) ∷ []) (col 1 1 ∷ []) []

abbrev pub maildrop_columns : List Term
maildrop_columns = col 1 1 ∷ []

abbrev pub maildrop_names : List (List ℕ)
maildrop_names = codes "name" ∷ []

abbrev pub maildrop_count_terms : List Term
maildrop_count_terms = []

-- ---- counts

abbrev pub count_columns : List Term
count_columns = col 1 1 ∷ col 1 2 ∷ col 1 3 ∷ []

abbrev pub count_names : List (List ℕ)
count_names = codes "maildrop" ∷ codes "class" ∷ codes "k" ∷ []

abbrev pub add_count_command : Command
add_count_command = Insert 3 (Values (lit Null ∷ col 0 0 ∷ col 0 1 ∷ col 0 2 ∷ []) 4)

abbrev pub clear_count_terms : List Term
clear_count_terms = eq (col 1 1) (col 0 0) ∷ eq (col 1 2) (col 0 1) ∷ []

abbrev pub clear_count_query : Query
clear_count_query = query_of (inner 6 end) clear_count_terms (col 1 0 ∷ []) []

abbrev pub find_count_terms : List Term
find_count_terms = eq (col 1 1) (col 0 0) ∷ eq (col 1 2) (col 0 1) ∷ []

-- ---- deposits

abbrev pub deposit_columns : List Term
deposit_columns = col 1 1 ∷ col 1 2 ∷ col 1 3 ∷ col 1 4 ∷ col 1 5 ∷ []

abbrev pub deposit_names : List (List ℕ)
deposit_names = codes "maildrop" ∷ codes "id" ∷ codes "class" ∷ codes "k" ∷ codes "digest" ∷ []

abbrev pub add_deposit_command : Command
add_deposit_command = Insert 4 (Values (lit Null ∷ col 0 0 ∷ col 0 1 ∷ col 0 2 ∷ col 0 3 ∷ col 0 4 ∷ []) 6)

abbrev pub find_deposit_terms : List Term
find_deposit_terms = eq (col 1 1) (col 0 0) ∷ eq (col 1 2) (col 0 1) ∷ []

-- ---- mail

abbrev pub message_columns : List Term
message_columns = col 1 0 ∷ col 1 2 ∷ col 1 3 ∷ col 1 4 ∷ col 1 5 ∷ []

abbrev pub message_names : List (List ℕ)
message_names = codes "key" ∷ codes "maildrop" ∷ codes "class" ∷ codes "k" ∷ codes "octets" ∷ []

abbrev pub add_message_terms : List Term
add_message_terms = lit Null ∷ lit Null ∷ col 0 0 ∷ col 0 1 ∷ col 0 2 ∷ col 0 3 ∷ []

abbrev pub add_message_command : (carried : Bool) → Command
add_message_command carried = Insert (mail_place carried) (Values add_message_terms 6)

-- the key stands for the rowid
abbrev pub add_keyed_terms : List Term
add_keyed_terms = col 0 0 ∷ lit Null ∷ col 0 1 ∷ col 0 2 ∷ col 0 3 ∷ col 0 4 ∷ []

abbrev pub add_keyed_command : (carried : Bool) → Command
add_keyed_command carried = Insert (mail_place carried) (Values add_keyed_terms 6)

abbrev pub remove_message_terms : List Term
remove_message_terms = eq (col 1 0) (col 0 0) ∷ eq (col 1 2) (col 0 1) ∷ []

abbrev pub remove_message_query : (carried : Bool) → Query
remove_message_query carried = query_of (inner (mail_tree carried) end) remove_message_terms (col 1 0 ∷ []) []

abbrev pub heads_terms : List Term
heads_terms = eq (col 1 2) (col 0 0) ∷ []

abbrev pub message_count_terms : List Term
message_count_terms = eq (col 1 2) (col 0 0) ∷ []

-- ---- sheets

abbrev pub sheet_columns : List Term
sheet_columns = col 1 1 ∷ col 1 2 ∷ col 1 3 ∷ []

abbrev pub sheet_names : List (List ℕ)
sheet_names = codes "mail" ∷ codes "place" ∷ codes "octets" ∷ []

abbrev pub add_sheet_command : Command
add_sheet_command = Insert 8 (Values (lit Null ∷ col 0 0 ∷ col 0 1 ∷ col 0 2 ∷ []) 4)

abbrev pub find_sheet_terms : List Term
find_sheet_terms = eq (col 1 1) (col 0 0) ∷ eq (col 1 2) (col 0 1) ∷ []

abbrev pub sheets_between_terms : List Term
sheets_between_terms =
    eq (col 1 1) (col 0 0) ∷ op2 (Compare Ge Binary) (col 1 2) (col 0 1)
    ∷ op2 (Compare Lt Binary) (col 1 2) (col 0 2) ∷ []

abbrev pub sheet_count_terms : List Term
sheet_count_terms = []

-- ---- rules

abbrev pub rule_columns : List Term
rule_columns = col 1 0 ∷ col 1 2 ∷ col 1 3 ∷ col 1 4 ∷ col 1 5 ∷ col 1 6 ∷ col 1 7 ∷ []

abbrev pub rule_names : List (List ℕ)
rule_names = codes "place" ∷ codes "name" ∷ codes "effect" ∷ codes "clerk" ∷ codes "maildrop" ∷ codes "class" ∷ codes "actions" ∷ []

abbrev pub add_rule_command : Command
add_rule_command = Insert 7 (Values (lit Null ∷ lit Null ∷ col 0 0 ∷ col 0 1 ∷ col 0 2 ∷ col 0 3 ∷ col 0 4 ∷ col 0 5 ∷ []) 8)

abbrev pub clear_rules_terms : List Term
clear_rules_terms = []

abbrev pub clear_rules_query : Query
clear_rules_query = query_of (inner 13 end) clear_rules_terms (col 1 0 ∷ []) []

-- ---- groups

abbrev pub group_columns : List Term
group_columns = col 1 0 ∷ col 1 2 ∷ []

abbrev pub group_names : List (List ℕ)
group_names = codes "place" ∷ codes "name" ∷ []

abbrev pub add_group_command : Command
add_group_command = Insert 9 (Values (lit Null ∷ lit Null ∷ col 0 0 ∷ []) 3)

abbrev pub clear_groups_terms : List Term
clear_groups_terms = []

abbrev pub clear_groups_query : Query
clear_groups_query = query_of (inner 17 end) clear_groups_terms (col 1 0 ∷ []) []

-- ---- members

abbrev pub member_columns : List Term
member_columns = col 1 1 ∷ col 1 2 ∷ col 1 3 ∷ []

abbrev pub member_names : List (List ℕ)
member_names = codes "grp" ∷ codes "place" ∷ codes "clerk" ∷ []

abbrev pub add_member_command : Command
add_member_command = Insert 10 (Values (lit Null ∷ col 0 0 ∷ col 0 1 ∷ col 0 2 ∷ []) 4)

abbrev pub members_terms : List Term
members_terms = eq (col 1 1) (col 0 0) ∷ []

abbrev pub by_place : List (Term × Key)
by_place = (col 1 2, ascending Binary) ∷ []

abbrev pub members_query : Query
members_query = query_of (inner 19 end) members_terms member_columns by_place

-- ---- messages

abbrev pub find_body_terms : List Term
find_body_terms = eq (col 1 0) (col 0 0) ∷ []

abbrev pub body_columns : List Term
body_columns = col 1 0 ∷ col 1 2 ∷ col 1 3 ∷ col 1 4 ∷ col 1 5 ∷ col 1 6 ∷ []

abbrev pub body_names : List (List ℕ)
body_names = codes "key" ∷ codes "maildrop" ∷ codes "class" ∷ codes "k" ∷ codes "octets" ∷ codes "body" ∷ []

abbrev pub clear_bodies_terms : List Term
clear_bodies_terms = []

abbrev pub clear_bodies_query : Query
clear_bodies_query = query_of (inner 10 end) clear_bodies_terms (col 1 0 ∷ []) []

-- ---- counting

abbrev pub count_group : Grouping
count_group = record { keys = []; collations = []; aggregates = record { op = aggregate.CountRows; distinct = false; collation = Binary; argument = lit Null } ∷ []; having = [] }

abbrev pub count_of : Join → List Term → Query
count_of from filter = record (query_of from filter (col 1 0 ∷ []) []) { group = Some count_group }
