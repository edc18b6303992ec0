-- The tables that an edit leaves.
use Rattle.std.proofs.Common.{◌≡◌, ◌≢◌, ◌∙◌, ℕ, Bool, true, false, cond, List, map, refl, sym, ap, subst, arith, true≢false}
use Rattle.std.specs.Prelude.{◌&&◌, ◌==◌, bytes_eq, codes}
use Rattle.std.specs.List.{AllByRecursion, list_any}
use Rattle.std.proofs.lemmas.Bool.Decides.{nat_tests}
use Rattle.sqlite_value.specs.Order.{Row}
use Rattle.sqlite_trees.specs.Objects.{catalog_tree}
use Rattle.sqlite_catalog.specs.Listing.{is_table_row}
use Rattle.sqlite_schema.specs.declared.schema.Index.{Index}
use Rattle.sqlite.specs.Effect.{Database}
use Rattle.sqlite_trees.specs.Tree.{Trees}
use Rattle.sqlite_schema.specs.declared.schema.Keys.TheVariants.{Enforced}
use Rattle.sqlite_rules.specs.Edit.{Edit, Applies, IsNoIndex}
use Rattle.mailsql.specs.Tables.{schema_of, mail_tree, last_indexes}
use Rattle.mailsql.specs.Columns.{is_carried}
use Rattle.mailsql.specs.Rows.{Rows, Body, rows_in, IsKept, AreKept, text_at, bodies_at}
use Rattle.mailsql.specs.Rows.{meta_row_of, clerk_of, maildrop_of, count_of, deposit_of, message_of, rule_of, sheet_of, group_of, member_of, body_of}

-- another tree than mail's
pub not_mail : (carried : Bool) (at : ℕ) → at ≢ 10 → at ≢ 22 → mail_tree carried ≢ at
not_mail false at a b = λ e. a (sym e)
not_mail true at a b = λ e. b (sym e)

pub mail_apart : (carried : Bool) (at : ℕ) → at ≢ 10 → at ≢ 22 → at ≢ mail_tree carried
mail_apart carried at a b = λ e. not_mail carried at a b (sym e)

-- the messages of version 1 aren't in mail's tree
pub not_bodies : (carried : Bool) → carried ≡ true → 10 ≢ mail_tree carried
not_bodies false e = absurd (true≢false (sym e))
not_bodies true e = λ f. absurd (omega arith)

-- what an edit of the table in this tree leaves
pub record Frame (carried : Bool) (at : ℕ) (db next : Trees) : Type 0 where
  pub meta : 0 ≢ at → next 0 ≡ db 0
  pub clerks : 2 ≢ at → next 2 ≡ db 2
  pub maildrops : 4 ≢ at → next 4 ≡ db 4
  pub counts : 6 ≢ at → next 6 ≡ db 6
  pub deposits : 8 ≢ at → next 8 ≡ db 8
  pub mail : mail_tree carried ≢ at → next (mail_tree carried) ≡ db (mail_tree carried)
  pub sequence : 12 ≢ at → next 12 ≡ db 12
  pub rules : 13 ≢ at → next 13 ≡ db 13
  pub sheets : 15 ≢ at → next 15 ≡ db 15
  pub groups : 17 ≢ at → next 17 ≡ db 17
  pub members : 19 ≢ at → next 19 ≡ db 19
  pub bodies : (carried ≡ true → 10 ≢ at) → bodies_at carried next ≡ bodies_at carried db
  pub same : is_carried next ≡ is_carried db

mail_stays : (carried : Bool) (db next : Trees) (edit : Edit) → Applies (schema_of carried) Enforced db edit next
    → mail_tree carried ≢ edit.table.tree → next (mail_tree carried) ≡ db (mail_tree carried)
mail_stays false db next edit h = h.tables.1.1.1.1.1.0
mail_stays true db next edit h = h.tables.1.1.1.1.1.1.1.1.1.1.1.0

bodies_stay : (carried : Bool) (db next : Trees) (edit : Edit) → Applies (schema_of carried) Enforced db edit next
    → (carried ≡ true → 10 ≢ edit.table.tree) → bodies_at carried next ≡ bodies_at carried db
bodies_stay false db next edit h apart = refl
bodies_stay true db next edit h apart = ap (map body_of) (h.tables.1.1.1.1.1.0 (apart refl))

last_below : (carried : Bool) → AllByRecursion (λ (i : Index). i.tree ≢ catalog_tree) (last_indexes carried)
last_below false = tt
last_below true = (λ e. absurd (omega arith), tt)

no_index : (carried : Bool) → IsNoIndex (schema_of carried) catalog_tree
no_index carried = (
  λ e. absurd (omega arith),
  (
    λ e. absurd (omega arith),
    (
      λ e. absurd (omega arith),
      (
        λ e. absurd (omega arith),
        (
          λ e. absurd (omega arith),
          (
            λ e. absurd (omega arith),
            (
              λ e. absurd (omega arith),
              (λ e. absurd (omega arith), (λ e. absurd (omega arith), (λ e. absurd (omega arith), (λ e. absurd (omega arith), last_below carried)))),
            ),
          ),
        ),
      ),
    ),
  ),
)

-- the list of the trees tells the same
pub same_carried : (db next : Trees) → next catalog_tree ≡ db catalog_tree → is_carried next ≡ is_carried db
unfolding is_carried
same_carried db next e = ap (λ (objects : List Row). list_any (λ row. is_table_row row && bytes_eq (text_at row 2) (codes "messages")) objects) e

pub framed : {carried : Bool} (db next : Trees) (edit : Edit) → edit.table.tree ≢ catalog_tree → Applies (schema_of carried) Enforced db edit next → Frame carried edit.table.tree db next
framed {carried} db next edit apart h = record {
  meta = h.tables.0;
  clerks = h.tables.1.0;
  maildrops = h.tables.1.1.0;
  counts = h.tables.1.1.1.0;
  deposits = h.tables.1.1.1.1.0;
  mail = mail_stays carried db next edit h;
  sequence = h.tables.1.1.1.1.1.1.0;
  rules = h.tables.1.1.1.1.1.1.1.0;
  sheets = h.tables.1.1.1.1.1.1.1.1.0;
  groups = h.tables.1.1.1.1.1.1.1.1.1.0;
  members = h.tables.1.1.1.1.1.1.1.1.1.1.0;
  bodies = bodies_stay carried db next edit h;
  same = same_carried db next (h.others catalog_tree (λ e. apart (sym e)) (no_index carried));
}

pub frame_none : (carried : Bool) (at : ℕ) (db : Trees) → Frame carried at db db
frame_none carried at db = record {
  meta = λ _. refl;
  clerks = λ _. refl;
  maildrops = λ _. refl;
  counts = λ _. refl;
  deposits = λ _. refl;
  mail =
      λ _. refl;
  sequence = λ _. refl;
  rules = λ _. refl;
  sheets = λ _. refl;
  groups = λ _. refl;
  members = λ _. refl;
  bodies = λ _. refl;
  same = refl;
}

-- the store is kept
pub kept_framed : (db next : Trees) (after : Database) → after ≡ record { schema = schema_of (is_carried db); trees = next }
    → is_carried next ≡ is_carried db → AreKept (schema_of (is_carried db)).tables next → IsKept after
kept_framed db next after is same all =
    let it : Database = record { schema = schema_of (is_carried db); trees = next } in
    let kept : IsKept it = (ap schema_of (sym same), subst (λ c. AreKept (schema_of c).tables next) (sym same) all) in
    subst IsKept (sym is) kept

-- ---- what an edit of one table makes of the rows

-- a tree's rows, if they may be others only if it is the one at `at`
abbrev tree_at : (n at : ℕ) (db next : Trees) → List Row
tree_at n at db next = cond (n == at) (next n) (db n)

stays : (n at : ℕ) (db next : Trees) → (n ≢ at → next n ≡ db n) → next n ≡ tree_at n at db next
stays n at db next same = by (n == at) refl
  where
    by : (b : Bool) → (n == at) ≡ b → next n ≡ cond b (next n) (db n)
    by true e = refl
    by false e = same (λ is. true≢false (sym (subst (λ m. (n == m) ≡ true) is (grind (arith, nat_tests))) ∙ e))

-- the rows with those of the tree at `at`, these messages, and these of version 1
abbrev rows_with : (at : ℕ) (db next : Trees) → List Row → List Body → Rows
rows_with at db next mail bodies = record {
  meta_rows = map meta_row_of (tree_at 0 at db next);
  clerks = map clerk_of (tree_at 2 at db next);
  maildrops = map maildrop_of (tree_at 4 at db next);
  counts = map count_of (tree_at 6 at db next);
  deposits = map deposit_of (tree_at 8 at db next);
  messages = map message_of mail;
  rules = map rule_of (tree_at 13 at db next);
  sheets = map sheet_of (tree_at 15 at db next);
  groups = map group_of (tree_at 17 at db next);
  members = map member_of (tree_at 19 at db next);
  bodies = bodies;
}

rows_edited : (at : ℕ) (db next : Trees) (mail : List Row) (bodies : List Body) → next (mail_tree (is_carried db)) ≡ mail → bodies_at (is_carried db) next ≡ bodies
    → Frame (is_carried db) at db next → rows_in next ≡ rows_with at db next mail bodies
rows_edited at db next mail bodies mailed embodied h =
    let messages = ap (λ c. next (mail_tree c)) h.same ∙ mailed in
    let old = ap (λ c. bodies_at c next) h.same ∙ embodied in
    λ i. record {
      meta_rows = map meta_row_of (stays 0 at db next h.meta i);
      clerks = map clerk_of (stays 2 at db next h.clerks i);
      maildrops = map maildrop_of (stays 4 at db next h.maildrops i);
      counts = map count_of (stays 6 at db next h.counts i);
      deposits = map deposit_of (stays 8 at db next h.deposits i);
      messages = map message_of (messages i);
      rules = map rule_of (stays 13 at db next h.rules i);
      sheets = map sheet_of (stays 15 at db next h.sheets i);
      groups = map group_of (stays 17 at db next h.groups i);
      members = map member_of (stays 19 at db next h.members i);
      bodies = old i;
    }

-- an edit of another table than those of messages
pub edited_alone : (at : ℕ) (db next : Trees) → at ≢ 10 → at ≢ 22 → Frame (is_carried db) at db next
    → rows_in next ≡ rows_with at db next (db (mail_tree (is_carried db))) (bodies_at (is_carried db) db)
edited_alone at db next a b h = rows_edited at db next _ _ (h.mail (not_mail (is_carried db) at a b)) (h.bodies (λ c e. a (sym e))) h

pub meta_rows_alone : (db next : Trees) → Frame (is_carried db) 0 db next → rows_in next ≡ record (rows_in db) { meta_rows = map meta_row_of (next 0) }
meta_rows_alone db next = edited_alone 0 db next (λ e. absurd (omega arith)) (λ e. absurd (omega arith))

pub clerks_alone : (db next : Trees) → Frame (is_carried db) 2 db next → rows_in next ≡ record (rows_in db) { clerks = map clerk_of (next 2) }
clerks_alone db next = edited_alone 2 db next (λ e. absurd (omega arith)) (λ e. absurd (omega arith))

pub maildrops_alone : (db next : Trees) → Frame (is_carried db) 4 db next → rows_in next ≡ record (rows_in db) { maildrops = map maildrop_of (next 4) }
maildrops_alone db next = edited_alone 4 db next (λ e. absurd (omega arith)) (λ e. absurd (omega arith))

pub counts_alone : (db next : Trees) → Frame (is_carried db) 6 db next → rows_in next ≡ record (rows_in db) { counts = map count_of (next 6) }
counts_alone db next = edited_alone 6 db next (λ e. absurd (omega arith)) (λ e. absurd (omega arith))

pub deposits_alone : (db next : Trees) → Frame (is_carried db) 8 db next → rows_in next ≡ record (rows_in db) { deposits = map deposit_of (next 8) }
deposits_alone db next = edited_alone 8 db next (λ e. absurd (omega arith)) (λ e. absurd (omega arith))

pub rules_alone : (db next : Trees) → Frame (is_carried db) 13 db next → rows_in next ≡ record (rows_in db) { rules = map rule_of (next 13) }
rules_alone db next = edited_alone 13 db next (λ e. absurd (omega arith)) (λ e. absurd (omega arith))

pub sheets_alone : (db next : Trees) → Frame (is_carried db) 15 db next → rows_in next ≡ record (rows_in db) { sheets = map sheet_of (next 15) }
sheets_alone db next = edited_alone 15 db next (λ e. absurd (omega arith)) (λ e. absurd (omega arith))

pub groups_alone : (db next : Trees) → Frame (is_carried db) 17 db next → rows_in next ≡ record (rows_in db) { groups = map group_of (next 17) }
groups_alone db next = edited_alone 17 db next (λ e. absurd (omega arith)) (λ e. absurd (omega arith))

pub members_alone : (db next : Trees) → Frame (is_carried db) 19 db next → rows_in next ≡ record (rows_in db) { members = map member_of (next 19) }
members_alone db next = edited_alone 19 db next (λ e. absurd (omega arith)) (λ e. absurd (omega arith))

-- an edit of mail
pub mail_alone : (db next : Trees) → Frame (is_carried db) (mail_tree (is_carried db)) db next → rows_in next ≡ record (rows_in db) { messages = map message_of (next (mail_tree (is_carried db))) }
mail_alone db next h = by (is_carried db) refl
  where
    by : (c : Bool) → is_carried db ≡ c → rows_in next ≡ record (rows_in db) { messages = map message_of (next (mail_tree (is_carried db))) }
    by false e = rows_edited 10 db next _ _ refl (h.bodies (not_bodies (is_carried db))) (subst (λ c. Frame (is_carried db) (mail_tree c) db next) e h)
    by true e = rows_edited 22 db next _ _ refl (h.bodies (not_bodies (is_carried db))) (subst (λ c. Frame (is_carried db) (mail_tree c) db next) e h)

-- an edit of the messages of version 1
pub bodies_alone : (db next : Trees) → is_carried db ≡ true → Frame (is_carried db) 10 db next → rows_in next ≡ record (rows_in db) { bodies = bodies_at (is_carried db) next }
bodies_alone db next is h = rows_edited 10 db next _ _ (h.mail (λ e. not_bodies (is_carried db) is (sym e))) refl h
