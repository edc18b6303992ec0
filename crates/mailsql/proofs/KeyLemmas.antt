-- The keys of the tables keep the records apart, and each reference has its parent.
use Rattle.std.proofs.Common.{◌≡◌, inl, inr, ℕ, ℤ, ◌<ℤ◌, int_cmp, IsTrue, arith, Bool, true, false, not, List, [], ◌∷◌, Option, Some, map, Less, is_eq, refl, sym, ap, ap₂, subst, ◌∙◌, true≢false}
use Rattle.std.specs.Prelude.{◌&&◌, ◌||◌, bytes_eq, codes}
use Rattle.std.specs.Ordering.{is_ne}
use Rattle.std.specs.List.{AllByRecursion, list_any, list_all}
use Rattle.std.proofs.lemmas.Bool.Decides.{nat_tests}
use Rattle.std.proofs.lemmas.Int.{ints}
use Rattle.std.proofs.lemmas.Bool.{and_parts, and_from, or_parts, or_from, not-true, not_from_false}
use Rattle.sqlite_value.specs.declared.value.Value.{Value}
use Rattle.sqlite_value.specs.declared.value.Value.TheVariants.{Int}
use Rattle.sqlite_value.specs.declared.keys.Collation.TheVariants.{Binary}
use Rattle.sqlite_value.specs.Keys.{joined, first_key}
use Rattle.sqlite_value.specs.Order.{Row, column, value_cmp, bytes}
use Rattle.sqlite_value.proofs.OrderLemmas.{value_cmp-Int}
use Rattle.sqlite_sql.specs.Ops.{binary, is_null}
use Rattle.sqlite_trees.specs.Tree.{Trees, rowid, IsTable}
use Rattle.sqlite_trees.specs.View.{is_int}
use Rattle.sqlite_schema.specs.declared.schema.Table.{Table}
use Rattle.sqlite_schema.specs.declared.schema.Index.{Index}
use Rattle.sqlite_schema.specs.declared.schema.Constraint.{Constraint}
use Rattle.sqlite_schema.specs.declared.schema.Constraint.TheVariants.{Datatype, NotNull, Unique, ForeignKey}
use Rattle.sqlite_schema.specs.Names.{same_name}
use Rattle.sqlite_schema.specs.Rules.{passes, Obeys, agree, clashes, guards, differ, equal, has_parent, has_null, is_held, parent_key, ParentKey}
use Rattle.sqlite_rules.specs.Lists.{Has}
use Rattle.sqlite_rules.specs.Edit.{id_in}
use Rattle.sqlite_rules.proofs.ListLemmas.{all_has, test_has, some_has, some_from}
use Rattle.sqlite_rules.proofs.TableLemmas.{int_is}
use Rattle.sqlite.specs.Effect.{Database, IsDatabase}
use Rattle.sqlite.specs.State.{State, IsLive}
use Rattle.mailsql.specs.Apart.{are_apart, AreRising, AreApart}
use Rattle.mailsql.specs.Tables.{schema_of, mail_tree, meta_at, clerks_at, maildrops_at, counts_at, deposits_at, mail_at, rules_at, sheets_at, groups_at, members_at, key_of}
use Rattle.mailsql.specs.Tables.{clerks_key_of, plain_order, to_maildrops, to_mail, to_groups}
use Rattle.mailsql.specs.Rows.{IsOurs, is_carried, IsReady, AreKeyed, AreKept, same_int, has_name, MetaRow, Clerk, Count, Deposit, Message, Sheet, Rule, Group, Member, Body}
use Rattle.mailsql.specs.Rows.{bodies_at, rows_in, meta_row_of, clerk_of, maildrop_of, count_of, deposit_of, message_of, sheet_of, rule_of, group_of, member_of, body_of, text_at}
use Rattle.mailsql.specs.Rows.{number_at}
use Rattle.mailsql.proofs.TypedLemmas.{IsText, IsInt, meta_rows_typed, clerks_typed, names_typed, counts_typed, deposits_typed, messages_typed, sheets_typed}
use Rattle.mailsql.proofs.HeldLemmas.{row_in, members_in, messages_in}
use Rattle.mailsql.proofs.HeadLemmas.{mail_keyed}
use Rattle.sqlite_schema.specs.declared.schema.Schema.{Schema}
use Rattle.mailsql.proofs.FindLemmas.{truth_back, and_true}
use Rattle.mailsql.proofs.EqualLemmas.{column_text, column_int}
use Rattle.mailsql.proofs.WithoutLemmas.{has_mapped}

-- ---- tests

and_second : (x y : Bool) → x ≡ true → (x && y) ≡ false → y ≡ false
and_second true y e h = h
and_second false y e h = absurd (true≢false (sym e))

and_first : (x y : Bool) → (x && y) ≡ false → y ≡ true → x ≡ false
and_first true y h e = absurd (true≢false (sym e ∙ h))
and_first false y h e = refl

or_second : (x y : Bool) → x ≡ false → (x || y) ≡ true → y ≡ true
or_second true y e h = absurd (true≢false e)
or_second false y e h = h

and_assoc : (x y z : Bool) → (x && (y && z)) ≡ ((x && y) && z)
and_assoc true y z = refl
and_assoc false y z = refl

none_has : {X : Type 0} (p : X → Bool) (xs : List X) (x : X) → list_any p xs ≡ false → Has xs x → p x ≡ false
none_has p [] x h there = absurd there
none_has p (y ∷ ys) x h (inl e) = ap p e ∙ (or_parts (p y) (list_any p ys) h).0
none_has p (y ∷ ys) x h (inr there) = none_has p ys x (or_parts (p y) (list_any p ys) h).1 there

none_mapped : {X : Type 0} (f : Row → X) (p : X → Bool) (rows : List Row) → ((r : Row) → Has rows r → p (f r) ≡ false) → list_any p (map f rows) ≡ false
none_mapped f p [] h = refl
none_mapped f p (r ∷ rows) h = or_from (p (f r)) (list_any p (map f rows)) (h r (inl refl)) (none_mapped f p rows (λ x there. h x (inr there)))

all_mapped : {X : Type 0} (f : Row → X) (p : X → Bool) (rows : List Row) → ((r : Row) → Has rows r → p (f r) ≡ true) → list_all p (map f rows) ≡ true
all_mapped f p [] h = refl
all_mapped f p (r ∷ rows) h = and_from (p (f r)) (list_all p (map f rows)) (h r (inl refl)) (all_mapped f p rows (λ x there. h x (inr there)))

-- ---- rows whose rowids rise

apart_rows : {X : Type 0} (f : Row → X) (same : X → X → Bool) (rows : List Row) → IsTable rows
    → ((a b : Row) → Has rows a → Has rows b → value_cmp (rowid a) (rowid b) ≡ Less → same (f a) (f b) ≡ false) → are_apart same (map f rows) ≡ true
apart_rows f same [] up h = refl
apart_rows f same (r ∷ rows) up h =
    let here : list_any (same (f r)) (map f rows) ≡ false =
    none_mapped f (same (f r)) rows (λ x there. h r x (inl refl) (inr there) (all_has (λ b. value_cmp (rowid r) (rowid b) ≡ Less) rows x up.0 there)) in
    and_from (not (list_any (same (f r)) (map f rows))) (are_apart same (map f rows)) (not_from_false (list_any (same (f r)) (map f rows)) here)
    (apart_rows f same rows up.1 (λ a b ha hb. h a b (inr ha) (inr hb)))

pub id_is : (rows : List Row) → AreKeyed rows → (r : Row) → Has rows r → IsInt (rowid r)
id_is rows keyed r h = (id_in (rowid r), int_is (rowid r) (all_has (λ x. is_int (rowid x) ≡ true) rows r keyed.1 h))

ids_apart : (a b : Value) → IsInt a → IsInt b → value_cmp a b ≡ Less → same_int (id_in a) (id_in b) ≡ false
ids_apart a b x y less = ap₂ (λ v w. same_int (id_in v) (id_in w)) x.1 y.1 ∙ ap is_eq (sym (value_cmp-Int x.0 y.0) ∙ sym (ap₂ value_cmp x.1 y.1) ∙ less)

ids_differ : (a b : Value) → IsInt a → IsInt b → value_cmp a b ≡ Less → differ a b ≡ true
unfolding binary
ids_differ a b x y less = ap₂ differ x.1 y.1 ∙ truth_back (is_ne (value_cmp (Int x.0) (Int y.0))) ∙ ap is_ne (sym (ap₂ value_cmp x.1 y.1) ∙ less)

-- ---- the messages of version 1

id_below : (a b : ℤ) → int_cmp a b ≡ Less → a <ℤ b
id_below a b h = grind (arith, ints, nat_tests)

below_each : (r : Row) (rows : List Row) → IsTrue (is_int (rowid r)) → AllByRecursion (λ x. IsTrue (is_int (rowid x))) rows
    → AllByRecursion (λ x. value_cmp (rowid r) (rowid x) ≡ Less) rows → AllByRecursion (λ (b : Body). (body_of r).head.key <ℤ b.head.key) (map body_of rows)
below_each r [] int ints_are less = tt
below_each r (x ∷ rows) int ints_are less =
    let here = sym (value_cmp-Int (id_in (rowid r)) (id_in (rowid x))) ∙ sym (ap₂ value_cmp (int_is (rowid r) int) (int_is (rowid x) ints_are.0)) ∙ less.0 in
    (id_below (id_in (rowid r)) (id_in (rowid x)) here, below_each r rows int ints_are.1 less.1)

rising_rows : (rows : List Row) → IsTable rows → AllByRecursion (λ r. IsTrue (is_int (rowid r))) rows → AreRising (map body_of rows)
rising_rows [] up ints_are = tt
rising_rows (r ∷ rows) up ints_are = (below_each r rows ints_are.0 ints_are.1 up.0, rising_rows rows up.1 ints_are.1)

bodies_rise : (carried : Bool) (db : Trees) → AreKept (schema_of carried).tables db → AreRising (bodies_at carried db)
bodies_rise false db kept = tt
bodies_rise true db kept = let keyed = kept.1.1.1.1.1.0 in rising_rows (db 10) keyed.0 keyed.1

-- ---- rows under a unique index

module _ {X : Type 0} (f : Row → X) (same : X → X → Bool) (t : Table) (i : Index) (schema : Schema) (db : Trees) where
  apart_keys : Has schema.indexes i → guards i t ≡ true → AreKeyed (db t.tree) → AllByRecursion (λ row. passes Unique schema db t row ≡ true) (db t.tree)
      → ((a b : Row) → Has (db t.tree) a → Has (db t.tree) b → agree i.order i.columns a i.columns b ≡ same (f a) (f b)) → are_apart same (map f (db t.tree)) ≡ true
  apart_keys has guard keyed unique is =
      apart_rows f same (db t.tree) keyed.0 (λ a b ha hb less.
      let rows = db t.tree in
      let pass = test_has (λ x. not (guards x t && clashes x.order x.columns rows b)) schema.indexes i (all_has (λ row. passes Unique schema db t row ≡ true) rows b unique hb) has in
      let none = and_second (guards i t) (clashes i.order i.columns rows b) guard (not-true _ pass) in
      let here = none_has (λ other. agree i.order i.columns other i.columns b && differ (rowid other) (rowid b)) rows a none ha in
      sym (is a b ha hb) ∙ and_first (agree i.order i.columns a i.columns b) (differ (rowid a) (rowid b)) here (ids_differ (rowid a) (rowid b) (id_is rows keyed a ha) (id_is rows keyed b hb) less))

-- ---- what agrees

same_text : (v w : Value) → IsText v → IsText w → equal Binary v w ≡ bytes_eq (bytes v) (bytes w)
same_text v w x y = ap (λ u. equal Binary v u) y.1 ∙ column_text v y.0 x ∙ ap (λ u. bytes_eq (bytes v) (bytes u)) (sym y.1)

same_number : (v w : Value) → IsInt v → IsInt w → equal Binary v w ≡ same_int (id_in v) (id_in w)
same_number v w x y = ap (λ u. equal Binary v u) y.1 ∙ column_int v y.0 x ∙ ap (λ u. same_int (id_in v) (id_in u)) (sym y.1)

one_agrees : (p q : ℕ) (a b : Row) (x : Bool) → equal Binary (column a p) (column b q) ≡ x → agree plain_order (p ∷ []) a (q ∷ []) b ≡ x
unfolding first_key
one_agrees p q a b x e = and_true (equal Binary (column a p) (column b q)) ∙ e

two_agree : (p q : ℕ) (a b : Row) (x y : Bool) → equal Binary (column a p) (column b p) ≡ x → equal Binary (column a q) (column b q) ≡ y → agree plain_order (p ∷ q ∷ []) a (p ∷ q ∷ []) b ≡ (x && y)
unfolding first_key
two_agree p q a b x y e g = ap₂ (λ u v. u && v) e (and_true (equal Binary (column a q) (column b q)) ∙ g)

three_agree : (p q r : ℕ) (a b : Row) (x y z : Bool) → equal Binary (column a p) (column b p) ≡ x → equal Binary (column a q) (column b q) ≡ y → equal Binary (column a r) (column b r) ≡ z
    → agree plain_order (p ∷ q ∷ r ∷ []) a (p ∷ q ∷ r ∷ []) b ≡ ((x && y) && z)
unfolding first_key
three_agree p q r a b x y z e g h = ap₂ (λ u v. u && v) e (ap₂ (λ u v. u && v) g (and_true (equal Binary (column a r) (column b r)) ∙ h)) ∙ and_assoc x y z

-- ---- what a reference points to

names_key : (c : Bool) → parent_key (schema_of c).tables to_maildrops ≡ Some (4, 1 ∷ [], plain_order)
unfolding same_name joined
names_key false = refl
names_key true = refl

mail_key : (c : Bool) → parent_key (schema_of c).tables to_mail ≡ Some (mail_tree c, 0 ∷ [], plain_order)
unfolding same_name joined
mail_key false = refl
mail_key true = refl

groups_key : (c : Bool) → parent_key (schema_of c).tables to_groups ≡ Some (17, 0 ∷ [], plain_order)
unfolding same_name joined
groups_key false = refl
groups_key true = refl

held_by : (db : Trees) (places : List ℕ) (r : Row) (k : Option ParentKey) (tree : ℕ) (at : List ℕ) → k ≡ Some (tree, at, plain_order)
    → is_held db places r k ≡ true → list_any (λ parent. agree plain_order at parent places r) (db tree) ≡ true
held_by db places r k tree at e h = subst (λ o. is_held db places r o ≡ true) e h

text_there : (r : Row) (p : ℕ) → IsText (column r p) → has_null (p ∷ []) r ≡ false
text_there r p text = ap (λ v. is_null v || false) text.1

number_there : (r : Row) (p : ℕ) → IsInt (column r p) → has_null (p ∷ []) r ≡ false
number_there r p int = ap (λ v. is_null v || false) int.1

-- ---- the table of mail

mail_index : (c : Bool) → Has (schema_of c).indexes (key_of (codes "mail") (mail_tree c) (2 ∷ 3 ∷ 4 ∷ []))
mail_index false = inr (inr (inr (inr (inr (inl refl)))))
mail_index true = inr (inr (inr (inr (inr (inr (inr (inr (inr (inr (inr (inl refl)))))))))))

mail_guard : (c : Bool) → guards (key_of (codes "mail") (mail_tree c) (2 ∷ 3 ∷ 4 ∷ [])) (mail_at (mail_tree c)) ≡ true
mail_guard false = refl
mail_guard true = refl

mail_passes : (c : Bool) (db : Trees) (rule : Constraint) → Obeys (schema_of c) db → AllByRecursion (λ row. passes rule (schema_of c) db (mail_at (mail_tree c)) row ≡ true) (db (mail_tree c))
mail_passes false db rule obeys = (obeys.rules rule).1.1.1.1.1.0
mail_passes true db rule obeys = (obeys.rules rule).1.1.1.1.1.1.1.1.1.1.1.0

-- ---- the tables

module _ (db : Database) (ours : IsOurs db) (sound : IsDatabase db) (kept : AreKept (schema_of (is_carried db.trees)).tables db.trees) where
  abbrev c : Bool
  c = is_carried db.trees

  obeys : Obeys (schema_of (is_carried db.trees)) db.trees
  obeys = subst (λ s. Obeys s db.trees) ours sound.obeys

  meta_rows_apart : are_apart (λ (a b : MetaRow). bytes_eq a.name b.name) (map meta_row_of (db.trees 0)) ≡ true
  meta_rows_apart =
      apart_keys meta_row_of (λ (a b : MetaRow). bytes_eq a.name b.name) (meta_at 0) (key_of (codes "meta") 0 (1 ∷ [])) (schema_of c) db.trees (inl refl) refl kept.0 (obeys.rules Unique).0
      (λ a b ha hb.
      let x = meta_rows_typed db ours sound a ha in
      let y = meta_rows_typed db ours sound b hb in
      one_agrees 1 1 a b _ (same_text (column a 1) (column b 1) x y))

  clerks_apart : are_apart (λ (a b : Clerk). bytes_eq a.name b.name) (map clerk_of (db.trees 2)) ≡ true
  clerks_apart =
      apart_keys clerk_of (λ (a b : Clerk). bytes_eq a.name b.name) (clerks_at 2) (key_of (codes "clerks") 2 (1 ∷ [])) (schema_of c) db.trees (inr (inl refl)) refl kept.1.0 (obeys.rules Unique).1.0
      (λ a b ha hb.
      let x = clerks_typed db ours sound a ha in
      let y = clerks_typed db ours sound b hb in
      one_agrees 1 1 a b _ (same_text (column a 1) (column b 1) x y))

  maildrops_apart : are_apart bytes_eq (map maildrop_of (db.trees 4)) ≡ true
  maildrops_apart =
      apart_keys maildrop_of bytes_eq (maildrops_at 4) (key_of (codes "maildrops") 4 (1 ∷ [])) (schema_of c) db.trees (inr (inr (inl refl))) refl kept.1.1.0 (obeys.rules Unique).1.1.0
      (λ a b ha hb.
      let x = names_typed db ours sound a ha in
      let y = names_typed db ours sound b hb in
      one_agrees 1 1 a b _ (same_text (column a 1) (column b 1) x y))

  counts_apart : are_apart (λ (a b : Count). bytes_eq a.maildrop b.maildrop && bytes_eq a.class b.class) (map count_of (db.trees 6)) ≡ true
  counts_apart =
      apart_keys count_of (λ (a b : Count). bytes_eq a.maildrop b.maildrop && bytes_eq a.class b.class) (counts_at 6)
      (key_of (codes "counts") 6 (1 ∷ 2 ∷ [])) (schema_of c) db.trees (inr (inr (inr (inl refl)))) refl kept.1.1.1.0 (obeys.rules Unique).1.1.1.0
      (λ a b ha hb.
      let x = counts_typed db ours sound a ha in
      let y = counts_typed db ours sound b hb in
      two_agree 1 2 a b _ _ (same_text (column a 1) (column b 1) x.0 y.0) (same_text (column a 2) (column b 2) x.1 y.1))

  deposits_apart : are_apart (λ (a b : Deposit). bytes_eq a.maildrop b.maildrop && bytes_eq a.id b.id) (map deposit_of (db.trees 8)) ≡ true
  deposits_apart =
      apart_keys deposit_of (λ (a b : Deposit). bytes_eq a.maildrop b.maildrop && bytes_eq a.id b.id) (deposits_at 8)
      (key_of (codes "deposits") 8 (1 ∷ 2 ∷ [])) (schema_of c) db.trees (inr (inr (inr (inr (inl refl))))) refl kept.1.1.1.1.0 (obeys.rules Unique).1.1.1.1.0
      (λ a b ha hb.
      let x = deposits_typed db ours sound a ha in
      let y = deposits_typed db ours sound b hb in
      two_agree 1 2 a b _ _ (same_text (column a 1) (column b 1) x.0 y.0) (same_text (column a 2) (column b 2) x.1 y.1))

  messages_apart : are_apart (λ (a b : Message). bytes_eq a.maildrop b.maildrop && bytes_eq a.class b.class && same_int a.k b.k) (map message_of (db.trees (mail_tree c))) ≡ true
  messages_apart =
      apart_keys message_of (λ (a b : Message). bytes_eq a.maildrop b.maildrop && bytes_eq a.class b.class && same_int a.k b.k)
      (mail_at (mail_tree c)) (key_of (codes "mail") (mail_tree c) (2 ∷ 3 ∷ 4 ∷ [])) (schema_of c) db.trees (mail_index c) (mail_guard c)
      (mail_keyed c db.trees kept) (mail_passes c db.trees Unique obeys)
      (λ a b ha hb.
      let x = messages_in db ours sound a ha in
      let y = messages_in db ours sound b hb in
      three_agree 2 3 4 a b _ _ _ (same_text (column a 2) (column b 2) x.1.0 y.1.0) (same_text (column a 3) (column b 3) x.1.1.0 y.1.1.0) (same_number (column a 4) (column b 4) x.1.1.1.0 y.1.1.1.0))

  rules_apart : are_apart (λ (a b : Rule). bytes_eq a.name b.name) (map rule_of (db.trees 13)) ≡ true
  rules_apart =
      apart_keys rule_of (λ (a b : Rule). bytes_eq a.name b.name) (rules_at 13) (key_of (codes "rules") 13 (2 ∷ [])) (schema_of c) db.trees
      (inr (inr (inr (inr (inr (inr (inl refl))))))) refl kept.1.1.1.1.1.1.1.0 (obeys.rules Unique).1.1.1.1.1.1.1.0
      (λ a b ha hb.
      let x = row_in db ours sound (rules_at 13) refl (obeys.rules Datatype).1.1.1.1.1.1.1.0 (obeys.rules NotNull).1.1.1.1.1.1.1.0 a ha in
      let y = row_in db ours sound (rules_at 13) refl (obeys.rules Datatype).1.1.1.1.1.1.1.0 (obeys.rules NotNull).1.1.1.1.1.1.1.0 b hb in
      one_agrees 2 2 a b _ (same_text (column a 2) (column b 2) x.1.0 y.1.0))

  sheets_apart : are_apart (λ (a b : Sheet). same_int a.mail b.mail && same_int a.place b.place) (map sheet_of (db.trees 15)) ≡ true
  sheets_apart =
      apart_keys sheet_of (λ (a b : Sheet). same_int a.mail b.mail && same_int a.place b.place) (sheets_at 15)
      (key_of (codes "sheets") 15 (1 ∷ 2 ∷ [])) (schema_of c) db.trees (inr (inr (inr (inr (inr (inr (inr (inl refl)))))))) refl kept.1.1.1.1.1.1.1.1.0 (obeys.rules Unique).1.1.1.1.1.1.1.1.0
      (λ a b ha hb.
      let x = sheets_typed db ours sound a ha in
      let y = sheets_typed db ours sound b hb in
      two_agree 1 2 a b _ _ (same_number (column a 1) (column b 1) x.0 y.0) (same_number (column a 2) (column b 2) x.1 y.1))

  groups_apart : are_apart (λ (a b : Group). bytes_eq a.name b.name) (map group_of (db.trees 17)) ≡ true
  groups_apart =
      apart_keys group_of (λ (a b : Group). bytes_eq a.name b.name) (groups_at 17) (key_of (codes "groups") 17 (2 ∷ [])) (schema_of c) db.trees
      (inr (inr (inr (inr (inr (inr (inr (inr (inl refl))))))))) refl kept.1.1.1.1.1.1.1.1.1.0 (obeys.rules Unique).1.1.1.1.1.1.1.1.1.0
      (λ a b ha hb.
      let x = row_in db ours sound (groups_at 17) refl (obeys.rules Datatype).1.1.1.1.1.1.1.1.1.0 (obeys.rules NotNull).1.1.1.1.1.1.1.1.1.0 a ha in
      let y = row_in db ours sound (groups_at 17) refl (obeys.rules Datatype).1.1.1.1.1.1.1.1.1.0 (obeys.rules NotNull).1.1.1.1.1.1.1.1.1.0 b hb in
      one_agrees 2 2 a b _ (same_text (column a 2) (column b 2) x.1.0 y.1.0))

  group_places_apart : are_apart (λ (a b : Group). same_int a.place b.place) (map group_of (db.trees 17)) ≡ true
  group_places_apart =
      let rows = db.trees 17 in
      let keyed = kept.1.1.1.1.1.1.1.1.1.0 in
      apart_rows group_of (λ (a b : Group). same_int a.place b.place) rows keyed.0 (λ a b ha hb less. ids_apart (rowid a) (rowid b) (id_is rows keyed a ha) (id_is rows keyed b hb) less)

  members_apart : are_apart (λ (a b : Member). same_int a.group b.group && same_int a.place b.place) (map member_of (db.trees 19)) ≡ true
  members_apart =
      apart_keys member_of (λ (a b : Member). same_int a.group b.group && same_int a.place b.place) (members_at 19)
      (key_of (codes "members") 19 (1 ∷ 2 ∷ [])) (schema_of c) db.trees
      (inr (inr (inr (inr (inr (inr (inr (inr (inr (inl refl)))))))))) refl kept.1.1.1.1.1.1.1.1.1.1.0 (obeys.rules Unique).1.1.1.1.1.1.1.1.1.1.0
      (λ a b ha hb.
      let x = members_in db ours sound a ha in
      let y = members_in db ours sound b hb in
      two_agree 1 2 a b _ _ (same_number (column a 1) (column b 1) x.0 y.0) (same_number (column a 2) (column b 2) x.1 y.1))

  member_clerks_apart : are_apart (λ (a b : Member). same_int a.group b.group && bytes_eq a.clerk b.clerk) (map member_of (db.trees 19)) ≡ true
  member_clerks_apart =
      apart_keys member_of (λ (a b : Member). same_int a.group b.group && bytes_eq a.clerk b.clerk) (members_at 19) (clerks_key_of 19)
      (schema_of c) db.trees (inr (inr (inr (inr (inr (inr (inr (inr (inr (inr (inl refl))))))))))) refl kept.1.1.1.1.1.1.1.1.1.1.0 (obeys.rules Unique).1.1.1.1.1.1.1.1.1.1.0
      (λ a b ha hb.
      let x = members_in db ours sound a ha in
      let y = members_in db ours sound b hb in
      two_agree 1 3 a b _ _ (same_number (column a 1) (column b 1) x.0 y.0) (same_text (column a 3) (column b 3) x.2 y.2))

  keys_apart : are_apart (λ (a b : Message). same_int a.key b.key) (map message_of (db.trees (mail_tree c))) ≡ true
  keys_apart =
      let rows = db.trees (mail_tree c) in
      let keyed = mail_keyed c db.trees kept in
      apart_rows message_of (λ (a b : Message). same_int a.key b.key) rows keyed.0 (λ a b ha hb less. ids_apart (rowid a) (rowid b) (id_is rows keyed a ha) (id_is rows keyed b hb) less)

  has_maildrop : (r : Row) → Has (db.trees (mail_tree c)) r → has_name (text_at r 2) (map maildrop_of (db.trees 4)) ≡ true
  has_maildrop r there =
      let text = messages_typed db ours sound r there in
      let pass = all_has (λ row. passes ForeignKey (schema_of c) db.trees (mail_at (mail_tree c)) row ≡ true) (db.trees (mail_tree c)) r (mail_passes c db.trees ForeignKey obeys) there in
      let has = or_second (has_null (2 ∷ []) r) (is_held db.trees (2 ∷ []) r (parent_key (schema_of c).tables to_maildrops)) (text_there r 2 text)
      (and_parts (has_parent (schema_of c).tables db.trees r to_maildrops) true pass).0 in
      let it = some_has (λ parent. agree plain_order (1 ∷ []) parent (2 ∷ []) r) (db.trees 4) (held_by db.trees (2 ∷ []) r _ 4 (1 ∷ []) (names_key c) has) in
      let is = one_agrees 1 2 it.0 r _ (same_text (column it.0 1) (column r 2) (names_typed db ours sound it.0 it.1) text) in
      some_from (λ x. bytes_eq x (text_at r 2)) (map maildrop_of (db.trees 4)) (maildrop_of it.0) (has_mapped maildrop_of (db.trees 4) it.0 it.1) (sym is ∙ it.2)

  has_message : (r : Row) → Has (db.trees 15) r → list_any (λ (m : Message). same_int m.key (number_at r 1)) (map message_of (db.trees (mail_tree c))) ≡ true
  has_message r there =
      let int = (sheets_typed db ours sound r there).0 in
      let pass = all_has (λ row. passes ForeignKey (schema_of c) db.trees (sheets_at 15) row ≡ true) (db.trees 15) r (obeys.rules ForeignKey).1.1.1.1.1.1.1.1.0 there in
      let has = or_second (has_null (1 ∷ []) r) (is_held db.trees (1 ∷ []) r (parent_key (schema_of c).tables to_mail)) (number_there r 1 int)
      (and_parts (has_parent (schema_of c).tables db.trees r to_mail) true pass).0 in
      let it = some_has (λ parent. agree plain_order (0 ∷ []) parent (1 ∷ []) r) (db.trees (mail_tree c)) (held_by db.trees (1 ∷ []) r _ (mail_tree c) (0 ∷ []) (mail_key c) has) in
      let is = one_agrees 0 1 it.0 r _ (same_number (column it.0 0) (column r 1) (id_is (db.trees (mail_tree c)) (mail_keyed c db.trees kept) it.0 it.1) int) in
      some_from (λ (m : Message). same_int m.key (number_at r 1)) (map message_of (db.trees (mail_tree c))) (message_of it.0) (has_mapped message_of (db.trees (mail_tree c)) it.0 it.1) (sym is ∙ it.2)

  has_group : (r : Row) → Has (db.trees 19) r → list_any (λ (g : Group). same_int g.place (number_at r 1)) (map group_of (db.trees 17)) ≡ true
  has_group r there =
      let int = (members_in db ours sound r there).0 in
      let pass = all_has (λ row. passes ForeignKey (schema_of c) db.trees (members_at 19) row ≡ true) (db.trees 19) r (obeys.rules ForeignKey).1.1.1.1.1.1.1.1.1.1.0 there in
      let has = or_second (has_null (1 ∷ []) r) (is_held db.trees (1 ∷ []) r (parent_key (schema_of c).tables to_groups)) (number_there r 1 int)
      (and_parts (has_parent (schema_of c).tables db.trees r to_groups) true pass).0 in
      let it = some_has (λ parent. agree plain_order (0 ∷ []) parent (1 ∷ []) r) (db.trees 17) (held_by db.trees (1 ∷ []) r _ 17 (0 ∷ []) (groups_key c) has) in
      let is = one_agrees 0 1 it.0 r _ (same_number (column it.0 0) (column r 1) (id_is (db.trees 17) kept.1.1.1.1.1.1.1.1.1.0 it.0 it.1) int) in
      some_from (λ (g : Group). same_int g.place (number_at r 1)) (map group_of (db.trees 17)) (group_of it.0) (has_mapped group_of (db.trees 17) it.0 it.1) (sym is ∙ it.2)

  pub members_have_groups : list_all (λ (x : Member). list_any (λ (g : Group). same_int g.place x.group) (map group_of (db.trees 17))) (map member_of (db.trees 19)) ≡ true
  members_have_groups = all_mapped member_of (λ (x : Member). list_any (λ (g : Group). same_int g.place x.group) (map group_of (db.trees 17))) (db.trees 19) has_group

  records_apart : AreApart (rows_in db.trees)
  records_apart = record {
    meta_rows = meta_rows_apart;
    clerks = clerks_apart;
    maildrops = maildrops_apart;
    counts = counts_apart;
    deposits = deposits_apart;
    messages = messages_apart;
    keys = keys_apart;
    rules = rules_apart;
    sheets = sheets_apart;
    parents = all_mapped message_of (λ (m : Message). has_name m.maildrop (map maildrop_of (db.trees 4))) (db.trees (mail_tree c)) has_maildrop;
    owners = all_mapped sheet_of (λ (s : Sheet). list_any (λ (m : Message). same_int m.key s.mail) (map message_of (db.trees (mail_tree c)))) (db.trees 15) has_message;
    groups = groups_apart;
    group_places = group_places_apart;
    members = members_apart;
    member_clerks = member_clerks_apart;
    member_groups = members_have_groups;
    bodies = bodies_rise c db.trees kept;
  }

-- so it is while the connection is open, over a store of ours
pub live_apart : (s : State) → IsLive s → IsReady s → AreApart (rows_in s.now.trees)
live_apart s live ready = records_apart s.now ready.1.0 (live ready.0).0 ready.1.1
