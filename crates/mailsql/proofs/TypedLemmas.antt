-- What the rules of the schema say of the rows.
use Rattle.std.proofs.Common.{◌≡◌, ◌∙◌, ℕ, Bool, true, false, List, [], ◌∷◌, refl, sym, ap, subst, true≢false}
use Rattle.std.proofs.Common.{ℤ}
use Rattle.std.specs.List.{AllByRecursion}
use Rattle.sqlite_rules.specs.Lists.{Has}
use Rattle.sqlite_rules.proofs.ListLemmas.{all_has}
use Rattle.std.proofs.lemmas.Bool.{and_parts}
use Rattle.sqlite_value.specs.declared.value.Value.{Value}
use Rattle.sqlite_rules.specs.Edit.{id_in}
use Rattle.sqlite_value.specs.declared.value.Value.TheVariants.{Null, Int, Real, Text, Blob}
use Rattle.sqlite_value.specs.Order.{Row, column}
use Rattle.sqlite_trees.specs.Tree.{Trees}
use Rattle.sqlite_schema.specs.declared.schema.Kind.TheVariants as kind
use Rattle.sqlite_schema.specs.declared.schema.Schema.{Schema}
use Rattle.sqlite_schema.specs.declared.schema.Table.{Table}
use Rattle.sqlite_schema.specs.declared.schema.Constraint.{Constraint}
use Rattle.sqlite_schema.specs.declared.schema.Constraint.TheVariants.{Datatype, NotNull}
use Rattle.sqlite_schema.specs.Rules.{passes, Obeys, is_of}
use Rattle.sqlite_sql.specs.Ops.{is_null}
use Rattle.std.specs.Prelude.{◌&&◌, ◌||◌, not}
use Rattle.sqlite.specs.Effect.{Database, IsDatabase}
use Rattle.mailsql.specs.Tables.{schema_of, old_schema, mail_tree, meta_at, clerks_at, maildrops_at, counts_at, deposits_at, mail_at, sheets_at}
use Rattle.mailsql.specs.Rows.{IsOurs, is_carried}

abbrev pub IsText : Value → Type 0
IsText v = (t : List ℕ) × (v ≡ Text t)

-- a TEXT NOT NULL column
text_value : (v : Value) (a b : Bool) → (is_of kind.Text v && a && b) ≡ true → ((false || not (is_null v)) && true) ≡ true → IsText v
text_value Null a b typed present = absurd (true≢false (sym present))
text_value (Int n) a b typed present = absurd (true≢false (sym typed))
text_value (Real x) a b typed present = absurd (true≢false (sym typed))
text_value (Text t) a b typed present = (t, refl)
text_value (Blob x) a b typed present = absurd (true≢false (sym typed))

maildrop_typed : (schema : Schema) (db : Trees) (row : Row) → passes Datatype schema db (maildrops_at 4) row ≡ true → passes NotNull schema db (maildrops_at 4) row ≡ true → IsText (column row 1)
maildrop_typed schema db [] typed present = absurd (true≢false (sym present))
maildrop_typed schema db (i ∷ []) typed present = absurd (true≢false (sym present))
maildrop_typed schema db (i ∷ v ∷ []) typed present = text_value v _ _ typed present
maildrop_typed schema db (i ∷ v ∷ w ∷ more) typed present = text_value v _ _ typed present

pub both : {P Q R : Row → Type 0} → ((row : Row) → P row → Q row → R row) → (rows : List Row) → AllByRecursion P rows → AllByRecursion Q rows → AllByRecursion R rows
both f [] p q = tt
both f (row ∷ rows) p q = (f row p.0 q.0, both f rows p.1 q.1)

pub maildrops_typed : (db : Database) → IsOurs db → IsDatabase db → AllByRecursion (λ row. IsText (column row 1)) (db.trees 4)
maildrops_typed db ours sound =
    let obeys : Obeys (schema_of (is_carried db.trees)) db.trees = subst (λ s. Obeys s db.trees) ours sound.obeys in
    both (maildrop_typed (schema_of (is_carried db.trees)) db.trees) (db.trees 4) (obeys.rules Datatype).1.1.0 (obeys.rules NotNull).1.1.0

abbrev pub IsInt : Value → Type 0
IsInt v = (n : ℤ) × (v ≡ Int n)

pub number_is : (v : Value) → IsInt v → v ≡ Int (id_in v)
number_is v it = it.1 ∙ ap (λ x. Int (id_in x)) (sym it.1)

is_text : (v : Value) → is_of kind.Text v ≡ true → not (is_null v) ≡ true → IsText v
is_text Null typed present = absurd (true≢false (sym present))
is_text (Int n) typed present = absurd (true≢false (sym typed))
is_text (Real x) typed present = absurd (true≢false (sym typed))
is_text (Text t) typed present = (t, refl)
is_text (Blob x) typed present = absurd (true≢false (sym typed))

is_int_value : (v : Value) → is_of kind.Integer v ≡ true → not (is_null v) ≡ true → IsInt v
is_int_value Null typed present = absurd (true≢false (sym present))
is_int_value (Int n) typed present = (n, refl)
is_int_value (Real x) typed present = absurd (true≢false (sym typed))
is_int_value (Text t) typed present = absurd (true≢false (sym typed))
is_int_value (Blob x) typed present = absurd (true≢false (sym typed))

count_typed : (schema : Schema) (db : Trees) (row : Row) → passes Datatype schema db (counts_at 6) row ≡ true
    → passes NotNull schema db (counts_at 6) row ≡ true → IsText (column row 1) × IsText (column row 2)
count_typed schema db [] t p = absurd (true≢false (sym p))
count_typed schema db (i ∷ []) t p = absurd (true≢false (sym p))
count_typed schema db (i ∷ a ∷ []) t p = absurd (true≢false (sym (and_parts _ _ p).1))
count_typed schema db (i ∷ a ∷ b ∷ rest) t p =
    let typed = and_parts _ _ (and_parts _ _ t).0 in
    let present = and_parts _ _ p in
    (is_text a typed.0 present.0, is_text b (and_parts _ _ typed.1).0 (and_parts _ _ present.1).0)

deposit_typed : (schema : Schema) (db : Trees) (row : Row) → passes Datatype schema db (deposits_at 8) row ≡ true
    → passes NotNull schema db (deposits_at 8) row ≡ true → IsText (column row 1) × IsText (column row 2)
deposit_typed schema db [] t p = absurd (true≢false (sym p))
deposit_typed schema db (i ∷ []) t p = absurd (true≢false (sym p))
deposit_typed schema db (i ∷ a ∷ []) t p = absurd (true≢false (sym (and_parts _ _ p).1))
deposit_typed schema db (i ∷ a ∷ b ∷ rest) t p =
    let typed = and_parts _ _ (and_parts _ _ t).0 in
    let present = and_parts _ _ p in
    (is_text a typed.0 present.0, is_text b (and_parts _ _ typed.1).0 (and_parts _ _ present.1).0)

message_typed : (schema : Schema) (tree : ℕ) (db : Trees) (row : Row) → passes Datatype schema db (mail_at tree) row ≡ true → passes NotNull schema db (mail_at tree) row ≡ true → IsText (column row 2)
message_typed schema tree db [] t p = absurd (true≢false (sym p))
message_typed schema tree db (i ∷ []) t p = absurd (true≢false (sym p))
message_typed schema tree db (i ∷ a ∷ []) t p = absurd (true≢false (sym p))
message_typed schema tree db (i ∷ a ∷ b ∷ rest) t p =
    let typed = and_parts _ _ (and_parts _ _ t).0 in
    is_text b (and_parts _ _ typed.1).0 (and_parts _ _ p).0

meta_row_typed : (schema : Schema) (db : Trees) (row : Row) → passes Datatype schema db (meta_at 0) row ≡ true → passes NotNull schema db (meta_at 0) row ≡ true → IsText (column row 1)
meta_row_typed schema db [] t p = absurd (true≢false (sym p))
meta_row_typed schema db (i ∷ []) t p = absurd (true≢false (sym p))
meta_row_typed schema db (i ∷ a ∷ rest) t p = is_text a (and_parts _ _ (and_parts _ _ t).0).0 (and_parts _ _ p).0

clerk_typed : (schema : Schema) (db : Trees) (row : Row) → passes Datatype schema db (clerks_at 2) row ≡ true → passes NotNull schema db (clerks_at 2) row ≡ true → IsText (column row 1)
clerk_typed schema db [] t p = absurd (true≢false (sym p))
clerk_typed schema db (i ∷ []) t p = absurd (true≢false (sym p))
clerk_typed schema db (i ∷ a ∷ rest) t p = is_text a (and_parts _ _ (and_parts _ _ t).0).0 (and_parts _ _ p).0

sheet_typed : (schema : Schema) (db : Trees) (row : Row) → passes Datatype schema db (sheets_at 15) row ≡ true
    → passes NotNull schema db (sheets_at 15) row ≡ true → IsInt (column row 1) × IsInt (column row 2)
sheet_typed schema db [] t p = absurd (true≢false (sym p))
sheet_typed schema db (i ∷ []) t p = absurd (true≢false (sym p))
sheet_typed schema db (i ∷ a ∷ []) t p = absurd (true≢false (sym (and_parts _ _ p).1))
sheet_typed schema db (i ∷ a ∷ b ∷ rest) t p =
    let typed = and_parts _ _ (and_parts _ _ t).0 in
    let present = and_parts _ _ p in
    (is_int_value a typed.0 present.0, is_int_value b (and_parts _ _ typed.1).0 (and_parts _ _ present.1).0)

mail_typed : (carried : Bool) (db : Trees) → Obeys (schema_of carried) db → AllByRecursion (λ row. IsText (column row 2)) (db (mail_tree carried))
mail_typed false db obeys = both (message_typed (schema_of false) 10 db) (db 10) (obeys.rules Datatype).1.1.1.1.1.0 (obeys.rules NotNull).1.1.1.1.1.0
mail_typed true db obeys = both (message_typed (schema_of true) 22 db) (db 22) (obeys.rules Datatype).1.1.1.1.1.1.1.1.1.1.1.0 (obeys.rules NotNull).1.1.1.1.1.1.1.1.1.1.1.0

-- in an older store
pub old_meta_rows_typed : (c : Bool) (db : Trees) → Obeys (old_schema c) db → (r : Row) → Has (db 0) r → IsText (column r 1)
old_meta_rows_typed false db obeys r = all_has _ (db 0) r (both (meta_row_typed (old_schema false) db) (db 0) (obeys.rules Datatype).0 (obeys.rules NotNull).0)
old_meta_rows_typed true db obeys r = all_has _ (db 0) r (both (meta_row_typed (old_schema true) db) (db 0) (obeys.rules Datatype).0 (obeys.rules NotNull).0)

-- in a store of any version
pub first_meta_rows_typed : (schema : Schema) (db : Trees) (others : List Table) → schema.tables ≡ meta_at 0 ∷ others → Obeys schema db → (r : Row) → Has (db 0) r → IsText (column r 1)
first_meta_rows_typed schema db others is obeys r =
    let held : (rule : Constraint) → AllByRecursion (λ row. passes rule schema db (meta_at 0) row ≡ true) (db 0) =
    λ rule. (subst (AllByRecursion (λ t. AllByRecursion (λ row. passes rule schema db t row ≡ true) (db t.tree))) is (obeys.rules rule)).0 in
    all_has _ (db 0) r (both (meta_row_typed schema db) (db 0) (held Datatype) (held NotNull))

module _ (db : Database) (ours : IsOurs db) (sound : IsDatabase db) where
  obeys : Obeys (schema_of (is_carried db.trees)) db.trees
  obeys = subst (λ s. Obeys s db.trees) ours sound.obeys

  pub meta_rows_typed : (r : Row) → Has (db.trees 0) r → IsText (column r 1)
  meta_rows_typed r = all_has _ (db.trees 0) r (both (meta_row_typed (schema_of (is_carried db.trees)) db.trees) (db.trees 0) (obeys.rules Datatype).0 (obeys.rules NotNull).0)

  pub clerks_typed : (r : Row) → Has (db.trees 2) r → IsText (column r 1)
  clerks_typed r = all_has _ (db.trees 2) r (both (clerk_typed (schema_of (is_carried db.trees)) db.trees) (db.trees 2) (obeys.rules Datatype).1.0 (obeys.rules NotNull).1.0)

  pub names_typed : (r : Row) → Has (db.trees 4) r → IsText (column r 1)
  names_typed r = all_has _ (db.trees 4) r (maildrops_typed db ours sound)

  pub counts_typed : (r : Row) → Has (db.trees 6) r → IsText (column r 1) × IsText (column r 2)
  counts_typed r = all_has _ (db.trees 6) r (both (count_typed (schema_of (is_carried db.trees)) db.trees) (db.trees 6) (obeys.rules Datatype).1.1.1.0 (obeys.rules NotNull).1.1.1.0)

  pub deposits_typed : (r : Row) → Has (db.trees 8) r → IsText (column r 1) × IsText (column r 2)
  deposits_typed r = all_has _ (db.trees 8) r (both (deposit_typed (schema_of (is_carried db.trees)) db.trees) (db.trees 8) (obeys.rules Datatype).1.1.1.1.0 (obeys.rules NotNull).1.1.1.1.0)

  pub messages_typed : (r : Row) → Has (db.trees (mail_tree (is_carried db.trees))) r → IsText (column r 2)
  messages_typed r = all_has _ (db.trees (mail_tree (is_carried db.trees))) r (mail_typed (is_carried db.trees) db.trees obeys)

  pub sheets_typed : (r : Row) → Has (db.trees 15) r → IsInt (column r 1) × IsInt (column r 2)
  sheets_typed r = all_has _ (db.trees 15) r
      (both (sheet_typed (schema_of (is_carried db.trees)) db.trees) (db.trees 15) (obeys.rules Datatype).1.1.1.1.1.1.1.1.0 (obeys.rules NotNull).1.1.1.1.1.1.1.1.0)
