-- Each column of our tables holds a value of its type, so that each row can be read as a record.
use Rattle.std.proofs.Common.{◌≡◌, inl, inr, IsTrue, ℕ, ◌+◌, suc, Bool, true, false, not, cond, List, [], ◌∷◌, Option, Some, drop, refl, sym, ap, subst, ◌∙◌, true≢false, arith}
use Rattle.std.specs.Prelude.{◌&&◌, ◌||◌, ⊤}
use Rattle.std.specs.List.{AllByRecursion}
use Rattle.std.proofs.lemmas.Bool.{and_parts}
use Rattle.sqlite_value.specs.declared.value.Value.{Value}
use Rattle.sqlite_value.specs.declared.value.Value.TheVariants.{Null, Int, Real, Text, Blob}
use Rattle.sqlite_value.specs.Order.{Row, column}
use Rattle.sqlite_trees.specs.Tree.{Trees, rowid}
use Rattle.sqlite_trees.specs.View.{is_int}
use Rattle.sqlite_schema.specs.declared.schema.Kind.{Kind}
use Rattle.sqlite_schema.specs.declared.schema.Kind.TheVariants as kind
use Rattle.sqlite_schema.specs.declared.schema.Column.{Column}
use Rattle.sqlite_schema.specs.declared.schema.Table.{Table}
use Rattle.sqlite_schema.specs.declared.schema.Schema.{Schema}
use Rattle.sqlite_schema.specs.declared.schema.Constraint.TheVariants.{Datatype, NotNull}
use Rattle.sqlite_schema.specs.Names.{is_key}
use Rattle.sqlite_schema.specs.Rules.{passes, Obeys, suits, is_of, are_typed, are_present}
use Rattle.sqlite_sql.specs.Ops.{is_null}
use Rattle.sqlite_rules.specs.Lists.{Has}
use Rattle.sqlite_rules.proofs.ListLemmas.{all_has}
use Rattle.sqlite.specs.Values.{IsInt}
use Rattle.sqlite.specs.Effect.{Database, IsDatabase}
use Rattle.mailsql.specs.Tables.{schema_of, mail_tree, meta_at, clerks_at, maildrops_at, counts_at, deposits_at, mail_at, rules_at, sheets_at, groups_at, members_at}
use Rattle.mailsql.specs.Rows.{IsOurs, is_carried, AreKeyed, HoldsOctets, HoldsNumber, HoldsMetaRow, HoldsClerk, HoldsName, HoldsCount, HoldsDeposit, HoldsMessage, HoldsSheet}
use Rattle.mailsql.specs.Rows.{HoldsRule, HoldsGroup, HoldsMember}
use Rattle.mailsql.proofs.TypedLemmas.{IsText, both}

abbrev pub IsBlob : Value → Type 0
IsBlob v = (b : List ℕ) × (v ≡ Blob b)

abbrev pub IsOf : Kind → Value → Type 0
IsOf kind.Integer v = IsInt v
IsOf kind.Text v = IsText v
IsOf kind.Blob v = IsBlob v
IsOf kind.Real v = ⊤
IsOf kind.Any v = ⊤

-- but for the column that the rowid stands for
abbrev pub IsOfColumn : Bool → Kind → Value → Type 0
IsOfColumn true k v = ⊤
IsOfColumn false k v = IsOf k v

-- each column, from this one on
abbrev pub Holds : Option ℕ → ℕ → List Column → Row → Type 0
Holds key at [] row = ⊤
Holds key at (c ∷ cs) row = IsOfColumn (is_key key at) c.kind (column row (at + 1)) × Holds key (at + 1) cs row

-- the columns are STRICT and NOT NULL
abbrev pub are_required : Option ℕ → ℕ → List Column → Bool
are_required key at [] = true
are_required key at (c ∷ cs) = (is_key key at || (c.is_strict && c.not_null)) && are_required key (at + 1) cs

not_so : {A : Type 0} → false ≡ true → A
not_so e = absurd (true≢false (sym e))

kind_held : (k : Kind) (v : Value) → is_of k v ≡ true → not (is_null v) ≡ true → IsOf k v
kind_held kind.Integer Null typed present = not_so present
kind_held kind.Integer (Int n) typed present = (n, refl)
kind_held kind.Integer (Real x) typed present = not_so typed
kind_held kind.Integer (Text t) typed present = not_so typed
kind_held kind.Integer (Blob b) typed present = not_so typed
kind_held kind.Text Null typed present = not_so present
kind_held kind.Text (Int n) typed present = not_so typed
kind_held kind.Text (Real x) typed present = not_so typed
kind_held kind.Text (Text t) typed present = (t, refl)
kind_held kind.Text (Blob b) typed present = not_so typed
kind_held kind.Blob Null typed present = not_so present
kind_held kind.Blob (Int n) typed present = not_so typed
kind_held kind.Blob (Real x) typed present = not_so typed
kind_held kind.Blob (Text t) typed present = not_so typed
kind_held kind.Blob (Blob b) typed present = (b, refl)
kind_held kind.Real v typed present = tt
kind_held kind.Any v typed present = tt

column_held : (here : Bool) (c : Column) (v : Value) → (here || (c.is_strict && c.not_null)) ≡ true → cond here (is_null v) (suits c v) ≡ true
    → (here || not c.not_null || not (is_null v)) ≡ true → IsOfColumn here c.kind v
column_held true c v ours typed present = tt
column_held false c v ours typed present =
    let strict = and_parts c.is_strict c.not_null ours in
    kind_held c.kind v (rw strict.0 at typed) (rw strict.1 at present)

-- a NULL that stands for a missing column is not NOT NULL
column_missing : (here : Bool) (c : Column) (v : Value) → v ≡ Null → (here || (c.is_strict && c.not_null)) ≡ true → (here || not c.not_null || not (is_null v)) ≡ true → IsOfColumn here c.kind v
column_missing true c v none ours present = tt
column_missing false c v none ours present =
    let strict = and_parts c.is_strict c.not_null ours in
    not_so (rw (strict.1, none) at present)

this_place : (at : ℕ) → at + 1 + 0 ≡ at + 1
this_place at = omega arith

next_place : (at j : ℕ) → at + 1 + suc j ≡ at + 1 + 1 + j
next_place at j = omega arith

columns_held : (key : Option ℕ) (at : ℕ) (cs : List Column) (vs row : Row) → ((j : ℕ) → column vs j ≡ column row (at + 1 + j))
    → are_required key at cs ≡ true → are_typed key at cs vs ≡ true → are_present key at cs row ≡ true
    → Holds key at cs row
columns_held key at [] vs row same ours typed present = tt
columns_held key at (c ∷ cs) [] row same ours typed present =
    let required = and_parts _ _ ours in
    let there = and_parts _ _ present in
    let none : column row (at + 1) ≡ Null = sym (same 0 ∙ ap (column row) (this_place at)) in (
      column_missing (is_key key at) c (column row (at + 1)) none required.0 there.0,
      columns_held key (at + 1) cs [] row (λ j. same (suc j) ∙ ap (column row) (next_place at j)) required.1 (and_parts _ _ typed).1 there.1,
    )
columns_held key at (c ∷ cs) (v ∷ vs) row same ours typed present =
    let required = and_parts _ _ ours in
    let there = and_parts _ _ present in
    let suited = and_parts _ _ typed in
    let is : v ≡ column row (at + 1) = same 0 ∙ ap (column row) (this_place at) in (
      column_held (is_key key at) c (column row (at + 1)) required.0 (subst (λ w. cond (is_key key at) (is_null w) (suits c w) ≡ true) is suited.0) there.0,
      columns_held key (at + 1) cs vs row (λ j. same (suc j) ∙ ap (column row) (next_place at j)) required.1 suited.1 there.1,
    )

behind : (row : Row) (j : ℕ) → column (drop 1 row) j ≡ column row (0 + 1 + j)
behind [] j = refl
behind (v ∷ vs) j = let next : suc j ≡ 0 + 1 + j = omega arith in ap (column (v ∷ vs)) next

pub row_held : (schema : Schema) (db : Trees) (t : Table) (row : Row) → are_required t.key 0 t.columns ≡ true → passes Datatype schema db t row ≡ true
    → passes NotNull schema db t row ≡ true → Holds t.key 0 t.columns row
row_held schema db t row ours typed present = columns_held t.key 0 t.columns (drop 1 row) row (behind row) ours (and_parts _ _ typed).0 present

pub text_octets : (row : Row) (at : ℕ) → IsText (column row at) → HoldsOctets row at
text_octets row at text = (text.0, inl text.1)

pub blob_octets : (row : Row) (at : ℕ) → IsBlob (column row at) → HoldsOctets row at
blob_octets row at blob = (blob.0, inr blob.1)

number_there : (row : Row) → IsTrue (is_int (rowid row)) → HoldsNumber row 0
number_there row int = go (column row 0) int
  where
    go : (v : Value) → IsTrue (is_int v) → IsInt v
    go Null int = not_so int
    go (Int n) int = (n, refl)
    go (Real x) int = not_so int
    go (Text t) int = not_so int
    go (Blob b) int = not_so int

mail_in : (carried : Bool) (db : Trees) → Obeys (schema_of carried) db → (r : Row) → Has (db (mail_tree carried)) r → Holds (Some 0) 0 (mail_at 10).columns r
mail_in false db obeys r =
    all_has _ (db 10) r (both (λ row. row_held (schema_of false) db (mail_at 10) row refl) (db 10) (obeys.rules Datatype).1.1.1.1.1.0 (obeys.rules NotNull).1.1.1.1.1.0)
mail_in true db obeys r =
    all_has _ (db 22) r (both (λ row. row_held (schema_of true) db (mail_at 22) row refl) (db 22) (obeys.rules Datatype).1.1.1.1.1.1.1.1.1.1.1.0 (obeys.rules NotNull).1.1.1.1.1.1.1.1.1.1.1.0)

module _ (db : Database) (ours : IsOurs db) (sound : IsDatabase db) where
  obeys : Obeys (schema_of (is_carried db.trees)) db.trees
  obeys = subst (λ s. Obeys s db.trees) ours sound.obeys

  pub row_in : (t : Table) → are_required t.key 0 t.columns ≡ true
      → AllByRecursion (λ row. passes Datatype (schema_of (is_carried db.trees)) db.trees t row ≡ true) (db.trees t.tree)
      → AllByRecursion (λ row. passes NotNull (schema_of (is_carried db.trees)) db.trees t row ≡ true) (db.trees t.tree)
      → (r : Row) → Has (db.trees t.tree) r → Holds t.key 0 t.columns r
  row_in t required typed present r = all_has _ (db.trees t.tree) r (both (λ row. row_held (schema_of (is_carried db.trees)) db.trees t row required) (db.trees t.tree) typed present)

  pub meta_rows_held : (r : Row) → Has (db.trees 0) r → HoldsMetaRow r
  meta_rows_held r has = let it = row_in (meta_at 0) refl (obeys.rules Datatype).0 (obeys.rules NotNull).0 r has in (text_octets r 1 it.0, it.1.0)

  pub clerks_held : (r : Row) → Has (db.trees 2) r → HoldsClerk r
  clerks_held r has = let it = row_in (clerks_at 2) refl (obeys.rules Datatype).1.0 (obeys.rules NotNull).1.0 r has in (text_octets r 1 it.0, it.1.0, blob_octets r 3 it.1.1.0)

  pub names_held : (r : Row) → Has (db.trees 4) r → HoldsName r
  names_held r has = let it = row_in (maildrops_at 4) refl (obeys.rules Datatype).1.1.0 (obeys.rules NotNull).1.1.0 r has in text_octets r 1 it.0

  pub counts_held : (r : Row) → Has (db.trees 6) r → HoldsCount r
  counts_held r has = let it = row_in (counts_at 6) refl (obeys.rules Datatype).1.1.1.0 (obeys.rules NotNull).1.1.1.0 r has in (text_octets r 1 it.0, text_octets r 2 it.1.0, it.1.1.0)

  pub deposits_held : (r : Row) → Has (db.trees 8) r → HoldsDeposit r
  deposits_held r has =
      let it = row_in (deposits_at 8) refl (obeys.rules Datatype).1.1.1.1.0 (obeys.rules NotNull).1.1.1.1.0 r has in
      (text_octets r 1 it.0, text_octets r 2 it.1.0, text_octets r 3 it.1.1.0, it.1.1.1.0, blob_octets r 5 it.1.1.1.1.0)

  -- the columns of a message, but for its key
  pub messages_in : (r : Row) → Has (db.trees (mail_tree (is_carried db.trees))) r → Holds (Some 0) 0 (mail_at 10).columns r
  messages_in = mail_in (is_carried db.trees) db.trees obeys

  pub messages_held : AreKeyed (db.trees (mail_tree (is_carried db.trees))) → (r : Row) → Has (db.trees (mail_tree (is_carried db.trees))) r → HoldsMessage r
  messages_held keyed r has =
      let it = messages_in r has in
      (number_there r (all_has _ (db.trees (mail_tree (is_carried db.trees))) r keyed.1 has), text_octets r 2 it.1.0, text_octets r 3 it.1.1.0, it.1.1.1.0, it.1.1.1.1.0)

  pub rules_held : AreKeyed (db.trees 13) → (r : Row) → Has (db.trees 13) r → HoldsRule r
  rules_held keyed r has =
      let it = row_in (rules_at 13) refl (obeys.rules Datatype).1.1.1.1.1.1.1.0 (obeys.rules NotNull).1.1.1.1.1.1.1.0 r has in (
        number_there r (all_has _ (db.trees 13) r keyed.1 has),
        text_octets r 2 it.1.0,
        it.1.1.0,
        text_octets r 4 it.1.1.1.0,
        text_octets r 5 it.1.1.1.1.0,
        text_octets r 6 it.1.1.1.1.1.0,
        it.1.1.1.1.1.1.0,
      )

  pub sheets_held : (r : Row) → Has (db.trees 15) r → HoldsSheet r
  sheets_held r has = let it = row_in (sheets_at 15) refl (obeys.rules Datatype).1.1.1.1.1.1.1.1.0 (obeys.rules NotNull).1.1.1.1.1.1.1.1.0 r has in (it.0, it.1.0, blob_octets r 3 it.1.1.0)

  pub groups_held : AreKeyed (db.trees 17) → (r : Row) → Has (db.trees 17) r → HoldsGroup r
  groups_held keyed r has =
      let it = row_in (groups_at 17) refl (obeys.rules Datatype).1.1.1.1.1.1.1.1.1.0 (obeys.rules NotNull).1.1.1.1.1.1.1.1.1.0 r has in
      (number_there r (all_has _ (db.trees 17) r keyed.1 has), text_octets r 2 it.1.0)

  pub members_in : (r : Row) → Has (db.trees 19) r → IsInt (column r 1) × IsInt (column r 2) × IsText (column r 3)
  members_in r has = let it = row_in (members_at 19) refl (obeys.rules Datatype).1.1.1.1.1.1.1.1.1.1.0 (obeys.rules NotNull).1.1.1.1.1.1.1.1.1.1.0 r has in (it.0, it.1.0, it.1.1.0)

  pub members_held : (r : Row) → Has (db.trees 19) r → HoldsMember r
  members_held r has = let it = members_in r has in (it.0, it.1, text_octets r 3 it.2)
