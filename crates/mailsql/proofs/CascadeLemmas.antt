-- DELETE of the rows of a table takes with it those that refer to them: sheets go with their message, members with their group.
use Rattle.std.proofs.Common.{◌≡◌, ◌≢◌, ◌⊎◌, inl, inr, ℕ, zero, suc, ℤ, Bool, true, false, not, cond, List, [], ◌∷◌, ◌++◌, length, length-append, map, Ok, refl, sym, ap, subst}
use Rattle.std.proofs.Common.{subst₂, ◌∙◌, arith, true≢false}
use Rattle.std.specs.List.{list_any}
use Rattle.std.proofs.lemmas.Bool.{cases_Bool, or_parts, and_parts}
use Rattle.sqlite_tied.specs.Compute.{everything}
use Rattle.sqlite_value.specs.Keys.{joined, first_key}
use Rattle.sqlite_value.specs.Order.{Row}
use Rattle.sqlite_trees.specs.Tree.{Trees, rowid}
use Rattle.sqlite_schema.specs.Names.{same_name}
use Rattle.sqlite_schema.specs.declared.schema.Keys.TheVariants.{Enforced}
use Rattle.sqlite_rules.specs.declared.error.Rowids.TheVariants.{Given}
use Rattle.sqlite_rules.specs.declared.action.Deed.TheVariants.{Delete}
use Rattle.sqlite_rules.specs.Lists.{Has}
use Rattle.sqlite_rules.specs.Edit.{Edit, edit_of, taken_by, without_all, Applies}
use Rattle.sqlite_rules.specs.Action.{Work, works, pairs, loses, is_child_of, AreChildren, Leads, Acts, ActsOn, Writes}
use Rattle.sqlite_rules.proofs.ListLemmas.{some_has, some_from, all_has, has_filtered, has_kept}
use Rattle.sqlite_rules.proofs.PlaceLemmas.{tied_same, row_at_is}
use Rattle.sqlite_rules.proofs.TableLemmas.{int_is}
use Rattle.sqlite_rules.specs.Edit.{id_in, row_at}
use Rattle.sqlite_rules.specs.Calls.{ids_of}
use Rattle.sqlite_value.specs.declared.value.Value.{Value}
use Rattle.sqlite_value.specs.declared.value.Value.TheVariants.{Null, Int}
use Rattle.sqlite_value.specs.declared.keys.Collation.TheVariants.{Binary}
use Rattle.sqlite_value.specs.Order.{value_cmp, column}
use Rattle.sqlite_value.proofs.OrderLemmas.{value_cmp_total}
use Rattle.sqlite_schema.specs.Rules.{equal}
use Rattle.sqlite_trees.specs.Tree.{has_rowid}
use Rattle.sqlite_trees.specs.View.{is_int}
use Rattle.std.proofs.Common.{filter, is_eq, IsTrue}
use Rattle.std.specs.Prelude.{◌&&◌, codes}
use Rattle.sqlite_schema.specs.declared.schema.Action.TheVariants as action
use Rattle.sqlite_schema.specs.declared.schema.Table.{Table}
use Rattle.sqlite_schema.specs.declared.schema.Schema.{Schema}
use Rattle.sqlite_trees.specs.Objects.{catalog_tree}
use Rattle.sqlite_schema.specs.declared.schema.Reference.{Reference}
use Rattle.std.specs.List.Sorted.{IsPermutation}
use Rattle.std.proofs.lemmas.Bool.{and_from}
use Rattle.std.proofs.lemmas.Cmp.{tied_itself}
use Rattle.std.proofs.lemmas.List.Sorted.{IsPermutation-sym}
use Rattle.mailsql.specs.Rows.{Rows, AreKeyed, AreKept, is_carried, rows_in, message_of, sheet_of, group_of, member_of, same_int}
use Rattle.mailsql.proofs.WithoutLemmas.{without_all_filters, filter_same, bool_same, tie, has_mapped, mapped_has, has_permuted}
use Rattle.mailsql.proofs.KeptLemmas.{applied_kept}
use Rattle.mailsql.proofs.FrameLemmas.{Frame, framed, frame_none, not_mail, mail_apart, sheets_alone, groups_alone, members_alone, mail_alone}
use Rattle.mailsql.proofs.EqualLemmas.{int_equal, null_unequal, same_itself}
use Rattle.mailsql.proofs.FindLemmas.{and_true}
use Rattle.mailsql.specs.Tables.{schema_of, mail_tree, mail_at, sheets_at, groups_at, members_at, plain_order}

-- if no key is lost, nothing acts
pub still_meta : (c : Bool) (olds : List Row) → works (schema_of c) Enforced 0 0 olds [] ≡ []
unfolding everything same_name joined
still_meta false olds = refl
still_meta true olds = refl

pub still_clerks : (c : Bool) (olds : List Row) → works (schema_of c) Enforced 0 2 olds [] ≡ []
unfolding everything same_name joined
still_clerks false olds = refl
still_clerks true olds = refl

pub still_maildrops : (c : Bool) (olds : List Row) → works (schema_of c) Enforced 0 4 olds [] ≡ []
unfolding everything same_name joined
still_maildrops false olds = refl
still_maildrops true olds = refl

pub still_counts : (c : Bool) (olds : List Row) → works (schema_of c) Enforced 0 6 olds [] ≡ []
unfolding everything same_name joined
still_counts false olds = refl
still_counts true olds = refl

pub still_rules : (c : Bool) (olds : List Row) → works (schema_of c) Enforced 0 13 olds [] ≡ []
unfolding everything same_name joined
still_rules false olds = refl
still_rules true olds = refl

pub still_sheets : (c : Bool) (depth : ℕ) (olds : List Row) → works (schema_of c) Enforced depth 15 olds [] ≡ []
unfolding everything same_name joined
still_sheets false depth olds = refl
still_sheets true depth olds = refl

pub still_members : (c : Bool) (depth : ℕ) (olds : List Row) → works (schema_of c) Enforced depth 19 olds [] ≡ []
unfolding everything same_name joined
still_members false depth olds = refl
still_members true depth olds = refl

pub still_bodies : (olds : List Row) → works (schema_of true) Enforced 0 10 olds [] ≡ []
unfolding everything same_name joined
still_bodies olds = refl

-- a first column that refers to the rowid of a parent, and goes with it
abbrev pub ref_to : List ℕ → Reference
ref_to parent = record { columns = 1 ∷ []; parent = parent; parent_columns = []; on_delete = action.Cascade; on_update = action.NoAction; is_deferred = false }

abbrev pub loss : List Row → Bool
loss olds = list_any (loses plain_order (0 ∷ [])) (pairs olds [])

-- what the rows that go do to the children
abbrev pub cascade : Table → List ℕ → List Row → Work
cascade child parent olds = record { depth = 0; child = child; ref = ref_to parent; places = 0 ∷ []; order = plain_order; deed = Delete; moves = pairs olds [] }

-- the children of a parent are acted on, and nothing is by them
pub record Acting (carried : Bool) (table child : Table) (parent : List ℕ) : Type 0 where
  pub acts : (olds : List Row) (b : Bool) → loss olds ≡ b → works (schema_of carried) Enforced 0 table.tree olds [] ≡ cond b (cascade child parent olds ∷ []) []
  pub still : (olds : List Row) → works (schema_of carried) Enforced 1 child.tree olds [] ≡ []
  pub keyed : (db : Trees) → AreKept (schema_of carried).tables db → AreKeyed (db child.tree)
  pub child_stays : (db next : Trees) → Frame carried table.tree db next → next child.tree ≡ db child.tree
  pub parent_stays : (db next : Trees) → Frame carried child.tree db next → next table.tree ≡ db table.tree
  pub table_low : table.tree ≢ catalog_tree
  pub child_low : child.tree ≢ catalog_tree

sheets_act : (c : Bool) (olds : List Row) (b : Bool) → loss olds ≡ b → works (schema_of c) Enforced 0 (mail_tree c) olds [] ≡ cond b (cascade (sheets_at 15) (codes "mail") olds ∷ []) []
unfolding everything same_name joined
sheets_act false olds true e = rw e refl
sheets_act false olds false e = rw e refl
sheets_act true olds true e = rw e refl
sheets_act true olds false e = rw e refl

pub mail_acting : (c : Bool) → Acting c (mail_at (mail_tree c)) (sheets_at 15) (codes "mail")
mail_acting c = record {
  acts = sheets_act c;
  still = still_sheets c 1;
  keyed = λ db kept. kept.1.1.1.1.1.1.1.1.0;
  child_stays = λ db next f. f.sheets (mail_apart c 15 (λ e. absurd (omega arith)) (λ e. absurd (omega arith)));
  parent_stays = λ db next f. f.mail (not_mail c 15 (λ e. absurd (omega arith)) (λ e. absurd (omega arith)));
  table_low = not_mail c catalog_tree (λ e. absurd (omega arith)) (λ e. absurd (omega arith));
  child_low = λ e. absurd (omega arith);
}

members_act : (c : Bool) (olds : List Row) (b : Bool) → loss olds ≡ b → works (schema_of c) Enforced 0 17 olds [] ≡ cond b (cascade (members_at 19) (codes "groups") olds ∷ []) []
unfolding everything same_name joined
members_act false olds true e = rw e refl
members_act false olds false e = rw e refl
members_act true olds true e = rw e refl
members_act true olds false e = rw e refl

pub groups_acting : (c : Bool) → Acting c (groups_at 17) (members_at 19) (codes "groups")
groups_acting c = record {
  acts = members_act c;
  still = still_members c 1;
  keyed = λ db kept. kept.1.1.1.1.1.1.1.1.1.1.0;
  child_stays = λ db next f. f.members (λ e. absurd (omega arith));
  parent_stays = λ db next f. f.groups (λ e. absurd (omega arith));
  table_low = λ e. absurd (omega arith);
  child_low = λ e. absurd (omega arith);
}

settled : (schema : Schema) (n : ℕ) (now next : Trees) → Leads schema Enforced n now [] (Ok next) → now ≡ next
settled schema zero now next h = let e = h.1 in cc
settled schema (suc n) now next h = absurd (omega (arith, ap length h.2, length-append h.0 (h.1 ∷ [])))

none_below : (below : List Work) (w x : Work) → x ∷ [] ≡ below ++ w ∷ [] → (below ≡ []) × (x ≡ w)
none_below [] w x e = (refl, cc)
none_below (y ∷ below) w x e = absurd (omega (arith, ap length e, length-append below (w ∷ [])))

module _ (carried : Bool) (table child : Table) (parent : List ℕ) (acting : Acting carried table child parent) where
  -- the rows are taken out, and then the children that were of them
  pub record Cascaded (db : Trees) (edit : Edit) (next : Trees) : Type 0 where
    pub mid : Trees
    pub first : Applies (schema_of carried) Enforced db edit mid
    pub ids : List ℤ
    pub children : AreChildren mid (cascade child parent (taken_by db edit)) ids
    pub rest : (ids ≡ []) × (next ≡ mid) ⊎ Applies (schema_of carried) Enforced mid (edit_of mid child ids Given 0 []) next

  no_child : (olds : List Row) (row : Row) → loss olds ≡ false → list_any (is_child_of (cascade child parent olds) row) (pairs olds []) ≡ true → ⊥
  no_child olds row none some = go (pairs olds []) none some
    where
      go : (moves : List (Row × Row)) → list_any (loses plain_order (0 ∷ [])) moves ≡ false → list_any (is_child_of (cascade child parent olds) row) moves ≡ true → ⊥
      go [] n s = cc
      go (m ∷ moves) n s =
          let apart = or_parts (loses plain_order (0 ∷ []) m) (list_any (loses plain_order (0 ∷ [])) moves) n in
          let it = some_has (is_child_of (cascade child parent olds) row) (m ∷ moves) s in
          elim it.1 [
            | inl e ↦ true≢false (sym (and_parts _ _ it.2).0 ∙ ap (loses plain_order (0 ∷ [])) e ∙ apart.0)
            | inr later ↦ go moves apart.1 (some_from (is_child_of (cascade child parent olds) row) moves it.0 later it.2)
          ]

  abbrev Then : Trees → Trees → List Work → Type 0
  Then mid next stack = (n : ℕ) × Leads (schema_of carried) Enforced n mid stack (Ok next)

  acted : (mid next : Trees) (olds : List Row) (ids : List ℤ) (n : ℕ) → ActsOn (schema_of carried) Enforced (Leads (schema_of carried) Enforced n) mid (cascade child parent olds) [] (Ok next) ids
      → (ids ≡ []) × (next ≡ mid) ⊎ Applies (schema_of carried) Enforced mid (edit_of mid child ids Given 0 []) next
  acted mid next olds [] n h = inl (refl, sym (settled (schema_of carried) n mid next h))
  acted mid next olds (id ∷ ids) n (inl refused) = absurd (let e = refused.2 in cc)
  acted mid next olds (id ∷ ids) n (inr (inl big)) = absurd (let e = big.3 in cc)
  acted mid next olds (id ∷ ids) n (inr (inr went)) =
      let edit = edit_of mid child (id ∷ ids) Given 0 [] in
      inr (subst (Applies (schema_of carried) Enforced mid edit) (settled (schema_of carried) n went.0 next (rw (acting.still (taken_by mid edit)) at went.2)) went.1)

  ended : (db mid next : Trees) (edit : Edit) → Applies (schema_of carried) Enforced db edit mid → (n : ℕ)
      → Leads (schema_of carried) Enforced n mid (cascade child parent (taken_by db edit) ∷ []) (Ok next) → Cascaded db edit next
  ended db mid next edit first zero h = absurd (let e = h.0 in cc)
  ended db mid next edit first (suc n) h =
      let w = cascade child parent (taken_by db edit) in
      let is = none_below h.0 h.1 w h.2 in
      let acts = subst₂ (λ below v. Acts (schema_of carried) Enforced (Leads (schema_of carried) Enforced n) mid v below (Ok next)) is.0 (sym is.1) h.3 in
      record { mid = mid; first = first; ids = acts.0; children = acts.1; rest = acted mid next (taken_by db edit) acts.0 n acts.2 }

  pub cascades : (db next : Trees) (gone : List ℤ) → Writes (schema_of carried) Enforced db (edit_of db table gone Given 0 []) (Ok next) → Cascaded db (edit_of db table gone Given 0 []) next
  cascades db next gone (inl refused) = absurd (let e = refused.2 in cc)
  cascades db next gone (inr (inl big)) = absurd (let e = big.3 in cc)
  cascades db next gone (inr (inr went)) =
      let edit = edit_of db table gone Given 0 [] in
      let olds = taken_by db edit in
      elim (cases_Bool (loss olds)) [
        | inl lost ↦ let on = rw (acting.acts olds true lost) at went.2 in ended db went.0 next edit went.1 on.0 on.1
        | inr none ↦
            let on = rw (acting.acts olds false none) at went.2 in
            record {
              mid = went.0;
              first = went.1;
              ids = [];
              children = record { rise = tt; sound = λ id h. absurd h; complete = λ r id h child e. absurd (no_child olds r none child) };
              rest = inl (refl, sym (settled (schema_of carried) on.0 went.0 next on.1));
            }
      ]

-- ---- what is left of the children

without_ids : (ids : List ℤ) (rows : List Row) (q : Row → Bool) → AreKeyed rows → ((id : ℤ) → Has ids id → (r : Row) × Has rows r × (q r ≡ true) × (rowid r ≡ Int id))
    → ((r : Row) (id : ℤ) → Has rows r → q r ≡ true → rowid r ≡ Int id → Has ids id) → without_all rows ids ≡ filter (λ r. not (q r)) rows
without_ids ids rows q keyed sound complete =
    without_all_filters ids rows ∙ filter_same _ _ rows (λ r h. ap not (bool_same (list_any (λ id. has_rowid id r) ids) (q r)
    (λ taken.
    let found = some_has (λ id. has_rowid id r) ids taken in
    let from = sound found.0 found.1 in
    let tied = tie _ (subst (λ v. is_eq (value_cmp (rowid r) v) ≡ true) (sym from.3) found.2) in
    ap q (tied_same rows r from.0 keyed.0 h from.1 tied) ∙ from.2)
    (λ passes.
    let id = id_in (rowid r) in
    let is : rowid r ≡ Int id = int_is (rowid r) (all_has (λ x. IsTrue (is_int (rowid x))) rows r keyed.1 h) in
    some_from (λ i. has_rowid i r) ids id (complete r id h passes is) (ap (λ v. is_eq (value_cmp (rowid r) v)) (sym is) ∙ ap is_eq (tied_itself value_cmp_total (rowid r))))))

module _ (carried : Bool) (table child : Table) (parent : List ℕ) (acting : Acting carried table child parent) where
  pub record Swept (db : Trees) (edit : Edit) (next : Trees) : Type 0 where
    pub parents : next table.tree ≡ without_all (db table.tree) edit.gone
    pub children : next child.tree ≡ filter (λ r. not (list_any (is_child_of (cascade child parent (taken_by db edit)) r) (pairs (taken_by db edit) []))) (db child.tree)
    pub mid : Trees
    pub first : Frame carried table.tree db mid
    pub second : Frame carried child.tree mid next
    pub kept : AreKept (schema_of carried).tables next

  pub swept : (db next : Trees) (gone : List ℤ) → AreKept (schema_of carried).tables db
      → Cascaded carried table child parent acting db (edit_of db table gone Given 0 []) next → Swept db (edit_of db table gone Given 0 []) next
  swept db next gone kept c =
      let edit = edit_of db table gone Given 0 [] in
      let first = framed db c.mid edit acting.table_low c.first in
      let mid_kept = applied_kept db c.mid edit c.first kept in
      let same : c.mid child.tree ≡ db child.tree = acting.child_stays db c.mid first in
      let q = λ (r : Row). list_any (is_child_of (cascade child parent (taken_by db edit)) r) (pairs (taken_by db edit) []) in
      let left : without_all (c.mid child.tree) c.ids ≡ filter (λ r. not (q r)) (db child.tree) =
      without_ids c.ids (c.mid child.tree) q (acting.keyed c.mid mid_kept) c.children.sound c.children.complete ∙ ap (filter (λ r. not (q r))) same in
      elim c.rest as (λ _. Swept db edit next) [
        | inl none ↦
            let now = none.1 in
            record {
              parents = ap (λ (t : Trees). t table.tree) now ∙ c.first.rows;
              children = ap (λ (t : Trees). t child.tree) now ∙ ap (without_all (c.mid child.tree)) (sym none.0) ∙ left;
              mid = c.mid;
              first = first;
              second = subst (Frame carried child.tree c.mid) (sym now) (frame_none carried child.tree c.mid);
              kept = subst (AreKept (schema_of carried).tables) (sym now) mid_kept;
            }
        | inr more ↦
            let second = framed c.mid next (edit_of c.mid child c.ids Given 0 []) acting.child_low more in
            record {
              parents = acting.parent_stays c.mid next second ∙ c.first.rows;
              children = more.rows ∙ left;
              mid = c.mid;
              first = first;
              second = second;
              kept = applied_kept c.mid next _ more mid_kept;
            }
      ]

pub messages_swept : (db mid next : Trees) → Frame (is_carried db) (mail_tree (is_carried db)) db mid → Frame (is_carried db) 15 mid next
    → rows_in next ≡ record (rows_in db) { messages = map message_of (next (mail_tree (is_carried db))); sheets = map sheet_of (next 15) }
messages_swept db mid next a b =
    sheets_alone mid next (subst (λ c. Frame c 15 mid next) (sym a.same) b)
    ∙ ap (λ (r : Rows). let x : Rows = record r { sheets = map sheet_of (next 15) } in x) (mail_alone db mid a)
    ∙ ap (λ l. let x : Rows = record (rows_in db) { messages = map message_of l; sheets = map sheet_of (next 15) } in x)
    (sym (b.mail (not_mail (is_carried db) 15 (λ e. absurd (omega arith)) (λ e. absurd (omega arith)))))

pub groups_swept : (db mid next : Trees) → Frame (is_carried db) 17 db mid → Frame (is_carried db) 19 mid next
    → rows_in next ≡ record (rows_in db) { groups = map group_of (next 17); members = map member_of (next 19) }
groups_swept db mid next a b =
    members_alone mid next (subst (λ c. Frame c 19 mid next) (sym a.same) b)
    ∙ ap (λ (r : Rows). let x : Rows = record r { members = map member_of (next 19) } in x) (groups_alone db mid a)
    ∙ ap (λ l. let x : Rows = record (rows_in db) { groups = map group_of l; members = map member_of (next 19) } in x) (sym (b.groups (λ e. absurd (omega arith))))

-- ---- the children of a row

child_value : (m k : ℤ) → ((equal Binary (Int k) (Int k) && true) && not (equal Binary (Int k) Null && true)) && (equal Binary (Int m) (Int k) && true) ≡ same_int m k
child_value m k = rw (int_equal k k, same_itself k, null_unequal k, int_equal m k) (and_true (same_int m k))

abbrev Child : Value → Value → Bool
Child a b = ((equal Binary b b && true) && not (equal Binary b Null && true)) && (equal Binary a b && true)

child_at : (child : Table) (parent : List ℕ) (olds : List Row) (r y : Row) (m k : ℤ) → column r 1 ≡ Int m → column y 0 ≡ Int k → is_child_of (cascade child parent olds) r (y, []) ≡ same_int m k
unfolding joined first_key
child_at child parent olds r y m k a b = ap (λ v. Child v (column y 0)) a ∙ ap (λ v. Child (Int m) v) b ∙ child_value m k

pairs_have : (olds : List Row) (move : Row × Row) → Has (pairs olds []) move → (y : Row) × Has olds y × (move ≡ (y, []))
pairs_have [] move h = absurd h
pairs_have (old ∷ olds) move (inl e) = (old, inl refl, e)
pairs_have (old ∷ olds) move (inr h) = let it = pairs_have olds move h in (it.0, inr it.1, it.2)

have_pairs : (olds : List Row) (y : Row) → Has olds y → Has (pairs olds []) (y, [])
have_pairs [] y h = absurd h
have_pairs (old ∷ olds) y (inl e) = inl (ap (λ x. (x, [])) e)
have_pairs (old ∷ olds) y (inr h) = inr (have_pairs olds y h)

module _ (rows shown : List Row) (p : Row → Bool) (keyed : AreKeyed rows) (same : IsPermutation (map (λ r. rowid r ∷ []) (filter p rows)) shown) where
  pub row_id : (y : Row) → Has rows y → rowid y ≡ Int (id_in (rowid y))
  row_id y h = int_is (rowid y) (all_has (λ x. IsTrue (is_int (rowid x))) rows y keyed.1 h)

  at_id : (y : Row) → Has rows y → row_at rows (id_in (rowid y)) ≡ y
  at_id y h = row_at_is rows (id_in (rowid y)) y keyed.0 h (ap (λ v. is_eq (value_cmp (rowid y) v)) (sym (row_id y h)) ∙ ap is_eq (tied_itself value_cmp_total (rowid y)))

  pub taken_pass : (x : Row) → Has (map (row_at rows) (ids_of shown)) x → Has (filter p rows) x
  taken_pass x h =
      let at = mapped_has (row_at rows) (ids_of shown) x h in
      let seen = mapped_has (λ s. id_in (rowid s)) shown at.0 at.1 in
      let from = mapped_has (λ r. rowid r ∷ []) (filter p rows) seen.0 (has_permuted shown _ seen.0 (IsPermutation-sym _ shown same) seen.1) in
      let id : at.0 ≡ id_in (rowid from.0) = seen.2 ∙ ap (λ s. id_in (rowid s)) from.2 in
      let is : x ≡ from.0 = at.2 ∙ ap (row_at rows) id ∙ at_id from.0 (has_filtered p rows from.0 from.1).0 in
      subst (Has (filter p rows)) (sym is) from.1

  pub pass_taken : (y : Row) → Has (filter p rows) y → Has (map (row_at rows) (ids_of shown)) y
  pass_taken y h =
      let there = has_permuted _ shown (rowid y ∷ []) same (has_mapped (λ r. rowid r ∷ []) (filter p rows) y h) in
      let id = has_mapped (λ s. id_in (rowid s)) shown (rowid y ∷ []) there in
      subst (Has (map (row_at rows) (ids_of shown))) (at_id y (has_filtered p rows y h).0) (has_mapped (row_at rows) (ids_of shown) (id_in (rowid y)) id)

  -- a row is a child of the rows that were taken if its number is that of one that passes
  pub child_is : {X : Type 0} (child : Table) (parent : List ℕ) (f : Row → X) (q : X → Bool) (key : X → ℤ) (r : Row) (m : ℤ) → column r 1 ≡ Int m
      → ((y : Row) → Has rows y → p y ≡ q (f y)) → ((y : Row) → id_in (rowid y) ≡ key (f y))
      → list_any (is_child_of (cascade child parent (map (row_at rows) (ids_of shown))) r) (pairs (map (row_at rows) (ids_of shown)) []) ≡ list_any (λ x. q x && same_int m (key x)) (map f rows)
  child_is child parent f q key r m number passes keys =
      let olds = map (row_at rows) (ids_of shown) in
      bool_same (list_any (is_child_of (cascade child parent olds) r) (pairs olds [])) (list_any (λ x. q x && same_int m (key x)) (map f rows))
      (λ some.
      let it = some_has (is_child_of (cascade child parent olds) r) (pairs olds []) some in
      let move = pairs_have olds it.0 it.1 in
      let y = move.0 in
      let there = has_filtered p rows y (taken_pass y move.1) in
      let is : same_int m (id_in (rowid y)) ≡ true = sym (child_at child parent olds r y m (id_in (rowid y)) number (row_id y there.0))
      ∙ ap (is_child_of (cascade child parent olds) r) (sym move.2) ∙ it.2 in
      some_from (λ x. q x && same_int m (key x)) (map f rows) (f y) (has_mapped f rows y there.0) (and_from _ _ (sym (passes y there.0) ∙ there.1) (ap (same_int m) (sym (keys y)) ∙ is)))
      (λ some.
      let it = some_has (λ x. q x && same_int m (key x)) (map f rows) some in
      let from = mapped_has f rows it.0 it.1 in
      let y = from.0 in
      let both = and_parts _ _ it.2 in
      let pass : p y ≡ true = passes y from.1 ∙ ap q (sym from.2) ∙ both.0 in
      let is : same_int m (id_in (rowid y)) ≡ true = ap (same_int m) (keys y ∙ ap key (sym from.2)) ∙ both.1 in
      some_from (is_child_of (cascade child parent olds) r) (pairs olds []) (y, []) (have_pairs olds y (pass_taken y (has_kept p rows y from.1 pass)))
      (child_at child parent olds r y m (id_in (rowid y)) number (row_id y from.1) ∙ is))
