-- The statements on groups.
use Rattle.std.proofs.Common.{false, ◌≡◌, ℕ, ℤ, pos, Bool, true, not, List, [], ◌∷◌, ◌++◌, map, filter, Option, Some, None, Ok, refl, sym, ap, ap₂, subst, ◌∙◌, arith}
use Rattle.std.specs.Prelude.{fold, ◌+ℤ◌, ◌&&◌, ◌||◌, codes}
use Rattle.std.specs.List.{list_any, list_all}
use Rattle.std.proofs.lemmas.Bool.{and_parts}
use Rattle.std.proofs.lemmas.Bool.Decides.{nat_tests}
use Rattle.std.proofs.lemmas.Int.{ints}
use Rattle.sqlite_tied.specs.Compute.{everything}
use Rattle.sqlite_value.specs.declared.value.Value.TheVariants.{Null, Int, Text}
use Rattle.sqlite_value.specs.Order.{Row, column}
use Rattle.sqlite_trees.specs.Tree.{Trees, rowid, put_row}
use Rattle.sqlite_sql.specs.Term.{lit, col}
use Rattle.sqlite_schema.specs.declared.command.Command.{Command}
use Rattle.sqlite_schema.specs.declared.command.Command.TheVariants.{Delete}
use Rattle.sqlite_rules.specs.declared.error.Rowids.TheVariants.{Chosen}
use Rattle.sqlite_rules.specs.Edit.{next_rowid, id_in, row_at}
use Rattle.sqlite_rules.specs.Calls.{ids_of}
use Rattle.sqlite_rules.specs.Lists.{Has}
use Rattle.sqlite_rules.specs.Action.{pairs, is_child_of}
use Rattle.sqlite_sql.specs.Program.{overlay}
use Rattle.sqlite.specs.Rows.{Written}
use Rattle.sqlite.specs.Effect.{Database, IsDatabase}
use Rattle.sqlite.specs.Does.{Tally, Does}
use Rattle.sqlite.specs.Listing.{understood}
use Rattle.sqlite.specs.State.{State, IsLive, mode_of, Executes, CommitsBy, Shown}
use Rattle.sqlite.proofs.Callers.{IsPlain, command_of}
use Rattle.mailsql.specs.Tables.{schema_of, groups_at, members_at}
use Rattle.mailsql.proofs.Statements as st
use Rattle.mailsql.specs.Rows as m
use Rattle.mailsql.specs.Changes as ch
use Rattle.mailsql.specs.Rows.{Name, Rows, is_carried, rows_in, IsKept, IsReady, MayLeave, Changes, same_int}
use Rattle.mailsql.proofs.RowLemmas.{next_last, appended}
use Rattle.mailsql.proofs.WriteLemmas.{inserted, went, same_value}
use Rattle.mailsql.proofs.KeptLemmas.{applied_kept, keyed_apart}
use Rattle.mailsql.proofs.FrameLemmas as frame
use Rattle.mailsql.proofs.FrameLemmas.{framed, kept_framed}
use Rattle.mailsql.proofs.CastLemmas.{cast_null, cast_int}
use Rattle.mailsql.proofs.StateLemmas.{changes, commits}
use Rattle.mailsql.proofs.EqualLemmas.{nothing_kept, kept_map}
use Rattle.mailsql.proofs.QueryLemmas.{passes, selected, shown_rows}
use Rattle.mailsql.proofs.WithoutLemmas.{without_shown}
use Rattle.mailsql.proofs.CascadeLemmas.{cascade, groups_acting, cascades, swept, groups_swept, child_is}
use Rattle.mailsql.proofs.TypedLemmas.{number_is}
use Rattle.mailsql.proofs.HeldLemmas.{members_in}
use Rattle.mailsql.proofs.KeyLemmas.{members_have_groups}
use Rattle.mailsql.proofs.ReadLemmas.{Asks, kept, sound, everything_listed}

place_from : (start : ℤ) (rows : List Row) → fold (λ _ (g : m.Group). g.place +ℤ pos 1) start (map m.group_of rows) ≡ fold (λ _ r. id_in (rowid r) +ℤ pos 1) start rows
place_from start [] = refl
place_from start (r ∷ rows) = place_from (id_in (rowid r) +ℤ pos 1) rows

pub add_group_is : (c : Bool) → command_of (understood (schema_of c) st.add_group_text) ≡ st.add_group_command
unfolding understood everything
add_group_is false = refl
add_group_is true = refl

pub add_group_plain : (c : Bool) → IsPlain (understood (schema_of c) st.add_group_text)
unfolding understood everything
add_group_plain false = (refl, refl)
add_group_plain true = (refl, refl)

add_group_tail : Name → Row
add_group_tail name = Null ∷ Text name ∷ []

add_group_does : (name : Name) (limit : Option ℕ) (s : State) (text : List ℕ) (tally : Tally) (after : Database) → IsKept s.now → IsDatabase s.now
    → Does limit (mode_of s) (Text name ∷ []) s.now text None st.add_group_command (Ok (tally, after)) → ch.AddsGroup name (rows_in s.now.trees) (rows_in after.trees) × IsKept after
unfolding add_group_tail
add_group_does name limit s text tally after kept sound h =
    let db = s.now.trees in
    let params = Text name ∷ [] in
    let here = subst (λ sch. Does limit (mode_of s) params (record s.now { schema = sch }) text None st.add_group_command (Ok (tally, after))) kept.0 h in
    let made = inserted limit (schema_of (is_carried db)) _ 17 _ (Some 0) (0 ∷ []) _ _ ([]) params 9 3 (lit Null ∷ lit Null ∷ col 0 0 ∷ []) db tally after here in
    let next = made.0 in
    let tail = add_group_tail name in
    let rows : next 17 ≡ put_row (Int (next_rowid (db 17)) ∷ tail) (db 17) = simp (cast_null, cast_int) at made.1.rows in
    let last = rows ∙ next_last Chosen tail (db 17) kept.1.1.1.1.1.1.1.1.1.1.0 in
    let change = frame.groups_alone db next (framed db next _ (λ e. absurd (omega arith)) made.1)
    ∙ ap (λ l. let r : Rows = record (rows_in db) { groups = l } in r) (appended m.group_of (db 17) (next 17) (Int (next_rowid (db 17)) ∷ tail) last
    ∙ ap (λ n. map m.group_of (db 17) ++ (let g : m.Group = record { place = n; name = name } in g) ∷ []) (sym (place_from (pos 1) (db 17)))) in (
      ap (λ (d : Database). rows_in d.trees) made.2 ∙ change,
      kept_framed db next after made.2 (framed db next _ (λ e. absurd (omega arith)) made.1).same (applied_kept db next _ made.1 kept.1),
    )

module _ (old new : State) (name : Name) (live : IsLive old) where
  pub add_group_ok : (count : ℕ) → IsReady old → Executes st.add_group_text (Text name ∷ []) old new (Ok count) → Changes (ch.AddsGroup name) old new
  add_group_ok count ready h =
      changes st.add_group_text (Text name ∷ []) (λ _. st.add_group_command) add_group_is add_group_plain (λ c e. cc) (λ c n e. cc) (λ c a b t n r. r)
      (ch.AddsGroup name) (add_group_does name) old new count ready live h

  pub add_group_commits : (db : Trees) → CommitsBy st.add_group_text (Text name ∷ []) old db → MayLeave (ch.AddsGroup name) old db
  add_group_commits db h =
      commits st.add_group_text (Text name ∷ []) (λ _. st.add_group_command) add_group_is add_group_plain (λ c e. cc) (λ c n e. cc) (λ c a b t n r. r)
      (ch.AddsGroup name) (add_group_does name) old db live h

-- the test looks the same from both sides
same_back : (a b : ℤ) → m.same_int a b ≡ m.same_int b a
same_back a b = grind (arith, ints, nat_tests)

any_back : (x : m.Member) (groups : List m.Group) → list_any (λ (g : m.Group). true && m.same_int x.group g.place) groups ≡ list_any (λ (g : m.Group). m.same_int g.place x.group) groups
any_back x [] = refl
any_back x (g ∷ groups) = ap₂ (λ a b. a || b) (same_back x.group g.place) (any_back x groups)

-- if each member has its group, none is left
none_left : (members : List m.Member) (groups : List m.Group) → list_all (λ (x : m.Member). list_any (λ (g : m.Group). m.same_int g.place x.group) groups) members ≡ true
    → filter (λ (x : m.Member). not (list_any (λ (g : m.Group). true && m.same_int x.group g.place) groups)) members ≡ []
none_left [] groups all = refl
none_left (x ∷ members) groups all =
    let parts = and_parts _ _ all in
    let has : list_any (λ (g : m.Group). true && m.same_int x.group g.place) groups ≡ true = any_back x groups ∙ parts.0 in
    rw has (none_left members groups parts.1)

abbrev pub clear_groups_command : Command
clear_groups_command = Delete 9 (record { lets = []; body = st.clear_groups_query })

pub clear_groups_is : (c : Bool) → command_of (understood (schema_of c) st.clear_groups_text) ≡ clear_groups_command
unfolding understood everything
clear_groups_is false = refl
clear_groups_is true = refl

pub clear_groups_plain : (c : Bool) → IsPlain (understood (schema_of c) st.clear_groups_text)
unfolding understood everything
clear_groups_plain false = (refl, refl)
clear_groups_plain true = (refl, refl)

-- each group goes, and each member has one
clear_groups_does : (limit : Option ℕ) (s : State) (text : List ℕ) (tally : Tally) (after : Database) → IsKept s.now → IsDatabase s.now
    → Does limit (mode_of s) ([]) s.now text None clear_groups_command (Ok (tally, after)) → ch.ClearsGroups (rows_in s.now.trees) (rows_in after.trees) × IsKept after
clear_groups_does limit s text tally after kept sound h =
    let db = s.now.trees in
    let carried = is_carried db in
    let params = [] in
    let terms = st.clear_groups_terms in
    let keyed = kept.1.1.1.1.1.1.1.1.1.1.0 in
    let here = subst (λ sch. Does limit (mode_of s) params (record s.now { schema = sch }) text None clear_groups_command (Ok (tally, after))) kept.0 h in
    let done = went here in
    let now = ap (λ (p : Tally × Database). p.1) (same_value (went (went done.2).2).2) in
    let asked = went done.1 in
    let wrote = went asked.2 in
    let shown = asked.0 in
    let picked = selected 17 terms (col 1 0 ∷ []) [] (overlay db []) params shown (asked.1.answer Null) in
    let same = shown_rows 17 terms (col 1 0 ∷ []) [] db params shown (record { ordered = picked.ordered; same = picked.same; sorted = picked.sorted; shown = picked.shown }) in
    let next = wrote.0 in
    let it = swept carried (groups_at 17) (members_at 19) (codes "groups") (groups_acting carried) db next (ids_of shown) kept.1
    (cascades carried (groups_at 17) (members_at 19) (codes "groups") (groups_acting carried) db next (ids_of shown) wrote.1) in
    let is = λ (r : Row) (t : Has (db 17) r). let yes : passes params terms r ≡ true = refl in yes in
    let groups = ap (map m.group_of) (it.parents ∙ without_shown (db 17) (passes params terms) shown (keyed_apart (db 17) keyed, keyed.1) same) ∙ nothing_kept m.group_of (db 17) in
    let q = λ (r : Row). list_any (is_child_of (cascade (members_at 19) (codes "groups") (map (row_at (db 17)) (ids_of shown))) r) (pairs (map (row_at (db 17)) (ids_of shown)) []) in
    let members = ap (map m.member_of) it.children ∙ kept_map m.member_of q (λ mem. list_any (λ (g : m.Group). true && m.same_int mem.group g.place) (map m.group_of (db 17))) (db 19) (λ r t.
    child_is (db 17) shown (passes params terms) keyed same (members_at 19) (codes "groups") m.group_of (λ g. true) (λ g. g.place) r
    (id_in (column r 1)) (number_is (column r 1) (members_in s.now kept.0 sound r t).0) is (λ y. refl))
    ∙ none_left (map m.member_of (db 19)) (map m.group_of (db 17)) (members_have_groups s.now kept.0 sound kept.1) in
    let change = groups_swept db it.mid next it.first it.second ∙ (λ i. let rows : Rows = record (rows_in db) { groups = groups i; members = members i } in rows) in
    let trees = ap (λ (w : Written). w.trees) (same_value wrote.2) in
    let end : after ≡ record { schema = schema_of carried; trees = next } = now ∙ ap (λ (t : Trees). let d : Database = record { schema = schema_of carried; trees = t } in d) trees in
    (ap (λ (d : Database). rows_in d.trees) end ∙ change, kept_framed db next after end (it.second.same ∙ it.first.same) it.kept)

module _ (old new : State) (live : IsLive old) where
  pub clear_groups_ok : (count : ℕ) → IsReady old → Executes st.clear_groups_text ([]) old new (Ok count) → Changes (ch.ClearsGroups) old new
  clear_groups_ok count ready h =
      changes st.clear_groups_text ([]) (λ _. clear_groups_command) clear_groups_is clear_groups_plain (λ c e. cc) (λ c n e. cc) (λ c a b t n r. r)
      (ch.ClearsGroups) (clear_groups_does) old new count ready live h

  pub clear_groups_commits : (db : Trees) → CommitsBy st.clear_groups_text ([]) old db → MayLeave (ch.ClearsGroups) old db
  clear_groups_commits db h =
      commits st.clear_groups_text ([]) (λ _. clear_groups_command) clear_groups_is clear_groups_plain (λ c e. cc) (λ c n e. cc) (λ c a b t n r. r) (ch.ClearsGroups) (clear_groups_does) old db live h

pub all_groups_asks : (c : Bool) → Asks (schema_of c) st.all_groups_text 17 [] st.group_columns st.group_names
unfolding understood everything
all_groups_asks false = record { is = (refl, refl); plain = (refl, refl) }
all_groups_asks true = record { is = (refl, refl); plain = (refl, refl) }

module _ (old new : State) (rows : List Row) (tables : m.HasTables old) (h : Shown st.all_groups_text ([]) old new rows) where
  pub all_groups_shows : map (λ r. m.group_of (column r 0 ∷ r)) rows ≡ (rows_in old.now.trees).groups
  all_groups_shows =
      let ours = kept _ _ _ _ _ all_groups_asks (λ c db. refl) old new _ rows tables h in
      everything_listed _ _ _ _ _ all_groups_asks (λ c db. refl) old new _ rows tables h m.group_of (λ r. m.group_of (column r 0 ∷ r)) ours.1.1.1.1.1.1.1.1.1.1.0 (λ r. refl) (λ r. refl)
