-- The statements on members.
use Rattle.std.proofs.Common.{arith, false, true, Bool, ◌≡◌, ℕ, ℤ, List, [], ◌∷◌, map, Option, None, Ok, refl, ap, subst, ◌∙◌}
use Rattle.sqlite_tied.specs.Compute.{everything}
use Rattle.sqlite_value.specs.declared.value.Value.TheVariants.{Null, Int, Text}
use Rattle.sqlite_value.specs.Order.{Row}
use Rattle.sqlite_trees.specs.Tree.{Trees, put_row}
use Rattle.sqlite_sql.specs.Term.{lit, col}
use Rattle.sqlite_rules.specs.declared.error.Rowids.TheVariants.{Chosen}
use Rattle.sqlite_rules.specs.Edit.{next_rowid}
use Rattle.sqlite.specs.Effect.{Database, IsDatabase}
use Rattle.sqlite.specs.Does.{Tally, Does}
use Rattle.sqlite.specs.Listing.{understood}
use Rattle.sqlite.specs.State.{State, IsLive, mode_of, Executes, CommitsBy, Shown}
use Rattle.sqlite.proofs.Callers.{IsPlain, command_of}
use Rattle.mailsql.specs.Tables.{schema_of, to_groups}
use Rattle.mailsql.proofs.Statements as st
use Rattle.mailsql.specs.Rows as m
use Rattle.mailsql.specs.Changes as ch
use Rattle.mailsql.specs.Rows.{Name, Rows, is_carried, rows_in, IsKept, IsReady, MayLeave, Changes}
use Rattle.mailsql.proofs.RowLemmas.{next_last, appended}
use Rattle.mailsql.proofs.WriteLemmas.{inserted}
use Rattle.mailsql.proofs.KeptLemmas.{applied_kept}
use Rattle.mailsql.proofs.FrameLemmas as frame
use Rattle.mailsql.proofs.FrameLemmas.{framed, kept_framed}
use Rattle.mailsql.proofs.CastLemmas.{cast_null, cast_int}
use Rattle.mailsql.proofs.StateLemmas.{changes, commits}
use Rattle.mailsql.proofs.ReadLemmas.{Asks, kept, sound, everything_listed}

pub add_member_is : (c : Bool) → command_of (understood (schema_of c) st.add_member_text) ≡ st.add_member_command
unfolding understood everything
add_member_is false = refl
add_member_is true = refl

pub add_member_plain : (c : Bool) → IsPlain (understood (schema_of c) st.add_member_text)
unfolding understood everything
add_member_plain false = (refl, refl)
add_member_plain true = (refl, refl)

add_member_tail : ℤ → ℤ → Name → Row
add_member_tail group place clerk = Int group ∷ Int place ∷ Text clerk ∷ []

add_member_does : (group : ℤ) (place : ℤ) (clerk : Name) (limit : Option ℕ) (s : State) (text : List ℕ) (tally : Tally) (after : Database) → IsKept s.now → IsDatabase s.now
    → Does limit (mode_of s) (Int group ∷ Int place ∷ Text clerk ∷ []) s.now text None st.add_member_command (Ok (tally, after))
    → ch.AddsMember (record { group = group; place = place; clerk = clerk }) (rows_in s.now.trees) (rows_in after.trees) × IsKept after
unfolding add_member_tail
add_member_does group place clerk limit s text tally after kept sound h =
    let db = s.now.trees in
    let params = Int group ∷ Int place ∷ Text clerk ∷ [] in
    let here = subst (λ sch. Does limit (mode_of s) params (record s.now { schema = sch }) text None st.add_member_command (Ok (tally, after))) kept.0 h in
    let made = inserted limit (schema_of (is_carried db)) _ 19 _ None (1 ∷ 2 ∷ []) _ _ (to_groups ∷ []) params 10 4 (lit Null ∷ col 0 0 ∷ col 0 1 ∷ col 0 2 ∷ []) db tally after here in
    let next = made.0 in
    let tail = add_member_tail group place clerk in
    let rows : next 19 ≡ put_row (Int (next_rowid (db 19)) ∷ tail) (db 19) = simp (cast_null, cast_int) at made.1.rows in
    let last = rows ∙ next_last Chosen tail (db 19) kept.1.1.1.1.1.1.1.1.1.1.1.0 in
    let change = frame.members_alone db next (framed db next _ (λ e. absurd (omega arith)) made.1)
    ∙ ap (λ l. let r : Rows = record (rows_in db) { members = l } in r) (appended m.member_of (db 19) (next 19) (Int (next_rowid (db 19)) ∷ tail) last) in (
      ap (λ (d : Database). rows_in d.trees) made.2 ∙ change,
      kept_framed db next after made.2 (framed db next _ (λ e. absurd (omega arith)) made.1).same (applied_kept db next _ made.1 kept.1),
    )

module _ (old new : State) (group : ℤ) (place : ℤ) (clerk : Name) (live : IsLive old) where
  pub add_member_ok : (count : ℕ) → IsReady old → Executes st.add_member_text (Int group ∷ Int place ∷ Text clerk ∷ []) old new (Ok count)
      → Changes (ch.AddsMember (record { group = group; place = place; clerk = clerk })) old new
  add_member_ok count ready h =
      changes st.add_member_text (Int group ∷ Int place ∷ Text clerk ∷ []) (λ _. st.add_member_command) add_member_is add_member_plain (λ c e. cc)
      (λ c n e. cc) (λ c a b t n r. r) (ch.AddsMember (record { group = group; place = place; clerk = clerk })) (add_member_does group place clerk) old new count ready live h

  pub add_member_commits : (db : Trees) → CommitsBy st.add_member_text (Int group ∷ Int place ∷ Text clerk ∷ []) old db
      → MayLeave (ch.AddsMember (record { group = group; place = place; clerk = clerk })) old db
  add_member_commits db h =
      commits st.add_member_text (Int group ∷ Int place ∷ Text clerk ∷ []) (λ _. st.add_member_command) add_member_is add_member_plain (λ c e. cc)
      (λ c n e. cc) (λ c a b t n r. r) (ch.AddsMember (record { group = group; place = place; clerk = clerk })) (add_member_does group place clerk) old db live h

pub all_members_asks : (c : Bool) → Asks (schema_of c) st.all_members_text 19 [] st.member_columns st.member_names
unfolding understood everything
all_members_asks false = record { is = (refl, refl); plain = (refl, refl) }
all_members_asks true = record { is = (refl, refl); plain = (refl, refl) }

module _ (old new : State) (rows : List Row) (tables : m.HasTables old) (h : Shown st.all_members_text ([]) old new rows) where
  pub all_members_shows : map (λ r. m.member_of (Null ∷ r)) rows ≡ (rows_in old.now.trees).members
  all_members_shows =
      let ours = kept _ _ _ _ _ all_members_asks (λ c db. refl) old new _ rows tables h in
      everything_listed _ _ _ _ _ all_members_asks (λ c db. refl) old new _ rows tables h m.member_of (λ r. m.member_of (Null ∷ r)) ours.1.1.1.1.1.1.1.1.1.1.1.0 (λ r. refl) (λ r. refl)
