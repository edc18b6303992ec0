-- How many rows a table has.
use Rattle.std.proofs.Common.{◌≡◌, Bool, true, false, [], ◌∷◌, filter, length, refl, ◌∙◌, Ok}
use Rattle.sqlite_tied.specs.Compute.{everything}
use Rattle.sqlite_value.specs.declared.value.Value.TheVariants.{Text}
use Rattle.sqlite_value.specs.Order.{Row, column}
use Rattle.sqlite.specs.Listing.{understood}
use Rattle.sqlite.specs.State.{State, IsLive, QueriesRow}
use Rattle.mailsql.proofs.Statements as st
use Rattle.mailsql.specs.Rows as m
use Rattle.mailsql.specs.Tables.{schema_of, mail_tree}
use Rattle.mailsql.specs.Rows.{Name, is_carried, rows_in}
use Rattle.mailsql.proofs.HeadLemmas.{mail_placed}
use Rattle.mailsql.proofs.QueryLemmas.{passes}
use Rattle.mailsql.proofs.FindLemmas.{and_true}
use Rattle.mailsql.proofs.EqualLemmas.{column_text}
use Rattle.mailsql.proofs.TypedLemmas as typed
use Rattle.mailsql.proofs.CountLemmas.{Tallies, tallied_kept, tallied_sound, as_many, all_as_many}

pub clerk_count_tallies : (c : Bool) → Tallies (schema_of c) st.clerk_count_text 2 st.clerk_count_terms
unfolding understood everything
clerk_count_tallies false = record { is = (refl, refl); plain = (refl, refl) }
clerk_count_tallies true = record { is = (refl, refl); plain = (refl, refl) }

pub clerk_count_is : (old : State) → length (filter (passes [] st.clerk_count_terms) (old.now.trees 2)) ≡ length (rows_in old.now.trees).clerks
clerk_count_is old = all_as_many m.clerk_of (passes [] st.clerk_count_terms) (old.now.trees 2) (λ r. refl)

pub maildrop_count_tallies : (c : Bool) → Tallies (schema_of c) st.maildrop_count_text 4 st.maildrop_count_terms
unfolding understood everything
maildrop_count_tallies false = record { is = (refl, refl); plain = (refl, refl) }
maildrop_count_tallies true = record { is = (refl, refl); plain = (refl, refl) }

pub maildrop_count_is : (old : State) → length (filter (passes [] st.maildrop_count_terms) (old.now.trees 4)) ≡ length (rows_in old.now.trees).maildrops
maildrop_count_is old = all_as_many m.maildrop_of (passes [] st.maildrop_count_terms) (old.now.trees 4) (λ r. refl)

pub sheet_count_tallies : (c : Bool) → Tallies (schema_of c) st.sheet_count_text 15 st.sheet_count_terms
unfolding understood everything
sheet_count_tallies false = record { is = (refl, refl); plain = (refl, refl) }
sheet_count_tallies true = record { is = (refl, refl); plain = (refl, refl) }

pub sheet_count_is : (old : State) → length (filter (passes [] st.sheet_count_terms) (old.now.trees 15)) ≡ length (rows_in old.now.trees).sheets
sheet_count_is old = all_as_many m.sheet_of (passes [] st.sheet_count_terms) (old.now.trees 15) (λ r. refl)

pub message_count_tallies : (c : Bool) → Tallies (schema_of c) st.message_count_text (mail_tree c) st.message_count_terms
unfolding understood everything
message_count_tallies false = record { is = (refl, refl); plain = (refl, refl) }
message_count_tallies true = record { is = (refl, refl); plain = (refl, refl) }

module _ (old new : State) (maildrop : Name) (tables : m.HasTables old) (row : Row) (h : QueriesRow st.message_count_text (Text maildrop ∷ []) old new (Ok row)) where
  pub message_count_is : IsLive old
      → length (filter (passes (Text maildrop ∷ []) st.message_count_terms) (old.now.trees (mail_tree (is_carried old.now.trees)))) ≡ length
      (filter (m.is_in maildrop) (rows_in old.now.trees).messages)
  message_count_is live =
      let ours = tallied_kept _ _ _ message_count_tallies mail_placed old new _ tables row h in
      let ty = typed.messages_typed old.now ours.0 (tallied_sound _ _ _ message_count_tallies mail_placed old new _ tables row h live) in
      as_many m.message_of (passes (Text maildrop ∷ []) st.message_count_terms) (m.is_in maildrop)
      (old.now.trees (mail_tree (is_carried old.now.trees))) (λ r has. and_true _ ∙ column_text (column r 2) maildrop (ty r has))
