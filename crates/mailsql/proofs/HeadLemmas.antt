-- The queries on mail.
use Rattle.std.proofs.Common.{false, true, Bool, ◌≡◌, List, [], ◌∷◌, map, filter, refl, ◌∙◌}
use Rattle.sqlite_tied.specs.Compute.{everything}
use Rattle.sqlite_value.specs.declared.value.Value.TheVariants.{Text}
use Rattle.sqlite_value.specs.Order.{Row, column}
use Rattle.sqlite.specs.Listing.{understood}
use Rattle.sqlite.specs.State.{State, IsLive, Shown}
use Rattle.sqlite_trees.specs.Tree.{Trees}
use Rattle.sqlite_sql.specs.Program.{overlay}
use Rattle.mailsql.specs.Tables.{schema_of, mail_tree}
use Rattle.mailsql.proofs.Statements as st
use Rattle.mailsql.specs.Rows as m
use Rattle.mailsql.specs.Rows.{Name, rows_in, AreKeyed, AreKept}
use Rattle.mailsql.proofs.TypedLemmas as typed
use Rattle.mailsql.proofs.EqualLemmas.{column_text}
use Rattle.mailsql.proofs.FindLemmas.{and_true}
use Rattle.mailsql.proofs.ReadLemmas.{Asks, kept, sound, listed, everything_listed}

pub mail_placed : (c : Bool) (db : Trees) → overlay db [] (mail_tree c) ≡ db (mail_tree c)
mail_placed false db = refl
mail_placed true db = refl

pub mail_keyed : (carried : Bool) (db : Trees) → AreKept (schema_of carried).tables db → AreKeyed (db (mail_tree carried))
mail_keyed false db all = all.1.1.1.1.1.0
mail_keyed true db all = all.1.1.1.1.1.1.1.1.1.1.1.0

pub heads_asks : (c : Bool) → Asks (schema_of c) st.heads_text (mail_tree c) st.heads_terms st.message_columns st.message_names
unfolding understood everything
heads_asks false = record { is = (refl, refl); plain = (refl, refl) }
heads_asks true = record { is = (refl, refl); plain = (refl, refl) }

module _ (old new : State) (maildrop : Name) (rows : List Row) (tables : m.HasTables old) (h : Shown st.heads_text (Text maildrop ∷ []) old new rows) where
  pub heads_shows : IsLive old → map (λ r. m.message_of (column r 0 ∷ r)) rows ≡ filter (m.is_in maildrop) (rows_in old.now.trees).messages
  heads_shows live =
      let ours = kept _ _ _ _ _ heads_asks mail_placed old new _ rows tables h in
      let ty = typed.messages_typed old.now ours.0 (sound _ _ _ _ _ heads_asks mail_placed old new _ rows tables h live) in
      listed _ _ _ _ _ heads_asks mail_placed old new _ rows tables h m.message_of (λ r. m.message_of (column r 0 ∷ r)) (m.is_in maildrop) (mail_keyed _ _ ours.1) (λ r. refl)
      (λ r has. let it = ty r has in and_true _ ∙ column_text (column r 2) maildrop it)

pub all_messages_asks : (c : Bool) → Asks (schema_of c) st.all_messages_text (mail_tree c) [] st.message_columns st.message_names
unfolding understood everything
all_messages_asks false = record { is = (refl, refl); plain = (refl, refl) }
all_messages_asks true = record { is = (refl, refl); plain = (refl, refl) }

module _ (old new : State) (rows : List Row) (tables : m.HasTables old) (h : Shown st.all_messages_text ([]) old new rows) where
  pub all_messages_shows : map (λ r. m.message_of (column r 0 ∷ r)) rows ≡ (rows_in old.now.trees).messages
  all_messages_shows =
      let ours = kept _ _ _ _ _ all_messages_asks mail_placed old new _ rows tables h in
      everything_listed _ _ _ _ _ all_messages_asks mail_placed old new _ rows tables h m.message_of (λ r. m.message_of (column r 0 ∷ r)) (mail_keyed _ _ ours.1) (λ r. refl) (λ r. refl)
