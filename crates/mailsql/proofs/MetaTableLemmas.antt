-- The version row of a name in a store of any version, whose first table is `meta`.
use Rattle.std.proofs.Common.{◌≡◌, List, [], ◌∷◌, map, filter, refl, subst, sym, ◌∙◌}
use Rattle.sqlite_tied.specs.Compute.{everything}
use Rattle.sqlite_value.specs.declared.value.Value.TheVariants.{Null, Text}
use Rattle.sqlite_value.specs.Order.{Row, column}
use Rattle.sqlite_schema.specs.declared.schema.Table.{Table}
use Rattle.sqlite_schema.specs.declared.schema.Index.{Index}
use Rattle.sqlite_schema.specs.declared.schema.View.{View}
use Rattle.sqlite_schema.specs.declared.schema.Schema.{Schema}
use Rattle.sqlite.specs.Effect.{IsDatabase}
use Rattle.sqlite.specs.Listing.{understood}
use Rattle.sqlite.specs.State.{State, Survives, CommitsShowing, Shown}
use Rattle.sqlite.proofs.Callers.{never_commits}
use Rattle.sqlite.proofs.StateLemmas.{survives_weaker}
use Rattle.mailsql.specs.Tables.{meta_at}
use Rattle.mailsql.specs.Rows.{Name, meta_row_of, is_meta_row, rows_in}
use Rattle.mailsql.specs.MetaTable.{HasMetaRows}
use Rattle.mailsql.proofs.Statements as st
use Rattle.mailsql.proofs.ReadLemmas.{Asks, listed_of}
use Rattle.mailsql.proofs.TypedLemmas.{first_meta_rows_typed}
use Rattle.mailsql.proofs.EqualLemmas.{column_text}
use Rattle.mailsql.proofs.FindLemmas.{and_true}

found_first : (others : List Table) (indexes : List Index) (views : List View)
    → Asks (record { tables = meta_at 0 ∷ others; indexes = indexes; views = views }) st.find_meta_row_text 0 st.find_meta_row_terms st.meta_row_columns st.meta_row_names
unfolding understood everything
found_first others indexes views = record { is = (refl, refl); plain = (refl, refl) }

-- what the text means under such a schema
pub find_first_asks : (schema : Schema) (others : List Table) → schema.tables ≡ meta_at 0 ∷ others → Asks schema st.find_meta_row_text 0 st.find_meta_row_terms st.meta_row_columns st.meta_row_names
find_first_asks schema others is =
    subst (λ (ts : List Table). Asks (record schema { tables = ts }) st.find_meta_row_text 0 st.find_meta_row_terms st.meta_row_columns st.meta_row_names)
    (sym is) (found_first others schema.indexes schema.views)

module _ (old new : State) (name : Name) (rows : List Row) (it : HasMetaRows old.now) (sound : IsDatabase old.now) (h : Shown st.find_meta_row_text (Text name ∷ []) old new rows) where
  pub find_first_shows : map (λ r. meta_row_of (Null ∷ r)) rows ≡ filter (is_meta_row name) (rows_in old.now.trees).meta_rows
  find_first_shows =
      let ty = first_meta_rows_typed old.now.schema old.now.trees it.others it.first sound.obeys in
      listed_of old.now.schema _ _ _ _ _ (find_first_asks old.now.schema it.others it.first) (λ db. refl) old new _ rows refl h meta_row_of
      (λ r. meta_row_of (Null ∷ r)) (is_meta_row name) it.keyed (λ r. refl)
      (λ r has. and_true _ ∙ column_text (column r 1) name (ty r has))

-- the query commits nothing
pub never_first : (params : Row) (old new : State) → Survives old new (CommitsShowing st.find_meta_row_text params old) → Survives old new (λ _. HasMetaRows old.now → ⊥)
never_first params old new = survives_weaker old new _ _ (λ _ db may it. never_commits st.find_meta_row_text params old db (find_first_asks old.now.schema it.others it.first).plain may)
