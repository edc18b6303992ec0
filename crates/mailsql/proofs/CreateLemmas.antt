-- What CREATE TABLE makes of the schema and of the rows.
use Rattle.std.proofs.Common.{◌≡◌, inl, inr, ℕ, zero, suc, ◌<◌, List, [], ◌∷◌, ◌++◌, true, false, Option, None, Ok, refl, sym, ap, subst, ◌∙◌, arith, true≢false}
use Rattle.sqlite_tied.specs.Compute.{everything}
use Rattle.sqlite_trees.specs.Tree.{Trees}
use Rattle.sqlite_schema.specs.declared.schema.Table.{Table}
use Rattle.sqlite_schema.specs.declared.schema.Schema.{Schema}
use Rattle.sqlite_schema.specs.declared.command.Command.TheVariants.{CreateTable}
use Rattle.sqlite_resolve.specs.Compile.{table_defined_by}
use Rattle.sqlite_catalog.specs.Change.{created, next_tree, KeepsRows}
use Rattle.sqlite.specs.Effect.{Database}
use Rattle.sqlite.specs.Does.{Tally, Does, lacks_sequence, sequence_text}
use Rattle.sqlite.specs.Listing.{understood}
use Rattle.sqlite.specs.State.{State, IsLive, Writes, Executes, CommitsBy, MayCommit, mode_of}
use Rattle.sqlite.proofs.Callers.{IsPlain, command_of, statement_of, runs_as}
use Rattle.mailsql.specs.Tables as t
use Rattle.mailsql.specs.Tables.{no_schema, schema_of, mail_schema, with_members, stage, create_text}
use Rattle.mailsql.specs.Rows.{is_carried, AreEmpty, AreKeyed, AreKept, IsBare, IsBegun, IsHalted, IsUndone, GoesOn, MakesTables}
use Rattle.mailsql.proofs.Texts as x
use Rattle.mailsql.proofs.WriteLemmas.{went, same_value}
use Rattle.mailsql.proofs.ListedLemmas.{carried_is}
use Rattle.mailsql.proofs.TransactionLemmas.{commits_as}

-- an empty table more
pub one_more : (tables : List Table) (table : Table) (old new : Trees) → new table.tree ≡ [] → KeepsRows tables old new → AreEmpty tables old → AreEmpty (tables ++ table ∷ []) new
one_more [] table old new empty kept all = (empty, tt)
one_more (s ∷ tables) table old new empty kept all = (kept.0 ∙ all.0, one_more tables table old new empty kept.1 all.1)

-- how a text is read under the schema before it
pub record Makes (text : List ℕ) (made : Table) (before : Schema) : Type 0 where
  pub command : command_of (understood before text) ≡ CreateTable
  pub statement : statement_of text (understood before text) ≡ text
  pub plain : IsPlain (understood before text)
  pub defined : table_defined_by text ≡ Ok made

-- a table more, and empty, and the others as they were
pub record Grows (before : Schema) (made : Table) (old new : Database) : Type 0 where
  pub schema : new.schema ≡ created before made
  pub others : KeepsRows before.tables old.trees new.trees
  pub empty : new.trees (next_tree before) ≡ []

module _ (text : List ℕ) (made : Table) (before : Schema) (is : Makes text made before) where
  -- a table with no AUTOINCREMENT, or not the first
  pub grows : (limit : Option ℕ) (s : State) (tally : Tally) (after : Database) → s.now.schema ≡ before
      → Does limit (mode_of s) [] s.now text None CreateTable (Ok (tally, after)) → lacks_sequence (created before made) ≡ false → Grows before made s.now after
  grows limit s tally after ours h still =
      let all = went h in
      let first = went all.1 in
      let it = first.1 in
      let both : Ok it.table ≡ Ok made = sym it.defined ∙ is.defined in
      let same : it.table ≡ made = same_value both in
      let schema : first.0.schema ≡ created before made = it.is ∙ ap (λ sch. created sch it.table) ours ∙ ap (created before) same in
      let lacks : lacks_sequence first.0.schema ≡ false = ap lacks_sequence schema ∙ still in
      let now : after ≡ first.0 = ap (λ (p : Tally × Database). p.1) (same_value all.2) ∙ same_value (rw lacks at first.2) in
      subst (Grows before made s.now) (sym now) (record {
        schema = schema;
        others = subst (λ (sch : Schema). KeepsRows sch.tables s.now.trees first.0.trees) ours it.others;
        empty = subst (λ sch. first.0.trees (next_tree sch) ≡ []) ours it.empty;
      })

  module _ (limit : Option ℕ) (s : State) (tally : Tally) (after : Database) (bare : IsBare before s.now) (h : Does limit (mode_of s) [] s.now text None CreateTable (Ok (tally, after))) where
    -- a table with no AUTOINCREMENT
    pub makes_one : lacks_sequence (created before made) ≡ false → IsBare (created before made) after
    makes_one still = let g = grows limit s tally after bare.0 h still in (g.schema, one_more before.tables (record made { tree = next_tree before }) s.now.trees after.trees g.empty g.others bare.1)

    -- the first with AUTOINCREMENT brings sqlite_sequence
    pub makes_counted : (counters : Table) → table_defined_by sequence_text ≡ Ok counters → lacks_sequence (created before made) ≡ true → IsBare (created (created before made) counters) after
    makes_counted counters seq lacks =
        let all = went h in
        let first = went all.1 in
        let it = first.1 in
        let both : Ok it.table ≡ Ok made = sym it.defined ∙ is.defined in
        let same : it.table ≡ made = same_value both in
        let schema : first.0.schema ≡ created before made = it.is ∙ ap (λ sch. created sch it.table) bare.0 ∙ ap (created before) same in
        let second = rw (ap lacks_sequence schema ∙ lacks) at first.2 in
        let also : Ok second.table ≡ Ok counters = sym second.defined ∙ seq in
        let other : second.table ≡ counters = same_value also in
        let then : all.0.schema ≡ created (created before made) counters = second.is ∙ ap (λ sch. created sch second.table) schema ∙ ap (created (created before made)) other in
        let now : after ≡ all.0 = ap (λ (p : Tally × Database). p.1) (same_value all.2) in
        let empty = subst (λ sch. first.0.trees (next_tree sch) ≡ []) bare.0 it.empty in
        let others = subst (λ (sch : Schema). KeepsRows sch.tables s.now.trees first.0.trees) bare.0 it.others in
        let mid = one_more before.tables (record made { tree = next_tree before }) s.now.trees first.0.trees empty others bare.1 in
        let empty_too = subst (λ sch. all.0.trees (next_tree sch) ≡ []) schema second.empty in
        let others_too = subst (λ (sch : Schema). KeepsRows sch.tables first.0.trees all.0.trees) schema second.others in
        subst (IsBare (created (created before made) counters)) (sym now)
        (then, one_more (created before made).tables (record counters { tree = next_tree (created before made) }) first.0.trees all.0.trees empty_too others_too mid)

-- ---- each text, under the schema before it

meta_makes : Makes t.meta_text (t.meta_at 0) no_schema
unfolding understood everything
meta_makes = record { command = refl; statement = refl; plain = (refl, refl); defined = x.meta_is }

clerks_makes : Makes t.clerks_text (t.clerks_at 0) t.with_meta
unfolding understood everything
clerks_makes = record { command = refl; statement = refl; plain = (refl, refl); defined = x.clerks_is }

maildrops_makes : Makes t.maildrops_text (t.maildrops_at 0) t.with_clerks
unfolding understood everything
maildrops_makes = record { command = refl; statement = refl; plain = (refl, refl); defined = x.maildrops_is }

counts_makes : Makes t.counts_text (t.counts_at 0) t.with_maildrops
unfolding understood everything
counts_makes = record { command = refl; statement = refl; plain = (refl, refl); defined = x.counts_is }

deposits_makes : Makes t.deposits_text (t.deposits_at 0) t.with_counts
unfolding understood everything
deposits_makes = record { command = refl; statement = refl; plain = (refl, refl); defined = x.deposits_is }

mail_makes : Makes t.mail_text (t.mail_at 0) t.with_deposits
unfolding understood everything
mail_makes = record { command = refl; statement = refl; plain = (refl, refl); defined = x.mail_is }

rules_makes : Makes t.rules_text (t.rules_at 0) t.with_mail
unfolding understood everything
rules_makes = record { command = refl; statement = refl; plain = (refl, refl); defined = x.rules_is }

sheets_makes : Makes t.sheets_text (t.sheets_at 0) t.with_rules
unfolding understood everything
sheets_makes = record { command = refl; statement = refl; plain = (refl, refl); defined = x.sheets_is }

groups_makes : Makes t.groups_text (t.groups_at 0) t.with_sheets
unfolding understood everything
groups_makes = record { command = refl; statement = refl; plain = (refl, refl); defined = x.groups_is }

members_makes : Makes t.members_text (t.members_at 0) t.with_groups
unfolding understood everything
members_makes = record { command = refl; statement = refl; plain = (refl, refl); defined = x.members_is }

pub record Counted (before : Schema) : Type 0 where
  pub meta : lacks_sequence t.with_meta ≡ false
  pub clerks : lacks_sequence t.with_clerks ≡ false
  pub maildrops : lacks_sequence t.with_maildrops ≡ false
  pub counts : lacks_sequence t.with_counts ≡ false
  pub deposits : lacks_sequence t.with_deposits ≡ false
  pub mail : lacks_sequence (created t.with_deposits (t.mail_at 0)) ≡ true
  pub rules : lacks_sequence t.with_rules ≡ false
  pub sheets : lacks_sequence t.with_sheets ≡ false
  pub groups : lacks_sequence t.with_groups ≡ false
  pub members : lacks_sequence t.with_members ≡ false

lacks : Counted no_schema
unfolding everything
lacks = record { meta = refl; clerks = refl; maildrops = refl; counts = refl; deposits = refl; mail = refl; rules = refl; sheets = refl; groups = refl; members = refl }

-- ---- one text after another

abbrev DoesAt : ℕ → Type 1
DoesAt at = (limit : Option ℕ) (s : State) (tally : Tally) (after : Database) → IsBare (stage at) s.now
    → Does limit (mode_of s) [] s.now (create_text at) None CreateTable (Ok (tally, after)) → IsBare (stage (suc at)) after

does_at : (at : ℕ) → at < 10 → DoesAt at
does_at zero low limit s tally after bare h = makes_one _ _ _ meta_makes limit s tally after bare h lacks.meta
does_at (suc zero) low limit s tally after bare h = makes_one _ _ _ clerks_makes limit s tally after bare h lacks.clerks
does_at (suc (suc zero)) low limit s tally after bare h = makes_one _ _ _ maildrops_makes limit s tally after bare h lacks.maildrops
does_at (suc (suc (suc zero))) low limit s tally after bare h = makes_one _ _ _ counts_makes limit s tally after bare h lacks.counts
does_at (suc (suc (suc (suc zero)))) low limit s tally after bare h = makes_one _ _ _ deposits_makes limit s tally after bare h lacks.deposits
does_at (suc (suc (suc (suc (suc zero))))) low limit s tally after bare h = makes_counted _ _ _ mail_makes limit s tally after bare h (t.sequence_at 0) x.sequence_is lacks.mail
does_at (suc (suc (suc (suc (suc (suc zero)))))) low limit s tally after bare h = makes_one _ _ _ rules_makes limit s tally after bare h lacks.rules
does_at (suc (suc (suc (suc (suc (suc (suc zero))))))) low limit s tally after bare h = makes_one _ _ _ sheets_makes limit s tally after bare h lacks.sheets
does_at (suc (suc (suc (suc (suc (suc (suc (suc zero)))))))) low limit s tally after bare h = makes_one _ _ _ groups_makes limit s tally after bare h lacks.groups
does_at (suc (suc (suc (suc (suc (suc (suc (suc (suc zero))))))))) low limit s tally after bare h = makes_one _ _ _ members_makes limit s tally after bare h lacks.members
does_at (suc (suc (suc (suc (suc (suc (suc (suc (suc (suc n)))))))))) low limit s tally after bare h = absurd (omega arith)

pub record Reads (at : ℕ) : Type 0 where
  pub command : command_of (understood (stage at) (create_text at)) ≡ CreateTable
  pub statement : statement_of (create_text at) (understood (stage at) (create_text at)) ≡ create_text at
  pub plain : IsPlain (understood (stage at) (create_text at))

read_as : (text : List ℕ) (made : Table) (at : ℕ) → create_text at ≡ text → Makes text made (stage at) → Reads at
read_as text made at is m = subst
    (λ txt. (command_of (understood (stage at) txt) ≡ CreateTable) → (statement_of txt (understood (stage at) txt) ≡ txt) → IsPlain (understood (stage at) txt) → Reads at) is
    (λ c s p. record { command = c; statement = s; plain = p }) m.command m.statement m.plain

reads_at : (at : ℕ) → at < 10 → Reads at
reads_at zero low = read_as _ _ 0 refl meta_makes
reads_at (suc zero) low = read_as _ _ 1 refl clerks_makes
reads_at (suc (suc zero)) low = read_as _ _ 2 refl maildrops_makes
reads_at (suc (suc (suc zero))) low = read_as _ _ 3 refl counts_makes
reads_at (suc (suc (suc (suc zero)))) low = read_as _ _ 4 refl deposits_makes
reads_at (suc (suc (suc (suc (suc zero))))) low = read_as _ _ 5 refl mail_makes
reads_at (suc (suc (suc (suc (suc (suc zero)))))) low = read_as _ _ 6 refl rules_makes
reads_at (suc (suc (suc (suc (suc (suc (suc zero))))))) low = read_as _ _ 7 refl sheets_makes
reads_at (suc (suc (suc (suc (suc (suc (suc (suc zero)))))))) low = read_as _ _ 8 refl groups_makes
reads_at (suc (suc (suc (suc (suc (suc (suc (suc (suc zero))))))))) low = read_as _ _ 9 refl members_makes
reads_at (suc (suc (suc (suc (suc (suc (suc (suc (suc (suc n)))))))))) low = absurd (omega arith)

-- the next table is made, in the transaction that is under way
pub creates_next : (at next : ℕ) → next ≡ suc at → at < 10 → (first old new : State) (count : ℕ) → IsBegun first → IsBare (stage at) old.now
    → GoesOn first old → Executes (create_text at) [] old new (Ok count)
    → IsBare (stage next) new.now × GoesOn first new
creates_next at next is low first old new count begun bare on h =
    let r = reads_at at low in
    let w = subst (λ txt. Writes old new None CreateTable txt [] count) r.statement (runs_as (create_text at) [] old new (stage at) bare.0 CreateTable r.command r.plain count h) in (
      subst (λ n. IsBare (stage n) new.now) (sym is) (does_at at low old.step_limit old w.tally new.now bare w.changed),
      record { was_open = on.was_open; is_open = w.shown.is_open; now_is = refl; committed_is = (rw on.mode at w.shown.committed_is) ∙ on.committed_is; mode = w.shown.mode ∙ on.mode },
    )

-- inside a transaction nothing is committed
pub creates_none : (at : ℕ) → at < 10 → (first old : State) (db : Trees) → IsBegun first → IsBare (stage at) old.now → GoesOn first old → ¬ CommitsBy (create_text at) [] old db
creates_none at low first old db begun bare on h =
    let r = reads_at at low in
    go (commits_as [] (create_text at) CreateTable old db (ap (λ sch. command_of (understood sch (create_text at))) bare.0 ∙ r.command)
    (subst (λ sch. IsPlain (understood sch (create_text at))) (sym bare.0) r.plain) h)
  where
    go : MayCommit old None CreateTable (statement_of (create_text at) (understood old.now.schema (create_text at))) [] db → ⊥
    go (inl (inl is, same)) = cc
    go (inl (inr named, same)) = let e = named.2 in cc
    go (inr w) = true≢false (sym on.mode ∙ w.0)

-- at the start
pub not_begun_yet : (s : State) → IsBegun s → IsBare no_schema s.now × GoesOn s s
not_begun_yet s b = (b.bare, record { was_open = b.is_open; is_open = b.is_open; now_is = refl; committed_is = refl; mode = b.inside })

-- an error in the middle
pub stops_making : (first old new : State) → GoesOn first old → IsUndone old new → IsHalted first new
stops_making first old new on (inl same) =
    inl (record { was_open = on.was_open; is_open = same.0.is_open; now_is = refl; committed_is = same.0.committed_is ∙ on.committed_is; mode = same.0.mode ∙ on.mode })
stops_making first old new on (inr back) =
    inr (record { was_open = λ _. on.was_open; undone = λ o. let it = back.undone o in (it.0 ∙ on.committed_is, it.1 ∙ on.committed_is); autocommit = back.autocommit })

with_members_is : with_members ≡ mail_schema
unfolding everything
with_members_is = refl

pub keyed_none : (tables : List Table) (db : Trees) → AreEmpty tables db → AreKept tables db
keyed_none [] db all = tt
keyed_none (t ∷ tables) db all = (subst AreKeyed (sym all.0) (tt, tt), keyed_none tables db all.1)

-- at the end
pub all_made : (first new : State) → IsLive new → IsBare with_members new.now → GoesOn first new → MakesTables first new
all_made first new live bare on =
    let ours = subst (λ sch. IsBare sch new.now) with_members_is bare in
    let same : is_carried new.now.trees ≡ false = carried_is false new.now ours.0 (live on.is_open).0 in
    let e = ours.1 in
    record {
      kept = (ours.0 ∙ ap schema_of (sym same), subst (λ c. AreKept (schema_of c).tables new.now.trees) (sym same) (keyed_none mail_schema.tables new.now.trees e));
      rows = rw (same, e.0, e.1.0, e.1.1.0, e.1.1.1.0, e.1.1.1.1.0, e.1.1.1.1.1.0, e.1.1.1.1.1.1.1.0, e.1.1.1.1.1.1.1.1.0, e.1.1.1.1.1.1.1.1.1.0, e.1.1.1.1.1.1.1.1.1.1.0) refl;
      on = on;
    }
