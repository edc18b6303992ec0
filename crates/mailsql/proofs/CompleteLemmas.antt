-- The tables that an older store lacks are made, and the others stay.
use Rattle.std.proofs.Common.{◌≡◌, inl, inr, ℕ, zero, suc, ◌<◌, Bool, true, false, List, [], ◌∷◌, ◌++◌, length, None, Ok, refl, sym, ap, subst, ◌∙◌, arith, true≢false}
use Rattle.std.specs.List.{AllByRecursion}
use Rattle.sqlite_tied.specs.Compute.{everything}
use Rattle.sqlite_trees.specs.Tree.{Trees}
use Rattle.sqlite_schema.specs.declared.schema.Table.{Table}
use Rattle.sqlite_schema.specs.declared.command.Command.TheVariants.{CreateTable}
use Rattle.sqlite_catalog.specs.Change.{created, next_tree, KeepsRows}
use Rattle.sqlite.specs.Does.{lacks_sequence}
use Rattle.sqlite.specs.Listing.{understood}
use Rattle.sqlite.specs.State.{State, IsLive, Writes, Executes, CommitsBy, MayCommit}
use Rattle.sqlite.proofs.Callers.{IsPlain, command_of, statement_of, runs_as}
use Rattle.mailsql.specs.Tables as t
use Rattle.mailsql.specs.Tables.{schema_of, old_schema, old_stage, lacked_text, lacked_texts, fresh_tables}
use Rattle.mailsql.specs.Rows.{AreEmpty, AreKeyed, AreKept, IsBegunOn, GoesOn, CompletesTables, completed, is_carried, rows_in, rows_at}
use Rattle.mailsql.proofs.Texts as x
use Rattle.mailsql.proofs.CreateLemmas.{Makes, grows, one_more, keyed_none}
use Rattle.mailsql.proofs.ListedLemmas.{carried_is}
use Rattle.mailsql.proofs.TransactionLemmas.{commits_as}

-- ---- the tables of one list after those of another

behind : (P : Table → Type 0) (xs ys : List Table) → AllByRecursion P (xs ++ ys) → AllByRecursion P xs × AllByRecursion P ys
behind P [] ys all = (tt, all)
behind P (x ∷ xs) ys all = let more = behind P xs ys all.1 in ((all.0, more.0), more.1)

joined : (P : Table → Type 0) (xs ys : List Table) → AllByRecursion P xs → AllByRecursion P ys → AllByRecursion P (xs ++ ys)
joined P [] ys a b = b
joined P (x ∷ xs) ys a b = (a.0, joined P xs ys a.1 b)

keeps_then : (tables : List Table) (a b c : Trees) → KeepsRows tables a b → KeepsRows tables b c → KeepsRows tables a c
keeps_then [] a b c p q = tt
keeps_then (t ∷ tables) a b c p q = (q.0 ∙ p.0, keeps_then tables a b c p.1 q.1)

kept_still : (tables : List Table) (a b : Trees) → KeepsRows tables a b → AreKept tables a → AreKept tables b
kept_still [] a b same all = tt
kept_still (t ∷ tables) a b same all = (subst AreKeyed (sym same.0) all.0, kept_still tables a b same.1 all.1)

-- ---- each text, under the schema before it

pub record Step (carried : Bool) (at : ℕ) : Type 0 where
  pub made : Table
  pub reads : Makes (lacked_text carried at) made (old_stage carried at)
  pub next : old_stage carried (suc at) ≡ created (old_stage carried at) made
  pub still : lacks_sequence (created (old_stage carried at) made) ≡ false
  pub fresh : fresh_tables carried (suc at) ≡ fresh_tables carried at ++ record made { tree = next_tree (old_stage carried at) } ∷ []
  pub tables : (old_stage carried at).tables ≡ (old_schema carried).tables ++ fresh_tables carried at

reads_second_groups : Makes t.groups_text (t.groups_at 0) (old_stage false 0)
unfolding understood everything
reads_second_groups = record { command = refl; statement = refl; plain = (refl, refl); defined = x.groups_is }

step_second_groups : Step false 0
unfolding everything
step_second_groups = record { made = t.groups_at 0; reads = reads_second_groups; next = refl; still = refl; fresh = refl; tables = refl }

reads_second_members : Makes t.members_text (t.members_at 0) (old_stage false 1)
unfolding understood everything
reads_second_members = record { command = refl; statement = refl; plain = (refl, refl); defined = x.members_is }

step_second_members : Step false 1
unfolding everything
step_second_members = record { made = t.members_at 0; reads = reads_second_members; next = refl; still = refl; fresh = refl; tables = refl }

reads_first_sheets : Makes t.sheets_text (t.sheets_at 0) (old_stage true 0)
unfolding understood everything
reads_first_sheets = record { command = refl; statement = refl; plain = (refl, refl); defined = x.sheets_is }

step_first_sheets : Step true 0
unfolding everything
step_first_sheets = record { made = t.sheets_at 0; reads = reads_first_sheets; next = refl; still = refl; fresh = refl; tables = refl }

reads_first_groups : Makes t.groups_text (t.groups_at 0) (old_stage true 1)
unfolding understood everything
reads_first_groups = record { command = refl; statement = refl; plain = (refl, refl); defined = x.groups_is }

step_first_groups : Step true 1
unfolding everything
step_first_groups = record { made = t.groups_at 0; reads = reads_first_groups; next = refl; still = refl; fresh = refl; tables = refl }

reads_first_members : Makes t.members_text (t.members_at 0) (old_stage true 2)
unfolding understood everything
reads_first_members = record { command = refl; statement = refl; plain = (refl, refl); defined = x.members_is }

step_first_members : Step true 2
unfolding everything
step_first_members = record { made = t.members_at 0; reads = reads_first_members; next = refl; still = refl; fresh = refl; tables = refl }

reads_first_mail : Makes t.mail_text (t.mail_at 0) (old_stage true 3)
unfolding understood everything
reads_first_mail = record { command = refl; statement = refl; plain = (refl, refl); defined = x.mail_is }

step_first_mail : Step true 3
unfolding everything
step_first_mail = record { made = t.mail_at 0; reads = reads_first_mail; next = refl; still = refl; fresh = refl; tables = refl }

step_at : (carried : Bool) (at : ℕ) → at < length (lacked_texts carried) → Step carried at
step_at false zero low = step_second_groups
step_at false (suc zero) low = step_second_members
step_at false (suc (suc n)) low = absurd (omega arith)
step_at true zero low = step_first_sheets
step_at true (suc zero) low = step_first_groups
step_at true (suc (suc zero)) low = step_first_members
step_at true (suc (suc (suc zero))) low = step_first_mail
step_at true (suc (suc (suc (suc n)))) low = absurd (omega arith)

-- ---- one text after another

-- the first so many are made, in the transaction that is under way
pub record Completing (carried : Bool) (at : ℕ) (first now : State) : Type 0 where
  pub schema : now.now.schema ≡ old_stage carried at
  pub others : KeepsRows (old_schema carried).tables first.now.trees now.now.trees
  pub fresh : AreEmpty (fresh_tables carried at) now.now.trees
  pub on : GoesOn first now

keeps_all : (tables : List Table) (db : Trees) → KeepsRows tables db db
keeps_all [] db = tt
keeps_all (t ∷ tables) db = (refl, keeps_all tables db)

no_fresh : (carried : Bool) (db : Trees) → AreEmpty (fresh_tables carried 0) db
no_fresh false db = tt
no_fresh true db = tt

-- at the start
pub none_yet : (carried : Bool) (s : State) → IsBegunOn s → is_carried s.now.trees ≡ carried → Completing carried 0 s s
none_yet carried s b is = record {
  schema = b.old.0 ∙ ap old_schema is;
  others = keeps_all (old_schema carried).tables s.now.trees;
  fresh = no_fresh carried s.now.trees;
  on = record { was_open = b.is_open; is_open = b.is_open; now_is = refl; committed_is = refl; mode = b.inside };
}

-- the next
pub completes_next : (carried : Bool) (at next : ℕ) → next ≡ suc at → at < length (lacked_texts carried) → (first old new : State) (count : ℕ)
    → Completing carried at first old → Executes (lacked_text carried at) [] old new (Ok count) → Completing carried next first new
completes_next carried at next is low first old new count so h =
    let step = step_at carried at low in
    let r = step.reads in
    let w = subst (λ txt. Writes old new None CreateTable txt [] count) r.statement
    (runs_as (lacked_text carried at) [] old new (old_stage carried at) so.schema CreateTable r.command r.plain count h) in
    let g = grows (lacked_text carried at) step.made (old_stage carried at) r old.step_limit old w.tally new.now so.schema w.changed step.still in
    let keeps = behind (λ t. new.now.trees t.tree ≡ old.now.trees t.tree) (old_schema carried).tables (fresh_tables carried at)
    (subst (λ ts. KeepsRows ts old.now.trees new.now.trees) step.tables g.others) in
    subst (λ n. Completing carried n first new) (sym is) (record {
      schema = g.schema ∙ sym step.next;
      others = keeps_then (old_schema carried).tables first.now.trees old.now.trees new.now.trees so.others keeps.0;
      fresh = subst (λ ts. AreEmpty ts new.now.trees) (sym step.fresh)
          (one_more (fresh_tables carried at) (record step.made { tree = next_tree (old_stage carried at) }) old.now.trees new.now.trees g.empty keeps.1 so.fresh);
      on = record {
        was_open = so.on.was_open;
        is_open = w.shown.is_open;
        now_is = refl;
        committed_is = (rw so.on.mode at w.shown.committed_is)
            ∙ so.on.committed_is;
        mode = w.shown.mode ∙ so.on.mode;
      };
    })

-- inside a transaction nothing is committed
pub completes_none : (carried : Bool) (at : ℕ) → at < length (lacked_texts carried) → (first old : State) (db : Trees)
    → Completing carried at first old → ¬ CommitsBy (lacked_text carried at) [] old db
completes_none carried at low first old db so h =
    let r = (step_at carried at low).reads in
    go (commits_as [] (lacked_text carried at) CreateTable old db
    (ap (λ sch. command_of (understood sch (lacked_text carried at))) so.schema ∙ r.command) (subst (λ sch. IsPlain (understood sch (lacked_text carried at))) (sym so.schema) r.plain) h)
  where
    go : MayCommit old None CreateTable (statement_of (lacked_text carried at) (understood old.now.schema (lacked_text carried at))) [] db → ⊥
    go (inl (inl is, same)) = cc
    go (inl (inr named, same)) = let e = named.2 in cc
    go (inr w) = true≢false (sym so.on.mode ∙ w.0)

-- ---- at the end

last_is : (carried : Bool) → old_stage carried (length (lacked_texts carried)) ≡ schema_of carried
unfolding everything
last_is false = refl
last_is true = refl

all_tables : (carried : Bool) → (schema_of carried).tables ≡ (old_schema carried).tables ++ fresh_tables carried (length (lacked_texts carried))
unfolding everything
all_tables false = refl
all_tables true = refl

rows_completed : (carried : Bool) (old new : Trees) → KeepsRows (old_schema carried).tables old new
    → AreEmpty (fresh_tables carried (length (lacked_texts carried))) new → rows_at carried new ≡ completed carried (rows_at carried old)
rows_completed false old new k e = rw (k.0, k.1.0, k.1.1.0, k.1.1.1.0, k.1.1.1.1.0, k.1.1.1.1.1.0, k.1.1.1.1.1.1.1.0, k.1.1.1.1.1.1.1.1.0, e.0, e.1.0) refl
rows_completed true old new k e = rw (k.0, k.1.0, k.1.1.0, k.1.1.1.0, k.1.1.1.1.0, k.1.1.1.1.1.0, k.1.1.1.1.1.1.1.0, e.0, e.1.0, e.1.1.0, e.1.1.1.0) refl

pub all_completed : (carried : Bool) (first new : State) → IsLive new → IsBegunOn first → is_carried first.now.trees ≡ carried
    → Completing carried (length (lacked_texts carried)) first new → CompletesTables first new
all_completed carried first new live begun is so =
    let schema : new.now.schema ≡ schema_of carried = so.schema ∙ last_is carried in
    let now : is_carried new.now.trees ≡ carried = carried_is carried new.now schema (live so.on.is_open).0 in
    let old_kept = kept_still (old_schema carried).tables first.now.trees new.now.trees so.others (subst (λ c. AreKept (old_schema c).tables first.now.trees) is begun.old.1) in
    let fresh = keyed_none (fresh_tables carried (length (lacked_texts carried))) new.now.trees so.fresh in
    let kept = subst (λ ts. AreKept ts new.now.trees) (sym (all_tables carried))
    (joined (λ t. AreKeyed (new.now.trees t.tree)) (old_schema carried).tables (fresh_tables carried (length (lacked_texts carried))) old_kept fresh) in
    let rows : rows_in new.now.trees ≡ completed (is_carried first.now.trees) (rows_in first.now.trees) =
    ap (λ c. rows_at c new.now.trees) now ∙ rows_completed carried first.now.trees new.now.trees so.others so.fresh ∙ (λ i. completed (sym is i) (rows_at (sym is i) first.now.trees)) in
    record {
      kept = (schema ∙ ap schema_of (sym now), subst (λ c. AreKept (schema_of c).tables new.now.trees) (sym now) kept);
      same = now ∙ sym is;
      rows = rows;
      on = so.on;
    }
