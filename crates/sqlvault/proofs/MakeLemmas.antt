-- The transaction that makes a store of a connection without tables.
use Rattle.std.proofs.Common.{◌≡◌, inl, inr, Bool, false, [], ◌++◌, ◌∷◌, sym, ap, subst, ◌∙◌, true≢false}
use Rattle.std.specs.Prelude.{IsTrue, Result, Ok, Err, OnOk, OnErr}
use Rattle.sqlite_trees.specs.declared.store.Store.{Ghosts}
use Rattle.sqlite.specs.Held.{Held, state}
use Rattle.sqlite.specs.declared.error.Error.{Error}
use Rattle.sqlite.specs.Effect.{Database}
use Rattle.sqlite.specs.State.{State, HasCleanDisk, Survives}
use Rattle.mailsql.specs.Changes.{AddsMetaRow}
use Rattle.mailsql.specs.Rows.{Rows, IsBegun, IsBare, IsGone, IsKept, IsUndone, MakesTables}
use Rattle.mailsql.specs.Rows.{Changes, MayLeave, no_rows, is_carried}
use Rattle.mailsql.specs.Names.{is_taken}
use Rattle.mailsql.specs.Tables.{no_schema, schema_of}
use Rattle.mailsql.proofs.SchemaLemmas.{ours_taken}
use Rattle.mailsql.specs.Uses.{marked}
use Rattle.sqlvault.specs.declared.refusal.Refusal.{Refusal}
use Rattle.sqlvault.specs.declared.refusal.Refusal.TheVariants.{Met}
use Rattle.sqlvault.specs.Refusals.{as_met}
use Rattle.sqlvault.specs.Adopts.{IsBlank, LeavesEmptyToo, Settles, StaysAs}
use Rattle.sqlvault.specs.Keeps.{our_meta_row, version}
use Rattle.sqlvault.specs.Moves.{Builds, DoesPart, Part}
use Rattle.sqlvault.specs.Older.{IsAllCommitted}
use Rattle.sqlvault.specs.Stands.{LeavesNoMore}
use Rattle.sqlvault.specs.Transactions.{Begins, Undoes, Ends, Concludes}
use Rattle.sqlvault.proofs.AdoptLemmas.{refused_met, stays_gone}
use Rattle.sqlvault.proofs.CarryLemmas.{made_at, more_then, nothing_more}
use Rattle.sqlvault.proofs.FrameLemmas.{undoes_clean}
use Rattle.sqlvault.proofs.MoveLemmas.{inside_on, part_of, then_part}
use Rattle.sqlvault.proofs.NewLemmas.{holds_made}

-- ---- the tables and the version row

pub creates_no_more : (a b : State) → IsBegun a → HasCleanDisk b → Survives a b (λ _. ¬ IsBegun a)
    → LeavesNoMore a b
creates_no_more a b begun clean s db may =
    elim (s.crash clean db may) [ inl was ↦ was | inr none ↦ absurd (none begun) ]

-- the rows of a new store
abbrev pub IsNew : Rows → Rows → Type 0
IsNew old new = new ≡ marked version

abbrev AreNone : Rows → Rows → Type 0
AreNone old new = new ≡ no_rows

pub filled : (a b c : State) (r : Result (Unit {0}) Error) → IsBegun a → HasCleanDisk b
    → MakesTables a b → Survives a b (λ _. ¬ IsBegun a) → HasCleanDisk c
    → OnOk r (Changes (AddsMetaRow our_meta_row) b c) → OnErr r (IsUndone b c)
    → Survives b c (MayLeave (AddsMetaRow our_meta_row) b) → Part IsNew a c r
filled a b c r begun clean1 made s1 clean2 ok err s2 =
    let first : DoesPart AreNone a b = record {
      on = made.on;
      tables = made.kept;
      change = made.rows;
      stop = creates_no_more a b begun clean1 s1;
    } in
    then_part AreNone (AddsMetaRow our_meta_row) IsNew a b c r
    (λ from mid to none adds. adds
    ∙ ap (λ (x : Rows). let w : Rows = record x { meta_rows = x.meta_rows ++ our_meta_row ∷ [] } in w) none)
    first
    (part_of (AddsMetaRow our_meta_row) (AddsMetaRow our_meta_row) b c r clean2 (inside_on AreNone a b first) ok
    err s2)

-- ---- the transaction

no_tables : (b : Bool) → no_schema ≡ schema_of b → ⊥
no_tables b e = true≢false (sym (ours_taken b) ∙ sym (ap is_taken e))

-- an error came, and nothing was made
pub unmade : (s0 s : State) (e : Error) → StaysAs s0 s → LeavesNoMore s0 s
    → Settles s0 s (Err (Met e))
unmade s0 s e stays stop =
    record { adopts = refused_met s0 e; stays = stays; stop = λ up db may. inl (stop db may) }

module _ {S : Type 0} {store : Ghosts S} {first mid : Held S} {x : Unit {0}}
    (begins : Begins store first mid (Ok x)) (blank : IsBlank (state store first))
    (out : (state store first).in_transaction ≡ false)
    (settled : IsAllCommitted (state store first)) where
  begun_at : HasCleanDisk (state store mid) → IsBegun (state store mid)
  begun_at clean = let shows = (begins.ok clean).1 in record {
    is_open = shows.is_open;
    inside = shows.mode;
    bare = subst (λ (d : Database). IsBare no_schema d) (sym shows.now_is) blank;
  }

  stays_at : (new : Held S) → HasCleanDisk (state store mid)
      → IsGone (state store mid) (state store new)
      → StaysAs (state store first) (state store new)
  stays_at new clean gone = stays_gone (state store first) (state store mid) (state store new) out
      settled (begins.ok clean).1 gone

  begins_no_more : HasCleanDisk (state store mid)
      → LeavesNoMore (state store first) (state store mid)
  begins_no_more clean =
      nothing_more (state store first) (state store mid) clean begins.survives

  -- a part met an error, and it was undone
  unfilled : {e : Error} {last new : Held S} (said : Error)
      → (let r : Result (Unit {0}) Error = Err e in Builds store mid last IsBegun IsNew r)
      → Undoes store last new → HasCleanDisk (state store new)
      → Settles (state store first) (state store new) (Err (Met said))
  unfilled {last = last} {new = new} said part back clean =
      let s0 = state store first in
      let s1 = state store mid in
      let s2 = state store last in
      let s3 = state store new in
      let clean2 = undoes_clean back clean in
      let clean1 = part.clean clean2 in
      let halts = part.part clean2 (begun_at clean1) in
      unmade s0 s3 said (stays_at new clean1 (back.gone mid clean halts.halted))
      (more_then s0 s1 s3 (begins_no_more clean1) (more_then s1 s2 s3 halts.stop
      (nothing_more s2 s3 clean back.survives)))

  module _ {y : Unit {0}} {last : Held S}
      (part : (let r : Result (Unit {0}) Error = Ok y in Builds store mid last IsBegun IsNew r)) where
    made_part : HasCleanDisk (state store last)
        → DoesPart IsNew (state store mid) (state store last)
    made_part clean = part.part clean (begun_at (part.clean clean))

    made_leaves : {r : Result (Unit {0}) Error} {new : Held S} → Ends store last new r
        → HasCleanDisk (state store new) → IsTrue (state store first).is_open
        → LeavesEmptyToo (state store first) (state store new)
    made_leaves {new = new} ends clean up =
        let s0 = state store first in
        let s1 = state store mid in
        let s2 = state store last in
        let clean2 = ends.clean clean in
        let d = made_part clean2 in
        made_at s0 s2 (state store new) blank (ends.live d.on.is_open).0 d.tables d.change
        (more_then s0 s1 s2 (begins_no_more (part.clean clean2)) d.stop) (ends.stop clean)

    -- it was committed
    made_whole : {z : Unit {0}} {new : Held S} → Ends store last new (Ok z)
        → HasCleanDisk (state store new)
        → Settles (state store first) (state store new) (Ok z)
    made_whole {new = new} ends clean =
        let d = made_part (ends.clean clean) in
        let shows = ends.ok clean in
        let not_kept : IsKept (state store first).now → ⊥ = λ kept. no_tables
        (is_carried (state store first).now.trees) (sym blank.0 ∙ kept.0) in
        record {
          adopts = record {
            autocommit = out;
            is_open = shows.is_open;
            blank = λ _. holds_made (state store last) (state store new) d.tables d.change shows;
            same = λ kept. absurd (not_kept kept);
            held = λ kept. absurd (not_kept kept);
            kept = λ c stored. absurd (not_kept stored.0);
          };
          stays = tt;
          stop = λ up. made_leaves ends clean up;
        }

    -- its end met an error, and it was undone
    unmade_whole : {e : Error} {new : Held S} → Ends store last new (Err e)
        → HasCleanDisk (state store new)
        → Settles (state store first) (state store new) (Err (Met e))
    unmade_whole {e = e} {new = new} ends clean =
        let clean2 = ends.clean clean in
        record {
          adopts = refused_met (state store first) e;
          stays = stays_at new (part.clean clean2) (ends.err mid clean (made_part clean2).on);
          stop = λ up. made_leaves ends clean up;
        }

    ended_at : (ended : Result (Unit {0}) Error) {new : Held S} → Ends store last new ended
        → HasCleanDisk (state store new)
        → Settles (state store first) (state store new) (as_met ended)
    ended_at (Ok z) ends clean = made_whole ends clean
    ended_at (Err e) ends clean = unmade_whole ends clean

  -- it was concluded
  pub made_concluded : {last new : Held S} (w : Result (Unit {0}) Error)
      (r : Result (Unit {0}) Refusal) → Builds store mid last IsBegun IsNew w
      → Concludes store last new w r → HasCleanDisk (state store new)
      → Settles (state store first) (state store new) r
  made_concluded {new = new} (Ok y) r part it clean =
      subst (λ (a : Result (Unit {0}) Refusal). Settles (state store first) (state store new) a)
      (sym it.ends.1) (ended_at part it.ends.0 it.ends.2 clean)
  made_concluded {new = new} (Err e) r part it clean =
      subst (λ (a : Result (Unit {0}) Refusal). Settles (state store first) (state store new) a)
      (sym it.undoes.1) (unfilled it.undoes.0 part it.undoes.2 clean)
