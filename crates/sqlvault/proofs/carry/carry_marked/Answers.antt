use Rattle.std.proofs.Common.{◌≡◌, ◌∙◌, [], ◌∷◌, ap, sym, true≢false}
use Rattle.sqlite.specs.Held.{state}
use Rattle.sqlite.specs.Effect.{Database}
use Rattle.sqlite.specs.State.{IsUnchanged}
use Rattle.mailsql.specs.Tables.{old_schema}
use Rattle.mailsql.specs.OlderVersions.{is_first}
use Rattle.mailsql.specs.Rows.{rows_in, is_carried, HasOldTables}
use Rattle.sqlvault.specs.Carries.{old_meta_row}
use Rattle.sqlvault.specs.Refusals.{told}
use Rattle.sqlvault.proofs.FrameLemmas.{passed}
use Rattle.sqlvault.proofs.AdoptLemmas.{stays_undone}
use Rattle.sqlvault.proofs.CarryLemmas.{judged_uncarried, order_uncarried, older_on, old_on, either}
use Rattle.sqlvault.proofs.OlderLemmas.{carries_behind}
use Rattle.sqlvault.proofs.carry.carry_marked.Goals as goal

pub returns-in_err-version-clause-turns : goal.returns-in_err-version-clause-turns
returns-in_err-version-clause-turns g c = rw (passed c.from_residual.ensures.1) (λ clean1 older out settled. let s0 = state g.S.Store c.args.conn.now in
    let s1 = state g.S.Store c.find_older.new.conn in
    let tables : HasOldTables s0 = λ _. older in
    record {
      carried = judged_uncarried s0 (told c.in_err-version.field-0.0) (c.in_err-version.ensures.judged clean1 tables);
      stays = stays_undone s0 s1 out settled (c.in_err-version.ensures.asks.err clean1 tables);
      stop = either s0 s1 (c.find_older.ensures.asks.stop clean1 older);
    })

pub returns-then-not-has_older_columns-clause-turns : goal.returns-then-not-has_older_columns-clause-turns
returns-then-not-has_older_columns-clause-turns g c clean1 older out settled =
    let s0 = state g.S.Store c.args.conn.now in
    let s1 = state g.S.Store c.find_older.new.conn in
    let tables : HasOldTables s0 = λ _. older in
    let u1 : IsUnchanged s0 s1 = c.in_ok-version.ensures.asks.same clean1 tables in
    let is : (rows_in s0.now.trees).meta_rows ≡ old_meta_row (is_first c.in_ok-version.version) ∷ [] =
    c.in_ok-version.ensures.judged clean1 tables in
    let schema : s1.now.schema ≡ old_schema (is_carried s1.now.trees) =
    (old_on s0 s1 u1 tables u1.0.is_open).0 in
    let order = ap (λ (d : Database). is_carried d.trees) u1.0.now_is in
    record {
      carried = order_uncarried (is_first c.in_ok-version.version) s0 is (λ same. true≢false
          (sym (c.has_older_columns.ensures.fits (schema ∙ ap old_schema (order ∙ same)))
          ∙ c.if-not-has_older_columns.true));
      stays = λ up. (u1.0.was_open, (u1.0.now_is, u1.0.committed_is), u1.0.mode);
      stop = either s0 s1 (c.find_older.ensures.asks.stop clean1 older);
    }

pub returns-clause-turns : goal.returns-clause-turns
returns-clause-turns g c clean2 older out settled =
    let s0 = state g.S.Store c.args.conn.now in
    let s1 = state g.S.Store c.find_older.new.conn in
    let tables : HasOldTables s0 = λ _. older in
    let clean1 = c.carry.ensures.clean clean2 in
    let u1 : IsUnchanged s0 s1 = c.in_ok-version.ensures.asks.same clean1 tables in
    let is : (rows_in s0.now.trees).meta_rows ≡ old_meta_row (is_first c.in_ok-version.version) ∷ [] =
    c.in_ok-version.ensures.judged clean1 tables in
    let schema : s1.now.schema ≡ old_schema (is_carried s1.now.trees) =
    (old_on s0 s1 u1 tables u1.0.is_open).0 in
    let now = older_on (is_first c.in_ok-version.version) s0 s1 u1 older (c.has_older_columns.ensures.order
    (is_carried s1.now.trees) schema c.if-not-has_older_columns.false) out settled is in
    carries_behind s0 s1 (state g.S.Store c.carry.new.conn) c.carry.result u1
    (c.find_older.ensures.asks.stop clean1 older) (c.carry.ensures.turns clean2 now)

-- ---- clean

pub returns-in_err-version-clause-clean : goal.returns-in_err-version-clause-clean
returns-in_err-version-clause-clean g c = c.find_older.ensures.asks.clean

pub returns-then-not-has_older_columns-clause-clean : goal.returns-then-not-has_older_columns-clause-clean
returns-then-not-has_older_columns-clause-clean g c = c.find_older.ensures.asks.clean

pub returns-clause-clean : goal.returns-clause-clean
returns-clause-clean g c clean = c.find_older.ensures.asks.clean (c.carry.ensures.clean clean)

-- ---- of no version that is known here

pub returns-in_err-version-clause-unknown : goal.returns-in_err-version-clause-unknown
returns-in_err-version-clause-unknown g c = rw (passed c.from_residual.ensures.1) (λ clean1 it settled. c.in_err-version.ensures.unknown clean1 it settled)

pub returns-then-not-has_older_columns-clause-unknown : goal.returns-then-not-has_older_columns-clause-unknown
returns-then-not-has_older_columns-clause-unknown g c clean1 it settled =
    absurd (c.in_ok-version.ensures.unknown clean1 it settled)

pub returns-clause-unknown : goal.returns-clause-unknown
returns-clause-unknown g c clean2 it settled =
    absurd (c.in_ok-version.ensures.unknown (c.carry.ensures.clean clean2) it settled)
