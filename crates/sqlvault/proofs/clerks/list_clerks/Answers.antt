use Rattle.std.proofs.Common.{Ok, sym, ap, ◌∙◌}
use Rattle.sqlite.specs.Held.{state}
use Rattle.vault.specs.Clerks.{clerk_kinds}
use Rattle.mailsql.specs.Rows.{rows_in}
use Rattle.sqlvault.specs.Stands.{Holds}
use Rattle.sqlvault.proofs.HoldsLemmas.{seen, holds_unchanged, holds_undone, refused}
use Rattle.sqlvault.proofs.FrameLemmas.{asked, failed, passed}
use Rattle.sqlvault.proofs.clerks.KindLemmas.{kinds_listed}
use Rattle.sqlvault.proofs.clerks.list_clerks.Goals as goal

pub returns-clause-done : goal.returns-clause-done
returns-clause-done g c held clean h =
    let s0 = state g.S.Store c.args.conn.now in
    let s1 = state g.S.Store c.all_clerks.new.conn in
    let same = c.in_ok-rows.ensures.same clean h.tables in
    record {
      answer = ap Ok (sym (kinds_listed (rows_in s0.now.trees) held c.as_slice.result.now
          c.in_ok-kinds_in.field-0.items (seen s0 s1 held same h)
          (c.as_slice.ensures.value ∙ c.in_ok-rows.ensures.ok clean h.tables)
          c.in_ok-kinds_in.ensures));
      held = holds_unchanged s0 s1 held same h;
    }

pub returns-in_err-kinds_in-clause-done : goal.returns-in_err-kinds_in-clause-done
returns-in_err-kinds_in-clause-done g c = rw (passed c.from_residual-in_err-kinds_in.ensures.1) (λ held clean h. let s1 = state g.S.Store c.all_clerks.new.conn in
    refused (Holds s1) held held (Ok (clerk_kinds held.clerks)) c.in_err-kinds_in.field-0.0
    (holds_unchanged (state g.S.Store c.args.conn.now) s1 held (c.in_ok-rows.ensures.same clean h.tables) h))

pub returns-in_err-rows-clause-done : goal.returns-in_err-rows-clause-done
returns-in_err-rows-clause-done g c = rw (passed c.from_residual.ensures.1) (λ held clean h. let s1 = state g.S.Store c.all_clerks.new.conn in
    refused (Holds s1) held held (Ok (clerk_kinds held.clerks)) c.in_err-rows.field-0.0
    (holds_undone (state g.S.Store c.args.conn.now) s1 held (c.in_err-rows.ensures.err clean h.tables) h))

pub returns-clause-looks : goal.returns-clause-looks
returns-clause-looks g c = asked g.S.Store c.args.conn.now c.all_clerks.new.conn c.in_ok-rows.ensures.same c.all_clerks.ensures.survives

pub returns-in_err-kinds_in-clause-looks : goal.returns-in_err-kinds_in-clause-looks
returns-in_err-kinds_in-clause-looks g c = rw (passed c.from_residual-in_err-kinds_in.ensures.1)
    (asked g.S.Store c.args.conn.now c.all_clerks.new.conn c.in_ok-rows.ensures.same c.all_clerks.ensures.survives)

pub returns-in_err-rows-clause-looks : goal.returns-in_err-rows-clause-looks
returns-in_err-rows-clause-looks g c = rw (passed c.from_residual.ensures.1) (failed g.S.Store c.args.conn.now c.all_clerks.new.conn c.in_err-rows.ensures.err
    c.all_clerks.ensures.survives)
