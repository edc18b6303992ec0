use Rattle.std.proofs.Common.{Ok, sym, ap, ◌∙◌}
use Rattle.sqlite.specs.Held.{state}
use Rattle.mailsql.specs.Rows.{rows_in}
use Rattle.sqlvault.proofs.HoldsLemmas.{holds_unchanged, seen, refused, holds_undone}
use Rattle.sqlvault.proofs.RuleLemmas.{read_held}
use Rattle.sqlvault.proofs.FrameLemmas.{asked, failed, passed}
use Rattle.sqlvault.specs.Stands.{Holds}
use Rattle.sqlvault.proofs.rules.policy_with.Goals as goal

pub returns-clause-done : goal.returns-clause-done
returns-clause-done g c held clean h groups =
    let s0 = state g.S.Store c.args.conn.now in
    let s1 = state g.S.Store c.all_rules.new.conn in
    let same = c.in_ok-rows.ensures.same clean h.tables in
    let keeps = seen s0 s1 held same h in
    let items = c.as_slice.ensures.value ∙ c.in_ok-rows.ensures.ok clean h.tables in
    record {
      answer = ap Ok (sym (c.in_ok-read_policy.ensures held.policy keeps.sound.records.policy groups (read_held c.as_slice.result.now (rows_in s0.now.trees) held items keeps)));
      held = holds_unchanged s0 s1 held same h;
    }

pub returns-in_err-rows-clause-done : goal.returns-in_err-rows-clause-done
returns-in_err-rows-clause-done g c = rw (passed c.from_residual.ensures.1) (λ held clean1 h groups. let s1 = state g.S.Store c.all_rules.new.conn in
    refused (Holds s1) held _ _ c.in_err-rows.field-0.0 (holds_undone (state g.S.Store c.args.conn.now) s1 held (c.in_err-rows.ensures.err clean1 h.tables) h))

pub returns-in_err-read_policy-clause-done : goal.returns-in_err-read_policy-clause-done
returns-in_err-read_policy-clause-done g c = rw (passed c.from_residual-in_err-read_policy.ensures.1)
    (λ held clean1 h groups. let s1 = state g.S.Store c.all_rules.new.conn in
    refused (Holds s1) held _ _ c.in_err-read_policy.field-0.0 (holds_unchanged (state g.S.Store c.args.conn.now) s1 held (c.in_ok-rows.ensures.same clean1 h.tables) h))

pub returns-clause-looks : goal.returns-clause-looks
returns-clause-looks g c = asked g.S.Store c.args.conn.now c.all_rules.new.conn c.in_ok-rows.ensures.same c.all_rules.ensures.survives

pub returns-in_err-read_policy-clause-looks : goal.returns-in_err-read_policy-clause-looks
returns-in_err-read_policy-clause-looks g c = rw (passed c.from_residual-in_err-read_policy.ensures.1)
    (asked g.S.Store c.args.conn.now c.all_rules.new.conn c.in_ok-rows.ensures.same c.all_rules.ensures.survives)

pub returns-in_err-rows-clause-looks : goal.returns-in_err-rows-clause-looks
returns-in_err-rows-clause-looks g c = rw (passed c.from_residual.ensures.1) (failed g.S.Store c.args.conn.now c.all_rules.new.conn c.in_err-rows.ensures.err
    c.all_rules.ensures.survives)
