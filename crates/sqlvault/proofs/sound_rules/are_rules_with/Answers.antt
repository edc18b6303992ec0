use Rattle.sqlite.specs.declared.error.Error.{Error}
use Rattle.std.proofs.Common.{◌∙◌}
use Rattle.sqlite.specs.Held.{state}
use Rattle.mailsql.specs.Rows.{rows_in}
use Rattle.sqlvault.proofs.FrameLemmas.{passed}
use Rattle.sqlvault.proofs.RowFormLemmas.{policy_judged}
use Rattle.sqlvault.proofs.AskLemmas.{answered, unanswered, asks_passed}
use Rattle.sqlvault.proofs.sound_rules.are_rules_with.Goals as goal

pub returns-clause-judged : goal.returns-clause-judged
returns-clause-judged g c clean tables groups =
    let s0 = state g.S.Store c.args.conn.now in
    policy_judged (rows_in s0.now.trees) c.args.groups.items c.as_slice.result.now c.in_ok-are_rules.field-0 groups
    (c.as_slice.ensures.value ∙ c.in_ok-rows.ensures.ok clean tables) c.in_ok-are_rules.ensures

pub returns-clause-asks : goal.returns-clause-asks
returns-clause-asks g c =
    answered g.S.Store c.args.conn.now c.all_rules.new.conn c.in_ok-rows.ensures.same c.all_rules.ensures.survives

pub returns-in_err-are_rules-clause-asks : goal.returns-in_err-are_rules-clause-asks
returns-in_err-are_rules-clause-asks g c =
    let it = answered {A = Unit {0}} {E = Error} {x = tt} g.S.Store c.args.conn.now
    c.all_rules.new.conn c.in_ok-rows.ensures.same c.all_rules.ensures.survives in
    asks_passed c.from_residual-in_err-are_rules.result _ c.from_residual-in_err-are_rules.ensures.1 it

pub returns-in_err-rows-clause-asks : goal.returns-in_err-rows-clause-asks
returns-in_err-rows-clause-asks g c = rw (passed c.from_residual.ensures.1) (unanswered g.S.Store c.args.conn.now c.all_rules.new.conn c.in_err-rows.ensures.err
    c.all_rules.ensures.survives)
