use Rattle.mailsql.specs.Changes.{ClearsRules}
use Rattle.sqlvault.specs.Rules.{AddsRules, SetsRules}
use Rattle.sqlvault.proofs.FrameLemmas.{wrote, unwritten, writes_then, passed}
use Rattle.sqlvault.proofs.RuleLemmas.{set}
use Rattle.sqlvault.proofs.rules.replace_rules.Goals as goal

pub returns : goal.returns
returns g c =
    let rules = c.args.rules.now in
    writes_then {A = Unit {0}} (λ _. ClearsRules) (AddsRules rules) (SetsRules rules) tt c.add_rules.result
    (wrote g.S.Store c.args.conn.now c.clear_rules.new.conn (λ _. ClearsRules) ClearsRules tt
    c.in_ok-clear_rules.ensures.ok c.clear_rules.ensures.survives)
    c.add_rules.ensures (λ from mid to. set rules from mid to)

pub returns-in_err-clear_rules : goal.returns-in_err-clear_rules
returns-in_err-clear_rules g c = rw (passed c.from_residual.ensures.1)
    (unwritten g.S.Store c.args.conn.now c.clear_rules.new.conn _ ClearsRules c.in_err-clear_rules.field-0.0
    c.in_err-clear_rules.ensures.err c.clear_rules.ensures.survives)
