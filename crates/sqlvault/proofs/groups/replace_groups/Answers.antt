use Rattle.mailsql.specs.Changes.{ClearsGroups}
use Rattle.sqlvault.specs.Rules.{AddsGroups, SetsGroups}
use Rattle.sqlvault.proofs.FrameLemmas.{wrote, unwritten, writes_then, passed}
use Rattle.sqlvault.proofs.GroupLemmas.{groups_set}
use Rattle.sqlvault.proofs.groups.replace_groups.Goals as goal

pub returns : goal.returns
returns g c =
    let gs = c.args.policy.now.groups in
    writes_then {A = Unit {0}} (λ _. ClearsGroups) (AddsGroups gs) (SetsGroups gs) tt c.add_groups.result
    (wrote g.S.Store c.args.conn.now c.clear_groups.new.conn (λ _. ClearsGroups) ClearsGroups tt
    c.in_ok-clear_groups.ensures.ok c.clear_groups.ensures.survives)
    c.add_groups.ensures (λ from mid to a b. groups_set gs from mid to a b)

pub returns-in_err-clear_groups : goal.returns-in_err-clear_groups
returns-in_err-clear_groups g c = rw (passed c.from_residual.ensures.1)
    (unwritten g.S.Store c.args.conn.now c.clear_groups.new.conn _ ClearsGroups c.in_err-clear_groups.field-0.0
    c.in_err-clear_groups.ensures.err c.clear_groups.ensures.survives)
