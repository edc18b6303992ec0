use Rattle.sqlite.specs.Held.{state}
use Rattle.sqlvault.proofs.AdoptLemmas.{kinds_met, stays_undone}
use Rattle.sqlvault.proofs.CarryLemmas.{nothing_more}
use Rattle.sqlvault.proofs.FrameLemmas.{passed, begins_clean, concluded_kinds}
use Rattle.sqlvault.proofs.MakeLemmas.{unmade, made_concluded}
use Rattle.sqlvault.proofs.adopt.make.Goals as goal

pub returns-in_err-begin-clause-settles : goal.returns-in_err-begin-clause-settles
returns-in_err-begin-clause-settles g c = rw (passed c.from_residual.ensures.1) (λ clean blank out settled.
    let s0 = state g.S.Store c.args.conn.now in
    let s1 = state g.S.Store c.begin.new.conn in
    unmade s0 s1 c.in_err-begin.field-0.0 (stays_undone s0 s1 out settled (c.in_err-begin.ensures.err clean))
    (nothing_more s0 s1 clean c.begin.ensures.survives))

pub returns-clause-settles : goal.returns-clause-settles
returns-clause-settles g c clean blank out settled =
    made_concluded c.in_ok-begin.ensures blank out settled c.fill-filled.result c.conclude.result
    c.fill-filled.ensures c.conclude.ensures clean

pub returns-in_err-begin-clause-kinds : goal.returns-in_err-begin-clause-kinds
returns-in_err-begin-clause-kinds g c = rw (passed c.from_residual.ensures.1) (kinds_met c.in_err-begin.field-0.0)

pub returns-clause-kinds : goal.returns-clause-kinds
returns-clause-kinds g c = concluded_kinds c.fill-filled.result c.conclude.result c.conclude.ensures

pub returns-in_err-begin-clause-clean : goal.returns-in_err-begin-clause-clean
returns-in_err-begin-clause-clean g c clean = begins_clean c.begin.ensures clean

pub returns-clause-clean : goal.returns-clause-clean
returns-clause-clean g c clean =
    begins_clean c.begin.ensures (c.fill-filled.ensures.clean (c.conclude.ensures.clean clean))
