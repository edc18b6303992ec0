use Rattle.std.proofs.Common.{inl, inr, ◌∙◌, ap, arith, to_z-of_z, ◌++◌, ◌∷◌, []}
use Rattle.sqlite.specs.Held.{state}
use Rattle.sqlite.specs.State.{HasCleanDisk}
use Rattle.mailsql.specs.Rows.{Rows, IsReady, Changes}
use Rattle.mailsql.specs.Changes.{DropsMetaRow, AddsMetaRow, PutsMetaRow}
use Rattle.mailsql.proofs.ResultLemmas.{on_ok_then, on_err_then, if_err}
use Rattle.mailsql.proofs.ChainLemmas.{changes_then, stops_then, stops_first, halts_first, halts_then}
use Rattle.mailsql.proofs.meta.put_meta_row.Given.{Over}
use Rattle.mailsql.proofs.meta.put_meta_row.Goals.{After-add_meta_row}
use Rattle.mailsql.proofs.meta.put_meta_row.Goals as goal

-- what stood under the name is gone
gone : (g : Over) (c : After-add_meta_row g) → HasCleanDisk (state g.S.Store c.add_meta_row.new.conn) → IsReady (state g.S.Store c.args.conn.now)
    → Changes (DropsMetaRow c.args.name.now) (state g.S.Store c.args.conn.now) (state g.S.Store c.drop_meta_row.new.conn)
gone g c clean ready =
    let before : HasCleanDisk (state g.S.Store c.drop_meta_row.new.conn) = omega (arith, clean, c.add_meta_row.ensures.survives.clean) in
    c.in-Ok.ensures.ok before ready

pub returns-in-Ok-clause-ok : goal.returns-in-Ok-clause-ok
returns-in-Ok-clause-ok g c clean ready =
    let s0 = state g.S.Store c.args.conn.now in
    let s1 = state g.S.Store c.drop_meta_row.new.conn in
    let s2 = state g.S.Store c.add_meta_row.new.conn in
    let one = gone g (goal.at.returns-in-Ok-clause-ok g c).After-add_meta_row clean ready in
    on_ok_then _ (λ two. changes_then (DropsMetaRow c.args.name.now) (AddsMetaRow (record { name = c.args.name.now; value = c.args.value }))
    (PutsMetaRow (record { name = c.args.name.now; value = c.args.value }))
    (λ x y z p q. q ∙ ap (λ (r : Rows). let w : Rows = record r { meta_rows = r.meta_rows ++ (record { name = c.args.name.now; value = c.args.value }) ∷ [] } in w) p) s0 s1 s2 one (λ _. two))
    (simp (to_z-of_z, c.ranges.value) at (c.add_meta_row.ensures.ok clean (one.shown.is_open, one.kept)))

pub returns-in-Ok-clause-err : goal.returns-in-Ok-clause-err
returns-in-Ok-clause-err g c clean ready inside =
    let one = gone g (goal.at.returns-in-Ok-clause-err g c).After-add_meta_row clean ready in
    on_err_then _ (halts_then (DropsMetaRow c.args.name.now) (state g.S.Store c.args.conn.now) (state g.S.Store c.drop_meta_row.new.conn) (state g.S.Store c.add_meta_row.new.conn)
    inside one) (c.add_meta_row.ensures.err clean)

pub returns-in-Ok-clause-survives : goal.returns-in-Ok-clause-survives
returns-in-Ok-clause-survives g c =
    stops_then (DropsMetaRow c.args.name.now) (AddsMetaRow (record { name = c.args.name.now; value = c.args.value }))
    (PutsMetaRow (record { name = c.args.name.now; value = c.args.value }))
    (λ x y z p q. q ∙ ap (λ (r : Rows). let w : Rows = record r { meta_rows = r.meta_rows ++ (record { name = c.args.name.now; value = c.args.value }) ∷ [] } in w) p)
    (state g.S.Store c.args.conn.now) (state g.S.Store c.drop_meta_row.new.conn) (state g.S.Store c.add_meta_row.new.conn)
    (λ clean1 ready. c.in-Ok.ensures.ok clean1 ready) c.drop_meta_row.ensures.survives (simp (to_z-of_z, c.ranges.value) at c.add_meta_row.ensures.survives)

pub returns-in-Err-clause-err : goal.returns-in-Err-clause-err
returns-in-Err-clause-err g c clean ready inside = halts_first (state g.S.Store c.args.conn.now) (state g.S.Store c.drop_meta_row.new.conn) inside (c.in-Err.ensures.err clean)

pub returns-in-Err-clause-survives : goal.returns-in-Err-clause-survives
returns-in-Err-clause-survives g c =
    stops_first (DropsMetaRow c.args.name.now) (PutsMetaRow (record { name = c.args.name.now; value = c.args.value }))
    (state g.S.Store c.args.conn.now) (state g.S.Store c.drop_meta_row.new.conn) c.drop_meta_row.ensures.survives

pub returns-in-Ok-clause-cause : goal.returns-in-Ok-clause-cause
returns-in-Ok-clause-cause g c clean ready =
    let one = gone g (goal.at.returns-in-Ok-clause-cause g c).After-add_meta_row clean ready in
    if_err _ _ _ (λ e fails. inr (c.drop_meta_row.new.conn, one, fails)) (simp (to_z-of_z, c.ranges.value) at (c.add_meta_row.ensures.cause clean))

pub returns-in-Err-clause-cause : goal.returns-in-Err-clause-cause
returns-in-Err-clause-cause g c clean ready = inl (c.in-Err.ensures.cause clean)
