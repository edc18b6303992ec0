use Rattle.std.proofs.Common.{arith, ◌+◌, ◌-◌, ◌≡◌, ◌<◌, ℕ, ℤ, subst, sym, to_z-of_z, refl, ap, not, ◌∙◌}
use Rattle.sqlite.specs.Held.{state}
use Rattle.sqlite.specs.State.{HasCleanDisk, Survives}
use Rattle.mailsql.specs.Sheets.{sheet_count}
use Rattle.mailsql.specs.Rows.{Changes, MayLeave}
use Rattle.mailsql.specs.Changes.{AddsSheetsFrom, AddsSomeRest}
use Rattle.mailsql.proofs.StateLemmas.{survives_nothing}
use Rattle.mailsql.proofs.ChainLemmas.{halts_then}
use Rattle.mailsql.proofs.SheetRunLemmas.{HasAdded, none_added, stops_between, added_at}
use Rattle.mailsql.proofs.sheets.add_rest.Given.{Over}
use Rattle.mailsql.proofs.sheets.add_rest.Goals.{After-add_sheet_at}
use Rattle.mailsql.proofs.sheets.add_rest.Goals as goal

pub loop-place-init : goal.loop-place-init
loop-place-init g c =
    subst (λ (m : ℤ). HasAdded m c.args.text.now c.args.from c.args.from (state g.S.Store c.args.conn.now) (state g.S.Store c.args.conn.now)) (sym (to_z-of_z c.ranges.mail)) (record {
      low = omega arith;
      high = omega arith;
      survives = survives_nothing _ _;
      does = λ clean ready. none_added c.args.mail c.args.text.now c.args.from (c.args.from - c.args.from) (omega arith) (state g.S.Store c.args.conn.now) ready
          (λ off. c.is_autocommit-settled.ensures.settled (c.is_autocommit-settled.ensures.value ∙ ap not off) ready.0);
    })

-- ---- what every sheet after the first ones meets

-- the first sheets were added
so_far : (g : Over) (c : After-add_sheet_at g) → HasAdded c.args.mail c.args.text.now c.args.from c.loop-place.place (state g.S.Store c.args.conn.now) (state g.S.Store c.loop-place.conn)
so_far g c = subst (λ (m : ℤ). HasAdded m c.args.text.now c.args.from c.loop-place.place (state g.S.Store c.args.conn.now) (state g.S.Store c.loop-place.conn))
    (to_z-of_z c.ranges.mail) c.loop-place.invariant

low : (g : Over) (c : After-add_sheet_at g) → c.loop-place.place < sheet_count c.args.text.now
low g c = omega (arith, c.loop-place-test.true, c.count_sheets-place-end.ensures)

clean_before : (g : Over) (c : After-add_sheet_at g) → HasCleanDisk (state g.S.Store c.add_sheet_at.new.conn) → HasCleanDisk (state g.S.Store c.loop-place.conn)
clean_before g c clean = omega (arith, clean, c.add_sheet_at.ensures.survives.clean)

-- what a stop may leave then
stops : (g : Over) (c : After-add_sheet_at g) → Survives (state g.S.Store c.args.conn.now) (state g.S.Store c.add_sheet_at.new.conn)
    (MayLeave (AddsSomeRest c.args.from c.args.mail c.args.text.now) (state g.S.Store c.args.conn.now))
stops g c =
    let n = c.loop-place.place - c.args.from in
    let inv = so_far g c in
    stops_between c.args.mail c.args.text.now c.args.from (state g.S.Store c.args.conn.now) (state g.S.Store c.loop-place.conn) (state g.S.Store c.add_sheet_at.new.conn)
    n (n + 1) c.loop-place.place refl (omega (arith, inv.low)) (low g c) inv.does inv.survives
    (simp (to_z-of_z, c.ranges.mail) at c.add_sheet_at.ensures.survives)

-- ---- each exit

pub loop-place-preserved : goal.loop-place-preserved
loop-place-preserved g c =
    let it = (goal.at.loop-place-preserved g c).After-add_sheet_at in
    subst (λ (m : ℤ). HasAdded m c.args.text.now c.args.from (c.loop-place.place + 1) (state g.S.Store c.args.conn.now) (state g.S.Store c.add_sheet_at.new.conn)) (sym (to_z-of_z c.ranges.mail))
    (added_at c.args.mail c.args.text.now c.args.from c.loop-place.place (state g.S.Store c.args.conn.now) (state g.S.Store c.loop-place.conn) (state g.S.Store c.add_sheet_at.new.conn)
    (low g it) (so_far g it) (simp (to_z-of_z, c.ranges.mail) at c.add_sheet_at.ensures.survives)
    (λ clean on. simp (to_z-of_z, c.ranges.mail) at (c.in-Ok.ensures.ok clean on)))

pub returns-in-Err-clause-err : goal.returns-in-Err-clause-err
returns-in-Err-clause-err g c clean ready inside =
    let it = (goal.at.returns-in-Err-clause-err g c).After-add_sheet_at in
    halts_then (AddsSheetsFrom c.args.from (c.loop-place.place - c.args.from) c.args.mail c.args.text.now) (state g.S.Store c.args.conn.now) (state g.S.Store c.loop-place.conn)
    (state g.S.Store c.add_sheet_at.new.conn) inside ((so_far g it).does (clean_before g it clean) ready) (c.in-Err.ensures.err clean)

pub returns-in-Err-clause-cause : goal.returns-in-Err-clause-cause
returns-in-Err-clause-cause g c clean ready =
    let it = (goal.at.returns-in-Err-clause-cause g c).After-add_sheet_at in
    let inv = so_far g it in
    let at : c.args.from + (c.loop-place.place - c.args.from) ≡ c.loop-place.place = omega (arith, inv.low) in (
      c.loop-place.place - c.args.from,
      omega (arith, inv.low, low g it),
      (c.loop-place.conn, inv.does (clean_before g it clean) ready, rw at (simp (to_z-of_z, c.ranges.mail) at (c.in-Err.ensures.cause clean))),
    )

pub returns-in-Err-clause-survives : goal.returns-in-Err-clause-survives
returns-in-Err-clause-survives g c = stops g (goal.at.returns-in-Err-clause-survives g c).After-add_sheet_at

pub returns-clause-ok : goal.returns-clause-ok
returns-clause-ok g c clean ready =
    let inv = subst (λ (m : ℤ). HasAdded m c.args.text.now c.args.from c.loop-place.place (state g.S.Store c.args.conn.now) (state g.S.Store c.loop-place.conn))
    (to_z-of_z c.ranges.mail) c.loop-place.invariant in
    let end : c.loop-place.place - c.args.from ≡ sheet_count c.args.text.now - c.args.from =
    omega (arith, c.loop-place-test.false, inv.high, c.count_sheets-place-end.ensures) in
    subst (λ (n : ℕ). Changes (AddsSheetsFrom c.args.from n c.args.mail c.args.text.now) (state g.S.Store c.args.conn.now) (state g.S.Store c.loop-place.conn)) end (inv.does clean ready)

pub returns-clause-survives : goal.returns-clause-survives
returns-clause-survives g c =
    (subst (λ (m : ℤ). HasAdded m c.args.text.now c.args.from c.loop-place.place (state g.S.Store c.args.conn.now) (state g.S.Store c.loop-place.conn))
    (to_z-of_z c.ranges.mail) c.loop-place.invariant).survives
