use Rattle.std.proofs.Common.{arith, ◌+◌, ◌≡◌, subst}
use Rattle.sqlite.specs.Held.{state}
use Rattle.sqlite.specs.State.{HasCleanDisk, Survives}
use Rattle.sqlite.proofs.StateLemmas.{survives_then}
use Rattle.mailsql.specs.Tables.{stage}
use Rattle.mailsql.specs.Rows.{IsBegun, IsBare, GoesOn}
use Rattle.mailsql.proofs.StateLemmas.{error_undone, survives_nothing}
use Rattle.mailsql.proofs.CreateLemmas.{creates_next, creates_none, not_begun_yet, stops_making, all_made}
use Rattle.mailsql.proofs.tables.create_tables.Given.{Over}
use Rattle.mailsql.proofs.tables.create_tables.Goals.{After-execute}
use Rattle.mailsql.proofs.tables.create_tables.Goals as goal

pub loop-at-init : goal.loop-at-init
loop-at-init g c = (survives_nothing _ _, λ clean begun. not_begun_yet (state g.S.Store c.args.conn.now) begun)

-- ---- what the next statement meets

clean_before : (g : Over) (c : After-execute g) → HasCleanDisk (state g.S.Store c.execute.new.self) → HasCleanDisk (state g.S.Store c.loop-at.conn)
clean_before g c clean = omega (arith, clean, c.execute.ensures.survives.clean)

-- the tables so far were made in the transaction that began
so_far : (g : Over) (c : After-execute g) → HasCleanDisk (state g.S.Store c.execute.new.self) → IsBegun (state g.S.Store c.args.conn.now)
    → IsBare (stage c.loop-at.at) (state g.S.Store c.loop-at.conn).now × GoesOn (state g.S.Store c.args.conn.now) (state g.S.Store c.loop-at.conn)
so_far g c clean begun = c.loop-at.invariant.1 (clean_before g c clean) begun

stops : (g : Over) (c : After-execute g) → Survives (state g.S.Store c.args.conn.now) (state g.S.Store c.execute.new.self) (λ _. ¬ IsBegun (state g.S.Store c.args.conn.now))
stops g c =
    let survives = rw c.create_text.ensures at c.execute.ensures.survives in
    survives_then (state g.S.Store c.args.conn.now) (state g.S.Store c.loop-at.conn) (state g.S.Store c.execute.new.self) _ _ _ (λ _ db none. none) (λ clean db may begun.
    let it = so_far g c clean begun in
    creates_none c.loop-at.at c.loop-at-test.true (state g.S.Store c.args.conn.now) (state g.S.Store c.loop-at.conn) db begun it.0 it.1 may) c.loop-at.invariant.0 survives

-- ---- each exit

pub loop-at-preserved : goal.loop-at-preserved
loop-at-preserved g c =
    let here = (goal.at.loop-at-preserved g c).After-execute in
    let made = rw c.create_text.ensures at c.in-Ok.ensures.runs in (
      stops g here,
      λ clean begun.
          let it = so_far g here clean begun in
          creates_next c.loop-at.at (c.loop-at.at + 1) (omega arith) c.loop-at-test.true (state g.S.Store c.args.conn.now) (state g.S.Store c.loop-at.conn) (state g.S.Store c.execute.new.self)
          c.in-Ok.field-0 begun it.0 it.1 (made clean),
    )

pub returns-in-Err-clause-err : goal.returns-in-Err-clause-err
returns-in-Err-clause-err g c clean begun =
    let on = (so_far g (goal.at.returns-in-Err-clause-err g c).After-execute clean begun).1 in
    let s1 = state g.S.Store c.loop-at.conn in
    let s2 = state g.S.Store c.execute.new.self in
    stops_making (state g.S.Store c.args.conn.now) s1 s2 on (error_undone s1 s2 _ _ _ (c.in-Err.ensures.runs clean))

pub returns-in-Err-clause-cause : goal.returns-in-Err-clause-cause
returns-in-Err-clause-cause g c clean begun =
    let it = so_far g (goal.at.returns-in-Err-clause-cause g c).After-execute clean begun in
    let runs = rw c.create_text.ensures at c.in-Err.ensures.runs in
    (c.loop-at.at, c.loop-at-test.true, c.loop-at.conn, it.0, it.1, runs clean)

pub returns-in-Err-clause-survives : goal.returns-in-Err-clause-survives
returns-in-Err-clause-survives g c = stops g (goal.at.returns-in-Err-clause-survives g c).After-execute

pub returns-clause-ok : goal.returns-clause-ok
returns-clause-ok g c clean begun =
    let it = c.loop-at.invariant.1 clean begun in
    let end : c.loop-at.at ≡ 10 = omega (arith, c.loop-at-test.false, c.loop-at.auto.at-end) in
    all_made (state g.S.Store c.args.conn.now) (state g.S.Store c.loop-at.conn) c.schema-schema.ensures.live (subst (λ n. IsBare (stage n) (state g.S.Store c.loop-at.conn).now) end it.0) it.1
