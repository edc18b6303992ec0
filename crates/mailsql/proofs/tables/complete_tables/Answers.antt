use Rattle.std.proofs.Common.{arith, ◌+◌, ◌≡◌, ◌<◌, length, subst, ◌∙◌}
use Rattle.sqlite.specs.Held.{state}
use Rattle.sqlite.specs.State.{HasCleanDisk, Survives}
use Rattle.sqlite.proofs.StateLemmas.{survives_then}
use Rattle.mailsql.specs.Tables.{lacked_texts}
use Rattle.mailsql.specs.OlderVersions.{is_first}
use Rattle.mailsql.specs.Rows.{IsBegunOn, is_carried}
use Rattle.mailsql.proofs.StateLemmas.{error_undone, survives_nothing}
use Rattle.mailsql.proofs.CreateLemmas.{stops_making}
use Rattle.mailsql.proofs.CompleteLemmas.{Completing, none_yet, completes_next, completes_none, all_completed}
use Rattle.mailsql.proofs.tables.complete_tables.Given.{Over}
use Rattle.mailsql.proofs.tables.complete_tables.Goals.{After-execute}
use Rattle.mailsql.proofs.tables.complete_tables.Goals as goal

pub loop-at-init : goal.loop-at-init
loop-at-init g c = (survives_nothing _ _, λ clean begun is. none_yet (is_first c.args.version) (state g.S.Store c.args.conn.now) begun is)

-- ---- what the next statement meets

low : (g : Over) (c : After-execute g) → c.loop-at.at < length (lacked_texts (is_first c.args.version))
low g c = omega (arith, c.loop-at-test.true, c.lacked-count.ensures)

-- the tables so far were made in the transaction that began
so_far : (g : Over) (c : After-execute g) → HasCleanDisk (state g.S.Store c.execute.new.self) → IsBegunOn (state g.S.Store c.args.conn.now)
    → is_carried (state g.S.Store c.args.conn.now).now.trees ≡ is_first c.args.version
    → Completing (is_first c.args.version) c.loop-at.at (state g.S.Store c.args.conn.now) (state g.S.Store c.loop-at.conn)
so_far g c clean begun is =
    let before : HasCleanDisk (state g.S.Store c.loop-at.conn) = omega (arith, clean, c.execute.ensures.survives.clean) in
    c.loop-at.invariant.1 before begun is

stops : (g : Over) (c : After-execute g) → Survives (state g.S.Store c.args.conn.now) (state g.S.Store c.execute.new.self)
    (λ _. IsBegunOn (state g.S.Store c.args.conn.now) → is_carried (state g.S.Store c.args.conn.now).now.trees ≡ is_first c.args.version → ⊥)
stops g c =
    let text = c.create_text.ensures ∙ c.lacked_place.ensures.text in
    let survives = rw text at c.execute.ensures.survives in
    survives_then (state g.S.Store c.args.conn.now) (state g.S.Store c.loop-at.conn) (state g.S.Store c.execute.new.self) _ _ _ (λ _ db none. none) (λ clean db may begun is.
    completes_none (is_first c.args.version) c.loop-at.at (low g c) (state g.S.Store c.args.conn.now) (state g.S.Store c.loop-at.conn) db
    (so_far g c clean begun is) may) c.loop-at.invariant.0 survives

-- ---- each exit

pub loop-at-preserved : goal.loop-at-preserved
loop-at-preserved g c =
    let here = (goal.at.loop-at-preserved g c).After-execute in
    let made = rw (c.create_text.ensures ∙ c.lacked_place.ensures.text) at c.in-Ok.ensures.runs in (
      stops g here,
      λ clean begun is. completes_next (is_first c.args.version) c.loop-at.at (c.loop-at.at + 1) (omega arith) (low g here) (state g.S.Store c.args.conn.now) (state g.S.Store c.loop-at.conn)
          (state g.S.Store c.execute.new.self) c.in-Ok.field-0 (so_far g here clean begun is) (made clean),
    )

pub returns-in-Err-clause-err : goal.returns-in-Err-clause-err
returns-in-Err-clause-err g c clean begun is =
    let it = so_far g (goal.at.returns-in-Err-clause-err g c).After-execute clean begun is in
    let s1 = state g.S.Store c.loop-at.conn in
    let s2 = state g.S.Store c.execute.new.self in
    stops_making (state g.S.Store c.args.conn.now) s1 s2 it.on (error_undone s1 s2 _ _ _ (c.in-Err.ensures.runs clean))

pub returns-in-Err-clause-cause : goal.returns-in-Err-clause-cause
returns-in-Err-clause-cause g c clean begun is =
    let here = (goal.at.returns-in-Err-clause-cause g c).After-execute in
    let it = so_far g here clean begun is in
    let runs = rw (c.create_text.ensures ∙ c.lacked_place.ensures.text) at c.in-Err.ensures.runs in
    (c.loop-at.at, low g here, c.loop-at.conn, it.schema, it.on, runs clean)

pub returns-in-Err-clause-survives : goal.returns-in-Err-clause-survives
returns-in-Err-clause-survives g c = stops g (goal.at.returns-in-Err-clause-survives g c).After-execute

pub returns-clause-ok : goal.returns-clause-ok
returns-clause-ok g c clean begun is =
    let it = c.loop-at.invariant.1 clean begun is in
    let end : c.loop-at.at ≡ length (lacked_texts (is_first c.args.version)) = omega (arith, c.loop-at-test.false, c.loop-at.auto.at-end, c.lacked-count.ensures) in
    all_completed (is_first c.args.version) (state g.S.Store c.args.conn.now) (state g.S.Store c.loop-at.conn) c.schema-schema.ensures.live begun is
    (subst (λ n. Completing (is_first c.args.version) n (state g.S.Store c.args.conn.now) (state g.S.Store c.loop-at.conn)) end it)
