use Rattle.std.proofs.Common.{◌<◌, ◌≤◌, length, ap, ◌∙◌, arith, refl, rules, SFits, w64, to_z-of_z}
use Rattle.std.proofs.lemmas.List.{length-map}
use Rattle.sqlite.specs.Held.{state}
use Rattle.mailsql.specs.Rows.{rows_in}
use Rattle.sqlvault.specs.Moves.{body_head}
use Rattle.sqlvault.proofs.FrameLemmas.{passed}
use Rattle.sqlvault.proofs.MoveLemmas.{moved_none, next_body, moved_next, moved_whole, inside_on}
use Rattle.sqlvault.proofs.MoveLemmas.{halts_behind}
use Rattle.sqlvault.proofs.moves.move_all.Goals as goal

pub loop-head-init : goal.loop-head-init
loop-head-init g c = (
  λ clean. clean,
  λ clean h. moved_none (state g.S.Store c.args.conn.now) h.unmoved.of.under h.unmoved.of.order,
)

pub loop-head-preserved : goal.loop-head-preserved
loop-head-preserved g c = (
  λ clean. c.loop-head.invariant.0 (c.move_one.ensures.clean clean),
  λ clean h.
      let s0 = state g.S.Store c.args.conn.now in
      let s1 = state g.S.Store c.loop-head.conn in
      let at = c.loop-head.head-index in
      let head = c.head-item.result in
      let first = c.loop-head.invariant.1 (c.move_one.ensures.clean clean) h in
      let low : at < length c.args.heads.now = omega (arith, c.loop-head-test.true) in
      let key = (let f : SFits w64 head.key = search rules in to_z-of_z f) in
      let n = next_body (rows_in s0.now.trees).bodies c.args.heads.now at head h.are h.rising low
      c.head-item.is in
      moved_next s0 s1 at head n first (state g.S.Store c.move_one.new.conn) _ key
      (h.unmoved.none refl)
      (c.in_ok-move_one.ensures.part clean (record { under = inside_on _ s0 s1 first.0; order = first.1 })),
)

pub returns-in_err-move_one-clause-part : goal.returns-in_err-move_one-clause-part
returns-in_err-move_one-clause-part g c = rw (passed c.from_residual.ensures.1) (record {
  clean = λ clean. c.loop-head.invariant.0 (c.in_err-move_one.ensures.clean clean);
  part = λ clean h.
      let s0 = state g.S.Store c.args.conn.now in
      let s1 = state g.S.Store c.loop-head.conn in
      let first = c.loop-head.invariant.1 (c.in_err-move_one.ensures.clean clean) h in
      halts_behind _ s0 s1 (state g.S.Store c.move_one.new.conn) first.0
      (c.in_err-move_one.ensures.part clean (record { under = inside_on _ s0 s1 first.0; order = first.1 }));
})

pub returns-clause-part : goal.returns-clause-part
returns-clause-part g c = record {
  clean = λ clean. c.loop-head.invariant.0 clean;
  part = λ clean h.
      let s0 = state g.S.Store c.args.conn.now in
      let all : length c.args.heads.now ≤ c.loop-head.head-index =
      omega (arith, c.loop-head-test.false) in
      moved_whole s0 (state g.S.Store c.loop-head.conn) c.loop-head.head-index (omega (
        arith,
        all,
        ap length h.are ∙ length-map (rows_in s0.now.trees).bodies body_head,
      ))
      (c.loop-head.invariant.1 clean h);
}

pub returns-clause-carried : goal.returns-clause-carried
returns-clause-carried g c clean h = (c.loop-head.invariant.1 clean h).1
