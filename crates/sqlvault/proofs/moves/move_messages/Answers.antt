use Rattle.std.proofs.Common.{◌≡◌, ◌∙◌}
use Rattle.sqlite.specs.Held.{state}
use Rattle.sqlite.specs.State.{IsUnchanged}
use Rattle.sqlvault.proofs.FrameLemmas.{was_clean, passed}
use Rattle.sqlvault.proofs.MoveLemmas.{part_looked, part_refused, asked_carried, inside_on}
use Rattle.sqlvault.proofs.MoveLemmas.{halts_behind, looked_heads, moved_found, moved_cleared}
use Rattle.sqlvault.proofs.moves.move_messages.Goals as goal

pub returns-in_err-heads : goal.returns-in_err-heads
returns-in_err-heads g c = rw (passed c.from_residual.ensures.1) (record {
  clean = was_clean g.S.Store c.args.conn.now c.old_messages.new.conn
      c.old_messages.ensures.survives;
  part = λ clean u.
      let s0 = state g.S.Store c.args.conn.now in
      let s1 = state g.S.Store c.old_messages.new.conn in
      part_refused s0 s1 u.of.under (c.in_err-heads.ensures.err clean (λ _. u.of.under.tables) u.of.order)
      (asked_carried s0 s1 u.of.under u.of.order clean c.old_messages.ensures.survives);
})

pub returns : goal.returns
returns g c =
    let before = was_clean g.S.Store c.move_all.new.conn c.clear_bodies.new.conn
    c.clear_bodies.ensures.survives in
    record {
      clean = λ clean. was_clean g.S.Store c.args.conn.now c.old_messages.new.conn
          c.old_messages.ensures.survives (c.move_all.ensures.part.clean (before clean));
      part = λ clean3 u.
          let s0 = state g.S.Store c.args.conn.now in
          let s1 = state g.S.Store c.old_messages.new.conn in
          let s2 = state g.S.Store c.move_all.new.conn in
          let i = u.of.under in
          let clean2 = before clean3 in
          let clean1 = c.move_all.ensures.part.clean clean2 in
          let same : IsUnchanged s0 s1 = c.in_ok-heads.ensures.same clean1 (λ _. i.tables) u.of.order in
          let looked = part_looked s0 s1 i same (asked_carried s0 s1 i u.of.order clean1 c.old_messages.ensures.survives) in
          let i1 = inside_on (λ old new. new ≡ old) s0 s1 looked in
          let heads = looked_heads c.as_slice.result.now s0 s1 u same looked (c.keys_hold.ensures.apart (i1.is_open, i1.tables)).bodies
          (c.as_slice.ensures.value ∙ c.in_ok-heads.ensures.ok clean1 (λ _. i.tables) u.of.order) in
          let moved = c.in_ok-move_all.ensures.part.part clean2 heads in
          let carried = c.in_ok-move_all.ensures.carried clean2 heads in
          moved_cleared s0 s2 (state g.S.Store c.clear_bodies.new.conn) c.clear_bodies.result clean3
          (moved_found s0 s1 s2 looked moved) carried
          (c.clear_bodies.ensures.ok clean3 (moved.on.is_open, moved.tables) carried)
          (c.clear_bodies.ensures.err clean3) c.clear_bodies.ensures.survives;
    }

pub returns-in_err-move_all : goal.returns-in_err-move_all
returns-in_err-move_all g c = rw (passed c.from_residual-in_err-move_all.ensures.1) (record {
  clean = λ clean. was_clean g.S.Store c.args.conn.now c.old_messages.new.conn
      c.old_messages.ensures.survives (c.move_all.ensures.part.clean clean);
  part = λ clean2 u.
      let s0 = state g.S.Store c.args.conn.now in
      let s1 = state g.S.Store c.old_messages.new.conn in
      let i = u.of.under in
      let clean1 = c.move_all.ensures.part.clean clean2 in
      let same : IsUnchanged s0 s1 = c.in_ok-heads.ensures.same clean1 (λ _. i.tables) u.of.order in
      let looked = part_looked s0 s1 i same
      (asked_carried s0 s1 i u.of.order clean1 c.old_messages.ensures.survives) in
      let i1 = inside_on (λ old new. new ≡ old) s0 s1 looked in
      let heads = looked_heads c.as_slice.result.now s0 s1 u same looked
      (c.keys_hold.ensures.apart (i1.is_open, i1.tables)).bodies (c.as_slice.ensures.value ∙ c.in_ok-heads.ensures.ok clean1 (λ _. i.tables) u.of.order) in
      halts_behind (λ old new. new ≡ old) s0 s1 (state g.S.Store c.move_all.new.conn) looked
      (c.in_err-move_all.ensures.part.part clean2 heads);
})
