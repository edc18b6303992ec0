use Rattle.std.proofs.Common.{◌≡◌, inl, sym, ◌∙◌, to_z-of_z}
use Rattle.sqlite.specs.Held.{state}
use Rattle.sqlite.specs.State.{IsUnchanged}
use Rattle.sqlvault.proofs.FrameLemmas.{was_clean, passed}
use Rattle.sqlvault.proofs.MoveLemmas.{part_looked, part_refused, asked_carried, inside_on}
use Rattle.sqlvault.proofs.MoveLemmas.{found_put}
use Rattle.sqlvault.proofs.moves.move_one.Goals as goal

pub returns-in-Some : goal.returns-in-Some
returns-in-Some g c = record {
  clean = λ clean. was_clean g.S.Store c.args.conn.now c.find_body.new.conn
      c.find_body.ensures.survives (c.put_body.ensures.clean clean);
  part = λ clean2 of.
      let s0 = state g.S.Store c.args.conn.now in
      let s1 = state g.S.Store c.find_body.new.conn in
      let clean1 = c.put_body.ensures.clean clean2 in
      let same : IsUnchanged s0 s1 = c.in_ok-body.ensures.same clean1 (λ _. of.under.tables)
      of.order in
      let some = sym c.in-Some.is ∙ (simp (to_z-of_z, c.ranges.key) at
      (c.in_ok-body.ensures.ok clean1 (λ _. of.under.tables) of.order)) in
      let looked = part_looked s0 s1 of.under same
      (asked_carried s0 s1 of.under of.order clean1 c.find_body.ensures.survives) in
      found_put c.args.key c.in-Some.body s0 s1 (state g.S.Store c.put_body.new.conn)
      c.put_body.result looked (sym some)
      (c.put_body.ensures.part clean2 (inside_on (λ old new. new ≡ old) s0 s1 looked));
}

pub returns-in-None : goal.returns-in-None
returns-in-None g c = record {
  clean = was_clean g.S.Store c.args.conn.now c.find_body.new.conn c.find_body.ensures.survives;
  part = λ clean1 of.
      let s0 = state g.S.Store c.args.conn.now in
      let s1 = state g.S.Store c.find_body.new.conn in
      part_refused s0 s1 of.under
      (inl (c.in_ok-body.ensures.same clean1 (λ _. of.under.tables) of.order)) (asked_carried s0 s1 of.under of.order clean1 c.find_body.ensures.survives);
}

pub returns-in_err-body : goal.returns-in_err-body
returns-in_err-body g c = rw (passed c.from_residual.ensures.1) (record {
  clean = was_clean g.S.Store c.args.conn.now c.find_body.new.conn c.find_body.ensures.survives;
  part = λ clean1 of.
      let s0 = state g.S.Store c.args.conn.now in
      let s1 = state g.S.Store c.find_body.new.conn in
      part_refused s0 s1 of.under
      (c.in_err-body.ensures.err clean1 (λ _. of.under.tables) of.order)
      (asked_carried s0 s1 of.under of.order clean1 c.find_body.ensures.survives);
})
