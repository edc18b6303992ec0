use Rattle.std.proofs.Common.{inl, refl, sym, ◌∙◌, arith}
use Rattle.sqlite.specs.Held.{state}
use Rattle.sqlvault.proofs.AdoptLemmas.{outside}
use Rattle.sqlvault.proofs.WithinLemmas.{autocommit_holds, undone_holds, inside_under}
use Rattle.sqlvault.proofs.WithinLemmas.{gone_outside, gone_back, inside_of}
use Rattle.sqlvault.proofs.transaction.roll_back.Goals as goal

pub returns-then-is_autocommit : goal.returns-then-is_autocommit
returns-then-is_autocommit g c =
    let s0 = state g.S.Store c.args.conn.now in
    let out = outside s0.in_transaction
    (sym c.if-is_autocommit.true ∙ c.is_autocommit.ensures.value) in
    record {
      holds = λ base clean h. autocommit_holds s0 base out h;
      gone = λ first clean halted. gone_outside (state g.S.Store first) s0 out halted;
      survives = record {
        clean = omega arith;
        shield = λ x. x;
        counts = omega arith;
        limit = refl;
        closes = λ clean up. inl up;
        crash = λ clean db may. inl may;
      };
    }

pub returns : goal.returns
returns g c =
    let s0 = state g.S.Store c.args.conn.now in
    let s1 = state g.S.Store c.rollback.new.conn in
    let inside = inside_of s0.in_transaction
    (sym c.if-is_autocommit.false ∙ c.is_autocommit.ensures.value) in
    record {
      holds = λ base clean h. undone_holds s0 s1 base (c.rollback.ensures.undone clean inside)
          (inside_under s0 base inside h);
      gone = λ first clean halted. gone_back (state g.S.Store first) s0 s1
          (c.rollback.ensures.undone clean inside) inside halted;
      survives = c.rollback.ensures.survives;
    }
