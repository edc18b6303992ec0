use Rattle.sqlite.specs.Held.{state}
use Rattle.sqlvault.proofs.FrameLemmas.{was_clean, passed}
use Rattle.sqlvault.proofs.MakeLemmas.{creates_no_more, filled}
use Rattle.sqlvault.proofs.adopt.fill.Goals as goal

pub returns : goal.returns
returns g c =
    let s0 = state g.S.Store c.args.conn.now in
    let s1 = state g.S.Store c.create_tables.new.conn in
    let before = was_clean g.S.Store c.create_tables.new.conn c.add_meta_row.new.conn
    c.add_meta_row.ensures.survives in
    record {
      clean = λ clean. was_clean g.S.Store c.args.conn.now c.create_tables.new.conn
          c.create_tables.ensures.survives (before clean);
      part = λ clean begun.
          let made = c.in_ok-create_tables.ensures.ok (before clean) begun in
          filled s0 s1 (state g.S.Store c.add_meta_row.new.conn) c.add_meta_row.result begun (before clean)
          made c.create_tables.ensures.survives clean
          (c.add_meta_row.ensures.ok clean (made.on.is_open, made.kept)) (c.add_meta_row.ensures.err clean)
          c.add_meta_row.ensures.survives;
    }

pub returns-in_err-create_tables : goal.returns-in_err-create_tables
returns-in_err-create_tables g c = rw (passed c.from_residual.ensures.1) (record {
  clean = was_clean g.S.Store c.args.conn.now c.create_tables.new.conn
      c.create_tables.ensures.survives;
  part = λ clean begun. record {
    halted = c.in_err-create_tables.ensures.err clean begun;
    stop = creates_no_more (state g.S.Store c.args.conn.now)
        (state g.S.Store c.create_tables.new.conn) begun clean c.create_tables.ensures.survives;
  };
})
