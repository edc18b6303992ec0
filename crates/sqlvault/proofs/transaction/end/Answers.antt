use Rattle.sqlite.specs.Held.{state}
use Rattle.sqlvault.proofs.CarryLemmas.{nothing_more}
use Rattle.sqlvault.proofs.FrameLemmas.{was_clean}
use Rattle.mailsql.proofs.CreateLemmas.{stops_making}
use Rattle.sqlvault.proofs.transaction.end.Goals as goal

pub returns-in-Ok : goal.returns-in-Ok
returns-in-Ok g c = record {
  clean = was_clean g.S.Store c.args.conn.now c.commit.new.conn c.commit.ensures.survives;
  live = c.tables_are_listed.ensures.live;
  ok = λ clean. (c.in-Ok.ensures.ok clean).1;
  err = λ first clean on. tt;
  stop = λ clean db may. c.commit.ensures.survives.crash clean db may;
}

pub returns-in-Err : goal.returns-in-Err
returns-in-Err g c =
    let s0 = state g.S.Store c.args.conn.now in
    let s1 = state g.S.Store c.commit.new.conn in
    let s2 = state g.S.Store c.undo.new.conn in
    let before = was_clean g.S.Store c.commit.new.conn c.undo.new.conn
    c.undo.ensures.undoes.survives in
    record {
      clean = λ clean. was_clean g.S.Store c.args.conn.now c.commit.new.conn
          c.commit.ensures.survives (before clean);
      live = c.tables_are_listed.ensures.live;
      ok = λ clean. tt;
      err = λ first clean on. c.undo.ensures.undoes.gone first clean (stops_making
          (state g.S.Store first) s0 s1 on (c.in-Err.ensures.err (before clean)));
      stop = λ clean db may. c.commit.ensures.survives.crash (before clean) db (nothing_more s1
          s2 clean c.undo.ensures.undoes.survives db may);
    }
