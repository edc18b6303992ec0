use Rattle.std.proofs.Common.{Ok, Err, refl}
use Rattle.sqlvault.proofs.FrameLemmas.{passed, undoes_clean}
use Rattle.sqlvault.proofs.transaction.conclude.Goals as goal

pub returns-in_ok-end-in-Ok : goal.returns-in_ok-end-in-Ok
returns-in_ok-end-in-Ok g c = rw c.in-Ok.is (record {
  clean = c.in_ok-end-in-Ok.ensures.clean;
  ends = (Ok c.in_ok-end-in-Ok.field-0, refl, c.in_ok-end-in-Ok.ensures);
  undoes = tt;
})

pub returns-in_err-end-in-Ok : goal.returns-in_err-end-in-Ok
returns-in_err-end-in-Ok g c = rw c.in-Ok.is (record {
  clean = c.in_err-end-in-Ok.ensures.clean;
  ends = (
    Err c.in_err-end-in-Ok.field-0.0,
    passed c.from_residual.ensures.1,
    c.in_err-end-in-Ok.ensures,
  );
  undoes = tt;
})

pub returns-in-Err : goal.returns-in-Err
returns-in-Err g c = rw c.in-Err.is (record {
  clean = undoes_clean c.undo.ensures.undoes;
  ends = tt;
  undoes = (c.undo.result, refl, c.undo.ensures.undoes);
})
