use Rattle.sqlvault.proofs.transaction.begin.Goals as goal

pub returns : goal.returns
returns g c = record {
  law = λ d o m. g.met.S.Store.settled c.args.conn.now.store d o m;
  ok = c.begin.ensures.ok;
  err = c.begin.ensures.err;
  survives = c.begin.ensures.survives;
}
