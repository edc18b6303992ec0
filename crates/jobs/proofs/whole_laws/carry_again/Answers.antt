use Rattle.sqlite.specs.Held.{state}
use Rattle.jobs.proofs.WholeLemmas.{same_carried}
use Rattle.jobs.proofs.whole_laws.carry_again.Goals as goal

pub returns : goal.returns
returns g c = record {
  same = same_carried g.S.Store g.T.Store (state g.S.Store c.args.stopped.now) c.args.conn c.adopt.result
      (λ old d o m. g.met.S.Store.settled old.store d o m) c.tables_are_listed.ensures.live c.adopt.ensures.adopted c.adopt.ensures.carried;
}
