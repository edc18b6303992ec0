use Rattle.std.proofs.Common.{refl}
use Rattle.vault.specs.Changes.{records_of}
use Rattle.office.proofs.Beginning.{new_log}
use Rattle.office.proofs.OwnRecords.{own_records_agree}
use Rattle.office.proofs.history_laws.own_trace_is_kept.Goals as goal

pub returns : goal.returns
returns g c d held clean = record {
  contents = d;
  held = held;
  agree = own_records_agree (records_of d);
  sound = (g.met.V.Vault.sound c.args.vault.now d held clean).records;
  formed = refl;
  began = new_log;
}
