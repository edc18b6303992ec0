use Rattle.adminhttp.proofs.Laws.{one_meaning, some_meaning}
use Rattle.adminhttp.proofs.has_one_meaning.Goals as goal

pub returns : goal.returns
returns c = record { one = one_meaning; some = some_meaning }
