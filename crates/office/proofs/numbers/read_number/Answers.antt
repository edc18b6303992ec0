use Rattle.office.proofs.NumberLemmas.{number_is}
use Rattle.office.proofs.numbers.read_number.Goals as goal

pub returns : goal.returns
returns c = number_is c.parse_number.result c.args.field.now c.parse_number.ensures
