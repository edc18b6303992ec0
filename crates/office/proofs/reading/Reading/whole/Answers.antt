use Rattle.std.proofs.Common.{◌++◌, ap}
use Rattle.office.specs.Output.{last_line}
use Rattle.office.proofs.reading.Reading.whole.Goals as goal

pub returns-clause-coming : goal.returns-clause-coming
returns-clause-coming c = λ text form. ap (λ xs. xs ++ last_line) (c.new.ensures.lines text form)
