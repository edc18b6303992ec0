use Rattle.std.proofs.Common.{◌++◌, ap, ◌∙◌}
use Rattle.mailtext.specs.Text.{stuffed_lines}
use Rattle.mailtext.specs.Streams.{top_from}
use Rattle.office.specs.Output.{last_line}
use Rattle.office.proofs.reading.Reading.top.Goals as goal

pub returns-clause-coming : goal.returns-clause-coming
returns-clause-coming c = λ text form.
    ap (λ xs. xs ++ last_line) (c.new.ensures.lines (top_from c.new-2.result text) (c.new-2.ensures.kept text form) ∙ ap stuffed_lines (c.new-2.ensures.lines text form))
