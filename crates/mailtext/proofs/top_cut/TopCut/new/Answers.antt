use Rattle.std.proofs.Common.{ap, ◌∙◌, sym}
use Rattle.mailtext.specs.Text.{lines_of, ended}
use Rattle.mailtext.proofs.PartLemmas.{lines_of-top_part}
use Rattle.mailtext.proofs.StreamLemmas.{top_from-kept}
use Rattle.mailtext.proofs.top_cut.TopCut.new.Goals as goal

pub returns-clause-part : goal.returns-clause-part
returns-clause-part c = λ text kept. top_from-kept text c.args.n kept

pub returns-clause-lines : goal.returns-clause-lines
returns-clause-lines c = λ text kept. ap lines_of (top_from-kept text c.args.n kept) ∙ lines_of-top_part text c.args.n

pub returns-clause-kept : goal.returns-clause-kept
returns-clause-kept c = λ text kept. ap ended (returns-clause-lines c text kept) ∙ sym (top_from-kept text c.args.n kept)
