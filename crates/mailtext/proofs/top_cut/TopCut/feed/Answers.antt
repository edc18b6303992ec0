use Rattle.std.proofs.Common.{sym, ◌∙◌}
use Rattle.mailtext.proofs.StreamLemmas.{top_from-over}
use Rattle.mailtext.proofs.top_cut.TopCut.feed.Goals as goal

pub returns-then-is_over-clause-over : goal.returns-then-is_over-clause-over
returns-then-is_over-clause-over c = λ _ more. top_from-over c.loop-i.self more (sym c.is_over.ensures ∙ c.if-is_over.true)
