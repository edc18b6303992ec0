use Rattle.proxy.proofs.line.source_v4.Goals as goal

pub returns-in_default : goal.returns-in_default
returns-in_default c source a = c.in_default.ensures' a.1.0 (rw (c.split_word-2.ensures.word, c.split_word.ensures.rest) a.1.1)

pub returns-in_default-2 : goal.returns-in_default-2
returns-in_default-2 c source a = c.in_default.ensures-1 source (rw c.split_word.ensures.word a.0)
