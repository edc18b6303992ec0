use Rattle.jobs.proofs.RestLemmas.{rests_closed, rests_left}
use Rattle.jobs.proofs.resting.close.Goals as goal

pub returns-in-Ok-clause-rests : goal.returns-in-Ok-clause-rests
returns-in-Ok-clause-rests g c = λ b clean h. rests_closed c.args.vault.conn c.in-Ok.files b c.in-Ok.ensures.live (c.in-Ok.ensures.copied clean) h

pub returns-in-Ok-clause-left : goal.returns-in-Ok-clause-left
returns-in-Ok-clause-left g c = λ b image clean h may. rests_left c.args.vault.conn c.in-Ok.files b image c.in-Ok.ensures.live (c.in-Ok.ensures.copied clean) h may

pub returns-in-Ok-clause-clean : goal.returns-in-Ok-clause-clean
returns-in-Ok-clause-clean g c = λ clean. (c.in-Ok.ensures.copied clean).was_clean
