use Rattle.jobs.proofs.RestLemmas.{held_again, clean_again}
use Rattle.jobs.proofs.resting.reopen.Goals as goal

pub returns-in-Ok-clause-held : goal.returns-in-Ok-clause-held
returns-in-Ok-clause-held g c = held_again c.args.vault.conn c.in-Ok.files c.open_files.result c.open_files.ensures.held c.open_files.ensures.clean c.in-Ok.ensures.rests

pub returns-in-Ok-clause-clean : goal.returns-in-Ok-clause-clean
returns-in-Ok-clause-clean g c = clean_again c.args.vault.conn c.in-Ok.files c.open_files.result c.open_files.ensures.clean c.in-Ok.ensures.clean
