use Rattle.std.proofs.Common.{sym, ◌∙◌}
use Rattle.std.proofs.lemmas.Bool.{and_parts}
use Rattle.jobs.proofs.RestLemmas.{held_files, new_files, clean_files}
use Rattle.jobs.proofs.resting.open_files.Goals as goal

pub open_files-requires-clause-log : goal.open_files-requires-clause-log
open_files-requires-clause-log g c = (and_parts _ _ (sym c.may_be_used.ensures ∙ c.if-not-may_be_used.false)).0

pub open_files-requires-clause-db : goal.open_files-requires-clause-db
open_files-requires-clause-db g c = (and_parts _ _ (sym c.may_be_used.ensures ∙ c.if-not-may_be_used.false)).1

pub returns-in-Ok-clause-held : goal.returns-in-Ok-clause-held
returns-in-Ok-clause-held g c = held_files c.args.files c.in-Ok.conn c.adopt_files.result (λ clean. c.in-Ok.ensures.opened clean) (λ clean. c.in-Ok.ensures.found clean) c.adopt_files.ensures.adopted

pub returns-in-Ok-clause-new : goal.returns-in-Ok-clause-new
returns-in-Ok-clause-new g c = new_files c.args.files c.in-Ok.conn c.adopt_files.result (λ clean. c.in-Ok.ensures.opened clean) (λ clean. c.in-Ok.ensures.found clean) c.adopt_files.ensures.adopted

pub returns-in-Ok-clause-clean : goal.returns-in-Ok-clause-clean
returns-in-Ok-clause-clean g c = clean_files c.args.files c.in-Ok.conn c.adopt_files.result (λ clean. c.in-Ok.ensures.found clean) c.adopt_files.ensures.adopted
