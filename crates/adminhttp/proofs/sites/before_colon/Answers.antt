use Rattle.std.proofs.Common.{sym, ◌∙◌}
use Rattle.adminhttp.specs.Sites.{is_colon}
use Rattle.adminhttp.proofs.SiteLemmas.{before_found, before_none}
use Rattle.adminhttp.proofs.sites.before_colon.Goals as goal

pub returns-in-Some : goal.returns-in-Some
returns-in-Some c = before_found is_colon c.args.value.now c.in-Some.at (sym c.colon_in.ensures.value ∙ c.in-Some.is)

pub returns-in-None : goal.returns-in-None
returns-in-None c = before_none is_colon c.args.value.now (sym c.colon_in.ensures.value ∙ c.in-None.is)
