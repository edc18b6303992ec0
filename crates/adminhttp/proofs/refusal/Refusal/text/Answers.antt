use Rattle.std.proofs.Common.{sym, ap, ◌∙◌}
use Rattle.adminhttp.specs.Responses.{refusal_response}
use Rattle.adminhttp.proofs.RefusalTexts.{bad_request, foreign_site, not_found, length_required, too_large, store_failed, out_of_memory}
use Rattle.adminhttp.proofs.refusal.Refusal.text.Goals as goal

pub returns-in-BadRequest : goal.returns-in-BadRequest
returns-in-BadRequest c = sym (ap refusal_response c.in-BadRequest.is ∙ bad_request)

pub returns-in-ForeignSite : goal.returns-in-ForeignSite
returns-in-ForeignSite c = sym (ap refusal_response c.in-ForeignSite.is ∙ foreign_site)

pub returns-in-NotFound : goal.returns-in-NotFound
returns-in-NotFound c = sym (ap refusal_response c.in-NotFound.is ∙ not_found)

pub returns-in-LengthRequired : goal.returns-in-LengthRequired
returns-in-LengthRequired c = sym (ap refusal_response c.in-LengthRequired.is ∙ length_required)

pub returns-in-TooLarge : goal.returns-in-TooLarge
returns-in-TooLarge c = sym (ap refusal_response c.in-TooLarge.is ∙ too_large)

pub returns-in-StoreFailed : goal.returns-in-StoreFailed
returns-in-StoreFailed c = sym (ap refusal_response c.in-StoreFailed.is ∙ store_failed)

pub returns-in-OutOfMemory : goal.returns-in-OutOfMemory
returns-in-OutOfMemory c = sym (ap refusal_response c.in-OutOfMemory.is ∙ out_of_memory)
