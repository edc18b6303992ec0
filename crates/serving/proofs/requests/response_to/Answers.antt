use Rattle.std.proofs.Common.{sym, subst}
use Rattle.office.specs.Seen.{outcome_seen}
use Rattle.serving.specs.Requests.{octets_of, IsResponseTo}
use Rattle.serving.proofs.requests.response_to.Goals as goal

pub returns-in-Answered-clause-response : goal.returns-in-Answered-clause-response
returns-in-Answered-clause-response c = subst (λ o. IsResponseTo (outcome_seen o) (octets_of c.response_to_answer.result.0)) (sym c.in-Answered.is) c.response_to_answer.ensures.response
