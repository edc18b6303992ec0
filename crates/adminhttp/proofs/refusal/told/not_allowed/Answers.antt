use Rattle.std.proofs.Common.{sym, ap, ◌∙◌}
use Rattle.adminhttp.specs.Responses.{refusal_response}
use Rattle.adminhttp.specs.declared.route.Route.{Route}
use Rattle.adminhttp.specs.declared.refusal.Refusal.TheVariants.{NotAllowed}
use Rattle.adminhttp.proofs.RefusalTexts.{not_allowed_maildrops, not_allowed_maildrop, not_allowed_clerks, not_allowed_clerk}
use Rattle.adminhttp.proofs.RefusalTexts.{not_allowed_policy, not_allowed_groups, not_allowed_sessions, not_allowed_session, not_allowed_explain}
use Rattle.adminhttp.proofs.refusal.told.not_allowed.Goals as goal

pub returns-in-Maildrops : goal.returns-in-Maildrops
returns-in-Maildrops c = sym (ap (λ (r : Route). refusal_response (NotAllowed r)) c.in-Maildrops.is ∙ not_allowed_maildrops)

pub returns-in-Maildrop : goal.returns-in-Maildrop
returns-in-Maildrop c = sym (ap (λ (r : Route). refusal_response (NotAllowed r)) c.in-Maildrop.is ∙ not_allowed_maildrop)

pub returns-in-Clerks : goal.returns-in-Clerks
returns-in-Clerks c = sym (ap (λ (r : Route). refusal_response (NotAllowed r)) c.in-Clerks.is ∙ not_allowed_clerks)

pub returns-in-Clerk : goal.returns-in-Clerk
returns-in-Clerk c = sym (ap (λ (r : Route). refusal_response (NotAllowed r)) c.in-Clerk.is ∙ not_allowed_clerk)

pub returns-in-Policy : goal.returns-in-Policy
returns-in-Policy c = sym (ap (λ (r : Route). refusal_response (NotAllowed r)) c.in-Policy.is ∙ not_allowed_policy)

pub returns-in-Groups : goal.returns-in-Groups
returns-in-Groups c = sym (ap (λ (r : Route). refusal_response (NotAllowed r)) c.in-Groups.is ∙ not_allowed_groups)

pub returns-in-Sessions : goal.returns-in-Sessions
returns-in-Sessions c = sym (ap (λ (r : Route). refusal_response (NotAllowed r)) c.in-Sessions.is ∙ not_allowed_sessions)

pub returns-in-Session : goal.returns-in-Session
returns-in-Session c = sym (ap (λ (r : Route). refusal_response (NotAllowed r)) c.in-Session.is ∙ not_allowed_session)

pub returns-in-Explain : goal.returns-in-Explain
returns-in-Explain c = sym (ap (λ (r : Route). refusal_response (NotAllowed r)) c.in-Explain.is ∙ not_allowed_explain)
