use Rattle.office.specs.Seen.{command_seen, outcome_seen}
use Rattle.office.specs.Stands.{lent_by}
use Rattle.office.specs.Taken.{trace_of}
use Rattle.serving.specs.Requests.{octets_of}
use Rattle.serving.proofs.Requesting.{asked_one, comes_to}
use Rattle.serving.specs.HttpParts.{ComeTo}
use Rattle.std.proofs.Common.{Some, ◌∷◌, []}
use Rattle.serving.specs.Hearing.{HeardApart, heard_of_all}
use Rattle.serving.proofs.Hearing.{hears_same, hears_still, hears_command}
use Rattle.serving.proofs.Quieting.{gives_command}
use Rattle.office.specs.Events as event
use Rattle.office.specs.Outcomes.{event_tag_of}
use Rattle.serving.proofs.Working.{given_one}
use Rattle.serving.proofs.requests.run_command.Goals as goal

pub returns-clause-asked : goal.returns-clause-asked
returns-clause-asked g c = λ site B L read stands asks clean.
    (let now = trace_of B L in
    asked_one g.V.Vault.holds site B L read c.step_with_account-report.new.self (lent_by c.args.office.now) (command_seen c.args.command.now)
    (outcome_seen c.step_with_account-report.result.outcome) (octets_of c.response_to-response.result.0)
    (c.step_with_account-report.ensures.outcome now stands clean) (c.step_with_account-report.ensures.stands now stands clean)
    (c.step_with_account-report.ensures.admitted now stands clean) asks c.response_to-response.ensures.response)

pub returns-clause-works : goal.returns-clause-works
returns-clause-works g c = λ site read asks.
    (let o = c.args.office.now in
    let o1 = c.step_with_account-report.new.self in
    let out = outcome_seen c.step_with_account-report.result.outcome in
    let seen = command_seen c.args.command.now in
    let response = octets_of c.response_to-response.result.0 in
    let l = c.args.listener.now in
    let l1 = c.report_end.new.listener in
    let l2 = c.on_request.new.self in
    let told = c.step_with_account-report.result.account in
    gives_command g.V.Vault o o1 seen (event_tag_of out)
    (HeardApart g.L.Listener.heard l l2 (ComeTo site read (Some response)))
    (given_one g.V.Vault o o1
    (event.Admin seen) out c.step_with_account-report.ensures.clean c.step_with_account-report.ensures.stands
    c.step_with_account-report.ensures.admitted c.step_with_account-report.ensures.counted c.step_with_account-report.ensures.cause
    c.step_with_account-report.ensures.up c.step_with_account-report.ensures.stop)
    (λ B L stands clean. (
      hears_still g.L.Listener.heard l l1 l2 (heard_of_all B L ((event.Admin seen, event_tag_of out) ∷ []))
          (hears_command g.L.Listener.heard l l1 B L seen (event_tag_of out) told (c.step_with_account-report.ensures.account (trace_of B L) stands clean) c.report_end.ensures)
          (hears_same g.L.Listener.heard l1 l2 c.on_request.ensures.heard),
      comes_to site B L read (lent_by o) seen out response (c.step_with_account-report.ensures.outcome (trace_of B L) stands clean) (asks B L stands) c.response_to-response.ensures.response,
    )))
