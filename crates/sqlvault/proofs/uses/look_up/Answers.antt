use Rattle.std.proofs.Common.{◌∙◌}
use Rattle.mailsql.proofs.ResultLemmas.{if_passed_on}
use Rattle.sqlvault.specs.Uses.{IsOfAnyCall, filled}
use Rattle.sqlvault.proofs.UsesLemmas.{any, same_ok, credential_is, one_clerk}
use Rattle.sqlvault.proofs.uses.look_up.Goals as goal

pub returns-in_err-credential-clause-cause : goal.returns-in_err-credential-clause-cause
returns-in_err-credential-clause-cause g c key clean h =
    let e = c.in_err-credential.field-0.0 in
    let done = c.in_err-credential.ensures.done (filled key c.args.stock.now) h clean in
    if_passed_on c.from_residual.result e IsOfAnyCall c.from_residual.ensures.1 (any _ e done.answer)

pub returns-in_err-clerks-clause-cause : goal.returns-in_err-clerks-clause-cause
returns-in_err-clerks-clause-cause g c key clean h =
    let all = filled key c.args.stock.now in
    let found = c.in_ok-credential.ensures.done all h (c.clerks.ensures.looks.clean clean) in
    let e = c.in_err-clerks.field-0.0 in
    let done = c.in_err-clerks.ensures.done all found.held clean in
    if_passed_on c.from_residual-in_err-clerks.result e IsOfAnyCall c.from_residual-in_err-clerks.ensures.1 (any _ e done.answer)

pub returns-in_err-policy-clause-cause : goal.returns-in_err-policy-clause-cause
returns-in_err-policy-clause-cause g c key clean h =
    let all = filled key c.args.stock.now in
    let before = c.policy.ensures.looks.clean clean in
    let found = c.in_ok-credential.ensures.done all h (c.clerks.ensures.looks.clean before) in
    let listed = c.in_ok-clerks.ensures.done all found.held before in
    let e = c.in_err-policy.field-0.0 in
    let done = c.in_err-policy.ensures.done all listed.held clean in
    if_passed_on c.from_residual-in_err-policy.result e IsOfAnyCall c.from_residual-in_err-policy.ensures.1 (any _ e done.answer)

pub returns-clause-shown : goal.returns-clause-shown
returns-clause-shown g c key clean h =
    let s = c.args.stock.now in
    let all = filled key s in
    let before = c.policy.ensures.looks.clean clean in
    let found = c.in_ok-credential.ensures.done all h (c.clerks.ensures.looks.clean before) in
    let listed = c.in_ok-clerks.ensures.done all found.held before in
    let set = c.in_ok-policy.ensures.done all listed.held clean in
    record {
      found = same_ok _ _ found.answer ∙ credential_is s;
      listed = same_ok _ _ listed.answer ∙ one_clerk s;
      set = same_ok _ _ set.answer;
    }

pub returns-clause-same : goal.returns-clause-same
returns-clause-same g c key clean h =
    let all = filled key c.args.stock.now in
    let before = c.policy.ensures.looks.clean clean in
    let found = c.in_ok-credential.ensures.done all h (c.clerks.ensures.looks.clean before) in
    (c.in_ok-policy.ensures.done all (c.in_ok-clerks.ensures.done all found.held before).held clean).held

pub returns-in_err-credential-clause-clean : goal.returns-in_err-credential-clause-clean
returns-in_err-credential-clause-clean g c clean = c.credential.ensures.looks.clean clean

pub returns-in_err-clerks-clause-clean : goal.returns-in_err-clerks-clause-clean
returns-in_err-clerks-clause-clean g c clean =
    c.credential.ensures.looks.clean (c.clerks.ensures.looks.clean clean)

pub returns-in_err-policy-clause-clean : goal.returns-in_err-policy-clause-clean
returns-in_err-policy-clause-clean g c clean = c.credential.ensures.looks.clean (c.clerks.ensures.looks.clean (c.policy.ensures.looks.clean clean))

pub returns-clause-clean : goal.returns-clause-clean
returns-clause-clean g c clean =
    c.credential.ensures.looks.clean (c.clerks.ensures.looks.clean (c.policy.ensures.looks.clean clean))
