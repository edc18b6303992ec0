use Rattle.std.proofs.Common.{◌≡◌, true, subst, sym, ◌∙◌, ◌∷◌, []}
use Rattle.vault.specs.Changes.{Contents, with_maildrops, with_clerks}
use Rattle.vault.specs.Plain.{no_contents}
use Rattle.vault.specs.Calls.{IsRefusal}
use Rattle.mailsql.proofs.ResultLemmas.{if_passed_on}
use Rattle.sqlvault.specs.Uses.{IsOfAnyCall, clerk_of}
use Rattle.sqlvault.proofs.UsesLemmas.{any, same_ok, before, accepted, put}
use Rattle.sqlvault.proofs.uses.fill.Given.{Over}
use Rattle.sqlvault.proofs.uses.fill.Goals.{In_ok-set_policy}
use Rattle.sqlvault.proofs.uses.fill.Goals as goal

-- what was answered and is held once the policy is set
stocked : (g : Over) (c : In_ok-set_policy g) → g.V.Vault.is_clean c.set_policy.new.self → g.V.Vault.holds c.args.vault.now no_contents
    → (c.in_ok-maildrop_is_new.maildrop_is_new ≡ true) × (c.in_ok-clerk_is_new.clerk_is_new ≡ true) × g.V.Vault.holds c.set_policy.new.self (before c.args.stock.now)
stocked g c clean h =
    let one : Contents = with_maildrops (c.args.stock.now.maildrop ∷ []) no_contents in
    let named_clean = c.set_policy.ensures.commits.clean clean in
    let added = c.in_ok-maildrop_is_new.ensures.done no_contents h (c.put_clerk.ensures.commits.clean named_clean) in
    let named = c.in_ok-clerk_is_new.ensures.done one added.held named_clean in
    let ruled = c.in_ok-set_policy.ensures.done (with_clerks (clerk_of c.args.stock.now ∷ []) one) named.held clean in
    (same_ok _ _ added.answer, same_ok _ _ named.answer, ruled.held)

pub returns-in_err-maildrop_is_new-clause-cause : goal.returns-in_err-maildrop_is_new-clause-cause
returns-in_err-maildrop_is_new-clause-cause g c clean h =
    let e = c.in_err-maildrop_is_new.field-0.0 in
    let done = c.in_err-maildrop_is_new.ensures.done no_contents h clean in
    if_passed_on c.from_residual.result e IsOfAnyCall c.from_residual.ensures.1 (any _ e done.answer)

pub returns-in_err-clerk_is_new-clause-cause : goal.returns-in_err-clerk_is_new-clause-cause
returns-in_err-clerk_is_new-clause-cause g c clean h =
    let e = c.in_err-clerk_is_new.field-0.0 in
    let added = c.in_ok-maildrop_is_new.ensures.done no_contents h (c.put_clerk.ensures.commits.clean clean) in
    let done = c.in_err-clerk_is_new.ensures.done (with_maildrops (c.args.stock.now.maildrop ∷ []) no_contents) added.held clean in
    if_passed_on c.from_residual-in_err-clerk_is_new.result e IsOfAnyCall c.from_residual-in_err-clerk_is_new.ensures.1 (any _ e done.answer)

pub returns-in_err-set_policy-clause-cause : goal.returns-in_err-set_policy-clause-cause
returns-in_err-set_policy-clause-cause g c clean h =
    let e = c.in_err-set_policy.field-0.0 in
    let one : Contents = with_maildrops (c.args.stock.now.maildrop ∷ []) no_contents in
    let added = c.in_ok-maildrop_is_new.ensures.done no_contents h (c.put_clerk.ensures.commits.clean (c.set_policy.ensures.commits.clean clean)) in
    let named = c.in_ok-clerk_is_new.ensures.done one added.held (c.set_policy.ensures.commits.clean clean) in
    let done = c.in_err-set_policy.ensures.done (with_clerks (clerk_of c.args.stock.now ∷ []) one) named.held clean in
    if_passed_on c.from_residual-in_err-set_policy.result e IsOfAnyCall c.from_residual-in_err-set_policy.ensures.1 (any _ e done.answer)

pub returns-in_err-deposited-clause-cause : goal.returns-in_err-deposited-clause-cause
returns-in_err-deposited-clause-cause g c clean h =
    let e = c.in_err-deposited.field-0.0 in
    let put_in = stocked g (goal.at.returns-in_err-deposited-clause-cause g c).In_ok-set_policy (c.deposit.ensures.commits.clean clean) h in
    let done = c.in_err-deposited.ensures.done (before c.args.stock.now) put_in.2 clean in
    if_passed_on c.from_residual-in_err-deposited.result e IsOfAnyCall c.from_residual-in_err-deposited.ensures.1 (any _ e (subst (λ r. IsRefusal r e) (accepted c.args.stock.now) done.answer))

pub returns-clause-answers : goal.returns-clause-answers
returns-clause-answers g c clean h =
    let put_in = stocked g (goal.at.returns-clause-answers g c).In_ok-set_policy (c.deposit.ensures.commits.clean clean) h in
    let done = c.in_ok-deposited.ensures.done (before c.args.stock.now) put_in.2 clean in
    record { maildrop = put_in.0; clerk = put_in.1; deposit = same_ok _ _ (sym (accepted c.args.stock.now) ∙ done.answer) }

pub returns-clause-held : goal.returns-clause-held
returns-clause-held g c clean h =
    let put_in = stocked g (goal.at.returns-clause-held g c).In_ok-set_policy (c.deposit.ensures.commits.clean clean) h in
    let done = c.in_ok-deposited.ensures.done (before c.args.stock.now) put_in.2 clean in
    put (g.V.Vault.holds c.deposit.new.self) c.args.stock.now c.in_ok-deposited.deposited (same_ok _ _ (sym (accepted c.args.stock.now) ∙ done.answer)) done.held

pub returns-in_err-maildrop_is_new-clause-clean : goal.returns-in_err-maildrop_is_new-clause-clean
returns-in_err-maildrop_is_new-clause-clean g c clean = c.add_maildrop.ensures.commits.clean clean

pub returns-in_err-clerk_is_new-clause-clean : goal.returns-in_err-clerk_is_new-clause-clean
returns-in_err-clerk_is_new-clause-clean g c clean = c.add_maildrop.ensures.commits.clean (c.put_clerk.ensures.commits.clean clean)

pub returns-in_err-set_policy-clause-clean : goal.returns-in_err-set_policy-clause-clean
returns-in_err-set_policy-clause-clean g c clean = c.add_maildrop.ensures.commits.clean (c.put_clerk.ensures.commits.clean (c.set_policy.ensures.commits.clean clean))

pub returns-in_err-deposited-clause-clean : goal.returns-in_err-deposited-clause-clean
returns-in_err-deposited-clause-clean g c clean = c.add_maildrop.ensures.commits.clean (c.put_clerk.ensures.commits.clean (c.set_policy.ensures.commits.clean (c.deposit.ensures.commits.clean clean)))

pub returns-clause-clean : goal.returns-clause-clean
returns-clause-clean g c clean = c.add_maildrop.ensures.commits.clean (c.put_clerk.ensures.commits.clean (c.set_policy.ensures.commits.clean (c.deposit.ensures.commits.clean clean)))
