use Rattle.std.proofs.Common.{◌≡◌, false, cond, Result, Ok, Err, sym, ap, ◌∙◌}
use Rattle.std.specs.Prelude.{is_some}
use Rattle.vault.specs.declared.fault.VaultFault.{VaultFault}
use Rattle.vault.specs.declared.fault.VaultFault.TheVariants.{NoClerk}
use Rattle.vault.specs.Records.{credential_in}
use Rattle.vault.specs.Changes.{without_clerk, with_clerks}
use Rattle.vault.specs.Calls.{drop_clerk_result}
use Rattle.mailsql.specs.Changes.{DropsClerk}
use Rattle.sqlvault.proofs.ClerkLemmas.{may_drop}
use Rattle.sqlvault.proofs.FrameLemmas.{met_whole, learns_whole, learns_done, learns_met, passed}
use Rattle.sqlvault.proofs.clerks.drop_clerk.Goals as goal

pub returns : goal.returns
returns g c =
    let text = c.as_bytes.result.now in
    let name = c.args.clerk.now in
    learns_done (DropsClerk text) (λ k. with_clerks (without_clerk name k.clerks) k)
    (λ k. drop_clerk_result name k.clerks) tt c.in_ok-there.ensures c.drop_clerk.ensures.survives
    (λ k there. may_drop k text name c.as_bytes.ensures.value
    (sym there ∙ c.if-not-there.false)) c.in_ok-drop_clerk.ensures.ok

pub returns-in_err-drop_clerk : goal.returns-in_err-drop_clerk
returns-in_err-drop_clerk g c = rw (passed c.from_residual-in_err-drop_clerk.ensures.1)
    (learns_met (DropsClerk c.as_bytes.result.now) (λ k. with_clerks (without_clerk c.args.clerk.now k.clerks) k)
    (λ k. drop_clerk_result c.args.clerk.now k.clerks) tt c.in_ok-there.ensures c.drop_clerk.ensures.survives
    (λ k there. may_drop k c.as_bytes.result.now c.args.clerk.now c.as_bytes.ensures.value
    (sym there ∙ c.if-not-there.false)) c.in_err-drop_clerk.field-0.0
    c.in_err-drop_clerk.ensures.err)

pub returns-then-not-there : goal.returns-then-not-there
returns-then-not-there g c = learns_whole _ _ c.in_ok-there.ensures
    (λ k there held.
    let none : is_some (credential_in c.args.clerk.now k.clerks) ≡ false =
    sym there ∙ c.if-not-there.true in
    record {
      answer = ap (λ b. let r : Result (Unit {0}) VaultFault = cond b (Ok tt) (Err NoClerk) in r)
          none;
      held = held;
    })

pub returns-in_err-there : goal.returns-in_err-there
returns-in_err-there g c = rw (passed c.from_residual.ensures.1) (met_whole _ _ c.in_err-there.field-0.0 c.in_err-there.ensures.looks)
