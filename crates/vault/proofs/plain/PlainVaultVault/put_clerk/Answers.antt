-- The clerk's credential is replaced, or a clerk comes who wasn't there.
use Rattle.std.proofs.Common.{rules}
use Rattle.std.specs.Prelude.{is_ok}
use Rattle.vault.specs.Changes.{put_clerk_answer, with_clerk, with_clerks}
use Rattle.vault.specs.Calls.{put_result}
use Rattle.vault.specs.contracts.plain.PlainVault.{the_view}
use Rattle.vault.proofs.DoneLemmas.{done}
use Rattle.vault.proofs.ClerkLemmas.{left_clerks, kept_with_clerk}
use Rattle.vault.proofs.StopLemmas.{commits_kept}
use Rattle.vault.proofs.plain.PlainVaultVault.put_clerk.Goals as goal

pub returns-clause-done : goal.returns-clause-done
returns-clause-done c = λ b held clean.
    let name = c.args.clerk.now in
    let given = c.args.credential.now in
    done (λ k. with_clerks (with_clerk name given k.clerks) k) (λ k. put_result (put_clerk_answer name k.clerks)) (the_view c.self.inside) _ b _ _ c.self.view_is held
    c.put_credential.ensures.answer
    (left_clerks (is_ok c.put_credential.result) c.put_credential.new.clerks.items (with_clerk name given c.self.inside.clerks.items) (the_view c.self.inside) c.put_credential.ensures.items)
    (λ ok k. kept_with_clerk name given (the_view c.self.inside) _ k c.put_credential.ensures.form c.has_form.ensures c.put_credential.ensures.answer ok)

pub returns-clause-commits : goal.returns-clause-commits
returns-clause-commits c =
    let name = c.args.clerk.now in
    let given = c.args.credential.now in
    commits_kept (λ k. with_clerks (with_clerk name given k.clerks) k) (λ k. put_result (put_clerk_answer name k.clerks))
    _ _ _ (search rules) (returns-clause-done c)
