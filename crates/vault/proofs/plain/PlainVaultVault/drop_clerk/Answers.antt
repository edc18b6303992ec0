-- The clerk alone is left out.
use Rattle.std.proofs.Common.{rules}
use Rattle.std.specs.Prelude.{is_ok}
use Rattle.vault.specs.Changes.{without_clerk, with_clerks}
use Rattle.vault.specs.Calls.{drop_clerk_result}
use Rattle.vault.specs.contracts.plain.PlainVault.{the_view}
use Rattle.vault.proofs.DoneLemmas.{done}
use Rattle.vault.proofs.ClerkLemmas.{left_clerks, kept_without_clerk}
use Rattle.vault.proofs.StopLemmas.{commits_kept}
use Rattle.vault.proofs.plain.PlainVaultVault.drop_clerk.Goals as goal

pub returns-clause-done : goal.returns-clause-done
returns-clause-done c = λ b held clean.
    let name = c.args.clerk.now in
    done (λ k. with_clerks (without_clerk name k.clerks) k) (λ k. drop_clerk_result name k.clerks) (the_view c.self.inside) _ b _ _ c.self.view_is held
    c.drop_credential.ensures.answer
    (left_clerks (is_ok c.drop_credential.result) c.drop_credential.new.clerks.items (without_clerk name c.self.inside.clerks.items) (the_view c.self.inside) c.drop_credential.ensures.items)
    (λ ok k. kept_without_clerk name (the_view c.self.inside) k)

pub returns-clause-commits : goal.returns-clause-commits
returns-clause-commits c =
    let name = c.args.clerk.now in
    commits_kept (λ k. with_clerks (without_clerk name k.clerks) k) (λ k. drop_clerk_result name k.clerks)
    _ _ _ (search rules) (returns-clause-done c)
