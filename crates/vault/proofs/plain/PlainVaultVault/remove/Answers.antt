-- The named messages alone are left out.
use Rattle.std.proofs.Common.{Ok, refl, ap, rules}
use Rattle.vault.specs.Changes.{without_keys, with_messages}
use Rattle.vault.specs.contracts.plain.PlainVault.{the_view}
use Rattle.vault.proofs.DoneLemmas.{done}
use Rattle.vault.proofs.MailLemmas.{kept_without_keys}
use Rattle.vault.proofs.StopLemmas.{commits_kept}
use Rattle.vault.proofs.plain.PlainVaultVault.remove.Goals as goal

pub returns-clause-done : goal.returns-clause-done
returns-clause-done c = λ b held clean.
    let d = c.args.maildrop.now in
    let keys = c.args.keys.now in
    done (λ k. with_messages (without_keys d keys k.messages) k) (λ k. Ok tt) _ _ b _ _ c.self.view_is held
    refl (ap (λ ms. with_messages ms (the_view c.self.inside)) c.remove_named.ensures) (λ ok k. kept_without_keys d keys _ k)

pub returns-clause-commits : goal.returns-clause-commits
returns-clause-commits c =
    let d = c.args.maildrop.now in
    let keys = c.args.keys.now in
    commits_kept (λ k. with_messages (without_keys d keys k.messages) k) (λ k. Ok tt)
    _ _ _ (search rules) (returns-clause-done c)
