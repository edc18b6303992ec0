-- A maildrop's name is left out, which had no message.
use Rattle.std.proofs.Common.{rules}
use Rattle.vault.specs.Records.{is_one_of}
use Rattle.vault.specs.Changes.{drop_answer, without_maildrop, with_maildrops}
use Rattle.vault.specs.Calls.{drop_result, present_in}
use Rattle.vault.specs.contracts.plain.PlainVault.{the_view}
use Rattle.vault.proofs.DoneLemmas.{done}
use Rattle.vault.proofs.MaildropLemmas.{left_maildrops, drop_answered, kept_without_maildrop}
use Rattle.vault.proofs.StopLemmas.{commits_kept}
use Rattle.vault.proofs.plain.PlainVaultVault.drop_maildrop.Goals as goal

pub returns-clause-done : goal.returns-clause-done
returns-clause-done c = λ b held clean.
    let name = c.args.maildrop.now in
    let a = drop_answered name (the_view c.self.inside) _ _ c.deref.ensures.value c.drop_name.ensures.answer in
    done (λ k. with_maildrops (without_maildrop name k.maildrops) k) (λ k. drop_result (drop_answer (is_one_of name k.maildrops) (present_in name k))) _ _ b _ _ c.self.view_is held
    a (left_maildrops _ _ _ _ c.drop_name.ensures.items) (λ ok k. kept_without_maildrop name _ _ k a ok)

pub returns-clause-commits : goal.returns-clause-commits
returns-clause-commits c =
    let name = c.args.maildrop.now in
    let a = drop_answered name (the_view c.self.inside) _ _ c.deref.ensures.value c.drop_name.ensures.answer in
    commits_kept (λ k. with_maildrops (without_maildrop name k.maildrops) k) (λ k. drop_result (drop_answer (is_one_of name k.maildrops) (present_in name k)))
    _ _ _ (search rules) (returns-clause-done c)
