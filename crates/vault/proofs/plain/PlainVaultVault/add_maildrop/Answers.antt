-- A maildrop's name more, if it wasn't there.
use Rattle.std.proofs.Common.{rules}
use Rattle.vault.specs.Changes.{put_maildrop_answer, with_maildrop, with_maildrops}
use Rattle.vault.specs.Calls.{put_result}
use Rattle.vault.proofs.DoneLemmas.{done}
use Rattle.vault.proofs.MaildropLemmas.{left_maildrops, kept_with_maildrop}
use Rattle.vault.proofs.StopLemmas.{commits_kept}
use Rattle.vault.proofs.plain.PlainVaultVault.add_maildrop.Goals as goal

pub returns-clause-done : goal.returns-clause-done
returns-clause-done c = λ b held clean.
    let name = c.args.maildrop.now in
    done (λ k. with_maildrops (with_maildrop name k.maildrops) k) (λ k. put_result (put_maildrop_answer name k.maildrops)) _ _ b _ _ c.self.view_is held
    c.put_name.ensures.answer (left_maildrops _ _ _ _ c.put_name.ensures.items) (λ ok k. kept_with_maildrop name _ _ k c.put_name.ensures.form c.put_name.ensures.answer ok)

pub returns-clause-commits : goal.returns-clause-commits
returns-clause-commits c =
    let name = c.args.maildrop.now in
    commits_kept (λ k. with_maildrops (with_maildrop name k.maildrops) k) (λ k. put_result (put_maildrop_answer name k.maildrops))
    _ _ _ (search rules) (returns-clause-done c)
