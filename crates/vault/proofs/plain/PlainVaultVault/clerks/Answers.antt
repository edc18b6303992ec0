-- Every clerk is listed, with the kind of the credential.
use Rattle.std.proofs.Common.{Ok, rules}
use Rattle.vault.specs.Clerks.{clerk_kinds}
use Rattle.vault.proofs.DoneLemmas.{looked}
use Rattle.vault.proofs.StopLemmas.{looks_kept}
use Rattle.vault.proofs.plain.PlainVaultVault.clerks.Goals as goal

pub returns-clause-done : goal.returns-clause-done
returns-clause-done c = λ b held clean.
    looked (λ k. Ok (clerk_kinds k.clerks)) _ _ b _ c.self.view_is held
    (λ k. rw (← c.deref.ensures.value) c.list_clerks.ensures.answer)

pub returns-clause-looks : goal.returns-clause-looks
returns-clause-looks c = looks_kept _ _ (search rules)
